-- What the queues of passes do not change.
use Rattle.std.proofs.Common.{◌≡◌, ℕ, zero, suc, ◌+◌, ◌<◌, ◌||◌, ◌↔◌, ◌++◌, List, [], ◌∷◌, length, take, get_or, slice_get, map, ◌≤◌, ◌&&◌, Bool, true, false, Some, None, if◌then◌else◌, refl, sym, ap, ap₂, subst, ◌∙◌, arith}
use Rattle.std.specs.List.{All, Contains, list_all, list_any, sum_by}
use Rattle.std.proofs.lemmas.List.Elements.{All-cons, All-head, All-nil, All-tail}
use Rattle.std.proofs.lemmas.List.Sums.{sum_by-cons}
use Rattle.base.specs.Applied.{bytes_at}
use Rattle.base.specs.Operands.{rect_count}
use Rattle.base.specs.Runs.{runs}
use Rattle.base.specs.declared.op.Op.{Op}
use Rattle.base.specs.declared.shape.Family.{Family}
use Rattle.base.specs.declared.shape.Shape.{Shape}
use Rattle.frame.specs.Valid.{IsValid, IsValidPass, has_contents, is_import, renews, shapes_in}
use Rattle.frame.specs.Numbered.{IsWithin, NumberedFrame}
use Rattle.frame.specs.declared.numbered.NumberedPass.{NumberedPass}
use Rattle.frame_meaning.specs.Meaning.{after_ops, after_passes, first_bytes, meaning, stores_to}
use Rattle.frame_cull.specs.Culled.{AreKept, Culled, Leads, Matters, Reaches}
use Rattle.frame_cull.specs.Versions.{imported, latest_maker, made, made_by, no_pass, used, versions}
use Rattle.compile_queues.specs.Queues.{AllServe, on_queues, requeued, serves}

-- MEANING

same_bytes : (shapes : List Shape) (bytes : List (List ℕ)) (qs : List ℕ) (passes : List NumberedPass) → after_passes shapes bytes (requeued qs passes) ≡ after_passes shapes bytes passes
same_bytes shapes bytes [] passes = refl
same_bytes shapes bytes (q ∷ qs) [] = refl
same_bytes shapes bytes (q ∷ qs) (pass ∷ passes) = same_bytes shapes (after_ops shapes bytes pass.ops) qs passes

-- a test that does not look at queues
same_any : (test : NumberedPass → Bool) → ((pass : NumberedPass) (q : ℕ) → test (record pass { queue = q }) ≡ test pass) → (qs : List ℕ) (passes : List NumberedPass) → list_any test (requeued qs passes) ≡ list_any test passes
same_any test blind [] passes = refl
same_any test blind (q ∷ qs) [] = refl
same_any test blind (q ∷ qs) (pass ∷ passes) = ap₂ (λ a b. a || b) (blind pass q) (same_any test blind qs passes)

pub same_meaning : (qs : List ℕ) (frame : NumberedFrame) (unit : ℕ) → meaning (on_queues qs frame) unit ≡ meaning frame unit
same_meaning qs frame unit = ap₂ (λ b bytes. if is_import frame.units unit || b then Some (bytes_at bytes unit) else None) (same_any (stores_to unit) (λ pass q. refl) qs frame.passes) (same_bytes (shapes_in frame) (map first_bytes frame.units) qs frame.passes)

-- CULLING

pub same_length : (qs : List ℕ) (passes : List NumberedPass) → length (requeued qs passes) ≡ length passes
same_length [] passes = refl
same_length (q ∷ qs) [] = refl
same_length (q ∷ qs) (pass ∷ passes) = ap suc (same_length qs passes)

same_made : (unit i p : ℕ) (qs : List ℕ) (passes : List NumberedPass) → made unit i (take p (requeued qs passes)) ≡ made unit i (take p passes)
same_made unit i p [] passes = refl
same_made unit i p (q ∷ qs) [] = refl
same_made unit i zero (q ∷ qs) (pass ∷ passes) = refl
same_made unit i (suc p) (q ∷ qs) (pass ∷ passes) = ap (λ row. made_by unit i pass.writes ++ row) (same_made unit (suc i) p qs passes)

-- what does not look at queues, of one pass
pub same_of : {X : Type 0} (f : NumberedPass → X) → ((pass : NumberedPass) (q : ℕ) → f (record pass { queue = q }) ≡ f pass) → (p : ℕ) (qs : List ℕ) (passes : List NumberedPass) → f (get_or (requeued qs passes) p no_pass) ≡ f (get_or passes p no_pass)
same_of f blind p [] passes = refl
same_of f blind p (q ∷ qs) [] = refl
same_of f blind zero (q ∷ qs) (pass ∷ passes) = blind pass q
same_of f blind (suc p) (q ∷ qs) (pass ∷ passes) = same_of f blind p qs passes

module _ (qs : List ℕ) (frame : NumberedFrame) where
  abbrev other : NumberedFrame
  other = on_queues qs frame

  same_versions : (p unit : ℕ) → versions other p unit ≡ versions frame p unit
  same_versions p unit = ap (λ row. imported frame unit ++ row) (same_made unit 0 p qs frame.passes)

  pub last_versions : (unit : ℕ) → versions other (length other.passes) unit ≡ versions frame (length frame.passes) unit
  last_versions unit = same_versions (length other.passes) unit ∙ ap (λ p. versions frame p unit) (same_length qs frame.passes)

  leads_to : (p q : ℕ) → Leads frame p q → Leads other p q
  leads_to p q L = record {
    within = subst (λ n. q < n) (sym (same_length qs frame.passes)) L.within;
    unit = L.unit;
    uses = subst (λ us. Contains us L.unit) (sym (same_of used (λ pass k. refl) q qs frame.passes)) L.uses;
    made_here = ap latest_maker (same_versions q L.unit) ∙ L.made_here;
  }

  leads_from : (p q : ℕ) → Leads other p q → Leads frame p q
  leads_from p q L = record {
    within = subst (λ n. q < n) (same_length qs frame.passes) L.within;
    unit = L.unit;
    uses = subst (λ us. Contains us L.unit) (same_of used (λ pass k. refl) q qs frame.passes) L.uses;
    made_here = sym (ap latest_maker (same_versions q L.unit)) ∙ L.made_here;
  }

  reaches_to : (p q : ℕ) → Reaches frame p q → Reaches other p q
  reaches_to p q (Reaches.here) = Reaches.here
  reaches_to p q (Reaches.on {p = a} {q = b} {r = c} L R) = Reaches.on (leads_to a b L) (reaches_to b c R)

  reaches_from : (p q : ℕ) → Reaches other p q → Reaches frame p q
  reaches_from p q (Reaches.here) = Reaches.here
  reaches_from p q (Reaches.on {p = a} {q = b} {r = c} L R) = Reaches.on (leads_from a b L) (reaches_from b c R)

  same_effect : (p : ℕ) → (get_or other.passes p no_pass).side_effect ≡ (get_or frame.passes p no_pass).side_effect
  same_effect p = same_of (λ pass. pass.side_effect) (λ pass k. refl) p qs frame.passes

  matters_to : (p : ℕ) → Matters frame p → Matters other p
  matters_to p (Matters.has_effect e) = Matters.has_effect (same_effect p ∙ e)
  matters_to p (Matters.makes_export M) = Matters.makes_export (record { unit = M.unit; exported = M.exported; last = ap latest_maker (last_versions M.unit) ∙ M.last })

  matters_from : (p : ℕ) → Matters other p → Matters frame p
  matters_from p (Matters.has_effect e) = Matters.has_effect (sym (same_effect p) ∙ e)
  matters_from p (Matters.makes_export M) = Matters.makes_export (record { unit = M.unit; exported = M.exported; last = sym (ap latest_maker (last_versions M.unit)) ∙ M.last })

  pub same_culled : (p : ℕ) → Culled other p ↔ Culled frame p
  same_culled p = (
    (λ culled. λ q lt R M. culled q (subst (λ n. q < n) (sym (same_length qs frame.passes)) lt) (reaches_to p q R) (matters_to q M)),
    (λ culled. λ q lt R M. culled q (subst (λ n. q < n) (same_length qs frame.passes) lt) (reaches_from p q R) (matters_from q M)),
  )

  pub same_kept : (kept : List Bool) → AreKept frame kept → AreKept other kept
  same_kept kept K = record {
    count = K.count ∙ sym (same_length qs frame.passes);
    culled = λ p lt.
        let at = K.culled p (subst (λ n. p < n) (same_length qs frame.passes) lt) in
        ((λ e. (same_culled p).1 (at.0 e)), (λ culled. at.1 ((same_culled p).0 culled)));
  }

-- GOOD FRAMES

pub served : (queues : List Family) (pass : NumberedPass) (q : ℕ) → serves queues pass q ≡ true → (q < length queues) × ((family : Family) → slice_get queues q ≡ Some family → list_all (λ op. runs op family) pass.ops ≡ true)
served [] pass q e = absurd cc
served (f ∷ queues) pass zero e = (omega arith, (λ family is. let same : f ≡ family = cc in subst (λ g. list_all (λ op. runs op g) pass.ops ≡ true) same e))
served (f ∷ queues) pass (suc q) e = let rest = served queues pass q e in (let lt : q < length queues = rest.0 in omega arith, rest.1)

all_run : (family : Family) (ops : List (Op ℕ)) → list_all (λ op. runs op family) ops ≡ true → All (λ op. runs op family ≡ true) ops
all_run family [] e = All-nil (λ op. runs op family ≡ true)
all_run family (op ∷ ops) e = by_test (runs op family) refl e (λ rest. all_run family ops rest)
  where
    by_test : (b : Bool) → runs op family ≡ b → (b && list_all (λ o. runs o family) ops) ≡ true → (list_all (λ o. runs o family) ops ≡ true → All (λ o. runs o family ≡ true) ops) → All (λ o. runs o family ≡ true) (op ∷ ops)
    by_test true is e rest = All-cons (λ o. runs o family ≡ true) op ops is (rest e)
    by_test false is e rest = absurd cc

-- of each pass and what stands in its place
each_requeued : (queues : List Family) (P : NumberedPass → NumberedPass → Type 0) → ((pass : NumberedPass) → P pass pass) → ((pass : NumberedPass) (q : ℕ) → serves queues pass q ≡ true → P pass (record pass { queue = q })) → (qs : List ℕ) (passes : List NumberedPass) → AllServe queues qs passes → (p : ℕ) (d : NumberedPass) → p < length passes → P (get_or passes p d) (get_or (requeued qs passes) p d)
each_requeued queues P same moved [] passes serve p d lt = same (get_or passes p d)
each_requeued queues P same moved (q ∷ qs) [] serve p d lt = absurd (omega arith)
each_requeued queues P same moved (q ∷ qs) (pass ∷ passes) serve zero d lt = moved pass q serve.0
each_requeued queues P same moved (q ∷ qs) (pass ∷ passes) serve (suc p) d lt = each_requeued queues P same moved qs passes serve.1 p d (omega arith)

any_before : (test : NumberedPass → Bool) → ((pass : NumberedPass) (q : ℕ) → test (record pass { queue = q }) ≡ test pass) → (qs : List ℕ) (passes : List NumberedPass) (p : ℕ) → list_any test (take p (requeued qs passes)) ≡ list_any test (take p passes)
any_before test blind [] passes p = refl
any_before test blind (q ∷ qs) [] p = refl
any_before test blind (q ∷ qs) (pass ∷ passes) zero = refl
any_before test blind (q ∷ qs) (pass ∷ passes) (suc p) = ap₂ (λ a b. a || b) (blind pass q) (any_before test blind qs passes p)

same_sum : (f : NumberedPass → ℕ) → ((pass : NumberedPass) (q : ℕ) → f (record pass { queue = q }) ≡ f pass) → (qs : List ℕ) (passes : List NumberedPass) → sum_by f (requeued qs passes) ≡ sum_by f passes
same_sum f blind [] passes = refl
same_sum f blind (q ∷ qs) [] = refl
same_sum f blind (q ∷ qs) (pass ∷ passes) = sum_by-cons f (record pass { queue = q }) (requeued qs passes) ∙ ap₂ (λ a b. a + b) (blind pass q) (same_sum f blind qs passes) ∙ sym (sum_by-cons f pass passes)

module _ (frame : NumberedFrame) (qs : List ℕ) (before others : List NumberedPass) (same : (x : ℕ) → list_any (renews x) others ≡ list_any (renews x) before) where
  there : (x : ℕ) → has_contents frame.units before x ≡ true → has_contents frame.units others x ≡ true
  there x h = ap (λ b. is_import frame.units x || b) (same x) ∙ h

  good_pass : (pass : NumberedPass) (q : ℕ) → serves frame.queues pass q ≡ true → IsValidPass frame before pass → IsValidPass (on_queues qs frame) others (record pass { queue = q })
  good_pass pass q e G = record {
    reads_there = λ k d lt. there (get_or pass.reads k d) (G.reads_there k d lt);
    changes_there = λ k d lt. λ old. there (get_or pass.writes k d).what (G.changes_there k d lt old);
    new_whole = G.new_whole;
    new_unread = G.new_unread;
    ops_good = λ k d lt. record {
      on_queue = λ family is. all_run family pass.ops ((served frame.queues pass q e).1 family is) k d lt;
      declared_sources = (G.ops_good k d lt).declared_sources;
      declared_destination = (G.ops_good k d lt).declared_destination;
      fitting = (G.ops_good k d lt).fitting;
      not_in_place = (G.ops_good k d lt).not_in_place;
    };
  }

  same_pass : (pass : NumberedPass) → IsValidPass frame before pass → IsValidPass (on_queues qs frame) others pass
  same_pass pass G = record {
    reads_there = λ k d lt. there (get_or pass.reads k d) (G.reads_there k d lt);
    changes_there = λ k d lt. λ old. there (get_or pass.writes k d).what (G.changes_there k d lt old);
    new_whole = G.new_whole;
    new_unread = G.new_unread;
    ops_good = λ k d lt. record {
      on_queue = (G.ops_good k d lt).on_queue;
      declared_sources = (G.ops_good k d lt).declared_sources;
      declared_destination = (G.ops_good k d lt).declared_destination;
      fitting = (G.ops_good k d lt).fitting;
      not_in_place = (G.ops_good k d lt).not_in_place;
    };
  }

within_all : (queues : List Family) (units : ℕ) (qs : List ℕ) (passes : List NumberedPass) → AllServe queues qs passes → All (IsWithin (length queues) units) passes → All (IsWithin (length queues) units) (requeued qs passes)
within_all queues units [] passes serve all = all
within_all queues units (q ∷ qs) [] serve all = all
within_all queues units (q ∷ qs) (pass ∷ passes) serve all =
    let here = All-head (IsWithin (length queues) units) pass passes all in
    All-cons (IsWithin (length queues) units) (record pass { queue = q }) (requeued qs passes) (record { queue = (served queues pass q serve.0).0; reads = here.reads; writes = here.writes; ops = here.ops }) (within_all queues units qs passes serve.1 (All-tail (IsWithin (length queues) units) pass passes all))

-- passes on queues that serve them are good where they were
pub good_on_queues : (frame : NumberedFrame) (qs : List ℕ) → AllServe frame.queues qs frame.passes → IsValid frame → IsValid (on_queues qs frame)
good_on_queues frame qs serve G = record {
  some_queue = G.some_queue;
  few_queues = G.few_queues;
  few_passes = subst (λ n. n ≤ 256) (sym (same_length qs frame.passes)) G.few_passes;
  few_units = G.few_units;
  few_exports = G.few_exports;
  few_ops = subst (λ n. n ≤ 256) (sym (same_sum (λ pass. length pass.ops) (λ pass q. refl) qs frame.passes)) G.few_ops;
  few_rects = subst (λ n. n ≤ 4096) (sym (same_sum (λ pass. sum_by rect_count pass.ops) (λ pass q. refl) qs frame.passes)) G.few_rects;
  few_bytes = G.few_bytes;
  sides = G.sides;
  sized = G.sized;
  imports_fit = G.imports_fit;
  within = within_all frame.queues (length frame.units) qs frame.passes serve G.within;
  passes_good = λ p d lt.
      let few : p < length frame.passes = subst (λ n. p < n) (same_length qs frame.passes) lt in
      let same : (x : ℕ) → list_any (renews x) (take p (requeued qs frame.passes)) ≡ list_any (renews x) (take p frame.passes) = λ x. any_before (renews x) (λ pass q. refl) qs frame.passes p in
      let before = take p frame.passes in
      let others = take p (requeued qs frame.passes) in
      each_requeued frame.queues (λ old new. IsValidPass frame before old → IsValidPass (on_queues qs frame) others new) (same_pass frame qs before others same) (good_pass frame qs before others same) qs frame.passes serve p d few (G.passes_good p d few);
  exports_within = G.exports_within;
  exports_there = λ k d lt. ap (λ b. is_import frame.units (get_or frame.exports k d) || b) (same_any (renews (get_or frame.exports k d)) (λ pass q. refl) qs frame.passes) ∙ G.exports_there k d lt;
  exports_once = G.exports_once;
}
