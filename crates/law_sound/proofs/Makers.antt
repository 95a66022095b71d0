-- A pass that reads or changes a unit has one before it that makes what it finds, and that is kept where it is kept.
use Rattle.std.proofs.Common.{◌≡◌, ◌⊎◌, ⊎_elim, inl, inr, ℕ, zero, suc, ◌+◌, ◌-◌, ◌<◌, ◌≤◌, ◌==◌, ◌&&◌, ◌||◌, not, Bool, true, false, List, [], ◌∷◌, ◌++◌, length, take, get_or, if◌then◌else◌, Option, Some, None, refl, sym, ap, ◌∙◌, subst, eqb-true, arith}
use Rattle.std.specs.List.{All, Contains, filter, find, list_any}
use Rattle.std.specs.Option.{option_map_or}
use Rattle.std.specs.Prelude.{slice_get}
use Rattle.std.proofs.lemmas.Bool.{and_parts, cases_Bool, false≢true, or_cases, or_left, or_right}
use Rattle.std.proofs.lemmas.List.{get_or-take, length-append, length-take, take_all}
use Rattle.std.proofs.lemmas.List.Elements.{All-nil, All-cons, All-append, Contains-append_right}
use Rattle.std.proofs.lemmas.List.Folds.{Any-from_list_any}
use Rattle.base.specs.Operands.{touches}
use Rattle.base.specs.declared.op.Op.{Op}
use Rattle.compile_record.proofs.Contained.{contains_filter, contains_map}
use Rattle.law_sound.proofs.KeptCommands.{ops_at}
use Rattle.frame.specs.Valid.{IsValid, IsValidPass, has_contents, is_import, renews, shapes_in}
use Rattle.frame.specs.Numbered.{NumberedFrame}
use Rattle.frame.specs.Uses.{starts_whole, stores_whole, writes_it}
use Rattle.frame.specs.declared.frame.Write.{Write}
use Rattle.frame.specs.declared.numbered.NumberedPass.{NumberedPass}
use Rattle.frame_cull.specs.Culled.{AreKept, Leads, here, makes_export, on}
use Rattle.frame_cull.specs.Versions.{changes, latest_maker, made, made_by, no_pass, pass_at, used, versions}

-- VERSIONS

-- it is made by pass i + p of these
record IsMade (unit i : ℕ) (passes : List NumberedPass) (o : Option ℕ) : Type 0 where
  pass : ℕ
  is : o ≡ Some (i + pass)
  within : pass < length passes
  writes : writes_it (get_or passes pass no_pass) unit ≡ true

abbrev IsBy : ℕ → ℕ → List (Write ℕ) → Option ℕ → Type 0
IsBy unit i writes o = (o ≡ Some i) × (list_any (λ w. w.what == unit) writes ≡ true)

by_each : (unit i : ℕ) (writes : List (Write ℕ)) → All (IsBy unit i writes) (made_by unit i writes)
by_each unit i [] = All-nil (IsBy unit i [])
by_each unit i (w ∷ writes) = go (w.what == unit) refl (by_each unit i writes)
  where
    rest : All (IsBy unit i writes) (made_by unit i writes) → All (IsBy unit i (w ∷ writes)) (made_by unit i writes)
    rest all k d lt = let a = all k d lt in (a.0, or_right (w.what == unit) (list_any (λ (x : Write ℕ). x.what == unit) writes) a.1)

    go : (b : Bool) → (w.what == unit) ≡ b → All (IsBy unit i writes) (made_by unit i writes) → All (IsBy unit i (w ∷ writes)) (if b then Some i ∷ made_by unit i writes else made_by unit i writes)
    go true e all = All-cons (IsBy unit i (w ∷ writes)) (Some i) (made_by unit i writes) (refl, or_left (w.what == unit) (list_any (λ (x : Write ℕ). x.what == unit) writes) e) (rest all)
    go false e all = rest all

by_some : (unit i : ℕ) (writes : List (Write ℕ)) → list_any (λ w. w.fresh && w.what == unit) writes ≡ true → 0 < length (made_by unit i writes)
by_some unit i [] e = absurd (false≢true e)
by_some unit i (w ∷ writes) e = go (w.what == unit) refl (by_some unit i writes)
  where
    go : (b : Bool) → (w.what == unit) ≡ b → (list_any (λ (x : Write ℕ). x.fresh && x.what == unit) writes ≡ true → 0 < length (made_by unit i writes)) → 0 < length (if b then Some i ∷ made_by unit i writes else made_by unit i writes)
    go true h rest = omega arith
    go false h rest = rest (⊎_elim (λ own. absurd (false≢true (sym h ∙ (and_parts w.fresh (w.what == unit) own).1))) (λ more. more) (or_cases (w.fresh && w.what == unit) (list_any (λ (x : Write ℕ). x.fresh && x.what == unit) writes) e))

made_each : (unit i : ℕ) (passes : List NumberedPass) → All (IsMade unit i passes) (made unit i passes)
made_each unit i [] = All-nil (IsMade unit i [])
made_each unit i (pass ∷ passes) = All-append (IsMade unit i (pass ∷ passes)) (made_by unit i pass.writes) (made unit (suc i) passes)
    (λ k d lt. own (get_or (made_by unit i pass.writes) k d) (by_each unit i pass.writes k d lt))
    (λ k d lt. later (get_or (made unit (suc i) passes) k d) (made_each unit (suc i) passes k d lt))
  where
    own : (o : Option ℕ) → IsBy unit i pass.writes o → IsMade unit i (pass ∷ passes) o
    own o (e, h) = let z : i ≡ i + 0 = omega arith in record { pass = 0; is = e ∙ ap (λ n. Some n) z; within = omega arith; writes = h }

    later : (o : Option ℕ) → IsMade unit (suc i) passes o → IsMade unit i (pass ∷ passes) o
    later o M = let low = M.within in let n : suc i + M.pass ≡ i + suc M.pass = omega arith in record { pass = suc M.pass; is = M.is ∙ ap (λ m. Some m) n; within = omega (arith, low); writes = M.writes }

made_some : (unit i : ℕ) (passes : List NumberedPass) → list_any (renews unit) passes ≡ true → 0 < length (made unit i passes)
made_some unit i [] e = absurd (false≢true e)
made_some unit i (pass ∷ passes) e =
    let all = length-append (made_by unit i pass.writes) (made unit (suc i) passes) in
    ⊎_elim
    (λ own. let some = by_some unit i pass.writes own in omega (arith, all, some))
    (λ more. let some = made_some unit (suc i) passes more in omega (arith, all, some))
    (or_cases (renews unit pass) (list_any (renews unit) passes) e)

-- the pass that makes what is there before pass p
pub record HasMaker (frame : NumberedFrame) (p unit : ℕ) : Type 0 where
  pub pass : ℕ
  pub is : latest_maker (versions frame p unit) ≡ Some pass
  pub before : pass < p
  pub within : pass < length frame.passes
  pub writes : writes_it (pass_at frame pass) unit ≡ true

pub has_maker : (frame : NumberedFrame) (p unit : ℕ) → is_import frame.units unit ≡ false → has_contents frame.units (take p frame.passes) unit ≡ true → HasMaker frame p unit
has_maker frame p unit none there = record {
  pass = M.pass;
  is = ap latest_maker row ∙ M.is ∙ ap (λ n. Some n) z;
  before = let low = M.within in let l = length-take p frame.passes in omega (arith, low, l);
  within = let low = M.within in let l = length-take p frame.passes in omega (arith, low, l);
  writes = subst (λ pass. writes_it pass unit ≡ true) (get_or-take p frame.passes M.pass no_pass (let low = M.within in let l = length-take p frame.passes in omega (arith, low, l))) M.writes;
}
  where
    row : versions frame p unit ≡ made unit 0 (take p frame.passes)
    row = ap (λ b. (if b then None ∷ [] else []) ++ made unit 0 (take p frame.passes)) none

    renewed : list_any (renews unit) (take p frame.passes) ≡ true
    renewed = sym (ap (λ b. b || list_any (renews unit) (take p frame.passes)) none) ∙ there

    some : 0 < length (made unit 0 (take p frame.passes))
    some = made_some unit 0 (take p frame.passes) renewed

    M : IsMade unit 0 (take p frame.passes) (latest_maker (made unit 0 (take p frame.passes)))
    M = made_each unit 0 (take p frame.passes) (length (made unit 0 (take p frame.passes)) - 1) None (let s = some in omega (arith, s))

    z : 0 + M.pass ≡ M.pass
    z = omega arith

-- KEPT PASSES

-- what a kept pass uses is made by a kept pass
pub kept_maker : (frame : NumberedFrame) (kept : List Bool) → AreKept frame kept → (p q : ℕ) → p < length frame.passes → q < length frame.passes → get_or kept q false ≡ true → Leads frame p q → get_or kept p false ≡ true
kept_maker frame kept A p q lp lq k l = ⊎_elim
    (λ e. e)
    (λ none. absurd (false≢true (sym ((A.culled q lq).1 (λ r lr way. (A.culled p lp).0 none r lr (on l way))) ∙ k)))
    (cases_Bool (get_or kept p false))

-- an operation of a kept pass before pass p touches the unit
pub record IsTouched (frame : NumberedFrame) (kept : List Bool) (p unit : ℕ) : Type 0 where
  pub pass : ℕ
  pub place : ℕ
  pub op : Op ℕ
  pub before : pass < p
  pub within : pass < length frame.passes
  pub is_kept : get_or kept pass false ≡ true
  pub at : slice_get (ops_at frame.passes pass) place ≡ Some op
  pub touches_it : touches unit op ≡ true

module _ (frame : NumberedFrame) (kept : List Bool) (good : IsValid frame) (A : AreKept frame kept) (unit : ℕ) (none : is_import frame.units unit ≡ false) where
  pub good_pass : (p : ℕ) → p < length frame.passes → IsValidPass frame (take p frame.passes) (pass_at frame p)
  good_pass p lt = good.passes_good p no_pass lt

  -- where the first operation that touches the unit stores it, there is one
  pub starts_there : (ops : List (Op ℕ)) → starts_whole (shapes_in frame) ops unit ≡ true → (i : ℕ) × (op : Op ℕ) × (slice_get ops i ≡ Some op) × (touches unit op ≡ true) × (stores_whole (shapes_in frame) unit op ≡ true) × ((e : ℕ) (other : Op ℕ) → e < i → slice_get ops e ≡ Some other → touches unit other ≡ false)
  starts_there [] e = absurd (false≢true e)
  starts_there (op ∷ ops) e = go (touches unit op) refl (starts_there ops) e
    where
      go : (b : Bool) → touches unit op ≡ b → (starts_whole (shapes_in frame) ops unit ≡ true → (i : ℕ) × (x : Op ℕ) × (slice_get ops i ≡ Some x) × (touches unit x ≡ true) × (stores_whole (shapes_in frame) unit x ≡ true) × ((e : ℕ) (other : Op ℕ) → e < i → slice_get ops e ≡ Some other → touches unit other ≡ false)) → option_map_or (stores_whole (shapes_in frame) unit) (if b then Some op else find (touches unit) ops) false ≡ true → (i : ℕ) × (x : Op ℕ) × (slice_get (op ∷ ops) i ≡ Some x) × (touches unit x ≡ true) × (stores_whole (shapes_in frame) unit x ≡ true) × ((e : ℕ) (other : Op ℕ) → e < i → slice_get (op ∷ ops) e ≡ Some other → touches unit other ≡ false)
      go true t rest h = (0, op, refl, t, h, λ k other lt at. absurd (omega (arith, lt)))
      go false t rest h =
          let r = rest h in
          (suc r.0, r.1, r.2, r.3, r.4, none_before r.0 r.5)
        where
          none_before : (i : ℕ) → ((e : ℕ) (other : Op ℕ) → e < i → slice_get ops e ≡ Some other → touches unit other ≡ false) → (e : ℕ) (other : Op ℕ) → e < suc i → slice_get (op ∷ ops) e ≡ Some other → touches unit other ≡ false
          none_before i more zero other lt at = let same : op ≡ other = cc in ap (touches unit) (sym same) ∙ t
          none_before i more (suc k) other lt at = more k other (omega (arith, lt)) at

  -- what a pass writes of the unit is new, or was there before
  pub write_cases : (p : ℕ) → p < length frame.passes → writes_it (pass_at frame p) unit ≡ true → (starts_whole (shapes_in frame) (ops_at frame.passes p) unit ≡ true) ⊎ ((has_contents frame.units (take p frame.passes) unit ≡ true) × Contains (used (pass_at frame p)) unit)
  write_cases p lt e = go (Any-from_list_any (λ (w : Write ℕ). w.what == unit) (pass_at frame p).writes e)
    where
      P : IsValidPass frame (take p frame.passes) (pass_at frame p)
      P = good_pass p lt

      go : (k : ℕ) × (w : Write ℕ) × (k < length (pass_at frame p).writes) × (get_or (pass_at frame p).writes k w ≡ w) × ((w.what == unit) ≡ true) → (starts_whole (shapes_in frame) (ops_at frame.passes p) unit ≡ true) ⊎ ((has_contents frame.units (take p frame.passes) unit ≡ true) × Contains (used (pass_at frame p)) unit)
      go (k, w, below, at, is) = ⊎_elim fresh old (cases_Bool w.fresh)
        where
          what : w.what ≡ unit
          what = eqb-true w.what unit is

          fresh : w.fresh ≡ true → (starts_whole (shapes_in frame) (ops_at frame.passes p) unit ≡ true) ⊎ ((has_contents frame.units (take p frame.passes) unit ≡ true) × Contains (used (pass_at frame p)) unit)
          fresh f = inl (subst (λ u. starts_whole (shapes_in frame) (ops_at frame.passes p) u ≡ true) what (subst (λ (x : Write ℕ). x.fresh ≡ true → starts_whole (shapes_in frame) (ops_at frame.passes p) x.what ≡ true) at (P.new_whole k w below) f))

          old : w.fresh ≡ false → (starts_whole (shapes_in frame) (ops_at frame.passes p) unit ≡ true) ⊎ ((has_contents frame.units (take p frame.passes) unit ≡ true) × Contains (used (pass_at frame p)) unit)
          old f = inr (
            subst (λ u. has_contents frame.units (take p frame.passes) u ≡ true) what (subst (λ (x : Write ℕ). x.fresh ≡ false → has_contents frame.units (take p frame.passes) x.what ≡ true) at (P.changes_there k w below) f),
            subst (λ u. Contains (used (pass_at frame p)) u) what (Contains-append_right (pass_at frame p).reads (changes (pass_at frame p).writes) w.what (contains_map (λ (x : Write ℕ). x.what) (filter (λ (x : Write ℕ). not x.fresh) (pass_at frame p).writes) w (contains_filter (λ (x : Write ℕ). not x.fresh) (pass_at frame p).writes w (k, below, at) (ap not f)))),
          )

  more_touched : (p q : ℕ) → p ≤ q → IsTouched frame kept p unit → IsTouched frame kept q unit
  more_touched p q le T = let l = T.before in record { pass = T.pass; place = T.place; op = T.op; before = omega (arith, l, le); within = T.within; is_kept = T.is_kept; at = T.at; touches_it = T.touches_it }

  -- a kept pass that writes the unit touches it, or an earlier one does
  writer_touches : (fuel p : ℕ) → p < fuel → p < length frame.passes → get_or kept p false ≡ true → writes_it (pass_at frame p) unit ≡ true → IsTouched frame kept (suc p) unit
  writer_touches zero p lf lt k w = absurd (omega (arith, lf))
  writer_touches (suc fuel) p lf lt k w = ⊎_elim
      (λ whole. let s = starts_there (ops_at frame.passes p) whole in record { pass = p; place = s.0; op = s.1; before = omega arith; within = lt; is_kept = k; at = s.2; touches_it = s.3 })
      (λ old.
      let M = has_maker frame p unit none old.0 in
      let before = M.before in
      let lead : Leads frame M.pass p = record { within = lt; unit = unit; uses = old.1; made_here = M.is } in
      more_touched (suc M.pass) (suc p) (omega (arith, before)) (writer_touches fuel M.pass (omega (arith, before, lf)) M.within (kept_maker frame kept A M.pass p M.within lt k lead) M.writes))
      (write_cases p lt w)

  -- before a kept pass that finds contents a kept one touches the unit
  pub found_touched : (p : ℕ) → p < length frame.passes → get_or kept p false ≡ true → has_contents frame.units (take p frame.passes) unit ≡ true → Contains (used (pass_at frame p)) unit → IsTouched frame kept p unit
  found_touched p lt k there uses =
      let M = has_maker frame p unit none there in
      let before = M.before in
      let lead : Leads frame M.pass p = record { within = lt; unit = unit; uses = uses; made_here = M.is } in
      more_touched (suc M.pass) p (omega (arith, before)) (writer_touches (suc M.pass) M.pass (omega arith) M.within (kept_maker frame kept A M.pass p M.within lt k lead) M.writes)

  -- and so it is before the copy of an export
  pub export_touched : has_contents frame.units frame.passes unit ≡ true → Contains frame.exports unit → IsTouched frame kept (length frame.passes) unit
  export_touched there exported =
      let all : take (length frame.passes) frame.passes ≡ frame.passes = take_all (length frame.passes) frame.passes (omega arith) in
      let M = has_maker frame (length frame.passes) unit none (subst (λ l. has_contents frame.units l unit ≡ true) (sym all) there) in
      let before = M.before in
      let own : get_or kept M.pass false ≡ true = ⊎_elim (λ e. e) (λ off. absurd ((A.culled M.pass M.within).0 off M.pass M.within here (makes_export (record { unit = unit; exported = exported; last = M.is })))) (cases_Bool (get_or kept M.pass false)) in
      more_touched (suc M.pass) (length frame.passes) (omega (arith, before)) (writer_touches (suc M.pass) M.pass (omega arith) M.within own M.writes)
