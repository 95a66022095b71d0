-- The best queue, one queue further; and costs are unique.
use Rattle.std.proofs.Common.{◌≡◌, ◌≢◌, ◌⊎◌, inl, inr, ℕ, ◌+◌, ◌<◌, ◌≤◌, Bool, true, false, List, length, get_or, slice_set, refl, sym, ap, subst, ◌∙◌, arith, ⊎_elim}
use Rattle.std.proofs.lemmas.Bool.{cases_eq, cases_lt}
use Rattle.std.specs.List.{All}
use Rattle.std.proofs.lemmas.List.{ext_get_or, length-set, set-get_or}
use Rattle.std.proofs.lemmas.List.Elements.{All-set}
use Rattle.compile_queues.specs.Choice.{Costs, IsPick}
use Rattle.compile_queues.specs.Internal.Best.{IsBest, IsBestFor}
use Rattle.compile_queues.specs.Cost.{IsCost, IsFrameCost, costs}
use Rattle.compile_queues.specs.Queues.{on_queues, serves}
use Rattle.compile_queues.proofs.Requeued.{served}
use Rattle.frame.specs.Numbered.{NumberedFrame}
use Rattle.compile_groups.specs.Groups.{grouping}
use Rattle.compile_groups.specs.Needs.{leads}
use Rattle.frame_cull.specs.Culled.{AreKept}
use Rattle.frame_cull.specs.Versions.{pass_at}

-- A FRAME HAS ONE COST

one_cost : (step : ℕ → ℕ → Bool) (costs : List ℕ) (a b : ℕ) → IsCost step costs a → IsCost step costs b → a ≡ b
one_cost step costs a b A B =
    let up = B.greatest A.path A.within A.is_path in
    let down = A.greatest B.path B.within B.is_path in
    let first = A.sum in
    let second = B.sum in
    omega (arith, up, down, first, second)

same_flag : (a b : Bool) {P : Type 0} → ((a ≡ false → P) × (P → a ≡ false)) → ((b ≡ false → P) × (P → b ≡ false)) → a ≡ b
same_flag true true A B = refl
same_flag true false A B = absurd (no (A.1 (B.0 refl)))
  where
    no : true ≡ false → ⊥
    no e = cc
same_flag false true A B = absurd (no (B.1 (A.0 refl)))
  where
    no : true ≡ false → ⊥
    no e = cc
same_flag false false A B = refl

one_kept : (frame : NumberedFrame) (a b : List Bool) → AreKept frame a → AreKept frame b → a ≡ b
one_kept frame a b A B = ext_get_or false a b (A.count ∙ sym B.count) (λ p lt. let less = subst (λ n. p < n) A.count lt in same_flag (get_or a p false) (get_or b p false) (A.culled p less) (B.culled p less))

pub unique : (frame : NumberedFrame) (a b : ℕ) → IsFrameCost frame a → IsFrameCost frame b → a ≡ b
unique frame a b A B =
    let same = one_kept frame B.kept A.kept B.are_kept A.are_kept in
    one_cost (leads (grouping frame A.kept)) (costs (grouping frame A.kept)) a b A.is_cost (subst (λ kept. IsCost (leads (grouping frame kept)) (costs (grouping frame kept)) b) same B.is_cost)

-- QUEUE BY QUEUE

module _ (runs : ℕ → Bool) (priced : ℕ → ℕ → Type 0) (one : (q a b : ℕ) → priced q a → priced q b → a ≡ b) (present : ℕ) where
  -- the present queue alone
  pub best_none : (cost : ℕ) → runs present ≡ true → priced present cost → IsBest runs priced present 0 present cost
  best_none cost runs_it is = record {
    runs_it = runs_it;
    is_cost = is;
    seen = inl refl;
    least = λ other more seen r C. ⊎_elim (λ (e : other ≡ present). let same : cost ≡ more = one present cost more is (subst (λ q. priced q more) e C) in omega arith) (λ (lt : other < 0). absurd (omega arith)) seen;
    first = λ other seen r C. inl refl;
  }

  split : (bound other : ℕ) → (other ≡ present) ⊎ (other < bound + 1) → ((other ≡ present) ⊎ (other < bound)) ⊎ ((other ≡ bound) × (other ≢ present))
  split bound other (inl e) = inl (inl e)
  split bound other (inr lt) = ⊎_elim (λ less. inl (inr less)) (λ ge. ⊎_elim (λ e. inl (inl e)) (λ ne. inr (omega (arith, lt, ge), ne)) (cases_eq other present)) (cases_lt other bound)

  -- a queue that is passed over: it is the present one, or does not run the pass
  pub best_skip : (bound queue cost : ℕ) → (bound ≢ present → runs bound ≡ false) → IsBest runs priced present bound queue cost → IsBest runs priced present (bound + 1) queue cost
  best_skip bound queue cost skipped B = record {
    runs_it = B.runs_it;
    is_cost = B.is_cost;
    seen = ⊎_elim (λ e. inl e) (λ lt. inr (omega (arith, lt))) B.seen;
    least = λ other more seen r C. ⊎_elim (λ old. B.least other more old r C) (λ new. absurd (never other new r)) (split bound other seen);
    first = λ other seen r C. ⊎_elim (λ old. B.first other old r C) (λ new. absurd (never other new r)) (split bound other seen);
  }
    where
      no : true ≡ false → ⊥
      no e = cc

      never : (other : ℕ) → (other ≡ bound) × (other ≢ present) → runs other ≡ true → ⊥
      never other new r = no (sym r ∙ ap runs new.0 ∙ skipped (λ e. new.1 (new.0 ∙ e)))

  -- a queue that costs no less
  pub best_keep : (bound queue cost tried : ℕ) → priced bound tried → cost ≤ tried → IsBest runs priced present bound queue cost → IsBest runs priced present (bound + 1) queue cost
  best_keep bound queue cost tried is le B = record {
    runs_it = B.runs_it;
    is_cost = B.is_cost;
    seen = ⊎_elim (λ e. inl e) (λ lt. inr (omega (arith, lt))) B.seen;
    least = λ other more seen r C. ⊎_elim (λ old. B.least other more old r C) (λ (new : (other ≡ bound) × (other ≢ present)). let same : tried ≡ more = one bound tried more is (subst (λ q. priced q more) new.0 C) in omega arith) (split bound other seen);
    first = λ other seen r C. ⊎_elim (λ old. B.first other old r C) (λ (new : (other ≡ bound) × (other ≢ present)). ⊎_elim (λ e. inl e) (λ (lt : queue < bound). inr (new.1, (let at = new.0 in omega (arith, at, lt)))) B.seen) (split bound other seen);
  }

  -- a queue that costs less
  pub best_take : (bound queue cost tried : ℕ) → runs bound ≡ true → bound ≢ present → priced bound tried → tried < cost → IsBest runs priced present bound queue cost → IsBest runs priced present (bound + 1) bound tried
  best_take bound queue cost tried r ne is less B = record {
    runs_it = r;
    is_cost = is;
    seen = inr (omega arith);
    least = λ other more seen ro C. ⊎_elim (λ old. let le = B.least other more old ro C in omega (arith, le, less)) (λ (new : (other ≡ bound) × (other ≢ present)). let same : tried ≡ more = one bound tried more is (subst (λ q. priced q more) new.0 C) in omega arith) (split bound other seen);
    first = λ other seen ro C. ⊎_elim (λ old. absurd (let le = B.least other tried old ro C in omega (arith, le, less))) (λ (new : (other ≡ bound) × (other ≢ present)). inr (new.1, (let at = new.0 in omega (arith, at)))) (split bound other seen);
  }

-- OF A PASS

-- nothing changes where a pass gets the queue that it has
pub stays : (qs : List ℕ) (p : ℕ) → slice_set qs p (get_or qs p 0) ≡ qs
stays qs p = set-get_or qs p 0

-- the best of all queues is the pick
pub picked : (frame : NumberedFrame) (qs : List ℕ) (p bound q cost : ℕ) → length frame.queues ≤ bound → IsBestFor frame qs p bound q cost → IsPick frame qs p q
picked frame qs p bound q cost all B = record {
  runs = B.runs_it;
  cost = cost;
  is_cost = B.is_cost;
  least = λ other more r C. B.least other more (inr (below other r)) r C;
  first = λ other r C. B.first other (inr (below other r)) r C;
}
  where
    below : (other : ℕ) → serves frame.queues (pass_at frame p) other ≡ true → other < bound
    below other r = let lt : other < length frame.queues = (served frame.queues (pass_at frame p) other r).0 in omega (arith, all)

module _ (frame : NumberedFrame) (qs : List ℕ) (p : ℕ) where
  abbrev does_run : ℕ → Bool
  does_run q = serves frame.queues (pass_at frame p) q

  one_price : (q a b : ℕ) → Costs frame qs p q a → Costs frame qs p q b → a ≡ b
  one_price q a b A B = unique (on_queues (slice_set qs p q) frame) a b A B

  -- the present queue alone
  pub first_best : (cost : ℕ) → does_run (get_or qs p 0) ≡ true → IsFrameCost (on_queues qs frame) cost → IsBestFor frame qs p 0 (get_or qs p 0) cost
  first_best cost r C = best_none does_run (Costs frame qs p) one_price (get_or qs p 0) cost r (subst (λ list. IsFrameCost (on_queues list frame) cost) (sym (stays qs p)) C)

  pub present_again : (bound queue cost : ℕ) → bound ≡ get_or qs p 0 → IsBestFor frame qs p bound queue cost → IsBestFor frame qs p (bound + 1) queue cost
  present_again bound queue cost same B = best_skip does_run (Costs frame qs p) one_price (get_or qs p 0) bound queue cost (λ ne. absurd (ne same)) B

  pub not_run : (bound queue cost : ℕ) (b : Bool) → b ≡ does_run bound → b ≡ false → IsBestFor frame qs p bound queue cost → IsBestFor frame qs p (bound + 1) queue cost
  not_run bound queue cost b is fails B = best_skip does_run (Costs frame qs p) one_price (get_or qs p 0) bound queue cost (λ ne. sym is ∙ fails) B

  pub kept_best : (bound queue cost price : ℕ) → Costs frame qs p bound price → cost ≤ price → IsBestFor frame qs p bound queue cost → IsBestFor frame qs p (bound + 1) queue cost
  kept_best bound queue cost price C le B = best_keep does_run (Costs frame qs p) one_price (get_or qs p 0) bound queue cost price C le B

  pub new_best : (bound queue cost price : ℕ) (b : Bool) → (bound ≡ get_or qs p 0 → ⊥) → b ≡ does_run bound → b ≡ true → Costs frame qs p bound price → price < cost → IsBestFor frame qs p bound queue cost → IsBestFor frame qs p (bound + 1) bound price
  new_best bound queue cost price b ne is holds C less B = best_take does_run (Costs frame qs p) one_price (get_or qs p 0) bound queue cost price (sym is ∙ holds) ne C less B

-- with one pass on another queue

pub set_below : (qs moved : List ℕ) (p q n : ℕ) → All (λ k. k < n) qs → q < n → moved ≡ slice_set qs p q → All (λ k. k < n) moved
set_below qs moved p q n all lt is = subst (All (λ k. k < n)) (sym is) (All-set (λ k. k < n) qs p q lt all)

pub set_count : (qs moved : List ℕ) (p q n : ℕ) → length qs ≡ n → moved ≡ slice_set qs p q → length moved ≡ n
set_count qs moved p q n size is = ap length is ∙ length-set qs p q ∙ size
