-- One step of a walk.
use Rattle.std.proofs.Common.{◌≡◌, ◌≢◌, ◌⊎◌, inl, inr, ℕ, suc, ◌+◌, ◌<◌, ◌≤◌, ◌==◌, ◌&&◌, ◌||◌, max, nat_lt, if◌then◌else◌, Bool, true, false, List, length, get_or, set, Some, refl, sym, ap, ◌∙◌, subst, eq-eqb, add-one, arith}
use Rattle.std.specs.Option.{option_map_or}
use Rattle.std.specs.Prelude.{slice_get}
use Rattle.std.proofs.Math.ListN.{length-set}
use Rattle.std.proofs.Math.Nat.{max-eq_right}
use Rattle.std.proofs.lemmas.Bool.{cases_eq, false≢true, ne_eqb}
use Rattle.std.proofs.lemmas.List.{get_or-set_same, get_or-set_other}
use Rattle.std.proofs.lemmas.Option.{slice_get_read}
use Rattle.compile_timeline.proofs.Below.{same_any}
use Rattle.compile_timeline.proofs.Latest.{item_within, latest_same, latest_low}
use Rattle.compile_timeline.specs.Below.{any_below}
use Rattle.compile_timeline.specs.Internal.Walks.{is_for, Knows, NeedsBelow}
use Rattle.compile_timeline.specs.Signals.{awaited_by}
use Rattle.compile_timeline.specs.Steps.{queue_of, queue_at, is_item, has_item, IsScript}
use Rattle.compile_timeline.specs.Waits.{wanted, latest, last_item, waits_for}
use Rattle.compile_timeline.specs.declared.needs.Needs.{Needs}
use Rattle.compile_timeline.specs.declared.step.Step.{Step}
use Rattle.compile_timeline.specs.declared.step.Step.TheVariants.{Item, Need}

pub knows_below : (script : List Step) (q i n : ℕ) (needs : Needs) → Knows script q i needs → i ≤ n → NeedsBelow n needs
knows_below script q i n needs K le = record {
  size = K.size;
  below = λ p lt. let e = K.needed p lt in let l = latest_low script (length needs.latest) q p i K.steps in omega (arith, e, l, le);
}

-- QUEUES OF STEPS

pub step_there : (script : List Step) (i : ℕ) (step what : Step) → i < length script → step ≡ get_or script i step → step ≡ what → slice_get script i ≡ Some what
step_there script i step what lt here is = slice_get_read script (length script) i step refl lt here ∙ ap Some is

pub queue_here : (script : List Step) (i : ℕ) (step : Step) → i < length script → step ≡ get_or script i step → queue_at script i ≡ queue_of step
queue_here script i step lt e = ap (λ o. option_map_or queue_of o 0) (slice_get_read script (length script) i step refl lt e)

pub has_here : (script : List Step) (q i : ℕ) (step : Step) → i < length script → step ≡ get_or script i step → has_item script q i ≡ is_item q step
has_here script q i step lt e = ap (λ o. option_map_or (is_item q) o false) (slice_get_read script (length script) i step refl lt e)

-- the step that is needed is of a queue that is there
pub need_queue : (script : List Step) (q i j : ℕ) (needs : Needs) (step : Step) → Knows script q i needs → slice_get script i ≡ Some (Need q j) → step ≡ get_or script j step → (queue_of step ≡ queue_at script j) × (queue_of step < length needs.latest)
need_queue script q i j needs step K e is = (sym same, subst (λ z. z < length needs.latest) same (K.steps.items j (queue_at script j) here))
  where
    here : has_item script (queue_at script j) j ≡ true
    here = K.steps.needed i q j e

    same : queue_at script j ≡ queue_of step
    same = queue_here script j step (item_within script (queue_at script j) j here) is

-- ON OVER ONE STEP

last_none : (script : List Step) (q i : ℕ) → has_item script q i ≡ false → last_item script q (suc i) ≡ last_item script q i
last_none script q i h = ap (λ z. if z then suc i else last_item script q i) h

last_here : (script : List Step) (q i : ℕ) → has_item script q i ≡ true → last_item script q (suc i) ≡ suc i
last_here script q i h = ap (λ z. if z then suc i else last_item script q i) h

-- a need of the queue
pub over_need : (script : List Step) (q i j : ℕ) (old new : Needs) → Knows script q i old → slice_get script i ≡ Some (Need q j) → new.latest ≡ set old.latest (queue_at script j) (max (j + 1) (get_or old.latest (queue_at script j) 0)) → new.stood ≡ old.stood → Knows script q (i + 1) new
over_need script q i j old new K e raised same = rw add-one (record {
  steps = subst (λ n. IsScript script n) (sym size) K.steps;
  size = ap length same ∙ K.size ∙ sym size;
  needed = λ p lt. at p (omega (arith, lt, size)) (cases_eq p (queue_at script j));
  settled = λ p lt. ap (λ l. get_or l p 0) same ∙ K.settled p (omega (arith, lt, size)) ∙ ap (latest script q p) (sym (last_none script q i (ap (λ o. option_map_or (is_item q) o false) e)));
})
  where
    size : length new.latest ≡ length old.latest
    size = ap length raised ∙ length-set old.latest (queue_at script j) (max (j + 1) (get_or old.latest (queue_at script j) 0))

    here : (p : ℕ) → latest script q p (suc i) ≡ max (if (q == q) && (queue_at script j == p) then suc j else 0) (latest script q p i)
    here p = ap (λ o. max (option_map_or (wanted script q p) o 0) (latest script q p i)) e

    apart : (p : ℕ) → p ≢ queue_at script j → (queue_at script j == p) ≡ false
    apart p ne = ne_eqb (queue_at script j) p (λ e. ne (sym e))

    own : (q == q) ≡ true
    own = eq-eqb q q refl

    at : (p : ℕ) → p < length old.latest → (p ≡ queue_at script j) ⊎ (p ≡ queue_at script j → ⊥) → get_or new.latest p 0 ≡ latest script q p (suc i)
    at p lt (inr ne) =
        ap (λ l. get_or l p 0) raised
        ∙ get_or-set_other old.latest (queue_at script j) p (max (j + 1) (get_or old.latest (queue_at script j) 0)) 0 ne
        ∙ K.needed p lt
        ∙ sym (here p ∙ ap (λ b. max (if b && (queue_at script j == p) then suc j else 0) (latest script q p i)) own ∙ ap (λ b. max (if b then suc j else 0) (latest script q p i)) (apart p ne) ∙ max-eq_right (omega arith))
    at p lt (inl is) =
        let add : j + 1 ≡ suc j = omega arith in
        let there : queue_at script j < length old.latest = subst (λ z. z < length old.latest) is lt in
        ap (λ l. get_or l p 0) raised
        ∙ ap (λ z. get_or (set old.latest (queue_at script j) (max (j + 1) (get_or old.latest (queue_at script j) 0))) z 0) is
        ∙ get_or-set_same old.latest (queue_at script j) (max (j + 1) (get_or old.latest (queue_at script j) 0)) 0 there
        ∙ ap (λ z. max z (get_or old.latest (queue_at script j) 0)) add
        ∙ ap (λ z. max (suc j) (get_or old.latest z 0)) (sym is)
        ∙ ap (λ z. max (suc j) z) (K.needed p lt)
        ∙ sym (here p ∙ ap (λ b. max (if b && (queue_at script j == p) then suc j else 0) (latest script q p i)) own ∙ ap (λ b. max (if b then suc j else 0) (latest script q p i)) (eq-eqb (queue_at script j) p (sym is)))

-- an item of the queue
pub over_item : (script : List Step) (q i : ℕ) (step : Step) (old new : Needs) → Knows script q i old → slice_get script i ≡ Some step → is_item q step ≡ true → new.latest ≡ old.latest → length new.stood ≡ length old.latest → ((p : ℕ) → p < length old.latest → get_or new.stood p 0 ≡ get_or old.latest p 0) → Knows script q (i + 1) new
over_item script q i step old new K e t same size settled = rw add-one (record {
  steps = subst (λ n. IsScript script n) (sym (ap length same)) K.steps;
  size = size ∙ sym (ap length same);
  needed = λ p lt. ap (λ l. get_or l p 0) same ∙ now p (within p lt);
  settled = λ p lt. settled p (within p lt) ∙ now p (within p lt) ∙ ap (latest script q p) (sym (last_here script q i has));
})
  where
    within : (p : ℕ) → p < length new.latest → p < length old.latest
    within p lt = subst (λ l. p < length l) same lt

    has : has_item script q i ≡ true
    has = ap (λ o. option_map_or (is_item q) o false) e ∙ t

    none : (p : ℕ) (s : Step) → is_item q s ≡ true → wanted script q p s ≡ 0
    none p (Item r item) h = refl
    none p (Need r j) h = absurd (false≢true h)

    now : (p : ℕ) → p < length old.latest → get_or old.latest p 0 ≡ latest script q p (suc i)
    now p lt = K.needed p lt ∙ sym (latest_same script q p i (ap (λ o. option_map_or (wanted script q p) o 0) e ∙ none p step t))

abbrev IsOwnNeed : ℕ → Step → Type 0
IsOwnNeed q (Item r item) = ⊥
IsOwnNeed q (Need r j) = r ≡ q

-- a step that is nothing to the queue
pub over_other : (script : List Step) (q i : ℕ) (step : Step) (old new : Needs) → Knows script q i old → slice_get script i ≡ Some step → is_item q step ≡ false → (IsOwnNeed q step → ⊥) → new ≡ old → Knows script q (i + 1) new
over_other script q i step old new K e f other same = rw add-one (subst (λ z. Knows script q (suc i) z) (sym same) (record {
  steps = K.steps;
  size = K.size;
  needed = λ p lt. K.needed p lt ∙ sym (latest_same script q p i (ap (λ o. option_map_or (wanted script q p) o 0) e ∙ none p step other));
  settled = λ p lt. K.settled p lt ∙ ap (latest script q p) (sym (last_none script q i (ap (λ o. option_map_or (is_item q) o false) e ∙ f)));
}))
  where
    none : (p : ℕ) (s : Step) → (IsOwnNeed q s → ⊥) → wanted script q p s ≡ 0
    none p (Item r item) h = refl
    none p (Need r j) h = ap (λ b. if b && (queue_at script j == p) then suc j else 0) (ne_eqb r q h)

-- MARKS

pub same_waits : (script : List Step) (q i p j : ℕ) (needs : Needs) → Knows script q i needs → p < length needs.latest → is_for needs j p ≡ waits_for script j q i p
same_waits script q i p j needs K lt = ap (λ z. nat_lt (get_or needs.stood p 0) z && (z == suc j)) (K.needed p lt) ∙ ap (λ z. nat_lt z (latest script q p i) && (latest script q p i == suc j)) (K.settled p lt)

-- the waits before an item are marked
pub marked_item : (script : List Step) (q i count j : ℕ) (needs : Needs) (old new first : Bool) → Knows script q i needs → count ≡ length needs.latest → has_item script q i ≡ true → old ≡ (awaited_by script count j q i || first) → new ≡ (any_below (is_for needs j) count || old) → new ≡ (awaited_by script count j q (i + 1) || first)
marked_item script q i count j needs old new first K size h before marked = rw add-one (
    marked
    ∙ ap (λ b. b || old) (same_any (is_for needs j) (waits_for script j q i) count (λ p lt. same_waits script q i p j needs K (omega (arith, lt, size))))
    ∙ ap (λ b. any_below (waits_for script j q i) count || b) before
    ∙ or_assoc (any_below (waits_for script j q i) count) (awaited_by script count j q i) first
    ∙ ap (λ b. ((b && any_below (waits_for script j q i) count) || awaited_by script count j q i) || first) (sym h))
  where
    or_assoc : (a b c : Bool) → (a || (b || c)) ≡ ((a || b) || c)
    or_assoc true b c = refl
    or_assoc false b c = refl

-- another step marks nothing
pub marked_none : (script : List Step) (q i count j : ℕ) (first : Bool) → has_item script q i ≡ false → awaited_by script count j q (i + 1) ≡ awaited_by script count j q i
marked_none script q i count j first h = rw add-one (ap (λ b. (b && any_below (waits_for script j q i) count) || awaited_by script count j q i) h)
