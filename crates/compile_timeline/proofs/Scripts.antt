-- A list of steps is a script where each step may stand at its place.
use Rattle.std.proofs.Common.{◌≡◌, ◌≢◌, ℕ, ◌<◌, ◌==◌, ◌&&◌, not, nat_lt, true, false, List, length, Option, Some, None, refl, sym, ap, ◌∙◌}
use Rattle.std.specs.Option.{option_map_or}
use Rattle.std.specs.Prelude.{slice_get}
use Rattle.std.proofs.lemmas.Bool.{and_from, and_parts, eq-eqb, eqb-false, false≢true, lt-ltb, ltb-true, ne_eqb, not-true}
use Rattle.std.proofs.lemmas.Option.{slice_get_within}
use Rattle.compile_timeline.proofs.Latest.{item_there, has_there, item_within}
use Rattle.compile_timeline.specs.Internal.Scripts.{is_other_item, has_other_item, may_stand, is_fit}
use Rattle.compile_timeline.specs.Steps.{queue_of, queue_at, is_item, has_item, IsScript}
use Rattle.compile_timeline.specs.declared.step.Step.{Step}
use Rattle.compile_timeline.specs.declared.step.Step.TheVariants.{Item, Need}

-- AN ITEM OF ANOTHER QUEUE

other_item : (script : List Step) (q j : ℕ) → has_other_item script q j ≡ true → (has_item script (queue_at script j) j ≡ true) × (queue_at script j ≢ q)
other_item script q j t = go (slice_get script j) refl t
  where
    go : (o : Option Step) → slice_get script j ≡ o → option_map_or (is_other_item q) o false ≡ true → (has_item script (queue_at script j) j ≡ true) × (queue_at script j ≢ q)
    go None e h = absurd (false≢true h)
    go (Some (Need r k)) e h = absurd (false≢true h)
    go (Some (Item r item)) e h =
        let queue : queue_at script j ≡ r = ap (λ o. option_map_or queue_of o 0) e in
        (ap (λ o. option_map_or (is_item (queue_at script j)) o false) e ∙ eq-eqb r (queue_at script j) (sym queue), λ same. eqb-false r q (not-true (r == q) h) (sym queue ∙ same))

from_other_item : (script : List Step) (q j : ℕ) → has_item script (queue_at script j) j ≡ true → queue_at script j ≢ q → has_other_item script q j ≡ true
from_other_item script q j h ne = let T = item_there script (queue_at script j) j h in ap (λ o. option_map_or (is_other_item q) o false) T.1 ∙ ap not (ne_eqb (queue_at script j) q ne)

-- ALL STEPS

record NeedFits (script : List Step) (count i q j : ℕ) : Type 0 where
  queue : q < count
  earlier : j < i
  needed : has_item script (queue_at script j) j ≡ true
  other : queue_at script j ≢ q

need_fits : (script : List Step) (count i q j : ℕ) → is_fit script count i ≡ true → slice_get script i ≡ Some (Need q j) → NeedFits script count i q j
need_fits script count i q j t e =
    let all : (nat_lt q count && (nat_lt j i && has_other_item script q j)) ≡ true = sym (ap (λ o. option_map_or (may_stand script count i) o true) e) ∙ t in
    let P = and_parts (nat_lt q count) (nat_lt j i && has_other_item script q j) all in
    let Q = and_parts (nat_lt j i) (has_other_item script q j) P.1 in
    let R = other_item script q j Q.1 in
    record { queue = ltb-true q count P.0; earlier = ltb-true j i Q.0; needed = R.0; other = R.1 }

pub all_fit : (script : List Step) (count : ℕ) → ((i : ℕ) → i < length script → is_fit script count i ≡ true) → IsScript script count
all_fit script count fits = record {
  items = λ i q h. item i q h;
  needs = λ i q j e. (need i q j e).queue;
  earlier = λ i q j e. (need i q j e).earlier;
  needed = λ i q j e. (need i q j e).needed;
  other = λ i q j e. (need i q j e).other;
}
  where
    item : (i q : ℕ) → has_item script q i ≡ true → q < count
    item i q h = let T = item_there script q i h in ltb-true q count (sym (ap (λ o. option_map_or (may_stand script count i) o true) T.1) ∙ fits i (item_within script q i h))

    need : (i q j : ℕ) → slice_get script i ≡ Some (Need q j) → NeedFits script count i q j
    need i q j e = need_fits script count i q j (fits i (slice_get_within script i (Need q j) e)) e

pub fits : (script : List Step) (count i : ℕ) → IsScript script count → is_fit script count i ≡ true
fits script count i K = go (slice_get script i) refl
  where
    here : (o : Option Step) → slice_get script i ≡ o → is_fit script count i ≡ option_map_or (may_stand script count i) o true
    here o e = ap (λ z. option_map_or (may_stand script count i) z true) e

    go : (o : Option Step) → slice_get script i ≡ o → is_fit script count i ≡ true
    go None e = here None e
    go (Some (Item q item)) e = here (Some (Item q item)) e ∙ lt-ltb q count (K.items i q (has_there script q i item e))
    go (Some (Need q j)) e = here (Some (Need q j)) e ∙ and_from (nat_lt q count) (nat_lt j i && has_other_item script q j) (lt-ltb q count (K.needs i q j e)) (and_from (nat_lt j i) (has_other_item script q j) (lt-ltb j i (K.earlier i q j e)) (from_other_item script q j (K.needed i q j e) (K.other i q j e)))
