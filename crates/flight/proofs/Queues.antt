-- Queues and persisting resources.
use Rattle.std.proofs.Common.{◌≡◌, ◌≢◌, ℕ, suc, ◌+◌, ◌<◌, ◌≤◌, List, [], ◌∷◌, length, get_or, slice_get, drop, Bool, true, false, ◌&&◌, refl, sym, ap, ap₂, ◌∙◌, add-one, arith}
use Rattle.std.specs.Option.{option_map_or}
use Rattle.std.proofs.Math.Seq.{drop-length}
use Rattle.std.proofs.lemmas.Option.{slice_get-get_or}
use Rattle.flight.proofs.Walks.{at_place}
use Rattle.flight.specs.Refusals.{is_persisted, same_queue, same_queues}
use Rattle.frame.specs.declared.frame.QueueDecl.{QueueDecl}
use Rattle.frame.specs.declared.frame.Resource.{Resource}

module _ (qs bs : List QueueDecl) (i : ℕ) (a b : QueueDecl) (lt : i < length qs) (same : length qs ≡ length bs) (a_is : a ≡ get_or qs i a) (b_is : b ≡ get_or bs i b) where
  queues_at : same_queues (drop i qs) (drop i bs) ≡ (same_queue a b && same_queues (drop (suc i) qs) (drop (suc i) bs))
  queues_at = ap₂ same_queues (at_place qs i a lt a_is) (at_place bs i b (omega arith) b_is)

pub same_on : (qs bs : List QueueDecl) (i : ℕ) (a b : QueueDecl) (total : Bool) → i < length qs → length qs ≡ length bs → a ≡ get_or qs i a → b ≡ get_or bs i b → same_queue a b ≡ true → same_queues (drop i qs) (drop i bs) ≡ total → same_queues (drop (i + 1) qs) (drop (i + 1) bs) ≡ total
same_on qs bs i a b total lt same a_is b_is passes so_far = rw add-one (sym (queues_at qs bs i a b lt same a_is b_is ∙ ap (λ t. t && same_queues (drop (suc i) qs) (drop (suc i) bs)) passes) ∙ so_far)

pub other_on : (qs bs : List QueueDecl) (i : ℕ) (a b : QueueDecl) (total : Bool) → i < length qs → length qs ≡ length bs → a ≡ get_or qs i a → b ≡ get_or bs i b → same_queue a b ≡ false → same_queues (drop i qs) (drop i bs) ≡ total → false ≡ total
other_on qs bs i a b total lt same a_is b_is fails so_far = sym (queues_at qs bs i a b lt same a_is b_is ∙ ap (λ t. t && same_queues (drop (suc i) qs) (drop (suc i) bs)) fails) ∙ so_far

pub same_end : (qs bs : List QueueDecl) (i : ℕ) (total : Bool) → length qs ≤ i → i ≤ length qs → length qs ≡ length bs → same_queues (drop i qs) (drop i bs) ≡ total → true ≡ total
same_end qs bs i total far near same so_far =
    let one : i ≡ length qs = omega arith in
    let two : i ≡ length bs = omega arith in
    sym (ap₂ same_queues (ap (λ n. drop n qs) one ∙ drop-length qs) (ap (λ n. drop n bs) two ∙ drop-length bs)) ∙ so_far

pub other_length : (qs bs : List QueueDecl) → length qs ≢ length bs → false ≡ same_queues qs bs
other_length [] [] other = absurd (other refl)
other_length [] (b ∷ bs) other = refl
other_length (a ∷ qs) [] other = refl
other_length (a ∷ qs) (b ∷ bs) other = by_first (same_queue a b) (other_length qs bs (λ e. other (ap suc e)))
  where
    by_first : (t : Bool) → false ≡ same_queues qs bs → false ≡ (t && same_queues qs bs)
    by_first true rest = rest
    by_first false rest = refl

pub held_at : (rs : List Resource) (k size : ℕ) (r : Resource) (b : Bool) → k < length rs → r ≡ get_or rs k r → b ≡ is_persisted size r → b ≡ option_map_or (is_persisted size) (slice_get rs k) false
held_at rs k size r b lt is gives = gives ∙ ap (is_persisted size) is ∙ sym (ap (λ o. option_map_or (is_persisted size) o false) (slice_get-get_or rs k r lt))
