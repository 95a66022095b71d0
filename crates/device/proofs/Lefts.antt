-- What is still to come, where one node goes on.
use Rattle.std.proofs.Common.{◌≡◌, ◌≢◌, ℕ, zero, suc, ◌+◌, ◌*◌, ◌<◌, refl, ap, ⊎_elim, arith}
use Rattle.std.proofs.lemmas.Bool.{cases_eq}
use Rattle.device.specs.Internal.Rooms.{events_left, stores_left, left_of}
use Rattle.device_model.proofs.Control.{put_at, put_other}
use Rattle.device_model.specs.States.{put}
use Rattle.device_model.specs.declared.phase.Phase.{Phase}
use Rattle.device_model.specs.declared.phase.Phase.TheVariants.{Idle}

pub same_left : (left : Phase → ℕ) (f g : ℕ → Phase) (count : ℕ) → ((k : ℕ) → k < count → f k ≡ g k) → left_of left f count ≡ left_of left g count
same_left left f g zero h = refl
same_left left f g (suc n) h =
    let e : left (f n) ≡ left (g n) = ap left (h n (omega arith)) in
    let r : left_of left f n ≡ left_of left g n = same_left left f g n (λ k lt. h k (omega (arith, lt))) in
    omega (arith, e, r)

pub left_put : (left : Phase → ℕ) (phase : ℕ → Phase) (count n : ℕ) (p : Phase) → n < count → left_of left (put phase n p) count + left (phase n) ≡ left_of left phase count + left p
left_put left phase zero n p lt = absurd (omega (arith, lt))
left_put left phase (suc m) n p lt = ⊎_elim
    (λ (e : m ≡ n).
    let rest = same_left left (put phase n p) phase m (λ k low. put_other phase n k p (λ q. omega (arith, e, q, low))) in
    let here : left (put phase n p m) ≡ left p = ap left (put_at phase n m p e) in
    let there : left (phase m) ≡ left (phase n) = ap (λ z. left (phase z)) e in
    omega (arith, rest, here, there))
    (λ (ne : m ≢ n).
    let rest = left_put left phase m n p (omega (arith, lt, ne)) in
    let same : left (put phase n p m) ≡ left (phase m) = ap left (put_other phase n m p ne) in
    omega (arith, rest, same))
    (cases_eq m n)

-- before the first event
pub first_events : (count : ℕ) → left_of events_left (λ n. Idle) count ≡ 2 * count
first_events zero = refl
first_events (suc n) = omega (arith, first_events n)

pub first_stores : (count : ℕ) → left_of stores_left (λ n. Idle) count ≡ count
first_stores zero = refl
first_stores (suc n) = omega (arith, first_stores n)
