-- How many nodes are not done.
use Rattle.std.proofs.Common.{◌≡◌, ◌≢◌, ℕ, zero, suc, ◌+◌, ◌<◌, ◌≤◌, Bool, true, false, if◌then◌else◌, refl, ap, ◌∙◌, ⊎_elim, arith}
use Rattle.std.proofs.lemmas.Bool.{cases_eq}
use Rattle.device_model.proofs.Control.{put_at, put_other}
use Rattle.device_model.specs.Rounds.{one_if_left, left}
use Rattle.device_model.specs.States.{is_done, put}
use Rattle.device_model.specs.declared.phase.Phase.{Phase}
use Rattle.device_model.specs.declared.phase.Phase.TheVariants.{Done}

same_left : (f g : ℕ → Phase) (count : ℕ) → ((k : ℕ) → k < count → is_done (f k) ≡ is_done (g k)) → left f count ≡ left g count
same_left f g zero h = refl
same_left f g (suc n) h =
    let e : one_if_left (f n) ≡ one_if_left (g n) = ap (λ b. if b then 0 else 1) (h n (omega arith)) in
    let r : left f n ≡ left g n = same_left f g n (λ k lt. h k (omega (arith, lt))) in
    ap (λ z. z + left f n) e ∙ ap (λ z. one_if_left (g n) + z) r

pub left_less : (phase : ℕ → Phase) (count n : ℕ) → n < count → is_done (phase n) ≡ false → left (put phase n Done) count + 1 ≡ left phase count
left_less phase zero n lt fresh = absurd (omega (arith, lt))
left_less phase (suc m) n lt fresh = ⊎_elim
    (λ (e : m ≡ n).
    let rest = same_left (put phase n Done) phase m (λ k low. ap is_done (put_other phase n k Done (λ q. omega (arith, e, q, low)))) in
    let here : one_if_left (put phase n Done m) ≡ 0 = ap one_if_left (put_at phase n m Done e) in
    let there : one_if_left (phase m) ≡ 1 = ap (λ z. one_if_left (phase z)) e ∙ ap (λ b. if b then 0 else 1) fresh in
    omega (arith, rest, here, there))
    (λ (ne : m ≢ n).
    let rest = left_less phase m n (omega (arith, lt, ne)) fresh in
    let same : one_if_left (put phase n Done m) ≡ one_if_left (phase m) = ap one_if_left (put_other phase n m Done ne) in
    omega (arith, rest, same))
    (cases_eq m n)

-- at most one for each node
pub left_most : (phase : ℕ → Phase) (count : ℕ) → left phase count ≤ count
left_most phase zero = omega arith
left_most phase (suc n) = let r = left_most phase n in let h = at_most (is_done (phase n)) in omega (arith, r, h)
  where
    at_most : (b : Bool) → (if b then 0 else 1) ≤ 1
    at_most true = omega arith
    at_most false = omega arith

-- where none is left, all are done
pub none_left : (phase : ℕ → Phase) (count : ℕ) → left phase count ≡ 0 → (n : ℕ) → n < count → is_done (phase n) ≡ true
none_left phase zero e n lt = absurd (omega (arith, lt))
none_left phase (suc m) e n lt = ⊎_elim
    (λ (q : n ≡ m). ap (λ z. is_done (phase z)) q ∙ done (is_done (phase m)) (omega (arith, e)))
    (λ (ne : n ≢ m). none_left phase m (omega (arith, e)) n (omega (arith, lt, ne)))
    (cases_eq n m)
  where
    done : (b : Bool) → ◌≡◌ {A = ℕ} (if b then 0 else 1) 0 → b ≡ true
    done true h = refl
    done false h = absurd (omega (arith, h))
