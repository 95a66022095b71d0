-- Lists at every place, past their ends too.
use Rattle.std.proofs.Common.{◌≡◌, ℕ, zero, suc, ◌<◌, ◌==◌, List, length, get_or, slice_set, replicate, refl, sym, ap, ◌∙◌, ⊎_elim, eq-eqb, if◌then◌else◌}
use Rattle.std.proofs.lemmas.Bool.{cases_eq, ne_eqb}
use Rattle.std.proofs.lemmas.List.{get_or_default, get_or-set_same, get_or-set_other}
use Rattle.device_model.proofs.Control.{put_at, put_other}
use Rattle.device_model.specs.States.{put}

pub set_put : {X : Type 0} (xs : List X) (n : ℕ) (v d : X) → n < length xs → (k : ℕ) → get_or (slice_set xs n v) k d ≡ put (λ k. get_or xs k d) n v k
set_put xs n v d lt k = ⊎_elim
    (λ (e : k ≡ n). ap (λ z. get_or (slice_set xs n v) z d) e ∙ get_or-set_same xs n v d lt ∙ sym (put_at (λ k. get_or xs k d) n k v e))
    (λ (e : k ≡ n → ⊥). get_or-set_other xs n k v d e ∙ sym (put_other (λ k. get_or xs k d) n k v e))
    (cases_eq k n)

pub put_same : {X : Type 0} (f g : ℕ → X) (n : ℕ) (v w : X) → ((k : ℕ) → f k ≡ g k) → v ≡ w → (k : ℕ) → put f n v k ≡ put g n w k
put_same f g n v w h e k = ap (λ z. if k == n then z else f k) e ∙ ap (λ z. if k == n then w else z) (h k)

pub copies : {X : Type 0} (n : ℕ) (x : X) (k : ℕ) → get_or (replicate n x) k x ≡ x
copies zero x k = refl
copies (suc n) x zero = refl
copies (suc n) x (suc k) = copies n x k

-- at one place another value, by what was there
pub set_by : {X : Type 0} (xs : List X) (i : ℕ) (f : X → X) (v d : X) → i < length xs → v ≡ f (get_or xs i d) → (p : ℕ) → get_or (slice_set xs i v) p d ≡ (if i == p then f (get_or xs p d) else get_or xs p d)
set_by xs i f v d lt e p = ⊎_elim
    (λ (s : i ≡ p). ap (λ z. get_or (slice_set xs i v) z d) (sym s) ∙ get_or-set_same xs i v d lt ∙ e ∙ ap (λ z. f (get_or xs z d)) s ∙ sym (ap (λ t. if t then f (get_or xs p d) else get_or xs p d) (eq-eqb i p s)))
    (λ (s : i ≡ p → ⊥). get_or-set_other xs i p v d (λ k. s (sym k)) ∙ sym (ap (λ t. if t then f (get_or xs p d) else get_or xs p d) (ne_eqb i p s)))
    (cases_eq i p)

-- what is read at a place
pub read_at : {X : Type 0} (xs : List X) (i : ℕ) (x d : X) → i < length xs → x ≡ get_or xs i x → get_or xs i d ≡ x
read_at xs i x d lt e = get_or_default xs i d x lt ∙ sym e
