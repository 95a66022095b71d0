-- Marks of begun commands, one more of them.
use Rattle.std.proofs.Common.{◌≡◌, ℕ, ◌+◌, ◌<◌, Bool, true, false, ◌&&◌, ◌||◌, ◌==◌, List, length, get_or, slice_set, refl, sym, ap, ◌∙◌, eqb-true, if◌then◌else◌}
use Rattle.std.proofs.Math.Bool.{and-false}
use Rattle.base.proofs.Booleans.{or_false, or_true}
use Rattle.device_nodes.proofs.Below.{some_more}
use Rattle.device_nodes.proofs.Lists.{set_by}
use Rattle.device_nodes.specs.Internal.Running.{is_among}
use Rattle.device_model.specs.Ready.{hits}
use Rattle.check_access.specs.Views.{View}

-- the commands among the first i numbers that clash with node n are marked
abbrev pub MarkedUntil : View → ℕ → List ℕ → ℕ → List Bool → List Bool → Type 0
MarkedUntil V n numbers i first marked = (x : ℕ) → get_or marked x false ≡ (get_or first x false || (is_among numbers i x && hits V x n))

-- one command more
pub mark_more : (V : View) (n : ℕ) (numbers : List ℕ) (i y : ℕ) (first old new : List Bool) → get_or numbers i 0 ≡ y → MarkedUntil V n numbers i first old
    → ((x : ℕ) → get_or new x false ≡ (get_or old x false || ((y == x) && hits V y n))) → MarkedUntil V n numbers (i + 1) first new
mark_more V n numbers i y first old new read M each x =
    each x ∙ ap (λ b. b || ((y == x) && hits V y n)) (M x) ∙ step (y == x) refl
    ∙ ap (λ b. get_or first x false || (b && hits V x n)) (sym (some_more (λ k. get_or numbers k 0 == x) i ∙ ap (λ z. (z == x) || is_among numbers i x) read))
  where
    joined : (a b h : Bool) → ((a || (b && h)) || h) ≡ (a || h)
    joined true b h = refl
    joined false true true = refl
    joined false true false = refl
    joined false false true = refl
    joined false false false = refl

    step : (t : Bool) → (y == x) ≡ t → ((get_or first x false || (is_among numbers i x && hits V x n)) || (t && hits V y n)) ≡ (get_or first x false || ((t || is_among numbers i x) && hits V x n))
    step true e =
        ap (λ z. (get_or first x false || (is_among numbers i x && hits V x n)) || hits V z n) (eqb-true y x e)
        ∙ joined (get_or first x false) (is_among numbers i x) (hits V x n)
    step false e = or_false (get_or first x false || (is_among numbers i x && hits V x n))

-- a command that is hit
pub marked_set : (marked : List Bool) (x : ℕ) (h : Bool) → x < length marked → h ≡ true → (k : ℕ) → get_or (slice_set marked x true) k false ≡ (get_or marked k false || ((x == k) && h))
marked_set marked x h lt e k = set_by marked x (λ z. true) true false lt refl k ∙ step (x == k) ∙ ap (λ z. get_or marked k false || ((x == k) && z)) (sym e)
  where
    step : (t : Bool) → (if t then true else get_or marked k false) ≡ (get_or marked k false || (t && true))
    step true = sym (or_true (get_or marked k false))
    step false = sym (or_false (get_or marked k false))

pub marked_kept : (marked : List Bool) (x : ℕ) (h : Bool) → h ≡ false → (k : ℕ) → get_or marked k false ≡ (get_or marked k false || ((x == k) && h))
marked_kept marked x h e k = sym (ap (λ z. get_or marked k false || z) (ap (λ z. (x == k) && z) e ∙ and-false (x == k)) ∙ or_false (get_or marked k false))
