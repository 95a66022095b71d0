-- Sets of bits that meet.
use Rattle.std.proofs.Common.{◌≡◌, ℕ, Bool, true, false, ◌||◌, ◌==◌, not, bit_and, bit_or, sym, ap, ◌∙◌, refl, ⊎_elim, eq-eqb, eqb-true}
use Rattle.std.proofs.lemmas.Bool.{cases_Bool, false≢true}
use Rattle.std.proofs.lemmas.Nat.{and_comm, and_assoc, and_or_self, and_or_apart}
use Rattle.std.specs.Int.Bits.{and_zero_r}
use Rattle.base.proofs.Booleans.{or_false, or_true}
use Rattle.vk.specs.Sets.{meets}

-- a union meets what one of the two sets meets
pub meets_either : (a b s : ℕ) → meets (bit_or a b) s ≡ (meets a s || meets b s)
meets_either a b s = go (bit_and b s == 0) refl
  where
    none : bit_and (bit_or a b) s ≡ 0 → bit_and b s ≡ 0
    none e = ap (λ z. bit_and z s) (sym (and_or_self b a) ∙ and_comm (bit_or a b) b) ∙ and_assoc s b (bit_or a b) ∙ ap (λ z. bit_and b z) e ∙ and_zero_r b

    both : (bit_and b s == 0) ≡ false → meets (bit_or a b) s ≡ true
    both h = ⊎_elim
        (λ e. absurd (false≢true (sym h ∙ eq-eqb (bit_and b s) 0 (none (eqb-true (bit_and (bit_or a b) s) 0 e)))))
        (λ e. ap not e)
        (cases_Bool (bit_and (bit_or a b) s == 0))

    go : (y : Bool) → (bit_and b s == 0) ≡ y → meets (bit_or a b) s ≡ (meets a s || not y)
    go true q = ap (λ z. not (z == 0)) (and_or_apart s a b (eqb-true (bit_and b s) 0 q)) ∙ sym (or_false (meets a s))
    go false q = both q ∙ sym (or_true (meets a s))
