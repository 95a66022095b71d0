-- Words are made bit by bit.
use Rattle.std.proofs.Common.{◌≡◌, ℕ, ◌+◌, ◌<◌, ◌≤◌, ◌==◌, ◌||◌, Bool, false, ap, ◌∙◌, below_more, arith}
use Rattle.std.proofs.lemmas.Nat.Bits.{bit_at-zero}
use Rattle.base.proofs.Booleans.{or_false}
use Rattle.base_first.specs.Bits.{bit}

-- bits of the first c numbers are those of f, and there are no others
pub record Marked (f : ℕ → Bool) (c word : ℕ) : Type 0 where
  pub below : (d : ℕ) → d < c → bit word d ≡ f d
  pub above : (d : ℕ) → c ≤ d → d < 64 → bit word d ≡ false

pub no_bit : (d : ℕ) → bit 0 d ≡ false
no_bit d = ap (λ b. b == 1) (bit_at-zero d)

pub none_marked : (f : ℕ → Bool) → Marked f 0 0
none_marked f = record { below = λ d lt. absurd (omega (arith, lt)); above = λ d le lt. no_bit d }

-- one more number
pub marked : (f : ℕ → Bool) (c word new : ℕ) (there : Bool) → Marked f c word → c < 64 → there ≡ f c → bit new c ≡ (there || bit word c) → ((d : ℕ) → (d ≡ c → ⊥) → bit new d ≡ bit word d) → Marked f (c + 1) new
marked f c word new there M lt h own others = record {
  below = below_more _ _ (λ d l. others d (λ e. omega (arith, e, l)) ∙ M.below d l) (own ∙ ap (λ b. there || b) (M.above c (omega arith) lt) ∙ or_false there ∙ h);
  above = λ d le l. others d (λ e. omega (arith, e, le)) ∙ M.above d (omega (arith, le)) l;
}
