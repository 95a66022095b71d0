-- The bits of agents.
use Rattle.std.proofs.Common.{◌≡◌, ◌⊎◌, inl, inr, ℕ, ◌<◌, ◌^◌, ◌==◌, Bool, true, false, if◌then◌else◌, refl, ◌∙◌, eqb-true, arith}
use Rattle.check_access_order.specs.Stages.{bit_stage}

abbrev pub AgentBit : ℕ → Type 0
AgentBit bit = (k : ℕ) × (k < 9) × (bit ≡ 2 ^ k)

known_step : (t : Bool) (bit value stage rest k : ℕ) → (bit == value) ≡ t → value ≡ 2 ^ k → k < 9 → (rest ≡ 0) ⊎ AgentBit bit → ((if t then stage else rest) ≡ 0) ⊎ AgentBit bit
known_step true bit value stage rest k e v lt h = inr (k, lt, eqb-true bit value e ∙ v)
known_step false bit value stage rest k e v lt h = h

-- what has a stage is one
pub known_bit : (bit : ℕ) → (bit_stage bit ≡ 0) ⊎ AgentBit bit
known_bit bit =
    known_step (bit == 1) bit 1 _ _ 0 refl refl (omega arith)
    (known_step (bit == 2) bit 2 _ _ 1 refl refl (omega arith)
    (known_step (bit == 4) bit 4 _ _ 2 refl refl (omega arith)
    (known_step (bit == 8) bit 8 _ _ 3 refl refl (omega arith)
    (known_step (bit == 16) bit 16 _ _ 4 refl refl (omega arith)
    (known_step (bit == 32) bit 32 _ _ 5 refl refl (omega arith)
    (known_step (bit == 64) bit 64 _ _ 6 refl refl (omega arith)
    (known_step (bit == 128) bit 128 _ _ 7 refl refl (omega arith)
    (known_step (bit == 256) bit 256 _ _ 8 refl refl (omega arith) (inl refl)))))))))
