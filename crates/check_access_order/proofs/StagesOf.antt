-- The stage of an access is one bit, or none.
use Rattle.std.proofs.Common.{inl, inr, ℕ, ◌==◌, Bool, true, false, Option, Some, None, if◌then◌else◌, refl}
use Rattle.check_access.specs.declared.access.Agent.TheVariants as agent
use Rattle.check_access.specs.declared.access.AccessKind.{AccessKind}
use Rattle.check_access.specs.declared.access.AccessKind.TheVariants.{Load, Store, Transition, Discard, Release, Acquire}
use Rattle.check_access_order.specs.Stages.{bit_stage, stage_of, IsStage}

step : (b : Bool) (s t : ℕ) → IsStage s → IsStage t → IsStage (if b then s else t)
step true s t h g = h
step false s t h g = g

pub bit_one : (bit : ℕ) → IsStage (bit_stage bit)
bit_one bit =
    step (bit == 1) _ _ (inr (11, refl))
    (step (bit == 2) _ _ (inr (11, refl))
    (step (bit == 4) _ _ (inr (11, refl))
    (step (bit == 8) _ _ (inr (10, refl))
    (step (bit == 16) _ _ (inr (10, refl))
    (step (bit == 32) _ _ (inr (32, refl))
    (step (bit == 64) _ _ (inr (32, refl))
    (step (bit == 128) _ _ (inr (35, refl))
    (step (bit == 256) _ _ (inr (14, refl)) (inl refl)))))))))

-- of an access
abbrev pub IsSome : Option ℕ → Type 0
IsSome None = Unit {0}
IsSome (Some stage) = IsStage stage

pub stage_one : (kind : AccessKind) → IsSome (stage_of kind)
stage_one (Load (agent.Of q bit) layout) = bit_one bit
stage_one (Load agent.Host layout) = tt
stage_one (Store (agent.Of q bit) layout) = bit_one bit
stage_one (Store agent.Host layout) = tt
stage_one (Transition layouts) = tt
stage_one (Discard layout) = tt
stage_one (Release handover) = tt
stage_one (Acquire handover) = tt
