-- Two fills with a barrier between them: not sound where the barrier does not make the first one's store available, nor where it
-- does not make memory visible to the second.
use Rattle.std.proofs.Common.{◌≡◌, inl, ℕ, zero, suc, true, [], ◌∷◌, None, refl, arith}
use Rattle.std.proofs.lemmas.Bool.{false≢true}
use Rattle.base.specs.declared.op.Op.TheVariants.{FillBuffer}
use Rattle.base.specs.declared.shape.Family.TheVariants.{Graphics}
use Rattle.base.specs.declared.shape.Shape.TheVariants.{Buffer}
use Rattle.vk.specs.Accesses.{transfer_write}
use Rattle.vk.specs.Stages.{clear}
use Rattle.vk.specs.declared.sharing.Sharing.TheVariants.{Exclusive}
use Rattle.check_program.specs.Sound.{IsSound}
use Rattle.program.specs.FirstFault.{first_broken}
use Rattle.program.specs.declared.program.Item.TheVariants.{Command, BufferBarrier}
use Rattle.program.specs.declared.program.Memory.TheVariants.{Plain}
use Rattle.program.specs.declared.program.Program.{Program}
use Rattle.check_access_order.specs.Passing.{Passed}
use Rattle.check_access.specs.Effects.{access}
use Rattle.check_access.specs.Views.{view_of, makes_available, makes_visible}
use Rattle.check_access.specs.declared.access.Access.{Access}
use Rattle.check_access.specs.declared.access.Agent.{Agent}
use Rattle.check_access.specs.declared.access.Agent.TheVariants.{Of}
use Rattle.check_access.specs.declared.access.AccessKind.TheVariants.{Store}

-- by the accesses of the barrier
abbrev fills : ℕ → ℕ → Program
fills from to = record {
  memories = Plain 256 ∷ [];
  pieces = record { shape = Buffer 4; memory = 0; offset = 0; sharing = Exclusive } ∷ [];
  queues = record {
    family = Graphics;
    batches = record {
      waits = [];
      items =
          Command (FillBuffer 0 0 4 7)
          ∷ BufferBarrier 0 (record {
            src_stages = record { 0 = clear };
            src_accesses = record { 0 = from };
            dst_stages = record { 0 = clear };
            dst_accesses = record { 0 = to };
          })
          ∷ Command (FillBuffer 0 0 4 8)
          ∷ [];
      signal = None;
    } ∷ [];
  } ∷ [];
  readbacks = [];
}

abbrev cleaner : Agent
cleaner = Of 0 128

-- the store of each fill
abbrev store : Access
store = access 0 (Store cleaner None)

-- where it is sound, what the first fill left is passed on to the second
passed_on : (from to : ℕ) → IsSound (fills from to) → Passed (view_of (fills from to)) 0 store 2 store
passed_on from to sound = sound.1.synchronized.passed 0 2 store store (0, refl) (0, refl) (record { apart = λ e. omega (arith, e); clash = refl }) (1, 1, refl, inl refl, refl) refl refl

-- NOT MADE AVAILABLE

abbrev pub unavailable : Program
unavailable = fills 0 transfer_write

pub unavailable_no_fault : first_broken unavailable ≡ None
unavailable_no_fault = refl

none_available : (x : ℕ) → makes_available (view_of unavailable) x cleaner 0 ≡ true → ⊥
none_available zero e = false≢true e
none_available (suc zero) e = false≢true e
none_available (suc (suc zero)) e = false≢true e
none_available (suc (suc (suc x))) e = false≢true e

pub unavailable_unsound : IsSound unavailable → ⊥
unavailable_unsound sound = let p = passed_on 0 transfer_write sound in none_available p.0 p.2.1

-- NOT MADE VISIBLE

abbrev pub invisible : Program
invisible = fills transfer_write 0

pub invisible_no_fault : first_broken invisible ≡ None
invisible_no_fault = refl

none_visible : (y : ℕ) → makes_visible (view_of invisible) y cleaner 0 ≡ true → ⊥
none_visible zero e = false≢true e
none_visible (suc zero) e = false≢true e
none_visible (suc (suc zero)) e = false≢true e
none_visible (suc (suc (suc y))) e = false≢true e

pub invisible_unsound : IsSound invisible → ⊥
invisible_unsound sound = let p = passed_on transfer_write 0 sound in none_visible p.1 p.4.1
