-- What a begun command stores.
use Rattle.std.proofs.Common.{◌≡◌, ℕ, ◌<◌, List, [], ◌∷◌, length, Bool, true, false, Option, Some, None, if◌then◌else◌, refl, sym, ap, ◌∙◌, subst, ⊎_elim}
use Rattle.std.specs.Option.{option_map_or}
use Rattle.std.specs.Prelude.{replicate, IfSome, IfNone}
use Rattle.std.proofs.lemmas.Bool.{false≢true, cases_lt}
use Rattle.std.proofs.lemmas.List.{get_or_past, length-replicate}
use Rattle.base.specs.declared.op.Op.{Op}
use Rattle.check_program.specs.Apart.{op_at}
use Rattle.device.specs.Internal.Loads.{store_size, IsPending, HasPending, HasPendingAll, pending_at}
use Rattle.device.specs.declared.pending.Pending.{Pending}
use Rattle.device.proofs.Junk.{all_junk}
use Rattle.device_model.specs.Outputs.{stored_by, stored}
use Rattle.device_model.specs.States.{is_begun, State, junk_bytes}
use Rattle.device_model.specs.Steps.{made}
use Rattle.program.specs.Rules.{shapes_of}
use Rattle.program.specs.declared.program.Program.{Program}
use Rattle.check_access.specs.Views.{view_of}

module _ (program : Program) (list : List (Option Pending)) (s : State) (H : HasPendingAll program list s) (n : ℕ) where
  -- something is pending of each begun command, and of nothing else
  pub begun_inside : is_begun (s.phase n) ≡ true → n < length list
  begun_inside e = ⊎_elim (λ lt. lt) (λ ge. absurd (false≢true (sym (subst (HasPending program s n) (get_or_past list n None ge) (H n)) ∙ e))) (cases_lt n (length list))

  pub not_none : pending_at list n ≡ None → is_begun (s.phase n) ≡ true → ⊥
  not_none is e = false≢true (sym (subst (HasPending program s n) is (H n)) ∙ e)

  pub is_pending : (pending : Pending) → Some pending ≡ pending_at list n → IsPending program s n pending
  is_pending pending is = subst (HasPending program s n) (sym is) (H n)

module _ (program : Program) (s : State) (n fill : ℕ) (pending : Pending) (H : IsPending program s n pending) (op : Op ℕ) (at : op_at program n ≡ Some op) (bytes : List ℕ) where
  by_mark : (b : Bool) → s.marked n ≡ b → (junk : Option ℕ) → junk ≡ (if b then Some fill else None) → IfSome junk (λ byte. bytes ≡ replicate (length pending.room) byte) → IfNone junk (bytes ≡ stored_by (shapes_of program) op pending.loaded) → bytes ≡ (if b then junk_bytes (fill ∷ []) (store_size (view_of program) n) else stored program n (s.loaded n))
  by_mark true m junk is some none =
      subst (λ o. IfSome o (λ byte. bytes ≡ replicate (length pending.room) byte)) is some
      ∙ ap (λ room. replicate (length room) fill) H.room
      ∙ ap (λ size. replicate size fill) (length-replicate (store_size (view_of program) n) 0)
      ∙ all_junk fill (store_size (view_of program) n)
  by_mark false m junk is some none =
      subst (λ o. IfNone o (bytes ≡ stored_by (shapes_of program) op pending.loaded)) is none
      ∙ ap (stored_by (shapes_of program) op) H.loaded
      ∙ sym (ap (λ o. option_map_or (λ op. stored_by (shapes_of program) op (s.loaded n)) o []) at)

  -- junk where it is marked, and else what the operation gives for what it loaded
  pub made_is : (junk : Option ℕ) → junk ≡ (if s.marked n then Some fill else None) → IfSome junk (λ byte. bytes ≡ replicate (length pending.room) byte) → IfNone junk (bytes ≡ stored_by (shapes_of program) op pending.loaded) → bytes ≡ made program s n (fill ∷ [])
  made_is junk is some none = by_mark (s.marked n) refl junk is some none
