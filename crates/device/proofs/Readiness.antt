-- What the control tells of nodes is so of the device.
use Rattle.std.proofs.Common.{◌≡◌, ℕ, ◌<◌, length, Option, Some, None, sym, ap, ◌∙◌, subst}
use mathlib.Core.Path.{fun_ext}
use Rattle.std.specs.Prelude.{IfSome, IfNone}
use Rattle.device_nodes.specs.Controls.{Control, Agrees}
use Rattle.device_nodes.specs.Controls as controls
use Rattle.device_model.specs.Devices.{Device, state_of, view_in, is_ready, IsNext, NoneReady}
use Rattle.device_model.specs.Ready.{may_go}
use Rattle.check_access.specs.Views.{View, queue_at}

module _ (control : Control) (d : Device) (view : control.view ≡ view_in d) (A : Agrees control (state_of d)) where
  pub agrees_ready : (n : ℕ) → controls.is_ready control n ≡ is_ready d n
  agrees_ready n =
      ap (λ (v : View). may_go v (controls.phase_of control) (controls.counter_of control) n) view
      ∙ ap (λ f. may_go (view_in d) f (controls.counter_of control) n) (fun_ext A.phase)
      ∙ ap (λ f. may_go (view_in d) (state_of d).phase f n) (fun_ext A.counter)

  next_is : (queue n : ℕ) → controls.IsNext control queue n → IsNext d queue n
  next_is queue n N = record {
    on = ap (λ (v : View). queue_at v n) (sym view) ∙ N.on;
    may = sym (agrees_ready n) ∙ N.may;
    least = λ k lt on. sym (agrees_ready k) ∙ N.least k lt (ap (λ (v : View). queue_at v k) view ∙ on);
  }

  pub some_next : (queue : ℕ) (result : Option ℕ) → IfSome result (controls.IsNext control queue) → IfSome result (IsNext d queue)
  some_next queue None h = h
  some_next queue (Some n) h = next_is queue n h

  pub none_next : (queue : ℕ) (result : Option ℕ) → IfNone result (controls.NoneReady control queue) → IfNone result (NoneReady d queue)
  none_next queue None h = λ n lt on. sym (agrees_ready n) ∙ h n (subst (λ (v : View). n < length v.nodes) (sym view) lt) (ap (λ (v : View). queue_at v n) view ∙ on)
  none_next queue (Some n) h = h
