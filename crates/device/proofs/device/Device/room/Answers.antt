use Rattle.std.proofs.Common.{◌≡◌, ℕ, List, IfOk, subst}
use Rattle.std.specs.Prelude.{replicate}
use Rattle.device.proofs.device.Device.room.Goals as goal

pub returns : goal.returns
returns c = subst (λ size. IfOk c.new.result (λ (room : List ℕ). room ≡ replicate size 0)) c.store_len.ensures c.new.ensures
