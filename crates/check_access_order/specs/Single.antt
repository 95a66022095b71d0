-- Views whose commands have one stage each.
use Rattle.std.specs.Prelude.{◌≡◌, ℕ, ◌<◌, ◌^◌, true, length, Some}
use Rattle.check_order.specs.Edges.{is_host, node_at}
use Rattle.check_order.specs.declared.kind.Kind.TheVariants.{Command}
use Rattle.check_access.specs.ValidView.{Has}
use Rattle.check_access.specs.Views.{View}
use Rattle.check_access.specs.declared.access.Access.{Access}
use Rattle.check_access_order.specs.Stages.{stage_of}

-- node n waits in one stage, and that same one waits for it; all its accesses are in it
pub record HasOneStage (V : View) (n : ℕ) : Type 0 where
  pub bit : ℕ
  pub one : (node_at V.nodes n).dst_stages.0 ≡ 2 ^ bit
  pub same : (node_at V.nodes n).src_stages.0 ≡ (node_at V.nodes n).dst_stages.0
  pub accesses : (a : Access) → Has V n a → stage_of a.kind ≡ Some (node_at V.nodes n).dst_stages.0

-- each command has, and host reads have no stage
pub record Single (V : View) : Type 0 where
  pub command : (n : ℕ) → n < length V.nodes → (node_at V.nodes n).kind ≡ Command → HasOneStage V n
  pub host : (n : ℕ) → is_host (node_at V.nodes n).kind ≡ true → ((node_at V.nodes n).src_stages.0 ≡ 0) × ((node_at V.nodes n).dst_stages.0 ≡ 0)
