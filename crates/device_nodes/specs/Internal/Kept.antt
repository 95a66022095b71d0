-- What the fields keep.
use Rattle.std.specs.Prelude.{◌≡◌, length, get_or}
use Rattle.device_nodes.specs.Internal.Blocked.{AreLast}
use Rattle.device_nodes.specs.Internal.Needs.{Needed}
use Rattle.device_nodes.specs.Internal.Running.{Runs}
use Rattle.device_nodes.specs.Internal.Spans.{Spanned}
use Rattle.device_nodes.specs.Controls.{Control}
use Rattle.device_nodes.specs.declared.control.Control.TheInside.{Inside}
use Rattle.device_model.specs.declared.phase.Phase.TheVariants.{Idle}
use Rattle.check_access.specs.ValidView.{ValidView}

abbrev pub control_in : Inside → Control
control_in i = record {
  view = i.view;
  phases = i.phases;
  marked = i.marked;
  layouts = i.layouts;
  owners = i.owners;
  counters = i.counters;
}

pub record IsKept (i : Inside) : Type 0 where
  pub shaped : ValidView i.view
  pub phase_count : length i.phases ≡ length i.view.nodes
  pub mark_count : length i.marked ≡ length i.view.nodes
  pub layout_count : length i.layouts ≡ length i.view.pieces
  pub owner_count : length i.owners ≡ length i.view.pieces
  pub counter_count : length i.counters ≡ length i.view.families
  pub running : Runs (length i.view.nodes) (λ n. get_or i.phases n Idle) i.running
  pub spanned : Spanned i.view (λ n. get_or i.phases n Idle) i.spans
  pub lasts : AreLast i.view i.lasts
  pub needed : Needed i.view i.needs
