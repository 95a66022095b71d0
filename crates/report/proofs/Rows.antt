-- Worked rows: what the definitions come to on written-out values.
use Rattle.std.proofs.Common.{◌≡◌, ℕ, List, [], ◌∷◌, Some, None, codes, refl}
use Rattle.std.specs.Fmt.{digits}
use Rattle.hex.proofs.OnLiterals.{hex_on_literals}
use Rattle.base.specs.CacheMoves.{cache_move}
use Rattle.base.specs.declared.cache_move.MoveKind.TheVariants.{WriteBack, Fill, DropLine}
use Rattle.base.specs.declared.event.Event.TheVariants.{Begin, End, Sync, Move, Host}
use Rattle.base.specs.declared.limit.Limit.TheVariants.{Passes, Total}
use Rattle.base.specs.declared.shape.Shape.TheVariants.{Buffer}
use Rattle.base.specs.declared.shape.Family.TheVariants.{Graphics, Compute}
use Rattle.base.specs.declared.path.Leg.TheVariants.{Member, Position}
use Rattle.vk.specs.declared.layout.Layout.TheVariants as layouts
use Rattle.vk.specs.declared.sharing.Sharing.TheVariants.{Exclusive}
use Rattle.frame.specs.Faults.{misshapen, not_json, over_limit}
use Rattle.frame.specs.declared.frame.Frame.{Frame}
use Rattle.frame.specs.declared.frame.Resource.{Resource}
use Rattle.report.specs.BoundLines.{bound_line, name_lines}
use Rattle.report.specs.CostLines.{cost_text}
use Rattle.report.specs.Exports.{export_lines}
use Rattle.report.specs.Faults.{frame_fault_text, program_fault_text}
use Rattle.report.specs.Flights.{flight_text}
use Rattle.report.specs.Hazards.{hazard_text, check_text}
use Rattle.report.specs.Readbacks.{readback_text}
use Rattle.report.specs.Summaries.{summary_text}
use Rattle.report.specs.Traces.{trace_text}
use Rattle.report.specs.declared.flight.FlightLine.TheVariants as flights
use Rattle.program.specs.Faults as programs
use Rattle.check_program.specs.declared.hazard.Hazard.TheVariants.{Stuck, Sync, State, Load}
use Rattle.check_state.specs.declared.load_hazard.LoadHazard.TheVariants.{Aliased}
use Rattle.check_state.specs.declared.state_hazard.StateHazard.TheVariants.{BadLayout, BadOwner, Unmatched}
use Rattle.check_sync.specs.declared.sync_hazard.Flaw.TheVariants.{NotVisible}

at_the_root : frame_fault_text not_json ≡ codes "fault F1 $\n"
unfolding digits
at_the_root = refl

with_a_limit : frame_fault_text (over_limit Passes (Member (codes "passes") ∷ [])) ≡ codes "fault F4 Passes $.passes\n"
unfolding digits
with_a_limit = refl

in_a_pass : frame_fault_text (record { number = 10; limit = None; location = Member (codes "passes") ∷ Position 12 ∷ Member (codes "reads") ∷ Position 0 ∷ [] }) ≡ codes "fault F10 $.passes[12].reads[0]\n"
unfolding digits
in_a_pass = refl

unprintable : frame_fault_text (misshapen (Member (32 ∷ 126 ∷ 127 ∷ 31 ∷ 10 ∷ 195 ∷ []) ∷ [])) ≡ codes "fault F2 $. ~????\n"
unfolding digits
unprintable = refl

without_layer : export_lines (record { name = codes "b"; layer = None }) (7 ∷ 0 ∷ []) ≡ codes "export b 2\n0700\n"
unfolding digits hex_on_literals
without_layer = refl

with_layer : export_lines (record { name = codes "im"; layer = Some 1 }) (5 ∷ 7 ∷ []) ≡ codes "export im/1 2\n0507\n"
unfolding digits hex_on_literals
with_layer = refl

in_a_batch : program_fault_text (programs.misshapen (Member (codes "queues") ∷ Position 0 ∷ [])) ≡ codes "fault G11 $.queues[0]\n"
unfolding digits
in_a_batch = refl

stuck : hazard_text (Stuck 0 12) ≡ codes "hazard H1 0 12\n"
unfolding digits
stuck = refl

not_visible : hazard_text (Sync (record { first = 0; second = 2; flaw = NotVisible })) ≡ codes "hazard H4 0 2\n"
unfolding digits
not_visible = refl

no_layout : hazard_text (State (BadLayout 0 4 layouts.Undefined layouts.TransferDst)) ≡ codes "hazard H5 0 4 UNDEFINED TRANSFER_DST_OPTIMAL\n"
unfolding digits
no_layout = refl

another_owner : hazard_text (State (BadOwner 3 0 (Some Graphics) Compute)) ≡ codes "hazard H6 3 0 graphics compute\n"
unfolding digits
another_owner = refl

no_owner : hazard_text (State (BadOwner 3 0 None Compute)) ≡ codes "hazard H6 3 0 none compute\n"
unfolding digits
no_owner = refl

unmatched : hazard_text (State (Unmatched 1)) ≡ codes "hazard H7 1\n"
unfolding digits
unmatched = refl

aliased : hazard_text (Load (Aliased 4 0 1)) ≡ codes "hazard H9 4 0 1\n"
unfolding digits
aliased = refl

accepted : check_text 6 ≡ codes "accepted 6 nodes\n"
unfolding digits
accepted = refl

read_back : readback_text 3 (7 ∷ 0 ∷ []) ≡ codes "readback 3 2\n0700\n"
unfolding digits hex_on_literals
read_back = refl

traced : trace_text (Begin 0 ∷ Move (cache_move WriteBack 6 0 256 4) ∷ End 0 ∷ Sync 1 ∷ Host 2 ∷ []) ≡ codes "events 5\nbegin 0\nwriteback 6 0 256 4\nend 0\nsync 1\nhost 2\n"
unfolding digits
traced = refl

cache_moves : trace_text (Move (cache_move Fill 1 2 3 4) ∷ Move (cache_move DropLine 4 3 2 1) ∷ []) ≡ codes "events 2\nfill 1 2 3 4\ndrop 4 3 2 1\n"
unfolding digits
cache_moves = refl

summed : summary_text 1 0 7 16384 16384 1 16384 552960 ≡ codes "kept 1 culled 0\nnodes 7\nheap 16384 separate 16384\nexports 1 bytes 16384 sum 552960\n"
unfolding digits
summed = refl

bounded : bound_line 772 1024 ≡ codes "bound 772 heap 1024\n"
unfolding digits
bounded = refl

abbrev layered : List ℕ → ℕ → Resource
layered name layers = record { name = name; shape = Buffer 4; layers = layers; import = None; sharing = Exclusive }

abbrev three_units : Frame
three_units = record { queues = []; resources = layered (codes "x") 1 ∷ layered (codes "im") 2 ∷ []; passes = []; exports = [] }

certified : name_lines three_units (0 ∷ 2 ∷ []) (1 ∷ 0 ∷ []) ≡ codes "im/1\nx\n"
unfolding digits
certified = refl

costs : cost_text 4 2 ≡ codes "cost 4 2\n"
unfolding digits
costs = refl

frame_in_flight : flight_text (flights.Frame 12) ≡ codes "frame 12\n"
unfolding digits
frame_in_flight = refl

before_a_fault : flight_text (flights.FaultOf 3) ≡ codes "frame 3 "
unfolding digits
before_a_fault = refl

other_queues : flight_text (flights.Queues 1) ≡ codes "fault L2 1\n"
unfolding digits
other_queues = refl

no_import : flight_text (flights.Persist 0 (codes "c")) ≡ codes "fault L3 0 c\n"
unfolding digits
no_import = refl

window_too_large : flight_text (flights.Window 2 Total) ≡ codes "fault L4 2 Total\n"
unfolding digits
window_too_large = refl
