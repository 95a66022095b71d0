-- Devices that have run a program.
use Rattle.std.proofs.Common.{◌≡◌, ◌<◌, Bool, ◌++◌, ℕ, List, false, length, refl, sym, ap, subst, ◌∙◌, Option, Some, None}
use Rattle.std.proofs.lemmas.Option.{slice_get_within}
use Rattle.base.proofs.Absence.{some_same}
use Rattle.check_program.specs.Apart.{host_bytes}
use Rattle.check_program.specs.Sound.{IsSound}
use Rattle.compile.specs.Right.{IsRightFor}
use Rattle.frame.specs.Numbered.{NumberedFrame}
use Rattle.check_order.specs.Orders.{Order}
use Rattle.compile_record.specs.declared.compiled.Compiled.{Compiled}
use Rattle.device_drive.specs.Tended.{Tended, tended_moves}
use Rattle.device_model.proofs.HostNodes.{read_within}
use Rattle.device_model.specs.Coming.{AllCame}
use Rattle.device_model.specs.Devices.{Device, state_of, fresh, opening, IsComplete, ReadsApart}
use Rattle.device_model.specs.Histories.{moves_in}
use Rattle.device_model.specs.Laws.{Simulates}
use Rattle.device_model.specs.Ready.{read_node}
use Rattle.device_model.specs.Runs.{Runs}
use Rattle.device_model.specs.States.{State, is_begun, opened}
use Rattle.device_model.specs.Steps.{after}
use Rattle.program.specs.FirstFault.{first_fault}
use Rattle.program.specs.declared.program.Program.{Program}
use Rattle.check_access.specs.Views.{view_of}
use Rattle.device_run.specs.EveryRun.{InEveryRun}
use Rattle.device_run.specs.Runs.{HasRun, read_by}
use Rattle.compile_file.specs.Compiles.{Compiles}
use Rattle.device_run.specs.FrameRuns.{RunsOn}
use Rattle.frame_meaning.specs.Meaning.{AreMeant}

-- LAWS OF A PROGRAM'S DEVICES

abbrev pub AllRun : Program → Type 0
AllRun program = (d : Device) → d.program ≡ program → Runs d

abbrev pub AllReadAlike : Program → Type 0
AllReadAlike program = (d : Device) → d.program ≡ program → IsComplete d → IsSound program → InEveryRun program (read_by d)

-- every device of a program without a fault
pub all_run : (program : Program) → ((d : Device) → first_fault d.program ≡ None → Runs d) → first_fault program ≡ None → AllRun program
all_run program laws faultless d is = laws d (ap first_fault is ∙ faultless)

-- what the host has read, in an order of the program
read_apart : (program : Program) (d : Device) → d.program ≡ program → ((k : ℕ) → k < length d.program.readbacks → ReadsApart d k (read_by d k)) → IsSound program → (order : List ℕ) → Order (view_of program).nodes order → (k : ℕ) → k < length program.readbacks → host_bytes program order k ≡ Some (read_by d k)
read_apart program d is apart sound order ordered k lt =
    subst (λ (P : Program). k < length P.readbacks → IsSound P → Order (view_of P).nodes order → host_bytes P order k ≡ Some (read_by d k)) is (λ within judged o. apart k within judged order o) lt sound ordered

-- and in every run
pub all_alike : (program : Program) → Simulates → first_fault program ≡ None → AllRun program → AllReadAlike program
all_alike program simulates faultless laws d is complete sound main told run k lt =
    let order : List ℕ = sound.0 in
    let ordered : Order (view_of program).nodes order = sound.1.order_is.order in
    let done = run.complete (read_node program k) (read_within program k lt) in
    let theirs : host_bytes program order k ≡ Some ((after program (opened main) told).host (read_node program k)) = (simulates program faultless sound order ordered main run.holds told).hosts k lt done in
    some_same (sym theirs ∙ read_apart program d is ((laws d is).all_read complete) sound order ordered k lt)

pub has_run : (program : Program) (tend : Option ℕ) (d : Device) → AllRun program → AllReadAlike program → d.program ≡ program → d.fill ≡ 0 → AllCame d → IsComplete d → moves_in d.history ≡ tended_moves program tend 256 → HasRun program tend d
has_run program tend d laws alike is fill came complete moves = record {
  runs = is;
  fill = fill;
  came = came;
  complete = complete;
  moves = moves;
  apart = (laws d is).all_read complete;
  every = alike d is complete;
}

-- nothing is begun at first
pub none_begun : (d : Device) (program : Program) (moves : ℕ) → d ≡ fresh program 0 moves → ((p : Program) (fill count : ℕ) → state_of (fresh p fill count) ≡ opened (opening p fill)) → (n : ℕ) → is_begun ((state_of d).phase n) ≡ false
none_begun d program moves is opens n = ap (λ (e : Device). is_begun ((state_of e).phase n)) is ∙ ap (λ (s : State). is_begun (s.phase n)) (opens program 0 moves)

-- as many moves as the seed has, or none
pub all_moves : (program : Program) (tend : Option ℕ) (moves : ℕ) → ((seed : ℕ) → tend ≡ Some seed → moves ≡ 256) → tended_moves program tend moves ≡ tended_moves program tend 256
all_moves program None moves is = refl
all_moves program (Some seed) moves is = ap (tended_moves program (Some seed)) (is seed refl)

-- what `drive` makes of a fresh device
pub driven : (program : Program) (tend : Option ℕ) (moves : ℕ) (old new : Device) → AllRun program → AllReadAlike program → old ≡ fresh program 0 moves → ((seed : ℕ) → tend ≡ Some seed → moves ≡ 256) → AllCame new → IsComplete new → Tended old new tend → HasRun program tend new
driven program tend moves old new laws alike is all came complete t =
    let program_is : new.program ≡ program = t.went.program ∙ ap (λ (d : Device). d.program) is in
    let fill_is : new.fill ≡ 0 = t.went.fill ∙ ap (λ (d : Device). d.fill) is in
    let history_is : new.history ≡ t.events = t.went.history ∙ ap (λ (d : Device). d.history ++ t.events) is in
    let made : moves_in t.events ≡ tended_moves program tend moves = t.moves ∙ ap (λ (d : Device). tended_moves d.program tend d.moves) is in
    has_run program tend new laws alike program_is fill_is came complete (ap moves_in history_is ∙ (made ∙ all_moves program tend moves all))

-- what the host has read is what the frame means
pub meant : (frame : NumberedFrame) (program : Program) (tend : Option ℕ) (d : Device) → IsRightFor frame program → HasRun program tend d → AreMeant frame (read_by d)
meant frame program tend d right has k unit at =
    let order : List ℕ = right.sound.0 in
    let order_is : Order (view_of program).nodes order = right.sound.1.order_is.order in
    let lt : k < length program.readbacks = subst (λ (n : ℕ). k < n) (sym right.readbacks) (slice_get_within frame.exports k unit at) in
    sym (right.means order order_is k unit at) ∙ read_apart program d has.runs has.apart right.sound order order_is k lt

-- a frame that was compiled, and a device that has run its program
abbrev pub runs_on : (tend : Option ℕ) (tight : Bool) (frame : NumberedFrame) (made : Compiled Program) (d : Device) → Compiles tight frame made → HasRun made.program tend d → RunsOn tend tight frame d
runs_on tend tight frame made d compiles has = record { made = made; compiles = compiles; has_run = has; meant = meant frame made.program tend d compiles.right has }
