-- Answers, as they are told: as lines, or as JSON.
use Rattle.std.specs.Prelude.{ℕ, Bool, List}
use Rattle.check_program.specs.declared.hazard.Hazard.{Hazard}
use Rattle.cli.specs.declared.form.Form.{Form}
use Rattle.cli.specs.declared.form.Form.TheVariants.{Line, Json}
use Rattle.compile_groups.specs.declared.grouping.Grouping.{Grouping}
use Rattle.compile_heap.specs.Placing.{Places}
use Rattle.frame.specs.declared.fault.FrameFault.{FrameFault}
use Rattle.frame.specs.declared.frame.Frame.{Frame}
use Rattle.program.specs.declared.fault.ProgramFault.{ProgramFault}
use Rattle.report.specs.BoundLines.{bound_text}
use Rattle.report.specs.CostLines.{cost_text}
use Rattle.report.specs.Faults.{frame_fault_text, program_fault_text}
use Rattle.report.specs.Hazards.{check_text, hazard_text}
use Rattle.report.specs.KeptLines.{cull_text}
use Rattle.report.specs.PlaceLines.{place_text}
use Rattle.report_json.specs.Bounds.{bound_json}
use Rattle.report_json.specs.Costs.{cost_json}
use Rattle.report_json.specs.Culls.{cull_json}
use Rattle.report_json.specs.Faults.{frame_fault_json, program_fault_json}
use Rattle.report_json.specs.Places.{place_json}
use Rattle.report_json.specs.Verdicts.{check_json, hazard_json}

-- the lines, or the object
abbrev pub told : Form → List ℕ → List ℕ → List ℕ
told Line lines object = lines
told Json lines object = object

abbrev pub cull_told : Form → Frame → List Bool → List ℕ
cull_told form frame kept = told form (cull_text frame kept) (cull_json frame kept)

abbrev pub place_told : Form → Frame → Grouping → Places → List ℕ
place_told form frame G places = told form (place_text frame G places) (place_json frame G places)

abbrev pub bound_told : Form → Frame → Grouping → ℕ → ℕ → List ℕ → List ℕ
bound_told form frame G least heap chosen = told form (bound_text frame G least heap chosen) (bound_json frame G least heap chosen)

abbrev pub cost_told : Form → ℕ → ℕ → List ℕ
cost_told form given found = told form (cost_text given found) (cost_json given found)

abbrev pub check_told : Form → ℕ → List ℕ
check_told form nodes = told form (check_text nodes) (check_json nodes)

abbrev pub hazard_told : Form → Hazard → List ℕ
hazard_told form hazard = told form (hazard_text hazard) (hazard_json hazard)

abbrev pub frame_fault_told : Form → FrameFault → List ℕ
frame_fault_told form fault = told form (frame_fault_text fault) (frame_fault_json fault)

abbrev pub program_fault_told : Form → ProgramFault → List ℕ
program_fault_told form fault = told form (program_fault_text fault) (program_fault_json fault)
