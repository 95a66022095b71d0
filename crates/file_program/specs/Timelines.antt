-- Waits: `queue`, `value`, `stage`. Signals: `value`, `stage`.
use Rattle.std.specs.Prelude.{[], ◌∷◌, Ok, codes}
use Rattle.file_json.specs.Leaves.{whole_at, number_data, FitsWhole}
use Rattle.file_json.specs.Parts.{Reader, object_at, member_at, others_at, members_in}
use Rattle.file_json.specs.Reading.{◌>>=◌}
use Rattle.program.specs.declared.program.Signal.{Signal}
use Rattle.program.specs.declared.program.WaitFor.{WaitFor}
use Rattle.serde_json.specs.Data.{Data, object}
use Rattle.file_program.specs.Masks.{stages_at, stages_data, FitsStages}
use Rattle.file_program.specs.Values.{value_at}

unfoldable pub wait_at : Reader WaitFor
wait_at at d = do
  start ← object_at at d
  queue ← member_at whole_at (codes "queue") at d
  value ← member_at value_at (codes "value") at d
  stages ← member_at stages_at (codes "stage") at d
  end ← others_at (codes "queue" ∷ codes "value" ∷ codes "stage" ∷ []) at d
  Ok (record { queue = queue; value = value; stages = stages })

abbrev pub wait_data : WaitFor → Data
wait_data wait = object (members_in (
    (codes "queue", number_data wait.queue) ∷
    (codes "stage", stages_data wait.stages) ∷
    (codes "value", number_data wait.value) ∷
    []))

-- what the format says of a wait
pub record FitsWait (wait : WaitFor) : Type 0 where
  pub queue : FitsWhole wait.queue
  pub stages : FitsStages wait.stages

unfoldable pub signal_at : Reader Signal
signal_at at d = do
  start ← object_at at d
  value ← member_at value_at (codes "value") at d
  stages ← member_at stages_at (codes "stage") at d
  end ← others_at (codes "value" ∷ codes "stage" ∷ []) at d
  Ok (record { value = value; stages = stages })

abbrev pub signal_data : Signal → Data
signal_data signal = object (members_in (
    (codes "stage", stages_data signal.stages) ∷
    (codes "value", number_data signal.value) ∷
    []))

-- what the format says of a signal
abbrev pub FitsSignal : Signal → Type 0
FitsSignal signal = FitsStages signal.stages
