-- Programs: `format`, `memories`, `pieces`, `queues`, `readbacks`.
use Rattle.std.specs.Prelude.{ℕ, [], ◌∷◌, Ok, codes}
use Rattle.std.specs.List.{AllByRecursion}
use Rattle.file_json.specs.Leaves.{number_at, whole_at, number_data, FitsWhole}
use Rattle.file_json.specs.Parts.{Reader, object_at, member_at, list_at, others_at, array_of, members_in}
use Rattle.file_json.specs.Reading.{◌>>=◌}
use Rattle.program.specs.declared.program.Program.{Program}
use Rattle.serde_json.specs.Data.{Data, object}
use Rattle.file_program.specs.Batches.{queue_at, queue_data, FitsQueue}
use Rattle.file_program.specs.Memories.{memory_at, memory_data, FitsMemory}
use Rattle.file_program.specs.Pieces.{pieces_at, piece_data, FitsPiece}

-- the members after `format`
unfoldable pub parts_at : ℕ → Reader Program
parts_at format at d = do
  memories ← member_at (list_at memory_at) (codes "memories") at d
  pieces ← member_at (pieces_at format) (codes "pieces") at d
  queues ← member_at (list_at queue_at) (codes "queues") at d
  readbacks ← member_at (list_at whole_at) (codes "readbacks") at d
  end ← others_at (codes "format" ∷ codes "memories" ∷ codes "pieces" ∷ codes "queues" ∷ codes "readbacks" ∷ []) at d
  Ok (record { memories = memories; pieces = pieces; queues = queues; readbacks = readbacks })

-- the format is examined before all else, and is 1 or 2
unfoldable pub program_at : Reader Program
program_at at d = do
  start ← object_at at d
  format ← member_at (number_at 1 2) (codes "format") at d
  parts_at format at d

-- a program as it is written, in format 2
abbrev pub program_data : Program → Data
program_data program = object (members_in (
    (codes "format", number_data 2) ∷
    (codes "memories", array_of memory_data program.memories) ∷
    (codes "pieces", array_of piece_data program.pieces) ∷
    (codes "queues", array_of queue_data program.queues) ∷
    (codes "readbacks", array_of number_data program.readbacks) ∷
    []))

-- what the format says of a program, whichever file it comes from
pub record FitsProgram (program : Program) : Type 0 where
  pub memories : AllByRecursion FitsMemory program.memories
  pub pieces : AllByRecursion FitsPiece program.pieces
  pub queues : AllByRecursion FitsQueue program.queues
  pub readbacks : AllByRecursion FitsWhole program.readbacks
