-- What is known of a compiled program by the laws of the crates below.
use Rattle.std.proofs.Common.{◌≡◌, ℕ, ◌+◌, ◌<◌, true, false, length, map}
use Rattle.std.specs.List.{All}
use Rattle.base.specs.Shapes.{is_image, shape_at}
use Rattle.law_sound.proofs.Commands.{Sort}
use Rattle.law_sound.proofs.Exports.{AreCopied}
use Rattle.law_sound.specs.Nodes.{steps}
use Rattle.law_sound.specs.Plan.{export_count}
use Rattle.law_schedule.specs.Later.{AreSooner}
use Rattle.law_schedule.specs.Standing.{AllStand, AreThese}
use Rattle.compile_groups.specs.Laws.{IsGrouped, IsKnown}
use Rattle.compile_groups.specs.Placed.{is_import}
use Rattle.compile_groups.specs.declared.grouping.Grouping.{Grouping}
use Rattle.compile_record.specs.Pieces.{has_piece, piece_of, pieces, readbacks}
use Rattle.compile_record.specs.Standing.{IsStanding}
use Rattle.program.specs.declared.program.Program.{Program}
use Rattle.compile_timeline.specs.Laws.{Ends}
use Rattle.compile_timeline.specs.Steps.{IsScript}
use Rattle.compile_barriers.specs.Under.{Heap}
use Rattle.check_access.specs.Views.{imported_at, view_of}

pub record IsSet (G : Grouping) (heap : Heap) (P : Program) : Type 0 where
  pub grouped : IsGrouped G
  pub known : IsKnown G
  pub sorts : All (Sort G) G.commands
  pub copied : AreCopied G
  -- imports and the buffers of exports are no images
  pub imports : (unit : ℕ) → is_import G unit ≡ true → is_image (shape_at G.shapes unit) ≡ false
  pub buffers : (k : ℕ) → k < export_count G → is_image (shape_at G.shapes (length G.imports + k)) ≡ false
  -- the piece of an import begins with its bytes
  pub imported : (unit : ℕ) → unit < length G.imports → is_import G unit ≡ true → has_piece G unit ≡ true → imported_at (view_of P) (piece_of G unit) ≡ true
  pub script : IsScript (steps G heap) (length G.families)
  pub standing : IsStanding G heap
  pub stand : AllStand P (steps G heap) (length G.families)
  pub all : AreThese P (steps G heap) (length G.families)
  pub sooner : AreSooner P (steps G heap) (length G.families)
  pub ends : Ends (steps G heap) (length G.families)
  pub families : map (λ queue. queue.family) P.queues ≡ G.families
  pub pieces : P.pieces ≡ pieces G heap.offsets
  pub readbacks : P.readbacks ≡ readbacks G
