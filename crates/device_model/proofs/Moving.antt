-- Where lines of a cache move, main and lines alone are others.
use Rattle.std.proofs.Common.{◌≡◌, refl}
use Rattle.base.specs.declared.cache_move.CacheMove.{CacheMove}
use Rattle.base.specs.declared.cache_move.MoveKind.{MoveKind}
use Rattle.base.specs.declared.cache_move.MoveKind.TheVariants.{WriteBack, Fill, DropLine}
use Rattle.device_model.specs.States.{State}
use Rattle.device_model.specs.Steps.{lines_moved, moved_by}

pub lines_alone : (s : State) (m : CacheMove) → lines_moved s m ≡ record s { main = (lines_moved s m).main; line = (lines_moved s m).line }
lines_alone s m = by m.kind
  where
    by : (kind : MoveKind) → moved_by kind s m.agent m.range ≡ record s { main = (moved_by kind s m.agent m.range).main; line = (moved_by kind s m.agent m.range).line }
    by WriteBack = refl
    by Fill = refl
    by DropLine = refl
