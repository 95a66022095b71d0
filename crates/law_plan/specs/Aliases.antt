-- Units that lie in the same bytes.
use Rattle.std.specs.Prelude.{◌≡◌, ◌≢◌, ◌⊎◌, ℕ, ◌<◌, true, false}
use Rattle.law_plan.specs.Crossings.{Sooner, Later}
use Rattle.law_plan.specs.Masks.{Takes}
use Rattle.law_plan.specs.Nodes.{Nodes, IsBarrier}
use Rattle.law_plan.specs.Plans.{Plan}
use Rattle.law_plan.specs.Spots.{OfMember}
use Rattle.law_nodes.specs.Passing.{UpTo}
use Rattle.check_access.specs.Views.{View, overlap}
use Rattle.check_access.specs.declared.access.Access.{Access}

-- the unit of group g is ordered before that of group h, and overlaps it
pub record Beside (F : Plan) (g h : ℕ) : Type 0 where
  pub last : ℕ
  pub first : ℕ
  pub same_last : F.piece last ≡ F.piece g
  pub same_first : F.piece first ≡ F.piece h
  pub over : F.over last first ≡ true

pub record Aliases (F : Plan) (V : View) (N : Nodes) : Type 0 where
  -- two units that overlap are ordered
  pub ordered : (g h : ℕ) → g < F.groups → h < F.groups → F.piece g ≢ F.piece h → overlap V (F.piece g) (F.piece h) ≡ true → Beside F g h ⊎ Beside F h g
  -- between them stands an alias barrier that serves the members of the earlier unit's last group, and that group is not released
  pub barriers : (g h : ℕ) → F.over g h ≡ true → IsBarrier V (N.alias h)
  pub into : (g h c : ℕ) → F.over g h ≡ true → F.member c g ≡ true → Later V.nodes (N.command c) (N.alias h)
  pub takes : (g h c : ℕ) (a : Access) → F.over g h ≡ true → OfMember F V N c g a → Sooner V.nodes (N.command c) (N.alias h) → Takes V (N.command c) a (N.alias h)
  pub onto : (g h : ℕ) → F.over g h ≡ true → UpTo V (N.alias h) (N.prologue h)
  pub kept : (g h : ℕ) → F.over g h ≡ true → N.released g ≡ false
