-- What the masks of barriers do for the accesses of a group.
use Rattle.std.specs.Prelude.{◌≡◌, ℕ, ◌+◌, true, false}
use Rattle.vk.specs.Sets.{meets}
use Rattle.law_plan.specs.Crossings.{Sooner, Flushes, Shows}
use Rattle.law_plan.specs.Nodes.{Nodes}
use Rattle.law_plan.specs.Plans.{Plan}
use Rattle.law_plan.specs.Spots.{OfMember, OfReader}
use Rattle.check_order.specs.Edges.{node_at}
use Rattle.law_nodes.specs.Passing.{UpTo, MadeVisibleBy}
use Rattle.check_access.specs.Views.{View}
use Rattle.check_access.specs.declared.access.Access.{Access}

-- barrier t waits for node x and makes available what its access a left
pub record Takes (V : View) (x : ℕ) (a : Access) (t : ℕ) : Type 0 where
  pub stage : meets (node_at V.nodes x).dst_stages.0 (node_at V.nodes t).src_stages.0 ≡ true
  pub flushes : Flushes a.kind V t a.piece

-- node y waits for barrier t, which makes memory visible to its access b
pub record Gives (V : View) (t y : ℕ) (b : Access) : Type 0 where
  pub stage : meets (node_at V.nodes t).dst_stages.0 (node_at V.nodes y).src_stages.0 ≡ true
  pub shows : Shows b.kind V t b.piece

-- on the way from node t memory is made visible to access b of node y
pub record Leaves (V : View) (t y : ℕ) (b : Access) : Type 0 where
  pub from : UpTo V t y
  pub shown : (z : ℕ) × UpTo V t z × MadeVisibleBy V y b z

-- on one queue a prologue serves the members of the group before it and of its own, and a release those of its group; what stands
-- before a host read serves that
pub record Masks (F : Plan) (V : View) (N : Nodes) : Type 0 where
  pub takes_prologue : (g c : ℕ) (a : Access) → F.piece g ≡ F.piece (g + 1) → N.released g ≡ false → OfMember F V N c g a → Sooner V.nodes (N.command c) (N.prologue (g + 1)) → Takes V (N.command c) a (N.prologue (g + 1))
  pub takes_release : (g c : ℕ) (a : Access) → N.released g ≡ true → OfMember F V N c g a → Sooner V.nodes (N.command c) (N.release g) → Takes V (N.command c) a (N.release g)
  pub gives : (h d : ℕ) (b : Access) → N.has_prologue h ≡ true → OfMember F V N d h b → Sooner V.nodes (N.prologue h) (N.command d) → Gives V (N.prologue h) (N.command d) b
  pub reads : (h : ℕ) (b : Access) → N.has_prologue h ≡ true → OfReader F V N h b → Leaves V (N.prologue h) (N.reader h) b
