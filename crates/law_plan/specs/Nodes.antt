-- The nodes of a recorded program by what they are for.
use Rattle.std.specs.Prelude.{◌≡◌, ℕ, ◌+◌, ◌<◌, Bool, true, false}
use Rattle.law_plan.specs.Crossings.{Sooner, Crossed, Later, Open}
use Rattle.law_plan.specs.Plans.{Plan, leads}
use Rattle.check_order.specs.Edges.{is_host, is_sync, node_at}
use Rattle.check_order.specs.declared.kind.Kind.TheVariants.{Command}
use Rattle.check_access.specs.Views.{View}

pub record Nodes : Type 0 where
  -- the node of a command
  pub command : ℕ → ℕ
  -- what stands right before a group: its prologue, a barrier, or an acquire, whichever stands last; and whether something does
  pub prologue : ℕ → ℕ
  pub has_prologue : ℕ → Bool
  -- the barrier before a group whose bytes another unit had
  pub alias : ℕ → ℕ
  -- the release after a group, and whether there is one
  pub release : ℕ → ℕ
  pub released : ℕ → Bool
  -- the host read of a group
  pub reader : ℕ → ℕ

-- WHAT THEY ARE

pub record IsCommand (V : View) (n : ℕ) : Type 0 where
  pub kind : (node_at V.nodes n).kind ≡ Command
  pub opened : Open V.nodes n

-- a barrier, a release or an acquire
pub record IsBarrier (V : View) (n : ℕ) : Type 0 where
  pub sync : is_sync (node_at V.nodes n).kind ≡ true
  pub opened : Open V.nodes n

pub record Roles (F : Plan) (V : View) (N : Nodes) : Type 0 where
  pub commands : (c g : ℕ) → F.member c g ≡ true → IsCommand V (N.command c)
  pub prologues : (h : ℕ) → N.has_prologue h ≡ true → IsBarrier V (N.prologue h)
  pub releases : (g : ℕ) → N.released g ≡ true → IsBarrier V (N.release g)
  pub readers : (h : ℕ) → F.host h ≡ true → is_host (node_at V.nodes (N.reader h)).kind ≡ true

-- WHERE THEY ARE

pub record Places (F : Plan) (V : View) (N : Nodes) : Type 0 where
  -- commands of one queue in their order
  pub steps : (c d : ℕ) → F.queue c ≡ F.queue d → c < d → d < F.count → Sooner V.nodes (N.command c) (N.command d)
  -- a prologue stands before each group that another leads to, after the members of the group before it and before its own members
  pub has_prologue : (g h : ℕ) → leads F g h ≡ true → N.has_prologue h ≡ true
  pub into_prologue : (g c : ℕ) → F.piece g ≡ F.piece (g + 1) → N.released g ≡ false → F.member c g ≡ true → Later V.nodes (N.command c) (N.prologue (g + 1))
  pub onto : (h d : ℕ) → N.has_prologue h ≡ true → F.member d h ≡ true → Later V.nodes (N.prologue h) (N.command d)
  -- where a group is released, the release stands between
  pub into_release : (g c : ℕ) → N.released g ≡ true → F.member c g ≡ true → Later V.nodes (N.command c) (N.release g)
  pub into_acquire : (g h : ℕ) → N.released g ≡ true → leads F g h ≡ true → Crossed V.nodes (N.release g) (N.prologue h)
