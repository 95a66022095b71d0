-- Which nodes may go on, and what goes wrong where they meet.
use Rattle.std.specs.Prelude.{ℕ, ◌+◌, ◌==◌, ◌&&◌, ◌||◌, nat_le, nat_lt, not, length, Bool, true, false, Option, Some, None}
use Rattle.std.specs.List.{list_any, list_all, range_with_len}
use Rattle.base.specs.declared.shape.Family.{Family}
use Rattle.vk.specs.Families.{family_number}
use Rattle.vk.specs.Layouts.{layout_number}
use Rattle.vk.specs.declared.layout.Layout.{Layout}
use Rattle.device_model.specs.States.{is_idle, is_begun, is_done, State}
use Rattle.device_model.specs.declared.owner.Owner.{Owner}
use Rattle.device_model.specs.declared.phase.Phase.{Phase}
use Rattle.device_model.specs.declared.owner.Owner.TheVariants.{Left}
use Rattle.check_order.specs.Edges.{edge, node_at}
use Rattle.check_order.specs.declared.kind.Kind.{Kind}
use Rattle.check_order.specs.declared.kind.Kind.TheVariants.{Command, Wait}
use Rattle.check_state.specs.StateValid.{needs_owner}
use Rattle.program.specs.Entries.{first_node}
use Rattle.program.specs.declared.program.Program.{Program}
use Rattle.check_access.specs.AccessKinds.{changes, transfers, wanted}
use Rattle.check_access.specs.Views.{View, accesses_of, family_at, overlap, clash, node_access}
use Rattle.check_access.specs.declared.access.Access.{Access}

abbrev pub is_command : Kind → Bool
is_command Command = true
is_command kind = false

abbrev pub kind_at : View → ℕ → Kind
kind_at V n = (node_at V.nodes n).kind

-- the node of a read-back: host reads come after the nodes of all queues
abbrev pub read_node : Program → ℕ → ℕ
read_node program k = first_node program (length program.queues) + k

-- some node, each node
abbrev pub some_node : View → (ℕ → Bool) → Bool
some_node V test = list_any test (range_with_len 0 (length V.nodes))

abbrev pub each_node : View → (ℕ → Bool) → Bool
each_node V test = list_all test (range_with_len 0 (length V.nodes))

-- a timeline has reached the value that is waited for
abbrev pub reached : Kind → (ℕ → ℕ) → Bool
reached (Wait queue value) counter = nat_le value (counter queue)
reached kind counter = true

-- it is idle, every node with a direct edge to it is done, and it waits for nothing
abbrev pub may_go : View → (ℕ → Phase) → (ℕ → ℕ) → ℕ → Bool
may_go V phase counter n =
    nat_lt n (length V.nodes)
    && (is_idle (phase n)
    && (each_node V (λ x. not (edge V.nodes x n) || is_done (phase x))
    && reached (kind_at V n) counter))

abbrev pub ready : View → State → ℕ → Bool
ready V s n = may_go V s.phase s.counter n

-- LOADS

-- another node is a begun command that stores to bytes of the piece
abbrev pub stores_over : View → ℕ → ℕ → Bool
stores_over V p x = list_any (λ a. changes a.kind && overlap V a.piece p) (accesses_of V x)

abbrev pub is_torn : View → State → ℕ → ℕ → Bool
is_torn V s n p = some_node V (λ x. not (x == n) && (is_begun (s.phase x) && stores_over V p x))

abbrev pub is_wrong : Option Layout → Layout → Bool
is_wrong None layout = false
is_wrong (Some want) layout = not (layout_number want == layout_number layout)

-- another family owns it
abbrev pub is_foreign : Owner → Option Family → Bool
is_foreign (Left (Some owner)) (Some family) = not (family_number owner == family_number family)
is_foreign owner family = false

-- the bytes that the access loads are junk: a begun command stores to them, the layout is another one, or another family owns
-- the piece
abbrev pub loads_undefined : View → State → ℕ → Access → Bool
loads_undefined V s n a =
    is_torn V s n a.piece
    || (is_wrong (wanted a.kind) (s.layout a.piece)
    || (needs_owner V (node_access n a) && is_foreign (s.owner a.piece) (family_at V n)))

-- STORES

-- a change by node x clashes with what node n does
abbrev pub hits : View → ℕ → ℕ → Bool
hits V x n = not (x == n) && list_any (λ a. changes a.kind && list_any (λ b. not (transfers b.kind) && clash V a b) (accesses_of V n)) (accesses_of V x)

-- begun commands whose store clashes with what node n does are marked
abbrev pub marked_by : View → State → ℕ → ℕ → Bool
marked_by V s n x = s.marked x || (is_begun (s.phase x) && hits V x n)
