-- A view as the law of single accesses sees it.
use Rattle.std.specs.Prelude.{ℕ, zero, suc, List, [], ◌∷◌, ◌==◌, ◌&&◌, ◌||◌, not, map, length, drop, slice_index, slice_index_or, Bool, false, Option, Some, None, if◌then◌else◌}
use Rattle.std.specs.List.{list_any, range_with_len}
use Rattle.std.specs.Option.{option_map}
use Rattle.law_runs.specs.Device.{Device}
use Rattle.law_runs.specs.States as states
use Rattle.law_runs.specs.Systems as law
use Rattle.base.specs.Shapes.{bytes_of}
use Rattle.vk.specs.Families.{family_number}
use Rattle.vk.specs.Layouts.{layout_number}
use Rattle.vk.specs.declared.layout.Layout.TheVariants as layouts
use Rattle.check_order.specs.Edges.{edge, is_host, node_at}
use Rattle.device_model.specs.Agents.{agent_of, piece_range, flushes_at, shows_at}
use Rattle.device_model.specs.Outputs.{stored}
use Rattle.device_model.specs.Ready.{is_command, kind_at}
use Rattle.device_model.specs.States.{State, is_idle, is_done}
use Rattle.device_model.specs.Steps.{store_of}
use Rattle.device_model.specs.declared.owner.Owner.{Owner}
use Rattle.device_model.specs.declared.owner.Owner.TheVariants as owners
use Rattle.program.specs.declared.program.Program.{Program}
use Rattle.check_access.specs.AccessKinds.{wanted, is_acquire}
use Rattle.check_access.specs.Views.{View, view_of, accesses_of, family_at, piece_at, overlap, imported_at, shared_at}
use Rattle.check_access.specs.declared.access.Access.{Access}
use Rattle.check_access.specs.declared.access.AccessKind.{AccessKind}
use Rattle.check_access.specs.declared.access.AccessKind.TheVariants.{Load, Store, Transition, Discard, Release, Acquire}
use Rattle.check_access.specs.declared.access.Agent.TheVariants as agent

abbrev pub command_at : View → ℕ → Bool
command_at V n = is_command (kind_at V n)

-- ACCESSES

abbrev pub doing_of : AccessKind → law.Doing
doing_of (Load (agent.Of queue bit) layout) = law.Load
doing_of (Load agent.Host layout) = law.Read
doing_of (Store agent layout) = law.Store
doing_of (Transition layouts) = law.Keep
doing_of (Discard layout) = law.Discard
doing_of (Release handover) = law.Transfer
doing_of (Acquire handover) = law.Transfer

abbrev pub lays_of : AccessKind → Option ℕ
lays_of (Transition layouts) = Some (layout_number layouts.to)
lays_of (Discard layout) = Some (layout_number layout)
lays_of kind = None

abbrev pub family_numbered : View → ℕ → Option ℕ
family_numbered V n = option_map family_number (family_at V n)

abbrev pub hands_of : AccessKind → Option ℕ → Option (Option ℕ)
hands_of (Discard layout) family = Some family
hands_of (Release handover) family = Some None
hands_of (Acquire handover) family = Some family
hands_of kind family = None

abbrev pub access_of : View → ℕ → Access → law.Access
access_of V n a = record {
  piece = a.piece;
  agent = agent_of a.kind;
  doing = doing_of a.kind;
  alone = false;
  wants = option_map layout_number (wanted a.kind);
  lays = lays_of a.kind;
  hands = hands_of a.kind (family_numbered V n);
}

-- THE SYSTEM

-- a change, or a store that is under way for a while
abbrev pub alters : law.Doing → Bool
alters doing = law.changes doing || law.is_long doing

abbrev pub clashes : View → law.Access → law.Access → Bool
clashes V a b =
    (overlap V a.piece b.piece && (alters a.doing || alters b.doing))
    || ((a.piece == b.piece) && (law.transfers a.doing || law.transfers b.doing))

-- discards, what an acquire does, host reads and accesses of concurrent pieces need no owner
abbrev pub needs : View → ℕ → law.Access → Bool
needs V n a = not (law.is_discard a.doing || (list_any (λ c. is_acquire c.kind) (accesses_of V n) || (is_host (node_at V.nodes n).kind || shared_at V a.piece)))

abbrev pub system_of : View → (ℕ → (ℕ → List ℕ) → ℕ → List ℕ) → law.System
system_of V out = record {
  count = length V.nodes;
  is_command = λ n. command_at V n;
  accesses = λ n. map (access_of V n) (accesses_of V n);
  range = piece_range V;
  edge = λ x y. edge V.nodes x y && (not (command_at V x) && not (command_at V y));
  leaves = λ n a x. if command_at V n then edge V.nodes n x else n == x;
  enters = λ y n a. if command_at V n then edge V.nodes y n else n == y;
  flushes = flushes_at V;
  shows = shows_at V;
  contents = λ p. imported_at V p;
  clash = clashes V;
  family = family_numbered V;
  needs_owner = needs V;
  exclusive = λ p. not (shared_at V p);
  first_layout = λ p. layout_number layouts.Undefined;
  first_owner = λ p. None;
  out = out;
}

-- WHAT A COMMAND STORES, BY THE BYTES AT EACH PLACE

-- a load by a command
abbrev pub is_taken : Access → Bool
is_taken a = law.is_load (doing_of a.kind)

-- of the bytes at all places, those of loads
abbrev pub picked : List Access → (ℕ → List ℕ) → List (List ℕ)
picked [] bytes = []
picked (a ∷ rest) bytes = if is_taken a then bytes 0 ∷ picked rest (λ k. bytes (suc k)) else picked rest (λ k. bytes (suc k))

-- of a list of the bytes of loads, those at a place
abbrev pub placed : List Access → List (List ℕ) → ℕ → List ℕ
placed [] bytes k = []
placed (a ∷ rest) bytes zero = if is_taken a then slice_index_or bytes 0 [] else []
placed (a ∷ rest) bytes (suc k) = placed rest (if is_taken a then drop 1 bytes else bytes) k

-- as many bytes
abbrev pub fit : ℕ → List ℕ → List ℕ
fit size bytes = map (λ i. slice_index bytes i) (range_with_len 0 size)

abbrev pub store_size : View → ℕ → ℕ
store_size V n = bytes_of (piece_at V (store_of V n).piece).shape

abbrev pub out_of : Program → ℕ → (ℕ → List ℕ) → ℕ → List ℕ
out_of program n loaded k = fit (store_size (view_of program) n) (stored program n (picked (accesses_of (view_of program) n) loaded))

abbrev pub law_of : Program → law.System
law_of program = system_of (view_of program) (out_of program)

-- A STATE AS A DEVICE OF THE LAW

abbrev pub owner_numbered : Owner → states.Owner
owner_numbered owners.Unused = states.Unused
owner_numbered (owners.Left family) = states.Left (option_map family_number family)

-- a command that has begun, and may have ended
abbrev pub is_started : View → State → ℕ → Bool
is_started V s n = not (is_idle (s.phase n)) && command_at V n

abbrev pub device_of : View → State → Device
device_of V s = record {
  state = record {
    main = s.main;
    line = s.line;
    taken = λ n k. is_started V s n;
    loaded = λ n. placed (accesses_of V n) (s.loaded n);
    done = λ n. is_done (s.phase n);
    marked = λ n k. s.marked n;
    host = s.host;
    layout = λ p. layout_number (s.layout p);
    owner = λ p. owner_numbered (s.owner p);
  };
  begun = is_started V s;
}
