-- What a node does, by what it is.
use Rattle.std.proofs.Common.{◌≡◌, ◌⊎◌, inl, inr, ◌<◌, ◌++◌, ◌||◌, ℕ, Bool, true, false, List, [], ◌∷◌, length, Option, Some, None, if◌then◌else◌, refl}
use Rattle.std.specs.List.{All}
use Rattle.std.specs.Option.{option_map_or}
use Rattle.std.proofs.lemmas.Bool.{ltb-true}
use Rattle.std.proofs.lemmas.List.Elements.{All-nil, All-append}
use Rattle.base.specs.declared.shape.Shape.{Shape}
use Rattle.vk.specs.declared.layout.Layouts.{Layouts}
use Rattle.check_order.specs.Edges.{is_sync}
use Rattle.check_order.specs.Nodes.{wait_node, item_node, signal_node, host_node, no_node}
use Rattle.check_order.specs.declared.kind.Kind.{Kind}
use Rattle.check_order.specs.declared.kind.Kind.TheVariants as kinds
use Rattle.check_order.specs.declared.node.Node.{Node}
use Rattle.program.specs.Numbers.{item_known}
use Rattle.vk.specs.Layouts.{is_undefined}
use Rattle.program.specs.declared.program.Item.{Item}
use Rattle.program.specs.declared.program.Item.TheVariants.{Command, Global, BufferBarrier, ImageBarrier, Release, Acquire}
use Rattle.program.specs.declared.program.Signal.{Signal}
use Rattle.program.specs.declared.program.Transfer.{Transfer}
use Rattle.program.specs.declared.program.WaitFor.{WaitFor}
use Rattle.check_access.proofs.Commands.{by_own_agents, to_known_pieces, store_last}
use Rattle.base.proofs.Lists.{one}
use Rattle.check_access.proofs.Endings.{if_some, Ends, alone}
use Rattle.check_access.specs.AccessKinds.{transfers}
use Rattle.check_access.specs.ValidView.{IsByQueue, IsByBarrier}
use Rattle.check_access.specs.Effects.{access, same_layout, transition_through, layout_change, handover_of, acquire_accesses, no_effect, item_effect, wait_effect, signal_effect, host_effect}
use Rattle.check_access.specs.declared.access.Access.{Access}
use Rattle.check_access.specs.declared.access.Agent.TheVariants as agent
use Rattle.check_access.specs.declared.access.AccessKind.{AccessKind}
use Rattle.check_access.specs.declared.access.AccessKind.TheVariants as access_kinds
use Rattle.check_access.specs.declared.effect.Effect.{Effect}

-- what a node of a node_kind, of queue q, does
abbrev pub Does : Kind → ℕ → AccessKind → Type 0
Does kinds.Command q kind = IsByQueue q kind
Does kinds.Barrier q kind = IsByBarrier kind
Does (kinds.Wait queue value) q kind = IsByBarrier kind
Does (kinds.Signal value) q kind = IsByBarrier kind
Does kinds.Host q kind = kind ≡ access_kinds.Load agent.Host None

pub record FitsNode (pieces : ℕ) (node : Node) (effect : Effect) : Type 0 where
  pub known : All (λ a. a.piece < pieces) effect.accesses
  pub last : Ends effect.accesses
  pub does : All (λ a. Does node.kind node.queue a.kind) effect.accesses
  pub silent : (is_sync node.kind ≡ true) ⊎ ((effect.available ≡ 0) × (effect.visible ≡ 0))

-- BARRIERS

transition_each : (P : Access → Type 0) (piece : ℕ) (layouts : Layouts) → P (access piece (access_kinds.Transition layouts)) → All P (transition_through piece layouts)
transition_each P piece layouts p = by_test (is_undefined layouts.from || same_layout layouts)
  where
    by_test : (b : Bool) → All P (if b then [] else access piece (access_kinds.Transition layouts) ∷ [])
    by_test true = All-nil P
    by_test false = one P (access piece (access_kinds.Transition layouts)) p

layout_change_each : (P : Access → Type 0) (piece : ℕ) (layouts : Layouts) → P (access piece (access_kinds.Discard layouts.to)) → P (access piece (access_kinds.Transition layouts)) → All P (layout_change piece layouts)
layout_change_each P piece layouts d k = by_test (is_undefined layouts.from)
  where
    by_test : (b : Bool) → All P (if b then access piece (access_kinds.Discard layouts.to) ∷ [] else transition_through piece layouts)
    by_test true = one P (access piece (access_kinds.Discard layouts.to)) d
    by_test false = transition_each P piece layouts k

transition_ends : (piece : ℕ) (layouts : Layouts) → Ends (transition_through piece layouts)
transition_ends piece layouts = by_test (is_undefined layouts.from || same_layout layouts)
  where
    by_test : (b : Bool) → Ends (if b then [] else access piece (access_kinds.Transition layouts) ∷ [])
    by_test true = tt
    by_test false = alone (access piece (access_kinds.Transition layouts))

layout_change_ends : (piece : ℕ) (layouts : Layouts) → Ends (layout_change piece layouts)
layout_change_ends piece layouts = by_test (is_undefined layouts.from)
  where
    by_test : (b : Bool) → Ends (if b then access piece (access_kinds.Discard layouts.to) ∷ [] else transition_through piece layouts)
    by_test true = alone (access piece (access_kinds.Discard layouts.to))
    by_test false = transition_ends piece layouts

abbrev acquire : Transfer → Access
acquire t = access t.piece (access_kinds.Acquire (handover_of t))

acquire_ends : (t : Transfer) → Ends (acquire_accesses t)
acquire_ends t = by_layouts t.layouts
  where
    by_test : (layouts : Layouts) (b : Bool) → Ends ((if b then [] else access t.piece (access_kinds.Transition layouts) ∷ []) ++ acquire t ∷ [])
    by_test layouts true = alone (acquire t)
    by_test layouts false = (λ c. one (λ b. transfers b.kind ≡ true) (acquire t) refl, λ c. absurd cc, alone (acquire t))

    by_layouts : (o : Option Layouts) → Ends (option_map_or (transition_through t.piece) o [] ++ acquire t ∷ [])
    by_layouts None = alone (acquire t)
    by_layouts (Some layouts) = by_test layouts (is_undefined layouts.from || same_layout layouts)

acquire_each : (P : Access → Type 0) (t : Transfer) → ((layouts : Layouts) → P (access t.piece (access_kinds.Transition layouts))) → P (access t.piece (access_kinds.Acquire (handover_of t))) → All P (acquire_accesses t)
acquire_each P t k a =
    All-append P (option_map_or (transition_through t.piece) t.layouts []) (acquire t ∷ [])
    (if_some P (transition_through t.piece) t.layouts (λ layouts. transition_each P t.piece layouts (k layouts)))
    (one P (acquire t) a)

-- ITEMS

pub item_fits : (shapes : List Shape) (q : ℕ) (item : Item) → item_known shapes item ≡ true → FitsNode (length shapes) (item_node q item) (item_effect shapes q item)
item_fits shapes q (Command op) h = record { known = to_known_pieces shapes q op h; last = store_last shapes q op; does = by_own_agents shapes q op; silent = inr (refl, refl) }
item_fits shapes q (Global masks) h = record { known = All-nil (λ a. a.piece < length shapes); last = tt; does = All-nil (λ a. IsByBarrier a.kind); silent = inl refl }
item_fits shapes q (BufferBarrier piece masks) h = record { known = All-nil (λ a. a.piece < length shapes); last = tt; does = All-nil (λ a. IsByBarrier a.kind); silent = inl refl }
item_fits shapes q (ImageBarrier piece layouts masks) h =
    let lt : piece < length shapes = ltb-true piece (length shapes) h in
    record {
      known = layout_change_each (λ a. a.piece < length shapes) piece layouts lt lt;
      last = layout_change_ends piece layouts;
      does = layout_change_each (λ a. IsByBarrier a.kind) piece layouts (inl refl) (inl refl);
      silent = inl refl;
    }
item_fits shapes q (Release t) h =
    let lt : t.piece < length shapes = ltb-true t.piece (length shapes) h in
    let release = access t.piece (access_kinds.Release (handover_of t)) in
    record {
      known = one (λ a. a.piece < length shapes) release lt;
      last = alone release;
      does = one (λ a. IsByBarrier a.kind) release (inr refl);
      silent = inl refl;
    }
item_fits shapes q (Acquire t) h =
    let lt : t.piece < length shapes = ltb-true t.piece (length shapes) h in
    record {
      known = acquire_each (λ a. a.piece < length shapes) t (λ layouts. lt) lt;
      last = acquire_ends t;
      does = acquire_each (λ a. IsByBarrier a.kind) t (λ layouts. inl refl) (inr refl);
      silent = inl refl;
    }

-- OTHER NODES

pub wait_fits : (n q : ℕ) (wait : WaitFor) → FitsNode n (wait_node q wait) (wait_effect wait)
wait_fits n q wait = record { known = All-nil (λ a. a.piece < n); last = tt; does = All-nil (λ a. IsByBarrier a.kind); silent = inl refl }

pub signal_fits : (n q : ℕ) (signal : Signal) → FitsNode n (signal_node q signal) (signal_effect signal)
signal_fits n q signal = record { known = All-nil (λ a. a.piece < n); last = tt; does = All-nil (λ a. IsByBarrier a.kind); silent = inl refl }

pub host_fits : (n queues piece : ℕ) → piece < n → FitsNode n (host_node queues) (host_effect piece)
host_fits n queues piece lt =
    let read = access piece (access_kinds.Load agent.Host None) in
    record { known = one (λ a. a.piece < n) read lt; last = alone read; does = one (λ a. a.kind ≡ access_kinds.Load agent.Host None) read refl; silent = inr (refl, refl) }

pub no_node_fits : (n : ℕ) → FitsNode n no_node no_effect
no_node_fits n = record { known = All-nil (λ a. a.piece < n); last = tt; does = All-nil (λ a. IsByQueue 0 a.kind); silent = inr (refl, refl) }
