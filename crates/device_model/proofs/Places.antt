-- What stands at each node of a program without a fault.
use Rattle.std.proofs.Common.{◌≡◌, ◌⊎◌, inl, inr, ℕ, ◌<◌, ◌&&◌, ◌||◌, Bool, true, false, not, List, [], ◌∷◌, length, get_or, slice_get, Option, Some, None, option_and_then, if◌then◌else◌, refl, sym, ap, ◌∙◌, subst}
use Rattle.std.specs.List.{All}
use Rattle.std.specs.Option.{option_map_or}
use Rattle.std.proofs.lemmas.Bool.{and_parts}
use Rattle.std.proofs.lemmas.List.{get_or-map, length-map}
use Rattle.std.proofs.lemmas.List.Elements.{All-nil, All-append}
use Rattle.std.proofs.lemmas.Option.{slice_get-get_or, slice_get_within, get_or_from_slice_get}
use Rattle.base.proofs.Lists.{one}
use Rattle.base.specs.Fits.{fits}
use Rattle.base.specs.InPlace.{in_place}
use Rattle.base.specs.Operands.{mapped}
use Rattle.base.specs.Shapes.{shape_at}
use Rattle.base.specs.declared.op.Op.{Op}
use Rattle.base.specs.declared.shape.Family.{Family}
use Rattle.base.specs.declared.shape.Shape.{Shape}
use Rattle.vk.specs.Layouts.{is_undefined}
use Rattle.vk.specs.declared.layout.Layouts.{Layouts}
use Rattle.check_program.specs.Apart.{op_of, op_in, op_at}
use Rattle.vk.specs.Roles.{op_stage}
use Rattle.check_order.specs.Edges.{is_sync, node_at}
use Rattle.check_order.specs.Nodes.{entry_node, no_node, item_node, host_node}
use Rattle.check_order.specs.declared.kind.Kind.TheVariants as kinds
use Rattle.check_order.specs.declared.node.Node.{Node}
use Rattle.program.specs.Entries.{Entry, OfWait, OfItem, OfSignal, OfHost, entries_of}
use Rattle.program.specs.Numbers.{item_known}
use Rattle.program.specs.Obeys.{EntryObeys}
use Rattle.program.specs.Ranges.{has_operands, op_in_range, item_in_range}
use Rattle.program.specs.Rules.{shapes_of}
use Rattle.program.specs.declared.program.Item.{Item}
use Rattle.program.specs.declared.program.Item.TheVariants.{Command, Global, BufferBarrier, ImageBarrier, Release, Acquire}
use Rattle.program.specs.declared.program.Program.{Program}
use Rattle.program.specs.declared.program.Transfer.{Transfer}
use Rattle.program.specs.declared.rule.Rule.{Rule}
use Rattle.program.specs.declared.rule.Rule.TheVariants as rules
use Rattle.check_access.proofs.Endings.{if_some}
use Rattle.check_access.specs.Effects.{access, same_layout, transition_through, layout_change, handover_of, acquire_accesses, command_accesses, no_effect, item_effect, entry_effect}
use Rattle.check_access.specs.Views.{view_of, accesses_of}
use Rattle.check_access.specs.declared.access.Access.{Access}
use Rattle.check_access.specs.declared.access.Agent.TheVariants as agents
use Rattle.check_access.specs.declared.access.AccessKind.TheVariants as access_kinds

-- ACCESSES OF BARRIERS

-- all are of one piece
abbrev pub OfPiece : ℕ → List Access → Type 0
OfPiece p list = All (λ a. a.piece ≡ p) list

transition_of : (p : ℕ) (layouts : Layouts) → OfPiece p (transition_through p layouts)
transition_of p layouts = by_test (is_undefined layouts.from || same_layout layouts)
  where
    by_test : (b : Bool) → OfPiece p (if b then [] else access p (access_kinds.Transition layouts) ∷ [])
    by_test true = All-nil (λ a. a.piece ≡ p)
    by_test false = one (λ a. a.piece ≡ p) (access p (access_kinds.Transition layouts)) refl

change_of : (p : ℕ) (layouts : Layouts) → OfPiece p (layout_change p layouts)
change_of p layouts = by_test (is_undefined layouts.from)
  where
    by_test : (b : Bool) → OfPiece p (if b then access p (access_kinds.Discard layouts.to) ∷ [] else transition_through p layouts)
    by_test true = one (λ a. a.piece ≡ p) (access p (access_kinds.Discard layouts.to)) refl
    by_test false = transition_of p layouts

acquire_of : (t : Transfer) → OfPiece t.piece (acquire_accesses t)
acquire_of t =
    All-append (λ a. a.piece ≡ t.piece) (option_map_or (transition_through t.piece) t.layouts []) (access t.piece (access_kinds.Acquire (handover_of t)) ∷ [])
    (if_some (λ a. a.piece ≡ t.piece) (transition_through t.piece) t.layouts (λ layouts. transition_of t.piece layouts))
    (one (λ a. a.piece ≡ t.piece) (access t.piece (access_kinds.Acquire (handover_of t))) refl)

-- WHAT AN ENTRY IS

-- a command of queue q
pub record IsOp (shapes : List Shape) (x : Node) (list : List Access) (o : Option (Op ℕ)) (q : ℕ) (op : Op ℕ) : Type 0 where
  pub kind : x.kind ≡ kinds.Command
  pub queue : x.queue ≡ q
  -- its one stage is in both of its masks
  pub waits : x.src_stages.0 ≡ op_stage op
  pub leads : x.dst_stages.0 ≡ op_stage op
  pub accesses : list ≡ command_accesses shapes q op
  pub found : o ≡ Some op
  pub known : has_operands shapes op ≡ true
  pub fit : fits (mapped (shape_at shapes) op) ≡ true

-- a barrier, wait or signal; a barrier has accesses of one piece alone
pub record IsSync (x : Node) (list : List Access) (o : Option (Op ℕ)) : Type 0 where
  pub kind : is_sync x.kind ≡ true
  pub piece : ℕ
  pub of_piece : OfPiece piece list
  pub found : o ≡ None

-- the host's read of piece p
pub record IsRead (program : Program) (x : Node) (list : List Access) (o : Option (Op ℕ)) (p : ℕ) : Type 0 where
  pub node : x ≡ host_node (length program.queues)
  pub accesses : list ≡ access p (access_kinds.Load agents.Host None) ∷ []
  pub found : o ≡ None

abbrev pub What : Program → Node → List Access → Option (Op ℕ) → Type 0
What program node accesses found = ((q : ℕ) × (op : Op ℕ) × IsOp (shapes_of program) node accesses found q op) ⊎ (IsSync node accesses found ⊎ ((p : ℕ) × IsRead program node accesses found p))

-- without accesses
quiet : (program : Program) (x : Node) → is_sync x.kind ≡ true → What program x [] None
quiet program x e = inr (inl (record { kind = e; piece = 0; of_piece = All-nil (λ a. a.piece ≡ 0); found = refl }))

runs : (shapes : List Shape) (op : Op ℕ) → has_operands shapes op ≡ true → op_in_range shapes op ≡ true → fits (mapped (shape_at shapes) op) ≡ true
runs shapes op known e =
    let fit = fits (mapped (shape_at shapes) op) in
    let apart = not (in_place op) in
    (and_parts fit apart (ap (λ b. if b then fit && apart else true) (sym known) ∙ e)).0

item_what : (program : Program) (q : ℕ) (item : Item) → item_known (shapes_of program) item ≡ true → (family : Family) → item_in_range (shapes_of program) family item ≡ true → What program (item_node q item) (item_effect (shapes_of program) q item).accesses (op_of item)
item_what program q (Command op) known family range = inl (q, op, record { kind = refl; queue = refl; waits = refl; leads = refl; accesses = refl; found = refl; known = known; fit = runs (shapes_of program) op known range })
item_what program q (Global masks) known family range = quiet program (item_node q (Global masks)) refl
item_what program q (BufferBarrier piece masks) known family range = quiet program (item_node q (BufferBarrier piece masks)) refl
item_what program q (ImageBarrier piece layouts masks) known family range = inr (inl (record { kind = refl; piece = piece; of_piece = change_of piece layouts; found = refl }))
item_what program q (Release t) known family range = inr (inl (record { kind = refl; piece = t.piece; of_piece = one (λ a. a.piece ≡ t.piece) (access t.piece (access_kinds.Release (handover_of t))) refl; found = refl }))
item_what program q (Acquire t) known family range = inr (inl (record { kind = refl; piece = t.piece; of_piece = acquire_of t; found = refl }))

entry_what : (program : Program) (entry : Entry) → EntryObeys rules.Known program entry → EntryObeys rules.Range program entry → What program (entry_node (length program.queues) entry) (entry_effect (shapes_of program) entry).accesses (op_in entry)
entry_what program (OfWait q wait) known range = quiet program (entry_node (length program.queues) (OfWait q wait)) refl
entry_what program (OfItem q item) known range = item_what program q item known.2 range.0.family range.2
entry_what program (OfSignal q signal) known range = quiet program (entry_node (length program.queues) (OfSignal q signal)) refl
entry_what program (OfHost piece) known range = inr (inr (piece, record { node = refl; accesses = refl; found = refl }))

-- WHAT STANDS AT A NODE

abbrev pub WhatAt : Program → ℕ → Type 0
WhatAt program n = What program (node_at (view_of program).nodes n) (accesses_of (view_of program) n) (op_at program n)

-- what holds of an entry holds at its number
at_entry : (program : Program) (P : Node → List Access → Option (Op ℕ) → Type 0) (n : ℕ) (entry : Entry) → slice_get (entries_of program) n ≡ Some entry → P (entry_node (length program.queues) entry) (entry_effect (shapes_of program) entry).accesses (op_in entry) → P (node_at (view_of program).nodes n) (accesses_of (view_of program) n) (op_at program n)
at_entry program P n entry is h =
    let below : n < length (entries_of program) = slice_get_within (entries_of program) n entry is in
    let e : get_or (entries_of program) n entry ≡ entry = get_or_from_slice_get (entries_of program) n entry entry is in
    subst (λ x. P x (accesses_of (view_of program) n) (op_at program n)) (sym (get_or-map (entry_node (length program.queues)) (entries_of program) n entry no_node below ∙ ap (entry_node (length program.queues)) e))
    (subst (λ u. P (entry_node (length program.queues) entry) u.accesses (op_at program n)) (sym (get_or-map (entry_effect (shapes_of program)) (entries_of program) n entry no_effect below ∙ ap (entry_effect (shapes_of program)) e))
    (subst (λ o. P (entry_node (length program.queues) entry) (entry_effect (shapes_of program) entry).accesses o) (sym (ap (option_and_then op_in) is)) h))

pub host_at : (program : Program) (n p : ℕ) → slice_get (entries_of program) n ≡ Some (OfHost p) → IsRead program (node_at (view_of program).nodes n) (accesses_of (view_of program) n) (op_at program n) p
host_at program n p is = at_entry program (λ x list o. IsRead program x list o p) n (OfHost p) is (record { node = refl; accesses = refl; found = refl })

pub what_at : (program : Program) → ((rule : Rule) → All (EntryObeys rule program) (entries_of program)) → (n : ℕ) → n < length (view_of program).nodes → WhatAt program n
what_at program obeys n lt =
    let below : n < length (entries_of program) = subst (λ m. n < m) (length-map (entries_of program) (entry_node (length program.queues))) lt in
    let entry : Entry = get_or (entries_of program) n (OfHost 0) in
    at_entry program (What program) n entry (slice_get-get_or (entries_of program) n (OfHost 0) below) (entry_what program entry (obeys rules.Known n (OfHost 0) below) (obeys rules.Range n (OfHost 0) below))
