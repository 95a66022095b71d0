-- Scopes change nothing in a program of formats 1 and 2.
use Rattle.std.proofs.lemmas.Nat.{pow_pos}
use Rattle.check_access.specs.declared.effect.Scope.TheVariants.{Everywhere, Piece}
use Rattle.check_access.specs.declared.effect.Scope.{Scope}
use Rattle.check_access.specs.declared.effect.Effect.{Effect}
use Rattle.check_access.specs.Effects.{access, layout_change, handover_of, acquire_accesses, no_effect, barrier_effect, item_effect, entry_effect}
use Rattle.program.specs.Rules.{shapes_of}
use Rattle.check_access_order.proofs.Sites.{ByCommand, Site, site, barrier_stage, has_within}
use Rattle.check_access_order.proofs.Singles.{single}
use Rattle.check_access_order.proofs.NodeKinds.{is_the_command}
use Rattle.vk.specs.Support.{supports, supported, supported_part}
use Rattle.vk.specs.Agents.{host_agent}
use Rattle.vk.specs.Accesses.{accesses as access_rows, Access as AccessRow}
use Rattle.base.specs.declared.shape.Shape.{Shape}
use Rattle.check_access.specs.ValidView.{ValidView, Has}
use Rattle.std.proofs.Common.{◌≡◌, ◌⊎◌, ◌↔◌, inl, inr, ℕ, ◌<◌, ◌≤◌, Bool, true, false, ◌||◌, ◌&&◌, ◌==◌, nat_lt, not, length, get_or, Some, bit_or, if◌then◌else◌, refl, sym, ap, ◌∙◌, subst, ⊎_elim, List, [], ◌∷◌, None, ◌^◌, arith}
use Rattle.std.proofs.lemmas.Bool.{and_parts, cases_lt}
use Rattle.std.proofs.lemmas.List.{get_or-map, get_or_past, length-map}
use Rattle.std.specs.List.{All, list_all}
use Rattle.base.proofs.Booleans.{clash}
use Rattle.base.specs.declared.shape.Family.{Family}
use Rattle.base.specs.declared.shape.Family.TheVariants.{Graphics, Compute, Transfer}
use Rattle.vk.specs.Families.{family_number, on_family, stages_of}
use Rattle.vk.specs.Sets.{meets, has, union_from}
use Rattle.vk.specs.Stages.{host, expand, copy, compute_shader, color_attachment_output}
use Rattle.vk.specs.declared.masks.Masks.{Masks}
use Rattle.check_order.specs.Edges.{is_sync, node_at, signalled, meeting, is_at, sync_holds_back, sync_edge}
use Rattle.check_order.specs.Nodes.{barrier_node, item_node, entry_node, no_node}
use Rattle.check_order.specs.declared.node.Node.{Node}
use Rattle.law_alike.proofs.Bits.{AgentBit, known_bit}
use Rattle.law_alike.proofs.Same.{Like, Likes, mapped, node_like, link_same}
use Rattle.law_narrow.specs.Scoped.{barrier_scopes, item_scopes, entry_scopes, scoped_view, barrier_effects, item_effects, entry_effects, all_memory}
use Rattle.law_alike.specs.Alike.{Alike}
use Rattle.check_access_order.specs.Edges.{waits_for, lets_in}
use Rattle.check_access_order.specs.Passing.{FlushedBy, ShownBy}
use Rattle.check_access_order.specs.Stages.{bit_stage, stage_by, stage_of}
use Rattle.check_scopes.proofs.AgentRows.{agents_alike, scopes_have_stages}
use Rattle.check_scopes.proofs.Alike.{meets_alike, waits_alike, lets_alike}
use Rattle.check_scopes.proofs.Rows.{meets_turned, meets_either, within, has_both, has_nothing}
use Rattle.check_scopes.specs.Laws.{old_words, old_access_words, IsOld, IsOldStage}
use Rattle.check_scopes.specs.Scopes.{expanded, waited_for, waiting}
use Rattle.program.specs.Barriers.{both_on_family, both_supported, masks_are, on_queue}
use Rattle.program.specs.Entries.{Entry, OfWait, OfItem, OfSignal, OfHost, entries_of}
use Rattle.program.specs.Obeys.{EntryObeys}
use Rattle.program.specs.declared.program.Item.{Item}
use Rattle.program.specs.declared.program.Item.TheVariants.{Command, Global, BufferBarrier, ImageBarrier, Release, Acquire}
use Rattle.program.specs.declared.program.Program.{Program}
use Rattle.program.specs.declared.rule.Rule.TheVariants as rules
use Rattle.check_access.specs.Views.{View, view_of, is_on, effect_at, makes_available, makes_visible}
use Rattle.check_access.specs.declared.access.AccessKind.{AccessKind}
use Rattle.check_access.specs.declared.access.AccessKind.TheVariants.{Load, Store, Transition, Discard}
use Rattle.check_access.specs.declared.access.AccessKind.TheVariants as access_kinds
use Rattle.check_access.specs.declared.access.Agent.{Agent}
use Rattle.check_access.specs.declared.access.Agent.TheVariants as agents
use Rattle.std.specs.Int.Bits.{and_zero_l}
use Rattle.base.proofs.Absence.{some_same}
use Rattle.check_access.specs.declared.access.Access.{Access}

-- MASKS

family_old : (family : Family) (mask : ℕ) → on_family mask (family_number family) ≡ true → IsOld mask
family_old Graphics mask h = within old_words (stages_of 0) mask refl h
family_old Compute mask h = within old_words (stages_of 1) mask refl h
family_old Transfer mask h = within old_words (stages_of 2) mask refl h

nothing : (t : ℕ) → meets 0 t ≡ false
nothing t = ap (λ z. not (z == 0)) (and_zero_l t)

nothing_back : (t : ℕ) → meets t 0 ≡ false
nothing_back t = meets_turned t 0 ∙ nothing t

is_host_stage : IsOldStage host
is_host_stage = inr (inr (inr (inr refl)))

-- what waits for a node: old and new meet the same masks and stages
pub record DstFits (old new : ℕ) : Type 0 where
  pub mask : (n : ℕ) → IsOld n → meets new (waited_for n) ≡ meets old (expand n)
  pub stage : (s : ℕ) → IsOldStage s → meets new s ≡ meets old s

-- what a node waits for
pub record SrcFits (old new : ℕ) : Type 0 where
  pub dst : (d e : ℕ) → DstFits d e → meets e new ≡ meets d old
  pub stage : (s : ℕ) → IsOldStage s → meets s new ≡ meets s old

dst_mask : (m : ℕ) → IsOld m → DstFits (expand m) (waiting m)
dst_mask m h = record { mask = λ n k. meets_alike m n h k; stage = λ s k. lets_alike m s h k }

dst_none : DstFits 0 0
dst_none = record { mask = λ n k. nothing (waited_for n) ∙ sym (nothing (expand n)); stage = λ s k. refl }

src_mask : (n : ℕ) → IsOld n → SrcFits (expand n) (waited_for n)
src_mask n h = record { dst = λ d e f. f.mask n h; stage = λ s k. waits_alike s n k h }

src_none : SrcFits 0 0
src_none = record { dst = λ d e f. nothing_back e ∙ sym (nothing_back d); stage = λ s k. refl }

-- with the host
src_host : (old new : ℕ) → SrcFits old new → SrcFits (bit_or old host) (bit_or new host)
src_host old new f = record {
  dst = λ d e g. with_host e new ∙ ap (λ t. t || meets e host) (f.dst d e g) ∙ ap (λ t. meets d old || t) (g.stage host is_host_stage) ∙ sym (with_host d old);
  stage = λ s k. with_host s new ∙ ap (λ t. t || meets s host) (f.stage s k) ∙ sym (with_host s old);
}
  where
    with_host : (t a : ℕ) → meets t (bit_or a host) ≡ (meets t a || meets t host)
    with_host t a = meets_turned t (bit_or a host) ∙ meets_either a host t ∙ ap (λ z. z || meets host t) (meets_turned a t) ∙ ap (λ z. meets t a || z) (meets_turned host t)

-- NODES

-- a synchronizing node and its scopes
pub record Fits (a b : Node) : Type 0 where
  pub dst : DstFits a.dst_stages.0 b.dst_stages.0
  pub src : SrcFits a.src_stages.0 b.src_stages.0

abbrev FitsSync : Node → Node → Type 0
FitsSync a b = is_sync a.kind ≡ true → Fits a b

barrier_fits : (masks : Masks) (family : Family) → both_on_family family masks ≡ true → Fits (barrier_node 0 masks) (barrier_scopes 0 masks)
barrier_fits masks family h =
    let p = and_parts (on_family masks.src_stages.0 (family_number family)) (on_family masks.dst_stages.0 (family_number family)) h in
    record { dst = dst_mask masks.dst_stages.0 (family_old family masks.dst_stages.0 p.1); src = src_mask masks.src_stages.0 (family_old family masks.src_stages.0 p.0) }

item_fits : (q : ℕ) (item : Item) (family : Family) → masks_are (both_on_family family) item ≡ true → FitsSync (item_node q item) (item_scopes q item)
item_fits q (Command op) family h s = absurd (clash s)
item_fits q (Global masks) family h s = let f = barrier_fits masks family h in record { dst = f.dst; src = f.src }
item_fits q (BufferBarrier piece masks) family h s = let f = barrier_fits masks family h in record { dst = f.dst; src = f.src }
item_fits q (ImageBarrier piece layouts masks) family h s = let f = barrier_fits masks family h in record { dst = f.dst; src = f.src }
item_fits q (Release transfer) family h s = let f = barrier_fits transfer.masks family h in record { dst = f.dst; src = f.src }
item_fits q (Acquire transfer) family h s = let f = barrier_fits transfer.masks family h in record { dst = f.dst; src = f.src }

queue_old : (family : Family) (stages : ℕ) → on_queue family stages ≡ true → IsOld stages
queue_old family stages h = family_old family stages (and_parts (on_family stages (family_number family)) (not (meets stages host)) h).0

entry_fits : (program : Program) (e : Entry) → EntryObeys rules.OnQueue program e → FitsSync (entry_node (length program.queues) e) (entry_scopes (length program.queues) e)
entry_fits program (OfWait q wait) o s = record { dst = dst_mask wait.stages.0 (queue_old o.0.family wait.stages.0 o.2); src = src_none }
entry_fits program (OfItem q item) o s = item_fits q item o.0.family o.2 s
entry_fits program (OfSignal q signal) o s = record { dst = dst_none; src = src_host (expand signal.stages.0) (waited_for signal.stages.0) (src_mask signal.stages.0 (queue_old o.0.family signal.stages.0 o.3)) }
entry_fits program (OfHost piece) o s = absurd (clash s)

item_like : (q : ℕ) (item : Item) → Like (item_node q item) (item_scopes q item)
item_like q (Command op) = record { kind = refl; queue = refl }
item_like q (Global masks) = record { kind = refl; queue = refl }
item_like q (BufferBarrier piece masks) = record { kind = refl; queue = refl }
item_like q (ImageBarrier piece layouts masks) = record { kind = refl; queue = refl }
item_like q (Release transfer) = record { kind = refl; queue = refl }
item_like q (Acquire transfer) = record { kind = refl; queue = refl }

entry_like : (queues : ℕ) (e : Entry) → Like (entry_node queues e) (entry_scopes queues e)
entry_like queues (OfWait q wait) = record { kind = refl; queue = refl }
entry_like queues (OfItem q item) = item_like q item
entry_like queues (OfSignal q signal) = record { kind = refl; queue = refl }
entry_like queues (OfHost piece) = record { kind = refl; queue = refl }

-- STAGES OF ACCESSES

abbrev IsAccessStage : ℕ → Type 0
IsAccessStage s = (s ≡ 0) ⊎ IsOldStage s

step : (b : Bool) (s t : ℕ) → IsAccessStage s → IsAccessStage t → IsAccessStage (if b then s else t)
step true s t h g = h
step false s t h g = g

shaders : IsAccessStage compute_shader
shaders = inr (inr (inl refl))

colors : IsAccessStage color_attachment_output
colors = inr (inl refl)

copies : IsAccessStage copy
copies = inr (inr (inr (inl refl)))

bit_old : (bit : ℕ) → IsAccessStage (bit_stage bit)
bit_old bit =
    step (bit == 1) _ _ shaders
    (step (bit == 2) _ _ shaders
    (step (bit == 4) _ _ shaders
    (step (bit == 8) _ _ colors
    (step (bit == 16) _ _ colors
    (step (bit == 32) _ _ copies
    (step (bit == 64) _ _ copies
    (step (bit == 128) _ _ (inr (inr (inr (inr (inl refl)))))
    (step (bit == 256) _ _ (inr is_host_stage) (inl refl)))))))))

by_old : (by : Agent) (stage : ℕ) → stage_by by ≡ Some stage → IsAccessStage stage
by_old (agents.Of q bit) stage e = subst IsAccessStage (some_same e) (bit_old bit)
by_old agents.Host stage e = absurd cc

stage_old : (kind : AccessKind) (stage : ℕ) → stage_of kind ≡ Some stage → IsAccessStage stage
stage_old (Load by layout) stage e = by_old by stage e
stage_old (Store by layout) stage e = by_old by stage e
stage_old (Transition layouts) stage e = absurd cc
stage_old (Discard layout) stage e = absurd cc
stage_old (access_kinds.Release handover) stage e = absurd cc
stage_old (access_kinds.Acquire handover) stage e = absurd cc

-- EFFECTS

-- the same accesses in the same place, and the same old agents
record SameEffect (a b : Effect) : Type 0 where
  pub accesses : a.accesses ≡ b.accesses
  pub scope : a.scope ≡ b.scope
  pub available : (k : ℕ) → k < 9 → meets a.available (2 ^ k) ≡ meets b.available (2 ^ k)
  pub visible : (k : ℕ) → k < 9 → meets a.visible (2 ^ k) ≡ meets b.visible (2 ^ k)

-- supported accesses are old ones
part_old : (stages : ℕ) (row : AccessRow) → has old_access_words row.bit ≡ true → has old_access_words (supported_part stages row) ≡ true
part_old stages row h = go (meets stages row.stages)
  where
    go : (t : Bool) → has old_access_words (if t then row.bit else 0) ≡ true
    go true = h
    go false = has_nothing old_access_words

rows_old : (stages : ℕ) (rows : List AccessRow) (found : ℕ) → has old_access_words found ≡ true → list_all (λ row. has old_access_words row.bit) rows ≡ true → has old_access_words (union_from found (supported_part stages) rows) ≡ true
rows_old stages [] found h all = h
rows_old stages (row ∷ rows) found h all =
    let p = and_parts (has old_access_words row.bit) (list_all (λ row. has old_access_words row.bit) rows) all in
    rows_old stages rows (bit_or found (supported_part stages row)) (has_both old_access_words found (supported_part stages row) h (part_old stages row p.0)) p.1

accesses_old : (stages mask : ℕ) → supports stages mask ≡ true → has old_access_words mask ≡ true
accesses_old stages mask h = within old_access_words (supported (expand stages)) mask (rows_old (expand stages) access_rows 0 refl refl) h

barrier_same : (accesses : List Access) (masks : Masks) (scope : Scope) (family : Family) → both_on_family family masks ≡ true → both_supported masks ≡ true → SameEffect (barrier_effect accesses masks scope) (barrier_effects accesses masks scope)
barrier_same accesses masks scope family h g =
    let p = and_parts (on_family masks.src_stages.0 (family_number family)) (on_family masks.dst_stages.0 (family_number family)) h in
    let q = and_parts (supports masks.src_stages.0 masks.src_accesses.0) (supports masks.dst_stages.0 masks.dst_accesses.0) g in
    record {
      accesses = refl;
      scope = refl;
      available = λ k lt. sym (agents_alike (expanded masks.src_stages.0) masks.src_stages.0 masks.src_accesses.0 k (scopes_have_stages masks.src_stages.0 (family_old family masks.src_stages.0 p.0)).0 (accesses_old masks.src_stages.0 masks.src_accesses.0 q.0) lt);
      visible = λ k lt. sym (agents_alike (expanded masks.dst_stages.0) masks.dst_stages.0 masks.dst_accesses.0 k (scopes_have_stages masks.dst_stages.0 (family_old family masks.dst_stages.0 p.1)).0 (accesses_old masks.dst_stages.0 masks.dst_accesses.0 q.1) lt);
    }

item_same : (shapes : List Shape) (q : ℕ) (item : Item) (family : Family) → masks_are (both_on_family family) item ≡ true → masks_are both_supported item ≡ true → SameEffect (item_effect shapes q item) (item_effects shapes q item)
item_same shapes q (Command op) family h g = record { accesses = refl; scope = refl; available = λ k lt. refl; visible = λ k lt. refl }
item_same shapes q (Global masks) family h g = barrier_same [] masks Everywhere family h g
item_same shapes q (BufferBarrier piece masks) family h g = barrier_same [] masks (Piece piece) family h g
item_same shapes q (ImageBarrier piece layouts masks) family h g = barrier_same (layout_change piece layouts) masks (Piece piece) family h g
item_same shapes q (Release transfer) family h g = barrier_same (access transfer.piece (access_kinds.Release (handover_of transfer)) ∷ []) transfer.masks (Piece transfer.piece) family h g
item_same shapes q (Acquire transfer) family h g = barrier_same (acquire_accesses transfer) transfer.masks (Piece transfer.piece) family h g

entry_same : (program : Program) (e : Entry) → EntryObeys rules.OnQueue program e → EntryObeys rules.Supported program e → SameEffect (entry_effect (shapes_of program) e) (entry_effects (shapes_of program) e)
entry_same program (OfWait q wait) o u = record {
  accesses = refl;
  scope = refl;
  available = λ k lt. refl;
  visible = λ k lt. sym (agents_alike (waiting wait.stages.0) wait.stages.0 all_memory k (scopes_have_stages wait.stages.0 (queue_old o.0.family wait.stages.0 o.2)).2 refl lt);
}
entry_same program (OfItem q item) o u = item_same (shapes_of program) q item o.0.family o.2 u.2
entry_same program (OfSignal q signal) o u = record {
  accesses = refl;
  scope = refl;
  available = λ k lt. sym (agents_alike (waited_for signal.stages.0) signal.stages.0 all_memory k (scopes_have_stages signal.stages.0 (queue_old o.0.family signal.stages.0 o.3)).1 refl lt);
  visible = λ k lt. refl;
}
entry_same program (OfHost piece) o u = record { accesses = refl; scope = refl; available = λ k lt. refl; visible = λ k lt. refl }

-- PROGRAMS

under : (c m k : Bool) → (c ≡ true → m ≡ k) → (c && m) ≡ (c && k)
under true m k h = h refl
under false m k h = refl

module _ (program : Program) (A : ValidView (view_of program)) (supported_all : All (EntryObeys rules.Supported program) (entries_of program)) (obeys : All (EntryObeys rules.OnQueue program) (entries_of program)) where
  abbrev V : View
  V = view_of program

  abbrev W : View
  W = scoped_view program

  abbrev queues : ℕ
  queues = length program.queues

  abbrev entry : ℕ → Entry
  entry n = get_or (entries_of program) n (OfHost 0)

  likes : Likes V.nodes W.nodes
  likes = mapped (entry_node queues) (entry_scopes queues) (entries_of program) (entry_like queues)

  like : (n : ℕ) → Like (node_at V.nodes n) (node_at W.nodes n)
  like n = node_like V.nodes W.nodes n likes

  fits : (n : ℕ) → FitsSync (node_at V.nodes n) (node_at W.nodes n)
  fits n = ⊎_elim
      (λ (lt : n < length (entries_of program)).
      subst (λ a. FitsSync a (node_at W.nodes n)) (sym (get_or-map (entry_node queues) (entries_of program) n (OfHost 0) no_node lt))
      (subst (λ b. FitsSync (entry_node queues (entry n)) b) (sym (get_or-map (entry_scopes queues) (entries_of program) n (OfHost 0) no_node lt))
      (entry_fits program (entry n) (obeys n (OfHost 0) lt))))
      (λ (ge : length (entries_of program) ≤ n).
      subst (λ a. FitsSync a (node_at W.nodes n)) (sym (get_or_past V.nodes n no_node (subst (λ m. m ≤ n) (sym (length-map (entries_of program) (entry_node queues))) ge)))
      (λ s. absurd (clash s)))
      (cases_lt n (length (entries_of program)))

  held : (x y : ℕ) → sync_holds_back (node_at V.nodes x) (node_at V.nodes y) ≡ sync_holds_back (node_at W.nodes x) (node_at W.nodes y)
  held x y =
      let a : Node = node_at V.nodes x in
      let b : Node = node_at V.nodes y in
      let c : Node = node_at W.nodes x in
      let d : Node = node_at W.nodes y in
      ap (λ q. (q == b.queue) && ((is_sync a.kind && is_sync b.kind) && meets a.dst_stages.0 b.src_stages.0)) (like x).queue
      ∙ ap (λ q. (c.queue == q) && ((is_sync a.kind && is_sync b.kind) && meets a.dst_stages.0 b.src_stages.0)) (like y).queue
      ∙ ap (λ t. (c.queue == d.queue) && t) (under (is_sync a.kind && is_sync b.kind) (meets a.dst_stages.0 b.src_stages.0) (meets c.dst_stages.0 d.src_stages.0)
      (λ h.
      let p = and_parts (is_sync a.kind) (is_sync b.kind) h in
      sym ((fits y p.1).src.dst a.dst_stages.0 c.dst_stages.0 (fits x p.0).dst)))
      ∙ ap (λ k. (c.queue == d.queue) && ((is_sync k && is_sync b.kind) && meets c.dst_stages.0 d.src_stages.0)) (like x).kind
      ∙ ap (λ k. (c.queue == d.queue) && ((is_sync c.kind && is_sync k) && meets c.dst_stages.0 d.src_stages.0)) (like y).kind

  edges : (x y : ℕ) → sync_edge V.nodes x y ≡ sync_edge W.nodes x y
  edges x y =
      ap (λ t. (nat_lt x y && t) || (signalled V.nodes x y || is_at (meeting V.nodes (node_at V.nodes y).kind) x)) (held x y)
      ∙ ap (λ t. (nat_lt x y && sync_holds_back (node_at W.nodes x) (node_at W.nodes y)) || t) (link_same V.nodes W.nodes likes x y)

  src_stage : (x stage : ℕ) → IsAccessStage stage → is_sync (node_at V.nodes x).kind ≡ true → meets stage (node_at V.nodes x).src_stages.0 ≡ meets stage (node_at W.nodes x).src_stages.0
  src_stage x stage (inl z) s = ap (λ t. meets t (node_at V.nodes x).src_stages.0) z ∙ nothing (node_at V.nodes x).src_stages.0 ∙ sym (ap (λ t. meets t (node_at W.nodes x).src_stages.0) z ∙ nothing (node_at W.nodes x).src_stages.0)
  src_stage x stage (inr o) s = sym ((fits x s).src.stage stage o)

  dst_stage : (y stage : ℕ) → IsAccessStage stage → is_sync (node_at V.nodes y).kind ≡ true → meets (node_at V.nodes y).dst_stages.0 stage ≡ meets (node_at W.nodes y).dst_stages.0 stage
  dst_stage y stage (inl z) s = ap (λ t. meets (node_at V.nodes y).dst_stages.0 t) z ∙ nothing_back (node_at V.nodes y).dst_stages.0 ∙ sym (ap (λ t. meets (node_at W.nodes y).dst_stages.0 t) z ∙ nothing_back (node_at W.nodes y).dst_stages.0)
  dst_stage y stage (inr o) s = sym ((fits y s).dst.stage stage o)

  waits : (n x stage : ℕ) → IsAccessStage stage → waits_for V.nodes stage n x ≡ waits_for W.nodes stage n x
  waits n x stage o =
      let b : Node = node_at V.nodes x in
      let d : Node = node_at W.nodes x in
      ap (λ q. nat_lt n x && ((q == b.queue) && (is_sync b.kind && meets stage b.src_stages.0))) (like n).queue
      ∙ ap (λ q. nat_lt n x && (((node_at W.nodes n).queue == q) && (is_sync b.kind && meets stage b.src_stages.0))) (like x).queue
      ∙ ap (λ t. nat_lt n x && (((node_at W.nodes n).queue == d.queue) && t)) (under (is_sync b.kind) (meets stage b.src_stages.0) (meets stage d.src_stages.0) (src_stage x stage o))
      ∙ ap (λ k. nat_lt n x && (((node_at W.nodes n).queue == d.queue) && (is_sync k && meets stage d.src_stages.0))) (like x).kind

  lets : (y m stage : ℕ) → IsAccessStage stage → lets_in V.nodes stage y m ≡ lets_in W.nodes stage y m
  lets y m stage o =
      let a : Node = node_at V.nodes y in
      let c : Node = node_at W.nodes y in
      ap (λ q. nat_lt y m && ((q == (node_at V.nodes m).queue) && (is_sync a.kind && meets a.dst_stages.0 stage))) (like y).queue
      ∙ ap (λ q. nat_lt y m && ((c.queue == q) && (is_sync a.kind && meets a.dst_stages.0 stage))) (like m).queue
      ∙ ap (λ t. nat_lt y m && ((c.queue == (node_at W.nodes m).queue) && t)) (under (is_sync a.kind) (meets a.dst_stages.0 stage) (meets c.dst_stages.0 stage) (dst_stage y stage o))
      ∙ ap (λ k. nat_lt y m && ((c.queue == (node_at W.nodes m).queue) && (is_sync k && meets c.dst_stages.0 stage))) (like y).kind

  effects : (n : ℕ) → SameEffect (effect_at V n) (effect_at W n)
  effects n = ⊎_elim
      (λ (lt : n < length (entries_of program)).
      subst (λ a. SameEffect a (effect_at W n)) (sym (get_or-map (entry_effect (shapes_of program)) (entries_of program) n (OfHost 0) no_effect lt))
      (subst (λ b. SameEffect (entry_effect (shapes_of program) (entry n)) b) (sym (get_or-map (entry_effects (shapes_of program)) (entries_of program) n (OfHost 0) no_effect lt))
      (entry_same program (entry n) (obeys n (OfHost 0) lt) (supported_all n (OfHost 0) lt))))
      (λ (ge : length (entries_of program) ≤ n).
      subst (λ a. SameEffect a (effect_at W n)) (sym (get_or_past V.effects n no_effect (subst (λ m. m ≤ n) (sym (length-map (entries_of program) (entry_effect (shapes_of program)))) ge)))
      (subst (λ b. SameEffect no_effect b) (sym (get_or_past W.effects n no_effect (subst (λ m. m ≤ n) (sym (length-map (entries_of program) (entry_effects (shapes_of program)))) ge)))
      (record { accesses = refl; scope = refl; available = λ k lt. refl; visible = λ k lt. refl })))
      (cases_lt n (length (entries_of program)))

  -- the agent of an access by a command is one of the old ones
  bit_of : (n q bit : ℕ) (a : Access) → Has V n a → stage_of a.kind ≡ Some (bit_stage bit) → AgentBit bit
  bit_of n q bit a h e = go (site V A (single program) n a h)
    where
      none : {P : Type 0} (s : ℕ) → None ≡ Some s → P
      none s z = absurd cc

      one : ByCommand V n a.kind → AgentBit bit
      one c =
          let C = (single program).command n (has_within V n a A h) (is_the_command (node_at V.nodes n).kind c.node) in
          let same : bit_stage bit ≡ 2 ^ C.bit = some_same (sym e ∙ c.stage) ∙ C.one in
          ⊎_elim (λ z. let pos = pow_pos C.bit in absurd (omega (arith, pos, same, z))) (λ k. k) (known_bit bit)

      go : Site V n a.kind → AgentBit bit
      go (inl c) = one c
      go (inr (inl b)) = none (bit_stage bit) (sym (barrier_stage a.kind b.barrier) ∙ e)
      go (inr (inr r)) = none (bit_stage bit) (sym (ap (λ k. stage_of k) r.read) ∙ e)

  -- an agent that the sets have alike
  abbrev OldAgent : Agent → Type 0
  OldAgent (agents.Of q bit) = AgentBit bit
  OldAgent agents.Host = Unit {0}

  available : (x p : ℕ) (by : Agent) → OldAgent by → makes_available V x by p ≡ makes_available W x by p
  available x p (agents.Of q bit) (k, lt, e) =
      ap (λ u. ((q == u) && meets (effect_at V x).available bit) && is_on p (effect_at V x).scope) (like x).queue
      ∙ ap (λ u. ((q == (node_at W.nodes x).queue) && u) && is_on p (effect_at V x).scope) (ap (λ b. meets (effect_at V x).available b) e ∙ (effects x).available k lt ∙ ap (λ b. meets (effect_at W x).available b) (sym e))
      ∙ ap (λ u. ((q == (node_at W.nodes x).queue) && meets (effect_at W x).available bit) && is_on p u) (effects x).scope
  available x p agents.Host o =
      ap (λ u. u && is_on p (effect_at V x).scope) ((effects x).available 8 (omega arith))
      ∙ ap (λ u. meets (effect_at W x).available host_agent && is_on p u) (effects x).scope

  visible : (x p : ℕ) (by : Agent) → OldAgent by → makes_visible V x by p ≡ makes_visible W x by p
  visible x p (agents.Of q bit) (k, lt, e) =
      ap (λ u. ((q == u) && meets (effect_at V x).visible bit) && is_on p (effect_at V x).scope) (like x).queue
      ∙ ap (λ u. ((q == (node_at W.nodes x).queue) && u) && is_on p (effect_at V x).scope) (ap (λ b. meets (effect_at V x).visible b) e ∙ (effects x).visible k lt ∙ ap (λ b. meets (effect_at W x).visible b) (sym e))
      ∙ ap (λ u. ((q == (node_at W.nodes x).queue) && meets (effect_at W x).visible bit) && is_on p u) (effects x).scope
  visible x p agents.Host o =
      ap (λ u. u && is_on p (effect_at V x).scope) ((effects x).visible 8 (omega arith))
      ∙ ap (λ u. meets (effect_at W x).visible host_agent && is_on p u) (effects x).scope

  -- of a kind whose agent is known
  abbrev OldKind : AccessKind → Type 0
  OldKind (Load by layout) = OldAgent by
  OldKind (Store by layout) = OldAgent by
  OldKind kind = Unit {0}

  old_kind : (n : ℕ) (a : Access) (kind : AccessKind) → a.kind ≡ kind → Has V n a → OldKind kind
  old_kind n a (Load (agents.Of q bit) layout) e h = bit_of n q bit a h (ap (λ k. stage_of k) e)
  old_kind n a (Store (agents.Of q bit) layout) e h = bit_of n q bit a h (ap (λ k. stage_of k) e)
  old_kind n a (Load agents.Host layout) e h = tt
  old_kind n a (Store agents.Host layout) e h = tt
  old_kind n a (Transition layouts) e h = tt
  old_kind n a (Discard layout) e h = tt
  old_kind n a (access_kinds.Release handover) e h = tt
  old_kind n a (access_kinds.Acquire handover) e h = tt

  flushed : (kind : AccessKind) (p x : ℕ) → OldKind kind → FlushedBy kind V p x ↔ FlushedBy kind W p x
  flushed (Store by layout) p x o = (λ h. sym (available x p by o) ∙ h, λ h. available x p by o ∙ h)
  flushed (Load by layout) p x o = (λ h. h, λ h. h)
  flushed (Transition layouts) p x o = (λ h. h, λ h. h)
  flushed (Discard layout) p x o = (λ h. h, λ h. h)
  flushed (access_kinds.Release handover) p x o = (λ h. h, λ h. h)
  flushed (access_kinds.Acquire handover) p x o = (λ h. h, λ h. h)

  shown : (kind : AccessKind) (p y : ℕ) → OldKind kind → ShownBy kind V p y ↔ ShownBy kind W p y
  shown (Load by layout) p y o = (λ h. sym (visible y p by o) ∙ h, λ h. visible y p by o ∙ h)
  shown (Store by layout) p y o = (λ h. sym (visible y p by o) ∙ h, λ h. visible y p by o ∙ h)
  shown (Transition layouts) p y o = (λ h. h, λ h. h)
  shown (Discard layout) p y o = (λ h. h, λ h. h)
  shown (access_kinds.Release handover) p y o = (λ h. h, λ h. h)
  shown (access_kinds.Acquire handover) p y o = (λ h. h, λ h. h)

  pub scopes_alike : Alike V W
  scopes_alike = record {
    accesses = λ n. (effects n).accesses;
    clash = λ a b. refl;
    edge = edges;
    waits = λ n x stage a h e. waits n x stage (stage_old a.kind stage e);
    lets = λ y m stage b h e. lets y m stage (stage_old b.kind stage e);
    flushed = λ n x a h. flushed a.kind a.piece x (old_kind n a a.kind refl h);
    shown = λ m y b h. shown b.kind b.piece y (old_kind m b b.kind refl h);
  }
