-- A program is seen alike with a wait's own stages alone.
use Rattle.std.proofs.Common.{◌≡◌, ◌⊎◌, ◌↔◌, inl, inr, ◌∙◌, ◌<◌, ◌≤◌, ◌==◌, ◌&&◌, ◌||◌, ◌^◌, ℕ, zero, suc, Bool, true, false, not, nat_lt, List, [], ◌∷◌, length, map, get_or, slice_get, slice_set, Some, refl, subst, sym, ap, ⊎_elim, eqb-true, arith}
use Rattle.std.proofs.lemmas.Bool.{and_parts, cases_lt}
use Rattle.std.proofs.lemmas.List.{get_or-map, get_or_past, length-map}
use Rattle.std.proofs.lemmas.Nat.{pow_pos}
use Rattle.std.specs.Int.Bits.{and_zero_r}
use Rattle.std.specs.List.{All}
use Rattle.base.proofs.Absence.{some_same, none_some}
use Rattle.base.specs.declared.shape.Family.{Family}
use Rattle.base.specs.declared.shape.Shape.{Shape}
use Rattle.vk.specs.Families.{family_number, on_family}
use Rattle.vk.specs.Roles.{op_stage}
use Rattle.vk.specs.Sets.{meets}
use Rattle.vk.specs.Stages.{expand, host}
use Rattle.vk.specs.declared.masks.Masks.{Masks}
use Rattle.program.specs.Barriers.{both_on_family, masks_are}
use Rattle.program.specs.Entries.{Entry, OfWait, OfItem, OfSignal, OfHost, entries_of}
use Rattle.program.specs.Obeys.{EntryObeys}
use Rattle.program.specs.Rules.{item_runs, shapes_of}
use Rattle.program.specs.declared.program.Batch.{Batch}
use Rattle.program.specs.declared.program.Item.{Item}
use Rattle.program.specs.declared.program.Item.TheVariants.{Command, Global, BufferBarrier, ImageBarrier, Release, Acquire}
use Rattle.program.specs.declared.program.Program.{Program}
use Rattle.program.specs.declared.program.Queue.{Queue}
use Rattle.program.specs.declared.program.WaitFor.{WaitFor}
use Rattle.program.specs.declared.rule.Rule.TheVariants as rules
use Rattle.check_order.specs.Edges.{is_sync, node_at, signalled, meeting, is_at, holds_back, sync_holds_back, edge, sync_edge}
use Rattle.check_order.specs.Nodes.{entry_node, no_node, wait_node}
use Rattle.check_order.specs.declared.kind.Kind.TheVariants as kinds
use Rattle.check_order.specs.declared.node.Node.{Node}
use Rattle.check_access.specs.Effects.{all_agents, wait_effect, entry_effect, no_effect}
use Rattle.check_access.specs.ValidView.{ValidView, IsByQueue, Has}
use Rattle.check_access.specs.Views.{View, view_of, effect_at, accesses_of, is_on, queue_at, has_agent, makes_available, makes_visible}
use Rattle.check_access.specs.declared.access.Access.{Access}
use Rattle.check_access.specs.declared.access.AccessKind.{AccessKind}
use Rattle.check_access.specs.declared.access.AccessKind.TheVariants as access_kinds
use Rattle.check_access.specs.declared.access.AccessKind.TheVariants.{Load, Store, Transition, Discard}
use Rattle.check_access.specs.declared.access.Agent.{Agent}
use Rattle.check_access.specs.declared.access.Agent.TheVariants as agents
use Rattle.check_access.specs.declared.effect.Effect.{Effect}
use Rattle.check_access_order.proofs.NodeKinds.{is_the_command}
use Rattle.check_access_order.proofs.Singles.{single}
use Rattle.check_access_order.proofs.Sites.{Site, site, barrier_stage, has_within}
use Rattle.check_access_order.specs.Edges.{waits_for, lets_in}
use Rattle.check_access_order.specs.Passing.{FlushedBy, ShownBy}
use Rattle.check_access_order.specs.Stages.{bit_stage, stage_of}
use Rattle.law_alike.proofs.Bits.{AgentBit, known_bit}
use Rattle.law_alike.proofs.Same.{Like, Likes, node_like, link_same, meeting_of, length_same}
use Rattle.law_alike.specs.Wholly.{WhollyAlike}
use Rattle.check_tighten.specs.Edits.{queue_with, program_with}
use Rattle.check_tighten.specs.Own.{own_stages, fitted}
use Rattle.check_tighten.specs.Standing.{Pairwise}
use Rattle.check_tighten.specs.Tight.{WaitAt}
use Rattle.check_tighten.proofs.Commands.{op_single, op_on}
use Rattle.check_tighten.proofs.Fitting.{bits, meets_single, meets_mask, meets_signal, meets_agent, meets_host_agent, own_expanded}
use Rattle.check_tighten.proofs.Replaced.{OneOther, entries_same, changed_many, changed_kept}

under : (c m k : Bool) → (c ≡ true → m ≡ k) → (c && m) ≡ (c && k)
under true m k h = h refl
under false m k h = refl

nothing_back : (t : ℕ) → meets t 0 ≡ false
nothing_back t = ap (λ z. not (z == 0)) (and_zero_r t)

-- what a wait of a queue holds back, its own stages do
module _ (q : ℕ) (family : Family) (set : ℕ) (on : on_family set (family_number family) ≡ true) where
  abbrev pub SourceFits : Node → Type 0
  SourceFits node = node.queue ≡ q → meets (expand set) node.src_stages.0 ≡ meets (own_stages family set) node.src_stages.0

  no_source : (node : Node) → node.src_stages.0 ≡ 0 → SourceFits node
  no_source node e is = ap (λ z. meets (expand set) z) e ∙ nothing_back (expand set) ∙ sym (ap (λ z. meets (own_stages family set) z) e ∙ nothing_back (own_stages family set))

  -- of a queue of this family
  module _ (program : Program) (at_q : (queue : Queue) → slice_get program.queues q ≡ Some queue → queue.family ≡ family) where
    family_is : (r : ℕ) (queue : Queue) → slice_get program.queues r ≡ Some queue → r ≡ q → queue.family ≡ family
    family_is r queue is e = at_q queue (subst (λ n. slice_get program.queues n ≡ Some queue) e is)

    mask_fits : (masks : Masks) (given : Family) → both_on_family given masks ≡ true → given ≡ family → meets (expand set) (expand masks.src_stages.0) ≡ meets (own_stages family set) (expand masks.src_stages.0)
    mask_fits masks given h e =
        let there = (and_parts (on_family masks.src_stages.0 (family_number given)) (on_family masks.dst_stages.0 (family_number given)) h).0 in
        meets_mask family set masks.src_stages.0 on (subst (λ f. on_family masks.src_stages.0 (family_number f) ≡ true) e there)

    item_fits : (r : ℕ) (item : Item) (queue : Queue) → slice_get program.queues r ≡ Some queue → masks_are (both_on_family queue.family) item ≡ true → item_runs queue.family item ≡ true → SourceFits (entry_node (length program.queues) (OfItem r item))
    item_fits r (Command op) queue is h g e =
        let s = op_single op in
        meets_single family set s.0 (op_stage op) s.1 (subst (λ f. on_family (op_stage op) (family_number f) ≡ true) (family_is r queue is e) (op_on queue.family op g))
    item_fits r (Global masks) queue is h g e = mask_fits masks queue.family h (family_is r queue is e)
    item_fits r (BufferBarrier piece masks) queue is h g e = mask_fits masks queue.family h (family_is r queue is e)
    item_fits r (ImageBarrier piece layouts masks) queue is h g e = mask_fits masks queue.family h (family_is r queue is e)
    item_fits r (Release transfer) queue is h g e = mask_fits transfer.masks queue.family h (family_is r queue is e)
    item_fits r (Acquire transfer) queue is h g e = mask_fits transfer.masks queue.family h (family_is r queue is e)

    pub entry_fits : (e : Entry) → EntryObeys rules.OnQueue program e → EntryObeys rules.Runs program e → SourceFits (entry_node (length program.queues) e)
    entry_fits (OfWait r wait) o u = no_source (entry_node (length program.queues) (OfWait r wait)) refl
    entry_fits (OfItem r item) o u =
        let same : u.0 ≡ o.0 = some_same (sym u.1 ∙ o.1) in
        item_fits r item o.0 o.1 o.2 (subst (λ queue. item_runs queue.family item ≡ true) same u.2)
    entry_fits (OfSignal r signal) o u = λ e.
        meets_signal family set signal.stages.0 on
        (subst (λ f. on_family signal.stages.0 (family_number f) ≡ true) (family_is r o.0 o.2 e) (and_parts (on_family signal.stages.0 (family_number o.0.family)) (not (meets signal.stages.0 host)) o.3).0)
    entry_fits (OfHost piece) o u = no_source (entry_node (length program.queues) (OfHost piece)) refl

-- THE NODES AND EFFECTS OF BOTH

-- with another wait's where there is this one's
pub record Changed (q : ℕ) (wait other : WaitFor) (a b : Node) (c d : Effect) : Type 0 where
  pub node : a ≡ wait_node q wait
  pub now : b ≡ wait_node q other
  pub effect : c ≡ wait_effect wait
  pub effect_now : d ≡ wait_effect other

pub record Kept (a b : Node) (c d : Effect) : Type 0 where
  pub node : b ≡ a
  pub effect : d ≡ c

abbrev pub Stands : ℕ → WaitFor → WaitFor → Node → Node → Effect → Effect → Type 0
Stands q wait other a b c d = Kept a b c d ⊎ Changed q wait other a b c d

module _ (queues : ℕ) (shapes : List Shape) (q : ℕ) (wait other : WaitFor) where
  abbrev nodes_of : List Entry → List Node
  nodes_of xs = map (entry_node queues) xs

  abbrev effects_of : List Entry → List Effect
  effects_of xs = map (entry_effect shapes) xs

  one_stands : (x y : Entry) → OneOther q wait other x y → Stands q wait other (entry_node queues x) (entry_node queues y) (entry_effect shapes x) (entry_effect shapes y)
  one_stands x y (inl e) = inl (record { node = ap (entry_node queues) e; effect = ap (entry_effect shapes) e })
  one_stands x y (inr p) = inr (record { node = ap (entry_node queues) p.0; now = ap (entry_node queues) p.1; effect = ap (entry_effect shapes) p.0; effect_now = ap (entry_effect shapes) p.1 })

  pub stands_at : (xs ys : List Entry) → Pairwise (OneOther q wait other) xs ys → (n : ℕ) → Stands q wait other (node_at (nodes_of xs) n) (node_at (nodes_of ys) n) (get_or (effects_of xs) n no_effect) (get_or (effects_of ys) n no_effect)
  stands_at [] [] h n = inl (record { node = refl; effect = refl })
  stands_at [] (y ∷ ys) h n = absurd h
  stands_at (x ∷ xs) [] h n = absurd h
  stands_at (x ∷ xs) (y ∷ ys) h zero = one_stands x y h.0
  stands_at (x ∷ xs) (y ∷ ys) h (suc n) = stands_at xs ys h.1 n

  like_one : (x y : Entry) → OneOther q wait other x y → other.queue ≡ wait.queue → other.value ≡ wait.value → Like (entry_node queues x) (entry_node queues y)
  like_one x y (inl e) f g = record { kind = sym (ap (λ z. (entry_node queues z).kind) e); queue = sym (ap (λ z. (entry_node queues z).queue) e) }
  like_one x y (inr p) f g = record {
    kind = ap (λ z. (entry_node queues z).kind) p.0 ∙ sym (ap (λ z. kinds.Wait z other.value) f ∙ ap (λ z. kinds.Wait wait.queue z) g) ∙ sym (ap (λ z. (entry_node queues z).kind) p.1);
    queue = ap (λ z. (entry_node queues z).queue) p.0 ∙ sym (ap (λ z. (entry_node queues z).queue) p.1);
  }

  pub likes : (xs ys : List Entry) → Pairwise (OneOther q wait other) xs ys → other.queue ≡ wait.queue → other.value ≡ wait.value → Likes (nodes_of xs) (nodes_of ys)
  likes [] [] h f g = tt
  likes [] (y ∷ ys) h f g = absurd h
  likes (x ∷ xs) [] h f g = absurd h
  likes (x ∷ xs) (y ∷ ys) h f g = (like_one x y h.0 f g, likes xs ys h.1 f g)

-- PROGRAMS

-- bits of agents, by their numbers
agent_listed : (k : ℕ) → k < 9 → slice_get bits k ≡ Some (2 ^ k)
agent_listed zero lt = refl
agent_listed (suc zero) lt = refl
agent_listed (suc (suc zero)) lt = refl
agent_listed (suc (suc (suc zero))) lt = refl
agent_listed (suc (suc (suc (suc zero)))) lt = refl
agent_listed (suc (suc (suc (suc (suc zero))))) lt = refl
agent_listed (suc (suc (suc (suc (suc (suc zero)))))) lt = refl
agent_listed (suc (suc (suc (suc (suc (suc (suc zero))))))) lt = refl
agent_listed (suc (suc (suc (suc (suc (suc (suc (suc zero)))))))) lt = refl
agent_listed (suc (suc (suc (suc (suc (suc (suc (suc (suc k))))))))) lt = absurd (omega (arith, lt))

module _ (program : Program) (q b k : ℕ) (queue : Queue) (batch : Batch) (wait : WaitFor) (at : WaitAt program q b k queue batch wait)
    (A : ValidView (view_of program)) (obeys : All (EntryObeys rules.OnQueue program) (entries_of program)) (runs : All (EntryObeys rules.Runs program) (entries_of program))
    (on : on_family wait.stages.0 (family_number queue.family) ≡ true) where
  abbrev set : ℕ
  set = wait.stages.0

  abbrev own : ℕ
  own = own_stages queue.family set

  abbrev other : WaitFor
  other = fitted queue.family wait

  abbrev edited : Program
  edited = program_with q b (slice_set batch.waits k other) program

  abbrev V : View
  V = view_of program

  abbrev W : View
  W = view_of edited

  abbrev queues : ℕ
  queues = length program.queues

  abbrev pairs : Pairwise (OneOther q wait other) (entries_of program) (entries_of edited)
  pairs = entries_same program q b k queue batch wait other at

  -- as many queues
  nodes_are : W.nodes ≡ map (entry_node queues) (entries_of edited)
  nodes_are = ap (λ n. map (entry_node n) (entries_of edited)) (changed_many (queue_with b (slice_set batch.waits k other)) q program.queues)

  stands : (n : ℕ) → Stands q wait other (node_at V.nodes n) (node_at W.nodes n) (effect_at V n) (effect_at W n)
  stands n = subst (λ l. Stands q wait other (node_at V.nodes n) (node_at l n) (effect_at V n) (effect_at W n)) (sym nodes_are)
      (stands_at queues (shapes_of program) q wait other (entries_of program) (entries_of edited) pairs n)

  all_like : Likes V.nodes W.nodes
  all_like = subst (λ l. Likes V.nodes l) (sym nodes_are) (likes queues (shapes_of program) q wait other (entries_of program) (entries_of edited) pairs refl refl)

  like : (n : ℕ) → Like (node_at V.nodes n) (node_at W.nodes n)
  like n = node_like V.nodes W.nodes n all_like

  source_same : (n : ℕ) → (node_at V.nodes n).src_stages.0 ≡ (node_at W.nodes n).src_stages.0
  source_same n = ⊎_elim
      (λ (h : Kept (node_at V.nodes n) (node_at W.nodes n) (effect_at V n) (effect_at W n)). sym (ap (λ z. z.src_stages.0) h.node))
      (λ (h : Changed q wait other (node_at V.nodes n) (node_at W.nodes n) (effect_at V n) (effect_at W n)). ap (λ z. z.src_stages.0) h.node ∙ sym (ap (λ z. z.src_stages.0) h.now))
      (stands n)

  fits : (n : ℕ) → SourceFits q queue.family set on (node_at V.nodes n)
  fits n = ⊎_elim
      (λ (lt : n < length (entries_of program)).
      subst (λ z. SourceFits q queue.family set on z) (sym (get_or-map (entry_node queues) (entries_of program) n (OfHost 0) no_node lt))
      (entry_fits q queue.family set on program (λ r is. ap (λ z. z.family) (some_same (sym is ∙ at.batch_at.queue_is))) (get_or (entries_of program) n (OfHost 0)) (obeys n (OfHost 0) lt) (runs n (OfHost 0) lt)))
      (λ (ge : length (entries_of program) ≤ n).
      subst (λ z. SourceFits q queue.family set on z) (sym (get_or_past V.nodes n no_node (subst (λ m. m ≤ n) (sym (length-map (entries_of program) (entry_node queues))) ge)))
      (no_source q queue.family set on no_node refl))
      (cases_lt n (length (entries_of program)))

  -- EDGES

  -- what waits for one node of its queue meets the same of another
  meets_source : (x y : ℕ) → (node_at V.nodes x).queue ≡ (node_at V.nodes y).queue → meets (node_at V.nodes x).dst_stages.0 (node_at V.nodes y).src_stages.0 ≡ meets (node_at W.nodes x).dst_stages.0 (node_at V.nodes y).src_stages.0
  meets_source x y e = ⊎_elim
      (λ (h : Kept (node_at V.nodes x) (node_at W.nodes x) (effect_at V x) (effect_at W x)). sym (ap (λ z. meets z.dst_stages.0 (node_at V.nodes y).src_stages.0) h.node))
      (λ (h : Changed q wait other (node_at V.nodes x) (node_at W.nodes x) (effect_at V x) (effect_at W x)).
      ap (λ z. meets z.dst_stages.0 (node_at V.nodes y).src_stages.0) h.node
      ∙ fits y (sym e ∙ ap (λ z. z.queue) h.node)
      ∙ ap (λ z. meets z (node_at V.nodes y).src_stages.0) (sym (own_expanded queue.family set))
      ∙ sym (ap (λ z. meets z.dst_stages.0 (node_at V.nodes y).src_stages.0) h.now))
      (stands x)

  meets_same : (x y : ℕ) → (node_at V.nodes x).queue ≡ (node_at V.nodes y).queue → meets (node_at V.nodes x).dst_stages.0 (node_at V.nodes y).src_stages.0 ≡ meets (node_at W.nodes x).dst_stages.0 (node_at W.nodes y).src_stages.0
  meets_same x y e = meets_source x y e ∙ ap (λ z. meets (node_at W.nodes x).dst_stages.0 z) (source_same y)

  -- on one queue, by any test of the two kinds
  held_by : (test : Node → Node → Bool) (x y : ℕ) → test (node_at V.nodes x) (node_at V.nodes y) ≡ test (node_at W.nodes x) (node_at W.nodes y)
      → (((node_at V.nodes x).queue == (node_at V.nodes y).queue) && (test (node_at V.nodes x) (node_at V.nodes y) && meets (node_at V.nodes x).dst_stages.0 (node_at V.nodes y).src_stages.0))
      ≡ (((node_at W.nodes x).queue == (node_at W.nodes y).queue) && (test (node_at W.nodes x) (node_at W.nodes y) && meets (node_at W.nodes x).dst_stages.0 (node_at W.nodes y).src_stages.0))
  held_by test x y same =
      let n : Node = node_at V.nodes x in
      let m : Node = node_at V.nodes y in
      let o : Node = node_at W.nodes x in
      let p : Node = node_at W.nodes y in
      under (n.queue == m.queue) (test n m && meets n.dst_stages.0 m.src_stages.0) (test o p && meets o.dst_stages.0 p.src_stages.0)
      (λ e. ap (λ t. t && meets n.dst_stages.0 m.src_stages.0) same ∙ ap (λ t. test o p && t) (meets_same x y (eqb-true n.queue m.queue e)))
      ∙ ap (λ z. (z == m.queue) && (test o p && meets o.dst_stages.0 p.src_stages.0)) (like x).queue
      ∙ ap (λ z. (o.queue == z) && (test o p && meets o.dst_stages.0 p.src_stages.0)) (like y).queue

  edges : (x y : ℕ) → edge V.nodes x y ≡ edge W.nodes x y
  edges x y =
      ap (λ t. (nat_lt x y && t) || (signalled V.nodes x y || is_at (meeting V.nodes (node_at V.nodes y).kind) x))
      (held_by (λ n m. is_sync n.kind || is_sync m.kind) x y (ap (λ z. is_sync z || is_sync (node_at V.nodes y).kind) (like x).kind ∙ ap (λ z. is_sync (node_at W.nodes x).kind || is_sync z) (like y).kind))
      ∙ ap (λ t. (nat_lt x y && holds_back (node_at W.nodes x) (node_at W.nodes y)) || t) (link_same V.nodes W.nodes all_like x y)

  sync_edges : (x y : ℕ) → sync_edge V.nodes x y ≡ sync_edge W.nodes x y
  sync_edges x y =
      ap (λ t. (nat_lt x y && t) || (signalled V.nodes x y || is_at (meeting V.nodes (node_at V.nodes y).kind) x))
      (held_by (λ n m. is_sync n.kind && is_sync m.kind) x y (ap (λ z. is_sync z && is_sync (node_at V.nodes y).kind) (like x).kind ∙ ap (λ z. is_sync (node_at W.nodes x).kind && is_sync z) (like y).kind))
      ∙ ap (λ t. (nat_lt x y && sync_holds_back (node_at W.nodes x) (node_at W.nodes y)) || t) (link_same V.nodes W.nodes all_like x y)

  -- WAYS IN AND OUT

  waits : (n x stage : ℕ) → waits_for V.nodes stage n x ≡ waits_for W.nodes stage n x
  waits n x stage =
      let m : Node = node_at V.nodes x in
      let p : Node = node_at W.nodes x in
      ap (λ z. nat_lt n x && ((z == m.queue) && (is_sync m.kind && meets stage m.src_stages.0))) (like n).queue
      ∙ ap (λ z. nat_lt n x && (((node_at W.nodes n).queue == z) && (is_sync m.kind && meets stage m.src_stages.0))) (like x).queue
      ∙ ap (λ z. nat_lt n x && (((node_at W.nodes n).queue == p.queue) && (is_sync z && meets stage m.src_stages.0))) (like x).kind
      ∙ ap (λ z. nat_lt n x && (((node_at W.nodes n).queue == p.queue) && (is_sync p.kind && meets stage z))) (source_same x)

  -- an access in a stage is a command's, whose stage it is
  by_command : (n stage : ℕ) (a : Access) → Has V n a → stage_of a.kind ≡ Some stage → ((node_at V.nodes n).kind ≡ kinds.Command) × (stage ≡ (node_at V.nodes n).src_stages.0)
  by_command n stage a h e = go (site V A (single program) n a h)
    where
      go : Site V n a.kind → ((node_at V.nodes n).kind ≡ kinds.Command) × (stage ≡ (node_at V.nodes n).src_stages.0)
      go (inl c) = (is_the_command (node_at V.nodes n).kind c.node, some_same (sym e ∙ c.stage) ∙ sym c.same)
      go (inr (inl c)) = absurd (none_some (sym (barrier_stage a.kind c.barrier) ∙ e))
      go (inr (inr r)) = absurd (none_some (sym (ap (λ z. stage_of z) r.read) ∙ e))

  lets : (y m stage : ℕ) (a : Access) → Has V m a → stage_of a.kind ≡ Some stage → lets_in V.nodes stage y m ≡ lets_in W.nodes stage y m
  lets y m stage a h e =
      let n : Node = node_at V.nodes y in
      let o : Node = node_at W.nodes y in
      let is = (by_command m stage a h e).1 in
      ap (λ t. nat_lt y m && t)
      (under (n.queue == (node_at V.nodes m).queue) (is_sync n.kind && meets n.dst_stages.0 stage) (is_sync n.kind && meets o.dst_stages.0 stage)
      (λ same. ap (λ t. is_sync n.kind && t) (ap (λ z. meets n.dst_stages.0 z) is ∙ meets_source y m (eqb-true n.queue (node_at V.nodes m).queue same) ∙ sym (ap (λ z. meets o.dst_stages.0 z) is)))
      ∙ ap (λ z. (z == (node_at V.nodes m).queue) && (is_sync n.kind && meets o.dst_stages.0 stage)) (like y).queue
      ∙ ap (λ z. (o.queue == z) && (is_sync n.kind && meets o.dst_stages.0 stage)) (like m).queue
      ∙ ap (λ z. (o.queue == (node_at W.nodes m).queue) && (is_sync z && meets o.dst_stages.0 stage)) (like y).kind)

  -- WHAT IS PASSED ON

  available : (x p : ℕ) (by : Agent) → makes_available V x by p ≡ makes_available W x by p
  available x p by = ⊎_elim
      (λ (h : Kept (node_at V.nodes x) (node_at W.nodes x) (effect_at V x) (effect_at W x)).
      ap (λ z. has_agent z (effect_at V x).available by && is_on p (effect_at V x).scope) (like x).queue
      ∙ sym (ap (λ z. has_agent (queue_at W x) z.available by && is_on p z.scope) h.effect))
      (λ (h : Changed q wait other (node_at V.nodes x) (node_at W.nodes x) (effect_at V x) (effect_at W x)).
      ap (λ z. has_agent z (effect_at V x).available by && is_on p (effect_at V x).scope) (like x).queue
      ∙ ap (λ z. has_agent (queue_at W x) z.available by && is_on p z.scope) h.effect
      ∙ sym (ap (λ z. has_agent (queue_at W x) z.available by && is_on p z.scope) h.effect_now))
      (stands x)

  -- an agent to which the wait and its own stages make the same visible, where it is of the wait's queue
  abbrev Seen : Agent → Type 0
  Seen (agents.Of r bit) = r ≡ q → meets (all_agents set) bit ≡ meets (all_agents own) bit
  Seen agents.Host = Unit {0}

  seen_alike : (by : Agent) → Seen by → has_agent q (all_agents set) by ≡ has_agent q (all_agents own) by
  seen_alike (agents.Of r bit) s = under (r == q) (meets (all_agents set) bit) (meets (all_agents own) bit) (λ e. s (eqb-true r q e))
  seen_alike agents.Host s = meets_host_agent queue.family set

  visible : (y p : ℕ) (by : Agent) → Seen by → makes_visible V y by p ≡ makes_visible W y by p
  visible y p by s = ⊎_elim
      (λ (h : Kept (node_at V.nodes y) (node_at W.nodes y) (effect_at V y) (effect_at W y)).
      ap (λ z. has_agent z (effect_at V y).visible by && is_on p (effect_at V y).scope) (like y).queue
      ∙ sym (ap (λ z. has_agent (queue_at W y) z.visible by && is_on p z.scope) h.effect))
      (λ (h : Changed q wait other (node_at V.nodes y) (node_at W.nodes y) (effect_at V y) (effect_at W y)).
      ap (λ z. has_agent z.queue (effect_at V y).visible by && is_on p (effect_at V y).scope) h.node
      ∙ ap (λ z. has_agent q z.visible by && is_on p z.scope) h.effect
      ∙ ap (λ t. t && true) (seen_alike by s)
      ∙ sym (ap (λ z. has_agent q z.visible by && is_on p z.scope) h.effect_now)
      ∙ sym (ap (λ z. has_agent z.queue (effect_at W y).visible by && is_on p (effect_at W y).scope) h.now))
      (stands y)

  -- of a kind whose agent is one
  abbrev SeenBy : AccessKind → Type 0
  SeenBy (Load by layout) = Seen by
  SeenBy (Store by layout) = Seen by
  SeenBy kind = Unit {0}

  -- the agent of a command's access
  seen_of : (m r bit : ℕ) (a : Access) → Has V m a → stage_of a.kind ≡ Some (bit_stage bit) → r ≡ queue_at V m → Seen (agents.Of r bit)
  seen_of m r bit a h e here = λ same.
      let site_is = by_command m (bit_stage bit) a h e in
      let C = (single program).command m (has_within V m a A h) site_is.0 in
      let stage : bit_stage bit ≡ 2 ^ C.bit = site_is.1 ∙ C.same ∙ C.one in
      let alike : meets (expand set) (bit_stage bit) ≡ meets own (bit_stage bit) =
      ap (λ z. meets (expand set) z) site_is.1 ∙ fits m (sym here ∙ same) ∙ sym (ap (λ z. meets own z) site_is.1) in
      ⊎_elim
      (λ z. let pos = pow_pos C.bit in absurd (omega (arith, pos, stage, z)))
      (λ (known : AgentBit bit). meets_agent queue.family set known.0 bit (agent_listed known.0 known.1 ∙ ap (λ z. Some z) (sym known.2)) alike)
      (known_bit bit)

  seen_by : (m : ℕ) (a : Access) (kind : AccessKind) → a.kind ≡ kind → Has V m a → SeenBy kind
  seen_by m a (Load (agents.Of r bit) layout) e h =
      let here = ap (λ z. stage_of z) e in
      let by = A.command m h.0 a h.1 (by_command m (bit_stage bit) a h here).0 in
      seen_of m r bit a h here (subst (IsByQueue (queue_at V m)) e by)
  seen_by m a (Store (agents.Of r bit) layout) e h =
      let here = ap (λ z. stage_of z) e in
      let by = A.command m h.0 a h.1 (by_command m (bit_stage bit) a h here).0 in
      seen_of m r bit a h here (subst (IsByQueue (queue_at V m)) e by)
  seen_by m a (Load agents.Host layout) e h = tt
  seen_by m a (Store agents.Host layout) e h = tt
  seen_by m a (Transition layouts) e h = tt
  seen_by m a (Discard layout) e h = tt
  seen_by m a (access_kinds.Release handover) e h = tt
  seen_by m a (access_kinds.Acquire handover) e h = tt

  flushed : (kind : AccessKind) (p x : ℕ) → FlushedBy kind V p x ↔ FlushedBy kind W p x
  flushed (Store by layout) p x = (λ h. sym (available x p by) ∙ h, λ h. available x p by ∙ h)
  flushed (Load by layout) p x = (λ h. h, λ h. h)
  flushed (Transition layouts) p x = (λ h. h, λ h. h)
  flushed (Discard layout) p x = (λ h. h, λ h. h)
  flushed (access_kinds.Release handover) p x = (λ h. h, λ h. h)
  flushed (access_kinds.Acquire handover) p x = (λ h. h, λ h. h)

  shown : (kind : AccessKind) (p y : ℕ) → SeenBy kind → ShownBy kind V p y ↔ ShownBy kind W p y
  shown (Load by layout) p y s = (λ h. sym (visible y p by s) ∙ h, λ h. visible y p by s ∙ h)
  shown (Store by layout) p y s = (λ h. sym (visible y p by s) ∙ h, λ h. visible y p by s ∙ h)
  shown (Transition layouts) p y s = (λ h. h, λ h. h)
  shown (Discard layout) p y s = (λ h. h, λ h. h)
  shown (access_kinds.Release handover) p y s = (λ h. h, λ h. h)
  shown (access_kinds.Acquire handover) p y s = (λ h. h, λ h. h)

  accesses : (n : ℕ) → accesses_of V n ≡ accesses_of W n
  accesses n = ⊎_elim
      (λ (h : Kept (node_at V.nodes n) (node_at W.nodes n) (effect_at V n) (effect_at W n)). sym (ap (λ z. z.accesses) h.effect))
      (λ (h : Changed q wait other (node_at V.nodes n) (node_at W.nodes n) (effect_at V n) (effect_at W n)). ap (λ z. z.accesses) h.effect ∙ sym (ap (λ z. z.accesses) h.effect_now))
      (stands n)

  pub seen_alike_wholly : WhollyAlike V W
  seen_alike_wholly = record {
    tied = record {
      accesses = accesses;
      clash = λ a c. refl;
      edge = sync_edges;
      waits = λ n x stage a h e. waits n x stage;
      lets = lets;
      flushed = λ n x a h. flushed a.kind a.piece x;
      shown = λ m y a h. shown a.kind a.piece y (seen_by m a a.kind refl h);
    };
    nodes = record {
      count = length_same V.nodes W.nodes all_like;
      kind = λ n. (like n).kind;
      queue = λ n. (like n).queue;
      meeting = meeting_of V.nodes W.nodes all_like;
      edge = edges;
    };
    pieces = refl;
    imported = refl;
    families = sym (changed_kept (λ z. z.family) (queue_with b (slice_set batch.waits k other)) (λ z. refl) q program.queues);
  }
