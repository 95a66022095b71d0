-- In a program that is cut from steps every signal and wait is of all commands.
use Rattle.std.proofs.Common.{◌≡◌, ◌⊎◌, inl, inr, ℕ, ◌<◌, ◌≤◌, ◌==◌, ◌&&◌, Bool, true, false, List, [], ◌∷◌, length, get_or, Option, Some, None, refl, sym, ap, ◌∙◌, subst, eq-eqb}
use Rattle.std.specs.List.{All, flat_map}
use Rattle.std.specs.Option.{option_map_or}
use Rattle.std.specs.Prelude.{slice_get, unwrap_or}
use Rattle.std.proofs.lemmas.Bool.{and_from, cases_lt}
use Rattle.std.proofs.lemmas.List.Elements.{All-nil, All-append}
use Rattle.std.proofs.lemmas.List.{length-map, get_or_past}
use Rattle.std.proofs.lemmas.Option.{slice_get-get_or, slice_get_within, get_or_from_slice_get}
use Rattle.base.proofs.Lists.{one}
use Rattle.base.specs.Shapes.{shape_at}
use Rattle.base.specs.Touches.{touches_of}
use Rattle.base.specs.declared.op.Op.{Op}
use Rattle.base.specs.declared.role.Role.{Role}
use Rattle.base.specs.declared.role.Role.TheVariants.{CopyRead, CopyWrite, ClearWrite, Sampled, StorageRead, StorageWrite, Attachment}
use Rattle.base.specs.declared.shape.Shape.{Shape}
use Rattle.base.specs.declared.touch.Touch.{Touch}
use Rattle.vk.specs.Agents.{agents}
use Rattle.vk.specs.Roles.{role_stage, load_access, store_access, layout_wanted}
use Rattle.vk.specs.Sets.{meets}
use Rattle.vk.specs.Stages.{all_commands}
use Rattle.law_plan.specs.Crossings.{IsFull, Flushes, Shows}
use Rattle.law_schedule.proofs.Sorts.{WaitAt, SignalAt, signal_at, wait_at}
use Rattle.law_schedule.proofs.Standing.{entry_stands}
use Rattle.law_schedule.specs.Standing.{StandsFor, AllStand, AreThese}
use Rattle.check_order.specs.Edges.{is_signal, is_wait, node_at}
use Rattle.check_order.specs.Nodes.{entry_node, program_nodes}
use Rattle.check_order.specs.declared.kind.Kind.TheVariants as kinds
use Rattle.program.specs.Entries.{Entry, OfWait, OfItem, OfSignal, OfHost, entries_of}
use Rattle.program.specs.Rules.{shapes_of}
use Rattle.program.specs.declared.program.Item.TheVariants.{Command, Global, BufferBarrier, ImageBarrier, Release, Acquire}
use Rattle.program.specs.declared.program.Program.{Program}
use Rattle.compile_timeline.specs.declared.step.Step.{Step}
use Rattle.check_access.specs.Effects.{entry_effect, access, role_agent, touch_load, touch_store, touch_accesses, command_accesses, all_agents, no_effect}
use Rattle.check_access.specs.ValidView.{Has}
use Rattle.check_access.specs.Views.{View, effect_at, queue_at, is_on, view_of}
use Rattle.check_access.specs.declared.access.Access.{Access}
use Rattle.check_access.specs.declared.access.AccessKind.{AccessKind}
use Rattle.check_access.specs.declared.access.AccessKind.TheVariants.{Load, Store, Transition, Discard}
use Rattle.check_access.specs.declared.access.AccessKind.TheVariants as access_kinds
use Rattle.check_access.specs.declared.access.Agent.TheVariants as agent
use Rattle.check_access.specs.declared.effect.Scope.TheVariants.{Everywhere}

-- AGENTS OF COMMANDS

abbrev every : ℕ
every = all_agents all_commands

load_met : (role : Role) (whole : Bool) (kind : ℕ) → load_access role whole ≡ Some kind → meets every (agents (role_stage role) kind) ≡ true
load_met CopyRead whole kind e = ap (λ o. meets every (agents (role_stage CopyRead) (unwrap_or o 0))) (sym e)
load_met CopyWrite true kind e = absurd cc
load_met CopyWrite false kind e = ap (λ o. meets every (agents (role_stage CopyWrite) (unwrap_or o 0))) (sym e)
load_met ClearWrite true kind e = absurd cc
load_met ClearWrite false kind e = ap (λ o. meets every (agents (role_stage ClearWrite) (unwrap_or o 0))) (sym e)
load_met Sampled whole kind e = ap (λ o. meets every (agents (role_stage Sampled) (unwrap_or o 0))) (sym e)
load_met StorageRead whole kind e = ap (λ o. meets every (agents (role_stage StorageRead) (unwrap_or o 0))) (sym e)
load_met StorageWrite whole kind e = absurd cc
load_met (Attachment true) whole kind e = ap (λ o. meets every (agents (role_stage (Attachment true)) (unwrap_or o 0))) (sym e)
load_met (Attachment false) whole kind e = absurd cc

store_met : (role : Role) (kind : ℕ) → store_access role ≡ Some kind → meets every (agents (role_stage role) kind) ≡ true
store_met CopyRead kind e = absurd cc
store_met CopyWrite kind e = ap (λ o. meets every (agents (role_stage CopyWrite) (unwrap_or o 0))) (sym e)
store_met ClearWrite kind e = ap (λ o. meets every (agents (role_stage ClearWrite) (unwrap_or o 0))) (sym e)
store_met Sampled kind e = absurd cc
store_met StorageRead kind e = absurd cc
store_met StorageWrite kind e = ap (λ o. meets every (agents (role_stage StorageWrite) (unwrap_or o 0))) (sym e)
store_met (Attachment load) kind e = ap (λ o. meets every (agents (role_stage (Attachment load)) (unwrap_or o 0))) (sym e)

-- a load or a store by an agent of the queue in a stage of all commands
abbrev IsMet : ℕ → AccessKind → Type 0
IsMet q (Load (agent.Of r bit) layout) = (r ≡ q) × (meets every bit ≡ true)
IsMet q (Store (agent.Of r bit) layout) = (r ≡ q) × (meets every bit ≡ true)
IsMet q (Load agent.Host layout) = ⊥
IsMet q (Store agent.Host layout) = ⊥
IsMet q (Transition layouts) = ⊥
IsMet q (Discard layout) = ⊥
IsMet q (access_kinds.Release handover) = ⊥
IsMet q (access_kinds.Acquire handover) = ⊥

abbrev AreMet : ℕ → List Access → Type 0
AreMet q accesses = All (λ a. IsMet q a.kind) accesses

pub if_some : {X Y : Type 0} (P : Y → Type 0) (f : X → List Y) (o : Option X) → ((x : X) → o ≡ Some x → All P (f x)) → All P (option_map_or f o [])
if_some P f None h = All-nil P
if_some P f (Some x) h = h x refl

in_each : {X Y : Type 0} (P : Y → Type 0) (f : X → List Y) (xs : List X) → ((x : X) → All P (f x)) → All P (flat_map f xs)
in_each P f [] h = All-nil P
in_each P f (x ∷ xs) h = All-append P (f x) (flat_map f xs) (h x) (in_each P f xs h)

touch_met : (shapes : List Shape) (q : ℕ) (t : Touch) → AreMet q (touch_accesses shapes q t)
touch_met shapes q t = All-append (λ a. IsMet q a.kind) (option_map_or (touch_load shapes q t) (load_access t.role t.whole) []) (option_map_or (touch_store shapes q t) (store_access t.role) [])
    (if_some (λ a. IsMet q a.kind) (touch_load shapes q t) (load_access t.role t.whole) (λ kind e. one (λ a. IsMet q a.kind) (access t.what (Load (role_agent q t.role kind) (layout_wanted (shape_at shapes t.what) t.role))) (refl, load_met t.role t.whole kind e)))
    (if_some (λ a. IsMet q a.kind) (touch_store shapes q t) (store_access t.role) (λ kind e. one (λ a. IsMet q a.kind) (access t.what (Store (role_agent q t.role kind) (layout_wanted (shape_at shapes t.what) t.role))) (refl, store_met t.role kind e)))

command_met : (shapes : List Shape) (q : ℕ) (op : Op ℕ) → AreMet q (command_accesses shapes q op)
command_met shapes q op = in_each (λ a. IsMet q a.kind) (touch_accesses shapes q) (touches_of shapes op) (touch_met shapes q)

-- what a node of a command does
entry_met : (shapes : List Shape) (count : ℕ) (entry : Entry) → (entry_node count entry).kind ≡ kinds.Command → AreMet (entry_node count entry).queue (entry_effect shapes entry).accesses
entry_met shapes count (OfWait q wait) e = absurd cc
entry_met shapes count (OfItem q (Command op)) e = command_met shapes q op
entry_met shapes count (OfItem q (Global masks)) e = absurd cc
entry_met shapes count (OfItem q (BufferBarrier piece masks)) e = absurd cc
entry_met shapes count (OfItem q (ImageBarrier piece layouts masks)) e = absurd cc
entry_met shapes count (OfItem q (Release transfer)) e = absurd cc
entry_met shapes count (OfItem q (Acquire transfer)) e = absurd cc
entry_met shapes count (OfSignal q signal) e = absurd cc
entry_met shapes count (OfHost piece) e = absurd cc

met_at : (q i : ℕ) (accesses : List Access) (a : Access) → AreMet q accesses → slice_get accesses i ≡ Some a → IsMet q a.kind
met_at q i accesses a all e = subst (λ b. IsMet q b.kind) (get_or_from_slice_get accesses i a a e) (all i a (slice_get_within accesses i a e))

-- in every program
on_command : (P : Program) (n : ℕ) (a : Access) → (node_at (program_nodes P) n).kind ≡ kinds.Command → Has (view_of P) n a → IsMet (queue_at (view_of P) n) a.kind
on_command P n a is h = go (cases_lt n (length (entries_of P)))
  where
    none : slice_get no_effect.accesses h.0 ≡ Some a → ⊥
    none e = cc

    of : (entry : Entry) → StandsFor P n entry → IsMet (queue_at (view_of P) n) a.kind
    of entry S =
        subst (λ z. IsMet z.queue a.kind) (sym S.node)
        (met_at (entry_node (length P.queues) entry).queue h.0 (entry_effect (shapes_of P) entry).accesses a
        (entry_met (shapes_of P) (length P.queues) entry (sym (ap (λ z. z.kind) S.node) ∙ is))
        (sym (ap (λ u. slice_get u.accesses h.0) S.effect) ∙ h.1))

    go : (n < length (entries_of P)) ⊎ (length (entries_of P) ≤ n) → IsMet (queue_at (view_of P) n) a.kind
    go (inl lt) = of (get_or (entries_of P) n (OfHost 0)) (entry_stands P n (get_or (entries_of P) n (OfHost 0)) (slice_get-get_or (entries_of P) n (OfHost 0) lt))
    go (inr ge) = absurd (none (sym (ap (λ u. slice_get u.accesses h.0) (get_or_past (view_of P).effects n no_effect (subst (λ k. k ≤ n) (sym (length-map (entries_of P) (entry_effect (shapes_of P)))) ge))) ∙ h.1))

-- SIGNALS AND WAITS

-- a node that makes stores of all commands available, or memory visible to them, does so for such an access
has_every : (q r set bit : ℕ) → r ≡ q → set ≡ every → meets every bit ≡ true → ((r == q) && meets set bit) ≡ true
has_every q r set bit same is m = and_from (r == q) (meets set bit) (eq-eqb r q same) (ap (λ z. meets z bit) is ∙ m)

flushes : (kind : AccessKind) (V : View) (s p q : ℕ) → IsMet q kind → queue_at V s ≡ q → (effect_at V s).available ≡ every → (effect_at V s).scope ≡ Everywhere → Flushes kind V s p
flushes (Store (agent.Of r bit) layout) V s p q m same available scope = and_from ((r == queue_at V s) && meets (effect_at V s).available bit) (is_on p (effect_at V s).scope) (has_every (queue_at V s) r (effect_at V s).available bit (m.0 ∙ sym same) available m.1) (ap (is_on p) scope)
flushes (Store agent.Host layout) V s p q m same available scope = absurd m
flushes (Load agent layout) V s p q m same available scope = tt
flushes (Transition layouts) V s p q m same available scope = tt
flushes (Discard layout) V s p q m same available scope = tt
flushes (access_kinds.Release handover) V s p q m same available scope = tt
flushes (access_kinds.Acquire handover) V s p q m same available scope = tt

shows : (kind : AccessKind) (V : View) (w p q : ℕ) → IsMet q kind → queue_at V w ≡ q → (effect_at V w).visible ≡ every → (effect_at V w).scope ≡ Everywhere → Shows kind V w p
shows (Store (agent.Of r bit) layout) V w p q m same visible scope = and_from ((r == queue_at V w) && meets (effect_at V w).visible bit) (is_on p (effect_at V w).scope) (has_every (queue_at V w) r (effect_at V w).visible bit (m.0 ∙ sym same) visible m.1) (ap (is_on p) scope)
shows (Load (agent.Of r bit) layout) V w p q m same visible scope = and_from ((r == queue_at V w) && meets (effect_at V w).visible bit) (is_on p (effect_at V w).scope) (has_every (queue_at V w) r (effect_at V w).visible bit (m.0 ∙ sym same) visible m.1) (ap (is_on p) scope)
shows (Store agent.Host layout) V w p q m same visible scope = absurd m
shows (Load agent.Host layout) V w p q m same visible scope = absurd m
shows (Transition layouts) V w p q m same visible scope = tt
shows (Discard layout) V w p q m same visible scope = tt
shows (access_kinds.Release handover) V w p q m same visible scope = tt
shows (access_kinds.Acquire handover) V w p q m same visible scope = tt

pub is_full : (P : Program) (script : List Step) (count : ℕ) → AllStand P script count → AreThese P script count → IsFull (view_of P)
is_full P script count T A = record {
  signals = λ s holds. ap (λ z. z.src_stages.0) (signal s holds).stands.node;
  waits = λ w holds. ap (λ z. z.dst_stages.0) (wait w holds).stands.node;
  flushed = λ n s a holds sooner is h. let S = (signal s holds).stands in flushes a.kind (view_of P) s a.piece (queue_at (view_of P) n) (on_command P n a is h) (sym sooner.same) (ap (λ u. u.available) S.effect) (ap (λ u. u.scope) S.effect);
  shown = λ w n a holds sooner is h. let S = (wait w holds).stands in shows a.kind (view_of P) w a.piece (queue_at (view_of P) n) (on_command P n a is h) sooner.same (ap (λ u. u.visible) S.effect) (ap (λ u. u.scope) S.effect);
}
  where
    signal : (s : ℕ) → is_signal (node_at (program_nodes P) s).kind ≡ true → SignalAt P script count s
    signal s holds = signal_at P script count T A s holds

    wait : (w : ℕ) → is_wait (node_at (program_nodes P) w).kind ≡ true → WaitAt P script count w
    wait w holds = wait_at P script count T A w holds
