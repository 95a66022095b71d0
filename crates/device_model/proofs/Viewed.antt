-- Today's views as the law of single accesses sees them: what is synchronized is synchronized, an order is an order, and they give what the
-- law asks of a program.
use Rattle.std.proofs.Common.{◌≡◌, ◌≢◌, ◌⊎◌, inl, inr, ℕ, ◌<◌, ◌==◌, ◌&&◌, ◌||◌, not, Bool, true, false, if◌then◌else◌, List, [], ◌∷◌, length, slice_get, Option, Some, None, refl, sym, ap, ◌∙◌, subst, ⊎_elim, eq-eqb, eqb-true, arith}
use Rattle.std.specs.Option.{option_map, is_some}
use Rattle.std.proofs.lemmas.Bool.{cases_eq, cases_lt, cases_Bool, false≢true, and_parts, and_from, or_left, or_right, or_cases}
use Rattle.std.proofs.lemmas.Option.{slice_get-map}
use Rattle.law_runs.proofs.Absence.{some_same}
use Rattle.law_runs.proofs.Old.{Joined, before_by_nodes, sync_path, Within, before_of_accesses}
use Rattle.law_runs.specs.Apart as apart
use Rattle.law_runs.specs.Formed.{Formed}
use Rattle.law_runs.proofs.Shared.{overlap_at, overlap_self}
use Rattle.device_cache.specs.Lines.{is_in}
use Rattle.device_model.specs.Agents.{agent_at, agent_number, agent_of, piece_range, in_scope}
use Rattle.device_model.specs.Ready.{is_command}
use Rattle.law_runs.specs.Runs.{reads}
use Rattle.law_runs.specs.Orders as order
use Rattle.law_runs.specs.Systems as law
use Rattle.device_model.proofs.Cases.{command_is, not_host, of_queue_plain}
use Rattle.device_model.proofs.Shared.{flush_syncs, show_syncs}
use Rattle.device_model.proofs.SystemOf.{command_at, doing_of, lays_of, hands_of, access_of, family_numbered, alters, clashes, system_of}
use Rattle.std.specs.List.{list_any}
use Rattle.base.specs.Shapes.{bytes_of}
use Rattle.vk.specs.declared.layout.Layout.{Layout}
use Rattle.check_order.proofs.Within.{edge_within}
use Rattle.check_order.specs.Orders as hb
use Rattle.check_order.specs.Edges.{edge, is_host, is_sync, node_at}
use Rattle.check_order.specs.declared.kind.Kind.{Kind}
use Rattle.check_order.specs.declared.kind.Kind.TheVariants as kinds
use Rattle.base_reach.specs.Paths as old
use Rattle.check_access_order.proofs.Sites.{has_within}
use Rattle.law_nodes.specs.Passing.{Before, UpTo, Reaches, AvailableBy, VisibleBy, Passed}
use Rattle.law_nodes.specs.Synchronized.{Synchronized}
use Rattle.check_access.specs.AccessKinds.{changes, transfers, sets_layout, sets_owner, is_acquire}
use Rattle.check_access.specs.ValidView.{ValidView, AccessAt, Has, IsByQueue, IsByBarrier}
use Rattle.check_access.specs.Views.{View, accesses_of, clash, overlap, makes_available, makes_visible, has_agent, is_on, queue_at, effect_at, piece_at, is_before_end, shared_at}
use Rattle.check_access.specs.declared.access.Access.{Access}
use Rattle.check_access.specs.declared.access.AccessKind.{AccessKind}
use Rattle.check_access.specs.declared.access.AccessKind.TheVariants.{Load, Store, Transition, Discard, Release, Acquire}
use Rattle.check_access.specs.declared.access.Agent.{Agent}
use Rattle.check_access.specs.declared.access.Agent.TheVariants as agents
use Rattle.check_access.specs.declared.effect.Scope.{Scope}
use Rattle.check_access.specs.declared.effect.Scope.TheVariants as scopes

pub before_same : (list : List ℕ) (n : ℕ) → hb.before_in list n ≡ apart.before_in list n
before_same [] n = refl
before_same (x ∷ rest) n = ap (λ l. if x == n then [] else x ∷ l) (before_same rest n)

-- KINDS

pub changes_same : (k : AccessKind) → law.changes (doing_of k) ≡ changes k
changes_same (Load (agents.Of q b) l) = refl
changes_same (Load agents.Host l) = refl
changes_same (Store a l) = refl
changes_same (Transition l) = refl
changes_same (Discard l) = refl
changes_same (Release h) = refl
changes_same (Acquire h) = refl

alters_same : (k : AccessKind) → alters (doing_of k) ≡ changes k
alters_same (Load (agents.Of q b) l) = refl
alters_same (Load agents.Host l) = refl
alters_same (Store a l) = refl
alters_same (Transition l) = refl
alters_same (Discard l) = refl
alters_same (Release h) = refl
alters_same (Acquire h) = refl

transfers_same : (k : AccessKind) → law.transfers (doing_of k) ≡ transfers k
transfers_same (Load (agents.Of q b) l) = refl
transfers_same (Load agents.Host l) = refl
transfers_same (Store a l) = refl
transfers_same (Transition l) = refl
transfers_same (Discard l) = refl
transfers_same (Release h) = refl
transfers_same (Acquire h) = refl

pub clash_same : (V : View) (n m : ℕ) (a b : Access) → clashes V (access_of V n a) (access_of V m b) ≡ clash V a b
clash_same V n m a b =
    ap (λ z. (overlap V a.piece b.piece && (z || alters (doing_of b.kind))) || ((a.piece == b.piece) && (law.transfers (doing_of a.kind) || law.transfers (doing_of b.kind)))) (alters_same a.kind)
    ∙ ap (λ z. (overlap V a.piece b.piece && (changes a.kind || z)) || ((a.piece == b.piece) && (law.transfers (doing_of a.kind) || law.transfers (doing_of b.kind)))) (alters_same b.kind)
    ∙ ap (λ z. (overlap V a.piece b.piece && (changes a.kind || changes b.kind)) || ((a.piece == b.piece) && (z || law.transfers (doing_of b.kind)))) (transfers_same a.kind)
    ∙ ap (λ z. (overlap V a.piece b.piece && (changes a.kind || changes b.kind)) || ((a.piece == b.piece) && (transfers a.kind || z))) (transfers_same b.kind)

overlap_back : (V : View) (p q : ℕ) → overlap V p q ≡ true → overlap V q p ≡ true
overlap_back V p q h =
    let a = piece_at V p in
    let b = piece_at V q in
    let e = and_parts (a.memory == b.memory) (is_before_end a b && is_before_end b a) h in
    let f = and_parts (is_before_end a b) (is_before_end b a) e.1 in
    and_from (b.memory == a.memory) (is_before_end b a && is_before_end a b) (eq-eqb b.memory a.memory (sym (eqb-true a.memory b.memory e.0))) (and_from (is_before_end b a) (is_before_end a b) f.1 f.0)

or_back : (x y : Bool) → (x || y) ≡ true → (y || x) ≡ true
or_back true true h = refl
or_back true false h = refl
or_back false true h = refl
or_back false false h = absurd (false≢true h)

pub clash_turned : (V : View) (a b : law.Access) → clashes V a b ≡ true → clashes V b a ≡ true
clash_turned V a b h = ⊎_elim
    (λ e. let p = and_parts (overlap V a.piece b.piece) (alters a.doing || alters b.doing) e in or_left (overlap V b.piece a.piece && (alters b.doing || alters a.doing)) ((b.piece == a.piece) && (law.transfers b.doing || law.transfers a.doing)) (and_from (overlap V b.piece a.piece) (alters b.doing || alters a.doing) (overlap_back V a.piece b.piece p.0) (or_back (alters a.doing) (alters b.doing) p.1)))
    (λ e. let p = and_parts (a.piece == b.piece) (law.transfers a.doing || law.transfers b.doing) e in or_right (overlap V b.piece a.piece && (alters b.doing || alters a.doing)) ((b.piece == a.piece) && (law.transfers b.doing || law.transfers a.doing)) (and_from (b.piece == a.piece) (law.transfers b.doing || law.transfers a.doing) (eq-eqb b.piece a.piece (sym (eqb-true a.piece b.piece p.0))) (or_back (law.transfers a.doing) (law.transfers b.doing) p.1)))
    (or_cases (overlap V a.piece b.piece && (alters a.doing || alters b.doing)) ((a.piece == b.piece) && (law.transfers a.doing || law.transfers b.doing)) h)

abbrev is_host_load : AccessKind → Bool
is_host_load (Load agents.Host l) = true
is_host_load k = false

pub other_kind : (k : Kind) → is_command k ≡ false → (is_sync k ≡ true) ⊎ (is_host k ≡ true)
other_kind kinds.Command h = absurd (false≢true (sym h))
other_kind kinds.Host h = inr refl
other_kind k h = inl refl

pub path_to : (e : ℕ → ℕ → Bool) (a b : ℕ) → old.Path e a b → order.Path e a b
path_to e a b (old.one q) = order.one q
path_to e a b (old.then_on {b = c} p q) = order.then_on (path_to e a c p) (path_to e c b q)

-- AN ACCESS OF THE SYSTEM IS ONE OF THE VIEW

pub record From (V : View) (n k : ℕ) (a : law.Access) : Type 0 where
  pub access : Access
  pub at : AccessAt V n k access
  pub same : a ≡ access_of V n access

pub from : (V : View) (out : ℕ → (ℕ → List ℕ) → ℕ → List ℕ) (n k : ℕ) (a : law.Access) → law.At (system_of V out) n k a → From V n k a
from V out n k a h = go (slice_get (accesses_of V n) k) refl (sym (slice_get-map (access_of V n) (accesses_of V n) k) ∙ h)
  where
    value : (x : Access) → Some (access_of V n x) ≡ Some a → access_of V n x ≡ a
    value x e = cc

    go : (o : Option Access) → slice_get (accesses_of V n) k ≡ o → option_map (access_of V n) o ≡ Some a → From V n k a
    go None e f = absurd cc
    go (Some x) e f = record { access = x; at = e; same = sym (value x f) }

pub to_law : (V : View) (out : ℕ → (ℕ → List ℕ) → ℕ → List ℕ) (n k : ℕ) (a : Access) → AccessAt V n k a → law.At (system_of V out) n k (access_of V n a)
to_law V out n k a h = slice_get-map (access_of V n) (accesses_of V n) k ∙ ap (option_map (access_of V n)) h

-- the agent of a load or store
abbrev pub IsOf : Agent → AccessKind → Type 0
IsOf agent (Load by layout) = by ≡ agent
IsOf agent (Store by layout) = by ≡ agent
IsOf agent kind = ⊥

-- edges of commands: none between two, and the stage of a command is in both of its neighbours' masks
pub record OneStage (V : View) : Type 0 where
  pub two : (x y : ℕ) → edge V.nodes x y ≡ true → command_at V x ≡ true → command_at V y ≡ true → ⊥
  pub joins : (x c y : ℕ) → command_at V c ≡ true → edge V.nodes x c ≡ true → edge V.nodes c y ≡ true → edge V.nodes x y ≡ true
  -- agents that store or load have numbers
  pub numbered : (n : ℕ) (a : Access) (agent : Agent) → Has V n a → command_at V n ≡ true → IsOf agent a.kind → agent_at (agent_number agent) ≡ agent

module _ (V : View) (out : ℕ → (ℕ → List ℕ) → ℕ → List ℕ) where
  pub joined : OneStage V → Joined (system_of V out) (edge V.nodes)
  joined J = record {
    two = J.two;
    sync = λ x y e s r. and_from (edge V.nodes x y) (not (command_at V x) && not (command_at V y)) e (and_from (not (command_at V x)) (not (command_at V y)) (ap not s) (ap not r));
    joins = λ x c y cl p q. and_from (edge V.nodes x y) (not (command_at V x) && not (command_at V y)) (J.joins x c y cl p q) (and_from (not (command_at V x)) (not (command_at V y))
        (ap not (⊎_elim (λ e. absurd (J.two x c p e cl)) (λ e. e) (cases_Bool (command_at V x))))
        (ap not (⊎_elim (λ e. absurd (J.two c y q cl e)) (λ e. e) (cases_Bool (command_at V y)))));
    leaves = λ n x a cl e. ap (λ z. if z then edge V.nodes n x else n == x) cl ∙ e;
    enters = λ y n a cl e. ap (λ z. if z then edge V.nodes y n else n == y) cl ∙ e;
    leaves_own = λ n a s. ap (λ z. if z then edge V.nodes n n else n == n) s ∙ eq-eqb n n refl;
    enters_own = λ n a s. ap (λ z. if z then edge V.nodes n n else n == n) s ∙ eq-eqb n n refl;
  }

-- WHAT IS PASSED ON

-- the byte is in the scope of what is on the piece
on_within : (V : View) (scope : Scope) (p m i : ℕ) → is_on p scope ≡ true → is_in (piece_range V p) m i ≡ true → in_scope V scope m i ≡ true
on_within V scopes.Everywhere p m i h k = refl
on_within V (scopes.Piece q) p m i h k = subst (λ z. is_in (piece_range V z) m i ≡ true) (sym (eqb-true q p h)) k

module _ (V : View) (out : ℕ → (ℕ → List ℕ) → ℕ → List ℕ) where
  flushes_on : (x p : ℕ) (agent : Agent) → agent_at (agent_number agent) ≡ agent → makes_available V x agent p ≡ true → order.FlushesOn (system_of V out) x (agent_number agent) p
  flushes_on x p agent e h m i k =
      let q = and_parts (has_agent (queue_at V x) (effect_at V x).available agent) (is_on p (effect_at V x).scope) h in
      and_from (has_agent (queue_at V x) (effect_at V x).available (agent_at (agent_number agent))) (in_scope V (effect_at V x).scope m i)
      (ap (λ a. has_agent (queue_at V x) (effect_at V x).available a) e ∙ q.0) (on_within V (effect_at V x).scope p m i q.1 k)

  shows_on : (x p : ℕ) (agent : Agent) → agent_at (agent_number agent) ≡ agent → makes_visible V x agent p ≡ true → order.ShowsOn (system_of V out) x (agent_number agent) p
  shows_on x p agent e h m i k =
      let q = and_parts (has_agent (queue_at V x) (effect_at V x).visible agent) (is_on p (effect_at V x).scope) h in
      and_from (has_agent (queue_at V x) (effect_at V x).visible (agent_at (agent_number agent))) (in_scope V (effect_at V x).scope m i)
      (ap (λ a. has_agent (queue_at V x) (effect_at V x).visible a) e ∙ q.0) (on_within V (effect_at V x).scope p m i q.1 k)

  module _ (X : ValidView V) (J : OneStage V) where
    abbrev S : law.System
    S = system_of V out

    -- kinds by nodes
    by_command : (n : ℕ) (a : Access) → Has V n a → command_at V n ≡ true → IsByQueue (queue_at V n) a.kind
    by_command n a h c = X.command n h.0 a h.1 (command_is (node_at V.nodes n).kind c)

    not_after : (n x : ℕ) → command_at V n ≡ true → edge V.nodes n x ≡ true → command_at V x ≡ false
    not_after n x c e = ⊎_elim (λ k. absurd (J.two n x e c k)) (λ k. k) (cases_Bool (command_at V x))

    not_before : (y m : ℕ) → command_at V m ≡ true → edge V.nodes y m ≡ true → command_at V y ≡ false
    not_before y m c e = ⊎_elim (λ k. absurd (J.two y m e k c)) (λ k. k) (cases_Bool (command_at V y))

    no_store : (k : AccessKind) (agent : Agent) (l : Option Layout) → k ≡ Store agent l → IsByBarrier k → ⊥
    no_store k agent l e (inl h) = false≢true (ap sets_layout (sym e) ∙ h)
    no_store k agent l e (inr h) = false≢true (ap transfers (sym e) ∙ h)

    load_no_store : (agent : Agent) (l r : Option Layout) → Store agent l ≡ Load agents.Host r → ⊥
    load_no_store agent l r e = false≢true (sym (ap changes e))

    store_command : (n : ℕ) (a : Access) (agent : Agent) (l : Option Layout) → Has V n a → a.kind ≡ Store agent l → command_at V n ≡ true
    store_command n a agent l h e = ⊎_elim (λ c. c) (λ c. absurd (⊎_elim (λ s. no_store a.kind agent l e (X.sync n h.0 a h.1 s)) (λ s. load_no_store agent l None (sym e ∙ X.host n h.0 a h.1 s)) (other_kind (node_at V.nodes n).kind c))) (cases_Bool (command_at V n))

    -- x makes available what n left, and is no command
    left_by : (k : AccessKind) (n x : ℕ) (a : Access) → a.kind ≡ k → Has V n a → changes k ≡ true → AvailableBy k V n a.piece x → order.AvailableBy S (doing_of k) n (access_of V n a) x × (command_at V x ≡ false)
    left_by (Store agent l) n x a e h c p =
        let cl = store_command n a agent l h e in
        ((ap (λ z. if z then edge V.nodes n x else n == x) cl ∙ p.0, subst (λ g. order.FlushesOn S x g a.piece) (ap agent_of (sym e)) (flushes_on x a.piece agent (J.numbered n a agent h cl (subst (IsOf agent) (sym e) refl)) p.1)), not_after n x cl p.0)
    left_by (Load agent l) n x a e h c p = absurd (false≢true c)
    left_by (Transition l) n x a e h c p = (p, ap (command_at V) (sym p) ∙ not_queue)
      where
        not_queue : command_at V n ≡ false
        not_queue = ⊎_elim (λ q. absurd (subst (IsByQueue (queue_at V n)) e (by_command n a h q))) (λ q. q) (cases_Bool (command_at V n))
    left_by (Discard l) n x a e h c p = (p, ap (command_at V) (sym p) ∙ not_queue)
      where
        not_queue : command_at V n ≡ false
        not_queue = ⊎_elim (λ q. absurd (subst (IsByQueue (queue_at V n)) e (by_command n a h q))) (λ q. q) (cases_Bool (command_at V n))
    left_by (Release q) n x a e h c p = absurd (false≢true c)
    left_by (Acquire q) n x a e h c p = absurd (false≢true c)

    up_to : (x y : ℕ) → command_at V x ≡ false → command_at V y ≡ false → UpTo V x y → order.UpTo S x y
    up_to x y s r (inl e) = inl e
    up_to x y s r (inr p) = inr (sync_path S (edge V.nodes) (joined V out J) x y s r (path_to (edge V.nodes) x y p))

    -- a node that makes memory visible to a command enters it
    reached : (y m : ℕ) → command_at V m ≡ true → Reaches V y m → edge V.nodes y m ≡ true
    reached y m c (inl e) = e
    reached y m c (inr q) = absurd (not_host (node_at V.nodes m).kind c q.0)

    found_command : (k : AccessKind) (m y : ℕ) (b : Access) → b.kind ≡ k → Has V m b → command_at V m ≡ true → VisibleBy k V m b.piece y → order.VisibleBy S (doing_of k) m (access_of V m b) y × (command_at V y ≡ false)
    found_command (Load (agents.Of q bit) l) m y b e h c v =
        let f = reached y m c v.0 in
        ((ap (λ z. if z then edge V.nodes y m else m == y) c ∙ f, subst (λ g. order.ShowsOn S y g b.piece) (ap agent_of (sym e)) (shows_on y b.piece (agents.Of q bit) (J.numbered m b (agents.Of q bit) h c (subst (IsOf (agents.Of q bit)) (sym e) refl)) v.1)), not_before y m c f)
    found_command (Store agent l) m y b e h c v =
        let f = reached y m c v.0 in
        ((ap (λ z. if z then edge V.nodes y m else m == y) c ∙ f, subst (λ g. order.ShowsOn S y g b.piece) (ap agent_of (sym e)) (shows_on y b.piece agent (J.numbered m b agent h c (subst (IsOf agent) (sym e) refl)) v.1)), not_before y m c f)
    found_command (Load agents.Host l) m y b e h c v = absurd (subst (IsByQueue (queue_at V m)) e (by_command m b h c))
    found_command (Transition l) m y b e h c v = absurd (subst (IsByQueue (queue_at V m)) e (by_command m b h c))
    found_command (Discard l) m y b e h c v = absurd (subst (IsByQueue (queue_at V m)) e (by_command m b h c))
    found_command (Release q) m y b e h c v = absurd (subst (IsByQueue (queue_at V m)) e (by_command m b h c))
    found_command (Acquire q) m y b e h c v = absurd (subst (IsByQueue (queue_at V m)) e (by_command m b h c))

    reaches_before : (y m : ℕ) → Reaches V y m → Before V y m
    reaches_before y m (inl e) = old.one e
    reaches_before y m (inr h) = h.1

    found_before : (k : AccessKind) (m p y : ℕ) → VisibleBy k V m p y → UpTo V y m
    found_before (Load agent l) m p y v = inr (reaches_before y m v.0)
    found_before (Store agent l) m p y v = inr (reaches_before y m v.0)
    found_before (Transition l) m p y v = inl v
    found_before (Discard l) m p y v = inl v
    found_before (Release q) m p y v = inl v
    found_before (Acquire q) m p y v = inl v

    up_then : (x y z : ℕ) → UpTo V x y → UpTo V y z → UpTo V x z
    up_then x y z (inl e) h = subst (λ t. UpTo V t z) (sym e) h
    up_then x y z (inr p) (inl e) = inr (subst (λ t. Before V x t) e p)
    up_then x y z (inr p) (inr q) = inr (old.then_on p q)

    -- a node that is no command finds what is before it
    found_sync : (k : AccessKind) (m : ℕ) (b : Access) → b.kind ≡ k → Has V m b → command_at V m ≡ false → order.VisibleBy S (doing_of k) m (access_of V m b) m
    found_sync (Load agents.Host l) m b e h c = inl refl
    found_sync (Transition l) m b e h c = inl refl
    found_sync (Discard l) m b e h c = inl refl
    found_sync (Release q) m b e h c = inl refl
    found_sync (Acquire q) m b e h c = inl refl
    found_sync (Store agent l) m b e h c = absurd (false≢true (sym c ∙ store_command m b agent l h e))
    found_sync (Load (agents.Of q bit) l) m b e h c = absurd (⊎_elim (λ s. no_load (X.sync m h.0 b h.1 s)) (λ s. host_only (sym e ∙ X.host m h.0 b h.1 s)) (other_kind (node_at V.nodes m).kind c))
      where
        no_load : IsByBarrier b.kind → ⊥
        no_load (inl s) = false≢true (ap sets_layout (sym e) ∙ s)
        no_load (inr s) = false≢true (ap transfers (sym e) ∙ s)

        host_only : Load (agents.Of q bit) l ≡ Load agents.Host None → ⊥
        host_only f = false≢true (ap is_host_load f)

    passed_on : (n m : ℕ) (a b : Access) → Has V n a → Has V m b → changes a.kind ≡ true → Passed V n a m b → order.Passed S n (access_of V n a) m (access_of V m b)
    passed_on n m a b ha hb ch p = go (cases_Bool (command_at V m))
      where
        l : order.AvailableBy S (doing_of a.kind) n (access_of V n a) p.0 × (command_at V p.0 ≡ false)
        l = left_by a.kind n p.0 a refl ha ch p.2

        go : (command_at V m ≡ true) ⊎ (command_at V m ≡ false) → order.Passed S n (access_of V n a) m (access_of V m b)
        go (inl c) = let f = found_command b.kind m p.1 b refl hb c p.4 in record { x = p.0; y = p.1; available = l.0; leads = up_to p.0 p.1 l.1 f.1 p.3; visible = f.0 }
        go (inr c) = record { x = p.0; y = m; available = l.0; leads = up_to p.0 m l.1 c (up_then p.0 p.1 m p.3 (found_before b.kind m b.piece p.1 p.4)); visible = found_sync b.kind m b refl hb c }

    -- TIED

    pub within : Within S (edge V.nodes)
    within = record {
      sync = λ x y e. (and_parts (edge V.nodes x y) (not (command_at V x) && not (command_at V y)) e).0;
      leaves = λ n x a c l. sym (ap (λ z. if z then edge V.nodes n x else n == x) c) ∙ l;
      enters = λ y n a c l. sym (ap (λ z. if z then edge V.nodes y n else n == y) c) ∙ l;
    }

    pub old_path : (a b : ℕ) → order.Path (edge V.nodes) a b → Before V a b
    old_path a b (order.one q) = old.one q
    old_path a b (order.then_on {b = c} p q) = old.then_on (old_path a c p) (old_path c b q)

    pub synchronized_of : Formed (system_of V out) → Synchronized V → order.Synchronized S
    synchronized_of F T = record {
      ordered = λ n m a b ha hb ne c. ordered n m a b (from V out n ha.0 a ha.1) (from V out m hb.0 b hb.1) ne c;
      passed = λ n m a b ha hb ne c B ch keeps full. passed n m a b (from V out n ha.0 a ha.1) (from V out m hb.0 b hb.1) ne c B ch keeps;
    }
      where
        clashing : (n m k j : ℕ) (a b : law.Access) (f : From V n k a) (g : From V m j b) → S.clash a b ≡ true → clash V f.access g.access ≡ true
        clashing n m k j a b f g c = sym (clash_same V n m f.access g.access) ∙ subst (λ z. clashes V (access_of V n f.access) z ≡ true) g.same (subst (λ z. clashes V z b ≡ true) f.same c)

        ordered : (n m : ℕ) {k j : ℕ} (a b : law.Access) → From V n k a → From V m j b → n ≢ m → S.clash a b ≡ true → order.Before S n a m b ⊎ order.Before S m b n a
        ordered n m {k = k} {j = j} a b f g ne c = ⊎_elim
            (λ p. inl (before_by_nodes S (edge V.nodes) (joined V out J) n m a b (path_to (edge V.nodes) n m p)))
            (λ p. inr (before_by_nodes S (edge V.nodes) (joined V out J) m n b a (path_to (edge V.nodes) m n p)))
            (T.ordered n m f.access g.access (k, f.at) (j, g.at) (record { apart = ne; clash = clashing n m k j a b f g c }))

        passed : (n m : ℕ) {k j : ℕ} (a b : law.Access) → From V n k a → From V m j b → n ≢ m → S.clash a b ≡ true → order.Before S n a m b → law.changes a.doing ≡ true → law.transfers b.doing ≡ false → order.Passed S n a m b
        passed n m {k = k} {j = j} a b f g ne c B ch keeps =
            subst (λ z. order.Passed S n z m b) (sym f.same) (subst (λ z. order.Passed S n (access_of V n f.access) m z) (sym g.same)
            (passed_on n m f.access g.access (k, f.at) (j, g.at) changed
            (T.passed n m f.access g.access (k, f.at) (j, g.at) (record { apart = ne; clash = clashing n m k j a b f g c }) (old_path n m (before_of_accesses S F (edge V.nodes) within n m a b ne B)) changed kept)))
          where
            changed : changes f.access.kind ≡ true
            changed = sym (changes_same f.access.kind) ∙ ap (λ z. law.changes z.doing) (sym f.same) ∙ ch

            kept : transfers g.access.kind ≡ false
            kept = sym (transfers_same g.access.kind) ∙ ap (λ z. law.transfers z.doing) (sym g.same) ∙ keeps

    -- WHAT THE VIEW GIVES

    false_of : (b : Bool) → not b ≡ true → b ≡ false
    false_of true h = absurd (false≢true h)
    false_of false h = refl

    sync_no_command : (k : Kind) → is_sync k ≡ true → is_command k ≡ false
    sync_no_command kinds.Command h = absurd (false≢true h)
    sync_no_command k h = refl

    queued : (q : ℕ) (k : AccessKind) → IsByQueue q k → (law.is_load (doing_of k) || law.is_long (doing_of k)) ≡ true
    queued q (Load (agents.Of r b) l) h = refl
    queued q (Load agents.Host l) h = absurd h
    queued q (Store a l) h = refl
    queued q (Transition l) h = absurd h
    queued q (Discard l) h = absurd h
    queued q (Release r) h = absurd h
    queued q (Acquire r) h = absurd h

    barred : (k : AccessKind) → IsByBarrier k → (law.is_load (doing_of k) || law.is_long (doing_of k)) ≡ false
    barred (Load a l) (inl h) = absurd (false≢true h)
    barred (Load a l) (inr h) = absurd (false≢true h)
    barred (Store a l) (inl h) = absurd (false≢true h)
    barred (Store a l) (inr h) = absurd (false≢true h)
    barred (Transition l) h = refl
    barred (Discard l) h = refl
    barred (Release r) h = refl
    barred (Acquire r) h = refl

    -- a node changes bytes by one access, at one place
    one_place : (n k j : ℕ) (c d : Access) → AccessAt V n k c → AccessAt V n j d → changes c.kind ≡ true → changes d.kind ≡ true → k ≡ j
    one_place n k j c d h g p q = ⊎_elim (λ e. e) (λ ne. absurd (⊎_elim (λ lt. after k j c d h g p q lt) (λ lt. after j k d c g h q p lt) (two k j ne))) (cases_eq k j)
      where
        plain : (k : AccessKind) → changes k ≡ true → transfers k ≡ false
        plain (Release r) h = absurd (false≢true h)
        plain (Acquire r) h = absurd (false≢true h)
        plain k h = refl

        after : (i l : ℕ) (x y : Access) → AccessAt V n i x → AccessAt V n l y → changes x.kind ≡ true → changes y.kind ≡ true → i < l → ⊥
        after i l x y a b s t lt = false≢true (sym (plain y.kind t) ∙ X.last n i l x y a b lt s)

        two : (k j : ℕ) → k ≢ j → (k < j) ⊎ (j < k)
        two k j ne = ⊎_elim (λ lt. inl lt) (λ le. inr (omega (arith, le, ne))) (cases_lt k j)

    one_change : (n k j : ℕ) (c d : Access) → AccessAt V n k c → AccessAt V n j d → changes c.kind ≡ true → changes d.kind ≡ true → c ≡ d
    one_change n k j c d h g p q = some_same (sym h ∙ ap (λ i. slice_get (accesses_of V n) i) (one_place n k j c d h g p q) ∙ g)

    one_owner : (n k j : ℕ) (c d : Access) → AccessAt V n k c → AccessAt V n j d → sets_owner c.kind ≡ true → sets_owner d.kind ≡ true → c ≡ d
    one_owner n k j c d h g p q = some_same (sym h ∙ ap (λ i. slice_get (accesses_of V n) i) (⊎_elim (λ e. e) (λ ne. absurd (⊎_elim (λ lt. false≢true (sym (X.final n k j c d h g lt) ∙ p)) (λ le. let lt : j < k = omega (arith, le, ne) in false≢true (sym (X.final n j k d c g h lt) ∙ q)) (cases_lt k j))) (cases_eq k j)) ∙ g)

    pub store_change : (k : AccessKind) → law.is_store (doing_of k) ≡ true → changes k ≡ true
    store_change (Load (agents.Of q b) l) h = absurd (false≢true h)
    store_change (Load agents.Host l) h = absurd (false≢true h)
    store_change (Store a l) h = refl
    store_change (Transition l) h = absurd (false≢true h)
    store_change (Discard l) h = absurd (false≢true h)
    store_change (Release r) h = absurd (false≢true h)
    store_change (Acquire r) h = absurd (false≢true h)

    not_superseded : (k : AccessKind) → law.is_superseded (doing_of k) ≡ true → ⊥
    not_superseded (Load (agents.Of q b) l) h = false≢true h
    not_superseded (Load agents.Host l) h = false≢true h
    not_superseded (Store a l) h = false≢true h
    not_superseded (Transition l) h = false≢true h
    not_superseded (Discard l) h = false≢true h
    not_superseded (Release r) h = false≢true h
    not_superseded (Acquire r) h = false≢true h

    -- what lays changes, and what hands decides an owner
    laying : (k : AccessKind) → is_some (lays_of k) ≡ true → (sets_layout k ≡ true) × (changes k ≡ true)
    laying (Load a l) h = absurd (false≢true h)
    laying (Store a l) h = absurd (false≢true h)
    laying (Transition l) h = (refl, refl)
    laying (Discard l) h = (refl, refl)
    laying (Release r) h = absurd (false≢true h)
    laying (Acquire r) h = absurd (false≢true h)

    handing : (k : AccessKind) (f : Option ℕ) → is_some (hands_of k f) ≡ true → (sets_owner k ≡ true) × ((law.changes (doing_of k) ≡ true) ⊎ (law.transfers (doing_of k) ≡ true))
    handing (Load a l) f h = absurd (false≢true h)
    handing (Store a l) f h = absurd (false≢true h)
    handing (Transition l) f h = absurd (false≢true h)
    handing (Discard l) f h = (refl, inl refl)
    handing (Release r) f h = (refl, inr refl)
    handing (Acquire r) f h = (refl, inr refl)

    -- host reads have one access and hold nothing back; what commands store hangs on their loads alone
    pub record Rest : Type 0 where
      pub ends : (x y : ℕ) → edge V.nodes x y ≡ true → is_host (node_at V.nodes x).kind ≡ true → ⊥
      pub sized : (n k : ℕ) (a : Access) (loaded : ℕ → List ℕ) → AccessAt V n k a → law.is_store (doing_of a.kind) ≡ true → length (out n loaded k) ≡ bytes_of (piece_at V a.piece).shape
      pub by_loads : (n k : ℕ) (f g : ℕ → List ℕ) → ((j : ℕ) (a : law.Access) → law.At S n j a → law.is_load a.doing ≡ true → f j ≡ g j) → out n f k ≡ out n g k

    own : {n k : ℕ} {a : law.Access} (P : law.Access → Type 0) (f : From V n k a) → P (access_of V n f.access) → P a
    own P f h = subst P (sym f.same) h

    given : {n k : ℕ} {a : law.Access} (P : law.Access → Type 0) (f : From V n k a) → P a → P (access_of V n f.access)
    given P f h = subst P f.same h

    of : (n : ℕ) (a : law.Access) (h : law.Has S n a) → From V n h.0 a
    of n a h = from V out n h.0 a h.1

    read_at_host : (n k : ℕ) (a : Access) → AccessAt V n k a → reads (doing_of a.kind) ≡ true → is_host (node_at V.nodes n).kind ≡ true
    read_at_host n k a at r = ⊎_elim
        (λ c. absurd (queue_reads (queue_at V n) a.kind (by_command n a (k, at) c) r))
        (λ c. ⊎_elim (λ s. absurd (bar_reads a.kind (X.sync n k a at s) r)) (λ h. h) (other_kind (node_at V.nodes n).kind c))
        (cases_Bool (command_at V n))
      where
        queue_reads : (q : ℕ) (k : AccessKind) → IsByQueue q k → reads (doing_of k) ≡ true → ⊥
        queue_reads q (Load (agents.Of p b) l) h r = false≢true r
        queue_reads q (Load agents.Host l) h r = h
        queue_reads q (Store a l) h r = false≢true r
        queue_reads q (Transition l) h r = h
        queue_reads q (Discard l) h r = h
        queue_reads q (Release p) h r = h
        queue_reads q (Acquire p) h r = h

        bar_reads : (k : AccessKind) → IsByBarrier k → reads (doing_of k) ≡ true → ⊥
        bar_reads (Load a l) (inl h) r = false≢true h
        bar_reads (Load a l) (inr h) r = false≢true h
        bar_reads (Store a l) h r = false≢true r
        bar_reads (Transition l) h r = false≢true r
        bar_reads (Discard l) h r = false≢true r
        bar_reads (Release p) h r = false≢true r
        bar_reads (Acquire p) h r = false≢true r

    clash_over : (a b : law.Access) → alters a.doing ≡ true → overlap V a.piece b.piece ≡ true → clashes V a b ≡ true
    clash_over a b c o = or_left (overlap V a.piece b.piece && (alters a.doing || alters b.doing)) ((a.piece == b.piece) && (law.transfers a.doing || law.transfers b.doing)) (and_from (overlap V a.piece b.piece) (alters a.doing || alters b.doing) o (or_left (alters a.doing) (alters b.doing) c))

    has_bytes : (n : ℕ) (a : law.Access) → law.Has S n a → 0 < bytes_of (piece_at V a.piece).shape
    has_bytes n a h = let f = of n a h in own (λ z. 0 < bytes_of (piece_at V z.piece).shape) f (X.some f.access.piece (X.known n h.0 f.access f.at))

    clash_piece : (n : ℕ) (a b : law.Access) → law.Has S n b → (law.changes a.doing ≡ true) ⊎ (law.transfers a.doing ≡ true) → a.piece ≡ b.piece → clashes V a b ≡ true
    clash_piece n a b h (inl c) e = clash_over a b (or_left (law.changes a.doing) (law.is_long a.doing) c) (subst (λ z. overlap V z b.piece ≡ true) (sym e) (overlap_self S b.piece (has_bytes n b h)))
    clash_piece n a b h (inr t) e = or_right (overlap V a.piece b.piece && (alters a.doing || alters b.doing)) ((a.piece == b.piece) && (law.transfers a.doing || law.transfers b.doing)) (and_from (a.piece == b.piece) (law.transfers a.doing || law.transfers b.doing) (eq-eqb a.piece b.piece e) (or_left (law.transfers a.doing) (law.transfers b.doing) t))

    no_queue : (n k : ℕ) (a : Access) → AccessAt V n k a → (sets_layout a.kind ≡ true) ⊎ (sets_owner a.kind ≡ true) → command_at V n ≡ false
    no_queue n k a at s = ⊎_elim (λ c. let q = of_queue_plain (queue_at V n) a.kind (by_command n a (k, at) c) in absurd (⊎_elim (λ e. false≢true (sym q.layouts ∙ e)) (λ e. false≢true (sym q.owners ∙ e)) s)) (λ c. c) (cases_Bool (command_at V n))

    pub formed_of : Rest → Formed (system_of V out)
    formed_of E = record {
      within = λ n a h. has_within V n (of n a h).access X (h.0, (of n a h).at);
      of_command = λ n a h c. let f = of n a h in own (λ z. (law.is_load z.doing || law.is_long z.doing) ≡ true) f (queued (queue_at V n) f.access.kind (by_command n f.access (h.0, f.at) c));
      of_sync = λ n a h c. let f = of n a h in own (λ z. (law.is_load z.doing || law.is_long z.doing) ≡ false) f (⊎_elim (λ s. barred f.access.kind (X.sync n h.0 f.access f.at s)) (λ s. ap (λ k. law.is_load (doing_of k) || law.is_long (doing_of k)) (X.host n h.0 f.access f.at s)) (other_kind (node_at V.nodes n).kind c));
      holds_back = λ x y e. false_of (command_at V x) (and_parts (not (command_at V x)) (not (command_at V y)) (and_parts (edge V.nodes x y) (not (command_at V x) && not (command_at V y)) e).1).0;
      held_back = λ x y e. false_of (command_at V y) (and_parts (not (command_at V x)) (not (command_at V y)) (and_parts (edge V.nodes x y) (not (command_at V x) && not (command_at V y)) e).1).1;
      leaves_to = λ n a x l. ⊎_elim (λ c. not_after n x c (sym (ap (λ z. if z then edge V.nodes n x else n == x) c) ∙ l)) (λ c. ap (command_at V) (sym (eqb-true n x (sym (ap (λ z. if z then edge V.nodes n x else n == x) c) ∙ l))) ∙ c) (cases_Bool (command_at V n));
      enters_from = λ y n a l. ⊎_elim (λ c. not_before y n c (sym (ap (λ z. if z then edge V.nodes y n else n == y) c) ∙ l)) (λ c. ap (command_at V) (sym (eqb-true n y (sym (ap (λ z. if z then edge V.nodes y n else n == y) c) ∙ l))) ∙ c) (cases_Bool (command_at V n));
      flushes_by = λ n g m i h. sync_no_command (node_at V.nodes n).kind (flush_syncs V X n g m i h);
      shows_by = λ n g m i h. sync_no_command (node_at V.nodes n).kind (show_syncs V X n g m i h);
      leaves_self = λ n a x s l. sym (eqb-true n x (sym (ap (λ z. if z then edge V.nodes n x else n == x) s) ∙ l));
      enters_self = λ y n a s l. sym (eqb-true n y (sym (ap (λ z. if z then edge V.nodes y n else n == y) s) ∙ l));
      one = λ n c d m i h g p q cc cd. let f = of n c h in let e = of n d g in
          f.same ∙ ap (access_of V n) (one_change n h.0 g.0 f.access e.access f.at e.at (sym (changes_same f.access.kind) ∙ given (λ z. law.changes z.doing ≡ true) f p) (sym (changes_same e.access.kind) ∙ given (λ z. law.changes z.doing ≡ true) e q)) ∙ sym e.same;
      clash_back = clash_turned V;
      superseded = λ n a h s. let f = of n a h in absurd (not_superseded f.access.kind (given (λ z. law.is_superseded z.doing ≡ true) f s));
      one_place = λ n k j c d h g p q e. let f = from V out n k c h in let r = from V out n j d g in one_place n k j f.access r.access f.at r.at (store_change f.access.kind (given (λ z. law.is_store z.doing ≡ true) f p)) (store_change r.access.kind (given (λ z. law.is_store z.doing ≡ true) r q));
      sized = λ n k c loaded h p. let f = from V out n k c h in own (λ z. length (out n loaded k) ≡ bytes_of (piece_at V z.piece).shape) f (E.sized n k f.access loaded f.at (given (λ z. law.is_store z.doing ≡ true) f p));
      by_loads = E.by_loads;
      lays_sync = λ n a h s. let f = of n a h in no_queue n h.0 f.access f.at (inl (laying f.access.kind (given (λ z. is_some z.lays ≡ true) f s)).0);
      hands_sync = λ n a h s. let f = of n a h in no_queue n h.0 f.access f.at (inr (handing f.access.kind (family_numbered V n) (given (λ z. is_some z.hands ≡ true) f s)).0);
      one_lays = λ n a b h g s t e. let f = of n a h in let r = of n b g in ap (λ z. z.lays) (f.same ∙ ap (access_of V n) (one_change n h.0 g.0 f.access r.access f.at r.at (laying f.access.kind (given (λ z. is_some z.lays ≡ true) f s)).1 (laying r.access.kind (given (λ z. is_some z.lays ≡ true) r t)).1) ∙ sym r.same);
      one_hands = λ n a b h g s t e. let f = of n a h in let r = of n b g in ap (λ z. z.hands) (f.same ∙ ap (access_of V n) (one_owner n h.0 g.0 f.access r.access f.at r.at (handing f.access.kind (family_numbered V n) (given (λ z. is_some z.hands ≡ true) f s)).0 (handing r.access.kind (family_numbered V n) (given (λ z. is_some z.hands ≡ true) r t)).0) ∙ sym r.same);
      clash_lays = λ v n a b h g s e. let f = of v a h in clash_piece n a b g (inl (own (λ z. law.changes z.doing ≡ true) f (changes_same f.access.kind ∙ (laying f.access.kind (given (λ z. is_some z.lays ≡ true) f s)).1))) e;
      clash_hands = λ v n a b h g s e. let f = of v a h in clash_piece n a b g (own (λ z. (law.changes z.doing ≡ true) ⊎ (law.transfers z.doing ≡ true)) f (handing f.access.kind (family_numbered V v) (given (λ z. is_some z.hands ≡ true) f s)).1) e;
      needs_exclusive = λ n a h. last_true (law.is_discard a.doing) (list_any (λ c. is_acquire c.kind) (accesses_of V n)) (is_host (node_at V.nodes n).kind) (shared_at V a.piece) h;
      some = has_bytes;
      reads_alone = λ n a b h g r c. let f = of n a h in let e = of n b g in false≢true (ap changes (sym (X.host n g.0 e.access e.at (read_at_host n h.0 f.access f.at (given (λ z. reads z.doing ≡ true) f r)))) ∙ sym (changes_same e.access.kind) ∙ given (λ z. law.changes z.doing ≡ true) e c);
      ends = λ n y a h r e. let f = of n a h in E.ends n y (and_parts (edge V.nodes n y) (not (command_at V n) && not (command_at V y)) e).0 (read_at_host n h.0 f.access f.at (given (λ z. reads z.doing ≡ true) f r));
      enters_none = λ n v a c h r ne l. let f = of n a h in ⊎_elim (λ k. E.ends n v (sym (ap (λ z. if z then edge V.nodes n v else v == n) k) ∙ l) (read_at_host n h.0 f.access f.at (given (λ z. reads z.doing ≡ true) f r))) (λ k. ne (eqb-true v n (sym (ap (λ z. if z then edge V.nodes n v else v == n) k) ∙ l))) (cases_Bool (command_at V v));
      clash_change = λ a b m i c h k. clash_over a b (or_left (law.changes a.doing) (law.is_long a.doing) c) (overlap_at S a.piece b.piece m i h k);
      clash_long = λ a b l o. clash_over a b (or_right (law.changes a.doing) (law.is_long a.doing) l) o;
      alone_store = λ n b h e. let f = of n b h in absurd (false≢true (given (λ z. z.alone ≡ true) f e));
      beside = λ n b h e. let f = of n b h in absurd (false≢true (given (λ z. z.alone ≡ true) f e));
    }
      where
        last_true : (x y z w : Bool) → not (x || (y || (z || w))) ≡ true → not w ≡ true
        last_true true y z w h = absurd (false≢true h)
        last_true false true z w h = absurd (false≢true h)
        last_true false false true w h = absurd (false≢true h)
        last_true false false false w h = h

    -- an order of the nodes is one of the system
    pub order_of : (list : List ℕ) → hb.Order V.nodes list → apart.Order S list
    order_of list O = record {
      once = distinct list O.once;
      all = λ n lt. among n list (O.all n lt);
      only = λ n h. O.only n (among_back n list h);
      edges = λ x y e. forward x y (and_parts (edge V.nodes x y) (not (command_at V x) && not (command_at V y)) e).0;
      leaves = λ n a x c l. forward n x (sym (ap (λ z. if z then edge V.nodes n x else n == x) c) ∙ l);
      enters = λ y n a c l. forward y n (sym (ap (λ z. if z then edge V.nodes y n else n == y) c) ∙ l);
    }
      where
        among : (n : ℕ) (list : List ℕ) → hb.Among n list → apart.Among n list
        among n [] h = h
        among n (x ∷ rest) h = ⊎_elim (λ e. inl e) (λ k. inr (among n rest k)) h

        among_back : (n : ℕ) (list : List ℕ) → apart.Among n list → hb.Among n list
        among_back n [] h = h
        among_back n (x ∷ rest) h = ⊎_elim (λ e. inl e) (λ k. inr (among_back n rest k)) h

        distinct : (list : List ℕ) → hb.Distinct list → apart.Distinct list
        distinct [] h = h
        distinct (x ∷ rest) h = ((λ k. h.0 (among_back x rest k)), distinct rest h.1)

        forward : (x y : ℕ) → edge V.nodes x y ≡ true → apart.Earlier list x y
        forward x y e = among x (apart.before_in list y) (subst (λ l. hb.Among x l) (before_same list y) (O.forward x y (O.all y (edge_within V.nodes x y e).1) e))
