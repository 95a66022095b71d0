-- From the barrier after the copy of an export what it makes visible reaches the host's read.
use Rattle.std.proofs.Common.{◌≡◌, ◌⊎◌, inl, inr, ⊎_elim, ℕ, zero, suc, ◌+◌, ◌<◌, ◌≤◌, ◌==◌, ◌&&◌, ◌||◌, nat_lt, true, false, List, [], ◌∷◌, length, drop, get_or, slice_get, Option, Some, None, refl, sym, ap, ap₂, ◌∙◌, subst, eq-eqb, arith}
use Rattle.std.specs.List.{position}
use Rattle.std.specs.Option.{option_map, option_map_or}
use Rattle.std.proofs.lemmas.Bool.{and_from, and_parts, cases_Bool, cases_lt, false≢true, lt-ltb, or_left, or_right}
use Rattle.std.proofs.lemmas.List.Quantifiers.{position-Some}
use Rattle.std.proofs.lemmas.List.{get_or_past}
use Rattle.std.proofs.lemmas.Option.{slice_get_past, slice_get_within}
use Rattle.base.proofs.Lists.{entry_of}
use Rattle.base.specs.Operands.{destination_of}
use Rattle.vk.specs.Agents.{host_agent}
use Rattle.vk.specs.Sets.{meets}
use Rattle.law_sound.proofs.Commands.{Sort}
use Rattle.law_sound.proofs.ExportGroups.{read_parts}
use Rattle.law_sound.proofs.Exports.{Copies}
use Rattle.law_sound.proofs.Items.{item_has, item_there}
use Rattle.law_sound.proofs.Pieces.{read_there}
use Rattle.law_sound.proofs.Served.{copied_is, copied_stands, copied_to}
use Rattle.law_sound.proofs.Setting.{IsSet}
use Rattle.law_sound.proofs.Spots.{piece_late, prologue_late}
use Rattle.law_sound.specs.Nodes.{copied_node, copy_of, item_at, nodes_of, steps}
use Rattle.law_sound.specs.Plan.{export_at, export_count, plan_of}
use Rattle.law_plan.specs.Masks.{Leaves}
use Rattle.law_plan.specs.Nodes.{Nodes}
use Rattle.law_plan.specs.Plans.{Plan}
use Rattle.law_plan.specs.Spots.{OfReader}
use Rattle.law_schedule.specs.Standing.{StandsFor, read_number}
use Rattle.compile_groups.specs.declared.command.Command as commands
use Rattle.compile_groups.specs.declared.grouping.Grouping.{Grouping}
use Rattle.check_order.specs.Edges.{edge, goes_to, holds_back, is_at, is_host, is_signal, meeting, next_signal, node_at, signalled, signals}
use Rattle.check_order.specs.Nodes.{no_node, program_nodes}
use Rattle.check_order.specs.declared.node.Node.{Node}
use Rattle.base_reach.specs.Paths.{Path, one, then_on}
use Rattle.compile_record.specs.Pieces.{piece_of}
use Rattle.compile_record.specs.Standing.{host_item, host_step}
use Rattle.program.specs.Entries.{OfHost}
use Rattle.program.specs.declared.program.Item.{Item}
use Rattle.program.specs.declared.program.Program.{Program}
use Rattle.law_nodes.specs.Passing.{VisibleBy}
use Rattle.compile_timeline.specs.Places.{signal_number}
use Rattle.compile_timeline.specs.Steps.{has_item, is_item}
use Rattle.compile_timeline.specs.declared.step.Step.{Step}
use Rattle.compile_timeline.specs.declared.step.Step.TheVariants as step
use Rattle.compile_barriers.specs.Under.{Heap}
use Rattle.check_access.specs.Effects.{access}
use Rattle.check_access.specs.ValidView.{Has}
use Rattle.check_access.specs.Views.{View, effect_at, has_agent, is_on, makes_visible, queue_at, view_of}
use Rattle.check_access.specs.declared.access.Access.{Access}
use Rattle.check_access.specs.declared.access.AccessKind.TheVariants as access_kinds
use Rattle.check_access.specs.declared.access.Agent.TheVariants as agent

-- FROM A SIGNAL

get_drop : {X : Type 0} (xs : List X) (n k : ℕ) (d : X) → get_or (drop n xs) k d ≡ get_or xs (n + k) d
get_drop xs zero k d = let z : k ≡ 0 + k = omega arith in ap (λ i. get_or xs i d) z
get_drop [] (suc n) k d = refl
get_drop (x ∷ xs) (suc n) k d = let next : suc (n + k) ≡ suc n + k = omega arith in get_drop xs n k d ∙ ap (λ i. get_or (x ∷ xs) i d) next

-- the next signal of its queue, or none
record IsNextSignal (nodes : List Node) (x : ℕ) : Type 0 where
  number : ℕ
  is : next_signal nodes x ≡ Some number
  signal : is_signal (node_at nodes number).kind ≡ true
  after : x < number
  within : number < length nodes

next_cases : (nodes : List Node) (x : ℕ) → (next_signal nodes x ≡ None) ⊎ IsNextSignal nodes x
next_cases nodes x = go (position (signals (node_at nodes x).queue) (drop (x + 1) nodes)) refl
  where
    go : (o : Option ℕ) → position (signals (node_at nodes x).queue) (drop (x + 1) nodes) ≡ o → (next_signal nodes x ≡ None) ⊎ IsNextSignal nodes x
    go None e = inl (ap (option_map (λ k. x + 1 + k)) e)
    go (Some k) e =
        let T = position-Some (signals (node_at nodes x).queue) (drop (x + 1) nodes) k no_node e in
        let at : get_or (drop (x + 1) nodes) k no_node ≡ node_at nodes (x + 1 + k) = get_drop nodes (x + 1) k no_node in
        let passes = and_parts ((node_at nodes (x + 1 + k)).queue == (node_at nodes x).queue) (is_signal (node_at nodes (x + 1 + k)).kind) (subst (λ n. signals (node_at nodes x).queue n ≡ true) at T.1) in
        inr (record {
          number = x + 1 + k;
          is = ap (option_map (λ j. x + 1 + j)) e;
          signal = passes.1;
          after = omega arith;
          within = within_dropped nodes (x + 1) k T.0;
        })
      where
        within_dropped : (list : List Node) (n j : ℕ) → j < length (drop n list) → n + j < length list
        within_dropped list zero j lt = omega (arith, lt)
        within_dropped [] (suc n) j lt = absurd (omega (arith, lt))
        within_dropped (y ∷ list) (suc n) j lt = let rest = within_dropped list n j lt in omega (arith, rest)

-- an edge from a signal
signal_edge : (nodes : List Node) (x y : ℕ) → is_signal (node_at nodes x).kind ≡ true → goes_to nodes y (next_signal nodes x) ≡ true → edge nodes x y ≡ true
signal_edge nodes x y s g = or_right (nat_lt x y && holds_back (node_at nodes x) (node_at nodes y)) (signalled nodes x y || is_at (meeting nodes (node_at nodes y).kind) x)
    (or_left (signalled nodes x y) (is_at (meeting nodes (node_at nodes y).kind) x) (and_from (is_signal (node_at nodes x).kind) (goes_to nodes y (next_signal nodes x)) s g))

-- a signal leads to each host read, over the later ones of its queue, of which there are at most so many
signal_reads : (nodes : List Node) (n x y : ℕ) → length nodes ≤ n + x → is_signal (node_at nodes x).kind ≡ true → is_host (node_at nodes y).kind ≡ true → Path (edge nodes) x y
signal_reads nodes zero x y long s h = absurd (false≢true (sym (ap (λ n. is_signal n.kind) (get_or_past nodes x no_node (omega (arith, long)))) ∙ s))
signal_reads nodes (suc n) x y long s h = ⊎_elim
    (λ none. one (signal_edge nodes x y s (ap (goes_to nodes y) none ∙ h)))
    (λ (N : IsNextSignal nodes x).
    let after = N.after in
    then_on {b = N.number}
    (one (signal_edge nodes x N.number s (ap (goes_to nodes N.number) N.is ∙ eq-eqb N.number N.number refl)))
    (signal_reads nodes n N.number y (omega (arith, long, after)) N.signal h))
    (next_cases nodes x)

-- THE LAST ITEM OF A QUEUE

record IsLastItem (script : List Step) (q i : ℕ) : Type 0 where
  last : ℕ
  from : i ≤ last
  has : has_item script q last ≡ true
  none : (k : ℕ) → last < k → has_item script q k ≡ false

last_from : (script : List Step) (q i n : ℕ) → i < n → has_item script q i ≡ true → ((k : ℕ) → n ≤ k → has_item script q k ≡ false) → IsLastItem script q i
last_from script q i zero lt has none = absurd (omega (arith, lt))
last_from script q i (suc m) lt has none = ⊎_elim
    (λ (e : has_item script q m ≡ true). record { last = m; from = omega (arith, lt); has = e; none = λ k l. none k (omega (arith, l)) })
    (λ (e : has_item script q m ≡ false). last_from script q i m
    (⊎_elim (λ (l : i < m). l) (λ (le : m ≤ i). let same : i ≡ m = omega (arith, le, lt) in absurd (false≢true (sym e ∙ ap (has_item script q) (sym same) ∙ has))) (cases_lt i m))
    has
    (λ k le. ⊎_elim (λ (l : m < k). none k (omega (arith, l))) (λ (low : k ≤ m). let same : m ≡ k = omega (arith, low, le) in ap (has_item script q) (sym same) ∙ e) (cases_lt m k)))
    (cases_Bool (has_item script q m))

none_past : (script : List Step) (q k : ℕ) → length script ≤ k → has_item script q k ≡ false
none_past script q k le = ap (λ o. option_map_or (is_item q) o false) (slice_get_past script k le)

-- FROM THE BARRIER TO THE READ

module _ (G : Grouping) (heap : Heap) (P : Program) (S : IsSet G heap P) where
  abbrev F : Plan
  F = plan_of G heap

  abbrev V : View
  V = view_of P

  abbrev N : Nodes
  N = nodes_of G heap

  abbrev nodes : List Node
  nodes = program_nodes P

  abbrev count : ℕ
  count = length G.families

  -- the reader of export k
  abbrev reader : ℕ → ℕ
  reader k = read_number (steps G heap) count k

  pub read_stands : (k : ℕ) → k < export_count G → StandsFor P (reader k) (OfHost (piece_of G (length G.imports + k)))
  read_stands k lt = S.stand.read k (piece_of G (length G.imports + k)) (ap (λ l. slice_get l k) S.readbacks ∙ read_there G S.known.shapes k lt)

  -- the barrier after the copy leads to it
  copied_reads : (k : ℕ) → k < export_count G → Path (edge nodes) (copied_node G heap k) (reader k)
  copied_reads k lt =
      let c : ℕ = copy_of G k in
      let C : Copies G k c = S.copied.each k lt in
      let q : ℕ = C.command.queue in
      let i : ℕ = host_step G heap c C.command in
      let it : Item = host_item G C.command in
      let at = S.standing.each_copy c k C.command C.there C.export in
      let has = item_has G heap i q None it at in
      let within = slice_get_within (steps G heap) i (step.Item q it) (item_there G heap i q None it at) in
      let L : IsLastItem (steps G heap) q i = last_from (steps G heap) q i (length (steps G heap)) within has (none_past (steps G heap) q) in
      let T = S.stand.signal q L.last (S.script.items i q has) (S.ends q L.last L.has L.none) in
      let B = copied_stands G heap P S k c C in
      let s : ℕ = signal_number (steps G heap) count q L.last in
      let t : ℕ = copied_node G heap k in
      let number : t ≡ item_at G heap q i = copied_is G heap P S k c C in
      let order : item_at G heap q i ≤ item_at G heap q L.last = ⊎_elim
      (λ (l : i < L.last). let less = (S.sooner q i L.last has L.has l).less in omega (arith, less))
      (λ (le : L.last ≤ i). let from = L.from in let same : i ≡ L.last = omega (arith, le, from) in let e : item_at G heap q i ≡ item_at G heap q L.last = ap (item_at G heap q) same in omega (arith, e))
      (cases_lt i L.last) in
      let less : t < s = omega (arith, number, order) in
      let held : holds_back (node_at nodes t) (node_at nodes s) ≡ true = ap₂ holds_back B.node T.node ∙ and_from (q == q) true (eq-eqb q q refl) refl in
      then_on {b = s}
      (one (or_left (nat_lt t s && holds_back (node_at nodes t) (node_at nodes s)) (signalled nodes t s || is_at (meeting nodes (node_at nodes s).kind) t) (and_from (nat_lt t s) (holds_back (node_at nodes t) (node_at nodes s)) (lt-ltb t s less) held)))
      (signal_reads nodes (length nodes) s (reader k) (omega arith) (ap (λ n. is_signal n.kind) T.node) (ap (λ n. is_host n.kind) (read_stands k lt).node))

  single : (a b : Access) (i : ℕ) → slice_get (a ∷ []) i ≡ Some b → b ≡ a
  single a b zero e = cc
  single a b (suc i) e = absurd cc

  export_reads : (k : ℕ) (b : Access) → k < export_count G → b.piece ≡ piece_of G (length G.imports + k) → Has V (reader k) b → Leaves V (copied_node G heap k) (reader k) b
  export_reads k b lt on (i, e) =
      let c : ℕ = copy_of G k in
      let C : Copies G k c = S.copied.each k lt in
      let R = read_stands k lt in
      let B = copied_stands G heap P S k c C in
      let t : ℕ = copied_node G heap k in
      let kind : b.kind ≡ access_kinds.Load agent.Host None = ap (λ (x : Access). x.kind) (single (access (piece_of G (length G.imports + k)) (access_kinds.Load agent.Host None)) b i (sym (ap (λ x. slice_get x.accesses i) R.effect) ∙ e)) in
      let to = (copied_to G heap P S k c C (entry_of (λ (x : commands.Command). Sort G x) G.commands c C.command S.sorts C.there)).0 in
      let path = copied_reads k lt in
      let visible : makes_visible V t agent.Host b.piece ≡ true =
      and_from (has_agent (queue_at V t) (effect_at V t).visible agent.Host) (is_on b.piece (effect_at V t).scope)
      (ap (λ x. meets x.visible host_agent) B.effect)
      (ap (λ x. is_on b.piece x.scope) B.effect ∙ eq-eqb (piece_of G (destination_of C.command.op)) b.piece (ap (piece_of G) to ∙ sym on)) in
      record {
        from = inr path;
        shown = (t, inl refl, subst (λ z. VisibleBy z V (reader k) b.piece t) (sym kind) (inr (ap (λ n. is_host n.kind) R.node, path), visible));
      }

  pub reads : (h : ℕ) (b : Access) → N.has_prologue h ≡ true → OfReader F V N h b → Leaves V (N.prologue h) (N.reader h) b
  reads h b t O =
      let X = read_parts G h O.host in
      subst (λ n. Leaves V n (N.reader h) b) (sym (prologue_late G heap P S h X.past))
      (export_reads (export_at G h) b X.known (O.piece ∙ piece_late G heap P S h (export_at G h) X) O.has)
