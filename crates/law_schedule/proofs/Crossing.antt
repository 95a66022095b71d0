-- What comes later: items of one queue, and items over a need.
use Rattle.std.proofs.Common.{◌≡◌, ◌⊎◌, inl, inr, ℕ, ◌-◌, ◌<◌, ◌≤◌, ◌==◌, ◌||◌, nat_le, cond, Bool, true, false, List, length, get_or, Some, None, refl, sym, ap, ◌∙◌, subst, eq-eqb, eqb-true, le-leb, leb-true, lt-ltb, arith}
use Rattle.std.specs.List.{position, position_or_len}
use Rattle.std.proofs.lemmas.Bool.{and_from, and_parts, cases_lt, false≢true}
use Rattle.std.proofs.lemmas.List.Quantifiers.{position-Some}
use Rattle.std.proofs.lemmas.List.Sums.{fails_before_first}
use Rattle.law_schedule.proofs.Sorts.{WaitAt, SignalAt, signal_at}
use Rattle.law_schedule.proofs.Standing.{item_is_of}
use Rattle.law_schedule.specs.Later.{AreSooner, AreCrossed}
use Rattle.law_schedule.specs.Standing.{StandsFor, AllStand, AreThese}
use Rattle.check_order.proofs.Bridge.{meets_edge}
use Rattle.check_order.specs.Edges.{has_value, is_signal, is_wait, meeting, node_at, reaches}
use Rattle.check_order.specs.Nodes.{no_node, program_nodes}
use Rattle.check_order.specs.declared.kind.Kind.{Kind}
use Rattle.check_order.specs.declared.kind.Kind.TheVariants as kinds
use Rattle.check_order.specs.declared.node.Node.{Node}
use Rattle.base_reach.specs.Paths.{one}
use Rattle.program.specs.Entries.{OfSignal}
use Rattle.program.specs.declared.program.Item as programs
use Rattle.program.specs.declared.program.Program.{Program}
use Rattle.compile_timeline.proofs.Latest.{item_there}
use Rattle.compile_timeline.specs.Laws.{AllThere, InOrder, IsFor, AreFor, IsMet, AreMet, AreRising}
use Rattle.compile_timeline.specs.Parts.{Does, Signals, signal_after}
use Rattle.compile_timeline.specs.Places.{place, wait_number, item_number, signal_number}
use Rattle.compile_timeline.specs.Signals.{is_awaited, is_last, has_signal, value_at}
use Rattle.compile_timeline.specs.Steps.{has_item, queue_at, IsScript}
use Rattle.compile_timeline.specs.Waits.{latest}
use Rattle.compile_timeline.specs.declared.step.Step.{Step}

-- STEPS

pub signal_item : (script : List Step) (count q i : ℕ) → has_signal script count q i ≡ true → has_item script q i ≡ true
signal_item script count q i s = (and_parts (has_item script q i) (is_awaited script count i || is_last script i) s).0

-- THE FIRST OF A LIST

-- where a test holds, it holds first there or before
pub first_of : {X : Type 0} (test : X → Bool) (xs : List X) (d : X) (n : ℕ) → n < length xs → test (get_or xs n d) ≡ true → (x : ℕ) × (position test xs ≡ Some x) × (x ≤ n)
first_of test xs d n lt holds = (position_or_len test xs, ap (λ b. cond b (Some (position_or_len test xs)) None) (lt-ltb (position_or_len test xs) (length xs) (omega (arith, low, lt))), low)
  where
    low : position_or_len test xs ≤ n
    low = go (cases_lt n (position_or_len test xs))
      where
        go : (n < position_or_len test xs) ⊎ (position_or_len test xs ≤ n) → position_or_len test xs ≤ n
        go (inl l) = absurd (false≢true (sym (fails_before_first test xs n d l) ∙ holds))
        go (inr le) = le

-- EDGES

value_signal : (least : ℕ) (kind : Kind) → has_value least kind ≡ true → is_signal kind ≡ true
value_signal least (kinds.Signal value) h = refl
value_signal least kinds.Command h = absurd (false≢true h)
value_signal least kinds.Barrier h = absurd (false≢true h)
value_signal least (kinds.Wait queue value) h = absurd (false≢true h)
value_signal least kinds.Host h = absurd (false≢true h)

-- PARTS IN THEIR ORDER

module _ (script : List Step) (count : ℕ) (there : AllThere script count) (ordered : InOrder script count) where
  pub items_rise : (q i k : ℕ) → q < count → has_item script q i ≡ true → has_item script q k ≡ true → i < k → item_number script count q i < item_number script count q k
  items_rise q i k lq hi hk lt =
      let a = item_there script q i hi in
      let b = item_there script q k hk in
      ordered.steps (item_number script count q i) (item_number script count q k) (place q i (Does a.0)) (place q k (Does b.0)) (there.item q i a.0 lq a.1) (there.item q k b.0 lq b.1) refl lt

  pub signals_rise : (q i k : ℕ) → q < count → has_signal script count q i ≡ true → has_signal script count q k ≡ true → i < k → signal_number script count q i < signal_number script count q k
  signals_rise q i k lq si sk lt =
      ordered.steps (signal_number script count q i) (signal_number script count q k) (place q i (Signals (signal_after script count i))) (place q k (Signals (signal_after script count k))) (there.signal q i lq si) (there.signal q k lq sk) refl lt

  -- an item before the signal after it, or after a later one
  item_signal : (q i k : ℕ) → q < count → has_item script q i ≡ true → has_signal script count q k ≡ true → i ≤ k → item_number script count q i < signal_number script count q k
  item_signal q i k lq hi sk le = go (cases_lt i k)
    where
      go : (i < k) ⊎ (k ≤ i) → item_number script count q i < signal_number script count q k
      go (inl lt) =
          let a = item_there script q i hi in
          ordered.steps (item_number script count q i) (signal_number script count q k) (place q i (Does a.0)) (place q k (Signals (signal_after script count k))) (there.item q i a.0 lq a.1) (there.signal q k lq sk) refl lt
      go (inr ge) = let same : i ≡ k = omega (arith, le, ge) in subst (λ z. item_number script count q i < signal_number script count q z) same (omega arith)

-- LATER

module _ (P : Program) (script : List Step) (count : ℕ) (T : AllStand P script count) (A : AreThese P script count) (there : AllThere script count) (ordered : InOrder script count) (K : IsScript script count) where
  abbrev nodes : List Node
  nodes = program_nodes P

  item_queue : (q i : ℕ) → has_item script q i ≡ true → (node_at nodes (item_number script count q i)).queue ≡ q
  item_queue q i h = let a = item_there script q i h in ap (λ z. z.queue) (T.item q i a.0 (K.items i q h) a.1).node ∙ (item_is_of q a.0).queue

  signal_queue : (q i : ℕ) → q < count → has_signal script count q i ≡ true → (node_at nodes (signal_number script count q i)).queue ≡ q
  signal_queue q i lq s = ap (λ z. z.queue) (T.signal q i lq s).node

  pub are_sooner : AreSooner P script count
  are_sooner q i k hi hk lt = record { same = item_queue q i hi ∙ sym (item_queue q k hk); less = items_rise script count there ordered q i k (K.items i q hi) hi hk lt }

  -- a wait is met by the signal that it is for
  module _ (values : AreRising script count) where
    reaching : (p s x : ℕ) → p < count → has_signal script count p s ≡ true → x ≤ signal_number script count p s → reaches p (value_at script count s) (node_at nodes x) ≡ true → x ≡ signal_number script count p s
    reaching p s x lp sg low r = X.number ∙ ap (λ q. signal_number script count q X.step) queue ∙ ap (signal_number script count p) step
      where
        parts : ((node_at nodes x).queue ≡ p) × (has_value (value_at script count s) (node_at nodes x).kind ≡ true)
        parts = let h = and_parts ((node_at nodes x).queue == p) (has_value (value_at script count s) (node_at nodes x).kind) r in (eqb-true (node_at nodes x).queue p h.0, h.1)

        X : SignalAt P script count x
        X = signal_at P script count T A x (value_signal (value_at script count s) (node_at nodes x).kind parts.1)

        queue : X.queue ≡ p
        queue = sym (ap (λ z. z.queue) X.stands.node) ∙ parts.0

        has : has_signal script count p X.step ≡ true
        has = subst (λ q. has_signal script count q X.step ≡ true) queue X.has

        reached : value_at script count s ≤ value_at script count X.step
        reached = leb-true (value_at script count s) (value_at script count X.step) (sym (ap (λ z. has_value (value_at script count s) z.kind) X.stands.node) ∙ parts.1)

        not_before : X.step < s → ⊥
        not_before lt = let v = values.rising p X.step s (signal_item script count p X.step has) sg lt in let r = reached in omega (arith, v, r)

        not_after : s < X.step → ⊥
        not_after lt =
            let v = signals_rise script count there ordered p s X.step lp sg has lt in
            let e : x ≡ signal_number script count p X.step = X.number ∙ ap (λ q. signal_number script count q X.step) queue in
            omega (arith, v, e, low)

        step : X.step ≡ s
        step = go (cases_lt X.step s) (cases_lt s X.step)
          where
            go : (X.step < s) ⊎ (s ≤ X.step) → (s < X.step) ⊎ (X.step ≤ s) → X.step ≡ s
            go (inl lt) h = absurd (not_before lt)
            go (inr le) (inl lt) = absurd (not_after lt)
            go (inr le) (inr ge) = omega (arith, le, ge)

    pub meets : (n : ℕ) (W : WaitAt P script count n) (F : IsFor script count W.queue W.step W.other) → meeting nodes (node_at nodes n).kind ≡ Some (signal_number script count W.other F.step)
    meets n W F = ap (λ z. meeting nodes z.kind) W.stands.node ∙ ap (λ v. position (reaches W.other v) nodes) value ∙ first.1.0 ∙ ap (λ z. Some z) (reaching W.other F.step first.0 W.other_known F.signal first.1.1 passes)
      where
        value : value_at script count (latest script W.queue W.other W.step - 1) ≡ value_at script count F.step
        value = let l = F.latest in let e : latest script W.queue W.other W.step - 1 ≡ F.step = omega (arith, l) in ap (value_at script count) e

        S : StandsFor P (signal_number script count W.other F.step) (OfSignal W.other (signal_after script count F.step))
        S = T.signal W.other F.step W.other_known F.signal

        own : reaches W.other (value_at script count F.step) (node_at nodes (signal_number script count W.other F.step)) ≡ true
        own =
            ap (reaches W.other (value_at script count F.step)) S.node
            ∙ and_from (W.other == W.other) (nat_le (value_at script count F.step) (value_at script count F.step)) (eq-eqb W.other W.other refl) (le-leb (value_at script count F.step) (value_at script count F.step) (omega arith))

        first : (x : ℕ) × ((position (reaches W.other (value_at script count F.step)) nodes ≡ Some x) × (x ≤ signal_number script count W.other F.step))
        first = let f = first_of (reaches W.other (value_at script count F.step)) nodes no_node (signal_number script count W.other F.step) S.within own in (f.0, (f.1, f.2))

        passes : reaches W.other (value_at script count F.step) (node_at nodes first.0) ≡ true
        passes = (position-Some (reaches W.other (value_at script count F.step)) nodes first.0 no_node first.1.0).1

    module _ (for : AreFor script count) (met : AreMet script) where
      pub are_crossed : AreCrossed P script count
      are_crossed w q j k e lt hk = record {
        sent = signal_number script count p F.step;
        got = wait_number script count q M.item p;
        signal = ap (λ z. is_signal z.kind) (T.signal p F.step lp F.signal).node;
        wait = ap (λ z. is_wait z.kind) W.stands.node;
        after = record { same = item_queue p j hj ∙ sym (signal_queue p F.step lp F.signal); less = item_signal script count there ordered p j F.step lp hj F.signal reached };
        before = record { same = ap (λ z. z.queue) W.stands.node ∙ sym (item_queue q k hk); less = before (cases_lt M.item k) };
        path = one (meets_edge nodes (signal_number script count p F.step) (wait_number script count q M.item p) (meets (wait_number script count q M.item p) W F));
      }
        where
          p : ℕ
          p = queue_at script j

          hj : has_item script (queue_at script j) j ≡ true
          hj = K.needed w q j e

          lp : queue_at script j < count
          lp = K.items j (queue_at script j) hj

          lq : q < count
          lq = K.items k q hk

          M : IsMet script q j k
          M = met w q j k e lt hk

          F : IsFor script count q M.item (queue_at script j)
          F = for q M.item (queue_at script j) lq lp M.has M.waits

          W : WaitAt P script count (wait_number script count q M.item (queue_at script j))
          W = record { queue = q; step = M.item; other = queue_at script j; queue_known = lq; other_known = lp; item = M.has; waits = M.waits; number = refl; stands = T.wait q M.item (queue_at script j) lq lp M.has M.waits }

          reached : j ≤ F.step
          reached = let r = M.reaches in let l = F.latest in omega (arith, r, l)

          first : wait_number script count q M.item (queue_at script j) < item_number script count q M.item
          first = ordered.wait q M.item (queue_at script j) lp M.waits

          before : (M.item < k) ⊎ (k ≤ M.item) → wait_number script count q M.item (queue_at script j) < item_number script count q k
          before (inl l) = let f = first in let r = items_rise script count there ordered q M.item k lq M.has hk l in omega (arith, f, r)
          before (inr ge) = let low = M.low in let same : M.item ≡ k = omega (arith, ge, low) in subst (λ z. wait_number script count q M.item (queue_at script j) < item_number script count q z) same first
