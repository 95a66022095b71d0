-- No edge of a program that is cut from steps goes back by steps.
use Rattle.std.proofs.Common.{◌≡◌, ◌⊎◌, inl, inr, ℕ, ◌+◌, ◌<◌, ◌≤◌, ◌==◌, ◌&&◌, ◌||◌, nat_lt, not, Bool, true, false, List, ◌++◌, drop, length, map, Option, Some, None, refl, sym, ap, ◌∙◌, subst, eqb-true, ltb-true, arith}
use Rattle.std.specs.List.{position}
use Rattle.std.specs.Option.{option_map_or}
use Rattle.std.specs.Prelude.{slice_get}
use Rattle.std.proofs.lemmas.Bool.{and_parts, cases_lt, false≢true, or_cases}
use Rattle.std.proofs.lemmas.List.{length-map}
use Rattle.std.proofs.lemmas.Option.{slice_get_past, slice_get_within}
use Rattle.base.proofs.Absence.{some_same}
use Rattle.vk.specs.Sets.{meets}
use Rattle.law_plan.proofs.Levels.{lifted}
use Rattle.law_plan.specs.Levels.{Leveled, Under}
use Rattle.law_schedule.proofs.Crossing as crossing
use Rattle.law_schedule.proofs.Sorts.{WaitAt, is_there, wait_at}
use Rattle.law_schedule.proofs.Standing.{Standing, a_part, a_read, nothing, standing, total, part_is_of, all_stand, are_these}
use Rattle.law_schedule.specs.Levels.{level_of, AreSteps}
use Rattle.law_schedule.specs.Standing.{AllStand, AreThese, read_number}
use Rattle.check_order.proofs.Bridge.{met_wait, is_same}
use Rattle.check_order.proofs.Lines.{next_place}
use Rattle.check_order.specs.Edges.{edge, goes_to, holds_back, is_at, is_host, is_signal, is_sync, is_wait, meeting, next_signal, node_at, signalled, signals}
use Rattle.check_order.specs.Nodes.{entry_node, host_node, no_node, program_nodes}
use Rattle.check_order.specs.Orders.{is_queued}
use Rattle.check_order.specs.declared.kind.Kind.{Kind}
use Rattle.check_order.specs.declared.kind.Kind.TheVariants as kinds
use Rattle.check_order.specs.declared.node.Node.{Node}
use Rattle.program.specs.Entries.{OfHost, entries_of}
use Rattle.program.specs.declared.program.Program.{Program}
use Rattle.compile_timeline.proofs.Latest.{item_there, item_within}
use Rattle.compile_timeline.specs.Laws.{AreNumbered, AllThere, InOrder, IsFor, AreFor, AreRising}
use Rattle.compile_timeline.specs.Parts.{Waits, Does, Signals, wait_for, signal_after}
use Rattle.compile_timeline.specs.Places.{Place, place, places, entry_of, wait_number, item_number, signal_number}
use Rattle.compile_timeline.specs.Steps.{IsScript}
use Rattle.compile_timeline.specs.declared.step.Step.{Step}

-- LEVELS

level_at : (script : List Step) (count n : ℕ) (at : Place) → slice_get (places script count) n ≡ Some at → level_of script count n ≡ at.step
level_at script count n at e = ap (λ o. option_map_or (λ at. at.step) o (length script)) e

level_past : (script : List Step) (count n : ℕ) → length (places script count) ≤ n → level_of script count n ≡ length script
level_past script count n le = ap (λ o. option_map_or (λ at. at.step) o (length script)) (slice_get_past (places script count) n le)

pub are_steps : (script : List Step) (count : ℕ) → AllThere script count → AreSteps script count
are_steps script count there = record {
  wait = λ q i p lq lp h w. level_at script count (wait_number script count q i p) (place q i (Waits (wait_for script count q i p))) (there.wait q i p lq lp h w);
  item = λ q i lq h. let a = item_there script q i h in level_at script count (item_number script count q i) (place q i (Does a.0)) (there.item q i a.0 lq a.1);
  signal = λ q i lq s. level_at script count (signal_number script count q i) (place q i (Signals (signal_after script count i))) (there.signal q i lq s);
  read = λ k. level_past script count (read_number script count k) (omega arith);
}

-- EDGES

hosts_apart : (count : ℕ) → holds_back (host_node count) (host_node count) ≡ true → ⊥
hosts_apart count e = false≢true (and_parts (count == count) false e).1

module _ (P : Program) (script : List Step) (count : ℕ) (E : entries_of P ≡ map entry_of (places script count) ++ map OfHost P.readbacks) (size : length P.queues ≡ count) (numbered : AreNumbered script count) (there : AllThere script count) (ordered : InOrder script count) (K : IsScript script count) (for : AreFor script count) (values : AreRising script count) where
  abbrev nodes : List Node
  nodes = program_nodes P

  abbrev level : ℕ → ℕ
  level = level_of script count

  abbrev last : ℕ
  last = length (places script count)

  T : AllStand P script count
  T = all_stand P script count E there

  A : AreThese P script count
  A = are_these P script count E numbered

  -- NODES OF QUEUES, AND HOST READS

  record Queued (n : ℕ) : Type 0 where
    at : Place
    is : slice_get (places script count) n ≡ Some at
    queue : (node_at nodes n).queue ≡ at.queue
    step : level n ≡ at.step
    queue_known : at.queue < count
    step_known : at.step < length script
    no_host : is_host (node_at nodes n).kind ≡ false

  queued : (n : ℕ) → n < last → Queued n
  queued n lt = go (standing P script count E n)
    where
      go : Standing P script count n → Queued n
      go (a_part at e S) =
          let N = numbered n at e in
          let O = part_is_of (length P.queues) at.queue at.part in
          record {
            at = at;
            is = e;
            queue = ap (λ z. z.queue) S.node ∙ O.queue;
            step = level_at script count n at e;
            queue_known = N.queue;
            step_known = item_within script at.queue at.step N.step;
            no_host = ap (λ z. is_host z.kind) S.node ∙ O.no_host;
          }
      go (a_read k piece e is S) = absurd (omega (arith, is, lt))
      go (nothing ge) = let t = total P script count E in absurd (omega (arith, ge, lt, t))

  read : (n : ℕ) → last ≤ n → n < length nodes → node_at nodes n ≡ host_node count
  read n le fits = go (standing P script count E n)
    where
      go : Standing P script count n → node_at nodes n ≡ host_node count
      go (a_part at e S) = let w = slice_get_within (places script count) n at e in absurd (omega (arith, w, le))
      go (a_read k piece e is S) = S.node ∙ ap host_node size
      go (nothing ge) = let same = length-map (entries_of P) (entry_node (length P.queues)) in absurd (omega (arith, ge, same, fits))

  -- barriers, waits and signals are of queues
  inside : (test : Kind → Bool) (n : ℕ) → test no_node.kind ≡ false → test kinds.Host ≡ false → test (node_at nodes n).kind ≡ true → n < last
  inside test n none host holds = go (cases_lt n last)
    where
      go : (n < last) ⊎ (last ≤ n) → n < last
      go (inl lt) = lt
      go (inr le) = absurd (false≢true (sym host ∙ sym (ap (λ z. test z.kind) (read n le (is_there P test n none holds))) ∙ holds))

  -- ON ONE QUEUE

  rises : (x n : ℕ) → x < n → n < last → (node_at nodes x).queue ≡ (node_at nodes n).queue → level x ≤ level n
  rises x n lt ln same = go (cases_lt N.at.step X.at.step)
    where
      X : Queued x
      X = queued x (omega (arith, lt, ln))

      N : Queued n
      N = queued n ln

      go : (N.at.step < X.at.step) ⊎ (X.at.step ≤ N.at.step) → level x ≤ level n
      go (inl l) = let back = ordered.steps n x N.at X.at N.is X.is (sym N.queue ∙ sym same ∙ X.queue) l in absurd (omega (arith, back, lt))
      go (inr le) = let a = X.step in let b = N.step in omega (arith, a, b, le)

  -- a node of a queue, and a later one of that queue
  onward : (x n : ℕ) → x < n → n < length nodes → x < last → (node_at nodes x).queue ≡ (node_at nodes n).queue → Under level x n
  onward x n lt fits lx same = go (cases_lt n last)
    where
      X : Queued x
      X = queued x lx

      go : (n < last) ⊎ (last ≤ n) → Under level x n
      go (inl ln) = lifted level x n (rises x n lt ln same) lt
      go (inr le) =
          let k = X.queue_known in
          let e : X.at.queue ≡ count = sym X.queue ∙ same ∙ ap (λ z. z.queue) (read n le fits) in
          absurd (omega (arith, k, e))

  held : (x n : ℕ) → x < n → n < length nodes → holds_back (node_at nodes x) (node_at nodes n) ≡ true → Under level x n
  held x n lt fits h = go (cases_lt x last)
    where
      go : (x < last) ⊎ (last ≤ x) → Under level x n
      go (inl lx) = onward x n lt fits lx (eqb-true (node_at nodes x).queue (node_at nodes n).queue (and_parts ((node_at nodes x).queue == (node_at nodes n).queue) ((is_sync (node_at nodes x).kind || is_sync (node_at nodes n).kind) && meets (node_at nodes x).dst_stages.0 (node_at nodes n).src_stages.0) h).0)
      go (inr le) = absurd (hosts_apart count (subst (λ z. holds_back z (host_node count) ≡ true) (read x le (omega (arith, lt, fits))) (subst (λ z. holds_back (node_at nodes x) z ≡ true) (read n (omega (arith, le, lt)) fits) h)))

  -- WAITS

  record Met (n : ℕ) : Type 0 where
    signal : ℕ
    is : meeting nodes (node_at nodes n).kind ≡ Some signal
    known : signal < length nodes
    lower : level signal < level n

  meets_one : (n : ℕ) → is_wait (node_at nodes n).kind ≡ true → Met n
  meets_one n holds = record {
    signal = signal_number script count W.other F.step;
    is = crossing.meets P script count T A there ordered K values n W F;
    known = (T.signal W.other F.step W.other_known F.signal).within;
    lower =
        let a = L.signal W.other F.step W.other_known F.signal in
        let b : level n ≡ W.step = ap level W.number ∙ L.wait W.queue W.step W.other W.queue_known W.other_known W.item W.waits in
        let c = F.earlier in
        omega (arith, a, b, c);
  }
    where
      W : WaitAt P script count n
      W = wait_at P script count T A n holds

      F : IsFor script count W.queue W.step W.other
      F = for W.queue W.step W.other W.queue_known W.other_known W.item W.waits

      L : AreSteps script count
      L = are_steps script count there

  -- EDGES

  by_meeting : (x n : ℕ) → meeting nodes (node_at nodes n).kind ≡ Some x → (x < length nodes) × Under level x n
  by_meeting x n e = (subst (λ z. z < length nodes) same M.known, inl (subst (λ z. level z < level n) same M.lower))
    where
      M : Met n
      M = meets_one n (met_wait nodes (node_at nodes n).kind x e)

      same : M.signal ≡ x
      same = some_same (sym M.is ∙ e)

  to_host : (x n : ℕ) → n < length nodes → is_signal (node_at nodes x).kind ≡ true → is_host (node_at nodes n).kind ≡ true → (x < length nodes) × Under level x n
  to_host x n fits signal host = go (cases_lt n last)
    where
      lx : x < last
      lx = inside is_signal x refl refl signal

      X : Queued x
      X = queued x lx

      go : (n < last) ⊎ (last ≤ n) → (x < length nodes) × Under level x n
      go (inl ln) = absurd (false≢true (sym (queued n ln).no_host ∙ host))
      go (inr le) = let a = X.step in let b = X.step_known in let c = level_past script count n le in (omega (arith, lx, le, fits), inl (omega (arith, a, b, c)))

  by_signal : (x n : ℕ) → n < length nodes → is_signal (node_at nodes x).kind ≡ true → (o : Option ℕ) → next_signal nodes x ≡ o → goes_to nodes n o ≡ true → (x < length nodes) × Under level x n
  by_signal x n fits signal None e g = to_host x n fits signal g
  by_signal x n fits signal (Some next) e g =
      let after = next_place nodes x n (position (signals (node_at nodes x).queue) (drop (x + 1) nodes)) refl (e ∙ ap (λ z. Some z) (eqb-true next n g)) in
      (omega (arith, after.0, fits), onward x n after.0 fits (inside is_signal x refl refl signal) after.1)

  forward : (x n : ℕ) → n < length nodes → edge nodes x n ≡ true → (x < length nodes) × Under level x n
  forward x n fits e = go (or_cases (nat_lt x n && holds_back (node_at nodes x) (node_at nodes n)) (signalled nodes x n || is_at (meeting nodes (node_at nodes n).kind) x) e)
    where
      over : (signalled nodes x n ≡ true) ⊎ (is_at (meeting nodes (node_at nodes n).kind) x ≡ true) → (x < length nodes) × Under level x n
      over (inl s) = let p = and_parts (is_signal (node_at nodes x).kind) (goes_to nodes n (next_signal nodes x)) s in by_signal x n fits p.0 (next_signal nodes x) refl p.1
      over (inr m) = by_meeting x n (is_same (meeting nodes (node_at nodes n).kind) x m)

      go : ((nat_lt x n && holds_back (node_at nodes x) (node_at nodes n)) ≡ true) ⊎ ((signalled nodes x n || is_at (meeting nodes (node_at nodes n).kind) x) ≡ true) → (x < length nodes) × Under level x n
      go (inl h) = let p = and_parts (nat_lt x n) (holds_back (node_at nodes x) (node_at nodes n)) h in let lt = ltb-true x n p.0 in (omega (arith, lt, fits), held x n lt fits p.1)
      go (inr h) = over (or_cases (signalled nodes x n) (is_at (meeting nodes (node_at nodes n).kind) x) h)

  not_read : (n : ℕ) → is_queued nodes n ≡ true → n < length nodes → n < last
  not_read n q fits = go (cases_lt n last)
    where
      go : (n < last) ⊎ (last ≤ n) → n < last
      go (inl lt) = lt
      go (inr le) = absurd (false≢true (sym (ap (λ z. not (is_host z.kind)) (read n le fits)) ∙ (and_parts (nat_lt n (length nodes)) (not (is_host (node_at nodes n).kind)) q).1))

  pub leveled : Leveled nodes (level_of script count)
  leveled = record {
    queue = λ x n q lt fits same. rises x n lt (not_read n q fits) same;
    met = λ n fits w. let M = meets_one n w in (M.signal, M.is, M.known, M.lower);
    forward = forward;
  }
