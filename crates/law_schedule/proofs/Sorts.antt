-- Which nodes are waits, and which are signals.
use Rattle.std.proofs.Common.{◌≡◌, ◌⊎◌, inl, inr, ℕ, ◌<◌, ◌≤◌, Bool, true, false, List, length, refl, sym, ap, ◌∙◌, subst}
use Rattle.std.proofs.lemmas.Bool.{cases_lt, false≢true}
use Rattle.std.proofs.lemmas.List.{get_or_past}
use Rattle.law_schedule.specs.Standing.{StandsFor, read_number, AllStand, IsOneOf, as_wait, as_item, as_signal, as_read, AreThese}
use Rattle.check_order.specs.Edges.{is_signal, is_wait, node_at}
use Rattle.check_order.specs.Nodes.{item_node, entry_node, program_nodes, no_node}
use Rattle.check_order.specs.declared.kind.Kind.{Kind}
use Rattle.check_order.specs.declared.node.Node.{Node}
use Rattle.program.specs.Entries.{Entry, OfWait, OfItem, OfSignal, OfHost}
use Rattle.program.specs.declared.program.Item.{Item}
use Rattle.program.specs.declared.program.Item.TheVariants.{Command, Global, BufferBarrier, ImageBarrier, Release, Acquire}
use Rattle.program.specs.declared.program.Program.{Program}
use Rattle.compile_timeline.specs.Parts.{wait_for, signal_after}
use Rattle.compile_timeline.specs.Places.{wait_number, item_number, signal_number}
use Rattle.compile_timeline.specs.Signals.{has_signal}
use Rattle.compile_timeline.specs.Steps.{has_item}
use Rattle.compile_timeline.specs.Waits.{waits}
use Rattle.compile_timeline.specs.declared.step.Step.{Step}

-- node n is the wait for queue other before the item of its queue at a step
pub record WaitAt (P : Program) (script : List Step) (count n : ℕ) : Type 0 where
  pub queue : ℕ
  pub step : ℕ
  pub other : ℕ
  pub queue_known : queue < count
  pub other_known : other < count
  pub item : has_item script queue step ≡ true
  pub waits : waits script queue step other ≡ true
  pub number : n ≡ wait_number script count queue step other
  pub stands : StandsFor P n (OfWait queue (wait_for script count queue step other))

-- node n is the signal after the item of its queue at a step
pub record SignalAt (P : Program) (script : List Step) (count n : ℕ) : Type 0 where
  pub queue : ℕ
  pub step : ℕ
  pub known : queue < count
  pub has : has_signal script count queue step ≡ true
  pub number : n ≡ signal_number script count queue step
  pub stands : StandsFor P n (OfSignal queue (signal_after script count step))

-- an item is no wait and no signal
item_quiet : (q : ℕ) (item : Item) → (is_signal (item_node q item).kind ≡ false) × (is_wait (item_node q item).kind ≡ false)
item_quiet q (Command op) = (refl, refl)
item_quiet q (Global masks) = (refl, refl)
item_quiet q (BufferBarrier piece masks) = (refl, refl)
item_quiet q (ImageBarrier piece layouts masks) = (refl, refl)
item_quiet q (Release transfer) = (refl, refl)
item_quiet q (Acquire transfer) = (refl, refl)

module _ (P : Program) where
  abbrev nodes : List Node
  nodes = program_nodes P

  pub moved : (n m : ℕ) (entry : Entry) → n ≡ m → StandsFor P m entry → StandsFor P n entry
  moved n m entry e S = subst (λ z. StandsFor P z entry) (sym e) S

  -- the node of an entry is as the entry's
  pub other_kind : (test : Kind → Bool) (n : ℕ) (entry : Entry) → StandsFor P n entry → test (entry_node (length P.queues) entry).kind ≡ false → test (node_at nodes n).kind ≡ true → ⊥
  other_kind test n entry S fails holds = false≢true (sym fails ∙ sym (ap (λ z. test z.kind) S.node) ∙ holds)

  -- what no number past the end is
  pub is_there : (test : Kind → Bool) (n : ℕ) → test no_node.kind ≡ false → test (node_at nodes n).kind ≡ true → n < length nodes
  is_there test n fails holds = go (cases_lt n (length nodes))
    where
      go : (n < length nodes) ⊎ (length nodes ≤ n) → n < length nodes
      go (inl lt) = lt
      go (inr ge) = absurd (false≢true (sym fails ∙ sym (ap (λ z. test z.kind) (get_or_past nodes n no_node ge)) ∙ holds))

module _ (P : Program) (script : List Step) (count : ℕ) (T : AllStand P script count) (A : AreThese P script count) where
  pub signal_at : (n : ℕ) → is_signal (node_at (program_nodes P) n).kind ≡ true → SignalAt P script count n
  signal_at n holds = go (A n (is_there P is_signal n refl holds))
    where
      go : IsOneOf P script count n → SignalAt P script count n
      go (as_wait q i p lq lp h w is) = absurd (other_kind P is_signal n (OfWait q (wait_for script count q i p)) (moved P n (wait_number script count q i p) (OfWait q (wait_for script count q i p)) is (T.wait q i p lq lp h w)) refl holds)
      go (as_item q i item lq e is) = absurd (other_kind P is_signal n (OfItem q item) (moved P n (item_number script count q i) (OfItem q item) is (T.item q i item lq e)) (item_quiet q item).0 holds)
      go (as_signal q i lq s is) = record { queue = q; step = i; known = lq; has = s; number = is; stands = moved P n (signal_number script count q i) (OfSignal q (signal_after script count i)) is (T.signal q i lq s) }
      go (as_read k piece e is) = absurd (other_kind P is_signal n (OfHost piece) (moved P n (read_number script count k) (OfHost piece) is (T.read k piece e)) refl holds)

  pub wait_at : (n : ℕ) → is_wait (node_at (program_nodes P) n).kind ≡ true → WaitAt P script count n
  wait_at n holds = go (A n (is_there P is_wait n refl holds))
    where
      go : IsOneOf P script count n → WaitAt P script count n
      go (as_wait q i p lq lp h w is) = record { queue = q; step = i; other = p; queue_known = lq; other_known = lp; item = h; waits = w; number = is; stands = moved P n (wait_number script count q i p) (OfWait q (wait_for script count q i p)) is (T.wait q i p lq lp h w) }
      go (as_item q i item lq e is) = absurd (other_kind P is_wait n (OfItem q item) (moved P n (item_number script count q i) (OfItem q item) is (T.item q i item lq e)) (item_quiet q item).1 holds)
      go (as_signal q i lq s is) = absurd (other_kind P is_wait n (OfSignal q (signal_after script count i)) (moved P n (signal_number script count q i) (OfSignal q (signal_after script count i)) is (T.signal q i lq s)) refl holds)
      go (as_read k piece e is) = absurd (other_kind P is_wait n (OfHost piece) (moved P n (read_number script count k) (OfHost piece) is (T.read k piece e)) refl holds)
