-- What stands at which number.
use Rattle.std.proofs.Common.{◌≡◌, ◌⊎◌, inl, inr, ℕ, ◌+◌, ◌-◌, ◌<◌, ◌≤◌, ◌&&◌, nat_lt, not, Bool, true, false, List, ◌++◌, length, map, get_or, Some, refl, sym, ap, ◌∙◌, subst, length-append, arith}
use Rattle.std.specs.Option.{option_map}
use Rattle.std.specs.Prelude.{slice_get}
use Rattle.std.proofs.lemmas.Bool.{cases_lt, lt-ltb, le-ltb}
use Rattle.std.proofs.lemmas.List.{length-map}
use Rattle.std.proofs.lemmas.Option.{slice_get-map, slice_get-get_or, slice_get_within, get_or_from_slice_get}
use Rattle.base.proofs.Lists.{got_front, got_back}
use Rattle.law_schedule.specs.Standing.{StandsFor, read_number, AllStand, IsOneOf, as_wait, as_item, as_signal, as_read, AreThese, ReadsAreLast}
use Rattle.check_order.specs.Edges.{is_host, node_at}
use Rattle.check_order.specs.Nodes.{item_node, entry_node, program_nodes, no_node}
use Rattle.check_order.specs.Orders.{is_queued}
use Rattle.check_order.specs.declared.node.Node.{Node}
use Rattle.program.specs.Entries.{Entry, OfHost, entries_of}
use Rattle.program.specs.Rules.{shapes_of}
use Rattle.program.specs.declared.program.Item.{Item}
use Rattle.program.specs.declared.program.Item.TheVariants.{Command, Global, BufferBarrier, ImageBarrier, Release, Acquire}
use Rattle.program.specs.declared.program.Program.{Program}
use Rattle.compile_timeline.specs.Laws.{Stands, a_wait, an_item, a_signal, IsNumbered, AreNumbered, AllThere}
use Rattle.compile_timeline.specs.Parts.{Part, Waits, Does, Signals, wait_for, signal_after}
use Rattle.compile_timeline.specs.Places.{Place, place, places, part_entry, entry_of, wait_number, item_number, signal_number}
use Rattle.compile_timeline.specs.declared.step.Step.{Step}
use Rattle.check_access.specs.Effects.{entry_effect, no_effect}
use Rattle.check_access.specs.Views.{view_of}

-- NODES OF ENTRIES

pub entry_stands : (P : Program) (n : ℕ) (entry : Entry) → slice_get (entries_of P) n ≡ Some entry → StandsFor P n entry
entry_stands P n entry e = record {
  within = subst (λ k. n < k) (sym (length-map (entries_of P) (entry_node (length P.queues)))) (slice_get_within (entries_of P) n entry e);
  is = e;
  node = get_or_from_slice_get (program_nodes P) n (entry_node (length P.queues) entry) no_node (slice_get-map (entry_node (length P.queues)) (entries_of P) n ∙ ap (option_map (entry_node (length P.queues))) e);
  effect = get_or_from_slice_get (view_of P).effects n (entry_effect (shapes_of P) entry) no_effect (slice_get-map (entry_effect (shapes_of P)) (entries_of P) n ∙ ap (option_map (entry_effect (shapes_of P))) e);
}

-- of a part a node of its queue, and no host read
pub record IsOf (q : ℕ) (node : Node) : Type 0 where
  pub queue : node.queue ≡ q
  pub no_host : is_host node.kind ≡ false

pub item_is_of : (q : ℕ) (item : Item) → IsOf q (item_node q item)
item_is_of q (Command op) = record { queue = refl; no_host = refl }
item_is_of q (Global masks) = record { queue = refl; no_host = refl }
item_is_of q (BufferBarrier piece masks) = record { queue = refl; no_host = refl }
item_is_of q (ImageBarrier piece layouts masks) = record { queue = refl; no_host = refl }
item_is_of q (Release transfer) = record { queue = refl; no_host = refl }
item_is_of q (Acquire transfer) = record { queue = refl; no_host = refl }

pub part_is_of : (count q : ℕ) (part : Part) → IsOf q (entry_node count (part_entry q part))
part_is_of count q (Waits wait) = record { queue = refl; no_host = refl }
part_is_of count q (Does item) = item_is_of q item
part_is_of count q (Signals signal) = record { queue = refl; no_host = refl }

-- WHAT STANDS WHERE

-- a part of a queue, a host read, or nothing
pub data Standing (P : Program) (script : List Step) (count n : ℕ) : Type 0 where
  a_part : (at : Place) → slice_get (places script count) n ≡ Some at → StandsFor P n (entry_of at) → Standing P script count n
  a_read : (k piece : ℕ) → slice_get P.readbacks k ≡ Some piece → n ≡ read_number script count k → StandsFor P n (OfHost piece) → Standing P script count n
  nothing : length (entries_of P) ≤ n → Standing P script count n

module _ (P : Program) (script : List Step) (count : ℕ) (E : entries_of P ≡ map entry_of (places script count) ++ map OfHost P.readbacks) where
  size : length (map entry_of (places script count)) ≡ length (places script count)
  size = length-map (places script count) entry_of

  pub total : length (entries_of P) ≡ length (places script count) + length P.readbacks
  total =
      let a = length-append (map entry_of (places script count)) (map OfHost P.readbacks) in
      let b = length-map P.readbacks OfHost in
      let c = ap length E in
      omega (arith, a, b, c, size)

  pub place_stands : (n : ℕ) (at : Place) → slice_get (places script count) n ≡ Some at → StandsFor P n (entry_of at)
  place_stands n at e = entry_stands P n (entry_of at) (ap (λ es. slice_get es n) E ∙ got_front (map entry_of (places script count)) (map OfHost P.readbacks) n (entry_of at) (slice_get-map entry_of (places script count) n ∙ ap (option_map entry_of) e))

  pub read_stands : (k piece : ℕ) → slice_get P.readbacks k ≡ Some piece → StandsFor P (read_number script count k) (OfHost piece)
  read_stands k piece e =
      entry_stands P (read_number script count k) (OfHost piece)
      (ap (λ es. slice_get es (read_number script count k)) E
      ∙ ap (λ z. slice_get (map entry_of (places script count) ++ map OfHost P.readbacks) (z + k)) (sym size)
      ∙ got_back (map entry_of (places script count)) (map OfHost P.readbacks) k
      ∙ slice_get-map OfHost P.readbacks k
      ∙ ap (option_map OfHost) e)

  pub standing : (n : ℕ) → Standing P script count n
  standing n = go (cases_lt n (length (places script count))) (cases_lt n (length (entries_of P)))
    where
      read : (k : ℕ) → n ≡ read_number script count k → k < length P.readbacks → Standing P script count n
      read k e lt = let there = slice_get-get_or P.readbacks k 0 lt in a_read k (get_or P.readbacks k 0) there e (subst (λ m. StandsFor P m (OfHost (get_or P.readbacks k 0))) (sym e) (read_stands k (get_or P.readbacks k 0) there))

      none : Place
      none = place 0 0 (Does (Global (record { src_stages = record { 0 = 0 }; src_accesses = record { 0 = 0 }; dst_stages = record { 0 = 0 }; dst_accesses = record { 0 = 0 } })))

      go : (n < length (places script count)) ⊎ (length (places script count) ≤ n) → (n < length (entries_of P)) ⊎ (length (entries_of P) ≤ n) → Standing P script count n
      go (inl lt) h = let there = slice_get-get_or (places script count) n none lt in a_part (get_or (places script count) n none) there (place_stands n (get_or (places script count) n none) there)
      go (inr le) (inl lt) = read (n - length (places script count)) (omega (arith, le)) (omega (arith, le, lt, total))
      go (inr le) (inr ge) = nothing ge

  pub all_stand : AllThere script count → AllStand P script count
  all_stand T = record {
    wait = λ q i p lq lp h w. place_stands (wait_number script count q i p) (place q i (Waits (wait_for script count q i p))) (T.wait q i p lq lp h w);
    item = λ q i item lq e. place_stands (item_number script count q i) (place q i (Does item)) (T.item q i item lq e);
    signal = λ q i lq s. place_stands (signal_number script count q i) (place q i (Signals (signal_after script count i))) (T.signal q i lq s);
    read = read_stands;
  }

  pub are_these : AreNumbered script count → AreThese P script count
  are_these numbered n lt = go (standing n)
    where
      part : (at : Place) → IsNumbered script count n at → IsOneOf P script count n
      part at N = sort N.stands
        where
          sort : Stands script count n at → IsOneOf P script count n
          sort (a_wait p lp w e is) = as_wait at.queue at.step p N.queue lp N.step w is
          sort (an_item item e f is) = as_item at.queue at.step item N.queue e is
          sort (a_signal s e is) = as_signal at.queue at.step N.queue s is

      go : Standing P script count n → IsOneOf P script count n
      go (a_part at e s) = part at (numbered n at e)
      go (a_read k piece e is s) = as_read k piece e is
      go (nothing ge) = let size = length-map (entries_of P) (entry_node (length P.queues)) in absurd (omega (arith, ge, lt, size))

  pub reads_are_last : ReadsAreLast P script count
  reads_are_last n = go (standing n)
    where
      queued : (there host : Bool) → nat_lt n (length (program_nodes P)) ≡ there → is_host (node_at (program_nodes P) n).kind ≡ host → is_queued (program_nodes P) n ≡ (there && not host)
      queued there host a b = ap (λ z. z && not (is_host (node_at (program_nodes P) n).kind)) a ∙ ap (λ z. there && not z) b

      go : Standing P script count n → is_queued (program_nodes P) n ≡ nat_lt n (length (places script count))
      go (a_part at e s) =
          queued true false (lt-ltb n (length (program_nodes P)) s.within) (ap (λ node. is_host node.kind) s.node ∙ (part_is_of (length P.queues) at.queue at.part).no_host)
          ∙ sym (lt-ltb n (length (places script count)) (slice_get_within (places script count) n at e))
      go (a_read k piece e is s) =
          queued true true (lt-ltb n (length (program_nodes P)) s.within) (ap (λ node. is_host node.kind) s.node)
          ∙ sym (le-ltb n (length (places script count)) (omega (arith, is)))
      go (nothing ge) =
          let same = length-map (entries_of P) (entry_node (length P.queues)) in
          queued false (is_host (node_at (program_nodes P) n).kind) (le-ltb n (length (program_nodes P)) (omega (arith, ge, same))) refl
          ∙ sym (le-ltb n (length (places script count)) (omega (arith, ge, total)))
