-- The entries of queues that are cut from parts are the parts.
use Rattle.std.proofs.Common.{◌≡◌, ℕ, suc, ◌+◌, List, [], ◌∷◌, ◌++◌, length, map, Option, refl, sym, ap, ◌∙◌, append_assoc, append-nil, arith}
use Rattle.std.specs.List.{flat_map}
use Rattle.std.proofs.lemmas.Simd.{map-map}
use Rattle.base.specs.declared.shape.Family.{Family}
use Rattle.program.specs.Entries.{Entry, OfItem, OfHost, batch_entries, queue_entries}
use Rattle.program.specs.Places.{all_in}
use Rattle.program.specs.declared.program.Batch.{Batch}
use Rattle.program.specs.declared.program.Item.{Item}
use Rattle.program.specs.declared.program.Signal.{Signal}
use Rattle.program.specs.declared.program.WaitFor.{WaitFor}
use Rattle.compile_timeline.proofs.Below.{map_below, same_below}
use Rattle.compile_timeline.specs.Batches.{batch, item_before, before, cut, queues_from}
use Rattle.compile_timeline.specs.Below.{all_below}
use Rattle.compile_timeline.specs.Laws.{AreParts, AreOfFamilies}
use Rattle.compile_timeline.specs.Parts.{Part, Waits, Does, Signals, parts_at, parts}
use Rattle.compile_timeline.specs.Places.{place, step_places, queue_places, places, part_entry, entry_of}
use Rattle.compile_timeline.specs.declared.step.Step.{Step}

item_entries : (q : ℕ) (item : Item) (waits : List WaitFor) (items : List Item) (signal : Option Signal) (batches : List Batch) → flat_map (batch_entries q) (item_before item waits items signal batches) ≡ OfItem q item ∷ flat_map (batch_entries q) (batch waits items signal ∷ batches)
item_entries q item [] items signal batches = refl
item_entries q item (wait ∷ waits) items signal batches = refl

before_entries : (q : ℕ) (part : Part) (batches : List Batch) → flat_map (batch_entries q) (before part batches) ≡ part_entry q part ∷ flat_map (batch_entries q) batches
before_entries q (Signals signal) batches = refl
before_entries q (Waits wait) [] = refl
before_entries q (Waits wait) (b ∷ batches) = refl
before_entries q (Does item) [] = refl
before_entries q (Does item) (b ∷ batches) = item_entries q item b.waits b.items b.signal batches

pub cut_entries : (q : ℕ) (parts : List Part) → flat_map (batch_entries q) (cut parts) ≡ map (part_entry q) parts
cut_entries q [] = refl
cut_entries q (part ∷ parts) = before_entries q part (cut parts) ∙ ap (λ es. part_entry q part ∷ es) (cut_entries q parts)

-- of one queue
abbrev on_queue : List Step → ℕ → ℕ → List Entry
on_queue script count q = map (part_entry q) (parts script count q)

queues_entries : (script : List Step) (count q : ℕ) (families : List Family) → all_below (on_queue script count) q ++ all_in queue_entries q (queues_from script count q families) ≡ all_below (on_queue script count) (q + length families)
queues_entries script count q [] = let e : q ≡ q + 0 = omega arith in append-nil (all_below (on_queue script count) q) ∙ ap (all_below (on_queue script count)) e
queues_entries script count q (family ∷ families) =
    ap (λ es. all_below (on_queue script count) q ++ (es ++ all_in queue_entries (suc q) (queues_from script count (suc q) families))) (cut_entries q (parts script count q))
    ∙ sym (append_assoc (all_below (on_queue script count) q) (on_queue script count q) (all_in queue_entries (suc q) (queues_from script count (suc q) families)))
    ∙ queues_entries script count (suc q) families
    ∙ ap (all_below (on_queue script count)) (shift (length families))
  where
    shift : (n : ℕ) → suc q + n ≡ q + suc n
    shift n = omega arith

queue_shown : (script : List Step) (count q : ℕ) → map entry_of (queue_places script count q) ≡ on_queue script count q
queue_shown script count q =
    map_below entry_of (step_places script count q) (length script)
    ∙ same_below (λ i. map entry_of (step_places script count q i)) (λ i. map (part_entry q) (parts_at script count q i)) (length script) (λ i lt. map-map entry_of (place q i) (parts_at script count q i))
    ∙ sym (map_below (part_entry q) (parts_at script count q) (length script))

all_shown : (script : List Step) (count : ℕ) → map entry_of (places script count) ≡ all_below (on_queue script count) count
all_shown script count = map_below entry_of (queue_places script count) count ∙ same_below (λ q. map entry_of (queue_places script count q)) (on_queue script count) count (λ q lt. queue_shown script count q)

pub are_parts : (script : List Step) (families : List Family) → AreParts script families
are_parts script families program e =
    ap (λ qs. all_in queue_entries 0 qs ++ map OfHost program.readbacks) e
    ∙ ap (λ es. es ++ map OfHost program.readbacks) (queues_entries script (length families) 0 families ∙ ap (all_below (on_queue script (length families))) all ∙ sym (all_shown script (length families)))
  where
    all : 0 + length families ≡ length families
    all = omega arith

from_families : (script : List Step) (count q : ℕ) (families : List Family) → map (λ queue. queue.family) (queues_from script count q families) ≡ families
from_families script count q [] = refl
from_families script count q (family ∷ families) = ap (λ fs. family ∷ fs) (from_families script count (suc q) families)

from_count : (script : List Step) (count q : ℕ) (families : List Family) → length (queues_from script count q families) ≡ length families
from_count script count q [] = refl
from_count script count q (family ∷ families) = ap suc (from_count script count (suc q) families)

pub of_families : (script : List Step) (families : List Family) → AreOfFamilies script families
of_families script families = record { count = from_count script (length families) 0 families; each = from_families script (length families) 0 families }
