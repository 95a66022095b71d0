-- The nodes of a program that stands to a given one are the given nodes without some waits, and with narrower waits.
use Rattle.std.proofs.Common.{◌≡◌, ◌⊎◌, inl, inr, ℕ, suc, true, Bool, not, List, [], ◌∷◌, ◌++◌, length, map, option_to_list, if◌then◌else◌, refl, sym, ap, ap₂, ◌∙◌, subst}
use Rattle.std.specs.List.{filter, flat_map}
use Rattle.program.specs.Entries.{Entry, OfWait, OfItem, OfSignal, OfHost, batch_entries, queue_entries, entries_of}
use Rattle.program.specs.Places.{all_in}
use Rattle.program.specs.declared.program.Batch.{Batch}
use Rattle.program.specs.declared.program.Program.{Program}
use Rattle.program.specs.declared.program.Queue.{Queue}
use Rattle.program.specs.declared.program.WaitFor.{WaitFor}
use Rattle.law_tight.proofs.Thinned.{Thins, joined, all_stand}
use Rattle.law_tight.specs.Laws.{is_wait_entry, entries_but_waits}
use Rattle.check_tighten.specs.Standing.{Narrows, WaitsStand, Pairwise, BatchStands, QueueStands, StandsTo}

abbrev pub IsWait : Entry → Type 0
IsWait entry = is_wait_entry entry ≡ true

-- a wait for a narrower one
pub record IsNarrowed (given entry : Entry) : Type 0 where
  pub queue : ℕ
  pub of : WaitFor
  pub wait : WaitFor
  pub given_is : given ≡ OfWait queue of
  pub is : entry ≡ OfWait queue wait
  pub narrows : Narrows of wait

abbrev pub EntryStands : Entry → Entry → Type 0
EntryStands given entry = (entry ≡ given) ⊎ IsNarrowed given entry

abbrev pub EntriesThin : List Entry → List Entry → Type 0
EntriesThin given entries = Thins IsWait EntryStands given entries

join : (given entries more others : List Entry) → EntriesThin given entries → EntriesThin more others → EntriesThin (given ++ more) (entries ++ others)
join = joined IsWait EntryStands

same : (entries : List Entry) → EntriesThin entries entries
same = all_stand IsWait EntryStands (λ entry. inl refl)

-- QUEUE BY QUEUE, BATCH BY BATCH

nothing_left : (q : ℕ) (given : List WaitFor) → EntriesThin (map (OfWait q) given) []
nothing_left q [] = tt
nothing_left q (g ∷ given) = (refl, nothing_left q given)

waits_thin : (q : ℕ) (given waits : List WaitFor) → WaitsStand given waits → EntriesThin (map (OfWait q) given) (map (OfWait q) waits)
waits_thin q [] [] s = tt
waits_thin q [] (w ∷ waits) s = absurd s
waits_thin q (g ∷ given) [] s = nothing_left q (g ∷ given)
waits_thin q (g ∷ given) (w ∷ waits) (inl s) = inl (inr (record { queue = q; of = g; wait = w; given_is = refl; is = refl; narrows = s.0 }), waits_thin q given waits s.1)
waits_thin q (g ∷ given) (w ∷ waits) (inr s) = inr (refl, waits_thin q given (w ∷ waits) s)

batch_thins : (q : ℕ) (given batch : Batch) → BatchStands given batch → EntriesThin (batch_entries q given) (batch_entries q batch)
batch_thins q given batch S = join (map (OfWait q) given.waits ++ map (OfItem q) given.items) (map (OfWait q) batch.waits ++ map (OfItem q) batch.items) (map (OfSignal q) (option_to_list given.signal)) (map (OfSignal q) (option_to_list batch.signal))
    (join (map (OfWait q) given.waits) (map (OfWait q) batch.waits) (map (OfItem q) given.items) (map (OfItem q) batch.items)
    (waits_thin q given.waits batch.waits S.waits)
    (subst (λ items. EntriesThin (map (OfItem q) given.items) (map (OfItem q) items)) (sym S.items) (same (map (OfItem q) given.items))))
    (subst (λ signal. EntriesThin (map (OfSignal q) (option_to_list given.signal)) (map (OfSignal q) (option_to_list signal))) (sym S.signal) (same (map (OfSignal q) (option_to_list given.signal))))

batches_thin : (q : ℕ) (given batches : List Batch) → Pairwise BatchStands given batches → EntriesThin (flat_map (batch_entries q) given) (flat_map (batch_entries q) batches)
batches_thin q [] [] s = tt
batches_thin q [] (b ∷ batches) s = absurd s
batches_thin q (g ∷ given) [] s = absurd s
batches_thin q (g ∷ given) (b ∷ batches) s = join (batch_entries q g) (batch_entries q b) (flat_map (batch_entries q) given) (flat_map (batch_entries q) batches) (batch_thins q g b s.0) (batches_thin q given batches s.1)

queues_thin : (q : ℕ) (given queues : List Queue) → Pairwise QueueStands given queues → EntriesThin (all_in queue_entries q given) (all_in queue_entries q queues)
queues_thin q [] [] s = tt
queues_thin q [] (b ∷ queues) s = absurd s
queues_thin q (g ∷ given) [] s = absurd s
queues_thin q (g ∷ given) (b ∷ queues) s = let S = s.0 in join (queue_entries q g) (queue_entries q b) (all_in queue_entries (suc q) given) (all_in queue_entries (suc q) queues) (batches_thin q g.batches b.batches S.batches) (queues_thin (suc q) given queues s.1)

pub entries_thin : (given program : Program) → StandsTo given program → EntriesThin (entries_of given) (entries_of program)
entries_thin given program S = join (all_in queue_entries 0 given.queues) (all_in queue_entries 0 program.queues) (map OfHost given.readbacks) (map OfHost program.readbacks) (queues_thin 0 given.queues program.queues S.queues) (subst (λ r. EntriesThin (map OfHost given.readbacks) (map OfHost r)) (sym S.readbacks) (same (map OfHost given.readbacks)))

-- as many of the one as of the other
as_many : {X : Type 0} (Stands : X → X → Type 0) (xs ys : List X) → Pairwise Stands xs ys → length ys ≡ length xs
as_many Stands [] [] s = refl
as_many Stands [] (y ∷ ys) s = absurd s
as_many Stands (x ∷ xs) [] s = absurd s
as_many Stands (x ∷ xs) (y ∷ ys) s = ap suc (as_many Stands xs ys s.1)

pub queue_count : (given program : Program) → StandsTo given program → length program.queues ≡ length given.queues
queue_count given program S = as_many QueueStands given.queues program.queues S.queues

-- WHAT IS NO WAIT

abbrev is_kept : Entry → Bool
is_kept entry = not (is_wait_entry entry)

passed : (entry : Entry) (entries : List Entry) → IsWait entry → filter is_kept (entry ∷ entries) ≡ filter is_kept entries
passed (OfWait q wait) entries w = refl
passed (OfItem q item) entries w = absurd cc
passed (OfSignal q signal) entries w = absurd cc
passed (OfHost piece) entries w = absurd cc

kept_both : (given entry : Entry) (before entries : List Entry) → EntryStands given entry → filter is_kept entries ≡ filter is_kept before → filter is_kept (entry ∷ entries) ≡ filter is_kept (given ∷ before)
kept_both given entry before entries (inl e) more = ap₂ (λ (z : Entry) rest. if is_kept z then z ∷ rest else rest) e more
kept_both given entry before entries (inr N) more = passed entry entries (ap is_wait_entry N.is) ∙ more ∙ sym (passed given before (ap is_wait_entry N.given_is))

kept_alike : (given entries : List Entry) → EntriesThin given entries → filter is_kept entries ≡ filter is_kept given
kept_alike [] [] t = refl
kept_alike [] (x ∷ xs) t = absurd t
kept_alike (g ∷ given) [] t = kept_alike given [] t.1 ∙ sym (passed g given t.0)
kept_alike (g ∷ given) (x ∷ xs) (inl t) = kept_both g x given xs t.0 (kept_alike given xs t.1)
kept_alike (g ∷ given) (x ∷ xs) (inr t) = kept_alike given (x ∷ xs) t.1 ∙ sym (passed g given t.0)

pub others_alike : (given program : Program) → StandsTo given program → entries_but_waits program ≡ entries_but_waits given
others_alike given program S = kept_alike (entries_of given) (entries_of program) (entries_thin given program S)
