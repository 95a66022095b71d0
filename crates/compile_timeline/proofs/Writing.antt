-- Parts that are added to batches, one by one.
use Rattle.std.proofs.Common.{◌≡◌, ◌<◌, List, [], ◌∷◌, ◌++◌, length, map, Option, Some, None, refl, sym, ap, ◌∙◌, append_assoc, append-nil, arith}
use Rattle.program.specs.declared.program.Batch.{Batch}
use Rattle.program.specs.declared.program.Item as programs
use Rattle.program.specs.declared.program.Signal.{Signal}
use Rattle.program.specs.declared.program.WaitFor.{WaitFor}
use Rattle.compile_timeline.specs.Batches.{batch, before, cut}
use Rattle.compile_timeline.specs.Internal.Submissions.{ended, with_rest, Adds, SameBeforeWaits, IsClosed}
use Rattle.compile_timeline.specs.Parts.{Part, Waits, Does, Signals}
use Rattle.compile_timeline.specs.declared.submission.Submission.{Submission}

-- WHERE A BATCH ENDS

-- items before a batch that waits
wait_begins : (wait : WaitFor) (rest : List Part) (item : programs.Item) (items : List programs.Item) → cut (map Does (item ∷ items) ++ Waits wait ∷ rest) ≡ batch [] (item ∷ items) None ∷ cut (Waits wait ∷ rest)
wait_begins wait rest item [] = go (cut rest)
  where
    go : (batches : List Batch) → before (Does item) (before (Waits wait) batches) ≡ batch [] (item ∷ []) None ∷ before (Waits wait) batches
    go [] = refl
    go (b ∷ batches) = refl
wait_begins wait rest item (other ∷ items) = ap (before (Does item)) (wait_begins wait rest other items)

-- items before a signal
signal_ends : (signal : Signal) (rest : List Part) (items : List programs.Item) → cut (map Does items ++ Signals signal ∷ rest) ≡ batch [] items (Some signal) ∷ cut rest
signal_ends signal rest [] = refl
signal_ends signal rest (item ∷ items) = ap (before (Does item)) (signal_ends signal rest items)

-- waits before a batch
waits_join : (parts : List Part) (items : List programs.Item) (signal : Option Signal) (batches : List Batch) → cut parts ≡ batch [] items signal ∷ batches → (waits : List WaitFor) → cut (map Waits waits ++ parts) ≡ batch waits items signal ∷ batches
waits_join parts items signal batches e [] = e
waits_join parts items signal batches e (wait ∷ waits) = ap (before (Waits wait)) (waits_join parts items signal batches e waits)

-- ONE PART MORE

-- a batch with items ends before a wait
pub ends_before : (old new : Submission) → 0 < length old.items → new ≡ ended old None → SameBeforeWaits old new
ends_before old new some is wait rest =
    ap (λ s. with_rest s (Waits wait ∷ rest)) is
    ∙ append_assoc old.batches (batch old.waits old.items None ∷ []) (cut (Waits wait ∷ rest))
    ∙ ap (λ bs. old.batches ++ bs) (sym (first old.items some))
    ∙ ap (λ ps. old.batches ++ cut ps) (sym (append_assoc (map Waits old.waits) (map Does old.items) (Waits wait ∷ rest)))
  where
    first : (items : List programs.Item) → 0 < length items → cut (map Waits old.waits ++ (map Does items ++ Waits wait ∷ rest)) ≡ batch old.waits items None ∷ cut (Waits wait ∷ rest)
    first [] lt = absurd (no lt)
      where
        no : 0 < 0 → ⊥
        no h = omega arith
    first (item ∷ items) lt = waits_join (map Does (item ∷ items) ++ Waits wait ∷ rest) (item ∷ items) None (cut (Waits wait ∷ rest)) (wait_begins wait rest item items) old.waits

pub adds_signal : (old new : Submission) (signal : Signal) → new ≡ ended old (Some signal) → Adds old new (Signals signal ∷ [])
adds_signal old new signal is rest =
    ap (λ s. with_rest s rest) is
    ∙ append_assoc old.batches (batch old.waits old.items (Some signal) ∷ []) (cut rest)
    ∙ ap (λ bs. old.batches ++ bs) (sym (waits_join (map Does old.items ++ Signals signal ∷ rest) old.items (Some signal) (cut rest) (signal_ends signal rest old.items) old.waits))
    ∙ ap (λ ps. old.batches ++ cut ps) (sym (append_assoc (map Waits old.waits) (map Does old.items) (Signals signal ∷ rest)))

-- all batches, where none is open
pub closed_batches : (submission : Submission) → IsClosed submission → with_rest submission [] ≡ submission.batches
closed_batches s C =
    ap (λ ws. s.batches ++ cut ((map Waits ws ++ map Does s.items) ++ [])) C.waits
    ∙ ap (λ is. s.batches ++ cut (map Does is ++ [])) C.items
    ∙ append-nil s.batches
