-- Batches that are cut from parts begin after a signal, or before waits that follow an item.
use Rattle.std.proofs.Common.{◌≡◌, inl, inr, ℕ, zero, suc, ◌<◌, List, [], ◌∷◌, length, Some, None, refl, subst, arith}
use Rattle.std.specs.List.{All}
use Rattle.std.specs.Prelude.{slice_get}
use Rattle.std.proofs.lemmas.List.Elements.{All-nil, All-cons, All-tail}
use Rattle.base.specs.declared.shape.Family.{Family}
use Rattle.compile_timeline.specs.Batches.{batch, item_before, before, cut, queues, queues_from}
use Rattle.compile_timeline.specs.Parts.{Part, Waits, Does, Signals, parts}
use Rattle.compile_timeline.specs.declared.step.Step.{Step}
use Rattle.law_record.specs.Begun.{HasNode, IsBeginning, IsCutUp}
use Rattle.program.specs.declared.program.Batch.{Batch}
use Rattle.program.specs.declared.program.Item.{Item}
use Rattle.program.specs.declared.program.Queue.{Queue}
use Rattle.program.specs.declared.program.WaitFor.{WaitFor}

-- ONE MORE BATCH

no_batch : IsCutUp []
no_batch = record { some = All-nil HasNode; each = λ k a b e f. absurd cc }

put : (a : Batch) (batches : List Batch) → HasNode a → IsCutUp batches → ((b : Batch) → slice_get batches 0 ≡ Some b → IsBeginning a b) → IsCutUp (a ∷ batches)
put a batches has C begins = record { some = All-cons HasNode a batches has C.some; each = each }
  where
    each : (k : ℕ) (x y : Batch) → slice_get (a ∷ batches) k ≡ Some x → slice_get batches k ≡ Some y → IsBeginning x y
    each zero x y e f = let same : a ≡ x = cc in subst (λ z. IsBeginning z y) same (begins y f)
    each (suc k) x y e f = C.each k x y e f

others : (b : Batch) (batches : List Batch) → IsCutUp (b ∷ batches) → IsCutUp batches
others b batches C = record { some = All-tail HasNode b batches C.some; each = λ k x y e f. C.each (suc k) x y e f }

-- ONE MORE PART

with_item : (item : Item) (b : Batch) (batches : List Batch) → IsCutUp (b ∷ batches) → (waits : List WaitFor) → (length b.waits ≡ length waits) → IsCutUp (item_before item waits b.items b.signal batches)
with_item item b batches C [] e = put (batch [] (item ∷ b.items) b.signal) batches (omega arith) (others b batches C) (λ n h. from n (C.each 0 b n refl h))
  where
    from : (n : Batch) → IsBeginning b n → IsBeginning (batch [] (item ∷ b.items) b.signal) n
    from n (inl s) = inl s
    from n (inr (i, w)) = inr (omega (arith, i), w)
with_item item b batches C (wait ∷ waits) e =
    put (batch [] (item ∷ []) None) (batch (wait ∷ waits) b.items b.signal ∷ batches) (omega arith)
    (put (batch (wait ∷ waits) b.items b.signal) batches (omega arith) (others b batches C) (λ n h. C.each 0 b n refl h))
    (λ n h. inr (omega arith, waiting n h))
  where
    waiting : (n : Batch) → slice_get (batch (wait ∷ waits) b.items b.signal ∷ batches) 0 ≡ Some n → 0 < length n.waits
    waiting n h = let same : batch (wait ∷ waits) b.items b.signal ≡ n = cc in subst (λ (z : Batch). 0 < length z.waits) same (omega arith)

before_up : (part : Part) (batches : List Batch) → IsCutUp batches → IsCutUp (before part batches)
before_up (Signals signal) batches C = put (batch [] [] (Some signal)) batches (omega arith) C (λ b e. inl refl)
before_up (Waits wait) [] C = put (batch (wait ∷ []) [] None) [] (omega arith) C (λ b e. absurd cc)
before_up (Waits wait) (b ∷ batches) C = put (batch (wait ∷ b.waits) b.items b.signal) batches (omega arith) (others b batches C) (λ n h. C.each 0 b n refl h)
before_up (Does item) [] C = put (batch [] (item ∷ []) None) [] (omega arith) C (λ b e. absurd cc)
before_up (Does item) (b ∷ batches) C = with_item item b batches C b.waits refl

cut_up : (all : List Part) → IsCutUp (cut all)
cut_up [] = no_batch
cut_up (part ∷ all) = before_up part (cut all) (cut_up all)

-- ALL QUEUES

from_number : (script : List Step) (count q : ℕ) (families : List Family) → All (λ (queue : Queue). IsCutUp queue.batches) (queues_from script count q families)
from_number script count q [] = All-nil (λ (queue : Queue). IsCutUp queue.batches)
from_number script count q (family ∷ families) = All-cons (λ (queue : Queue). IsCutUp queue.batches) _ (queues_from script count (suc q) families) (cut_up (parts script count q)) (from_number script count (suc q) families)

pub all_begun : (script : List Step) (families : List Family) → All (λ (queue : Queue). IsCutUp queue.batches) (queues script families)
all_begun script families = from_number script (length families) 0 families
