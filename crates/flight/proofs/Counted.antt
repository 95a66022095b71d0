-- Windows that are looked at one after another.
use Rattle.std.proofs.Common.{◌≡◌, ℕ, suc, ◌+◌, ◌-◌, ◌*◌, ◌/◌, ◌%◌, ◌<◌, ◌≤◌, List, length, take, drop, min, Option, Some, None, sym, ap, ap₂, ◌∙◌, add-one, arith}
use Rattle.std.specs.List.{slice_range}
use Rattle.std.specs.Option.{option_or}
use Rattle.std.proofs.lemmas.List.{drop-map, length-drop, take-map, take_min}
use Rattle.std.proofs.Math.Nat.{mul_comm}
use Rattle.std.proofs.lemmas.Nat.{div-add-mod', mul-add-lt}
use Rattle.flight.specs.Flights.{all_declared, persisted_bytes, queues_of, window_at}
use Rattle.flight.specs.Refusals.{first_too_large, too_large}
use Rattle.flight.specs.declared.fault.FlightFault.{FlightFault}
use Rattle.frame.specs.declared.frame.Frame.{Frame}
use Rattle.law_window.specs.Declared.{declared_in}
use Rattle.law_window.specs.WindowFrame.{window_frame}
use Rattle.law_window.specs.InTurn.{frames_in}

-- a window that is counted has a frame
pub there : (n d w : ℕ) → 1 ≤ d → w < (n + (d - 1)) / d → w * d < n
there n d w deep lt =
    let q : ℕ = (n + (d - 1)) / d in
    let one : w * d + (d - 1) < d * q = mul-add-lt w d (d - 1) q lt (omega arith) in
    let turned : d * q ≡ q * d = mul_comm d q in
    let two : q * d + (n + (d - 1)) % d ≡ n + (d - 1) = div-add-mod' (n + (d - 1)) d in
    omega (arith, one, turned, two)

-- the frames of a window
pub sliced : {X : Type 0} (frames : List X) (depth w count : ℕ) → count ≡ min depth (length frames - w * depth) → slice_range frames (w * depth) (w * depth + count) ≡ frames_in depth frames w
sliced frames depth w count is =
    let many : length (drop (w * depth) frames) ≡ length frames - w * depth = length-drop (w * depth) frames in
    let a : (w * depth + count) - w * depth ≡ min depth (length (drop (w * depth) frames)) = omega (arith, many, is) in
    ap (λ n. take n (drop (w * depth) frames)) a ∙ take_min depth (drop (w * depth) frames)

-- so are they when they are declared
pub declared_in_window : (frames : List Frame) (persist : List (List ℕ)) (depth w : ℕ) → all_declared (frames_in depth frames w) persist ≡ frames_in depth (all_declared frames persist) w
declared_in_window frames persist depth w = sym (ap (take depth) (drop-map (declared_in persist) (w * depth) frames) ∙ take-map (declared_in persist) depth (drop (w * depth) frames))

pub window_sliced : (frames part : List Frame) (persist : List (List ℕ)) (depth w : ℕ) (persisted : List (Option (List ℕ))) (f : Frame) → f.queues ≡ queues_of frames → part ≡ frames_in depth frames w → window_frame f.queues (all_declared part persist) (persisted_bytes persisted) ≡ window_at frames persist depth persisted w
window_sliced frames part persist depth w persisted f queues is = ap₂ (λ qs ds. window_frame qs ds (persisted_bytes persisted)) queues (ap (λ fs. all_declared fs persist) is ∙ declared_in_window frames persist depth w)

module _ (frames : List Frame) (persist : List (List ℕ)) (depth w end : ℕ) (lt : w < end) where
  large_at : first_too_large frames persist depth (end - w) w ≡ option_or (too_large frames persist depth w) (first_too_large frames persist depth (end - suc w) (suc w))
  large_at = let e : end - w ≡ suc (end - suc w) = omega arith in ap (λ n. first_too_large frames persist depth n w) e

pub large_on : (frames : List Frame) (persist : List (List ℕ)) (depth w end : ℕ) (fault total : Option FlightFault) → w < end → fault ≡ too_large frames persist depth w → fault ≡ None → first_too_large frames persist depth (end - w) w ≡ total → first_too_large frames persist depth (end - (w + 1)) (w + 1) ≡ total
large_on frames persist depth w end fault total lt is none so_far =
    rw add-one (sym (large_at frames persist depth w end lt ∙ ap (λ o. option_or o (first_too_large frames persist depth (end - suc w) (suc w))) (sym is ∙ none)) ∙ so_far)

pub large_found : (frames : List Frame) (persist : List (List ℕ)) (depth w end : ℕ) (fault : FlightFault) (total : Option FlightFault) → w < end → Some fault ≡ too_large frames persist depth w → first_too_large frames persist depth (end - w) w ≡ total → Some fault ≡ total
large_found frames persist depth w end fault total lt is so_far =
    ap (λ o. option_or o (first_too_large frames persist depth (end - suc w) (suc w))) is ∙ sym (large_at frames persist depth w end lt) ∙ so_far

pub large_end : (frames : List Frame) (persist : List (List ℕ)) (depth w end : ℕ) (total : Option FlightFault) → end ≤ w → first_too_large frames persist depth (end - w) w ≡ total → None ≡ total
large_end frames persist depth w end total far so_far = let e : 0 ≡ end - w = omega arith in ap (λ n. first_too_large frames persist depth n w) e ∙ so_far
