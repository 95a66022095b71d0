-- The frames of one window.
use Rattle.std.proofs.Common.{◌≡◌, ◌+◌, ◌*◌, ◌/◌, ◌<◌, ◌≤◌, ℕ, min, List, length, get_or, Some, slice_get, inl, inr, sym, ap, subst, ◌∙◌, arith}
use Rattle.std.specs.Prelude.{◌⊎◌}
use Rattle.std.proofs.lemmas.Option.{slice_get-get_or}
use Rattle.flight.proofs.Counted.{there}
use Rattle.flight.specs.Flight.{Flight}
use Rattle.flight.specs.Flights.{window_count}
use Rattle.flight.specs.Fly.{Fly}
use Rattle.flight_file.proofs.Texts.{text_to}
use Rattle.flight_file.proofs.Windows.{in_window, next_window}
use Rattle.flight_file.specs.Internal.Flying.{text_before}
use Rattle.frame.specs.declared.frame.Frame.{Frame}

-- a window that is counted begins at a frame
pub begins : (F : Flight) (w d : ℕ) → Fly F.frames F.persist F.depth → F.depth ≡ d → w < window_count F.depth F.frames → w * d < length F.frames
begins F w d fly is lt = subst (λ n. w * n < length F.frames) is (there (length F.frames) F.depth w fly.deep lt)

-- a frame from there on is in the window
pub in_this : (D d i w to : ℕ) → D ≡ d → w * d ≤ i → i < to → to ≤ w * d + d → i / D ≡ w
in_this D d i w to is from lt near =
    let less : i < w * d + d = omega (arith, lt, near) in
    subst (λ n. i / n ≡ w) (sym is) (in_window i w d from less)

-- the frame at a place
pub frame_here : (all frames : List Frame) (i : ℕ) (frame : Frame) → all ≡ frames → i < length frames → frame ≡ get_or frames i frame → slice_get all i ≡ Some frame
frame_here all frames i frame same lt is =
    ap (λ (fs : List Frame). slice_get fs i) same ∙ (slice_get-get_or frames i frame lt ∙ ap (λ (f : Frame). Some f) (sym is))

one_of : (a b : ℕ) → (min a b ≡ a) ⊎ (min a b ≡ b)
one_of a b = grind arith

-- all frames of the window
pub window_end : (F : Flight) (w d n to i : ℕ) (text : List ℕ) → F.depth ≡ d → length F.frames ≡ n → w * d < n → to ≡ min (w * d + d) n → to ≤ i → (w * d ≤ to → i ≤ to) → text ≡ text_before F i → text ≡ text_before F ((w + 1) * F.depth)
window_end F w d n to i text is many lt least far up so_far =
    let begun : w * d ≤ to = omega (arith, least, lt) in
    let e : i ≡ min (w * d + d) n = omega (arith, far, up begun, least) in
    let next : w * d + d ≡ (w + 1) * d = next_window w d in
    let below : i ≤ (w + 1) * d = omega (arith, e, next) in
    subst (λ m. text ≡ text_before F ((w + 1) * m)) (sym is) (text_to F i ((w + 1) * d) text below (which e (one_of (w * d + d) n)) so_far)
  where
    which : i ≡ min (w * d + d) n → (min (w * d + d) n ≡ w * d + d) ⊎ (min (w * d + d) n ≡ n) → (i ≡ (w + 1) * d) ⊎ (i ≡ length F.frames)
    which e (inl last) = inl (e ∙ last ∙ next_window w d)
    which e (inr last) = inr (e ∙ last ∙ sym many)
