-- Places, one after another.
use Rattle.std.proofs.Common.{◌≡◌, ◌<◌, ◌+◌, ◌++◌, ℕ, List, Some, length, get_or, slice_get, drop, sym, ap, ◌∙◌}
use Rattle.std.proofs.lemmas.Option.{get_or_from_slice_get}
use Rattle.frame.specs.declared.frame.Frame.{Frame}
use Rattle.report_json.proofs.Entries.{one_more}
use Rattle.report_json.specs.Json.{comma, entries}
use Rattle.report_json.specs.Places.{place_object, placed_at}

-- after unit k, whose offset was looked up
pub place_more : (frame : Frame) (offsets sizes units : List ℕ) (k offset : ℕ) (text begun new whole : List ℕ) → k < length units → begun ≡ text ++ comma k → slice_get offsets k ≡ Some offset → new ≡ begun ++ place_object frame offset (get_or sizes k 0) (get_or units k 0) → text ++ entries (placed_at frame offsets sizes) k (drop k units) ≡ whole → new ++ entries (placed_at frame offsets sizes) (k + 1) (drop (k + 1) units) ≡ whole
place_more frame offsets sizes units k offset text begun new whole lt started at is before =
    let here : place_object frame offset (get_or sizes k 0) (get_or units k 0) ≡ placed_at frame offsets sizes k (get_or units k 0) = sym (ap (λ o. place_object frame o (get_or sizes k 0) (get_or units k 0)) (get_or_from_slice_get offsets k offset 0 at)) in
    one_more (placed_at frame offsets sizes) units k 0 text begun new whole lt started (is ∙ ap (λ t. begun ++ t) here) before
