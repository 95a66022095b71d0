-- No limit depends on imports.
use Rattle.std.proofs.Common.{◌≡◌, ℕ, zero, suc, ◌-◌, ◌++◌, List, [], ◌∷◌, length, map, nat_lt, not, slice_get, Option, Some, None, if◌then◌else◌, is_some, refl, sym, ap, ap₂, ◌∙◌}
use Rattle.std.specs.List.{find, position_or_len}
use Rattle.std.specs.Option.{option_map, option_map_or}
use Rattle.std.specs.Str.{bytes_eq}
use Rattle.std.proofs.lemmas.List.{map-append}
use Rattle.std.proofs.lemmas.List.Folds.{find_at}
use Rattle.base.specs.Bounds.{sides_allowed, size_allowed}
use Rattle.base.specs.Maxima.{max_exports, max_resource_bytes, max_units}
use Rattle.flight.proofs.Places.{place_mapped, position_mapped}
use Rattle.flight.proofs.Same.{same_exports, same_frame, same_passes}
use Rattle.flight.specs.Flights.{all_declared, persisted_bytes}
use Rattle.frame.specs.Limits.{all_bytes, exported, layers_allowed, limit_broken}
use Rattle.base.specs.Rooms.{first_over}
use Rattle.frame.specs.declared.frame.Frame.{Frame}
use Rattle.frame.specs.declared.frame.QueueDecl.{QueueDecl}
use Rattle.frame.specs.declared.frame.Resource.{Resource}
use Rattle.frame.specs.declared.frame.Spot.{Spot}
use Rattle.law_window.specs.Declared.{Declared}
use Rattle.law_window.specs.Resources.{renamed_resources, set_import, set_imports}
use Rattle.law_window.specs.NamedSources.{NamedSource, kept, named_after, named_import}
use Rattle.law_window.specs.WindowFrame.{declared_resources, first_name, resources_in, window_frame}

abbrev bare : Resource → Resource
bare r = record r { import = None }

-- RESOURCES WITHOUT THEIR IMPORTS

bare_set : (rs : List Resource) (k : ℕ) (import : Option (List ℕ)) → map bare (set_import rs k import) ≡ map bare rs
bare_set [] k import = refl
bare_set (r ∷ rs) zero import = refl
bare_set (r ∷ rs) (suc k) import = ap (λ xs. bare r ∷ xs) (bare_set rs k import)

bare_sets : (holders : List (Option ℕ)) (imports : List (Option (List ℕ))) (rs : List Resource) → map bare (set_imports holders imports rs) ≡ map bare rs
bare_sets [] imports rs = refl
bare_sets (None ∷ holders) [] rs = refl
bare_sets (Some k ∷ holders) [] rs = refl
bare_sets (None ∷ holders) (import ∷ imports) rs = bare_sets holders imports rs
bare_sets (Some k ∷ holders) (import ∷ imports) rs = bare_sets holders imports (set_import rs k import) ∙ bare_set rs k import

bare_renamed : (i j : ℕ) (rs : List Resource) → map bare (renamed_resources i j rs) ≡ renamed_resources i j (map bare rs)
bare_renamed i j [] = refl
bare_renamed i j (r ∷ rs) = ap₂ (λ x xs. x ∷ xs) refl (bare_renamed i (suc j) rs)

bare_in : (i : ℕ) (sources : List NamedSource) (d : Declared) → map bare (resources_in i sources d) ≡ renamed_resources i 0 (map bare d.frame.resources)
bare_in i sources d = bare_renamed i 0 (set_imports d.holders (map named_import sources) d.frame.resources) ∙ ap (renamed_resources i 0) (bare_sets d.holders (map named_import sources) d.frame.resources)

bare_all : (i : ℕ) (one two : List NamedSource) (ds : List Declared) → map bare (declared_resources i one ds) ≡ map bare (declared_resources i two ds)
bare_all i one two [] = refl
bare_all i one two (d ∷ ds) =
    map-append bare (resources_in i one d) (declared_resources (suc i) (named_after i d.holders one) ds)
    ∙ ap₂ (λ xs ys. xs ++ ys) (bare_in i one d ∙ sym (bare_in i two d)) (bare_all (suc i) (named_after i d.holders one) (named_after i d.holders two) ds)
    ∙ sym (map-append bare (resources_in i two d) (declared_resources (suc i) (named_after i d.holders two) ds))

-- LIMITS

over_mapped : {X Y : Type 0} (size : Y → ℕ) (f : X → Y) (room i : ℕ) (xs : List X) → first_over size room i (map f xs) ≡ first_over (λ x. size (f x)) room i xs
over_mapped size f room i [] = refl
over_mapped size f room i (x ∷ xs) = ap (λ o. if nat_lt room (size (f x)) then Some i else o) (over_mapped size f (room - size (f x)) (suc i) xs)

over_alike : {X : Type 0} (s t : X → ℕ) → ((x : X) → s x ≡ t x) → (room i : ℕ) (xs : List X) → first_over s room i xs ≡ first_over t room i xs
over_alike s t same room i [] = refl
over_alike s t same room i (x ∷ xs) = ap (λ o. if nat_lt room (s x) then Some i else o) (over_alike s t same (room - s x) (suc i) xs) ∙ ap (λ n. if nat_lt room n then Some i else first_over t (room - n) (suc i) xs) (same x)

got_mapped : {X Y : Type 0} (f : X → Y) (xs : List X) (k : ℕ) → slice_get (map f xs) k ≡ option_map f (slice_get xs k)
got_mapped f [] k = refl
got_mapped f (x ∷ xs) zero = refl
got_mapped f (x ∷ xs) (suc k) = got_mapped f xs k

layers_bare : (o : Option Resource) → option_map_or (λ r. r.layers) (option_map bare o) 1 ≡ option_map_or (λ r. r.layers) o 1
layers_bare None = refl
layers_bare (Some r) = refl

found_bare : (rs : List Resource) (name : List ℕ) → find (λ r. bytes_eq r.name name) (map bare rs) ≡ option_map bare (find (λ r. bytes_eq r.name name) rs)
found_bare rs name =
    find_at (λ r. bytes_eq r.name name) (map bare rs)
    ∙ ap (slice_get (map bare rs)) (place_mapped (λ r. bytes_eq r.name name) bare rs)
    ∙ got_mapped bare rs (position_or_len (λ r. bytes_eq r.name name) rs)
    ∙ sym (ap (option_map bare) (find_at (λ r. bytes_eq r.name name) rs))

abbrev bared : Frame → Frame
bared frame = record frame { resources = map bare frame.resources }

exported_bare : (frame : Frame) (spot : Spot) → exported (bared frame) spot ≡ exported frame spot
exported_bare frame spot = ap (λ n. if is_some spot.layer then 1 else n) (ap (λ o. option_map_or (λ r. r.layers) o 1) (found_bare frame.resources spot.name) ∙ layers_bare (find (λ r. bytes_eq r.name spot.name) frame.resources))

limits_bare : (frame : Frame) → limit_broken (bared frame) ≡ limit_broken frame
limits_bare frame = rw (position_mapped (λ r. not (layers_allowed r)) bare frame.resources, over_mapped (λ r. r.layers) bare max_units 0 frame.resources, over_alike (exported (bared frame)) (exported frame) (exported_bare frame) max_exports 0 frame.exports, position_mapped (λ r. not (sides_allowed r.shape)) bare frame.resources, position_mapped (λ r. not (size_allowed r.shape)) bare frame.resources, over_mapped all_bytes bare max_resource_bytes 0 frame.resources) refl

pub windows_alike : (queues : List QueueDecl) (frames : List Frame) (persist : List (List ℕ)) (persisted other : List (Option (List ℕ))) → length persisted ≡ length persist → length other ≡ length persist → limit_broken (window_frame queues (all_declared frames persist) (persisted_bytes persisted)) ≡ limit_broken (window_frame queues (all_declared frames persist) (persisted_bytes other))
windows_alike queues frames persist persisted other one two =
    let a : Frame = window_frame queues (all_declared frames persist) (persisted_bytes persisted) in
    let b : Frame = window_frame queues (all_declared frames persist) (persisted_bytes other) in
    let rs : map bare a.resources ≡ map bare b.resources = bare_all 0 (kept (persisted_bytes persisted)) (kept (persisted_bytes other)) (all_declared frames persist) in
    let ps : a.passes ≡ b.passes = same_passes queues frames persist persisted one (first_name queues) ∙ sym (same_passes queues frames persist other two (first_name queues)) in
    let es : a.exports ≡ b.exports = same_exports queues frames persist persisted one ∙ sym (same_exports queues frames persist other two) in
    let same : bared a ≡ bared b = same_frame queues queues (map bare a.resources) (map bare b.resources) a.passes b.passes a.exports b.exports refl rs ps es in
    sym (limits_bare a) ∙ ap limit_broken same ∙ limits_bare b
