-- A declared window has the numbers of the window of its frames.
use Rattle.std.proofs.Common.{◌≡◌, ℕ, zero, suc, ◌+◌, ◌<◌, ◌≤◌, ◌++◌, List, [], ◌∷◌, length, map, get_or, is_some, not, Bool, true, false, Option, Some, None, unwrap_or, cond, refl, sym, ap, ap₂, ◌∙◌, append_assoc, arith}
use Rattle.std.specs.List.{All, AllByRecursion, filter, flat_map, position}
use Rattle.std.specs.Option.{option_map, option_or}
use Rattle.std.specs.Str.{bytes_eq}
use Rattle.std.proofs.lemmas.Grind.{flat_map-append}
use Rattle.std.proofs.lemmas.List.{length-append, length-map, map-append}
use Rattle.std.proofs.lemmas.Slice.Eq.{bytes_eq-Decides}
use Rattle.std.proofs.lemmas.Bool.{not_from_true}
use Rattle.base.proofs.Absence.{all_pass, map_none, or_first, or_second}
use Rattle.base.proofs.Lists.{all_append}
use Rattle.base.specs.Walks.{first_in}
use Rattle.frame.proofs.Exports.{position_here}
use Rattle.frame.proofs.Small.{few_resources, length_units, limits_none, some_layers, unknown_none}
use Rattle.frame.specs.Numbered.{NumberedFrame, numbered, numbered_pass, queue_number}
use Rattle.frame.specs.Repeats.{first_repeat}
use Rattle.frame.specs.Units.{Numbering, Unit, layers_of, numbering, stretch_of, stretches, unit_of, units_from, units_of}
use Rattle.frame.specs.Unknowns.{has_queue, is_known, unknown, unknown_in}
use Rattle.frame.proofs.Sufficient.{none_found, none_in}
use Rattle.frame.specs.declared.frame.Frame.{Frame}
use Rattle.frame.specs.declared.frame.Pass.{Pass}
use Rattle.frame.specs.declared.frame.QueueDecl.{QueueDecl}
use Rattle.frame.specs.declared.frame.Resource.{Resource}
use Rattle.frame.specs.declared.frame.Spot.{Spot}
use Rattle.frame.specs.declared.numbered.NumberedPass.{NumberedPass}
use Rattle.frame.specs.declared.numbered.Stretch.{Stretch}
use Rattle.frame.specs.declared.location.Location.TheVariants as at
use Rattle.law_window.proofs.Distinct.{all_distinct}
use Rattle.law_window.proofs.Exported.{fewer, is_other}
use Rattle.law_window.proofs.Holders.{IsUsable}
use Rattle.law_window.proofs.Known.{join_known, renamed_known, whole_known}
use Rattle.law_window.proofs.KnownPass.{IsKnownPass, known_pass, none_unknown}
use Rattle.law_window.proofs.NamedSources.{AreNamed, after_named, after_sources, carries_single, same_carries, same_imports, source_of}
use Rattle.law_window.proofs.Numbering.{StandsIn, name_moves}
use Rattle.law_window.proofs.OwnNames.{all_names, own_count, own_names}
use Rattle.law_window.proofs.OtherUnits.{same_test}
use Rattle.law_window.proofs.Pairs.{no_first}
use Rattle.law_window.proofs.PassNumbers.{AreSingle, IsSingle, carry_of, join_numbered, one_unit, passes_moved}
use Rattle.law_window.proofs.Renamed.{known_moved, reads_moved}
use Rattle.law_window.proofs.Stretches.{found_some, moved_stretch, renamed_layers, renamed_stretches, sets_layers, sets_stretches, stretch_count, stretches_moved, stretches_on}
use Rattle.law_window.proofs.Units.{same_units, units_with_imports}
use Rattle.law_window.specs.Declared.{Declared, flown_of, places_in}
use Rattle.law_window.specs.Exports.{declared_exports, named_others}
use Rattle.law_window.specs.NamedJoins.{NamedCarry, named_carries, named_joins, whole}
use Rattle.law_window.specs.Names.{numbered_name, rename_in}
use Rattle.law_window.specs.Passes.{renamed_passes, renamed_spot}
use Rattle.law_window.specs.Resources.{renamed_resources, set_import, set_imports}
use Rattle.law_window.specs.NamedSources.{Kept, Named, NamedSource, kept, last_named, left_names, named_after, named_import}
use Rattle.law_window.specs.WindowFrame.{declared_passes, declared_resources, first_name, resources_in, window_frame}
use Rattle.law_window.proofs.Each.{all_of, each}
use Rattle.law_window.specs.Flown.{with_imports}
use Rattle.law_window.specs.Joins.{joins}
use Rattle.law_window.specs.Sources.{Given, given, last_sources, left_units, next, sources_after}
use Rattle.law_window.specs.Window.{all_passes, all_units, others, own_exports, window}

-- RESOURCES

renamed_names : (i j : ℕ) (rs : List Resource) → map (λ r. r.name) (renamed_resources i j rs) ≡ own_names i j (length rs)
renamed_names i j [] = refl
renamed_names i j (r ∷ rs) = ap (λ ns. numbered_name i j ∷ ns) (renamed_names i (suc j) rs)

set_count : (rs : List Resource) (k : ℕ) (import : Option (List ℕ)) → length (set_import rs k import) ≡ length rs
set_count [] k import = refl
set_count (r ∷ rs) zero import = refl
set_count (r ∷ rs) (suc k) import = ap suc (set_count rs k import)

sets_count : (holders : List (Option ℕ)) (imports : List (Option (List ℕ))) (rs : List Resource) → length (set_imports holders imports rs) ≡ length rs
sets_count [] imports rs = refl
sets_count (None ∷ holders) [] rs = refl
sets_count (Some k ∷ holders) [] rs = refl
sets_count (None ∷ holders) (import ∷ imports) rs = sets_count holders imports rs
sets_count (Some k ∷ holders) (import ∷ imports) rs = sets_count holders imports (set_import rs k import) ∙ set_count rs k import

-- A DECLARED FRAME OF A WINDOW

abbrev pub counts_of : List Declared → List ℕ
counts_of ds = map (λ d. length d.frame.resources) ds

-- what the window's numbers are, from frame i on
pub record Same (Wf : Frame) (W : Numbering) (queue : List ℕ) (i n : ℕ) (named : List NamedSource) (ds : List Declared) : Type 0 where
  pub units : flat_map units_from (declared_resources i named ds) ≡ all_units n (map (source_of W) named) (map flown_of ds)
  pub passes : map (numbered_pass Wf W) (declared_passes queue i named ds) ≡ all_passes n (map (source_of W) named) (map flown_of ds)
  pub exports : flat_map (units_of W) (declared_exports i ds) ≡ own_exports n (map flown_of ds)
  pub last : map (source_of W) (last_named i named ds) ≡ last_sources n (map (source_of W) named) (map flown_of ds)
  pub still_named : AreNamed W (last_named i named ds)
  pub known : AllByRecursion (IsKnownPass Wf W) (declared_passes queue i named ds)
  pub exports_known : AllByRecursion (λ spot. is_known W spot ≡ true) (declared_exports i ds)

joins_numbered : (Wf : Frame) (W : Numbering) (i : ℕ) (queue : List ℕ) (all : List NamedCarry) → queue_number Wf queue ≡ 0 → AreSingle W all → map (numbered_pass Wf W) (named_joins i queue all) ≡ joins (map (carry_of W) all)
joins_numbered Wf W i queue [] first single = refl
joins_numbered Wf W i queue (carry ∷ all) first single = ap (λ p. p ∷ []) (join_numbered W Wf i queue (carry ∷ all) first single)

joins_known : (Wf : Frame) (W : Numbering) (i : ℕ) (queue : List ℕ) (all : List NamedCarry) → has_queue Wf queue ≡ true → AreSingle W all → AllByRecursion (IsKnownPass Wf W) (named_joins i queue all)
joins_known Wf W i queue [] there single = tt
joins_known Wf W i queue (carry ∷ all) there single = (join_known W Wf i queue (carry ∷ all) there single, tt)

passes_known : (small large : Numbering) (rename : List ℕ → List ℕ) (n : ℕ) → ((name : List ℕ) (s : Stretch) → stretch_of small name ≡ Some s → stretch_of large (rename name) ≡ Some (moved_stretch n s)) → (frame Wf : Frame) → Wf.queues ≡ frame.queues → (i k p : ℕ) (passes : List Pass) → first_in (unknown_in frame small) p passes ≡ None → AllByRecursion (IsKnownPass Wf large) (renamed_passes i k rename passes)
passes_known small large rename n moves frame Wf queues i k p [] none = tt
passes_known small large rename n moves frame Wf queues i k p (pass ∷ passes) none = (
  renamed_known small large rename n moves frame Wf (numbered_name i k) pass (ap (λ qs. is_some (position (λ q. bytes_eq q.name pass.queue) qs)) queues) (known_pass frame small p pass (or_first (unknown_in frame small p pass) (first_in (unknown_in frame small) (suc p) passes) none)),
  passes_known small large rename n moves frame Wf queues i (suc k) (suc p) passes (or_second (unknown_in frame small p pass) (first_in (unknown_in frame small) (suc p) passes) none),
)

spots_known : (small large : Numbering) (rename : List ℕ → List ℕ) (n : ℕ) → ((name : List ℕ) (s : Stretch) → stretch_of small name ≡ Some s → stretch_of large (rename name) ≡ Some (moved_stretch n s)) → (spots : List Spot) → AllByRecursion (λ spot. is_known small spot ≡ true) spots → AllByRecursion (λ spot. is_known large spot ≡ true) (map (renamed_spot rename) spots)
spots_known small large rename n moves [] known = tt
spots_known small large rename n moves (spot ∷ spots) known = (known_moved small large rename n moves spot known.0, spots_known small large rename n moves spots known.1)

module _ (Wf : Frame) (W : Numbering) (queue : List ℕ) (first : queue_number Wf queue ≡ 0) (there : has_queue Wf queue ≡ true) (once : first_repeat W.names ≡ None) where
  all_same : (ds : List Declared) → AllByRecursion (IsUsable Wf.queues) ds → (i n : ℕ) (named : List NamedSource) (names-before : List (List ℕ)) (before : List Stretch) → W.names ≡ names-before ++ all_names i (counts_of ds) → W.stretches ≡ before ++ stretches n (declared_resources i named ds) → length names-before ≡ length before → AreNamed W named → Same Wf W queue i n named ds
  all_same [] declared i n named names-before before names stands same is_named = record { units = refl; passes = refl; exports = refl; last = refl; still_named = is_named; known = tt; exports_known = tt }
  all_same (d ∷ ds) declared i n named names-before before names stands same is_named =
      let f = d.frame in
      let rs = f.resources in
      let part = resources_in i named d in
      let after = named_after i d.holders named in
      let rest = declared_resources (suc i) after ds in
      let imports = map named_import named in
      let own = map (moved_stretch n) (stretches 0 rs) in
      let good = declared.0.named in
      let unknown = unknown_none f good in
      let passes_unknown = first_in (unknown_in f (numbering f)) 0 f.passes in
      let exports_unknown = option_map (λ k. at.Export k) (position (λ spot. not (is_known (numbering f) spot)) f.exports) in
      let part_layers : layers_of part ≡ layers_of rs = renamed_layers i 0 (set_imports d.holders imports rs) ∙ sets_layers d.holders imports rs in
      let m : n + layers_of part ≡ next n (flown_of d) = ap (λ k. n + k) (part_layers ∙ sym (length_units rs)) in
      let z : n ≡ n + 0 = omega arith in
      let part_stretches : stretches n part ≡ own = renamed_stretches i 0 n (set_imports d.holders imports rs) ∙ sets_stretches n d.holders imports rs ∙ ap (λ k. stretches k rs) z ∙ stretches_moved n 0 rs in
      let split : stretches n (part ++ rest) ≡ own ++ stretches (next n (flown_of d)) rest = stretches_on n part rest ∙ ap₂ (λ a k. a ++ stretches k rest) part_stretches m in
      let S : StandsIn W i n rs = record { once = once; names-before = names-before; names-after = all_names (suc i) (counts_of ds); before = before; after = stretches (next n (flown_of d)) rest; names = names; stretches_are = stands ∙ ap (λ s. before ++ s) split; same = same } in
      let moves = name_moves W i n f S in
      let some = λ (name : List ℕ) (s : Stretch) (e : stretch_of (numbering f) name ≡ Some s). found_some rs s (position (bytes_eq name) (map (λ r. r.name) rs)) (some_layers f (limits_none f good)) e in
      let own_long : length (own_names i 0 (length rs)) ≡ length own = own_count i 0 (length rs) ∙ sym (length-map (stretches 0 rs) (moved_stretch n) ∙ stretch_count 0 rs) in
      let longer : length (names-before ++ own_names i 0 (length rs)) ≡ length (before ++ own) = length-append names-before (own_names i 0 (length rs)) ∙ ap₂ (λ a b. a + b) same own_long ∙ sym (length-append before own) in
      let sources : map (source_of W) after ≡ sources_after n (places_in rs d.holders) (map (source_of W) named) = after_sources W i n rs S d.holders named declared.0.persisted in
      let tail = all_same ds declared.1 (suc i) (next n (flown_of d)) after (names-before ++ own_names i 0 (length rs)) (before ++ own) (names ∙ sym (append_assoc names-before (own_names i 0 (length rs)) (all_names (suc i) (counts_of ds)))) (stands ∙ ap (λ s. before ++ s) split ∙ sym (append_assoc before own (stretches (next n (flown_of d)) rest))) longer (after_named W i n rs S d.holders named declared.0.persisted is_named) in
      let cs = named_carries i rs d.holders named in
      let renamed = renamed_passes i 0 (rename_in i f) f.passes in
      let known = all_pass (is_known (numbering f)) f.exports (map_none (λ k. at.Export k) (position (λ spot. not (is_known (numbering f) spot)) f.exports) (or_second passes_unknown exports_unknown unknown)) in
      record {
        units = flat_map-append units_from part rest ∙ ap₂ (λ a b. a ++ b) (same_units i 0 (set_imports d.holders imports rs) ∙ units_with_imports d.holders imports rs declared.0.persisted ∙ ap (λ is. with_imports (places_in rs d.holders) is (flat_map units_from rs)) (sym (same_imports W named))) (tail.units ∙ ap (λ ss. all_units (next n (flown_of d)) ss (map flown_of ds)) sources);
        passes =
            map-append (numbered_pass Wf W) (named_joins i queue cs ++ renamed) (declared_passes queue (suc i) after ds)
            ∙ ap₂ (λ a b. a ++ b)
            (map-append (numbered_pass Wf W) (named_joins i queue cs) renamed ∙ ap₂ (λ a b. a ++ b) (joins_numbered Wf W i queue cs first (carries_single W i n rs S d.holders named declared.0.persisted is_named) ∙ ap joins (same_carries W i n rs S d.holders named declared.0.persisted)) (passes_moved (numbering f) W (rename_in i f) n moves some f Wf (sym declared.0.same) i 0 0 f.passes (or_first passes_unknown exports_unknown unknown)))
            (tail.passes ∙ ap (λ ss. all_passes (next n (flown_of d)) ss (map flown_of ds)) sources);
        exports = flat_map-append (units_of W) (map (renamed_spot (rename_in i f)) f.exports) (declared_exports (suc i) ds) ∙ ap₂ (λ a b. a ++ b) (reads_moved (numbering f) W (rename_in i f) n moves some f.exports known) tail.exports;
        last = tail.last ∙ ap (λ ss. last_sources (next n (flown_of d)) ss (map flown_of ds)) sources;
        still_named = tail.still_named;
        known = all_append (IsKnownPass Wf W) (named_joins i queue cs ++ renamed) (declared_passes queue (suc i) after ds) (all_append (IsKnownPass Wf W) (named_joins i queue cs) renamed (joins_known Wf W i queue cs there (carries_single W i n rs S d.holders named declared.0.persisted is_named)) (passes_known (numbering f) W (rename_in i f) n moves f Wf (sym declared.0.same) i 0 0 f.passes (or_first passes_unknown exports_unknown unknown))) tail.known;
        exports_known = all_append (λ spot. is_known W spot ≡ true) (map (renamed_spot (rename_in i f)) f.exports) (declared_exports (suc i) ds) (spots_known (numbering f) W (rename_in i f) n moves f.exports (each (λ spot. is_known (numbering f) spot ≡ true) f.exports known)) tail.exports_known;
      }

-- THE WHOLE WINDOW

window_names : (i : ℕ) (named : List NamedSource) (ds : List Declared) → map (λ r. r.name) (declared_resources i named ds) ≡ all_names i (counts_of ds)
window_names i named [] = refl
window_names i named (d ∷ ds) =
    map-append (λ r. r.name) (resources_in i named d) (declared_resources (suc i) (named_after i d.holders named) ds)
    ∙ ap₂ (λ a b. a ++ b) (renamed_names i 0 (set_imports d.holders (map named_import named) d.frame.resources) ∙ ap (own_names i 0) (sets_count d.holders (map named_import named) d.frame.resources)) (window_names (suc i) (named_after i d.holders named) ds)

few_counts : (queues : List QueueDecl) (ds : List Declared) → AllByRecursion (IsUsable queues) ds → AllByRecursion (λ count. count ≤ 256) (counts_of ds)
few_counts queues [] declared = tt
few_counts queues (d ∷ ds) declared = (few_resources d.frame declared.0.named, few_counts queues ds declared.1)

first_queue : (frame : Frame) → queue_number frame (first_name frame.queues) ≡ 0
first_queue frame = by_queues frame.queues
  where
    by_queues : (queues : List QueueDecl) → unwrap_or (position (λ q. bytes_eq q.name (first_name queues)) queues) 0 ≡ 0
    by_queues [] = refl
    by_queues (q ∷ queues) = ap (λ o. unwrap_or o 0) (position_here (λ x. bytes_eq x.name q.name) q queues ((bytes_eq-Decides q.name q.name).1 refl))

start_sources : (W : Numbering) (persisted : List (List ℕ)) → map (source_of W) (kept persisted) ≡ given persisted
start_sources W [] = refl
start_sources W (bytes ∷ persisted) = ap (λ ss. Given bytes ∷ ss) (start_sources W persisted)

start_named : (W : Numbering) (persisted : List (List ℕ)) → AreNamed W (kept persisted)
start_named W [] = tt
start_named W (bytes ∷ persisted) = start_named W persisted

same_left : (W : Numbering) (named : List NamedSource) → map (λ name. unit_of W (whole name)) (left_names named) ≡ left_units (map (source_of W) named)
same_left W [] = refl
same_left W (Kept bytes ∷ named) = same_left W named
same_left W (Named name ∷ named) = ap (λ us. unit_of W (whole name) ∷ us) (same_left W named)

pub all_single : (W : Numbering) (named : List NamedSource) → AreNamed W named → AllByRecursion (IsSingle W) (left_names named)
all_single W [] single = tt
all_single W (Kept bytes ∷ named) single = all_single W named single
all_single W (Named name ∷ named) single = (single.0, all_single W named single.1)

one_other : (n : Numbering) (name : List ℕ) → IsSingle n name → (names : List (List ℕ)) (units : List ℕ) (b : Bool) → flat_map (units_of n) (map whole names) ≡ units → flat_map (units_of n) (map whole (cond b (name ∷ names) names)) ≡ cond b (unit_of n (whole name) ∷ units) units
one_other n name single names units true rest = ap₂ (λ a b. a ++ b) (one_unit n name single) rest
one_other n name single names units false rest = rest

others_numbered : (Wf : Frame) (own : List Spot) → All (λ spot. is_known (numbering Wf) spot ≡ true) own → (names : List (List ℕ)) → AllByRecursion (IsSingle (numbering Wf)) names → flat_map (units_of (numbering Wf)) (named_others own names) ≡ others (flat_map (units_of (numbering Wf)) own) (map (λ name. unit_of (numbering Wf) (whole name)) names)
others_numbered Wf own known [] single = refl
others_numbered Wf own known (name ∷ names) single =
    let n = numbering Wf in
    let rest = others (flat_map (units_of n) own) (map (λ other. unit_of n (whole other)) names) in
    one_other n name single.0 (filter (is_other own) names) rest (is_other own name) (others_numbered Wf own known names single.1)
    ∙ ap (λ b. cond (not b) (unit_of n (whole name) ∷ rest) rest) (sym (same_test Wf name single.0 own known))

first_there : (queues : List QueueDecl) → 0 < length queues → is_some (position (λ q. bytes_eq q.name (first_name queues)) queues) ≡ true
first_there [] some = absurd (omega arith)
first_there (q ∷ queues) some = ap is_some (position_here (λ x. bytes_eq x.name q.name) q queues ((bytes_eq-Decides q.name q.name).1 refl))

module _ (queues : List QueueDecl) (ds : List Declared) (persisted : List (List ℕ)) (declared : AllByRecursion (IsUsable queues) ds) (some_queue : 0 < length queues) where
  abbrev Wf : Frame
  Wf = window_frame queues ds persisted

  abbrev W : Numbering
  W = numbering Wf

  pub once : first_repeat W.names ≡ None
  once = ap first_repeat (window_names 0 (kept persisted) ds) ∙ no_first bytes_eq (all_names 0 (counts_of ds)) (all_distinct 0 (counts_of ds) (few_counts queues ds declared))

  pub window_same : Same Wf W (first_name queues) 0 0 (kept persisted) ds
  window_same = all_same Wf W (first_name queues) (first_queue Wf) (first_there queues some_queue) once ds declared 0 0 (kept persisted) [] [] (window_names 0 (kept persisted) ds) refl refl (start_named W persisted)

  wholes_known : (names : List (List ℕ)) → AllByRecursion (IsSingle W) names → AllByRecursion (λ spot. is_known W spot ≡ true) (map whole names)
  wholes_known [] single = tt
  wholes_known (name ∷ names) single = (whole_known W name single.0, wholes_known names single.1)

  pub nothing_unknown : unknown Wf ≡ None
  nothing_unknown =
      let own = declared_exports 0 ds in
      let last = left_names (last_named 0 (kept persisted) ds) in
      let Known = λ (spot : Spot). is_known W spot ≡ true in
      let more = wholes_known (filter (is_other own) last) (fewer (IsSingle W) (is_other own) last (all_single W (last_named 0 (kept persisted) ds) window_same.still_named)) in
      let spots = all_of Known (own ++ named_others own last) (all_append Known own (named_others own last) window_same.exports_known more) in
      ap₂ option_or (none_in (unknown_in Wf W) Wf.passes (λ p d lt. none_unknown Wf W p (get_or Wf.passes p d) (all_of (IsKnownPass Wf W) Wf.passes window_same.known p d lt)))
      (ap (option_map (λ k. at.Export k)) (none_found (λ spot. not (is_known W spot)) Wf.exports (λ k d lt. not_from_true (is_known W (get_or Wf.exports k d)) (spots k d lt))))

pub window_numbered : (queues : List QueueDecl) (ds : List Declared) (persisted : List (List ℕ)) → AllByRecursion (IsUsable queues) ds → 0 < length queues → numbered (window_frame queues ds persisted) ≡ window (map (λ q. q.family) queues) (map flown_of ds) persisted
window_numbered queues ds persisted declared some_queue =
    let Wf = window_frame queues ds persisted in
    let W = numbering Wf in
    let start = kept persisted in
    let sources = start_sources W persisted in
    let last = last_named 0 start ds in
    let own = declared_exports 0 ds in
    let A = window_same queues ds persisted declared some_queue in
    let more : flat_map (units_of W) (named_others own (left_names last)) ≡ others (own_exports 0 (map flown_of ds)) (left_units (last_sources 0 (given persisted) (map flown_of ds))) =
    others_numbered Wf own (all_of (λ spot. is_known W spot ≡ true) own A.exports_known) (left_names last) (all_single W last A.still_named) ∙ ap₂ (λ a b. others a b) A.exports (same_left W last ∙ ap left_units (A.last ∙ ap (λ ss. last_sources 0 ss (map flown_of ds)) sources)) in
    same (A.units ∙ ap (λ ss. all_units 0 ss (map flown_of ds)) sources) (A.passes ∙ ap (λ ss. all_passes 0 ss (map flown_of ds)) sources) (flat_map-append (units_of W) own (named_others own (left_names last)) ∙ ap₂ (λ a b. a ++ b) A.exports more)
  where
    same : {us vs : List Unit} {ps qs : List NumberedPass} {es fs : List ℕ} → us ≡ vs → ps ≡ qs → es ≡ fs → ◌≡◌ {A = NumberedFrame} (record { units = us; queues = map (λ q. q.family) queues; passes = ps; exports = es }) (record { units = vs; queues = map (λ q. q.family) queues; passes = qs; exports = fs })
    same a b c = cc
