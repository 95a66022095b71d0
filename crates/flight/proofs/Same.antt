-- What the code makes is the window of the laws.
use Rattle.std.proofs.Common.{◌≡◌, ℕ, suc, ◌<◌, ◌++◌, List, [], ◌∷◌, length, map, get_or, Bool, true, false, Option, Some, None, refl, sym, ap, ap₂, ◌∙◌, arith}
use Rattle.std.specs.List.{list_any}
use Rattle.std.specs.Str.{bytes_eq}
use Rattle.std.proofs.lemmas.List.{length-map}
use Rattle.flight.proofs.Walks.{length_left}
use Rattle.flight.specs.Internal.Left.{carried, carries_by, holders_of, last_left, left_after, names_left, nothing_left, others_by, source_by, sources_by}
use Rattle.flight.specs.Internal.WindowParts.{all_exports, all_passes, all_resources}
use Rattle.flight.specs.Flights.{all_declared, persisted_bytes}
use Rattle.frame.specs.declared.frame.Frame.{Frame}
use Rattle.frame.specs.declared.frame.QueueDecl.{QueueDecl}
use Rattle.frame.specs.declared.frame.Pass.{Pass}
use Rattle.frame.specs.declared.frame.Resource.{Resource}
use Rattle.frame.specs.declared.frame.Spot.{Spot}
use Rattle.law_window.specs.Declared.{declared_in, holder_in}
use Rattle.law_window.specs.Exports.{declared_exports, named_others}
use Rattle.law_window.specs.NamedJoins.{NamedCarry, named_carries, named_joins, size_of}
use Rattle.law_window.specs.Names.{numbered_name, rename_in}
use Rattle.law_window.specs.Passes.{renamed_passes, renamed_spot}
use Rattle.law_window.specs.NamedSources.{Kept, Named, kept, last_named, left_names, named_after}
use Rattle.law_window.specs.WindowFrame.{declared_passes, declared_resources, first_name, resources_in, window_frame}

-- SOURCES

after_same : (i : ℕ) (holders : List (Option ℕ)) (persisted : List (List ℕ)) (left : List (Option (List ℕ))) → length holders ≡ length left → named_after i holders (sources_by persisted left) ≡ sources_by persisted (left_after i holders left)
after_same i [] [] left same = refl
after_same i [] (b ∷ persisted) [] same = refl
after_same i [] (b ∷ persisted) (l ∷ left) same = absurd (omega arith)
after_same i (h ∷ holders) [] left same = refl
after_same i (h ∷ holders) (b ∷ persisted) [] same = refl
after_same i (None ∷ holders) (b ∷ persisted) (l ∷ left) same = ap (λ ss. source_by b l ∷ ss) (after_same i holders persisted left (omega arith))
after_same i (Some k ∷ holders) (b ∷ persisted) (l ∷ left) same = ap (λ ss. Named (numbered_name i k) ∷ ss) (after_same i holders persisted left (omega arith))

kept_same : (persisted : List (List ℕ)) (persist : List (List ℕ)) → length persisted ≡ length persist → kept persisted ≡ sources_by persisted (nothing_left persist)
kept_same [] persist same = refl
kept_same (b ∷ persisted) [] same = absurd (omega arith)
kept_same (b ∷ persisted) (n ∷ persist) same = ap (λ ss. Kept b ∷ ss) (kept_same persisted persist (omega arith))

names_same : (persisted : List (List ℕ)) (left : List (Option (List ℕ))) → length persisted ≡ length left → left_names (sources_by persisted left) ≡ names_left left
names_same [] [] same = refl
names_same [] (l ∷ left) same = absurd (omega arith)
names_same (b ∷ persisted) [] same = absurd (omega arith)
names_same (b ∷ persisted) (None ∷ left) same = names_same persisted left (omega arith)
names_same (b ∷ persisted) (Some n ∷ left) same = ap (λ ns. n ∷ ns) (names_same persisted left (omega arith))

abbrev copy_to : ℕ → List Resource → ℕ → List ℕ → NamedCarry
copy_to i rs k n = record { from = n; to = numbered_name i k; size = size_of rs k }

carries_same : (i : ℕ) (rs : List Resource) (holders : List (Option ℕ)) (persisted : List (List ℕ)) (left : List (Option (List ℕ))) → length persisted ≡ length left → named_carries i rs holders (sources_by persisted left) ≡ map carried (carries_by i rs holders left)
carries_same i rs [] persisted left same = refl
carries_same i rs (None ∷ holders) [] [] same = refl
carries_same i rs (Some k ∷ holders) [] [] same = refl
carries_same i rs (h ∷ holders) [] (l ∷ left) same = absurd (omega arith)
carries_same i rs (h ∷ holders) (b ∷ persisted) [] same = absurd (omega arith)
carries_same i rs (None ∷ holders) (b ∷ persisted) (None ∷ left) same = carries_same i rs holders persisted left (omega arith)
carries_same i rs (None ∷ holders) (b ∷ persisted) (Some n ∷ left) same = carries_same i rs holders persisted left (omega arith)
carries_same i rs (Some k ∷ holders) (b ∷ persisted) (None ∷ left) same = carries_same i rs holders persisted left (omega arith)
carries_same i rs (Some k ∷ holders) (b ∷ persisted) (Some n ∷ left) same = ap (λ cs. copy_to i rs k n ∷ cs) (carries_same i rs holders persisted left (omega arith))

-- FRAMES

as_many : (persist : List (List ℕ)) (f : Frame) (left : List (Option (List ℕ))) → length left ≡ length persist → length (holders_of persist f) ≡ length left
as_many persist f left same = length-map persist (holder_in f.resources) ∙ sym same

still : (persist : List (List ℕ)) (i : ℕ) (f : Frame) (left : List (Option (List ℕ))) → length left ≡ length persist → length (left_after i (holders_of persist f) left) ≡ length persist
still persist i f left same = length_left i (holders_of persist f) left (as_many persist f left same) ∙ same

resources_same : (persist : List (List ℕ)) (persisted : List (Option (List ℕ))) (i : ℕ) (left : List (Option (List ℕ))) (frames : List Frame) → length left ≡ length persist → declared_resources i (sources_by (persisted_bytes persisted) left) (all_declared frames persist) ≡ all_resources persist persisted i left frames
resources_same persist persisted i left [] same = refl
resources_same persist persisted i left (f ∷ frames) same =
    ap (λ xs. resources_in i (sources_by (persisted_bytes persisted) left) (declared_in persist f) ++ xs)
    (ap (λ ss. declared_resources (suc i) ss (all_declared frames persist)) (after_same i (holders_of persist f) (persisted_bytes persisted) left (as_many persist f left same))
    ∙ resources_same persist persisted (suc i) (left_after i (holders_of persist f) left) frames (still persist i f left same))

passes_same : (queue : List ℕ) (persist : List (List ℕ)) (persisted : List (List ℕ)) (i : ℕ) (left : List (Option (List ℕ))) (frames : List Frame) → length left ≡ length persist → length persisted ≡ length persist → declared_passes queue i (sources_by persisted left) (all_declared frames persist) ≡ all_passes queue persist i left frames
passes_same queue persist persisted i left [] same held_same = refl
passes_same queue persist persisted i left (f ∷ frames) same held_same =
    ap₂ (λ cs xs. (named_joins i queue cs ++ renamed_passes i 0 (rename_in i f) f.passes) ++ xs)
    (carries_same i f.resources (holders_of persist f) persisted left (held_same ∙ sym same))
    (ap (λ ss. declared_passes queue (suc i) ss (all_declared frames persist)) (after_same i (holders_of persist f) persisted left (as_many persist f left same))
    ∙ passes_same queue persist persisted (suc i) (left_after i (holders_of persist f) left) frames (still persist i f left same) held_same)

exports_same : (persist : List (List ℕ)) (i : ℕ) (frames : List Frame) → declared_exports i (all_declared frames persist) ≡ all_exports i frames
exports_same persist i [] = refl
exports_same persist i (f ∷ frames) = ap (λ xs. map (renamed_spot (rename_in i f)) f.exports ++ xs) (exports_same persist (suc i) frames)

last_same : (persist : List (List ℕ)) (persisted : List (List ℕ)) (i : ℕ) (left : List (Option (List ℕ))) (frames : List Frame) → length left ≡ length persist → last_named i (sources_by persisted left) (all_declared frames persist) ≡ sources_by persisted (last_left persist i left frames)
last_same persist persisted i left [] same = refl
last_same persist persisted i left (f ∷ frames) same =
    ap (λ ss. last_named (suc i) ss (all_declared frames persist)) (after_same i (holders_of persist f) persisted left (as_many persist f left same))
    ∙ last_same persist persisted (suc i) (left_after i (holders_of persist f) left) frames (still persist i f left same)

last_many : (persist : List (List ℕ)) (i : ℕ) (left : List (Option (List ℕ))) (frames : List Frame) → length left ≡ length persist → length (last_left persist i left frames) ≡ length persist
last_many persist i left [] same = same
last_many persist i left (f ∷ frames) same = last_many persist (suc i) (left_after i (holders_of persist f) left) frames (still persist i f left same)

-- OTHER EXPORTS

others_same : (own : List Spot) (left : List (Option (List ℕ))) → named_others own (names_left left) ≡ others_by own left
others_same own [] = refl
others_same own (None ∷ left) = others_same own left
others_same own (Some n ∷ left) = by_test (list_any (λ spot. bytes_eq n spot.name) own) refl (others_same own left)
  where
    by_test : (b : Bool) → list_any (λ spot. bytes_eq n spot.name) own ≡ b → named_others own (names_left left) ≡ others_by own left → named_others own (n ∷ names_left left) ≡ others_by own (Some n ∷ left)
    by_test true e rest = rw (e, rest) refl
    by_test false e rest = rw (e, rest) refl

-- THE WINDOW

nothing_many : (persist : List (List ℕ)) → length (nothing_left persist) ≡ length persist
nothing_many [] = refl
nothing_many (n ∷ persist) = ap suc (nothing_many persist)

module _ (queues : List QueueDecl) (frames : List Frame) (persist : List (List ℕ)) (persisted : List (Option (List ℕ))) (same : length persisted ≡ length persist) where
  bytes_same : length (persisted_bytes persisted) ≡ length persist
  bytes_same = length-map persisted _ ∙ same

  kept_is : kept (persisted_bytes persisted) ≡ sources_by (persisted_bytes persisted) (nothing_left persist)
  kept_is = kept_same (persisted_bytes persisted) persist bytes_same

  pub same_resources : declared_resources 0 (kept (persisted_bytes persisted)) (all_declared frames persist) ≡ all_resources persist persisted 0 (nothing_left persist) frames
  same_resources = ap (λ ss. declared_resources 0 ss (all_declared frames persist)) kept_is ∙ resources_same persist persisted 0 (nothing_left persist) frames (nothing_many persist)

  pub same_passes : (queue : List ℕ) → declared_passes queue 0 (kept (persisted_bytes persisted)) (all_declared frames persist) ≡ all_passes queue persist 0 (nothing_left persist) frames
  same_passes queue = ap (λ ss. declared_passes queue 0 ss (all_declared frames persist)) kept_is ∙ passes_same queue persist (persisted_bytes persisted) 0 (nothing_left persist) frames (nothing_many persist) bytes_same

  same_names : left_names (last_named 0 (kept (persisted_bytes persisted)) (all_declared frames persist)) ≡ names_left (last_left persist 0 (nothing_left persist) frames)
  same_names =
      let last = last_left persist 0 (nothing_left persist) frames in
      ap (λ ss. left_names (last_named 0 ss (all_declared frames persist))) kept_is
      ∙ ap left_names (last_same persist (persisted_bytes persisted) 0 (nothing_left persist) frames (nothing_many persist))
      ∙ names_same (persisted_bytes persisted) last (bytes_same ∙ sym (last_many persist 0 (nothing_left persist) frames (nothing_many persist)))

  pub same_exports : (window_frame queues (all_declared frames persist) (persisted_bytes persisted)).exports ≡ all_exports 0 frames ++ others_by (all_exports 0 frames) (last_left persist 0 (nothing_left persist) frames)
  same_exports =
      ap₂ (λ own names. own ++ named_others own names) (exports_same persist 0 frames) same_names
      ∙ ap (λ xs. all_exports 0 frames ++ xs) (others_same (all_exports 0 frames) (last_left persist 0 (nothing_left persist) frames))

first_is : (queues : List QueueDecl) (q : QueueDecl) → 0 < length queues → q ≡ get_or queues 0 q → q.name ≡ first_name queues
first_is [] q some is = absurd (omega arith)
first_is (p ∷ queues) q some is = ap (λ x. x.name) is

pub same_frame : (queues queues' : List QueueDecl) (resources resources' : List Resource) (passes passes' : List Pass) (exports exports' : List Spot) → queues ≡ queues' → resources ≡ resources' → passes ≡ passes' → exports ≡ exports' → ◌≡◌ {A = Frame} (record { queues = queues; resources = resources; passes = passes; exports = exports }) (record { queues = queues'; resources = resources'; passes = passes'; exports = exports' })
same_frame queues queues' resources resources' passes passes' exports exports' q r p e = cc

pub window_is : (queues queues' : List QueueDecl) (q : QueueDecl) (frames : List Frame) (persist : List (List ℕ)) (persisted : List (Option (List ℕ))) (resources : List Resource) (passes : List Pass) (exports : List Spot) → length persisted ≡ length persist → 0 < length queues → q ≡ get_or queues 0 q → queues' ≡ queues → resources ≡ all_resources persist persisted 0 (nothing_left persist) frames → passes ≡ all_passes q.name persist 0 (nothing_left persist) frames → exports ≡ all_exports 0 frames ++ others_by (all_exports 0 frames) (last_left persist 0 (nothing_left persist) frames) → ◌≡◌ {A = Frame} (record { queues = queues'; resources = resources; passes = passes; exports = exports }) (window_frame queues (all_declared frames persist) (persisted_bytes persisted))
window_is queues queues' q frames persist persisted resources passes exports same some is queues_are r_is p_is e_is =
    let rs : resources ≡ (window_frame queues (all_declared frames persist) (persisted_bytes persisted)).resources = r_is ∙ sym (same_resources queues frames persist persisted same) in
    let ps : passes ≡ (window_frame queues (all_declared frames persist) (persisted_bytes persisted)).passes = p_is ∙ sym (same_passes queues frames persist persisted same q.name) ∙ ap (λ n. declared_passes n 0 (kept (persisted_bytes persisted)) (all_declared frames persist)) (first_is queues q some is) in
    let es : exports ≡ (window_frame queues (all_declared frames persist) (persisted_bytes persisted)).exports = e_is ∙ sym (same_exports queues frames persist persisted same) in
    let w : Frame = window_frame queues (all_declared frames persist) (persisted_bytes persisted) in
    same_frame queues' queues resources w.resources passes w.passes exports w.exports queues_are rs ps es
