-- What is read of a window is what its frames mean alone, and what is persisted before the next window.
use Rattle.std.proofs.Common.{◌≡◌, ℕ, zero, suc, ◌+◌, ◌-◌, ◌*◌, ◌/◌, ◌%◌, ◌<◌, ◌≤◌, ◌==◌, List, [], ◌∷◌, length, map, take, drop, slice_get, is_some, Bool, true, false, Option, Some, None, if◌then◌else◌, refl, sym, ap, ap₂, subst, ◌∙◌, arith}
use Rattle.std.specs.Prelude.{IfSome, option_and_then, unwrap_or}
use Rattle.std.specs.List.{AllByRecursion, list_any}
use Rattle.std.specs.Option.{option_map, option_or}
use Rattle.std.proofs.Math.Nat.{div-mul-le_self, le-div_iff_mul-le, mod-lt}
use Rattle.std.proofs.lemmas.Bool.{eqb-true}
use Rattle.std.proofs.lemmas.List.{length-append, length-map, take-take}
use Rattle.std.proofs.lemmas.List.Elements.{All-drop, All-take}
use Rattle.std.proofs.lemmas.Nat.{div-add-mod'}
use Rattle.std.proofs.lemmas.Option.{slice_get-map, slice_get_within}
use Rattle.base.proofs.Absence.{map_none, none_from}
use Rattle.base.proofs.Lists.{entry_of}
use Rattle.base.specs.declared.shape.Family.{Family}
use Rattle.flight.proofs.Begins.{first_is_held, first_sized}
use Rattle.flight.proofs.Counted.{declared_in_window}
use Rattle.flight.proofs.Flies.{all_flying}
use Rattle.flight.proofs.Sources.{flown, lasts, source_from, sources_at, sources_from, window_units}
use Rattle.flight.proofs.Turning.{flight_in_turn, flight_numbers, same_frames}
use Rattle.flight.proofs.Units.{any_placed, own_many}
use Rattle.flight.specs.Alone.{AreAlone, IsPersisted, RunInTurn, alone, first_bytes, held_at, persisted_next, held_one}
use Rattle.flight.specs.Exported.{export_place, exported_units, exports_in, persisted_export, last_unit, last_units, own_units, place_from, place_under, unit_count}
use Rattle.flight.specs.Flights.{ArePersisted, all_declared, families_of, persisted_bytes, queues_of, size_at, size_in, sizes_of, window_at, window_count}
use Rattle.flight.specs.Fly.{Fly}
use Rattle.frame.proofs.Necessary.{good}
use Rattle.frame.proofs.Small.{none_broken}
use Rattle.frame.specs.FirstFault.{first_fault}
use Rattle.frame.specs.Numbered.{NumberedFrame, numbered}
use Rattle.frame.specs.declared.frame.Frame.{Frame}
use Rattle.frame_meaning.specs.Meaning.{AreMeant, meaning}
use Rattle.law_window.proofs.Faultless.{declared_together}
use Rattle.law_window.specs.Declared.{declared_in, flown_of, holder_in, unit_at}
use Rattle.law_window.specs.NamedJoins.{size_of}
use Rattle.law_window.proofs.Each.{all_of, each}
use Rattle.law_window.proofs.InTurn.{got_dropped, still_sized}
use Rattle.law_window.specs.InTurn.{MeansInTurn, frames_in}
use Rattle.law_window.specs.Means.{ArePersisted as AreLeft, IsExport, IsLeft, exports_before, units_before}
use Rattle.law_window.specs.Sources.{Source, given, last_sources}
use Rattle.law_window.specs.Together.{Flies}
use Rattle.law_window.specs.Window.{others, window}

-- PARTS OF LISTS

nothing_past : {X : Type 0} (xs : List X) (i : ℕ) → slice_get xs i ≡ None → length xs ≤ i
nothing_past [] i none = omega arith
nothing_past (x ∷ xs) zero none = absurd cc
nothing_past (x ∷ xs) (suc i) none = let rest : length xs ≤ i = nothing_past xs i none in omega (arith, rest)

-- THE PLACE OF AN EXPORT

before_in : (persist : List (List ℕ)) (frames : List Frame) (j : ℕ) → exports_before (flown frames persist) j ≡ exports_in (take j frames)
before_in persist frames zero = refl
before_in persist [] (suc j) = refl
before_in persist (f ∷ frames) (suc j) = ap (λ n. length (numbered f).exports + n) (before_in persist frames j)

enough : (frames : List Frame) (j depth : ℕ) (f : Frame) → slice_get frames j ≡ Some f → j < depth → exports_in (take j frames) + length (numbered f).exports ≤ exports_in (take depth frames)
enough [] j depth f at lt = absurd cc
enough (x ∷ frames) j zero f at lt = absurd (omega (arith, lt))
enough (x ∷ frames) zero (suc depth) f at lt =
    let same : x ≡ f = cc in
    let many : length (numbered x).exports ≡ length (numbered f).exports = ap (λ y. length (numbered y).exports) same in
    omega (arith, many)
enough (x ∷ frames) (suc j) (suc depth) f at lt =
    let rest : exports_in (take j frames) + length (numbered f).exports ≤ exports_in (take depth frames) = enough frames j depth f at (omega (arith, lt)) in
    omega (arith, rest)

-- WINDOWS OF FRAMES

module _ (frames : List Frame) (depth i : ℕ) (frame : Frame) (at : slice_get frames i ≡ Some frame) (deep : 1 ≤ depth) where
  pub split : (i / depth) * depth + i % depth ≡ i
  split = div-add-mod' i depth

  pub near : i % depth < depth
  near = mod-lt i deep

  pub in_window : slice_get (drop ((i / depth) * depth) frames) (i % depth) ≡ Some frame
  in_window = got_dropped ((i / depth) * depth) (i % depth) frames ∙ ap (slice_get frames) split ∙ at

  pub counted : i / depth < window_count depth frames
  counted =
      let lt : i < length frames = slice_get_within frames i frame at in
      let start : (i / depth) * depth ≤ i = div-mul-le_self i depth in
      let one : suc (i / depth) * depth ≡ (i / depth) * depth + depth = grind arith in
      (le-div_iff_mul-le deep).1 (omega (arith, lt, start, one, deep))

module _ (frames : List Frame) (persist : List (List ℕ)) (depth : ℕ) (F : Fly frames persist depth) (persisted : List (Option (List ℕ))) (H : ArePersisted frames persist persisted) where
  as_many : length persisted ≡ length persist
  as_many = sym (length-map persisted (option_map length)) ∙ ap length H ∙ length-map persist (size_in frames)

  bytes_many : length (persisted_bytes persisted) ≡ length persist
  bytes_many = length-map persisted _ ∙ as_many

  module _ (w : ℕ) (lt : w < window_count depth frames) where
    part : frames_in depth (flown frames persist) w ≡ flown (frames_in depth frames w) persist
    part = sym (same_frames frames persist depth F persisted H w lt) ∙ ap (map flown_of) (sym (declared_in_window frames persist depth w))

    pub numbers : numbered (window_at frames persist depth persisted w) ≡ window (families_of frames) (flown (frames_in depth frames w) persist) (persisted_bytes persisted)
    numbers = flight_numbers frames persist depth F persisted H w lt ∙ ap (λ fs. window (families_of frames) fs (persisted_bytes persisted)) part

    pub units_are : (numbered (window_at frames persist depth persisted w)).exports ≡ exported_units persist (frames_in depth frames w)
    units_are = ap (λ f. f.exports) numbers ∙ window_units (families_of frames) (frames_in depth frames w) persist (persisted_bytes persisted) bytes_many

-- each place of an export is one of the window's
pub export_within : (frames : List Frame) (persist : List (List ℕ)) (depth : ℕ) → Fly frames persist depth → (i k : ℕ) (frame : Frame) → slice_get frames i ≡ Some frame → k < length (numbered frame).exports → (persisted : List (Option (List ℕ))) → ArePersisted frames persist persisted → export_place frames depth i k < length (numbered (window_at frames persist depth persisted (i / depth))).exports
export_within frames persist depth F i k frame at lt persisted H =
    let w = i / depth in
    let mine : List Frame = frames_in depth frames w in
    let all : length (numbered (window_at frames persist depth persisted w)).exports ≡ length (own_units 0 mine) + length (others (own_units 0 mine) (last_units persist mine)) =
    ap length (units_are frames persist depth F persisted H w (counted frames depth i frame at F.deep)) ∙ length-append (own_units 0 mine) (others (own_units 0 mine) (last_units persist mine)) in
    let own : length (own_units 0 mine) ≡ exports_in mine = own_many 0 mine in
    let less : exports_in (take (i % depth) (drop (w * depth) frames)) + length (numbered frame).exports ≤ exports_in mine = enough (drop (w * depth) frames) (i % depth) depth frame (in_window frames depth i frame at F.deep) (near frames depth i frame at F.deep) in
    omega (arith, lt, all, own, less)

-- so it is for an export of a frame that is there
pub export_inside : (frames : List Frame) (persist : List (List ℕ)) (depth : ℕ) → Fly frames persist depth → (i k : ℕ) → i < length frames → IfSome (slice_get frames i) (λ f. k < length (numbered f).exports) → (persisted : List (Option (List ℕ))) → ArePersisted frames persist persisted → export_place frames depth i k < length (numbered (window_at frames persist depth persisted (i / depth))).exports
export_inside frames persist depth F i k lt within persisted H = by_frame (slice_get frames i) refl within
  where
    by_frame : (o : Option Frame) → slice_get frames i ≡ o → IfSome o (λ f. k < length (numbered f).exports) → export_place frames depth i k < length (numbered (window_at frames persist depth persisted (i / depth))).exports
    by_frame None none within = let past = nothing_past frames i none in absurd (omega (arith, lt, past))
    by_frame (Some f) is within = export_within frames persist depth F i k f is within persisted H

pub export_small : (frames : List Frame) (persist : List (List ℕ)) (depth : ℕ) → Fly frames persist depth → (i k : ℕ) → i < length frames → IfSome (slice_get frames i) (λ f. k < length (numbered f).exports) → k < 32
export_small frames persist depth F i k lt within = by_frame (slice_get frames i) refl within
  where
    by_frame : (o : Option Frame) → slice_get frames i ≡ o → IfSome o (λ f. k < length (numbered f).exports) → k < 32
    by_frame None none within = let past = nothing_past frames i none in absurd (omega (arith, lt, past))
    by_frame (Some f) is within =
        let few : length (numbered f).exports ≤ 32 = (good f (none_broken f (entry_of (λ x. first_fault x ≡ None) frames i f F.good is))).few_exports in
        omega (arith, within, few)

-- PLACES OF UNITS

place_got : (unit i p : ℕ) (xs : List ℕ) → place_from unit i xs ≡ Some p → (i ≤ p) × (slice_get xs (p - i) ≡ Some unit)
place_got unit i p [] is = absurd cc
place_got unit i p (x ∷ xs) is = by_test (x == unit) refl is (place_got unit (suc i) p xs)
  where
    by_test : (b : Bool) → (x == unit) ≡ b → (if b then Some i else place_from unit (suc i) xs) ≡ Some p → (place_from unit (suc i) xs ≡ Some p → (suc i ≤ p) × (slice_get xs (p - suc i) ≡ Some unit)) → (i ≤ p) × (slice_get (x ∷ xs) (p - i) ≡ Some unit)
    by_test true same here rest =
        let e : i ≡ p = cc in
        let z : p - i ≡ 0 = omega (arith, e) in
        (omega (arith, e), ap (slice_get (x ∷ xs)) z ∙ ap (λ y. Some y) (eqb-true x unit same))
    by_test false other here rest =
        let got = rest here in
        let le = got.0 in
        let e : p - i ≡ suc (p - suc i) = omega (arith, le) in
        (omega (arith, le), ap (slice_get (x ∷ xs)) e ∙ got.1)

pub found_at : (unit p : ℕ) (xs : List ℕ) → place_from unit 0 xs ≡ Some p → slice_get xs p ≡ Some unit
found_at unit p xs is = let z : p - 0 ≡ p = omega arith in sym (ap (slice_get xs) z) ∙ (place_got unit 0 p xs is).1

placed : (unit : ℕ) (xs : List ℕ) → list_any (λ x. x == unit) xs ≡ true → is_some (place_from unit 0 xs) ≡ true
placed unit xs there = sym (any_placed unit 0 xs) ∙ there

place_within : (persist : List (List ℕ)) (frames : List Frame) (name : List ℕ) (p : ℕ) → place_under persist frames name ≡ Some p → p < length (exported_units persist frames)
place_within persist frames name p is = by_unit (last_unit 0 name None frames) is
  where
    by_unit : (unit : Option ℕ) → option_and_then (λ u. place_from u 0 (exported_units persist frames)) unit ≡ Some p → p < length (exported_units persist frames)
    by_unit None none = absurd cc
    by_unit (Some unit) got = slice_get_within (exported_units persist frames) p unit (found_at unit p (exported_units persist frames) got)

pub hold_within : (frames : List Frame) (persist : List (List ℕ)) (depth : ℕ) → Fly frames persist depth → (w k p : ℕ) → w < window_count depth frames → persisted_export frames persist depth w k ≡ Some p → (persisted : List (Option (List ℕ))) → ArePersisted frames persist persisted → p < length (numbered (window_at frames persist depth persisted w)).exports
hold_within frames persist depth F w k p lt is persisted H = subst (λ xs. p < length xs) (sym (units_are frames persist depth F persisted H w lt)) (by_name (slice_get persist k) is)
  where
    by_name : (name : Option (List ℕ)) → option_and_then (place_under persist (frames_in depth frames w)) name ≡ Some p → p < length (exported_units persist (frames_in depth frames w))
    by_name None none = absurd cc
    by_name (Some name) got = place_within persist (frames_in depth frames w) name p got

pub hold_inside : (frames : List Frame) (persist : List (List ℕ)) (depth : ℕ) → Fly frames persist depth → (w k : ℕ) → w < window_count depth frames → (place : Option ℕ) → place ≡ persisted_export frames persist depth w k → (persisted : List (Option (List ℕ))) → ArePersisted frames persist persisted → IfSome place (λ p. p < length (numbered (window_at frames persist depth persisted w)).exports)
hold_inside frames persist depth F w k lt None is persisted H = tt
hold_inside frames persist depth F w k lt (Some p) is persisted H = hold_within frames persist depth F w k p lt (sym is) persisted H

-- WHAT IS HELD HAS ITS SIZES

module _ (frames : List Frame) (persist : List (List ℕ)) (depth : ℕ) (F : Fly frames persist depth) where
  sized_after : (i : ℕ) → map length (held_at frames persist i) ≡ sizes_of frames persist
  sized_after i =
      let T = declared_together (queues_of frames) (sizes_of frames persist) (all_declared frames persist) (persisted_bytes (first_bytes frames persist)) (all_flying frames persist depth F (first_bytes frames persist) (first_sized frames persist depth F)) in
      let sizes = sizes_of frames persist in
      let families = families_of frames in
      still_sized families sizes (take i (flown frames persist)) (each (Flies families sizes) (take i (flown frames persist)) (All-take (Flies families sizes) i (flown frames persist) T.each)) (persisted_bytes (first_bytes frames persist)) T.sized

-- A NAME THAT NO FRAME HAS IS NOT LEFT

abbrev Lacks : List ℕ → Frame → Type 0
Lacks name f = holder_in f.resources name ≡ None

lasts_none : (name : List ℕ) (n : ℕ) (frames : List Frame) → AllByRecursion (Lacks name) frames → last_unit n name None frames ≡ None
lasts_none name n [] all = refl
lasts_none name n (f ∷ frames) all =
    ap (λ holder. last_unit (n + unit_count f) name (option_or (option_map (λ k. n + unit_at f.resources k) holder) None) frames) all.0
    ∙ lasts_none name (n + unit_count f) frames all.1

lacking : (name : List ℕ) (frames : List Frame) → ((k : ℕ) (f : Frame) → slice_get frames k ≡ Some f → Lacks name f) → AllByRecursion (Lacks name) frames
lacking name [] none = tt
lacking name (f ∷ frames) none = (none 0 f refl, lacking name frames (λ k x is. none (suc k) x is))

pub not_left : (frames : List Frame) (depth w : ℕ) (name : List ℕ) → size_in frames name ≡ None → last_unit 0 name None (frames_in depth frames w) ≡ None
not_left frames depth w name none =
    let all = all_of (Lacks name) frames (lacking name frames (λ k f is. map_none (size_of f.resources) (holder_in f.resources name) (none_from (size_at name) frames none k f is))) in
    lasts_none name 0 (frames_in depth frames w) (each (Lacks name) (frames_in depth frames w) (All-take (Lacks name) depth (drop (w * depth) frames) (All-drop (Lacks name) (w * depth) frames all)))

-- ONE WINDOW

module _ (frames : List Frame) (persist : List (List ℕ)) (depth : ℕ) (F : Fly frames persist depth) (w : ℕ) (lt : w < window_count depth frames) (persisted : List (Option (List ℕ))) (H : IsPersisted frames persist (w * depth) persisted) (bytes : ℕ → List ℕ) (read : AreMeant (numbered (window_at frames persist depth persisted w)) bytes) where
  abbrev mine : List Frame
  mine = frames_in depth frames w

  abbrev queues : List Family
  queues = families_of frames

  abbrev W : NumberedFrame
  W = window queues (flown mine persist) (persisted_bytes persisted)

  abbrev target : List (List ℕ)
  target = held_at frames persist (suc w * depth)

  read_window : AreMeant W bytes
  read_window = subst (λ f. AreMeant f bytes) (numbers frames persist depth F persisted H.sized w lt) read

  turn : MeansInTurn queues depth (flown frames persist) (persisted_bytes (first_bytes frames persist)) w
  turn = flight_in_turn frames persist depth F (first_bytes frames persist) (first_sized frames persist depth F) w lt

  mine_are : frames_in depth (flown frames persist) w ≡ flown mine persist
  mine_are = part frames persist depth F persisted H.sized w lt

  -- AN EXPORT

  module _ (j : ℕ) (near : j < depth) (frame : Frame) (at : slice_get frames (w * depth + j) ≡ Some frame) where
    flown_at : slice_get (flown frames persist) (w * depth + j) ≡ Some (flown_of (declared_in persist frame))
    flown_at = slice_get-map flown_of (all_declared frames persist) (w * depth + j) ∙ ap (option_map flown_of) (slice_get-map (declared_in persist) frames (w * depth + j) ∙ ap (option_map (declared_in persist)) at)

    export_at : (k unit : ℕ) → slice_get (numbered frame).exports k ≡ Some unit → IsExport queues (flown mine persist) (persisted_bytes persisted) j k unit (meaning (alone frames persist (w * depth + j) frame) unit)
    export_at k unit is =
        subst (λ h. IsExport queues (flown mine persist) h j k unit (meaning (alone frames persist (w * depth + j) frame) unit)) (sym H.bytes)
        (subst (λ fs. IsExport queues fs (held_at frames persist (w * depth)) j k unit (meaning (alone frames persist (w * depth + j) frame) unit)) mine_are
        (turn.exports j k (flown_of (declared_in persist frame)) unit near flown_at is))

    before_same : exports_before (flown mine persist) j ≡ exports_in (take j (drop (w * depth) frames))
    before_same = before_in persist mine j ∙ ap exports_in (take-take j depth (drop (w * depth) frames) (omega (arith, near)))

    pub export_read : (k unit : ℕ) → slice_get (numbered frame).exports k ≡ Some unit → meaning (alone frames persist (w * depth + j) frame) unit ≡ Some (bytes (exports_in (take j (drop (w * depth) frames)) + k))
    export_read k unit is =
        let E = export_at k unit is in
        sym E.means ∙ read_window (exports_before (flown mine persist) j + k) (units_before (flown mine persist) j + unit) E.place ∙ ap (λ n. Some (bytes (n + k))) before_same

  -- WHAT IS LEFT

  abbrev Left : ℕ → List ℕ → Type 0
  Left = IsLeft queues (flown mine persist) (persisted_bytes persisted)

  are_left : AreLeft Left (sources_from (persisted_bytes persisted) (lasts persist mine)) target
  are_left =
      subst (λ ss. AreLeft Left ss target) (sources_at mine persist (persisted_bytes persisted) (bytes_many frames persist depth F persisted H.sized))
      (subst (λ h. AreLeft (IsLeft queues (flown mine persist) h) (last_sources 0 (given h) (flown mine persist)) target) (sym H.bytes)
      (subst (λ fs. AreLeft (IsLeft queues fs (held_at frames persist (w * depth))) (last_sources 0 (given (held_at frames persist (w * depth))) fs) target) mine_are turn.left))

  exports_are : W.exports ≡ exported_units persist mine
  exports_are = window_units queues mine persist (persisted_bytes persisted) (bytes_many frames persist depth F persisted H.sized)

  -- what is read at the place of a unit that is left
  read_at : (unit p : ℕ) (t : List ℕ) → Left unit t → place_from unit 0 (exported_units persist mine) ≡ Some p → bytes p ≡ t
  read_at unit p t L is =
      let got : slice_get W.exports p ≡ Some unit = ap (λ xs. slice_get xs p) exports_are ∙ found_at unit p (exported_units persist mine) is in
      let same : Some (bytes p) ≡ Some t = sym (read_window p unit got) ∙ L.means in
      cc

  module _ (name : List ℕ) (old : Option (List ℕ)) (t : List ℕ) (sized : option_map length old ≡ size_in frames name) (long : length t ≡ unwrap_or (size_in frames name) 0) where
    abbrev IsNext : Option (List ℕ) → Type 0
    IsNext new = (unwrap_or new [] ≡ t) × (option_map length new ≡ size_in frames name)

    by_size : (unit : ℕ) (o : Option ℕ) → size_in frames name ≡ o → last_unit 0 name None mine ≡ Some unit → Some (length t) ≡ size_in frames name
    by_size unit None none some = let e : Some unit ≡ None = sym some ∙ not_left frames depth w name none in absurd cc
    by_size unit (Some s) is some = ap (λ n. Some n) (long ∙ ap (λ o. unwrap_or o 0) is) ∙ sym is

    by_place : (unit : ℕ) → last_unit 0 name None mine ≡ Some unit → Left unit t → (place : Option ℕ) → place_from unit 0 (exported_units persist mine) ≡ place → is_some place ≡ true → IsNext (held_one bytes place old)
    by_place unit last L None is there = absurd cc
    by_place unit last L (Some p) is there =
        let same = read_at unit p t L is in
        (same, ap (λ b. Some (length b)) same ∙ by_size unit (size_in frames name) refl last)

    by_unit : (unit : Option ℕ) → last_unit 0 name None mine ≡ unit → AreLeft Left (source_from (unwrap_or old []) unit ∷ []) (t ∷ []) → IsNext (held_one bytes (option_and_then (λ u. place_from u 0 (exported_units persist mine)) unit) old)
    by_unit None last left = (sym left.0, sized)
    by_unit (Some unit) last left =
        let there : is_some (place_from unit 0 (exported_units persist mine)) ≡ true = placed unit (exported_units persist mine) (sym (ap (λ xs. list_any (λ x. x == unit) xs) exports_are) ∙ left.0.exported) in
        by_place unit last left.0 (place_from unit 0 (exported_units persist mine)) refl there

  left_first : (old : List ℕ) (unit : Option ℕ) (sources : List Source) (t : List ℕ) (ts : List (List ℕ)) → AreLeft Left (source_from old unit ∷ sources) (t ∷ ts) → AreLeft Left (source_from old unit ∷ []) (t ∷ [])
  left_first old None sources t ts left = (left.0, tt)
  left_first old (Some unit) sources t ts left = (left.0, tt)

  left_rest : (old : List ℕ) (unit : Option ℕ) (sources : List Source) (t : List ℕ) (ts : List (List ℕ)) → AreLeft Left (source_from old unit ∷ sources) (t ∷ ts) → AreLeft Left sources ts
  left_rest old None sources t ts left = left.1
  left_rest old (Some unit) sources t ts left = left.1

  next_from : (names : List (List ℕ)) (olds : List (Option (List ℕ))) (ts : List (List ℕ)) (places : ℕ → Option ℕ) (k : ℕ) → ((j : ℕ) (name : List ℕ) → slice_get names j ≡ Some name → places (k + j) ≡ place_under persist mine name) → ArePersisted frames names olds → map length ts ≡ sizes_of frames names → AreLeft Left (sources_from (persisted_bytes olds) (lasts names mine)) ts → (persisted_bytes (persisted_next places bytes k olds) ≡ ts) × ArePersisted frames names (persisted_next places bytes k olds)
  next_from [] [] [] places k at persisted long left = (refl, refl)
  next_from [] [] (t ∷ ts) places k at persisted long left = absurd cc
  next_from [] (old ∷ olds) ts places k at persisted long left = absurd cc
  next_from (name ∷ names) [] ts places k at persisted long left = absurd cc
  next_from (name ∷ names) (old ∷ olds) [] places k at persisted long left = absurd cc
  next_from (name ∷ names) (old ∷ olds) (t ∷ ts) places k at persisted long left =
      let start : k ≡ k + 0 = omega arith in
      let here : places k ≡ place_under persist mine name = ap places start ∙ at 0 name refl in
      let sized : option_map length old ≡ size_in frames name = cc in
      let sized_rest : ArePersisted frames names olds = cc in
      let one_long : length t ≡ unwrap_or (size_in frames name) 0 = cc in
      let rest_long : map length ts ≡ sizes_of frames names = cc in
      let unit = last_unit 0 name None mine in
      let sources = sources_from (persisted_bytes olds) (lasts names mine) in
      let first = subst (λ p. IsNext name old t sized one_long (held_one bytes p old)) (sym here) (by_unit name old t sized one_long unit refl (left_first (unwrap_or old []) unit sources t ts left)) in
      let rest = next_from names olds ts places (suc k) (λ j n is. let e : suc k + j ≡ k + suc j = omega arith in ap places e ∙ at (suc j) n is) sized_rest rest_long (left_rest (unwrap_or old []) unit sources t ts left) in
      (ap₂ (λ x xs. x ∷ xs) first.0 rest.0, ap₂ (λ x xs. x ∷ xs) first.1 rest.1)

  pub next_held : IsPersisted frames persist (suc w * depth) (persisted_next (persisted_export frames persist depth w) bytes 0 persisted)
  next_held =
      let places = persisted_export frames persist depth w in
      let both = next_from persist persisted target places 0 (λ j name is. let z : 0 + j ≡ j = omega arith in ap places z ∙ ap (option_and_then (place_under persist mine)) is) H.sized (sized_after frames persist depth F (suc w * depth)) are_left in
      record { sized = both.1; bytes = both.0 }

-- ALL WINDOWS

pub export_alone : (frames : List Frame) (persist : List (List ℕ)) (depth : ℕ) → Fly frames persist depth → (i : ℕ) (frame : Frame) → slice_get frames i ≡ Some frame → (persisted : List (Option (List ℕ))) → IsPersisted frames persist ((i / depth) * depth) persisted → (bytes : ℕ → List ℕ) → AreMeant (numbered (window_at frames persist depth persisted (i / depth))) bytes → AreMeant (alone frames persist i frame) (λ k. bytes (export_place frames depth i k))
export_alone frames persist depth F i frame at persisted H bytes read = λ k unit is.
    let w = i / depth in
    let here : slice_get frames (w * depth + i % depth) ≡ Some frame = ap (slice_get frames) (split frames depth i frame at F.deep) ∙ at in
    subst (λ n. meaning (alone frames persist n frame) unit ≡ Some (bytes (export_place frames depth i k))) (split frames depth i frame at F.deep)
    (export_read frames persist depth F w (counted frames depth i frame at F.deep) persisted H bytes read (i % depth) (near frames depth i frame at F.deep) frame here k unit is)

module _ (frames : List Frame) (persist : List (List ℕ)) (depth : ℕ) (F : Fly frames persist depth) (persisted : ℕ → List (Option (List ℕ))) (bytes : ℕ → ℕ → List ℕ) (R : RunInTurn frames persist depth persisted bytes) where
  each_held : (w : ℕ) → w ≤ window_count depth frames → IsPersisted frames persist (w * depth) (persisted w)
  each_held zero le = let z : 0 ≡ 0 * depth = omega arith in subst (λ n. IsPersisted frames persist n (persisted 0)) z (subst (IsPersisted frames persist 0) (sym R.first) (first_is_held frames persist depth F))
  each_held (suc w) le = subst (IsPersisted frames persist (suc w * depth)) (sym (R.next w (omega (arith, le)))) (next_held frames persist depth F w (omega (arith, le)) (persisted w) (each_held w (omega (arith, le))) (bytes w) (R.read w (omega (arith, le))))

  pub all_alone : AreAlone frames persist depth bytes
  all_alone = λ i frame at.
      let lt : i / depth < window_count depth frames = counted frames depth i frame at F.deep in
      export_alone frames persist depth F i frame at (persisted (i / depth)) (each_held (i / depth) (omega (arith, lt))) (bytes (i / depth)) (R.read (i / depth) lt)
