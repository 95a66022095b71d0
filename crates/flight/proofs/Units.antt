-- Units and their places, frame after frame.
use Rattle.std.proofs.Common.{◌≡◌, ◌≢◌, ℕ, zero, suc, ◌+◌, ◌-◌, ◌*◌, ◌/◌, ◌%◌, ◌<◌, ◌≤◌, ◌==◌, ◌||◌, ◌++◌, not, List, [], ◌∷◌, length, map, get_or, slice_get, drop, take, cond, Bool, true, false, Option, Some, None, is_some, if◌then◌else◌, refl, sym, ap, ap₂, subst, ◌∙◌, add-one, eq-eqb, arith}
use Rattle.std.specs.Prelude.{IfSome, option_and_then, option_to_list}
use Rattle.std.specs.List.{All, flat_map, list_any, slice_range}
use Rattle.std.specs.Option.{option_map, option_map_or, option_or}
use Rattle.std.proofs.Math.Nat.{div-mul-le_self, mod-eq-sub-div-mul, mod-lt}
use Rattle.std.proofs.lemmas.Bool.{ne_eqb}
use Rattle.std.proofs.lemmas.List.{length-append, length-map, length-replicate}
use Rattle.flight.proofs.Frames.{past}
use Rattle.flight.proofs.Walks.{at_place}
use Rattle.flight.specs.Internal.Units.{other_unit, unless_own}
use Rattle.flight.specs.Exported.{export_place, exported_units, exports_in, has_name, persisted_export, last_unit, last_units, own_units, place_from, place_under, unit_count, unit_under}
use Rattle.frame.specs.Numbered.{numbered}
use Rattle.frame.specs.Units.{unit_from, units_from}
use Rattle.frame.specs.declared.frame.Frame.{Frame}
use Rattle.frame.specs.declared.frame.Resource.{Resource}
use Rattle.law_window.specs.Declared.{holder_in, unit_at}
use Rattle.law_window.specs.InTurn.{frames_in}
use Rattle.law_window.specs.Window.{others}

-- HOW MANY EXPORTS

pub count_on : (frames : List Frame) (i : ℕ) (f : Frame) (count exports total : ℕ) → i < length frames → f ≡ get_or frames i f → exports ≡ length (numbered f).exports → count + exports_in (drop i frames) ≡ total → (count + exports) + exports_in (drop (i + 1) frames) ≡ total
count_on frames i f count exports total lt is many so_far =
    let here : exports_in (drop i frames) ≡ length (numbered f).exports + exports_in (drop (suc i) frames) = ap exports_in (at_place frames i f lt is) in
    rw add-one (omega (arith, here, many, so_far))

pub count_end : (frames : List Frame) (i count total : ℕ) → length frames ≤ i → i ≤ length frames → count + exports_in (drop i frames) ≡ total → count ≡ total
count_end frames i count total far near so_far =
    let none : exports_in (drop i frames) ≡ 0 = ap exports_in (past frames i far near) in
    omega (arith, none, so_far)

-- a window begins before each of its frames, at most seven before
pub begins_before : (i depth : ℕ) → (i / depth) * depth ≤ i
begins_before i depth = div-mul-le_self i depth

pub few_before : (i depth : ℕ) → 1 ≤ depth → depth ≤ 8 → i - (i / depth) * depth ≤ 8
few_before i depth deep shallow =
    let less : i % depth < depth = mod-lt i deep in
    let same : i % depth ≡ i - (i / depth) * depth = mod-eq-sub-div-mul i depth in
    omega (arith, less, same, shallow)

pub placed : (frames : List Frame) (depth i k n : ℕ) → n ≡ exports_in (slice_range frames ((i / depth) * depth) i) → n + k ≡ export_place frames depth i k
placed frames depth i k n is = ap (λ m. m + k) (is ∙ ap (λ m. exports_in (take m (drop ((i / depth) * depth) frames))) (sym (mod-eq-sub-div-mul i depth)))

-- UNITS OF RESOURCES

pub none_before : (rs : List Resource) → 0 ≡ unit_at rs 0
none_before [] = refl
none_before (r ∷ rs) = refl

unit_next : (rs : List Resource) (i : ℕ) (r : Resource) → i < length rs → r ≡ get_or rs i r → unit_at rs (suc i) ≡ unit_at rs i + r.layers
unit_next [] i r lt is = absurd (omega arith)
unit_next (x ∷ rs) zero r lt is =
    let same : x.layers ≡ r.layers = ap (λ y. y.layers) (sym is) in
    let none : 0 ≡ unit_at rs 0 = none_before rs in
    omega (arith, same, none)
unit_next (x ∷ rs) (suc i) r lt is =
    let rest : unit_at rs (suc i) ≡ unit_at rs i + r.layers = unit_next rs i r (omega arith) is in
    omega (arith, rest)

pub units_on : (rs : List Resource) (i : ℕ) (r : Resource) (unit unit' : ℕ) → i < length rs → r ≡ get_or rs i r → unit ≡ unit_at rs i → unit' ≡ unit + r.layers → unit' ≡ unit_at rs (i + 1)
units_on rs i r unit unit' lt is so_far grows = rw add-one (grows ∙ ap (λ n. n + r.layers) so_far ∙ sym (unit_next rs i r lt is))

pub units_within : (rs : List Resource) (i : ℕ) → unit_at rs i ≤ length (flat_map units_from rs)
units_within [] i = omega arith
units_within (r ∷ rs) zero = omega arith
units_within (r ∷ rs) (suc i) =
    let rest : unit_at rs i ≤ length (flat_map units_from rs) = units_within rs i in
    let many : length (units_from r ++ flat_map units_from rs) ≡ length (units_from r) + length (flat_map units_from rs) = length-append (units_from r) (flat_map units_from rs) in
    let own : length (units_from r) ≡ r.layers = length-replicate r.layers (unit_from r) in
    omega (arith, rest, many, own)

pub sum_within : (rs : List Resource) (i : ℕ) (r : Resource) (unit : ℕ) → i < length rs → r ≡ get_or rs i r → unit ≡ unit_at rs i → unit + r.layers ≤ length (flat_map units_from rs)
sum_within rs i r unit lt is so_far =
    let next : unit_at rs (suc i) ≡ unit_at rs i + r.layers = unit_next rs i r lt is in
    let within : unit_at rs (suc i) ≤ length (flat_map units_from rs) = units_within rs (suc i) in
    omega (arith, next, within, so_far)

-- UNITS UNDER NAMES

pub last_on : (name : List ℕ) (frames : List Frame) (i : ℕ) (f : Frame) (first first' : ℕ) (unit unit' total : Option ℕ) → i < length frames → f ≡ get_or frames i f → unit' ≡ option_or (unit_under first name f) unit → first' ≡ first + unit_count f → last_unit first name unit (drop i frames) ≡ total → last_unit first' name unit' (drop (i + 1) frames) ≡ total
last_on name frames i f first first' unit unit' total lt is gives grows so_far =
    rw add-one (ap₂ (λ n u. last_unit n name u (drop (suc i) frames)) grows gives ∙ sym (ap (last_unit first name unit) (at_place frames i f lt is)) ∙ so_far)

pub last_end : (name : List ℕ) (frames : List Frame) (i first : ℕ) (unit total : Option ℕ) → length frames ≤ i → i ≤ length frames → last_unit first name unit (drop i frames) ≡ total → unit ≡ total
last_end name frames i first unit total far near so_far = sym (ap (last_unit first name unit) (past frames i far near)) ∙ so_far

-- PLACES

-- exported units are few
pub inside : (exports : List ℕ) (n : ℕ) → n ≤ 256 → All (λ x. x < n) exports → All (λ x. x ≤ 256) exports
inside exports n few all = λ i d lt. let less : get_or exports i d < n = all i d lt in omega (arith, few, less)

pub small_at : (exports : List ℕ) (k x : ℕ) → All (λ y. y ≤ 256) exports → k < length exports → x ≡ get_or exports k x → x ≤ 256
small_at exports k x all lt is = subst (λ y. y ≤ 256) (sym is) (all k x lt)

pub place_append : (unit i : ℕ) (xs ys : List ℕ) → place_from unit i (xs ++ ys) ≡ option_or (place_from unit i xs) (place_from unit (i + length xs) ys)
place_append unit i [] ys = let e : i ≡ i + 0 = omega arith in ap (λ n. place_from unit n ys) e
place_append unit i (x ∷ xs) ys = by_test (x == unit) (place_append unit (suc i) xs ys)
  where
    by_test : (b : Bool) → place_from unit (suc i) (xs ++ ys) ≡ option_or (place_from unit (suc i) xs) (place_from unit (suc i + length xs) ys) → (if b then Some i else place_from unit (suc i) (xs ++ ys)) ≡ option_or (if b then Some i else place_from unit (suc i) xs) (place_from unit (i + suc (length xs)) ys)
    by_test true rest = refl
    by_test false rest = let e : suc i + length xs ≡ i + suc (length xs) = omega arith in rest ∙ ap (λ n. option_or (place_from unit (suc i) xs) (place_from unit n ys)) e

place_at : (unit first place k : ℕ) (xs : List ℕ) (x : ℕ) → k < length xs → x ≡ get_or xs k x → place_from unit (place + k) (map (λ y. first + y) (drop k xs)) ≡ (if first + x == unit then Some (place + k) else place_from unit (place + suc k) (map (λ y. first + y) (drop (suc k) xs)))
place_at unit first place k xs x lt is =
    let e : suc (place + k) ≡ place + suc k = omega arith in
    ap (λ ys. place_from unit (place + k) (map (λ y. first + y) ys)) (at_place xs k x lt is)
    ∙ ap (λ n. if first + x == unit then Some (place + k) else place_from unit n (map (λ y. first + y) (drop (suc k) xs))) e

pub place_on : (unit first place k : ℕ) (xs : List ℕ) (x : ℕ) (total : Option ℕ) → k < length xs → x ≡ get_or xs k x → first + x ≢ unit → place_from unit (place + k) (map (λ y. first + y) (drop k xs)) ≡ total → place_from unit (place + (k + 1)) (map (λ y. first + y) (drop (k + 1) xs)) ≡ total
place_on unit first place k xs x total lt is other so_far =
    rw add-one (sym (place_at unit first place k xs x lt is ∙ ap (λ b. if b then Some (place + k) else place_from unit (place + suc k) (map (λ y. first + y) (drop (suc k) xs))) (ne_eqb (first + x) unit other)) ∙ so_far)

pub place_found : (unit first place k : ℕ) (xs : List ℕ) (x : ℕ) (total : Option ℕ) → k < length xs → x ≡ get_or xs k x → first + x ≡ unit → place_from unit (place + k) (map (λ y. first + y) (drop k xs)) ≡ total → Some (place + k) ≡ total
place_found unit first place k xs x total lt is same so_far =
    sym (place_at unit first place k xs x lt is ∙ ap (λ b. if b then Some (place + k) else place_from unit (place + suc k) (map (λ y. first + y) (drop (suc k) xs))) (eq-eqb (first + x) unit same)) ∙ so_far

pub place_end : (unit first place k : ℕ) (xs : List ℕ) (total : Option ℕ) → length xs ≤ k → k ≤ length xs → place_from unit (place + k) (map (λ y. first + y) (drop k xs)) ≡ total → None ≡ total
place_end unit first place k xs total far near so_far = sym (ap (λ ys. place_from unit (place + k) (map (λ y. first + y) ys)) (none_left xs k far near)) ∙ so_far
  where
    none_left : (ys : List ℕ) (j : ℕ) → length ys ≤ j → j ≤ length ys → drop j ys ≡ []
    none_left [] zero a b = refl
    none_left [] (suc j) a b = refl
    none_left (y ∷ ys) zero a b = absurd (omega arith)
    none_left (y ∷ ys) (suc j) a b = none_left ys j (omega arith) (omega arith)

-- AMONG THE FRAMES' OWN EXPORTS

abbrev moved_exports : ℕ → Frame → List ℕ
moved_exports first f = map (λ x. first + x) (numbered f).exports

own_at : (unit : ℕ) (frames : List Frame) (i : ℕ) (f : Frame) (first place : ℕ) → i < length frames → f ≡ get_or frames i f → place_from unit place (own_units first (drop i frames)) ≡ option_or (place_from unit place (moved_exports first f)) (place_from unit (place + length (numbered f).exports) (own_units (first + unit_count f) (drop (suc i) frames)))
own_at unit frames i f first place lt is =
    ap (λ fs. place_from unit place (own_units first fs)) (at_place frames i f lt is)
    ∙ place_append unit place (moved_exports first f) (own_units (first + unit_count f) (drop (suc i) frames))
    ∙ ap (λ n. option_or (place_from unit place (moved_exports first f)) (place_from unit (place + n) (own_units (first + unit_count f) (drop (suc i) frames)))) (length-map (numbered f).exports (λ x. first + x))

pub own_on : (unit : ℕ) (frames : List Frame) (i : ℕ) (f : Frame) (first place units exports : ℕ) (found total : Option ℕ) → i < length frames → f ≡ get_or frames i f → units ≡ unit_count f → exports ≡ length (numbered f).exports → found ≡ place_from unit place (map (λ x. first + x) (numbered f).exports) → found ≡ None → place_from unit place (own_units first (drop i frames)) ≡ total → place_from unit (place + exports) (own_units (first + units) (drop (i + 1) frames)) ≡ total
own_on unit frames i f first place units exports found total lt is units_are exports_are gives none so_far =
    rw add-one (ap₂ (λ n m. place_from unit (place + n) (own_units (first + m) (drop (suc i) frames))) exports_are units_are
    ∙ sym (own_at unit frames i f first place lt is ∙ ap (λ o. option_or o (place_from unit (place + length (numbered f).exports) (own_units (first + unit_count f) (drop (suc i) frames)))) (sym gives ∙ none))
    ∙ so_far)

pub own_found : (unit : ℕ) (frames : List Frame) (i : ℕ) (f : Frame) (first place : ℕ) (found : ℕ) (total : Option ℕ) → i < length frames → f ≡ get_or frames i f → Some found ≡ place_from unit place (map (λ x. first + x) (numbered f).exports) → place_from unit place (own_units first (drop i frames)) ≡ total → Some found ≡ total
own_found unit frames i f first place found total lt is gives so_far =
    ap (λ o. option_or o (place_from unit (place + length (numbered f).exports) (own_units (first + unit_count f) (drop (suc i) frames)))) gives ∙ sym (own_at unit frames i f first place lt is) ∙ so_far

pub own_end : (unit : ℕ) (frames : List Frame) (i first place : ℕ) (total : Option ℕ) → length frames ≤ i → i ≤ length frames → place_from unit place (own_units first (drop i frames)) ≡ total → None ≡ total
own_end unit frames i first place total far near so_far = sym (ap (λ fs. place_from unit place (own_units first fs)) (past frames i far near)) ∙ so_far

-- AMONG THE OTHERS

pub any_placed : (unit i : ℕ) (xs : List ℕ) → list_any (λ x. x == unit) xs ≡ is_some (place_from unit i xs)
any_placed unit i [] = refl
any_placed unit i (x ∷ xs) = by_test (x == unit) (any_placed unit (suc i) xs)
  where
    by_test : (b : Bool) → list_any (λ y. y == unit) xs ≡ is_some (place_from unit (suc i) xs) → (b || list_any (λ y. y == unit) xs) ≡ is_some (if b then Some i else place_from unit (suc i) xs)
    by_test true rest = refl
    by_test false rest = rest

kept_unless : (own : List ℕ) (place : Option ℕ) (unit : ℕ) (rest : List ℕ) → list_any (λ x. x == unit) own ≡ is_some place → others own (unit ∷ rest) ≡ option_to_list (option_map_or (λ (p : ℕ). None) place (Some unit)) ++ others own rest
kept_unless own None unit rest is = ap (λ b. cond (not b) (unit ∷ others own rest) (others own rest)) is
kept_unless own (Some p) unit rest is = ap (λ b. cond (not b) (unit ∷ others own rest) (others own rest)) is

others_first : (frames : List Frame) (unit : Option ℕ) (rest : List ℕ) → others (own_units 0 frames) (option_to_list unit ++ rest) ≡ option_to_list (option_and_then (unless_own frames) unit) ++ others (own_units 0 frames) rest
others_first frames None rest = refl
others_first frames (Some unit) rest = kept_unless (own_units 0 frames) (place_from unit 0 (own_units 0 frames)) unit rest (any_placed unit 0 (own_units 0 frames))

others_at : (frames : List Frame) (persist : List (List ℕ)) (k : ℕ) (name : List ℕ) → k < length persist → name ≡ get_or persist k name → others (own_units 0 frames) (last_units (drop k persist) frames) ≡ option_to_list (other_unit frames name) ++ others (own_units 0 frames) (last_units (drop (suc k) persist) frames)
others_at frames persist k name lt is = ap (λ ns. others (own_units 0 frames) (last_units ns frames)) (at_place persist k name lt is) ∙ others_first frames (last_unit 0 name None frames) (last_units (drop (suc k) persist) frames)

abbrev others_from : List Frame → List (List ℕ) → ℕ → List ℕ
others_from frames persist k = others (own_units 0 frames) (last_units (drop k persist) frames)

passed : (unit place count : ℕ) (other : Option ℕ) (rest : List ℕ) → option_map_or (λ x. x == unit) other false ≡ false → count ≡ length (option_to_list other) → place_from unit (place + count) rest ≡ place_from unit place (option_to_list other ++ rest)
passed unit place count None rest apart is = let e : place + count ≡ place = omega (arith, is) in ap (λ n. place_from unit n rest) e
passed unit place count (Some x) rest apart is =
    let e : place + count ≡ suc place = omega (arith, is) in
    ap (λ n. place_from unit n rest) e ∙ sym (ap (λ b. if b then Some place else place_from unit (suc place) rest) apart)

met : (unit place : ℕ) (other : Option ℕ) (rest : List ℕ) → option_map_or (λ x. x == unit) other false ≡ true → Some place ≡ place_from unit place (option_to_list other ++ rest)
met unit place None rest same = absurd cc
met unit place (Some x) rest same = sym (ap (λ b. if b then Some place else place_from unit (suc place) rest) same)

other_here : (unit : ℕ) (frames : List Frame) (persist : List (List ℕ)) (k : ℕ) (name : List ℕ) (place : ℕ) (other : Option ℕ) → k < length persist → name ≡ get_or persist k name → other ≡ other_unit frames name → place_from unit place (option_to_list other ++ others_from frames persist (suc k)) ≡ place_from unit place (others_from frames persist k)
other_here unit frames persist k name place other lt is gives = sym (ap (place_from unit place) (others_at frames persist k name lt is ∙ ap (λ o. option_to_list o ++ others_from frames persist (suc k)) (sym gives)))

pub other_on : (unit : ℕ) (frames : List Frame) (persist : List (List ℕ)) (k : ℕ) (name : List ℕ) (place count : ℕ) (other total : Option ℕ) → k < length persist → name ≡ get_or persist k name → other ≡ other_unit frames name → option_map_or (λ x. x == unit) other false ≡ false → count ≡ length (option_to_list other) → place_from unit place (others (own_units 0 frames) (last_units (drop k persist) frames)) ≡ total → place_from unit (place + count) (others (own_units 0 frames) (last_units (drop (k + 1) persist) frames)) ≡ total
other_on unit frames persist k name place count other total lt is gives apart many so_far =
    rw add-one (passed unit place count other (others_from frames persist (suc k)) apart many ∙ other_here unit frames persist k name place other lt is gives ∙ so_far)

pub other_found : (unit : ℕ) (frames : List Frame) (persist : List (List ℕ)) (k : ℕ) (name : List ℕ) (place : ℕ) (other total : Option ℕ) → k < length persist → name ≡ get_or persist k name → other ≡ other_unit frames name → option_map_or (λ x. x == unit) other false ≡ true → place_from unit place (others (own_units 0 frames) (last_units (drop k persist) frames)) ≡ total → Some place ≡ total
other_found unit frames persist k name place other total lt is gives same so_far =
    met unit place other (others_from frames persist (suc k)) same ∙ other_here unit frames persist k name place other lt is gives ∙ so_far

pub others_end : (unit : ℕ) (frames : List Frame) (persist : List (List ℕ)) (k place : ℕ) (total : Option ℕ) → length persist ≤ k → k ≤ length persist → place_from unit place (others (own_units 0 frames) (last_units (drop k persist) frames)) ≡ total → None ≡ total
others_end unit frames persist k place total far near so_far = sym (ap (λ ns. place_from unit place (others (own_units 0 frames) (last_units ns frames))) (none_left persist k far near)) ∙ so_far
  where
    none_left : (ys : List (List ℕ)) (j : ℕ) → length ys ≤ j → j ≤ length ys → drop j ys ≡ []
    none_left [] zero a b = refl
    none_left [] (suc j) a b = refl
    none_left (y ∷ ys) zero a b = absurd (omega arith)
    none_left (y ∷ ys) (suc j) a b = none_left ys j (omega arith) (omega arith)

-- AMONG ALL

pub own_many : (first : ℕ) (frames : List Frame) → length (own_units first frames) ≡ exports_in frames
own_many first [] = refl
own_many first (f ∷ frames) =
    length-append (moved_exports first f) (own_units (first + unit_count f) frames)
    ∙ ap₂ (λ a b. a + b) (length-map (numbered f).exports (λ x. first + x)) (own_many (first + unit_count f) frames)

place_split : (persist : List (List ℕ)) (frames : List Frame) (unit : ℕ) → place_from unit 0 (own_units 0 frames ++ others (own_units 0 frames) (last_units persist frames)) ≡ option_or (place_from unit 0 (own_units 0 frames)) (place_from unit (exports_in frames) (others (own_units 0 frames) (last_units persist frames)))
place_split persist frames unit =
    place_append unit 0 (own_units 0 frames) (others (own_units 0 frames) (last_units persist frames))
    ∙ ap (λ n. option_or (place_from unit 0 (own_units 0 frames)) (place_from unit n (others (own_units 0 frames) (last_units persist frames)))) (let z : 0 + length (own_units 0 frames) ≡ length (own_units 0 frames) = omega arith in z ∙ own_many 0 frames)

pub own_first : (persist : List (List ℕ)) (frames : List Frame) (name : List ℕ) (unit place : ℕ) → last_unit 0 name None frames ≡ Some unit → place_from unit 0 (own_units 0 frames) ≡ Some place → Some place ≡ place_under persist frames name
own_first persist frames name unit place last own =
    sym (ap (option_and_then (λ u. place_from u 0 (own_units 0 frames ++ others (own_units 0 frames) (last_units persist frames)))) last
    ∙ place_split persist frames unit
    ∙ ap (λ o. option_or o (place_from unit (exports_in frames) (others (own_units 0 frames) (last_units persist frames)))) own)

pub then_others : (persist : List (List ℕ)) (frames : List Frame) (name : List ℕ) (unit start : ℕ) (result : Option ℕ) → last_unit 0 name None frames ≡ Some unit → place_from unit 0 (own_units 0 frames) ≡ None → start ≡ exports_in frames → result ≡ place_from unit start (others (own_units 0 frames) (last_units persist frames)) → result ≡ place_under persist frames name
then_others persist frames name unit start result last own starts gives =
    gives ∙ ap (λ n. place_from unit n (others (own_units 0 frames) (last_units persist frames))) starts
    ∙ sym (ap (option_and_then (λ u. place_from u 0 (own_units 0 frames ++ others (own_units 0 frames) (last_units persist frames)))) last
    ∙ place_split persist frames unit
    ∙ ap (λ o. option_or o (place_from unit (exports_in frames) (others (own_units 0 frames) (last_units persist frames)))) own)

-- A NAME HAS A PLACE EXACTLY WHERE A FRAME HAS THE NAME

last_there : (name : List ℕ) (n : ℕ) (unit : Option ℕ) (frames : List Frame) → is_some (last_unit n name unit frames) ≡ (is_some unit || list_any (has_name name) frames)
last_there name n None [] = refl
last_there name n (Some unit) [] = refl
last_there name n unit (f ∷ frames) = last_there name (n + unit_count f) (option_or (unit_under n name f) unit) frames ∙ by_holder (holder_in f.resources name) unit
  where
    by_holder : (holder : Option ℕ) (old : Option ℕ) → (is_some (option_or (option_map (λ k. n + unit_at f.resources k) holder) old) || list_any (has_name name) frames) ≡ (is_some old || (is_some holder || list_any (has_name name) frames))
    by_holder None None = refl
    by_holder None (Some x) = refl
    by_holder (Some k) None = refl
    by_holder (Some k) (Some x) = refl

some_later : {X : Type 0} (a b : Option X) → is_some b ≡ true → is_some (option_or a b) ≡ true
some_later None b there = there
some_later (Some x) b there = refl

other_there : (frames : List Frame) (names : List (List ℕ)) (k : ℕ) (name : List ℕ) (unit place : ℕ) → slice_get names k ≡ Some name → other_unit frames name ≡ Some unit → is_some (place_from unit place (others (own_units 0 frames) (last_units names frames))) ≡ true
other_there frames [] k name unit place at other = absurd cc
other_there frames (x ∷ names) zero name unit place at other =
    let same : x ≡ name = cc in
    let rest : List ℕ = others (own_units 0 frames) (last_units names frames) in
    let first : others (own_units 0 frames) (last_units (x ∷ names) frames) ≡ unit ∷ rest = others_first frames (last_unit 0 x None frames) (last_units names frames) ∙ ap (λ o. option_to_list o ++ rest) (ap (other_unit frames) same ∙ other) in
    ap (λ xs. is_some (place_from unit place xs)) first ∙ ap (λ b. is_some (if b then Some place else place_from unit (suc place) rest)) (eq-eqb unit unit refl)
other_there frames (x ∷ names) (suc k) name unit place at other =
    let rest : List ℕ = others (own_units 0 frames) (last_units names frames) in
    let here : List ℕ = option_to_list (other_unit frames x) in
    ap (λ xs. is_some (place_from unit place xs)) (others_first frames (last_unit 0 x None frames) (last_units names frames))
    ∙ ap is_some (place_append unit place here rest)
    ∙ some_later (place_from unit place here) (place_from unit (place + length here) rest) (other_there frames names k name unit (place + length here) at other)

last_placed : (frames : List Frame) (persist : List (List ℕ)) (k : ℕ) (name : List ℕ) (unit : ℕ) → slice_get persist k ≡ Some name → last_unit 0 name None frames ≡ Some unit → is_some (place_from unit 0 (exported_units persist frames)) ≡ true
last_placed frames persist k name unit at last = ap is_some (place_split persist frames unit) ∙ by_own (place_from unit 0 (own_units 0 frames)) refl
  where
    by_own : (own : Option ℕ) → place_from unit 0 (own_units 0 frames) ≡ own → is_some (option_or own (place_from unit (exports_in frames) (others (own_units 0 frames) (last_units persist frames)))) ≡ true
    by_own (Some p) is = refl
    by_own None is = other_there frames persist k name unit (exports_in frames) at (ap (option_and_then (unless_own frames)) last ∙ ap (λ o. option_map_or (λ (place : ℕ). None) o (Some unit)) is)

place_there : (frames : List Frame) (persist : List (List ℕ)) (k : ℕ) (name : List ℕ) → slice_get persist k ≡ Some name → is_some (place_under persist frames name) ≡ is_some (last_unit 0 name None frames)
place_there frames persist k name at = by_unit (last_unit 0 name None frames) refl
  where
    by_unit : (unit : Option ℕ) → last_unit 0 name None frames ≡ unit → is_some (option_and_then (λ u. place_from u 0 (exported_units persist frames)) unit) ≡ is_some unit
    by_unit None last = refl
    by_unit (Some unit) last = last_placed frames persist k name unit at last

pub hold_there : (frames : List Frame) (persist : List (List ℕ)) (depth w k : ℕ) (place : Option ℕ) → place ≡ persisted_export frames persist depth w k → IfSome (slice_get persist k) (λ name. is_some place ≡ list_any (has_name name) (frames_in depth frames w))
hold_there frames persist depth w k place is = by_name (slice_get persist k) refl is
  where
    by_name : (name : Option (List ℕ)) → slice_get persist k ≡ name → place ≡ option_and_then (place_under persist (frames_in depth frames w)) name → IfSome name (λ n. is_some place ≡ list_any (has_name n) (frames_in depth frames w))
    by_name None at same = tt
    by_name (Some name) at same = ap is_some same ∙ place_there (frames_in depth frames w) persist k name at ∙ last_there name 0 None (frames_in depth frames w)
