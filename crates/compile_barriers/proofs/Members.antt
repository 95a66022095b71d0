-- Members of groups.
use Rattle.std.proofs.Common.{◌≡◌, ◌≢◌, ◌⊎◌, inl, inr, ℕ, zero, suc, ◌+◌, ◌-◌, ◌<◌, ◌≤◌, ◌==◌, ◌&&◌, ◌||◌, ◌++◌, not, Bool, true, false, List, [], ◌∷◌, length, get_or, set, refl, sym, ap, ◌∙◌, subst, add-one, arith, if◌then◌else◌}
use Rattle.std.specs.List.{All, filter, flat_map, list_any, range_with_len}
use Rattle.std.proofs.Math.Dec.{eqb-suc-zero}
use Rattle.std.proofs.Math.ListN.{length-set}
use Rattle.std.proofs.lemmas.Bool.{and_from, and_parts, cases_eq, eq-eqb, eqb-true, ne_eqb, not-true, not_from_false}
use Rattle.std.proofs.lemmas.Grind.{flat_map-append}
use Rattle.std.proofs.lemmas.List.Elements.{All-filter, filter-append, filter_passes}
use Rattle.std.proofs.lemmas.List.Folds.{list_any_at, list_any_none}
use Rattle.std.proofs.lemmas.List.FromFn.{length-range_with_len, get_or-range_with_len}
use Rattle.std.proofs.lemmas.List.Sums.{fails_before_first, passes_at_first}
use Rattle.std.proofs.lemmas.Map.Views.{any-filter_same}
use Rattle.std.proofs.lemmas.List.{get_or-set_same, get_or-set_other, append-nil}
use Rattle.base.proofs.Lists.{range_more}
use Rattle.compile_groups.specs.Laws.{OfOne, IsGrouped}
use Rattle.compile_groups.specs.Needs.{group_at, has_unit, one_unit, is_touched}
use Rattle.compile_groups.specs.Placed.{placed, is_import}
use Rattle.compile_groups.specs.Uses.{no_use}
use Rattle.compile_groups.specs.declared.grouping.Grouping.{Grouping}
use Rattle.compile_groups.specs.declared.unit_use.Use.{Use}
use Rattle.compile_barriers.specs.Internal.Lasts.{AreLasts, group_from}
use Rattle.compile_barriers.specs.Prologues.{first, earlier}
use Rattle.compile_barriers.specs.Under.{place_of, last_below}

-- EACH GROUP

pub some_use : (G : Grouping) (g : ℕ) → IsGrouped G → g < length G.groups → 0 < length (group_at G g)
some_use G g K lt = K.in_order.some g [] lt

of_one : (G : Grouping) (g : ℕ) → IsGrouped G → g < length G.groups → OfOne (group_at G g)
of_one G g K lt = K.in_order.one g [] lt

-- all are of the first one's unit
pub alike : (A : List Use) → OfOne A → 0 < length A → All (λ u. u.unit ≡ (first A).unit) A
alike A O some k d lt = O.1 k d lt ∙ sym (O.1 0 no_use some)

none_of : (A : List Use) (unit : ℕ) → OfOne A → 0 < length A → (first A).unit ≢ unit → has_unit unit A ≡ false
none_of A unit O some ne = list_any_none (λ u. u.unit == unit) A (λ k d lt. ne_eqb (get_or A k d).unit unit (λ e. ne (sym (alike A O some k d lt) ∙ e)))

pub two_units : (A B : List Use) → OfOne A → OfOne B → 0 < length A → 0 < length B → (first A).unit ≢ (first B).unit → one_unit A B ≡ false
two_units A B O P a b ne = list_any_none (λ u. has_unit u.unit B) A (λ k d lt. none_of B (get_or A k d).unit P b (λ e. ne (sym (alike A O a k d lt) ∙ sym e)))

has_first : (A : List Use) → 0 < length A → has_unit (first A).unit A ≡ true
has_first [] lt = absurd (no lt)
  where
    no : 0 < 0 → ⊥
    no h = omega arith
has_first (u ∷ A) lt = ap (λ b. b || has_unit u.unit A) (eq-eqb u.unit u.unit refl)

one_first : (A B : List Use) → 0 < length A → 0 < length B → (first A).unit ≡ (first B).unit → one_unit A B ≡ true
one_first A B a b e = list_any_at (λ u. has_unit u.unit B) A 0 no_use a (ap (λ unit. has_unit unit B) e ∙ has_first B b)

-- there is an earlier group of the unit
some_earlier : (G : Grouping) (g : ℕ) → (g ≡ 0 → ⊥) → one_unit (group_at G (g - 1)) (group_at G g) ≡ true → earlier G g ≡ group_at G (g - 1)
some_earlier G zero ne t = absurd (ne refl)
some_earlier G (suc h) ne t = let e : suc h - 1 ≡ h = omega arith in ap (λ b. if b then group_at G h else []) (ap (λ z. one_unit (group_at G z) (group_at G (suc h))) (sym e) ∙ t) ∙ sym (ap (group_at G) e)

pub earlier_joined : (G : Grouping) (g : ℕ) → IsGrouped G → g < length G.groups → (g ≡ 0 → ⊥) → (first (group_at G (g - 1))).unit ≡ (first (group_at G g)).unit → group_at G (g - 1) ≡ earlier G g
earlier_joined G g K lt ne same =
    let low : g - 1 < length G.groups = omega (arith, lt) in
    sym (some_earlier G g ne (one_first (group_at G (g - 1)) (group_at G g) (some_use G (g - 1) K low) (some_use G g K lt) same))

-- there is none
pub none_earlier : (G : Grouping) (g : ℕ) → (g ≡ 0 → ⊥) → one_unit (group_at G (g - 1)) (group_at G g) ≡ false → earlier G g ≡ []
none_earlier G zero ne f = absurd (ne refl)
none_earlier G (suc h) ne f = let e : suc h - 1 ≡ h = omega arith in ap (λ b. if b then group_at G h else []) (ap (λ z. one_unit (group_at G z) (group_at G (suc h))) (sym e) ∙ f)

pub earlier_apart : (G : Grouping) (g : ℕ) → IsGrouped G → g < length G.groups → (g ≡ 0 → ⊥) → (first (group_at G (g - 1))).unit ≢ (first (group_at G g)).unit → earlier G g ≡ []
earlier_apart G g K lt ne apart =
    let low : g - 1 < length G.groups = omega (arith, lt) in
    none_earlier G g ne (two_units (group_at G (g - 1)) (group_at G g) (of_one G (g - 1) K low) (of_one G g K lt) (some_use G (g - 1) K low) (some_use G g K lt) apart)

-- LAST GROUPS

pub lasts_more : (G : Grouping) (g unit : ℕ) (old new : List ℕ) → IsGrouped G → g < length G.groups → AreLasts G g old → unit ≡ (first (group_at G g)).unit → unit < length G.imports → new ≡ set old unit (g + 1) → AreLasts G (g + 1) new
lasts_more G g unit old new K lt L here known is = record {
  size = ap length is ∙ length-set old unit (g + 1) ∙ L.size;
  low = λ u. low u (cases_eq u unit);
  is = λ u lu. rw add-one (at u lu (cases_eq u unit));
}
  where
    same : (u : ℕ) → u ≡ unit → get_or new u 0 ≡ g + 1
    same u e = let size = L.size in ap (λ l. get_or l u 0) is ∙ ap (λ z. get_or (set old unit (g + 1)) z 0) e ∙ get_or-set_same old unit (g + 1) 0 (omega (arith, size, known))

    other : (u : ℕ) → (u ≡ unit → ⊥) → get_or new u 0 ≡ get_or old u 0
    other u ne = ap (λ l. get_or l u 0) is ∙ get_or-set_other old unit u (g + 1) 0 ne

    low : (u : ℕ) → (u ≡ unit) ⊎ (u ≡ unit → ⊥) → get_or new u 0 ≤ g + 1
    low u (inl e) = let s = same u e in omega (arith, s)
    low u (inr ne) = let s = other u ne in let l = L.low u in omega (arith, s, l)

    at : (u : ℕ) → u < length G.imports → (u ≡ unit) ⊎ (u ≡ unit → ⊥) → group_from G (get_or new u 0) ≡ last_below G u (suc g)
    at u lu (inl e) =
        ap (group_from G) (same u e ∙ add-one g)
        ∙ ap (λ b. if b then [] else group_at G (suc g - 1)) (eqb-suc-zero g)
        ∙ (let back : suc g - 1 ≡ g = omega arith in ap (group_at G) back)
        ∙ sym (ap (λ b. if b then group_at G g else last_below G u g) (ap (λ z. has_unit z (group_at G g)) (e ∙ here) ∙ has_first (group_at G g) (some_use G g K lt)))
    at u lu (inr ne) =
        ap (group_from G) (other u ne) ∙ L.is u lu
        ∙ sym (ap (λ b. if b then group_at G g else last_below G u g) (none_of (group_at G g) u (of_one G g K lt) (some_use G g K lt) (λ e. ne (sym e ∙ sym here))))

-- PLACED UNITS

pub placed_known : (G : Grouping) → All (λ u. u < length G.imports) (placed G)
placed_known G = All-filter (λ unit. is_touched G unit && not (is_import G unit)) (λ u. u < length G.imports) (range_with_len 0 (length G.imports)) (λ k d lt. let size = length-range_with_len 0 (length G.imports) in let e = get_or-range_with_len 0 (length G.imports) k d (omega (arith, lt, size)) in omega (arith, e, lt, size))

-- the unit of a group is used
pub is_used : (G : Grouping) (g : ℕ) → IsGrouped G → g < length G.groups → is_touched G (first (group_at G g)).unit ≡ true
is_used G g K lt = list_any_at (has_unit (first (group_at G g)).unit) G.groups g [] lt (has_first (group_at G g) (some_use G g K lt))

-- a unit that is used and has no place is an import
pub imported : (G : Grouping) (unit : ℕ) → unit < length G.imports → is_touched G unit ≡ true → place_of G unit ≡ length (placed G) → is_import G unit ≡ true
imported G unit lt used none = go (is_import G unit) refl
  where
    absent : list_any (λ u. u == unit) (placed G) ≡ false
    absent = list_any_none (λ u. u == unit) (placed G) (λ k d lk. fails_before_first (λ u. u == unit) (placed G) k d (omega (arith, none, lk)))

    among : list_any (λ u. u == unit) (range_with_len 0 (length G.imports)) ≡ true
    among = list_any_at (λ u. u == unit) (range_with_len 0 (length G.imports)) unit 0 (let size = length-range_with_len 0 (length G.imports) in omega (arith, lt, size)) (let e = get_or-range_with_len 0 (length G.imports) unit 0 lt in eq-eqb (get_or (range_with_len 0 (length G.imports)) unit 0) unit (omega (arith, e)))

    there : is_import G unit ≡ false → list_any (λ u. u == unit) (placed G) ≡ true
    there e = any-filter_same (λ u. u == unit) (λ u. is_touched G u && not (is_import G u)) true (λ k h. subst (λ u. (is_touched G u && not (is_import G u)) ≡ true) (sym (eqb-true k unit h)) (and_from (is_touched G unit) (not (is_import G unit)) used (not_from_false (is_import G unit) e))) (range_with_len 0 (length G.imports)) ∙ among

    go : (b : Bool) → is_import G unit ≡ b → b ≡ true
    go true e = refl
    go false e = sym absent ∙ there e

-- a unit that has a place is no import
pub no_import : (G : Grouping) (unit : ℕ) → place_of G unit < length (placed G) → is_import G unit ≡ false
no_import G unit lt =
    let e = eqb-true (get_or (placed G) (place_of G unit) 0) unit (passes_at_first (λ u. u == unit) (placed G) 0 lt) in
    let h = filter_passes (λ u. is_touched G u && not (is_import G u)) (range_with_len 0 (length G.imports)) (place_of G unit) 0 lt in
    not-true (is_import G unit) (subst (λ u. not (is_import G u) ≡ true) e (and_parts (is_touched G (get_or (placed G) (place_of G unit) 0)) (not (is_import G (get_or (placed G) (place_of G unit) 0))) h).1)

-- one number more passes, or does not
pub more_passes : {X : Type 0} (f : ℕ → List X) (p : ℕ → Bool) (n : ℕ) (old new : List X) → p n ≡ true → old ≡ flat_map f (filter p (range_with_len 0 n)) → new ≡ old ++ f n → new ≡ flat_map f (filter p (range_with_len 0 (n + 1)))
more_passes f p n old new t so_far grows = rw add-one (
    grows
    ∙ ap (λ l. l ++ f n) so_far
    ∙ ap (λ l. flat_map f (filter p (range_with_len 0 n)) ++ l) (sym (append-nil (f n)))
    ∙ sym (flat_map-append f (filter p (range_with_len 0 n)) (n ∷ []))
    ∙ ap (λ l. flat_map f (filter p (range_with_len 0 n) ++ l)) (sym (ap (λ b. if b then n ∷ [] else []) t))
    ∙ ap (flat_map f) (sym (filter-append p (range_with_len 0 n) (n ∷ [])))
    ∙ ap (λ l. flat_map f (filter p l)) (sym (range_more 0 n n (omega arith))))

pub more_fails : {X : Type 0} (f : ℕ → List X) (p : ℕ → Bool) (n : ℕ) (list : List X) → p n ≡ false → list ≡ flat_map f (filter p (range_with_len 0 n)) → list ≡ flat_map f (filter p (range_with_len 0 (n + 1)))
more_fails f p n list t so_far = rw add-one (
    so_far
    ∙ ap (flat_map f) (sym (append-nil (filter p (range_with_len 0 n))))
    ∙ ap (λ l. flat_map f (filter p (range_with_len 0 n) ++ l)) (sym (ap (λ b. if b then n ∷ [] else []) t))
    ∙ ap (flat_map f) (sym (filter-append p (range_with_len 0 n) (n ∷ [])))
    ∙ ap (λ l. flat_map f (filter p l)) (sym (range_more 0 n n (omega arith))))
