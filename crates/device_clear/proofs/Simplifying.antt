-- Operations in the place of others, over the shapes and what was loaded.
use Rattle.std.proofs.Common.{◌≡◌, ℕ, zero, suc, ◌%◌, ◌<◌, ◌≤◌, ◌==◌, true, List, [], ◌∷◌, length, get_or, take, Option, Some, None, inl, inr, refl, sym, ap, ◌∙◌, subst, arith}
use Rattle.std.specs.List.{All, list_all}
use Rattle.std.specs.Prelude.{◌&&◌}
use Rattle.std.proofs.lemmas.List.{get_or-take, nil_from_length}
use Rattle.base.proofs.Booleans.{both}
use Rattle.base.specs.Applied.{applied, effect}
use Rattle.base.specs.Fits.{fits, has_drawn}
use Rattle.base.specs.Kernels.{under}
use Rattle.base.specs.Operands.{sources_of, destination_of}
use Rattle.base.specs.Shapes.{bytes_of, is_image, same_grid, same_sides, same_texel, shape_at, twice_the_sides}
use Rattle.base.specs.Texels.{canvas_of, modulus, painted}
use Rattle.base.specs.declared.grid.Grid.{Grid}
use Rattle.base.specs.declared.op.Fun.{Fun}
use Rattle.base.specs.declared.op.Op.{Op}
use Rattle.base.specs.declared.op.Op.TheVariants.{ClearImage, Map, Combine, Convert, Box3, Halve, Draw}
use Rattle.base.specs.declared.op.Rect.{Rect}
use Rattle.base.specs.declared.shape.Shape.{Shape}
use Rattle.base.specs.declared.shape.Shape.TheVariants.{Buffer, Image}
use Rattle.device_clear.proofs.Effects.{IsOf, blur_of_one, conversion_of_one, halving_of_one, nothing_drawn, read_back, whole_drawn}
use Rattle.device_clear.specs.Internal.Keeps.{Keeps}
use Rattle.device_clear.specs.Simpler.{Reads, IsSimpler}
use Rattle.kernel.proofs.Fitting.{number_same, same_canvas}

one_entry : (P : ℕ → Type 0) (n : ℕ) → P n → All P (n ∷ [])
one_entry P n p zero d lt = p
one_entry P n p (suc k) d lt = absurd (omega (arith, lt))

two_entries : (P : ℕ → Type 0) (m n : ℕ) → P m → P n → All P (m ∷ n ∷ [])
two_entries P m n p q zero d lt = p
two_entries P m n p q (suc zero) d lt = q
two_entries P m n p q (suc (suc k)) d lt = absurd (omega (arith, lt))

-- a clear in the place of an operation
clears : (shapes : List Shape) (op : Op ℕ) (loaded : List (List ℕ)) (dst value : ℕ) → destination_of op ≡ dst → dst < length shapes → is_image (shape_at shapes dst) ≡ true
    → ((old : List ℕ) → painted (canvas_of (shape_at shapes dst)) (λ x y. value) ≡ applied shapes op (take (length (sources_of op)) loaded) old)
    → IsSimpler shapes op loaded (record { op = ClearImage dst value; source = None })
clears shapes op loaded dst value is within image same = record {
  reads = record { operands = one_entry (λ p. p < length shapes) dst within; fitting = image; sources = omega arith; sized = λ k lt. absurd (omega (arith, lt)) };
  all = refl;
  destination = sym is;
  there = λ k e. absurd cc;
  same = λ old before. same old;
}

-- a map of one of the sources in the place of an operation
maps : (shapes : List Shape) (op : Op ℕ) (loaded : List (List ℕ)) (src dst : ℕ) (fun : Fun) (value k : ℕ) → destination_of op ≡ dst → src < length shapes → dst < length shapes
    → fits (Map (shape_at shapes src) (shape_at shapes dst) fun value) ≡ true
    → k < length loaded → length (get_or loaded k []) ≡ bytes_of (shape_at shapes src)
    → ((old : List ℕ) → effect (Map (shape_at shapes src) (shape_at shapes dst) fun value) (get_or loaded k []) [] [] [] ≡ applied shapes op (take (length (sources_of op)) loaded) old)
    → IsSimpler shapes op loaded (record { op = Map src dst fun value; source = Some k })
maps shapes op loaded src dst fun value k is from to fit there long same = record {
  reads = record { operands = two_entries (λ p. p < length shapes) src dst from to; fitting = fit; sources = omega arith; sized = only_one };
  all = refl;
  destination = sym is;
  there = λ n e. place n e;
  same = λ old before. same old;
}
  where
    only_one : (n : ℕ) → n < 1 → length (get_or (get_or loaded k [] ∷ []) n []) ≡ bytes_of (shape_at shapes (get_or (src ∷ dst ∷ []) n 0))
    only_one zero lt = long
    only_one (suc n) lt = absurd (omega (arith, lt))

    place : (n : ℕ) → Some k ≡ Some n → n < length loaded
    place n e = let same : k ≡ n = cc in omega (arith, there, same)

-- what fits is an image
sides_image : (a to : Shape) → same_sides a to ≡ true → is_image to ≡ true
sides_image (Buffer n) to e = absurd cc
sides_image (Image w h t) (Buffer n) e = absurd cc
sides_image (Image w h t) (Image v k s) e = refl

half_image : (a to : Shape) → twice_the_sides a to ≡ true → is_image to ≡ true
half_image a (Buffer n) e = absurd cc
half_image a (Image w h t) e = refl

-- what a combination leaves, by what was loaded
combine_loaded : (shapes : List Shape) (a b dst : ℕ) (fun : Fun) (loaded : List (List ℕ)) (old : List ℕ) → effect (Combine (shape_at shapes a) (shape_at shapes b) (shape_at shapes dst) fun) (get_or loaded 0 []) (get_or loaded 1 []) [] [] ≡ applied shapes (Combine a b dst fun) (take 2 loaded) old
combine_loaded shapes a b dst fun loaded old =
    let op = Combine (shape_at shapes a) (shape_at shapes b) (shape_at shapes dst) fun in
    ap (λ (l : List ℕ). effect op l (get_or loaded 1 []) [] []) (sym (get_or-take 2 loaded 0 [] (omega arith)))
    ∙ ap (λ (l : List ℕ). effect op (get_or (take 2 loaded) 0 []) l [] []) (sym (get_or-take 2 loaded 1 [] (omega arith)))

module _ (shapes : List Shape) (op : Op ℕ) (loaded : List (List ℕ)) (R : Reads shapes op loaded) where
  -- a draw of nothing over a clear
  pub draws_nothing : (dst value : ℕ) (clear : Option ℕ) (rects : List Rect) → op ≡ Draw dst clear rects → clear ≡ Some value → rects ≡ [] → IsSimpler shapes op loaded (record { op = ClearImage dst value; source = None })
  draws_nothing dst value clear rects is cleared none =
      let same : op ≡ Draw dst (Some value) [] = is ∙ ap (λ (o : Option ℕ). Draw dst o rects) cleared ∙ ap (λ (l : List Rect). Draw dst (Some value) l) none in
      let D = subst (λ (o : Op ℕ). Reads shapes o loaded) same R in
      let P : Op ℕ → Type 0 = λ o. IsSimpler shapes o loaded (record { op = ClearImage dst value; source = None }) in
      subst P (sym same) (clears shapes (Draw dst (Some value) []) loaded dst value refl (D.operands 0 0 (omega arith)) (both (is_image (shape_at shapes dst)) true D.fitting).0 (λ old. nothing_drawn shapes dst value (take 0 loaded) old))

  -- a draw of one rectangle that sets each texel
  pub draws_whole : (dst : ℕ) (clear : Option ℕ) (rects : List Rect) (rect : Rect) (g : Grid) → op ≡ Draw dst clear rects → rects ≡ rect ∷ [] → g ≡ canvas_of (shape_at shapes dst)
      → ((f : ℕ → ℕ → ℕ) (x y : ℕ) → x < g.width → y < g.height → under g.texel f rect x y ≡ rect.value % modulus g.texel)
      → IsSimpler shapes op loaded (record { op = ClearImage dst rect.value; source = None })
  draws_whole dst clear rects rect g is one to sets =
      let same : op ≡ Draw dst clear (rect ∷ []) = is ∙ ap (λ (l : List Rect). Draw dst clear l) one in
      let D = subst (λ (o : Op ℕ). Reads shapes o loaded) same R in
      let P : Op ℕ → Type 0 = λ o. IsSimpler shapes o loaded (record { op = ClearImage dst rect.value; source = None }) in
      let Q : Grid → Type 0 = λ h. (f : ℕ → ℕ → ℕ) (x y : ℕ) → x < h.width → y < h.height → under h.texel f rect x y ≡ rect.value % modulus h.texel in
      subst P (sym same) (clears shapes (Draw dst clear (rect ∷ [])) loaded dst rect.value refl (D.operands 0 0 (omega arith)) (both (is_image (shape_at shapes dst)) (list_all (has_drawn (shape_at shapes dst)) (rect ∷ [])) D.fitting).0
      (λ old. whole_drawn (canvas_of (shape_at shapes dst)) rect clear old (subst Q to sets)))

  -- the one source of an operation that keeps its number was loaded
  pub kept_loaded : (src dst : ℕ) → Keeps op src dst → 1 ≤ length loaded
  kept_loaded src dst (inl e) = (subst (λ (o : Op ℕ). Reads shapes o loaded) e R).sources
  kept_loaded src dst (inr (inl e)) = (subst (λ (o : Op ℕ). Reads shapes o loaded) e R).sources
  kept_loaded src dst (inr (inr e)) = (subst (λ (o : Op ℕ). Reads shapes o loaded) e R).sources

  -- an operation whose one source is of one number, which it keeps
  module _ (src dst value : ℕ) (from : Shape) (from_is : from ≡ shape_at shapes src) (bytes : List ℕ) (bytes_is : bytes ≡ get_or loaded 0 []) (is : bytes ≡ painted (canvas_of from) (λ x y. value)) (small : value < modulus (canvas_of from).texel) where
    taken : IsOf (canvas_of (shape_at shapes src)) (get_or (take 1 loaded) 0 []) value
    taken =
        subst (λ (l : List ℕ). IsOf (canvas_of (shape_at shapes src)) l value) (bytes_is ∙ sym (get_or-take 1 loaded 0 [] (omega arith)))
        (subst (λ (s : Shape). IsOf (canvas_of s) bytes value) from_is (read_back (canvas_of from) bytes value is small))

    in_place : (made : Op ℕ) → op ≡ made → IsSimpler shapes made loaded (record { op = ClearImage dst value; source = None }) → IsSimpler shapes op loaded (record { op = ClearImage dst value; source = None })
    in_place made is simpler = subst (λ (o : Op ℕ). IsSimpler shapes o loaded (record { op = ClearImage dst value; source = None })) (sym is) simpler

    converts_one : op ≡ Convert src dst → IsSimpler shapes op loaded (record { op = ClearImage dst value; source = None })
    converts_one made =
        let D = subst (λ (o : Op ℕ). Reads shapes o loaded) made R in
        let a = shape_at shapes src in
        let to = shape_at shapes dst in
        in_place (Convert src dst) made (clears shapes (Convert src dst) loaded dst value refl (D.operands 1 0 (omega arith)) (sides_image a to D.fitting) (λ old. conversion_of_one a to value (get_or (take 1 loaded) 0 []) D.fitting taken))

    blurs_one : op ≡ Box3 src dst → IsSimpler shapes op loaded (record { op = ClearImage dst value; source = None })
    blurs_one made =
        let D = subst (λ (o : Op ℕ). Reads shapes o loaded) made R in
        let a = shape_at shapes src in
        let to = shape_at shapes dst in
        let fit = both (is_image a && is_image to) (same_grid a to) D.fitting in
        let images = both (is_image a) (is_image to) fit.0 in
        in_place (Box3 src dst) made (clears shapes (Box3 src dst) loaded dst value refl (D.operands 1 0 (omega arith)) images.1 (λ old. blur_of_one a to value (get_or (take 1 loaded) 0 []) (same_canvas a to fit.1).0 taken))

    halves_one : op ≡ Halve src dst → IsSimpler shapes op loaded (record { op = ClearImage dst value; source = None })
    halves_one made =
        let D = subst (λ (o : Op ℕ). Reads shapes o loaded) made R in
        let a = shape_at shapes src in
        let to = shape_at shapes dst in
        in_place (Halve src dst) made (clears shapes (Halve src dst) loaded dst value refl (D.operands 1 0 (omega arith)) (half_image a to (both (same_texel a to) (twice_the_sides a to) D.fitting).1) (λ old. halving_of_one a to value (get_or (take 1 loaded) 0 []) D.fitting taken))

    pub keeps_one : Keeps op src dst → IsSimpler shapes op loaded (record { op = ClearImage dst value; source = None })
    keeps_one (inl e) = converts_one e
    keeps_one (inr (inl e)) = blurs_one e
    keeps_one (inr (inr e)) = halves_one e

  -- a combination has two sources
  pub two_loaded : (a b dst : ℕ) (fun : Fun) → op ≡ Combine a b dst fun → 2 ≤ length loaded
  two_loaded a b dst fun is = (subst (λ (o : Op ℕ). Reads shapes o loaded) is R).sources

  module _ (a b dst : ℕ) (fun : Fun) (is : op ≡ Combine a b dst fun) (to : Shape) (to_is : to ≡ shape_at shapes dst) where
    C : Reads shapes (Combine a b dst fun) loaded
    C = subst (λ (o : Op ℕ). Reads shapes o loaded) is R

    fitting : (same_grid (shape_at shapes a) (shape_at shapes dst) ≡ true) × (same_grid (shape_at shapes b) (shape_at shapes dst) ≡ true)
    fitting = both (same_grid (shape_at shapes a) (shape_at shapes dst)) (same_grid (shape_at shapes b) (shape_at shapes dst)) C.fitting

    -- a map of the first source
    pub by_second : (value : ℕ) (second : List ℕ) → second ≡ get_or loaded 1 []
        → ((x : List ℕ) → effect (Map (shape_at shapes a) to fun value) x [] [] [] ≡ effect (Combine (shape_at shapes a) (shape_at shapes b) to fun) x second [] [])
        → IsSimpler shapes op loaded (record { op = Map a dst fun value; source = Some 0 })
    by_second value second second_is same =
        let P : Op ℕ → Type 0 = λ o. IsSimpler shapes o loaded (record { op = Map a dst fun value; source = Some 0 }) in
        let Q : Shape → Type 0 = λ s. effect (Map (shape_at shapes a) s fun value) (get_or loaded 0 []) [] [] [] ≡ effect (Combine (shape_at shapes a) (shape_at shapes b) s fun) (get_or loaded 0 []) second [] [] in
        subst P (sym is)
        (maps shapes (Combine a b dst fun) loaded a dst fun value 0 refl (C.operands 0 0 (omega arith)) (C.operands 2 0 (omega arith)) fitting.0
        (let n = C.sources in omega (arith, n)) (C.sized 0 (let n = C.sources in omega (arith, n)))
        (λ old. subst Q to_is (same (get_or loaded 0 []))
        ∙ ap (λ (l : List ℕ). effect (Combine (shape_at shapes a) (shape_at shapes b) (shape_at shapes dst) fun) (get_or loaded 0 []) l [] []) second_is
        ∙ combine_loaded shapes a b dst fun loaded old))

    -- a map of the second source
    pub by_first : (value : ℕ) (first : List ℕ) → first ≡ get_or loaded 0 []
        → ((x : List ℕ) → effect (Map (shape_at shapes b) to fun value) x [] [] [] ≡ effect (Combine (shape_at shapes a) (shape_at shapes b) to fun) first x [] [])
        → IsSimpler shapes op loaded (record { op = Map b dst fun value; source = Some 1 })
    by_first value first first_is same =
        let P : Op ℕ → Type 0 = λ o. IsSimpler shapes o loaded (record { op = Map b dst fun value; source = Some 1 }) in
        let Q : Shape → Type 0 = λ s. effect (Map (shape_at shapes b) s fun value) (get_or loaded 1 []) [] [] [] ≡ effect (Combine (shape_at shapes a) (shape_at shapes b) s fun) first (get_or loaded 1 []) [] [] in
        subst P (sym is)
        (maps shapes (Combine a b dst fun) loaded b dst fun value 1 refl (C.operands 1 0 (omega arith)) (C.operands 2 0 (omega arith)) fitting.1
        (let n = C.sources in omega (arith, n)) (C.sized 1 (let n = C.sources in omega (arith, n)))
        (λ old. subst Q to_is (same (get_or loaded 1 []))
        ∙ ap (λ (l : List ℕ). effect (Combine (shape_at shapes a) (shape_at shapes b) (shape_at shapes dst) fun) l (get_or loaded 1 []) [] []) first_is
        ∙ combine_loaded shapes a b dst fun loaded old))

pub no_entries : (rects : List Rect) → (length rects == 0) ≡ true → rects ≡ []
no_entries rects e = nil_from_length rects (number_same (length rects) 0 e)

pub only_entry : (rects : List Rect) (d : Rect) → 1 ≤ length rects → length rects < 2 → rects ≡ get_or rects 0 d ∷ []
only_entry [] d some few = absurd (omega (arith, some))
only_entry (r ∷ []) d some few = refl
only_entry (r ∷ s ∷ others) d some few = absurd (omega (arith, few))
