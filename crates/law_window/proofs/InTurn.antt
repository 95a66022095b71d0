-- The windows of one depth, one after another.
use Rattle.std.proofs.Common.{◌≡◌, ℕ, zero, suc, ◌+◌, ◌-◌, ◌*◌, ◌<◌, ◌≤◌, List, [], ◌∷◌, length, map, take, drop, min, slice_get, Some, refl, sym, ap, subst, ◌∙◌, arith}
use Rattle.std.specs.List.{AllByRecursion}
use Rattle.std.proofs.lemmas.List.{length-drop, length-take}
use Rattle.std.proofs.lemmas.List.Elements.{All-drop, All-take}
use Rattle.base.specs.declared.shape.Family.{Family}
use Rattle.frame_meaning.specs.Meaning.{meaning}
use Rattle.law_window.proofs.Each.{each}
use Rattle.law_window.proofs.Frames.{held_sized}
use Rattle.law_window.proofs.Together.{together_means}
use Rattle.law_window.specs.Flown.{Flown, holding}
use Rattle.law_window.specs.Persisted.{persisted_after, persisted_by}
use Rattle.law_window.specs.InTurn.{MeansInTurn, frames_in, persisted_before}
use Rattle.law_window.specs.Means.{ArePersisted, IsExport, IsLeft}
use Rattle.law_window.specs.Small.{IsSmall}
use Rattle.law_window.specs.Sources.{given, last_sources}
use Rattle.law_window.specs.Together.{Flies, FlyTogether}
use Rattle.law_window.specs.Window.{window}

-- PARTS OF A LIST

take_none : {X : Type 0} (n : ℕ) → ◌≡◌ {A = List X} (take n []) []
take_none zero = refl
take_none (suc n) = refl

take_take : {X : Type 0} (n m : ℕ) (xs : List X) → n ≤ m → take n (take m xs) ≡ take n xs
take_take zero m xs le = refl
take_take (suc n) zero xs le = absurd (omega (arith, le))
take_take (suc n) (suc m) [] le = refl
take_take (suc n) (suc m) (x ∷ xs) le = ap (λ ys. x ∷ ys) (take_take n m xs (omega (arith, le)))

got_taken : {X : Type 0} (n m : ℕ) (xs : List X) → n < m → slice_get (take m xs) n ≡ slice_get xs n
got_taken n zero xs lt = absurd (omega (arith, lt))
got_taken n (suc m) [] lt = refl
got_taken zero (suc m) (x ∷ xs) lt = refl
got_taken (suc n) (suc m) (x ∷ xs) lt = got_taken n m xs (omega (arith, lt))

pub got_dropped : {X : Type 0} (n m : ℕ) (xs : List X) → slice_get (drop n xs) m ≡ slice_get xs (n + m)
got_dropped zero m xs = let z : m ≡ 0 + m = omega arith in ap (slice_get xs) z
got_dropped (suc n) m [] = refl
got_dropped (suc n) m (x ∷ xs) = let e : suc (n + m) ≡ suc n + m = omega arith in got_dropped n m xs ∙ ap (slice_get (x ∷ xs)) e

-- FRAMES AFTER FRAMES

held_on : (n m : ℕ) (frames : List Flown) (persisted : List (List ℕ)) → persisted_after (take (n + m) frames) persisted ≡ persisted_after (take m (drop n frames)) (persisted_after (take n frames) persisted)
held_on zero m frames persisted = let z : 0 + m ≡ m = omega arith in ap (λ k. persisted_after (take k frames) persisted) z
held_on (suc n) m [] persisted = ap (λ xs. persisted_after xs persisted) (take_none (suc n + m) ∙ sym (take_none m))
held_on (suc n) m (flown ∷ frames) persisted = let e : suc n + m ≡ suc (n + m) = omega arith in ap (λ k. persisted_after (take k (flown ∷ frames)) persisted) e ∙ held_on n m frames (persisted_by flown persisted)

pub still_sized : (queues : List Family) (sizes : List ℕ) (frames : List Flown) → AllByRecursion (Flies queues sizes) frames → (persisted : List (List ℕ)) → map length persisted ≡ sizes → map length (persisted_after frames persisted) ≡ sizes
still_sized queues sizes [] fly persisted is = is
still_sized queues sizes (flown ∷ frames) fly persisted is = still_sized queues sizes frames fly.1 (persisted_by flown persisted) (held_sized queues sizes flown fly.0 persisted is)

-- ONE WINDOW OF SEVERAL

module _ (queues : List Family) (sizes : List ℕ) (frames : List Flown) (persisted : List (List ℕ)) (T : FlyTogether queues sizes frames persisted) (depth w : ℕ) (deep : 0 < depth) (there : w * depth < length frames) where
  pub each_together : FlyTogether queues sizes (frames_in depth frames w) (persisted_before depth frames persisted w)
  each_together = record {
    some =
        let taken : length (take depth (drop (w * depth) frames)) ≡ min depth (length (drop (w * depth) frames)) = length-take depth (drop (w * depth) frames) in
        let dropped : length (drop (w * depth) frames) ≡ length frames - w * depth = length-drop (w * depth) frames in
        omega (arith, taken, dropped, deep, there);
    each = All-take (Flies queues sizes) depth (drop (w * depth) frames) (All-drop (Flies queues sizes) (w * depth) frames T.each);
    sized = still_sized queues sizes (take (w * depth) frames) (each (Flies queues sizes) (take (w * depth) frames) (All-take (Flies queues sizes) (w * depth) frames T.each)) persisted T.sized;
  }

  pub means_in_turn : IsSmall (window queues (frames_in depth frames w) (persisted_before depth frames persisted w)) → MeansInTurn queues depth frames persisted w
  means_in_turn small =
      let part = frames_in depth frames w in
      let begun = persisted_before depth frames persisted w in
      let M = together_means queues sizes part begun each_together small in
      let next : w * depth + depth ≡ suc w * depth = grind arith in
      record {
        exports = λ j k flown unit lt at is.
            let here : slice_get part j ≡ Some flown = got_taken j depth (drop (w * depth) frames) lt ∙ got_dropped (w * depth) j frames ∙ at in
            let same : persisted_after (take j part) begun ≡ persisted_after (take (w * depth + j) frames) persisted = ap (λ xs. persisted_after xs begun) (take_take j depth (drop (w * depth) frames) (omega (arith, lt))) ∙ sym (held_on (w * depth) j frames persisted) in
            subst (λ h. IsExport queues part begun j k unit (meaning (holding h flown) unit)) same (M.exports j k flown unit here is);
        left = subst (ArePersisted (IsLeft queues part begun) (last_sources 0 (given begun) part)) (sym (held_on (w * depth) depth frames persisted) ∙ ap (λ n. persisted_after (take n frames) persisted) next) M.left;
      }
