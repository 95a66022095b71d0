-- Four bytes written one after another.
use Rattle.std.proofs.Common.{◌≡◌, ◌≢◌, ℕ, ◌+◌, ◌*◌, ◌<◌, ◌≤◌, List, length, get_or, arith, refl, sym, ◌∙◌}
use Rattle.std.proofs.Math.ListN.{set}
use Rattle.std.proofs.lemmas.Grind.{common_steps}
use Rattle.base.specs.Texels.{texel_at}
use Rattle.base.specs.declared.shape.Texel.TheVariants.{R32}
use Rattle.kernel.proofs.Numbers.{word_is}

record IsFour (ys xs : List ℕ) (k a b c d : ℕ) : Type 0 where
  first : get_or ys k 0 ≡ a
  second : get_or ys (k + 1) 0 ≡ b
  third : get_or ys (k + 2) 0 ≡ c
  fourth : get_or ys (k + 3) 0 ≡ d
  below : (j : ℕ) → j < k → get_or ys j 0 ≡ get_or xs j 0
  above : (j : ℕ) → k + 4 ≤ j → get_or ys j 0 ≡ get_or xs j 0

abbrev pub set_four : List ℕ → ℕ → ℕ → ℕ → ℕ → ℕ → List ℕ
set_four xs k a b c d = set (set (set (set xs k a) (k + 1) b) (k + 2) c) (k + 3) d

four : (xs : List ℕ) (k a b c d : ℕ) → k + 4 ≤ length xs → IsFour (set_four xs k a b c d) xs k a b c d
four xs k a b c d long = record {
  first = grind (arith, common_steps);
  second = grind (arith, common_steps);
  third = grind (arith, common_steps);
  fourth = grind (arith, common_steps);
  below = λ j h. grind (arith, common_steps);
  above = λ j h. grind (arith, common_steps);
}

pub put_here : (xs : List ℕ) (i a b c d : ℕ) → 4 * i + 4 ≤ length xs → texel_at R32 (set_four xs (4 * i) a b c d) i ≡ a + 256 * b + 65536 * c + 16777216 * d
put_here xs i a b c d long =
    let f = four xs (4 * i) a b c d long in
    word_is (set_four xs (4 * i) a b c d) i ∙ rw (f.first, f.second, f.third, f.fourth) refl

pub put_others : (xs : List ℕ) (i a b c d : ℕ) → 4 * i + 4 ≤ length xs → (k : ℕ) → k ≢ i → texel_at R32 (set_four xs (4 * i) a b c d) k ≡ texel_at R32 xs k
put_others xs i a b c d long k ne =
    let f = four xs (4 * i) a b c d long in
    let e : get_or (set_four xs (4 * i) a b c d) (4 * k) 0 + 256 * get_or (set_four xs (4 * i) a b c d) (4 * k + 1) 0 + 65536 * get_or (set_four xs (4 * i) a b c d) (4 * k + 2) 0 + 16777216 * get_or (set_four xs (4 * i) a b c d) (4 * k + 3) 0 ≡ get_or xs (4 * k) 0 + 256 * get_or xs (4 * k + 1) 0 + 65536 * get_or xs (4 * k + 2) 0 + 16777216 * get_or xs (4 * k + 3) 0 = grind (arith, f.below, f.above) in
    word_is (set_four xs (4 * i) a b c d) k ∙ e ∙ sym (word_is xs k)
