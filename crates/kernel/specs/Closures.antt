-- What a closure has to give at each place of some rows, as far as its results are kept.
use Rattle.std.specs.Prelude.{◌≡◌, ℕ, List, ◌+◌, ◌%◌, ◌<◌}
use Rattle.base.specs.Texels.{modulus, picture}
use Rattle.base.specs.declared.grid.Grid.{Grid}
use Rattle.base.specs.declared.shape.Texel.{Texel}
use Rattle.kernel.specs.declared.repainting.Area.{Area}

abbrev pub GivesOnly : (ℕ → ℕ → ℕ → Type 0) → Texel → ℕ → ℕ → ℕ → (ℕ → ℕ → ℕ) → Type 0
GivesOnly post t width first count p = (x y n : ℕ) → x < width → y < count → post x (first + y) n → n % modulus t ≡ p x (first + y) % modulus t

-- the same of the texels of an area, from what they were
abbrev pub ChangesOnly : (ℕ → ℕ → ℕ → ℕ → Type 0) → Grid → Area → List ℕ → (ℕ → ℕ → ℕ) → Type 0
ChangesOnly post g a old p = (x y n : ℕ) → x < a.width → y < a.height → post (picture g old (a.left + x) (a.top + y)) (a.left + x) (a.top + y) n → n % modulus g.texel ≡ p (a.left + x) (a.top + y) % modulus g.texel
