-- Texts that begin alike.
use Rattle.std.specs.Prelude.{ℕ, List, ◌++◌, ◌≡◌}

-- the second text is the first with something after it, or with nothing
pub record Starts (front whole : List ℕ) : Type 0 where
  pub rest : List ℕ
  pub joined : whole ≡ front ++ rest
