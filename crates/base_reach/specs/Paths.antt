-- Paths over a relation.
use Rattle.std.specs.Prelude.{◌≡◌, ℕ, Bool, true}

-- a path of at least one edge: the least transitive relation that holds the edges
pub data Path (edge : ℕ → ℕ → Bool) : ℕ → ℕ → Type 0 where
  one : {a b : ℕ} → edge a b ≡ true → Path edge a b
  then_on : {a b c : ℕ} → Path edge a b → Path edge b c → Path edge a c
