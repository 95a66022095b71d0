-- Which pairs of accesses have to be synchronized, as a checker takes them: in one order of all nodes, first and second.
use Rattle.std.specs.Prelude.{◌≡◌, ℕ, List, true, false}
use Rattle.law_runs.specs.Apart.{Earlier}
use Rattle.law_runs.specs.Orders.{Before, Passed}
use Rattle.law_runs.specs.Systems.{Access, System, Has, changes, transfers, is_superseded}

-- of each two accesses that clash the first, of the node that stands earlier, is before the second, and a change is passed on;
-- a superseded store is second of pairs, never first; and what needs order alone needs order alone
pub record SynchronizedIn (S : System) (order : List ℕ) : Type 0 where
  pub before : (n m : ℕ) (a b : Access) → Has S n a → Has S m b → Earlier order n m → S.clash a b ≡ true → is_superseded a.doing ≡ false → Before S n a m b
  pub passed : (n m : ℕ) (a b : Access) → Has S n a → Has S m b → Earlier order n m → S.clash a b ≡ true → is_superseded a.doing ≡ false → changes a.doing ≡ true → transfers b.doing ≡ false → b.alone ≡ false → Passed S n a m b
