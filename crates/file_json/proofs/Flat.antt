-- Values with no float that nest little, so that their text is read as the same value.
use Rattle.std.proofs.Common.{◌≡◌, ℕ, suc, ◌≤◌, Bool, true, false, arith, Ordering, Less, Equal, Greater, List, [], ◌∷◌, map, refl}
use Rattle.std.specs.Prelude.{◌||◌}
use Rattle.std.specs.Ordering.{nat_cmp, match_ordering}
use Rattle.std.specs.Cmp.Lexicographic.{slice_cmp}
use Rattle.file_json.specs.Leaves.{number_data}
use Rattle.serde_json.specs.Data.{Data, string, object, Members, no_members, member, put, depth, items_depth, members_depth}
use Rattle.serde_json.specs.View.{items_of}
use Rattle.serde_json.specs.Written.{has_float, items_have_float, members_have_float}

-- a value with no float that nests so deep at most
pub record IsFlat (most : ℕ) (d : Data) : Type 0 where
  pub plain : has_float d ≡ false
  pub shallow : depth d ≤ most

-- and so the values of members
pub record AreFlat (most : ℕ) (ms : Members) : Type 0 where
  pub plain : members_have_float ms ≡ false
  pub shallow : members_depth ms ≤ most

-- NUMBERS AND TEXTS

pub number_flat : (most n : ℕ) → IsFlat most (number_data n)
number_flat most n = record { plain = refl; shallow = omega arith }

pub text_flat : (most : ℕ) (text : List ℕ) → IsFlat most (string text)
text_flat most text = record { plain = refl; shallow = omega arith }

-- LISTS

module _ {X : Type 0} (writes : X → Data) (most : ℕ) (flat : (x : X) → IsFlat most (writes x)) where
  pub items_plain : (xs : List X) → items_have_float (items_of (map writes xs)) ≡ false
  items_plain [] = refl
  items_plain (x ∷ xs) = rw ((flat x).plain, items_plain xs) refl

  pub items_shallow : (xs : List X) → items_depth (items_of (map writes xs)) ≤ most
  items_shallow [] = omega arith
  items_shallow (x ∷ xs) = omega (arith, (flat x).shallow, items_shallow xs)

-- OBJECTS

pub object_flat : (most : ℕ) (ms : Members) → AreFlat most ms → IsFlat (suc most) (object ms)
object_flat most ms all = record { plain = all.plain; shallow = omega (arith, all.shallow) }

-- neither of two tests
first : (a b : Bool) → (a || b) ≡ false → a ≡ false
first true b e = absurd cc
first false b e = refl

second : (a b : Bool) → (a || b) ≡ false → b ≡ false
second true b e = absurd cc
second false b e = e

module _ (k : List ℕ) (v : Data) where
  plain_at : (o : Ordering) (l : List ℕ) (d : Data) (ms : Members) → has_float v ≡ false → members_have_float (member l d ms) ≡ false → members_have_float (put k v ms) ≡ false → members_have_float (match_ordering o (member k v (member l d ms)) (member l v ms) (member l d (put k v ms))) ≡ false
  plain_at Less l d ms one e later = rw (one, e) refl
  plain_at Equal l d ms one e later = rw (one, second (has_float d) _ e) refl
  plain_at Greater l d ms one e later = rw (first (has_float d) _ e, later) refl

  plain_put : (ms : Members) → has_float v ≡ false → members_have_float ms ≡ false → members_have_float (put k v ms) ≡ false
  plain_put no_members one e = rw one refl
  plain_put (member l d ms) one e = plain_at (slice_cmp nat_cmp k l) l d ms one e (plain_put ms one (second (has_float d) _ e))

  shallow_at : (o : Ordering) (l : List ℕ) (d : Data) (ms : Members) (n : ℕ) → depth v ≤ n → members_depth (member l d ms) ≤ n → members_depth (put k v ms) ≤ n → members_depth (match_ordering o (member k v (member l d ms)) (member l v ms) (member l d (put k v ms))) ≤ n
  shallow_at Less l d ms n one e later = omega (arith, one, e)
  shallow_at Equal l d ms n one e later = omega (arith, one, e)
  shallow_at Greater l d ms n one e later = omega (arith, e, later)

  shallow_put : (ms : Members) (n : ℕ) → depth v ≤ n → members_depth ms ≤ n → members_depth (put k v ms) ≤ n
  shallow_put no_members n one e = omega (arith, one)
  shallow_put (member l d ms) n one e = shallow_at (slice_cmp nat_cmp k l) l d ms n one e (shallow_put ms n one (omega (arith, e)))

  -- one more member
  pub with_one : (most : ℕ) (ms : Members) → IsFlat most v → AreFlat most ms → AreFlat most (put k v ms)
  with_one most ms one all = record { plain = plain_put ms one.plain all.plain; shallow = shallow_put ms most one.shallow all.shallow }
