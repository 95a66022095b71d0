-- Rectangles that are changed texel by texel, row by row.
use Rattle.std.proofs.Common.{◌≡◌, ◌≢◌, ℕ, ◌+◌, ◌*◌, ◌%◌, ◌<◌, Bool, true, false, arith, sym, ap, ◌∙◌, inl, inr, List, zero-add}
use Rattle.std.specs.Prelude.{◌||◌, if◌then◌else◌}
use Rattle.std.proofs.lemmas.Bool.{cases_eq}
use Rattle.std.proofs.lemmas.Bool.Decides.{nat_tests}
use Rattle.std.proofs.lemmas.Nat.{same_from_place}
use Rattle.base.specs.Kernels.{is_inside}
use Rattle.base.specs.Texels.{modulus, texel_at, picture}
use Rattle.base.specs.declared.grid.Grid.{Grid}
use Rattle.kernel.proofs.Numbers.{AreBytes, whole_texel}
use Rattle.kernel.proofs.Rows.{IsImage}
use Rattle.kernel.specs.declared.repainting.Area.{Area}

-- the rows before this one are changed, and so many columns of this one
abbrev pub is_reached : Area → ℕ → ℕ → ℕ → ℕ → Bool
is_reached a row column x y = is_inside a.left a.top a.width row x y || is_inside a.left (a.top + row) column 1 x y

none : (a : Area) (x y : ℕ) → is_reached a 0 0 x y ≡ false
none a x y = grind (arith, nat_tests)

row_ends : (a : Area) (row x y : ℕ) → is_reached a row a.width x y ≡ is_reached a (row + 1) 0 x y
row_ends a row x y = grind (arith, nat_tests)

all : (a : Area) (x y : ℕ) → is_reached a a.height 0 x y ≡ is_inside a.left a.top a.width a.height x y
all a x y = grind (arith, nat_tests)

other_row : (a : Area) (row column x y : ℕ) → y ≢ a.top + row → is_reached a row (column + 1) x y ≡ is_reached a row column x y
other_row a row column x y ne = grind (arith, nat_tests)

other_column : (a : Area) (row column x : ℕ) → x ≢ a.left + column → is_reached a row (column + 1) x (a.top + row) ≡ is_reached a row column x (a.top + row)
other_column a row column x ne = grind (arith, nat_tests)

just_reached : (a : Area) (row column : ℕ) → is_reached a row (column + 1) (a.left + column) (a.top + row) ≡ true
just_reached a row column = grind (arith, nat_tests)

not_yet : (a : Area) (row column : ℕ) → is_reached a row column (a.left + column) (a.top + row) ≡ false
not_yet a row column = grind (arith, nat_tests)

-- the texels reached are those of f, and the others are those of q
abbrev pub IsReached : (g : Grid) → Area → ℕ → ℕ → (ℕ → ℕ → ℕ) → (ℕ → ℕ → ℕ) → List ℕ → Type 0
IsReached g a row column q f bytes = (x y : ℕ) → x < g.width → y < g.height → picture g bytes x y ≡ (if is_reached a row column x y then f x y else q x y) % modulus g.texel

pub reached_none : (g : Grid) (a : Area) (f : ℕ → ℕ → ℕ) (bytes : List ℕ) → AreBytes bytes → IsReached g a 0 0 (picture g bytes) f bytes
reached_none g a f bytes fit x y hx hy = rw (none a x y) (whole_texel g.texel bytes (y * g.width + x) fit)

pub reached_row : (g : Grid) (a : Area) (row column : ℕ) (q f : ℕ → ℕ → ℕ) (bytes : List ℕ) → column ≡ a.width → IsReached g a row column q f bytes → IsReached g a (row + 1) 0 q f bytes
reached_row g a row column q f bytes end up x y hx hy = rw (row_ends a row x y) at (rw end at up x y hx hy)

pub reached_all : (g : Grid) (a : Area) (row : ℕ) (q f : ℕ → ℕ → ℕ) (bytes : List ℕ) → row ≡ a.height → IsReached g a row 0 q f bytes
    → IsImage (texel_at g.texel bytes) g.width g.height (λ x y. (if is_inside a.left a.top a.width a.height x (0 + y) then f x (0 + y) else q x (0 + y)) % modulus g.texel)
reached_all g a row q f bytes end up x y hx hy = rw zero-add (rw (all a x y) at (rw end at up x y hx hy))

-- what is still to be changed
pub untouched : (g : Grid) (a : Area) (row column : ℕ) (f : ℕ → ℕ → ℕ) (start bytes : List ℕ) → AreBytes start → a.left + column < g.width → a.top + row < g.height
    → IsReached g a row column (picture g start) f bytes → picture g bytes (a.left + column) (a.top + row) ≡ picture g start (a.left + column) (a.top + row)
untouched g a row column f start bytes fit hx hy up =
    rw (not_yet a row column) at (up (a.left + column) (a.top + row) hx hy)
    ∙ sym (whole_texel g.texel start ((a.top + row) * g.width + (a.left + column)) fit)

pub reached_more : (g : Grid) (a : Area) (row column : ℕ) (q f : ℕ → ℕ → ℕ) (old new : List ℕ) → a.left + column < g.width → a.top + row < g.height
    → IsReached g a row column q f old
    → picture g new (a.left + column) (a.top + row) ≡ f (a.left + column) (a.top + row) % modulus g.texel
    → ((k : ℕ) → k ≢ (a.top + row) * g.width + (a.left + column) → texel_at g.texel new k ≡ texel_at g.texel old k)
    → IsReached g a row (column + 1) q f new
reached_more g a row column q f old new hx hy up here others x y wx wy =
    elim (cases_eq y (a.top + row)) [
      | inl same_row ↦
          elim (cases_eq x (a.left + column)) [
            | inl same ↦ rw (same_row, same, just_reached a row column) here
            | inr ne ↦
                others (y * g.width + x) (λ e. ne (same_from_place y x (a.top + row) (a.left + column) g.width wx hx e).1)
                ∙ up x y wx wy
                ∙ ap (λ b. (if b then f x y else q x y) % modulus g.texel) (rw same_row (sym (other_column a row column x ne)))
          ]
      | inr ne ↦
          others (y * g.width + x) (λ e. ne (same_from_place y x (a.top + row) (a.left + column) g.width wx hx e).0)
          ∙ up x y wx wy
          ∙ ap (λ b. (if b then f x y else q x y) % modulus g.texel) (sym (other_row a row column x y ne))
    ]
