-- Numbers that pass a test of a range fit the form of a wider one.
use Rattle.std.proofs.Common.{◌≡◌, ℕ, ◌≤◌, true, arith}
use Rattle.std.specs.Prelude.{◌&&◌, nat_le}
use Rattle.std.proofs.lemmas.Bool.{and_parts, leb-true}
use Rattle.file_json.specs.Leaves.{FitsRange}

pub in_range : (least most wider n : ℕ) → (nat_le least n && nat_le n most) ≡ true → most ≤ wider → FitsRange least wider n
in_range least most wider n e le =
    let parts = and_parts (nat_le least n) (nat_le n most) e in
    (leb-true least n parts.0, omega (arith, leb-true n most parts.1, le))
