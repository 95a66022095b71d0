-- Room for cuts.
use Rattle.std.proofs.Common.{◌≡◌, ℕ, ◌+◌, ◌≤◌, Bool, true, false, refl, arith}
use Rattle.std.specs.Prelude.{if◌then◌else◌}
use Rattle.device_cache.specs.Places.{cut_in}
use Rattle.device_cache.specs.Tables.{Table, address, is_cut, missing}

-- how many cuts a cut takes
abbrev pub toll : Bool → ℕ
toll b = if b then 0 else 1

pub toll_false : (b : Bool) → b ≡ false → toll b ≡ 1
toll_false b e = rw e refl

pub toll_kept : (b c : Bool) → (b ≡ true → c ≡ true) → toll c ≤ toll b
toll_kept true c f = rw (f refl) (omega arith)
toll_kept false true f = omega arith
toll_kept false false f = omega arith

pub missing_is : (t : Table) (memory start size from : ℕ) → from ≡ address t memory start → missing t memory start size ≡ toll (cut_in t.segments from) + toll (cut_in t.segments (from + size))
unfolding is_cut address
missing_is t memory start size from is =
    let to : (address t memory (start + size)) ≡ from + size = omega (arith, is) in rw (← is, to) refl

pub toll_le : (b : Bool) → toll b ≤ 1
toll_le true = omega arith
toll_le false = omega arith
