-- Sums of bytes.
use Rattle.std.proofs.Common.{◌≡◌, ◌+◌, ◌++◌, ℕ, suc, List, length, length-append, subst, sym, arith}
use Rattle.std.specs.List.{sum}
use Rattle.std.proofs.lemmas.List.Sums.{sum_by-append}
pub use Rattle.report.proofs.Sums.{sum_more}
use Rattle.top.specs.Internal.Totals.{IsTotal}
use Rattle.compile_file.specs.Exports.{in_turn}
use Rattle.top.specs.declared.totals.Total.{Total}

-- one list more
pub total_more : (bytes : ℕ → List ℕ) (k : ℕ) (total more new : Total) → IsTotal bytes k total → more.bytes ≡ length (bytes k) → more.sum ≡ sum (bytes k) → new.bytes ≡ total.bytes + more.bytes → new.sum ≡ total.sum + more.sum → IsTotal bytes (k + 1) new
total_more bytes k total more new was long summed counted added =
    let next : k + 1 ≡ suc k = omega arith in
    let lengths = length-append (in_turn bytes k) (bytes k) in
    let sums : sum (in_turn bytes k ++ bytes k) ≡ sum (in_turn bytes k) + sum (bytes k) = sum_by-append (λ (x : ℕ). x) (in_turn bytes k) (bytes k) in
    subst (λ (n : ℕ). IsTotal bytes n new) (sym next) (record {
      all = omega (arith, was.all, long, counted, lengths);
      summed = omega (arith, was.summed, summed, added, sums);
    })
