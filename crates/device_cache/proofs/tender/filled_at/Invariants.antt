use Rattle.std.proofs.Common.{◌≡◌, ◌<◌, ◌+◌, ℕ, length}
use Rattle.std.specs.Prelude.{slice_index_or, filter, nat_lt}
use Rattle.std.specs.List.{enumerate_from}
use Rattle.device_cache.specs.Draws.{filled}
use Rattle.device_cache.proofs.tender.filled_at.Given as goal

abbrev pub invariant-loop-i : goal.invariant-loop-i
invariant-loop-i l =
    let ahead = filter (λ (p : ℕ × ℕ). nat_lt 0 p.1) (enumerate_from l.i l.rest) in
    (l.i + length l.rest ≡ length l.sizes) × (l.left < length ahead) × (slice_index_or ahead l.left (0, 1) ≡ slice_index_or (filled l.sizes) l.fn.k (0, 1))
