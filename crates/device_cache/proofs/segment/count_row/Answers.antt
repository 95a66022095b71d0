use Rattle.std.proofs.Common.{rules, ◌≡◌, ℕ, ◌+◌, List, length, sym, subst}
use Rattle.device_cache.specs.Internal.Uses.{row_uses, Counts}
use Rattle.device_cache.proofs.Counting.{whole}
use Rattle.device_cache.proofs.segment.count_row.Goals as goal

pub returns-clause-counted : goal.returns-clause-counted
returns-clause-counted c f C =
    let v = c.args.counts.now in
    let new = c.raise_row.new.counts in
    let long : v.len ≡ length new = search rules in
    let P : List ℕ → Type 0 = λ counts. Counts counts (λ slot. f slot + row_uses slot c.args.row.now) in
    subst P (sym (whole v.len new v.items long)) (c.raise_row.ensures f (subst (λ (counts : List ℕ). Counts counts f) (sym c.deref_mut.ensures.value) C))
