use Rattle.std.proofs.Common.{rules, ◌≡◌, ℕ, List, ◌++◌, length, take, drop, sym, subst}
use Rattle.device_cache.specs.declared.segment.Segment.{Segment}
use Rattle.device_cache.specs.Internal.Uses.{uses, Counts}
use Rattle.device_cache.proofs.Counting.{whole}
use Rattle.device_cache.proofs.segment.change_all.Goals as goal

pub returns-clause-counted : goal.returns-clause-counted
returns-clause-counted c =
    let v = c.args.counts.now in
    let s = c.args.segments.now in
    let counts = c.change_in.new.counts in
    let segments = c.change_in.new.segments in
    let counts_long : v.len ≡ length counts = search rules in
    let segments_long : s.len ≡ length segments = search rules in
    let same = whole s.len segments s.items segments_long in
    let P : List Segment → Type 0 = λ segments. Counts counts (λ slot. uses slot segments) in
    let Q : List ℕ → Type 0 = λ counts. Counts counts (λ slot. uses slot (take s.len (segments ++ drop (length segments) s.items))) in
    subst Q (sym (whole v.len counts v.items counts_long)) (subst P (sym same) c.change_in.ensures.counted)
