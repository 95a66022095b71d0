use Rattle.std.proofs.Common.{◌≡◌, ◌∙◌, ◌+◌, ◌-◌, ◌<◌, ◌≤◌, length, take, drop, get_or, sym, ap, subst, ⊎_elim, arith}
use Rattle.std.proofs.lemmas.Bool.{cases_lt}
use Rattle.std.proofs.lemmas.List.{length-take, length-drop}
use Rattle.base.proofs.Lists.{mid_below, mid_at}
use borrow.Rule.Slice.PartMut.{put_mid}
use Rattle.device_cache.specs.declared.part.Part.{Part}
use Rattle.device_cache.specs.Places.{row_at}
use Rattle.device_cache.specs.Tables.{byte_in}
use Rattle.device_cache.specs.Internal.Kept.{PartFits}
use Rattle.device_cache.proofs.Running.{seen_fits}
use Rattle.device_cache.proofs.runs.copy_out.Goals as goal

pub copy_part-requires-clause-to : goal.copy_part-requires-clause-to
copy_part-requires-clause-to c =
    let run = c.run_at-run.result in
    let e = c.run_at-run.ensures in
    let i = c.loop-at.invariant in
    let x = run.end - 1 in
    let there = c.requires.there x (omega (arith, e.some, i.from)) (omega (arith, e.some, e.end)) in
    let P : Part → Type 0 = λ p. PartFits c.args.slots.now p x in
    let fits = subst P (e.part x (omega (arith, e.some)) (omega (arith, e.some))) (seen_fits c.args.slots.now (row_at c.args.segments.now x) c.args.agent x c.requires.agent there.fits) in
    omega (arith, fits.to, e.some, i.from, length-take (run.end - c.args.from - (c.loop-at.at - c.args.from)) (drop (c.loop-at.at - c.args.from) c.loop-at.out))

pub loop-at-preserved : goal.loop-at-preserved
loop-at-preserved c =
    let run = c.run_at-run.result in
    let e = c.run_at-run.ensures in
    let i = c.loop-at.invariant in
    let at = c.loop-at.at in
    let from = c.args.from in
    let out = c.loop-at.out in
    let piece = c.copy_part.new.out in
    let n = run.end - from - (at - from) in
    let inside : at - from ≤ length out = omega (arith, i.from, i.to, c.loop-at.auto.out) in
    record {
      from = omega (arith, i.from, e.some);
      to = e.end;
      here = λ less. sym (e.next less);
      done = λ k lt. ⊎_elim
          (λ (low : k < at - from). mid_below (at - from) n out piece k inside low ∙ i.done k low)
          (λ high.
          let j = k - (at - from) in
          let is : k ≡ (at - from) + j = omega (arith, high) in
          let there : at + j ≡ from + k = omega (arith, high, i.from) in
          let less : j < length (take n (drop (at - from) out)) = omega (arith, lt, high, e.end, c.loop-at.auto.out, length-take n (drop (at - from) out), length-drop (at - from) out) in
          let short : j < length piece = omega (arith, less, c.copy_part.auto.out) in
          ap (λ m. get_or (put_mid (at - from) n out piece) m 0) is ∙ mid_at (at - from) n out piece j inside short ∙ c.copy_part.ensures j less ∙ ap (byte_in c.args.slots.now run.part) there ∙ ap (λ (p : Part). byte_in c.args.slots.now p (from + k)) (sym (e.part (from + k) (omega (arith, there)) (omega (arith, lt)))))
          (cases_lt k (at - from));
    }
