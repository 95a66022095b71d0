use Rattle.std.proofs.Common.{◌<◌, ◌*◌, length, ⊎_elim, refl, arith}
use Rattle.base_reach.proofs.WordBits.{nothing_grown, grown_whole, past_end}
use Rattle.base_reach.proofs.close.close_row.Goals as goal

pub words-init : goal.words-init
words-init c = record {
  size = refl;
  grown = nothing_grown c.args.direct.now c.args.table.now c.args.row.now (length c.args.row.now) c.args.from c.args.count c.requires.rows.wide c.requires.empty;
  taken = λ b lt h. absurd (
      let small : b < 64 * length c.args.row.now = ⊎_elim (λ k. k) (λ k. absurd (past_end c.args.direct.now b (omega (arith, k, c.requires.direct)) h)) (Rattle.std.proofs.lemmas.Bool.cases_lt b (64 * length c.args.row.now)) in
      let low = (c.requires.above b small h).0 in
      omega (arith, low, lt));
}

pub returns-clause-bits : goal.returns-clause-bits
returns-clause-bits c b lt = (
  λ h. c.words.invariant.grown.reached b lt h,
  λ t. grown_whole c.args.direct.now c.args.table.now c.words.row (length c.args.row.now) c.args.from c.args.count b c.requires.rows c.requires.above c.words.invariant.grown
      (λ y small h. c.words.invariant.taken y (omega arith) h)
      (λ y large h. past_end c.args.direct.now y (omega (arith, large, c.requires.direct)) h) lt t,
)
