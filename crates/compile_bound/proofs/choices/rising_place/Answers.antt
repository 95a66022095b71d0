use Rattle.std.proofs.Common.{◌∙◌, sym, get_or, nat_lt, length, ◌≡◌, arith}
use Rattle.std.proofs.lemmas.Bool.{lt-ltb}
use Rattle.std.proofs.lemmas.List.Sums.{position_or_len_is}
use Rattle.compile_bound.proofs.choices.rising_place.Goals as goal

pub returns-then-s-r-clause-place : goal.returns-then-s-r-clause-place
returns-then-s-r-clause-place c =
    let lt = c.loop-place-test.true in
    sym (position_or_len_is (nat_lt c.args.s) c.args.chosen.now c.loop-place.place 0 (omega (arith, lt)) c.loop-place.invariant (λ inside. lt-ltb c.args.s (get_or c.args.chosen.now c.loop-place.place 0) c.if-s-r.true))

pub returns-clause-place : goal.returns-clause-place
returns-clause-place c =
    let most = c.loop-place.auto.place-end in
    let least = c.loop-place-test.false in
    let all : length c.args.chosen.now ≡ c.loop-place.place = omega (arith, most, least) in
    all ∙ sym (position_or_len_is (nat_lt c.args.s) c.args.chosen.now c.loop-place.place 0 most c.loop-place.invariant (λ inside. absurd (omega (arith, inside, least))))
