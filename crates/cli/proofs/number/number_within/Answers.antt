use Rattle.std.proofs.Common.{sym, ap, ◌∙◌}
use Rattle.cli.proofs.Numerals.{unread}
use Rattle.cli.proofs.number.number_within.Goals as goal
use Rattle.cli.specs.Numbers.{is_number}

pub returns-in_default-3 : goal.returns-in_default-3
returns-in_default-3 c =
    unread c.args.least c.args.most c.args.word.now (ap is_number (sym c.as_bytes.ensures.value) ∙ (sym c.is_number.ensures ∙ c.if-not-is_number.false)) c.in_default.ensures.value.0 c.ranges.most.fits
