use Rattle.std.proofs.Common.{◌≡◌, drop}
use Rattle.device_audit.proofs.numbers.digits.Given as goal
use Rattle.device_audit.specs.TraceLines.{digits_after}

abbrev pub invariant-loop-digit : goal.invariant-loop-digit
invariant-loop-digit l = digits_after l.number (drop l.digit-index l.text) ≡ digits_after 0 l.text
