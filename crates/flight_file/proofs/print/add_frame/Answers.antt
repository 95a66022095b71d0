use Rattle.std.proofs.Common.{◌≡◌, ◌<◌, ◌++◌, ◌∙◌, IfSome, Option, List, ℕ, append_assoc, append-nil, length, sym, ap, subst, arith}
use Rattle.std.proofs.lemmas.Option.{slice_get_within}
use Rattle.flight_file.proofs.print.add_frame.Goals as goal
use Rattle.flight_file.specs.Texts.{bytes_alone}
use Rattle.frame.specs.Numbered.{numbered}
use Rattle.frame.specs.declared.frame.Frame.{Frame}
use Rattle.report.specs.Exports.{export_text}
use Rattle.report.specs.Flights.{flight_text}
use Rattle.report.specs.declared.flight.FlightLine.TheVariants as lines
use Rattle.device_run.specs.Runs.{read_by}
use Rattle.compile_file.proofs.Turns.{one_more}
use Rattle.compile_file.specs.Exports.{in_turn}

pub export-requires-clause-there : goal.export-requires-clause-there
export-requires-clause-there c = slice_get_within c.args.windows.now.frames c.args.i c.args.good.now c.requires.there

pub export-requires-clause-exports : goal.export-requires-clause-exports
export-requires-clause-exports c =
    let same = ap length c.exports.ensures.exports in
    let lt : c.loop-k.k < length (numbered c.args.good.now).exports = omega (arith, c.loop-k-test.true, same) in
    subst (λ (o : Option Frame). IfSome o (λ f. c.loop-k.k < length (numbered f).exports)) (sym c.requires.there) lt

pub bytes_of-requires-clause-complete : goal.bytes_of-requires-clause-complete
bytes_of-requires-clause-complete c = c.requires.prints.read.complete

pub bytes_of-requires-clause-there : goal.bytes_of-requires-clause-there
bytes_of-requires-clause-there c =
    let prints = c.requires.prints in
    omega (arith, c.export.ensures.within prints.persisted prints.read.sized, prints.read.readbacks)

pub export_text-requires : goal.export_text-requires
export_text-requires c =
    let same = ap length c.exports.ensures.exports in
    omega (arith, c.loop-k-test.true, same)

pub loop-k-init : goal.loop-k-init
loop-k-init c = c.in_ok-flight_text.ensures.ok ∙ sym (append-nil (c.args.text.now ++ flight_text (lines.Frame c.args.i)))

pub loop-k-preserved : goal.loop-k-preserved
loop-k-preserved c =
    let F = c.args.windows.now in
    let good = c.args.good.now in
    let i = c.args.i in
    let k = c.loop-k.k in
    let same = ap length c.exports.ensures.exports in
    let lt : k < length (numbered good).exports = omega (arith, c.loop-k-test.true, same) in
    let read = c.bytes_of.ensures ∙ ap (read_by c.args.device.now) c.export.ensures.place ∙ sym (c.requires.prints.printed k good c.requires.there lt) in
    one_more (λ n. export_text good n (bytes_alone F.frames F.persist i good n)) k (c.args.text.now ++ flight_text (lines.Frame i)) c.loop-k.text _ c.export_text.new.text c.loop-k.invariant (ap (export_text good k) read) c.in_ok-export_text.ensures.ok

pub returns : goal.returns
returns c =
    let F = c.args.windows.now in
    let good = c.args.good.now in
    let i = c.args.i in
    let old = c.args.text.now in
    let line = flight_text (lines.Frame i) in
    let texts : ℕ → List ℕ = in_turn (λ n. export_text good n (bytes_alone F.frames F.persist i good n)) in
    let same = ap length c.exports.ensures.exports in
    let all : c.loop-k.k ≡ length (numbered good).exports = omega (arith, c.loop-k-test.false, c.loop-k.auto.k-end, same) in
    c.loop-k.invariant ∙ ap (λ m. (old ++ line) ++ texts m) all ∙ append_assoc old line (texts (length (numbered good).exports))
