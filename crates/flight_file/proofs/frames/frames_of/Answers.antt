use Rattle.std.proofs.Common.{Bor, ◌∙◌, ℕ, List, [], ◌∷◌, Err, length, get_or, refl, sym, ap, subst, arith}
use Rattle.std.proofs.lemmas.List.{length-append}
use Rattle.std.proofs.lemmas.Result.{err_from_is_err_and}
use Rattle.std.specs.Prelude.{Result}
use Rattle.flight_file.proofs.Cutting.{texts}
use Rattle.flight_file.proofs.Reading.{end_on, frame_on}
use Rattle.flight_file.proofs.frames.frames_of.Goals as goal
use Rattle.flight_file.specs.Internal.Reading.{Gives}
use Rattle.flight_file.specs.Files.{frames_of}
use Rattle.flight_file.specs.declared.frames.FlightFileError.{FlightFileError}
use Rattle.frame.specs.declared.frame.Frame.{Frame}

none : Bor (List ℕ)
none = record { ref_ptr = (0, 0); now = [] }

pub returns-in_err-good-clause-frames : goal.returns-in_err-good-clause-frames
unfolding none
returns-in_err-good-clause-frames c =
    let lines = c.args.lines.now in
    let i = c.loop-i.i in
    let e = c.in_err-good.field-0.0 in
    let total = frames_of 0 (texts lines) in
    let p = err_from_is_err_and c.from_residual.result c.from_residual.ensures.1 in
    let same = p.1 ∙ ap (λ (f : FlightFileError). Err f) p.2 in
    subst (λ (r : Result (List Frame) FlightFileError). Gives total r) (sym same) (end_on lines i (get_or lines i none) none e c.loop-i.frames total c.loop-i-test.true refl c.in_err-good.ensures c.loop-i.invariant.so_far)

pub loop-i-preserved : goal.loop-i-preserved
unfolding none
loop-i-preserved c =
    let lines = c.args.lines.now in
    let i = c.loop-i.i in
    let grows = c.in_ok-push.ensures.ok in
    let longer = ap length grows in
    record {
      many = omega (arith, longer, length-append c.loop-i.frames (c.in_ok-good.good ∷ []), c.loop-i.invariant.many);
      so_far = frame_on lines i (get_or lines i none) none c.in_ok-good.good c.loop-i.frames c.push.new.self (frames_of 0 (texts lines)) c.loop-i-test.true refl c.in_ok-good.ensures grows c.loop-i.invariant.so_far;
    }
