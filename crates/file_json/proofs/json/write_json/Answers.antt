use Rattle.std.proofs.Common.{Some}
use Rattle.file_json.proofs.Bytes.{json_of-written}
use Rattle.file_json.proofs.json.write_json.Goals as goal

pub returns-clause-again : goal.returns-clause-again
returns-clause-again g c = λ le.
    let d = g.F.Writer.writes c.args.value.now in
    rw c.from_vec.ensures (json_of-written _ (Some d) c.in_ok-text.ensures.utf8 (rw (← c.in_ok-json.ensures) (c.in_ok-text.ensures.reads_back (rw c.in_ok-json.ensures le))))
