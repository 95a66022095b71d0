use Rattle.std.proofs.Common.{◌∙◌, ℕ, [], length, List, sym, ap, arith}
use Rattle.std.specs.Prelude.{slice_index_or}
use Rattle.std.proofs.lemmas.List.{length-replicate}
use Rattle.std.proofs.lemmas.Option.{get_or_from_slice_get, slice_get_within}
use Rattle.base.specs.Operands.{sources_of, destination_of}
use Rattle.base.specs.Shapes.{bytes_of, shape_at}
use Rattle.device.proofs.Olds.{same_leads, any_lead}
use Rattle.device.proofs.Sources.{old_long}
use Rattle.device.proofs.running.first_bytes.Goals as goal

pub old_bytes-requires : goal.old_bytes-requires
old_bytes-requires c bytes is =
    let shapes = c.args.shapes.now in
    let op = c.args.op.now in
    let loaded = c.args.loaded.now in
    let n = length (sources_of op) in
    omega (arith, ap length (get_or_from_slice_get loaded n bytes [] is), old_long shapes op loaded c.requires.runnable (slice_get_within loaded n bytes is), ap length c.requires.room, length-replicate {A = ℕ} (bytes_of (shape_at shapes (destination_of op))) 0)

pub returns-then-is_whole-clause-long : goal.returns-then-is_whole-clause-long
returns-then-is_whole-clause-long c = c.into_any.ensures ∙ ap length c.requires.room ∙ length-replicate {A = ℕ} (bytes_of (shape_at c.args.shapes.now (destination_of c.args.op.now))) 0

pub returns-then-is_whole-clause-same : goal.returns-then-is_whole-clause-same
returns-then-is_whole-clause-same c = any_lead c.args.shapes.now c.args.op.now c.args.loaded.now c.whole_leaves_nothing_old.ensures c.requires.runnable (sym c.is_whole.ensures ∙ c.if-is_whole.true) c.into_any.result (returns-then-is_whole-clause-long c)

pub returns-clause-long : goal.returns-clause-long
returns-clause-long c = c.old_bytes.ensures.long ∙ ap length c.requires.room ∙ length-replicate {A = ℕ} (bytes_of (shape_at c.args.shapes.now (destination_of c.args.op.now))) 0

pub returns-clause-same : goal.returns-clause-same
returns-clause-same c =
    let n = length (sources_of c.args.op.now) in
    same_leads c.args.shapes.now c.args.op.now c.old_bytes.result _ (c.old_bytes.ensures.bytes ∙ ap (λ (old : List ℕ). slice_index_or c.args.loaded.now n old) c.requires.room)
