use Rattle.std.proofs.Common.{◌∙◌, ap, refl}
use Rattle.device_cache.specs.declared.change.Change.TheVariants as changes
use Rattle.device_cache.specs.Lines.{written, cleaned}
use Rattle.device_cache.specs.Tables.{caches_of}
use Rattle.device_cache.proofs.Effects.{changed_everywhere, main_written, line_cleaned}
use Rattle.device_cache.proofs.Calls.{keeps_segments}
use Rattle.device_cache.proofs.table.Segments.write_back_all.Goals as goal

pub returns-clause-bytes : goal.returns-clause-bytes
returns-clause-bytes c =
    let t = c.args.self.now in
    let e = c.change_everywhere.ensures in
    ap caches_of e.same ∙ changed_everywhere t c.change_everywhere.new.self.segments t.cuts_left c.args.agent changes.WriteBack c.requires e.lines e.rows written cleaned (λ x p cell. main_written t.slots x p cell) (λ x p cell. line_cleaned t.slots x p cell) refl refl

pub returns-clause-keeps : goal.returns-clause-keeps
returns-clause-keeps c = keeps_segments c.args.self.now c.change_everywhere.new.self c.change_everywhere.ensures.same c.change_everywhere.ensures.cuts
