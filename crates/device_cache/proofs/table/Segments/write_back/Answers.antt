use Rattle.std.proofs.Common.{◌∙◌, ap}
use Rattle.device_cache.specs.declared.change.Change.TheVariants as changes
use Rattle.device_cache.specs.Lines.{written, cleaned}
use Rattle.device_cache.specs.Tables.{address, caches_of}
use Rattle.device_cache.proofs.Effects.{changed_bytes, main_written, line_cleaned}
use Rattle.device_cache.proofs.Calls.{keeps_cut}
use Rattle.device_cache.proofs.table.Segments.write_back.Goals as goal

pub returns-clause-bytes : goal.returns-clause-bytes
returns-clause-bytes c =
    let t = c.args.self.now in
    let new = c.change.new.self in
    let e = c.change.ensures in
    ap caches_of e.same ∙ changed_bytes t new.segments new.cuts_left c.args.agent c.args.memory c.args.start c.args.len changes.WriteBack c.requires.agent c.requires.within e.lines e.rows (λ i. written) (λ i l v. cleaned l) (λ i p cell h. main_written t.slots (address t c.args.memory i) p cell) (λ i p cell h. line_cleaned t.slots (address t c.args.memory i) p cell)

pub returns-clause-keeps : goal.returns-clause-keeps
returns-clause-keeps c = keeps_cut c.args.self.now c.change.new.self c.change.ensures.same c.change.ensures.cuts
