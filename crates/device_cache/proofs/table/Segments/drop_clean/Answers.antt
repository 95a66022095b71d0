use Rattle.std.proofs.Common.{◌∙◌, ap, refl}
use Rattle.device_cache.specs.declared.change.Change.TheVariants as changes
use Rattle.device_cache.specs.Lines.{dropped}
use Rattle.device_cache.specs.Tables.{address, caches_of}
use Rattle.device_cache.proofs.Effects.{changed_bytes, main_kept, line_dropped}
use Rattle.device_cache.proofs.Calls.{keeps_cut}
use Rattle.device_cache.proofs.table.Segments.drop_clean.Goals as goal

pub returns-clause-bytes : goal.returns-clause-bytes
returns-clause-bytes c =
    let t = c.args.self.now in
    let new = c.change.new.self in
    let e = c.change.ensures in
    ap caches_of e.same ∙ changed_bytes t new.segments new.cuts_left c.args.agent c.args.memory c.args.start c.args.len changes.DropClean c.requires.agent c.requires.within e.lines e.rows (λ i l v. v) (λ i l v. dropped l) (λ i p cell h. refl) (λ i p cell h. line_dropped t.slots (address t c.args.memory i) p cell) ∙ main_kept c.args.agent c.args.memory c.args.start c.args.len (λ i l v. dropped l) (caches_of t)

pub returns-clause-keeps : goal.returns-clause-keeps
returns-clause-keeps c = keeps_cut c.args.self.now c.change.new.self c.change.ensures.same c.change.ensures.cuts
