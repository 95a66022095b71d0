use Rattle.std.proofs.Common.{◌∙◌, ◌<◌, length, refl, ap, subst, arith}
use Rattle.device_cache.specs.declared.part.Part.{Part}
use Rattle.device_cache.specs.Tables.{Table, caches_of, junk_of}
use Rattle.device_cache.proofs.Effects.{junked_bytes, byte_there}
use Rattle.device_cache.proofs.Calls.{keeps_cut}
use Rattle.device_cache.proofs.table.Segments.junk.Goals as goal

pub change-requires-clause-fits : goal.change-requires-clause-fits
unfolding junk_of
change-requires-clause-fits c x low high =
    let e = c.first_address-start_address.ensures.is in
    let P : Table → Type 0 = λ t. 0 < length t.slots in
    record { slot = subst P c.self.view_is c.self.invariant.junk; from = omega (arith, low, e); to = omega (arith, high, e, c.requires.junk) }

pub returns-clause-bytes : goal.returns-clause-bytes
unfolding junk_of
returns-clause-bytes c =
    let t = c.args.self.now in
    let new = c.change.new.self in
    let e = c.change.ensures in
    let p : Part = record { slot = 0; start = c.first_address-start_address.result } in
    ap caches_of e.same ∙ junked_bytes t new.segments new.cuts_left 0 c.args.memory c.args.start c.args.len p c.requires.within e.lines e.rows (junk_of t) (λ i h. byte_there t p c.args.memory c.args.start c.args.len i (junk_of t) refl c.first_address-start_address.ensures.is h)

pub returns-clause-keeps : goal.returns-clause-keeps
returns-clause-keeps c = keeps_cut c.args.self.now c.change.new.self c.change.ensures.same c.change.ensures.cuts
