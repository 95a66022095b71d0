use Rattle.std.proofs.Common.{◌≡◌, ◌∙◌, ℕ, ◌-◌, refl, sym, ap, subst, arith}
use Rattle.std.specs.Prelude.{slice_index, ◌==◌, ◌&&◌, if◌then◌else◌}
use Rattle.device_cache.specs.declared.part.Part.{Part}
use Rattle.device_cache.specs.declared.change.Change.TheVariants as changes
use Rattle.device_cache.specs.Lines.{Line, Dirty, is_in, range}
use Rattle.device_cache.specs.Tables.{caches_of, slot_at}
use Rattle.device_cache.proofs.Effects.{changed_bytes, main_kept, byte_there}
use Rattle.device_cache.proofs.Calls.{keeps_cut}
use Rattle.device_cache.proofs.table.Segments.lay.Goals as goal

pub change-requires-clause-fits : goal.change-requires-clause-fits
change-requires-clause-fits c x low high =
    let e = c.first_address-start_address.ensures.is in
    record { slot = c.requires.slot; from = omega (arith, low, e); to = omega (arith, high, e, c.requires.bytes) }

pub returns-clause-bytes : goal.returns-clause-bytes
returns-clause-bytes c =
    let t = c.args.self.now in
    let new = c.change.new.self in
    let e = c.change.ensures in
    let p : Part = record { slot = c.args.slot; start = c.first_address-start_address.result } in
    let bytes = slot_at t.slots c.args.slot in
    let line : ℕ → Line → ℕ → Line = λ i l v. Dirty (slice_index bytes (i - c.args.start)) in
    let P : ℕ → Type 0 = λ n. caches_of new ≡ record (caches_of t) { line = λ g m i. if (g == c.args.agent) && is_in (range c.args.memory c.args.start n) m i then Dirty (slice_index bytes (i - c.args.start)) else (caches_of t).line g m i } in
    subst P (sym c.requires.bytes) (ap caches_of e.same ∙ changed_bytes t new.segments new.cuts_left c.args.agent c.args.memory c.args.start c.args.len (changes.Put p) c.requires.agent c.requires.within e.lines e.rows (λ i l v. v) line (λ i q cell h. refl) (λ i q cell h. ap Dirty (byte_there t p c.args.memory c.args.start c.args.len i bytes refl c.first_address-start_address.ensures.is h)) ∙ main_kept c.args.agent c.args.memory c.args.start c.args.len line (caches_of t))

pub returns-clause-keeps : goal.returns-clause-keeps
returns-clause-keeps c = keeps_cut c.args.self.now c.change.new.self c.change.ensures.same c.change.ensures.cuts
