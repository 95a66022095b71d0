use Rattle.std.proofs.Common.{length, ◌∙◌, ℕ, ◌-◌, List, sym, ap, subst, arith}
use Rattle.device_cache.specs.Lines.{range}
use Rattle.device_cache.specs.Effects.{put}
use Rattle.device_cache.specs.Tables.{Table, caches_of, missing, InMemory}
use Rattle.device_cache.proofs.Calls.{keeps_stored, keeps_all, stored_range, stored_missing}
use Rattle.device_cache.proofs.table.Segments.put.Goals as goal

pub lay-requires-clause-within : goal.lay-requires-clause-within
lay-requires-clause-within c =
    let old = c.args.self.now in
    let new = c.store-slot.new.self in
    let P : ℕ → Type 0 = λ n. InMemory old c.args.memory c.args.start n in
    let range = subst P (sym (c.checked_len-len.ensures ∙ c.len.ensures)) c.requires.within in
    stored_range old new new.slots (old.stores_left - 1) c.store-slot.ensures.same c.args.memory c.args.start c.checked_len-len.result range

pub lay-requires-clause-room : goal.lay-requires-clause-room
lay-requires-clause-room c =
    let old = c.args.self.now in
    let new = c.store-slot.new.self in
    let m = c.args.memory in
    let s = c.args.start in
    omega (arith, c.requires.room, ap (missing old m s) (c.checked_len-len.ensures ∙ c.len.ensures), stored_missing old new new.slots (old.stores_left - 1) c.store-slot.ensures.same m s c.checked_len-len.result, ap (λ (t : Table). t.cuts_left) c.store-slot.ensures.same)

pub returns-clause-bytes : goal.returns-clause-bytes
returns-clause-bytes c =
    let e = c.store-slot.ensures in
    c.lay.ensures.bytes ∙ ap (λ (xs : List ℕ). put c.args.agent (range c.args.memory c.args.start (length xs)) xs (caches_of c.store-slot.new.self)) e.here ∙ ap (put c.args.agent (range c.args.memory c.args.start (length c.args.contents)) c.args.contents) e.bytes

pub returns-clause-keeps : goal.returns-clause-keeps
returns-clause-keeps c =
    let old = c.args.self.now in
    let new = c.store-slot.new.self in
    keeps_all old new c.lay.new.self (keeps_stored old new new.slots (old.stores_left - 1) c.store-slot.ensures.same c.store-slot.ensures.junk) c.lay.ensures.keeps

pub returns-clause-cuts : goal.returns-clause-cuts
returns-clause-cuts c =
    let old = c.args.self.now in
    let new = c.store-slot.new.self in
    let m = c.args.memory in
    let s = c.args.start in
    omega (arith, c.lay.ensures.cuts, ap (missing old m s) (c.checked_len-len.ensures ∙ c.len.ensures), stored_missing old new new.slots (old.stores_left - 1) c.store-slot.ensures.same m s c.checked_len-len.result, ap (λ (t : Table). t.cuts_left) c.store-slot.ensures.same)
