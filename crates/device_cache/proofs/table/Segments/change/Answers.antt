use Rattle.std.proofs.Common.{◌≡◌, ◌∙◌, ℕ, ◌+◌, ◌<◌, Bool, sym, ap, subst, arith}
use Rattle.std.specs.Prelude.{if◌then◌else◌}
use Rattle.base.proofs.Booleans.{kept_false}
use Rattle.device_cache.specs.declared.row.Row.{Row}
use Rattle.device_cache.specs.Lines.{is_in, range}
use Rattle.device_cache.specs.Internal.Rows.{changed}
use Rattle.device_cache.specs.Places.{cut_in, row_at}
use Rattle.device_cache.specs.Internal.Segments.{within}
use Rattle.device_cache.specs.Tables.{Table, address}
use Rattle.device_cache.specs.Internal.Kept.{AreApart, IsTiled}
use Rattle.device_cache.proofs.Addresses.{address_inside, range_addresses}
use Rattle.device_cache.proofs.Rooms.{toll_false, toll_kept, missing_is}
use Rattle.device_cache.proofs.table.Segments.change.Goals as goal

pub overflow_add-to : goal.overflow_add-to
overflow_add-to c = let e = c.first_address-from.ensures in omega (arith, e.within, e.fits)

pub cut-requires-clause-room : goal.cut-requires-clause-room
cut-requires-clause-room c none =
    omega (arith, c.requires.room, missing_is c.args.self.now c.args.memory c.args.start c.args.len c.first_address-from.result c.first_address-from.ensures.is, toll_false (cut_in c.args.self.now.segments c.first_address-from.result) none)

pub cut-requires-2-clause-within : goal.cut-requires-2-clause-within
cut-requires-2-clause-within c = omega (arith, c.first_address-from.ensures.within, ap (λ (t : Table). t.total) c.cut.ensures.same)

pub cut-requires-2-clause-room : goal.cut-requires-2-clause-room
cut-requires-2-clause-room c none =
    let from = c.first_address-from.result in
    let to = from + c.args.len in
    let before = kept_false (cut_in c.args.self.now.segments to) (cut_in c.cut.new.self.segments to) (c.cut.ensures.kept to) none in
    omega (arith, c.requires.room, missing_is c.args.self.now c.args.memory c.args.start c.args.len from c.first_address-from.ensures.is, toll_false (cut_in c.args.self.now.segments to) before, c.cut.ensures.left)

pub change_between-requires-clause-within : goal.change_between-requires-clause-within
change_between-requires-clause-within c = omega (arith, c.first_address-from.ensures.within, ap (λ (t : Table). t.total) c.cut.ensures.same, ap (λ (t : Table). t.total) c.cut-2.ensures.same)

pub returns-clause-left : goal.returns-clause-left
returns-clause-left c =
    let from = c.first_address-from.result in
    let to = from + c.args.len in
    omega (arith, missing_is c.args.self.now c.args.memory c.args.start c.args.len from c.first_address-from.ensures.is, toll_kept (cut_in c.args.self.now.segments to) (cut_in c.cut.new.self.segments to) (c.cut.ensures.kept to), c.cut.ensures.left, c.cut-2.ensures.left, ap (λ (t : Table). t.cuts_left) c.change_between.ensures.same)

-- the table is in order
order : (c : goal.After-change_between) → (let t = c.args.self.now in AreApart t.total t.memories × IsTiled t.total t.slots t.segments)
order c = let P : Table → Type 0 = λ t. AreApart t.total t.memories × IsTiled t.total t.slots t.segments in subst P c.self.view_is (c.self.invariant.apart, c.self.invariant.tiled)

pub returns-clause-lines : goal.returns-clause-lines
returns-clause-lines c m i lt = let t = c.args.self.now in omega (arith, ((order c).1.fits (address t m i) (address_inside t m i (order c).0 lt)).lines, c.requires.agent)

pub returns-clause-rows : goal.returns-clause-rows
returns-clause-rows c m i lt =
    let t = c.args.self.now in
    let g = c.args.agent in
    let change = c.args.change in
    let x = address t m i in
    let from = c.first_address-from.result in
    let to = from + c.args.len in
    let inside : x < c.cut-2.new.self.total = omega (arith, address_inside t m i (order c).0 lt, ap (λ (t : Table). t.total) c.cut.ensures.same, ap (λ (t : Table). t.total) c.cut-2.ensures.same) in
    let here : row_at c.cut-2.new.self.segments x ≡ row_at t.segments x = c.cut-2.ensures.rows x ∙ c.cut.ensures.rows x in
    let P : ℕ → Type 0 = λ n. within n (n + c.args.len) x ≡ is_in (range c.args.memory c.args.start c.args.len) m i in
    let range = subst P (sym c.first_address-from.ensures.is) (range_addresses t c.args.memory c.args.start c.args.len m i (order c).0 c.requires.within lt) in
    c.change_between.ensures.rows x inside ∙ ap (λ (r : Row). if within from to x then changed g change r else r) here ∙ ap (λ (b : Bool). if b then changed g change (row_at t.segments x) else row_at t.segments x) range
