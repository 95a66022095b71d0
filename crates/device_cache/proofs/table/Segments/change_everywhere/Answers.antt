use Rattle.std.proofs.Common.{◌≡◌, ◌∙◌, ℕ, ◌<◌, Bool, true, leb, ltb, refl, sym, ap, subst, arith}
use Rattle.std.specs.Prelude.{if◌then◌else◌}
use Rattle.std.proofs.lemmas.Bool.{and_from, le-leb, lt-ltb}
use Rattle.device_cache.specs.Internal.Kept.{AreApart, ChangeFits, IsTiled}
use Rattle.device_cache.specs.Internal.Rows.{changed}
use Rattle.device_cache.specs.Internal.Segments.{within}
use Rattle.device_cache.specs.Places.{row_at, cut_in}
use Rattle.device_cache.specs.Tables.{Table, address}
use Rattle.device_cache.proofs.Addresses.{address_inside}
use Rattle.device_cache.proofs.Placing.{cut_zero}
use Rattle.device_cache.proofs.table.Segments.change_everywhere.Goals as goal

pub change_between-requires-clause-within : goal.change_between-requires-clause-within
change_between-requires-clause-within c = omega (arith, ap (λ (t : Table). t.total) c.self.view_is)

pub change_between-requires-clause-from : goal.change_between-requires-clause-from
change_between-requires-clause-from c = cut_zero c.args.self.now.segments 0 refl

pub change_between-requires-clause-to : goal.change_between-requires-clause-to
change_between-requires-clause-to c = let P : Table → Type 0 = λ t. cut_in t.segments c.self.inside.total ≡ true in subst P c.self.view_is c.self.invariant.tiled.whole

pub change_between-requires-clause-fits : goal.change_between-requires-clause-fits
change_between-requires-clause-fits c = subst (λ (n : ℕ). ChangeFits c.args.self.now.slots c.args.change 0 n) (sym (ap (λ (t : Table). t.total) c.self.view_is)) c.requires.fits

-- the table is in order
order : (c : goal.After-change_between) → (let t = c.args.self.now in AreApart t.total t.memories × IsTiled t.total t.slots t.segments)
order c = let P : Table → Type 0 = λ t. AreApart t.total t.memories × IsTiled t.total t.slots t.segments in subst P c.self.view_is (c.self.invariant.apart, c.self.invariant.tiled)

pub returns-clause-lines : goal.returns-clause-lines
returns-clause-lines c m i lt = let t = c.args.self.now in omega (arith, ((order c).1.fits (address t m i) (address_inside t m i (order c).0 lt)).lines, c.requires.agent)

pub returns-clause-rows : goal.returns-clause-rows
returns-clause-rows c m i lt =
    let t = c.args.self.now in
    let g = c.args.agent in
    let change = c.args.change in
    let x = address t m i in
    let to = c.self.inside.total in
    let inside : x < t.total = address_inside t m i (order c).0 lt in
    let below : x < to = omega (arith, inside, ap (λ (t : Table). t.total) c.self.view_is) in
    let all : within 0 to x ≡ true = and_from (leb 0 x) (ltb x to) (le-leb 0 x (omega arith)) (lt-ltb x to below) in
    c.change_between.ensures.rows x inside ∙ ap (λ (b : Bool). if b then changed g change (row_at t.segments x) else row_at t.segments x) all
