use Rattle.std.proofs.Common.{◌≡◌, ◌∙◌, ℕ, ◌<◌, ◌≤◌, List, true, length, sym, ap, subst, ⊎_elim, arith}
use Rattle.std.specs.Prelude.{if◌then◌else◌}
use Rattle.device_cache.specs.declared.segment.Segment.{Segment}
use Rattle.device_cache.specs.Internal.Rows.{changed, ChangeIn}
use Rattle.device_cache.specs.Places.{place, row_at, cut_in}
use Rattle.device_cache.specs.Internal.Segments.{within}
use Rattle.device_cache.specs.Tables.{Table}
use Rattle.device_cache.specs.Internal.Kept.{ChangeFits}
use Rattle.std.proofs.lemmas.Bool.{cases_lt, lt-ltb, ltb-true}
use Rattle.device_cache.proofs.Placing.{place_mono}
use Rattle.device_cache.proofs.Changing.{changed_covers, changed_ascends, changed_cuts, changed_rows}
use Rattle.device_cache.proofs.Tiling.{laid, part_there, changed_tiled}
use Rattle.device_cache.proofs.table.Segments.change_between.Goals as goal

first : (c : goal.After-change_all-arg-2-1) → c.place_of-first.result ≡ place c.self.inside.segments.items c.args.from
first c = c.place_of-first.ensures.place ∙ ap (λ (xs : List Segment). place xs c.args.from) c.deref.ensures.value

last : (c : goal.After-change_all-arg-2-1) → c.place_of-last.result ≡ place c.self.inside.segments.items c.args.to
last c = c.place_of-last.ensures.place ∙ ap (λ (xs : List Segment). place xs c.args.to) c.deref-2.ensures.value

pub change_all-requires-clause-first : goal.change_all-requires-clause-first
change_all-requires-clause-first c = omega (arith, first c, last c, place_mono c.self.inside.segments.items c.args.from c.args.to c.requires.order)

pub change_all-requires-clause-laid : goal.change_all-requires-clause-laid
change_all-requires-clause-laid c = let inv = c.self.invariant in rw inv.counts (laid c.self.inside.total c.self.inside.slots.items c.self.inside.segments.items inv.tiled)

pub change_all-requires-clause-change : goal.change_all-requires-clause-change
change_all-requires-clause-change c less =
    let i = c.self.inside in
    let P : Table → Type 0 = λ t. ChangeFits t.slots c.args.change c.args.from c.args.to in
    let Q : ℕ → Type 0 = λ n. ChangeIn n c.args.change in
    let some : c.args.from < c.args.to = ⊎_elim
    (λ (lt : c.args.from < c.args.to). lt)
    (λ (ge : c.args.to ≤ c.args.from). absurd (omega (arith, less, first c, last c, place_mono i.segments.items c.args.to c.args.from ge)))
    (cases_lt c.args.from c.args.to) in
    subst Q (sym c.self.invariant.counts) (part_there i.slots.items c.args.change c.args.from c.args.to (subst P (sym c.self.view_is) c.requires.fits) some)

rows : (c : goal.After-change_all) → (x : ℕ) → x < c.self.inside.total → row_at c.change_all.new.segments.items x ≡ (if within c.args.from c.args.to x then changed c.args.agent c.args.change (row_at c.self.inside.segments.items x) else row_at c.self.inside.segments.items x)
rows c x lt =
    let i = c.self.inside in
    let inv = c.self.invariant in
    let e = c.change_all.ensures in
    let f = c.place_of-first.ensures.place ∙ ap (λ (xs : List Segment). place xs c.args.from) c.deref.ensures.value in
    let l = c.place_of-last.ensures.place ∙ ap (λ (xs : List Segment). place xs c.args.to) c.deref-2.ensures.value in
    let P : Table → Type 0 = λ t. (cut_in t.segments c.args.from ≡ true) × (cut_in t.segments c.args.to ≡ true) in
    let cuts = subst P (sym c.self.view_is) (c.requires.from, c.requires.to) in
    let there = ltb-true (place i.segments.items x) (length i.segments.items) (inv.tiled.covered x ∙ lt-ltb x i.total lt) in
    changed_rows i.segments.items c.change_all.new.segments.items e.length c.place_of-first.result c.place_of-last.result c.args.agent c.args.change e.each inv.tiled.ascending c.args.from c.args.to f l cuts.0 cuts.1 x there

pub invariant_of-self : goal.invariant_of-self
invariant_of-self c =
    let i = c.self.inside in
    let inv = c.self.invariant in
    let e = c.change_all.ensures in
    let P : Table → Type 0 = λ t. ChangeFits t.slots c.args.change c.args.from c.args.to in
    let fits = subst P (sym c.self.view_is) c.requires.fits in
    let new = c.change_all.new.segments.items in
    let f = c.place_of-first.result in
    let l = c.place_of-last.result in
    record {
      tiled = changed_tiled i.total i.slots.items i.segments.items new c.args.from c.args.to c.args.agent c.args.change c.requires.agent fits inv.tiled
          (changed_ascends i.segments.items new e.length f l c.args.agent c.args.change e.each inv.tiled.ascending)
          (changed_covers i.segments.items new e.length f l c.args.agent c.args.change e.each)
          (rows c)
          (changed_cuts i.segments.items new e.length f l c.args.agent c.args.change e.each i.total ∙ inv.tiled.whole);
      apart = inv.apart;
      agents = inv.agents;
      junk = inv.junk;
      counts = e.counts ∙ inv.counts;
      counted = e.counted;
      few = inv.few;
      cuts = omega (arith, inv.cuts, e.len, e.capacity);
      stores = inv.stores;
      counts_room = omega (arith, inv.counts_room, e.counts_len, e.counts_capacity);
    }

pub returns-clause-rows : goal.returns-clause-rows
returns-clause-rows c = let P : Table → Type 0 = λ t. (x : ℕ) → x < t.total → row_at c.change_all.new.segments.items x ≡ (if within c.args.from c.args.to x then changed c.args.agent c.args.change (row_at t.segments x) else row_at t.segments x) in subst P c.self.view_is (rows c)

pub returns-clause-cuts : goal.returns-clause-cuts
returns-clause-cuts c =
    let e = c.change_all.ensures in
    let P : Table → Type 0 = λ t. (x : ℕ) → cut_in c.change_all.new.segments.items x ≡ cut_in t.segments x in
    subst P c.self.view_is (changed_cuts c.self.inside.segments.items c.change_all.new.segments.items e.length c.place_of-first.result c.place_of-last.result c.args.agent c.args.change e.each)
