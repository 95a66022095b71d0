use Rattle.std.proofs.Common.{◌≡◌, ◌∙◌, ◌+◌, ◌<◌, ℕ, List, length, arith, ap, sym, subst, true, false}
use Rattle.device_cache.specs.declared.segment.Segment.{Segment}
use Rattle.device_cache.specs.Places.{place, row_at, cut_in}
use Rattle.device_cache.specs.Internal.Segments.{covers, Ascending}
use Rattle.device_cache.proofs.Cutting.{cut, cut_is, cut_covers, cut_rows, cut_here, cuts_kept, cut_ascends}
use Rattle.std.specs.List.{insert}
use Rattle.std.proofs.lemmas.List.Sums.{sum_by-insert}
use Rattle.device_cache.specs.Internal.Uses.{row_uses, uses}
use Rattle.device_cache.proofs.Counting.{fewer}
use Rattle.device_cache.proofs.segment.cut_at.Goals as goal

is : (c : goal.After-insert_reserved) → c.place_of-index.result ≡ place c.args.segments.now.items c.args.at
is c = c.place_of-index.ensures.place ∙ ap (λ (xs : List Segment). place xs c.args.at) c.deref.ensures.value

none : (c : goal.After-insert_reserved) → cut_in c.args.segments.now.items c.args.at ≡ false
none c = ap (λ (xs : List Segment). cut_in xs c.args.at) (sym c.deref-2.ensures.value) ∙ sym c.is_edge.ensures ∙ c.if-is_edge.false

inside : (c : goal.After-insert_reserved) → c.place_of-index.result < length c.args.segments.now.items
inside c = omega (arith, is c, c.requires.within (none c))

-- the table that is left
after : (c : goal.After-insert_reserved) → List Segment
after c = cut c.args.segments.now.items c.args.at c.place_of-index.result (is c) (inside c)

made : (c : goal.After-insert_reserved) → after c ≡ c.insert_reserved.new.segments.items
unfolding after
made c = sym (c.insert_reserved.ensures.items ∙ cut_is c.args.segments.now.items c.args.at c.place_of-index.result (is c) (inside c) c.index.result.now c.index.ensures)

pub returns-clause-ascending : goal.returns-clause-ascending
unfolding after
returns-clause-ascending c = subst Ascending (made c) (cut_ascends c.args.segments.now.items c.args.at c.place_of-index.result (is c) (inside c) c.requires.ascending (none c))

pub returns-clause-covers : goal.returns-clause-covers
unfolding after
returns-clause-covers c = let P : List Segment → Type 0 = λ xs. (x : ℕ) → covers xs x ≡ covers c.args.segments.now.items x in subst P (made c) (cut_covers c.args.segments.now.items c.args.at c.place_of-index.result (is c) (inside c))

pub returns-clause-rows : goal.returns-clause-rows
unfolding after
returns-clause-rows c = let P : List Segment → Type 0 = λ xs. (x : ℕ) → row_at xs x ≡ row_at c.args.segments.now.items x in subst P (made c) (cut_rows c.args.segments.now.items c.args.at c.place_of-index.result (is c) (inside c))

pub returns-clause-here : goal.returns-clause-here
unfolding after
returns-clause-here c = let P : List Segment → Type 0 = λ xs. cut_in xs c.args.at ≡ true in subst P (made c) (cut_here c.args.segments.now.items c.args.at c.place_of-index.result (is c) (inside c))

pub returns-clause-kept : goal.returns-clause-kept
unfolding after
returns-clause-kept c = let P : List Segment → Type 0 = λ xs. (x : ℕ) → cut_in c.args.segments.now.items x ≡ true → cut_in xs x ≡ true in subst P (made c) (cuts_kept c.args.segments.now.items c.args.at c.place_of-index.result (is c) (inside c))

pub returns-clause-counted : goal.returns-clause-counted
returns-clause-counted c =
    let segments = c.args.segments.now.items in
    let row = c.index.result.now.row in
    let s : Segment = record { end = c.args.at; row = row } in
    fewer c.count_row.new.counts.items (λ slot. uses slot segments + row_uses slot row) (λ slot. uses slot c.insert_reserved.new.segments.items)
    (c.count_row.ensures.counted (λ slot. uses slot segments) c.requires.counted)
    (λ slot. let at : uses slot c.insert_reserved.new.segments.items ≡ uses slot (insert segments c.place_of-index.result s) = ap (uses slot) c.insert_reserved.ensures.items in omega (arith, at, sum_by-insert (λ (s : Segment). row_uses slot s.row) segments c.place_of-index.result s))
