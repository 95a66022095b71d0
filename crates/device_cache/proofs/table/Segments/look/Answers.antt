use Rattle.std.proofs.Common.{◌≡◌, ◌∙◌, ℕ, ◌+◌, List, Some, get_or, ap, subst, arith}
use Rattle.device_cache.specs.declared.segment.Segment.{Segment}
use Rattle.device_cache.specs.Internal.Rows.{seen_part}
use Rattle.device_cache.specs.Places.{row_at}
use Rattle.device_cache.specs.Tables.{Table, address, byte_in}
use Rattle.device_cache.proofs.table.Segments.look.Goals as goal

pub returns-clause-bytes : goal.returns-clause-bytes
unfolding address
returns-clause-bytes c k lt =
    let t = c.args.self.now in
    let agent = Some c.args.agent in
    let from = c.first_address-from.result in
    let new = get_or c.in_ok-bytes.bytes k 0 in
    let P : List Segment → Type 0 = λ xs. new ≡ byte_in c.deref-2.result.now (seen_part (row_at xs (from + k)) agent) (from + k) in
    let Q : List (List ℕ) → Type 0 = λ xs. new ≡ byte_in xs (seen_part (row_at c.self.inside.segments.items (from + k)) agent) (from + k) in
    let R : Table → Type 0 = λ t. new ≡ byte_in t.slots (seen_part (row_at t.segments (from + k)) agent) (from + k) in
    let here : from + k ≡ address t c.args.memory (c.args.start + k) = omega (arith, c.first_address-from.ensures.is) in
    subst R c.self.view_is (subst Q c.deref-2.ensures.value (subst P c.deref.ensures.value (c.in_ok-bytes.ensures.bytes k lt))) ∙ ap (λ x. byte_in t.slots (seen_part (row_at t.segments x) agent) x) here
