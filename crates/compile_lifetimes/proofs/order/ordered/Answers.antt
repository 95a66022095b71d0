use Rattle.std.proofs.Common.{◌≡◌, ◌||◌, length, ap, ◌∙◌, arith, rules}
use Rattle.std.proofs.lemmas.List.{length-map}
use Rattle.base.proofs.Booleans.{or_false}
use Rattle.base.specs.Shapes.{shape_at, bytes_of}
use Rattle.compile_groups.specs.Placed.{placed}
use Rattle.compile_lifetimes.specs.Internal.Lifetimes.{AreLifetimes, is_before}
use Rattle.compile_lifetimes.proofs.Deciding.{order_for}
use Rattle.compile_lifetimes.proofs.Sides.{all_within}
use Rattle.compile_lifetimes.proofs.order.ordered.Goals as goal
use Rattle.compile_heap.specs.Pairs.{has}
use Rattle.base_reach.specs.Pairs.{has as reaches}

pub add_rows-requires-clause-within : goal.add_rows-requires-clause-within
add_rows-requires-clause-within c =
    let G = c.args.groups.now in
    let are : AreLifetimes G (length (placed G)) c.deref.result.now = search rules in
    all_within G (length (placed G)) c.deref.result.now are

pub returns-clause-ordered : goal.returns-clause-ordered
returns-clause-ordered c a b lt-a lt-b =
    let G = c.args.groups.now in
    let R = reaches c.in_ok-rows.rows in
    let are : AreLifetimes G (length (placed G)) c.deref.result.now = search rules in
    let size : length c.sizes.result.now ≡ length (placed G) = ap length c.sizes.ensures.sizes ∙ length-map (placed G) (λ unit. bytes_of (shape_at G.shapes unit)) in
    let told : has c.add_rows.new.pairs a b ≡ is_before R G c.deref.result.now a b =
    c.add_rows.ensures.has a b (omega (arith, size, lt-a)) (omega (arith, size, lt-b))
    ∙ ap (λ o. is_before R G c.deref.result.now a b || o) (c.in_ok-pairs.ensures.has a b)
    ∙ or_false (is_before R G c.deref.result.now a b) in
    order_for G c.reach_of.ensures.grouped R c.in_ok-rows.ensures.has (length (placed G)) c.deref.result.now are a b lt-a lt-b (has c.add_rows.new.pairs a b) told
