use Rattle.std.proofs.Common.{◌≡◌, map, rules, subst, sym}
use Rattle.compile_heap.specs.Internal.Choosing.{IsOrder}
use Rattle.compile_heap.proofs.Sorted.{sorted_order}
use Rattle.compile_heap.proofs.falling.order_of.Goals as goal

pub returns : goal.returns
returns c =
    let numbers : c.in_ok-order.order.items ≡ map (λ key. key.1) c.sort_unstable.new.self.items = search rules in
    let order = sorted_order (λ key. key.0.0) (λ key. key.1) c.args.sizes.now c.in_ok-keys.keys.items c.sort_unstable.new.self.items c.in_ok-keys.ensures c.sort_unstable.ensures.permutation c.sort_unstable.ensures.sorted in
    subst (λ l. IsOrder c.args.sizes.now l) (sym numbers) order
