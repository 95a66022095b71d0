use Rattle.std.proofs.Common.{◌≡◌, ◌==◌, ◌||◌, ◌&&◌, ℕ, ◌*◌, ◌+◌, ◌<◌, get_or, false, subst, sym}
use Rattle.compile_heap.specs.Pairs.{Table, has}
use Rattle.compile_heap.proofs.Squares.{pair_set}
use Rattle.compile_heap.proofs.pairs.Pairs.set.Goals as goal

pub returns-clause-has : goal.returns-clause-has
returns-clause-has c =
    let lt-i = subst (λ (s : Table). c.args.a < s.count) (sym c.self.view_is) c.requires.a in
    let lt-j = subst (λ (s : Table). c.args.b < s.count) (sym c.self.view_is) c.requires.b in
    let pair = pair_set c.self.inside.pairs c.self.inside.count c.args.a c.args.b c.self.invariant.1 lt-i lt-j in
    subst (λ (s : Table). (x y : ℕ) → x < s.count → y < s.count → has (record { count = c.self.inside.count; pairs = c.set.new.self }) x y ≡ ((x == c.args.a && y == c.args.b) || has s x y)) c.self.view_is (subst (λ pairs. (x y : ℕ) → x < c.self.inside.count → y < c.self.inside.count → get_or pairs (x * c.self.inside.count + y) false ≡ ((x == c.args.a && y == c.args.b) || get_or c.self.inside.pairs (x * c.self.inside.count + y) false)) (sym c.set.ensures) pair)
