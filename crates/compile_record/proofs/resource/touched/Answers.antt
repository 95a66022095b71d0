use Rattle.std.proofs.Common.{sym, subst, rules, ◌<◌, List, length}
use Rattle.std.specs.List.{All}
use Rattle.compile_groups.specs.declared.unit_use.Use.{Use}
use Rattle.compile_record.proofs.Touched.{members-within}
use Rattle.compile_record.proofs.resource.touched.Goals as goal

pub touch-requires : goal.touch-requires
touch-requires c =
    let below : c.loop-g.g < length c.args.groups.now.groups = search rules in
    subst (λ n. All (λ u. u.unit < n) c.members.result.now) (sym c.loop-g.invariant.count)
    (subst (λ (uses : List Use). All (λ u. u.unit < length c.args.groups.now.imports) uses) (sym c.members.ensures.members) (members-within c.args.groups.now c.loop-g.g c.members.ensures.known below))
