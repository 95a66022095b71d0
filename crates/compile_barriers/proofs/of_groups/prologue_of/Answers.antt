use Rattle.std.proofs.Common.{◌≡◌, ◌<◌, length, [], ap, sym, ◌∙◌, subst}
use Rattle.std.specs.Prelude.{is_some}
use Rattle.compile_groups.specs.Needs.{group_at}
use Rattle.compile_groups.specs.Placed.{placed}
use Rattle.compile_barriers.proofs.Firsts.{empty, import_prologue, placed_prologue}
use Rattle.compile_barriers.proofs.of_groups.prologue_of.Goals as goal
use Rattle.compile_barriers.specs.Prologues.{first, has_uses, earlier, first_kind, prologue_between}
use Rattle.compile_barriers.specs.Under.{heap_of, place_of, uses_under}
use Rattle.compile_barriers.specs.declared.prologue.PrologueKind.TheVariants.{Nothing}

pub returns-in-None : goal.returns-in-None
returns-in-None c =
    let G = c.args.groups.now in
    let heap = heap_of c.args.ordered.now c.args.placement.now in
    let alone : [] ≡ earlier c.args.groups.now c.args.g = empty c.earlier-before.result.now (sym c.if-not-is_empty.ensures) ∙ c.earlier-before.ensures in
    let unit = c.unit_of.ensures ∙ ap (λ A. (first A).unit) c.members-members.ensures.members in
    let none : place_of c.args.groups.now (first (group_at c.args.groups.now c.args.g)).unit ≡ length (placed c.args.groups.now) = ap (place_of G) (sym unit) ∙ c.in-None.ensures.none in
    c.no_prologue.ensures
    ∙ ap (prologue_between Nothing c.args.g [] []) c.members-members.ensures.members
    ∙ import_prologue G heap c.args.g alone c.members-members.ensures.grouped c.members-members.ensures.known c.requires.g none

pub returns-in_ok-last-in-Some : goal.returns-in_ok-last-in-Some
returns-in_ok-last-in-Some c =
    let G = c.args.groups.now in
    let heap = heap_of c.args.ordered.now c.args.placement.now in
    let alone : [] ≡ earlier c.args.groups.now c.args.g = empty c.earlier-before.result.now (sym c.if-not-is_empty.ensures) ∙ c.earlier-before.ensures in
    let unit = c.unit_of.ensures ∙ ap (λ A. (first A).unit) c.members-members.ensures.members in
    let place : c.in-Some.b ≡ place_of c.args.groups.now (first (group_at c.args.groups.now c.args.g)).unit = c.in-Some.ensures.some.0 ∙ ap (place_of G) unit in
    let last : c.deref.result.now ≡ uses_under c.args.groups.now (heap_of c.args.ordered.now c.args.placement.now) (place_of c.args.groups.now (first (group_at c.args.groups.now c.args.g)).unit) = c.deref.ensures ∙ c.in_ok-last-in-Some.ensures ∙ ap (uses_under G heap) place in
    c.first_prologue.ensures
    ∙ ap (λ L. prologue_between (first_kind (has_uses L) (is_some (first c.members-members.result.now).layout)) c.args.g [] L c.members-members.result.now) last
    ∙ ap (λ B. prologue_between (first_kind (has_uses (uses_under G heap (place_of G (first (group_at G c.args.g)).unit))) (is_some (first B).layout)) c.args.g [] (uses_under G heap (place_of G (first (group_at G c.args.g)).unit)) B) c.members-members.ensures.members
    ∙ placed_prologue G heap c.args.g alone (subst (λ b. b < length (placed G)) place c.in-Some.ensures.some.1)
