use Rattle.std.proofs.Common.{◌<◌, length, None, IfSome, refl, sym, subst, ap, ◌∙◌, arith}
use Rattle.std.proofs.lemmas.Option.{slice_get-get_or, slice_get_read, get_or_from_slice_get}
use Rattle.std.specs.Option.{option_map_or}
use Rattle.vk.specs.declared.layout.Layout.TheVariants.{Undefined}
use Rattle.check_state.specs.PieceStates.{layout_after, kind_of}
use Rattle.check_state.proofs.Judged.{finds}
use Rattle.check_state.proofs.Known.{known_piece, read_within, last_known, first_known}
use Rattle.check_state.proofs.piece_state.found_at.Goals as goal

pub owner_found-requires-clause-last : goal.owner_found-requires-clause-last
owner_found-requires-clause-last c =
    let lt = known_piece c.args.view.now c.args.accesses.now c.requires.shape c.requires.listed c.args.j _ (slice_get-get_or c.args.accesses.now c.args.j _ c.requires.j) in
    subst (λ o. IfSome o (λ a. a.node < length c.args.view.now.nodes)) (sym c.at-2.ensures) (last_known c.args.view.now c.args.accesses.now c.requires.listed _ _ c.args.j _ c.args.past.now.owners c.requires.past.owners lt)

pub owner_found-requires-clause-first : goal.owner_found-requires-clause-first
owner_found-requires-clause-first c =
    let lt = known_piece c.args.view.now c.args.accesses.now c.requires.shape c.requires.listed c.args.j _ (slice_get-get_or c.args.accesses.now c.args.j _ c.requires.j) in
    subst (λ o. IfSome o (λ a. a.node < length c.args.view.now.nodes)) (sym c.at-3.ensures) (first_known c.args.view.now c.args.accesses.now c.requires.listed _ _ _ c.args.ahead.now.owners c.requires.ahead.owners lt)

pub at-requires-4 : goal.at-requires-4
at-requires-4 c = read_within c.args.view.now c.args.accesses.now c.requires.shape c.requires.listed c.args.j _ c.args.past.now.transfers c.requires.j c.requires.past.transfers.size

pub returns : goal.returns
returns c = λ a at.
    let lt = known_piece c.args.view.now c.args.accesses.now c.requires.shape c.requires.listed c.args.j a at in
    let next = get_or_from_slice_get c.args.ahead.now.next c.args.j c.index.result.now None (slice_get_read c.args.ahead.now.next (length c.args.ahead.now.next) c.args.j c.index.result.now refl (omega (arith, c.requires.j, c.requires.ahead.size)) c.index.ensures) in
    finds c.args.view.now c.args.accesses.now c.args.past.now c.args.ahead.now c.args.j a _ c.at-2.result c.at-3.result (record { layout = c.layout_found.result; owner = c.owner_found.result; last = c.kind_of.result; next = c.index.result.now }) (get_or_from_slice_get c.args.accesses.now c.args.j a _ at) at lt c.requires.past c.requires.ahead
    (c.layout_found.ensures ∙ ap (λ o. option_map_or (λ x. layout_after x.access.kind) o Undefined) c.at.ensures)
    c.at-2.ensures c.at-3.ensures c.owner_found.ensures
    (c.kind_of.ensures ∙ ap kind_of c.at-4.ensures)
    (sym next)
