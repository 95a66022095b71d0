use Rattle.std.proofs.Common.{◌≡◌, ◌∙◌, ℕ, ◌^◌, ◌<◌, List, length, map, None, sym, ap, subst}
use Rattle.std.specs.Arc.{arc_value}
use Rattle.std.specs.List.{All}
use Rattle.base.specs.Shapes.{bytes_of}
use Rattle.device_cache.specs.Effects as effects
use Rattle.device.proofs.Opens.{opens_kept}
use Rattle.device.proofs.Openings.{sizes_small, read_there}
use Rattle.device.proofs.device.Device.opened.Goals as goal
use Rattle.device.specs.Internal.Opened.{opened_memory, room_of}
use Rattle.device.specs.Internal.Fields.{node_count}
use Rattle.device.specs.Internal.Tables.{FitsProgram}
use Rattle.device.specs.declared.device.Device.TheInside.{Inside}
use Rattle.program.specs.Entries.{entries_of}
use Rattle.program.specs.FirstFault.{first_fault}
use Rattle.program.specs.Obeys.{EntryObeys, IsSmall, Obeys}
use Rattle.program.specs.Rules.{shapes_of}
use Rattle.program.specs.declared.program.Program.{Program}
use Rattle.program.specs.declared.rule.Rule.{Rule}
use Rattle.check_access.specs.Views.{View, view_of, piece_at}

pub stored_of-requires-clause-obeys : goal.stored_of-requires-clause-obeys
stored_of-requires-clause-obeys c =
    let P = c.program-plain.ensures in
    subst (λ (p : Program). (rule : Rule) → Obeys rule p) (sym P.program) P.obeys

pub lists_of-requires-clause-there : goal.lists_of-requires-clause-there
lists_of-requires-clause-there c =
    let P = c.program-plain.ensures in
    let program = arc_value c.args.program in
    let same : c.program-plain.result.now ≡ program = P.program ∙ c.deref.ensures in
    let obeys = subst (λ (p : Program). (rule : Rule) → Obeys rule p) c.deref.ensures P.obeys in
    let view : c.view-2.result.now ≡ view_of program = c.view-2.ensures.view ∙ c.in_ok-control.ensures.view ∙ ap view_of c.deref-2.ensures in
    let list : c.deref-3.result.now ≡ program.readbacks = c.deref-3.ensures ∙ ap (λ (p : Program). p.readbacks) same in
    subst (λ (v : View). All (λ p. p < length v.pieces) c.deref-3.result.now) (sym view)
    (subst (λ (reads : List ℕ). All (λ p. p < length (view_of program).pieces) reads) (sym list) (read_there program obeys))

pub lists_of-requires-clause-small : goal.lists_of-requires-clause-small
lists_of-requires-clause-small c =
    let P = c.program-plain.ensures in
    let small = subst IsSmall c.deref.ensures P.small in
    let view : c.view-2.result.now ≡ view_of (arc_value c.args.program) = c.view-2.ensures.view ∙ c.in_ok-control.ensures.view ∙ ap view_of c.deref-2.ensures in
    subst (λ (v : View). (p : ℕ) → p < length v.pieces → bytes_of (piece_at v p).shape < 2 ^ 32) (sym view) (sizes_small (arc_value c.args.program) small)

pub invariant_of-result : goal.invariant_of-result
invariant_of-result c =
    let program = arc_value c.args.program in
    let P = c.program-plain.ensures in
    let same : c.program-plain.result.now ≡ program = P.program ∙ c.deref.ensures in
    let view : c.in_ok-control.control.view ≡ view_of program = c.in_ok-control.ensures.view ∙ ap view_of c.deref-2.ensures in
    let count : c.count-count.result ≡ node_count program = c.count-count.ensures.count ∙ ap (λ (v : View). length v.nodes) (c.view.ensures.view ∙ view) in
    let i : Inside = record { program = c.args.program; sound = c.args.sound; weight = c.weight_of-weight.result; shapes = c.in_ok-stored.stored.shapes; fill = c.args.fill; moves = c.args.moves; history = c.in_ok-lists.lists.history; control = c.in_ok-control.control; table = c.in_ok-stored.stored.table; pending = c.in_ok-lists.lists.pending; reads = c.in_ok-lists.lists.reads; helpers = c.new-helpers.result } in
    opens_kept i c.count-count.result c.in_ok-lists.ensures.items (c.event_laws.ensures.opens program c.args.fill c.args.moves)
    (subst (λ (p : Program). first_fault p ≡ None) c.deref.ensures P.shaped)
    c.requires
    (subst IsSmall c.deref.ensures P.small)
    (subst (λ (p : Program). (rule : Rule) → All (EntryObeys rule p) (entries_of p)) c.deref.ensures P.entries)
    view c.in_ok-control.ensures.agrees count
    (c.in_ok-stored.ensures.shapes ∙ ap shapes_of same)
    (subst (λ (p : Program). FitsProgram c.in_ok-stored.stored.table p c.args.fill) same c.in_ok-stored.ensures.fits)
    (c.in_ok-stored.ensures.opened ∙ ap (λ (p : Program). effects.opened (map (opened_memory c.args.fill) p.memories)) same)
    c.in_ok-stored.ensures.cuts c.in_ok-stored.ensures.stores c.in_ok-lists.ensures.pending
    (c.in_ok-lists.ensures.reads ∙ ap (λ (v : View). map (room_of v) c.deref-3.result.now) (c.view-2.ensures.view ∙ view) ∙ ap (λ (list : List ℕ). map (room_of (view_of program)) list) (c.deref-3.ensures ∙ ap (λ (p : Program). p.readbacks) same))
    c.in_ok-lists.ensures.room
