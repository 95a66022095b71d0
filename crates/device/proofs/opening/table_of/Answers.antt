use Rattle.std.proofs.Common.{◌≡◌, ◌∙◌, ℕ, ◌*◌, ◌^◌, ◌<◌, ◌≤◌, List, length, map, true, IfOk, sym, ap, subst}
use Rattle.std.specs.List.{All}
use Rattle.base.specs.Shapes.{bytes_of}
use Rattle.device_cache.specs.Tables.{is_cut, slot_at, IsMade}
use Rattle.device.proofs.Openings.{ends_small, few_bytes, cuts_there, fits_made}
use Rattle.device.proofs.opening.table_of.Goals as goal
use Rattle.device.specs.Internal.Opened.{opened_memory, piece_end, HasCuts}
use Rattle.program.specs.declared.program.Memory.{Memory}
use Rattle.program.specs.declared.program.Piece.{Piece}

pub cuts_of-requires : goal.cuts_of-requires
cuts_of-requires c = subst (λ (pieces : List Piece). All (λ piece. piece_end piece < 2 ^ 32) pieces) (sym c.deref-2.ensures) (ends_small c.args.program.now c.requires.small c.requires.obeys c.args.fill)

pub new-requires-clause-small : goal.new-requires-clause-small
new-requires-clause-small c =
    let is : c.in_ok-opening.opening ≡ map (opened_memory c.args.fill) c.args.program.now.memories = c.in_ok-opening.ensures ∙ ap (λ (list : List Memory). map (opened_memory c.args.fill) list) c.deref.ensures in
    few_bytes c.args.program.now c.requires.small c.requires.obeys c.args.fill c.in_ok-opening.opening is

pub new-requires-clause-cuts : goal.new-requires-clause-cuts
new-requires-clause-cuts c =
    let program = c.args.program.now in
    let is : c.in_ok-opening.opening ≡ map (opened_memory c.args.fill) program.memories = c.in_ok-opening.ensures ∙ ap (λ (list : List Memory). map (opened_memory c.args.fill) list) c.deref.ensures in
    let cuts = subst (λ (pieces : List Piece). HasCuts pieces (length pieces) c.in_ok-cuts.cuts.items) c.deref-2.ensures c.in_ok-cuts.ensures in
    subst (λ (list : List (ℕ × ℕ)). All (λ c'. (c'.0 < length c.in_ok-opening.opening) × (c'.1 ≤ length (slot_at c.in_ok-opening.opening c'.0))) list) (sym c.deref-4.ensures.value) (cuts_there program c.requires.small c.requires.obeys c.args.fill c.in_ok-opening.opening is c.in_ok-cuts.cuts.items cuts)

pub returns-clause-fits : goal.returns-clause-fits
returns-clause-fits c =
    let program = c.args.program.now in
    let opening = c.in_ok-opening.opening in
    let is : opening ≡ map (opened_memory c.args.fill) program.memories = c.in_ok-opening.ensures ∙ ap (λ (list : List Memory). map (opened_memory c.args.fill) list) c.deref.ensures in
    let cuts = subst (λ (pieces : List Piece). HasCuts pieces (length pieces) c.in_ok-cuts.cuts.items) c.deref-2.ensures c.in_ok-cuts.ensures in
    let long = subst (λ (pieces : List Piece). All (λ piece. bytes_of piece.shape ≤ c.longest.result) pieces) c.deref-3.ensures c.longest.ensures in
    let made = subst (λ (junk : List ℕ). IfOk c.new.result (λ t. IsMade t (8 * c.len.result) opening junk)) c.filled-junk.ensures c.new.ensures.made in
    let cut = subst (λ (list : List (ℕ × ℕ)). IfOk c.new.result (λ t. All (λ c'. is_cut t c'.0 c'.1 ≡ true) list)) c.deref-4.ensures.value c.new.ensures.cuts in
    fits_made program c.requires.small c.requires.obeys c.args.fill opening is c.new.result c.in_ok-cuts.cuts.items cuts (8 * c.len.result) c.longest.result (ap (λ n. 8 * n) c.len.ensures) long made cut
