use Rattle.std.proofs.Common.{◌≡◌, ◌∙◌, ◌+◌, ◌-◌, [], get_or, ap, arith}
use Rattle.std.proofs.lemmas.List.{get_or_read}
use Rattle.device_cache.specs.Tables.{byte_in}
use Rattle.device_cache.proofs.runs.copy_part.Goals as goal

pub returns : goal.returns
unfolding byte_in
returns c k lt =
    let p = c.args.part in
    let slots = c.args.slots.now in
    let slot = get_or_read slots p.slot c.index-slots-part.result c.requires.slot c.index-slots-part.is [] in
    let place : c.args.at - p.start + k ≡ c.args.at + k - p.start = omega (arith, c.requires.from) in
    c.copy_to.ensures k lt ∙ ap (λ n. get_or c.index-slots-part.result n 0) place ∙ ap (λ xs. get_or xs (c.args.at + k - p.start) 0) slot
