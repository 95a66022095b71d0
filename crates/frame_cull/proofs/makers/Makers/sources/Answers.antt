use Rattle.std.proofs.Common.{ℕ, Option, ◌++◌, ap, sym, ◌∙◌}
use Rattle.std.specs.List.{filter_map}
use Rattle.std.proofs.lemmas.List.Elements.{filter_map-append}
use Rattle.frame_cull.specs.Versions.{row_of, latest_maker, changes}
use Rattle.frame_cull.proofs.makers.Makers.sources.Goals as goal

pub returns : goal.returns
returns c =
    let maker : ℕ → Option ℕ = λ unit. latest_maker (row_of c.args.self.now unit) in
    c.in_ok-change_sources.ensures
    ∙ ap (λ xs. xs ++ filter_map maker (changes c.args.writes.now)) (c.in_ok-read_sources.ensures ∙ ap (λ xs. xs ++ filter_map maker c.args.reads.now) c.new-sources.ensures)
    ∙ sym (filter_map-append maker c.args.reads.now (changes c.args.writes.now))
