use Rattle.std.proofs.Common.{◌∙◌, sym, ap, subst}
use Rattle.base.specs.declared.cache_move.CacheMove.{CacheMove}
use Rattle.device_cache.specs.Draws.{drawn, move_of, Moves}
use Rattle.device_cache.proofs.Drawing.{is_drawn}
use Rattle.device_cache.proofs.tender.Tender.next.Goals as goal

pub returns-clause-drawn : goal.returns-clause-drawn
unfolding drawn
returns-clause-drawn c = c.made.ensures ∙ ap (move_of c.args.agents c.args.sizes.now) c.words-words.ensures.words

pub returns-clause-inside : goal.returns-clause-inside
returns-clause-inside c =
    let P : CacheMove → Type 0 = λ m. Moves c.args.agents c.args.sizes.now m in
    subst P (sym c.made.ensures) (is_drawn c.args.agents c.args.sizes.now c.words-words.result (sym c.can_draw.ensures ∙ c.if-not-can_draw.false))
