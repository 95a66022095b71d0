-- Which moves are still to come, one by one.
use Rattle.std.proofs.Common.{◌≡◌, ℕ, zero, suc, Bool, true, false, List, [], ◌∷◌, Option, Some, None, if◌then◌else◌, refl, sym, ap, ◌∙◌, ⊎_elim}
use Rattle.std.specs.Prelude.{◌↔◌, IfSome, IfNone, IsSome, is_some, not}
use Rattle.std.proofs.lemmas.Bool.{cases_Bool, false≢true}
use Rattle.base.specs.declared.cache_move.CacheMove.{CacheMove}
use Rattle.base.specs.declared.event.Event.{Event}
use Rattle.base.specs.declared.event.Event.TheVariants.{Move}
use Rattle.rand_pcg.specs.Lcg.{Lcg}
use Rattle.device_cache.specs.Draws.{may_draw, drawn, after_five, moves_from}
use Rattle.device_drive.specs.Internal.Keepers.{moves_by, to_come}
use Rattle.device_drive.specs.declared.keeper.Keeper.{Keeper}

-- where none is left none is to come
pub none_left : (keeper : Keeper) → to_come keeper 0 ≡ []
none_left keeper = by_tender keeper.tender
  where
    by_tender : (tender : Option Lcg) → moves_by tender 0 keeper.agents keeper.sizes ≡ []
    by_tender None = refl
    by_tender (Some g) = refl

-- a tender that may draw nothing makes no move
pub none_drawn : (agents : ℕ) (sizes : List ℕ) (g : Lcg) (left : ℕ) → may_draw agents sizes ≡ false → moves_from g left agents sizes ≡ []
none_drawn agents sizes g zero may = refl
none_drawn agents sizes g (suc left) may = ap (λ (b : Bool). if b then Move (drawn agents sizes g) ∷ moves_from (after_five g) left agents sizes else []) may

-- the generator of the keeper before and after a call
pub none_next : (before after : Keeper) (g h : Lcg) (result : Option CacheMove) → before.tender ≡ Some g → after.tender ≡ Some h → after.agents ≡ before.agents → after.sizes ≡ before.sizes → (IsSome result ↔ (may_draw before.agents before.sizes ≡ true)) → IfNone result ((left : ℕ) → (to_come before left ≡ []) × (to_come after left ≡ []))
none_next before after g h (Some m) is next agents sizes some = tt
none_next before after g h None is next agents sizes some =
    let none : may_draw before.agents before.sizes ≡ false = ⊎_elim (λ may. absurd (false≢true (some.1 may))) (λ no. no) (cases_Bool (may_draw before.agents before.sizes)) in
    λ left. (
      ap (λ tender. moves_by tender left before.agents before.sizes) is ∙ none_drawn before.agents before.sizes g left none,
      ap (λ tender. moves_by tender left after.agents after.sizes) next
          ∙ ap (λ agents. moves_by (Some h) left agents after.sizes) agents
          ∙ ap (λ sizes. moves_by (Some h) left before.agents sizes) sizes
          ∙ none_drawn before.agents before.sizes h left none,
    )

no_first : (x : Event) (xs : List Event) → [] ≡ x ∷ xs → ⊥
no_first x xs e = cc

-- whether no move is to come, by the next one
pub over_if : (is_over : Bool) (result : Option CacheMove) (before after : Keeper) (left : ℕ) → is_some result ≡ not is_over → IfSome result (λ m. (k : ℕ) → to_come before (suc k) ≡ Move m ∷ to_come after k) → IfNone result ((k : ℕ) → (to_come before k ≡ []) × (to_come after k ≡ [])) → (is_over ≡ true) ↔ ([] ≡ to_come before (suc left))
over_if true None before after left is some none = ((λ e. sym (none (suc left)).0), (λ e. refl))
over_if false (Some m) before after left is some none = ((λ e. absurd (false≢true e)), (λ e. absurd (no_first (Move m) (to_come after left) (e ∙ some left))))
over_if true (Some m) before after left is some none = absurd (false≢true (sym is))
over_if false None before after left is some none = absurd (false≢true is)
