-- Events beside the moves that are still to come.
use Rattle.std.proofs.Common.{◌≡◌, ℕ, Bool, true, false, List, ◌∷◌, refl, sym, ap, ◌∙◌}
use Rattle.std.specs.Prelude.{◌↔◌, MatchBool}
use Rattle.std.proofs.lemmas.Bool.{false≢true}
use Rattle.base.specs.declared.cache_move.CacheMove.{CacheMove}
use Rattle.base.specs.declared.event.Event.{Event}
use Rattle.base.specs.declared.event.Event.TheVariants.{Move}
use Rattle.device_drive.specs.Internal.Following.{Follows, Strays}
use Rattle.device_drive.specs.Internal.Keepers.{to_come}
use Rattle.device_drive.specs.declared.keeper.Keeper.{Keeper}
use Rattle.device_model.specs.Histories.{moves_in}

same_rest : (x y : Event) (xs ys : List Event) → x ∷ xs ≡ y ∷ ys → xs ≡ ys
same_rest x y xs ys e = cc

same_move : (m n : CacheMove) (xs ys : List Event) → Move m ∷ xs ≡ Move n ∷ ys → m ≡ n
same_move m n xs ys e = cc

follows_move : (m : CacheMove) (before after : Keeper) (left less : ℕ) → to_come before left ≡ Move m ∷ to_come after less → Follows (Move m) before left after less
follows_move m before after left less next rest = (
  (λ makes. same_rest (Move m) (Move m) (moves_in rest) (to_come after less) (makes ∙ next)),
  (λ makes. ap (λ moves. Move m ∷ moves) makes ∙ sym next),
)

strays_from : (m next : CacheMove) (before : Keeper) (left : ℕ) (later : List Event) → to_come before left ≡ Move next ∷ later → (next ≡ m → ⊥) → Strays (Move m) before left
strays_from m next before left later is other rest makes = other (sym (same_move m next (moves_in rest) later (makes ∙ is)))

-- the move is the next one or another
pub decided : (is : Bool) (m next : CacheMove) (before after : Keeper) (left less : ℕ) → ((is ≡ true) ↔ (next ≡ m)) → to_come before left ≡ Move next ∷ to_come after less → MatchBool is (Follows (Move m) before left after less) (Strays (Move m) before left)
decided true m next before after left less same gives = follows_move m before after left less (gives ∙ ap (λ (n : CacheMove). Move n ∷ to_come after less) (same.0 refl))
decided false m next before after left less same gives = strays_from m next before left (to_come after less) gives (λ e. false≢true (same.1 e))
