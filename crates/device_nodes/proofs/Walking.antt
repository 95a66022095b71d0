-- Layouts and owners, one access after another.
use Rattle.std.proofs.Common.{◌≡◌, ℕ, ◌+◌, ◌<◌, List, ◌∷◌, length, get_or, slice_get, slice_set, drop, sym, ap, ◌∙◌, subst, Some, drop-cons, add-one, Option}
use Rattle.std.proofs.lemmas.Option.{slice_get-get_or}
use Rattle.base.specs.declared.shape.Family.{Family}
use Rattle.vk.specs.declared.layout.Layout.{Layout}
use Rattle.vk.specs.declared.layout.Layout.TheVariants.{Undefined}
use Rattle.device_nodes.proofs.Lists.{set_by, read_at}
use Rattle.device_model.specs.Steps.{owner_by, layout_by, owned_after, laid_after}
use Rattle.device_model.specs.declared.owner.Owner.{Owner}
use Rattle.device_model.specs.declared.owner.Owner.TheVariants.{Unused}
use Rattle.check_access.specs.ValidView.{ValidView}
use Rattle.check_access.specs.Views.{View, accesses_of, family_at}
use Rattle.check_access.specs.declared.access.Access.{Access}

-- after the accesses from the i-th on, the layouts are those after all of them
abbrev pub LaidFrom : List Access → ℕ → List Layout → List Layout → Type 0
LaidFrom accesses i first layouts = (p : ℕ) → laid_after (drop i accesses) p (get_or layouts p Undefined) ≡ laid_after accesses p (get_or first p Undefined)

abbrev pub OwnedFrom : View → ℕ → List Access → ℕ → List Owner → List Owner → Type 0
OwnedFrom V n accesses i first owners = (p : ℕ) → owned_after V n (drop i accesses) p (get_or owners p Unused) ≡ owned_after V n accesses p (get_or first p Unused)

-- each access is of a piece
pub piece_there : (V : View) → ValidView V → (n : ℕ) (accesses : List Access) → accesses ≡ accesses_of V n → (i : ℕ) (d : Access) → i < length accesses → (pieces : ℕ) → pieces ≡ length V.pieces → (get_or accesses i d).piece < pieces
piece_there V S n accesses e i d lt pieces count =
    subst (λ m. (get_or accesses i d).piece < m) (sym count) (S.known n i (get_or accesses i d) (subst (λ l. slice_get l i ≡ Some (get_or accesses i d)) e (slice_get-get_or accesses i d lt)))

module _ (accesses : List Access) (i : ℕ) (d : Access) (lt : i < length accesses) where
  abbrev a : Access
  a = get_or accesses i d

  off : drop i accesses ≡ a ∷ drop (i + 1) accesses
  off = drop-cons accesses i d lt ∙ ap (λ k. a ∷ drop k accesses) (sym (add-one i))

  -- x is what was there, and v what is there now
  pub laid_more : (first old new : List Layout) (x v : Layout) → a.piece < length old → x ≡ get_or old a.piece x → v ≡ layout_by a.kind x → new ≡ slice_set old a.piece v → LaidFrom accesses i first old → LaidFrom accesses (i + 1) first new
  laid_more first old new x v there was e is L p =
      ap (λ l. laid_after (drop (i + 1) accesses) p (get_or l p Undefined)) is
      ∙ ap (laid_after (drop (i + 1) accesses) p) (set_by old a.piece (layout_by a.kind) v Undefined there (e ∙ ap (layout_by a.kind) (sym (read_at old a.piece x Undefined there was))) p)
      ∙ sym (ap (λ l. laid_after l p (get_or old p Undefined)) off) ∙ L p

  pub owned_more : (V : View) (n : ℕ) (family : Option Family) (first old new : List Owner) (x v : Owner) → family ≡ family_at V n → a.piece < length old → x ≡ get_or old a.piece x → v ≡ owner_by a.kind family x → new ≡ slice_set old a.piece v → OwnedFrom V n accesses i first old → OwnedFrom V n accesses (i + 1) first new
  owned_more V n family first old new x v f there was e is O p =
      ap (λ l. owned_after V n (drop (i + 1) accesses) p (get_or l p Unused)) is
      ∙ ap (owned_after V n (drop (i + 1) accesses) p) (set_by old a.piece (owner_by a.kind (family_at V n)) v Unused there (e ∙ ap (λ z. owner_by a.kind z x) f ∙ ap (owner_by a.kind (family_at V n)) (sym (read_at old a.piece x Unused there was))) p)
      ∙ sym (ap (λ l. owned_after V n l p (get_or old p Unused)) off) ∙ O p
