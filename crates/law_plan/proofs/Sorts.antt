-- Where layouts are set, owners decided, and bytes changed.
use Rattle.std.proofs.Common.{◌≡◌, ◌⊎◌, inl, inr, ℕ, Bool, true, false, refl, sym, ap, ◌∙◌, ⊎_elim}
use Rattle.std.proofs.lemmas.Bool.{cases_Bool, or_left, or_right, false≢true}
use Rattle.law_plan.proofs.KindTables.{plain_sets_none, release_changes_none, release_sets_owner, entry_change}
use Rattle.law_plan.proofs.Lasts.{InPhase, Known, Sorted}
use Rattle.law_plan.proofs.Ranks.{in_turn, in_members, in_release}
use Rattle.law_plan.specs.Kinds.{is_plain, is_release}
use Rattle.law_plan.specs.Local.{Local}
use Rattle.law_plan.specs.Nodes.{Nodes}
use Rattle.law_plan.specs.Plans.{Plan}
use Rattle.law_plan.specs.Spots.{at_prologue, at_member, at_release, OfReader}
use Rattle.law_plan.specs.States.{Laid, Owned, Handed, Changed}
use Rattle.check_access.proofs.KindFacts.{layout_changes}
use Rattle.check_access.specs.AccessKinds.{changes, sets_layout, sets_owner}
use Rattle.check_access.specs.ValidView.{ValidView}
use Rattle.check_access.specs.Views.{View}
use Rattle.check_access.specs.declared.access.Access.{Access}
use Rattle.check_access.specs.declared.access.AccessKind.{AccessKind}

module _ (F : Plan) (V : View) (N : Nodes) where
  -- no member or host read, and no release, does what plain accesses or releases do not
  no_members : (sort : AccessKind → Bool) → ((d : AccessKind) → is_plain d ≡ true → sort d ≡ true → ⊥) → (g : ℕ) → Known (InPhase F V N sort g 1)
  no_members sort never g = inr none
    where
      none : InPhase F V N sort g 1 → ⊥
      none (x, a, s, w, so) = ⊎_elim (λ m. never a.kind m.1.plain so) (λ r. never a.kind r.1.plain so) (in_members F V N x a g s w)

  no_release : (sort : AccessKind → Bool) → ((d : AccessKind) → is_release d ≡ true → sort d ≡ true → ⊥) → (g : ℕ) → Known (InPhase F V N sort g 2)
  no_release sort never g = inr none
    where
      none : InPhase F V N sort g 2 → ⊥
      none (x, a, s, w, so) = never a.kind (in_release F V N x a g s w).1.release so

  pub layouts_sorted : Laid F V N → Sorted F V N sets_layout
  layouts_sorted L = record {
    prologue = λ g. go g (cases_Bool (L.sets g));
    member = no_members sets_layout (λ d h k. plain_sets_none d h (or_left (sets_layout d) (sets_owner d) k));
    release = no_release sets_layout (λ d h k. release_changes_none d h (or_right (changes d) (sets_layout d) k));
  }
    where
      none : (g : ℕ) → L.sets g ≡ false → InPhase F V N sets_layout g 0 → ⊥
      none g e (x, a, s, w, so) = false≢true (sym e ∙ (L.known g a (in_turn F V N x a g s w).1 so).0)

      go : (g : ℕ) → (L.sets g ≡ true) ⊎ (L.sets g ≡ false) → Known (InPhase F V N sets_layout g 0)
      go g (inl e) = let t = L.there g e in inl (N.prologue g, t.0, at_prologue refl t.1, refl, t.2)
      go g (inr e) = inr (none g e)

  pub owners_sorted : Owned F V N → Handed F V N → Sorted F V N sets_owner
  owners_sorted L H = record {
    prologue = λ g. go g (cases_Bool (L.sets g));
    member = no_members sets_owner (λ d h k. plain_sets_none d h (or_right (sets_layout d) (sets_owner d) k));
    release = λ g. released g (cases_Bool (N.released g));
  }
    where
      none : (g : ℕ) → L.sets g ≡ false → InPhase F V N sets_owner g 0 → ⊥
      none g e (x, a, s, w, so) = false≢true (sym e ∙ L.known g a (in_turn F V N x a g s w).1 so)

      go : (g : ℕ) → (L.sets g ≡ true) ⊎ (L.sets g ≡ false) → Known (InPhase F V N sets_owner g 0)
      go g (inl e) = let t = L.there g e in inl (N.prologue g, t.0, at_prologue refl t.1, refl, t.2)
      go g (inr e) = inr (none g e)

      kept : (g : ℕ) → N.released g ≡ false → InPhase F V N sets_owner g 2 → ⊥
      kept g e (x, a, s, w, so) = false≢true (sym e ∙ (in_release F V N x a g s w).1.released)

      released : (g : ℕ) → (N.released g ≡ true) ⊎ (N.released g ≡ false) → Known (InPhase F V N sets_owner g 2)
      released g (inl e) = let t = H.release g e in inl (N.release g, t.0, at_release refl t.1, refl, release_sets_owner t.0.kind t.1.release)
      released g (inr e) = inr (kept g e)

  pub changes_sorted : ValidView V → Local F V N → Laid F V N → Changed F V N → Sorted F V N changes
  changes_sorted S X L Y = record {
    prologue = λ g. go g (cases_Bool (L.sets g));
    member = λ g. stored g (cases_Bool (Y.stores g));
    release = no_release changes (λ d h k. release_changes_none d h (or_left (changes d) (sets_layout d) k));
  }
    where
      none : (g : ℕ) → L.sets g ≡ false → InPhase F V N changes g 0 → ⊥
      none g e (x, a, s, w, so) = let t = (in_turn F V N x a g s w).1 in false≢true (sym e ∙ (L.known g a t (entry_change a.kind t.entry so)).0)

      go : (g : ℕ) → (L.sets g ≡ true) ⊎ (L.sets g ≡ false) → Known (InPhase F V N changes g 0)
      go g (inl e) = let t = L.there g e in inl (N.prologue g, t.0, at_prologue refl t.1, refl, layout_changes t.0.kind t.2)
      go g (inr e) = inr (none g e)

      -- a host read loads
      read : (g : ℕ) (a : Access) → OfReader F V N g a → changes a.kind ≡ true → ⊥
      read g a r so = false≢true (sym (ap changes (S.host (N.reader g) r.has.0 a r.has.1 (X.roles.readers g r.host))) ∙ so)

      unstored : (g : ℕ) → Y.stores g ≡ false → InPhase F V N changes g 1 → ⊥
      unstored g e (x, a, s, w, so) = ⊎_elim (λ m. false≢true (sym e ∙ Y.known m.0 g a m.1 so)) (λ r. read g a r.1 so) (in_members F V N x a g s w)

      stored : (g : ℕ) → (Y.stores g ≡ true) ⊎ (Y.stores g ≡ false) → Known (InPhase F V N changes g 1)
      stored g (inl e) = let t = Y.there g e in inl (N.command t.0, t.1, at_member refl t.2, refl, t.3)
      stored g (inr e) = inr (unstored g e)
