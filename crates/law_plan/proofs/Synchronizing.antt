-- The facts of single groups knit the groups together, and so accesses that clash are synchronized.
use Rattle.std.proofs.Common.{◌≡◌, ◌≢◌, ◌⊎◌, inl, inr, ℕ, ◌+◌, true, false, refl, sym, ap, ◌∙◌, subst}
use Rattle.std.proofs.lemmas.Bool.{cases_Bool, false≢true}
use Rattle.law_plan.proofs.Clashes.{plain_clash}
use Rattle.law_plan.proofs.Crossing.{next_leads, leads_cases}
use Rattle.law_plan.proofs.KindTables.{entry_not_plain, release_not_plain}
use Rattle.law_plan.proofs.Knit.{Acyclic, Either, Knit, knit_synchronized}
use Rattle.law_plan.proofs.Passing.{Enters, Synchronizes, up_before, enters_then, synchronizes_through, crossed_before, enters_later, leaves_later}
use Rattle.law_plan.proofs.Runs.{groups_apart}
use Rattle.law_plan.specs.Crossings.{IsFull}
use Rattle.law_plan.specs.Kinds.{is_plain}
use Rattle.law_plan.specs.Local.{Local}
use Rattle.law_plan.specs.Masks.{Leaves}
use Rattle.law_plan.specs.Nodes.{Nodes}
use Rattle.law_plan.specs.Plans.{Plan, leads}
use Rattle.law_plan.specs.Spots.{Spot, at_prologue, at_member, at_release, at_reader, OfPrologue, OfMember, OfRelease}
use Rattle.law_nodes.specs.Passing.{Before, UpTo, AvailableBy, VisibleBy}
use Rattle.law_nodes.specs.Synchronized.{Synchronized}
use Rattle.check_access.specs.AccessKinds.{changes}
use Rattle.check_access.specs.ValidView.{Has}
use Rattle.check_access.specs.Views.{View, clash}
use Rattle.check_access.specs.declared.access.Access.{Access}
use Rattle.check_access.specs.declared.access.AccessKind.{AccessKind}
use Rattle.check_access.specs.declared.access.AccessKind.TheVariants.{Load, Store, Transition, Discard, Release, Acquire}

-- SPOTS

pub spot_piece : (F : Plan) (V : View) (N : Nodes) (x : ℕ) (a : Access) (g : ℕ) → Spot F V N x a g → a.piece ≡ F.piece g
spot_piece F V N x a g (at_prologue e t) = t.piece
spot_piece F V N x a g (at_member e m) = m.piece
spot_piece F V N x a g (at_release e r) = r.piece
spot_piece F V N x a g (at_reader e r) = r.piece

pub spot_has : (F : Plan) (V : View) (N : Nodes) (x : ℕ) (a : Access) (g : ℕ) → Spot F V N x a g → Has V x a
spot_has F V N x a g (at_prologue e t) = subst (λ z. Has V z a) (sym e) t.has
spot_has F V N x a g (at_member e m) = subst (λ z. Has V z a) (sym e) m.has
spot_has F V N x a g (at_release e r) = subst (λ z. Has V z a) (sym e) r.has
spot_has F V N x a g (at_reader e r) = subst (λ z. Has V z a) (sym e) r.has

-- WHAT ENTERS OR LEAVES AT ITS OWN NODE

available_itself : (d : AccessKind) (V : View) (x p : ℕ) → is_plain d ≡ false → AvailableBy d V x p x
available_itself (Load agent layout) V x p e = absurd (false≢true (sym e))
available_itself (Store agent layout) V x p e = absurd (false≢true (sym e))
available_itself (Transition layouts) V x p e = refl
available_itself (Discard layout) V x p e = refl
available_itself (Release handover) V x p e = refl
available_itself (Acquire handover) V x p e = refl

visible_itself : (d : AccessKind) (V : View) (x p : ℕ) → is_plain d ≡ false → VisibleBy d V x p x
visible_itself (Load agent layout) V x p e = absurd (false≢true (sym e))
visible_itself (Store agent layout) V x p e = absurd (false≢true (sym e))
visible_itself (Transition layouts) V x p e = refl
visible_itself (Discard layout) V x p e = refl
visible_itself (Release handover) V x p e = refl
visible_itself (Acquire handover) V x p e = refl

enters_itself : (V : View) (x : ℕ) (a : Access) (t : ℕ) → is_plain a.kind ≡ false → Before V x t → Enters V x a t
enters_itself V x a t e p = record { before = p; available = (x, available_itself a.kind V x a.piece e, inr p) }

leaves_itself : (V : View) (t y : ℕ) (b : Access) → is_plain b.kind ≡ false → UpTo V t y → Leaves V t y b
leaves_itself V t y b e p = record { from = p; shown = (y, p, visible_itself b.kind V y b.piece e) }

module _ (F : Plan) (V : View) (N : Nodes) (D : IsFull V) (X : Local F V N) where
  -- MEMBERS

  -- an access enters the release after its group
  pub member_release : (g c : ℕ) (a : Access) → N.released g ≡ true → OfMember F V N c g a → Enters V (N.command c) a (N.release g)
  member_release g c a r m = enters_later V D (N.command c) a (N.release g) (X.roles.commands c g m.member) (X.roles.releases g r) m.has (λ s. X.masks.takes_release g c a r m s) (X.places.into_release g c r m.member)

  release_prologue : (g h : ℕ) → leads F g h ≡ true → N.released g ≡ true → Before V (N.release g) (N.prologue h)
  release_prologue g h l r = crossed_before V D (N.release g) (N.prologue h) (X.roles.releases g r).opened (X.roles.prologues h (X.places.has_prologue g h l)).opened (X.places.into_acquire g h r l)

  member_next : (g c : ℕ) (a : Access) → F.piece g ≡ F.piece (g + 1) → N.released g ≡ false → OfMember F V N c g a → Enters V (N.command c) a (N.prologue (g + 1))
  member_next g c a e r m =
      let t = X.places.has_prologue g (g + 1) (next_leads F g e) in
      enters_later V D (N.command c) a (N.prologue (g + 1)) (X.roles.commands c g m.member) (X.roles.prologues (g + 1) t) m.has (λ s. X.masks.takes_prologue g c a e r m s) (X.places.into_prologue g c e r m.member)

  member_over : (g h c : ℕ) (a : Access) → F.over g h ≡ true → OfMember F V N c g a → Enters V (N.command c) a (N.prologue h)
  member_over g h c a o m = enters_then V (N.command c) a (N.alias h) (N.prologue h)
      (enters_later V D (N.command c) a (N.alias h) (X.roles.commands c g m.member) (X.aliases.barriers g h o) m.has (λ s. X.aliases.takes g h c a o m s) (X.aliases.into g h c o m.member))
      (X.aliases.onto g h o)

  -- and the prologue of each group that its own leads to
  pub member_enters : (g h c : ℕ) (a : Access) → leads F g h ≡ true → OfMember F V N c g a → Enters V (N.command c) a (N.prologue h)
  member_enters g h c a l m = go (leads_cases F g h l) (cases_Bool (N.released g))
    where
      go : ((h ≡ g + 1) × (F.piece g ≡ F.piece h)) ⊎ (F.over g h ≡ true) → (N.released g ≡ true) ⊎ (N.released g ≡ false) → Enters V (N.command c) a (N.prologue h)
      go q (inl r) = enters_then V (N.command c) a (N.release g) (N.prologue h) (member_release g c a r m) (inr (release_prologue g h l r))
      go (inl q) (inr r) = subst (λ z. Enters V (N.command c) a (N.prologue z)) (sym q.0) (member_next g c a (q.1 ∙ ap F.piece q.0) r m)
      go (inr o) (inr r) = member_over g h c a o m

  pub member_leaves : (h d : ℕ) (b : Access) → N.has_prologue h ≡ true → OfMember F V N d h b → Leaves V (N.prologue h) (N.command d) b
  member_leaves h d b t m = leaves_later V D (N.prologue h) (N.command d) b (X.roles.prologues h t) (X.roles.commands d h m.member) m.has (λ s. X.masks.gives h d b t m s) (X.places.onto h d t m.member)

  -- TURNS

  pub prologue_release : (g : ℕ) → N.has_prologue g ≡ true → N.released g ≡ true → Before V (N.prologue g) (N.release g)
  prologue_release g t r =
      let m = X.spots.some g t (X.spots.host_kept g r) in
      up_before V (N.prologue g) (N.command m.0) (N.release g) (member_leaves g m.0 m.1 t m.2).from (member_release g m.0 m.1 r m.2).before

  prologue_chain : (g h : ℕ) → N.has_prologue g ≡ true → leads F g h ≡ true → Before V (N.prologue g) (N.prologue h)
  prologue_chain g h t l = go (cases_Bool (F.host g))
    where
      go : (F.host g ≡ true) ⊎ (F.host g ≡ false) → Before V (N.prologue g) (N.prologue h)
      go (inl e) = absurd (X.spots.host_last g h e l)
      go (inr e) = let m = X.spots.some g t e in up_before V (N.prologue g) (N.command m.0) (N.prologue h) (member_leaves g m.0 m.1 t m.2).from (member_enters g h m.0 m.1 l m.2).before

  -- ALL SPOTS

  spot_enters : (x : ℕ) (a : Access) (g h : ℕ) → Spot F V N x a g → leads F g h ≡ true → Enters V x a (N.prologue h)
  spot_enters x a g h (at_prologue e t) l = enters_itself V x a (N.prologue h) (entry_not_plain a.kind t.entry) (subst (λ z. Before V z (N.prologue h)) (sym e) (prologue_chain g h t.has_prologue l))
  spot_enters x a g h (at_member {c = c} e m) l = subst (λ z. Enters V z a (N.prologue h)) (sym e) (member_enters g h c a l m)
  spot_enters x a g h (at_release e r) l = enters_itself V x a (N.prologue h) (release_not_plain a.kind r.release) (subst (λ z. Before V z (N.prologue h)) (sym e) (release_prologue g h l r.released))
  spot_enters x a g h (at_reader e r) l = absurd (X.spots.host_last g h r.host l)

  pub spot_leaves : (y : ℕ) (b : Access) (h : ℕ) → N.has_prologue h ≡ true → Spot F V N y b h → Leaves V (N.prologue h) y b
  spot_leaves y b h t (at_prologue e u) = leaves_itself V (N.prologue h) y b (entry_not_plain b.kind u.entry) (inl (sym e))
  spot_leaves y b h t (at_member {c = d} e m) = subst (λ z. Leaves V (N.prologue h) z b) (sym e) (member_leaves h d b t m)
  spot_leaves y b h t (at_release e r) = leaves_itself V (N.prologue h) y b (release_not_plain b.kind r.release) (inr (subst (λ z. Before V (N.prologue h) z) (sym e) (prologue_release h t r.released)))
  spot_leaves y b h t (at_reader e r) = subst (λ z. Leaves V (N.prologue h) z b) (sym e) (X.masks.reads h b t r)

  -- INSIDE A GROUP

  -- from a prologue to another node of its group
  prologue_with : (x y : ℕ) (a b : Access) (g : ℕ) → x ≡ N.prologue g → OfPrologue F V N g a → Spot F V N y b g → x ≢ y → Synchronizes V x a y b
  prologue_with x y a b g e t s ne =
      let L = subst (λ z. Leaves V z y b) (sym e) (spot_leaves y b g t.has_prologue s) in
      let z = L.shown in
      record { before = before L.from; passed = (x, z.0, available_itself a.kind V x a.piece (entry_not_plain a.kind t.entry), z.1, z.2) }
    where
      before : UpTo V x y → Before V x y
      before (inl same) = absurd (ne same)
      before (inr p) = p

  -- from a member to the release after the group
  with_release : (x y : ℕ) (a b : Access) (g c : ℕ) → x ≡ N.command c → OfMember F V N c g a → y ≡ N.release g → OfRelease F V N g b → Synchronizes V x a y b
  with_release x y a b g c e m f r = synchronizes_through V x a y y b
      (subst (λ z. Enters V x a z) (sym f) (subst (λ z. Enters V z a (N.release g)) (sym e) (member_release g c a r.released m)))
      (leaves_itself V y y b (release_not_plain b.kind r.release) (inl refl))

  -- two members that clash are one
  pub one_member : (a b : Access) (g c d : ℕ) → OfMember F V N c g a → OfMember F V N d g b → clash V a b ≡ true → c ≡ d
  one_member a b g c d m n clashes = go (plain_clash V a b m.plain n.plain clashes)
    where
      go : (changes a.kind ≡ true) ⊎ (changes b.kind ≡ true) → c ≡ d
      go (inl k) = X.spots.alone c d g a m k n.member
      go (inr k) = sym (X.spots.alone d c g b n k m.member)

  spot_inside : (x y : ℕ) (a b : Access) (g : ℕ) → Spot F V N x a g → Spot F V N y b g → x ≢ y → clash V a b ≡ true → Either V x a y b
  spot_inside x y a b g (at_prologue e t) s ne cl = inl (prologue_with x y a b g e t s ne)
  spot_inside x y a b g s (at_prologue e t) ne cl = inr (prologue_with y x b a g e t s (λ q. ne (sym q)))
  spot_inside x y a b g (at_member {c = c} e m) (at_member {c = d} f n) ne cl = absurd (ne (e ∙ ap N.command (one_member a b g c d m n cl) ∙ sym f))
  spot_inside x y a b g (at_member {c = c} e m) (at_release f r) ne cl = inl (with_release x y a b g c e m f r)
  spot_inside x y a b g (at_release f r) (at_member {c = c} e m) ne cl = inr (with_release y x b a g c e m f r)
  spot_inside x y a b g (at_release e r) (at_release f s) ne cl = absurd (ne (e ∙ sym f))
  spot_inside x y a b g (at_reader e r) (at_reader f s) ne cl = absurd (ne (e ∙ sym f))
  spot_inside x y a b g (at_reader e r) (at_release f s) ne cl = absurd (false≢true (sym (X.spots.host_kept g s.released) ∙ r.host))
  spot_inside x y a b g (at_release f s) (at_reader e r) ne cl = absurd (false≢true (sym (X.spots.host_kept g s.released) ∙ r.host))
  spot_inside x y a b g (at_reader e r) (at_member {c = c} f m) ne cl = absurd (X.spots.host_alone g c r.host m.member)
  spot_inside x y a b g (at_member {c = c} f m) (at_reader e r) ne cl = absurd (X.spots.host_alone g c r.host m.member)

  pub local_knit : Knit V (leads F) N.prologue (Spot F V N)
  local_knit = record {
    spot = X.spots.all;
    enters = spot_enters;
    leaves = λ y b g h s l. spot_leaves y b h (X.places.has_prologue g h l) s;
    through = λ g h k l m. prologue_chain h k (X.places.has_prologue g h l) m;
    inside = λ x y a b g s u c. spot_inside x y a b g s u c.apart c.clash;
    apart = λ x y a b g h s u c. groups_apart F X.grouped V X.aliases.ordered a b g h (X.spots.within x a g s) (X.spots.within y b h u) (spot_piece F V N x a g s) (spot_piece F V N y b h u) c.clash;
  }

  -- accesses that clash are synchronized
  pub local_synchronized : Acyclic V → Synchronized V
  local_synchronized A = knit_synchronized V (leads F) N.prologue (Spot F V N) local_knit A
