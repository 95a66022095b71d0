-- Ways from group to group, and what stays along the groups of a unit.
use Rattle.std.proofs.Common.{◌≡◌, ◌≢◌, ◌⊎◌, inl, inr, ℕ, zero, suc, ◌+◌, ◌-◌, ◌<◌, ◌≤◌, true, ◌&&◌, ◌||◌, ◌==◌, refl, sym, ap, ◌∙◌, subst, ⊎_elim, eqb-true, arith}
use Rattle.std.proofs.lemmas.Bool.{cases_eq, cases_lt, or_cases, and_parts}
use Rattle.law_plan.proofs.Crossing.{next_leads, over_leads}
use Rattle.law_plan.proofs.Knit.{OnAWay}
use Rattle.law_plan.specs.Aliases.{Beside}
use Rattle.law_plan.specs.Plans.{Plan, leads, Grouped, First}
use Rattle.base_reach.specs.Paths.{Path, one, then_on}
use Rattle.check_access.specs.AccessKinds.{changes, transfers}
use Rattle.check_access.specs.Views.{View, overlap, clash}
use Rattle.check_access.specs.declared.access.Access.{Access}

module _ (F : Plan) (G : Grouped F) where
  -- between groups of one unit are groups of that unit
  pub piece_between : (j k g p : ℕ) → j ≤ k → k ≤ g → F.piece j ≡ p → F.piece g ≡ p → F.piece k ≡ p
  piece_between j k g p a b pj pg =
      let u = G.rising j k a in
      let w = G.rising k g b in
      omega (arith, pj, pg, u, w)

  -- each unit has a first group
  pub first_group : (g : ℕ) → (i : ℕ) × First F g i
  first_group zero = (0, record { same = refl; least = λ h e. omega arith })
  first_group (suc g) = go (cases_eq (F.piece g) (F.piece (suc g))) (first_group g)
    where
      go : (F.piece g ≡ F.piece (suc g)) ⊎ (F.piece g ≡ F.piece (suc g) → ⊥) → (i : ℕ) × First F g i → (i : ℕ) × First F (suc g) i
      go (inl e) (i, A) = (i, record { same = A.same ∙ e; least = λ h k. A.least h (k ∙ sym e) })
      go (inr ne) A = (suc g, record { same = refl; least = λ h k. low h k (cases_lt h (suc g)) })
        where
          low : (h : ℕ) → F.piece h ≡ F.piece (suc g) → (h < suc g) ⊎ (suc g ≤ h) → suc g ≤ h
          low h k (inr le) = le
          low h k (inl lt) = absurd (ne (piece_between h g (suc g) (F.piece (suc g)) (omega (arith, lt)) (omega arith) k refl))

  -- what stays from each group to the next one of the unit stays along them
  pub steady : {A : Type 0} (v : ℕ → A) (p j g : ℕ) → F.piece j ≡ p → F.piece g ≡ p → j ≤ g → ((k : ℕ) → j ≤ k → k < g → F.piece k ≡ p → F.piece (k + 1) ≡ p → v k ≡ v (k + 1)) → v j ≡ v g
  steady {A} v p j g pj pg le each = far (g - j) (omega (arith, le)) ∙ ap v whole
    where
      whole : j + (g - j) ≡ g
      whole = omega (arith, le)

      far : (n : ℕ) → j + n ≤ g → v j ≡ v (j + n)
      far zero h = ap v (omega arith)
      far (suc n) h = far n (omega (arith, h)) ∙ each (j + n) (omega arith) (omega (arith, h)) (inside n (omega (arith, h))) (subst (λ z. F.piece z ≡ p) next (inside (suc n) h)) ∙ ap v (sym next)
        where
          next : j + suc n ≡ (j + n) + 1
          next = omega arith

          inside : (m : ℕ) → j + m ≤ g → F.piece (j + m) ≡ p
          inside m l = piece_between j (j + m) g p (omega arith) l pj pg

  -- WAYS

  -- groups of one unit, one after another
  run : (n g p : ℕ) → F.piece g ≡ p → F.piece (g + suc n) ≡ p → Path (leads F) g (g + suc n)
  run zero g p pg ph = subst (λ z. Path (leads F) g z) next (one (next_leads F g (pg ∙ sym ph ∙ ap F.piece (sym next))))
    where
      next : g + 1 ≡ g + suc 0
      next = omega arith
  run (suc n) g p pg ph = subst (λ z. Path (leads F) g z) shift (then_on (one (next_leads F g (pg ∙ sym inside))) (run n (g + 1) p inside (ap F.piece shift ∙ ph)))
    where
      shift : (g + 1) + suc n ≡ g + suc (suc n)
      shift = omega arith

      inside : F.piece (g + 1) ≡ p
      inside = piece_between g (g + 1) (g + suc (suc n)) p (omega arith) (omega arith) pg ph

  pub run_either : (g h : ℕ) → F.piece g ≡ F.piece h → g ≤ h → (g ≡ h) ⊎ Path (leads F) g h
  run_either g h e le = ⊎_elim (λ q. inl q) (λ ne. inr (further ne)) (cases_eq g h)
    where
      further : (g ≡ h → ⊥) → Path (leads F) g h
      further ne =
          let far : g + suc (h - g - 1) ≡ h = omega (arith, le, ne) in
          subst (λ z. Path (leads F) g z) far (run (h - g - 1) g (F.piece h) e (ap F.piece far))

  path_after : (g i j : ℕ) → (g ≡ i) ⊎ Path (leads F) g i → Path (leads F) i j → Path (leads F) g j
  path_after g i j (inl e) p = subst (λ z. Path (leads F) z j) (sym e) p
  path_after g i j (inr q) p = then_on q p

  path_before : (i j h : ℕ) → Path (leads F) i j → (j ≡ h) ⊎ Path (leads F) j h → Path (leads F) i h
  path_before i j h p (inl e) = subst (λ z. Path (leads F) i z) e p
  path_before i j h p (inr q) = then_on p q

  -- from each group of a unit to each of one that is ordered after it and overlaps it
  pub beside_path : (g h : ℕ) → Beside F g h → Path (leads F) g h
  beside_path g h B = path_after g B.last h (run_either g B.last (sym B.same_last) (G.over_last B.last B.first g B.over (sym B.same_last)))
      (path_before B.last B.first h (one (over_leads F B.last B.first B.over)) (run_either B.first h B.same_first (G.over_first B.last B.first h B.over (sym B.same_first))))

-- accesses that clash are of one piece, or their pieces overlap
clash_pieces : (V : View) (a b : Access) → clash V a b ≡ true → (a.piece ≡ b.piece) ⊎ (overlap V a.piece b.piece ≡ true)
clash_pieces V a b c = ⊎_elim
    (λ e. inr (and_parts (overlap V a.piece b.piece) (changes a.kind || changes b.kind) e).0)
    (λ e. inl (eqb-true a.piece b.piece (and_parts (a.piece == b.piece) (transfers a.kind || transfers b.kind) e).0))
    (or_cases (overlap V a.piece b.piece && (changes a.kind || changes b.kind)) ((a.piece == b.piece) && (transfers a.kind || transfers b.kind)) c)

-- two accesses that clash are of one group, or a way of groups leads from one to the other
pub groups_apart : (F : Plan) (G : Grouped F) (V : View) → ((g h : ℕ) → g < F.groups → h < F.groups → F.piece g ≢ F.piece h → overlap V (F.piece g) (F.piece h) ≡ true → Beside F g h ⊎ Beside F h g) → (a b : Access) (g h : ℕ) → g < F.groups → h < F.groups → a.piece ≡ F.piece g → b.piece ≡ F.piece h → clash V a b ≡ true → OnAWay (leads F) g h
groups_apart F G V ordered a b g h gl hl pa pb c = go (cases_eq (F.piece g) (F.piece h))
  where
    same : F.piece g ≡ F.piece h → (g < h) ⊎ (h ≤ g) → OnAWay (leads F) g h
    same e (inl lt) = ⊎_elim (λ q. inl q) (λ q. inr (inl q)) (run_either F G g h e (omega (arith, lt)))
    same e (inr le) = ⊎_elim (λ q. inl (sym q)) (λ q. inr (inr q)) (run_either F G h g (sym e) le)

    beside : Beside F g h ⊎ Beside F h g → OnAWay (leads F) g h
    beside (inl B) = inr (inl (beside_path F G g h B))
    beside (inr B) = inr (inr (beside_path F G h g B))

    far : F.piece g ≢ F.piece h → (a.piece ≡ b.piece) ⊎ (overlap V a.piece b.piece ≡ true) → OnAWay (leads F) g h
    far ne (inl e) = absurd (ne (sym pa ∙ e ∙ pb))
    far ne (inr o) = beside (ordered g h gl hl ne (subst (λ z. overlap V z (F.piece h) ≡ true) pa (subst (λ z. overlap V a.piece z ≡ true) pb o)))

    go : (F.piece g ≡ F.piece h) ⊎ (F.piece g ≡ F.piece h → ⊥) → OnAWay (leads F) g h
    go (inl e) = same e (cases_lt g h)
    go (inr ne) = far ne (clash_pieces V a b c)
