-- An order of nodes in which paths lead through commands comes to the order of accesses, where what enters a command is joined
-- to what the command leaves into. So it is in programs whose commands have one stage each.
use Rattle.std.proofs.Common.{◌≡◌, ◌≢◌, ◌⊎◌, inl, inr, ℕ, Bool, true, false, refl, sym, ◌∙◌, subst, ⊎_elim}
use Rattle.std.proofs.lemmas.Bool.{cases_Bool, false≢true}
use Rattle.law_runs.specs.Formed.{Formed}
use Rattle.law_runs.specs.Orders.{Path, one, then_on, UpTo, Before}
use Rattle.law_runs.specs.Systems.{Access, System}

-- edges of all nodes, and those of synchronizing nodes alone
pub record Joined (S : System) (edge : ℕ → ℕ → Bool) : Type 0 where
  -- no edge goes from a command to a command
  pub two : (x y : ℕ) → edge x y ≡ true → S.is_command x ≡ true → S.is_command y ≡ true → ⊥
  pub sync : (x y : ℕ) → edge x y ≡ true → S.is_command x ≡ false → S.is_command y ≡ false → S.edge x y ≡ true
  -- the stage of the command is one of both
  pub joins : (x c y : ℕ) → S.is_command c ≡ true → edge x c ≡ true → edge c y ≡ true → S.edge x y ≡ true
  -- accesses leave and are entered as their nodes
  pub leaves : (n x : ℕ) (a : Access) → S.is_command n ≡ true → edge n x ≡ true → S.leaves n a x ≡ true
  pub enters : (y n : ℕ) (a : Access) → S.is_command n ≡ true → edge y n ≡ true → S.enters y n a ≡ true
  pub leaves_own : (n : ℕ) (a : Access) → S.is_command n ≡ false → S.leaves n a n ≡ true
  pub enters_own : (n : ℕ) (a : Access) → S.is_command n ≡ false → S.enters n n a ≡ true

module _ (S : System) (edge : ℕ → ℕ → Bool) (J : Joined S edge) where
  -- x is a itself, or follows a where it is a command
  abbrev Out : ℕ → ℕ → Type 0
  Out a x = ((S.is_command a ≡ false) × (x ≡ a)) ⊎ ((S.is_command a ≡ true) × (edge a x ≡ true))

  abbrev In : ℕ → ℕ → Type 0
  In y b = ((S.is_command b ≡ false) × (y ≡ b)) ⊎ ((S.is_command b ≡ true) × (edge y b ≡ true))

  abbrev Leads : ℕ → ℕ → ℕ → ℕ → Type 0
  Leads a b x y = Path S.edge x y ⊎ ((x ≡ y) × ((S.is_command a ≡ true) ⊎ (S.is_command b ≡ true)))

  abbrev Through : ℕ → ℕ → Type 0
  Through a b = (x : ℕ) × (y : ℕ) × Out a x × In y b × Leads a b x y

  up : (a b x y : ℕ) → Leads a b x y → UpTo S x y
  up a b x y (inl p) = inr p
  up a b x y (inr q) = inl q.0

  through_one : (a b : ℕ) → edge a b ≡ true → (S.is_command a ≡ true) ⊎ (S.is_command a ≡ false) → (S.is_command b ≡ true) ⊎ (S.is_command b ≡ false) → Through a b
  through_one a b e (inl p) (inl q) = absurd (J.two a b e p q)
  through_one a b e (inl p) (inr q) = (b, b, inr (p, e), inl (q, refl), inr (refl, inl p))
  through_one a b e (inr p) (inl q) = (a, a, inl (p, refl), inr (q, e), inr (refl, inr q))
  through_one a b e (inr p) (inr q) = (a, b, inl (p, refl), inl (q, refl), inl (one (J.sync a b e p q)))

  -- paths from x to y, over an edge, and on
  by_edge : (x y z w : ℕ) → UpTo S x y → S.edge y z ≡ true → UpTo S z w → Path S.edge x w
  by_edge x y z w (inl e) h (inl f) = subst (λ t. Path S.edge t w) (sym e) (subst (λ t. Path S.edge y t) f (one h))
  by_edge x y z w (inl e) h (inr q) = subst (λ t. Path S.edge t w) (sym e) (then_on (one h) q)
  by_edge x y z w (inr p) h (inl f) = subst (λ t. Path S.edge x t) f (then_on p (one h))
  by_edge x y z w (inr p) h (inr q) = then_on (then_on p (one h)) q

  join : (a c b : ℕ) → Through a c → Through c b → Through a b
  join a c b t u = go t.3 u.2
    where
      -- at a synchronizing node both ends meet there
      meet : S.is_command c ≡ false → t.1 ≡ u.0 → Leads a c t.0 t.1 → Leads c b u.0 u.1 → Leads a b t.0 u.1
      meet s e (inl p) (inl q) = inl (then_on p (subst (λ z. Path S.edge z u.1) (sym e) q))
      meet s e (inl p) (inr q) = inl (subst (λ z. Path S.edge t.0 z) (e ∙ q.0) p)
      meet s e (inr p) (inl q) = inl (subst (λ z. Path S.edge z u.1) (sym (p.0 ∙ e)) q)
      meet s e (inr p) (inr q) = inr (p.0 ∙ e ∙ q.0, ⊎_elim (λ k. inl k) (λ k. absurd (false≢true (sym s ∙ k))) p.1)

      go : In t.1 c → Out c u.0 → Through a b
      go (inl p) (inl q) = (t.0, u.1, t.2, u.3, meet p.0 (p.1 ∙ sym q.1) t.4 u.4)
      go (inl p) (inr q) = absurd (false≢true (sym p.0 ∙ q.0))
      go (inr p) (inl q) = absurd (false≢true (sym q.0 ∙ p.0))
      go (inr p) (inr q) = (t.0, u.1, t.2, u.3, inl (by_edge t.0 t.1 u.0 u.1 (up a c t.0 t.1 t.4) (J.joins t.1 c u.0 p.0 p.1 q.1) (up c b u.0 u.1 u.4)))

  through : (a b : ℕ) → Path edge a b → Through a b
  through a b (one e) = through_one a b e (cases_Bool (S.is_command a)) (cases_Bool (S.is_command b))
  through a b (then_on {b = c} p q) = join a c b (through a c p) (through c b q)

  -- what was before by nodes is before by accesses
  pub before_by_nodes : (n m : ℕ) (a b : Access) → Path edge n m → Before S n a m b
  before_by_nodes n m a b p =
      let t = through n m p in
      record { x = t.0; y = t.1; leaves = out t.0 t.2; leads = up n m t.0 t.1 t.4; enters = into t.1 t.3 }
    where
      out : (x : ℕ) → Out n x → S.leaves n a x ≡ true
      out x (inl q) = subst (λ z. S.leaves n a z ≡ true) (sym q.1) (J.leaves_own n a q.0)
      out x (inr q) = J.leaves n x a q.0 q.1

      into : (y : ℕ) → In y m → S.enters y m b ≡ true
      into y (inl q) = subst (λ z. S.enters z m b ≡ true) (sym q.1) (J.enters_own m b q.0)
      into y (inr q) = J.enters y m b q.0 q.1

  -- between synchronizing nodes a path through commands is one without
  pub sync_path : (a b : ℕ) → S.is_command a ≡ false → S.is_command b ≡ false → Path edge a b → Path S.edge a b
  sync_path a b s r p = let t = through a b p in go t.0 t.1 t.2 t.3 t.4
    where
      at : (x y : ℕ) → x ≡ a → y ≡ b → Leads a b x y → Path S.edge a b
      at x y e f (inl q) = subst (λ z. Path S.edge z b) e (subst (λ z. Path S.edge x z) f q)
      at x y e f (inr q) = ⊎_elim (λ k. absurd (false≢true (sym s ∙ k))) (λ k. absurd (false≢true (sym r ∙ k))) q.1

      go : (x y : ℕ) → Out a x → In y b → Leads a b x y → Path S.edge a b
      go x y (inl p) (inl q) l = at x y p.1 q.1 l
      go x y (inr p) q l = absurd (false≢true (sym s ∙ p.0))
      go x y p (inr q) l = absurd (false≢true (sym r ∙ q.0))

-- and nothing more is before
pub record Within (S : System) (edge : ℕ → ℕ → Bool) : Type 0 where
  pub sync : (x y : ℕ) → S.edge x y ≡ true → edge x y ≡ true
  pub leaves : (n x : ℕ) (a : Access) → S.is_command n ≡ true → S.leaves n a x ≡ true → edge n x ≡ true
  pub enters : (y n : ℕ) (a : Access) → S.is_command n ≡ true → S.enters y n a ≡ true → edge y n ≡ true

module _ (S : System) (F : Formed S) (edge : ℕ → ℕ → Bool) (I : Within S edge) where
  path_of : (x y : ℕ) → Path S.edge x y → Path edge x y
  path_of x y (one e) = one (I.sync x y e)
  path_of x y (then_on {b = z} p q) = then_on (path_of x z p) (path_of z y q)

  abbrev Ends : ℕ → ℕ → Type 0
  Ends x y = (x ≡ y) ⊎ Path edge x y

  ends_then : (x y z : ℕ) → Ends x y → Ends y z → Ends x z
  ends_then x y z (inl e) h = subst (λ t. Ends t z) (sym e) h
  ends_then x y z (inr p) (inl e) = inr (subst (λ t. Path edge x t) e p)
  ends_then x y z (inr p) (inr q) = inr (then_on p q)

  -- what is before by accesses is before by nodes
  pub before_of_accesses : (n m : ℕ) (a b : Access) → n ≢ m → Before S n a m b → Path edge n m
  before_of_accesses n m a b ne B = ⊎_elim (λ e. absurd (ne e)) (λ p. p) (ends_then n B.x m (out (cases_Bool (S.is_command n))) (ends_then B.x B.y m (mid B.leads) (into (cases_Bool (S.is_command m)))))
    where
      out : (S.is_command n ≡ true) ⊎ (S.is_command n ≡ false) → Ends n B.x
      out (inl c) = inr (one (I.leaves n B.x a c B.leaves))
      out (inr s) = inl (sym (F.leaves_self n a B.x s B.leaves))

      into : (S.is_command m ≡ true) ⊎ (S.is_command m ≡ false) → Ends B.y m
      into (inl c) = inr (one (I.enters B.y m b c B.enters))
      into (inr s) = inl (F.enters_self B.y m b s B.enters)

      mid : UpTo S B.x B.y → Ends B.x B.y
      mid (inl e) = inl e
      mid (inr p) = inr (path_of B.x B.y p)
