-- What an access that may be made can rely on: what is before it is over, nothing over is after it, and no store under way
-- clashes with it.
use Rattle.std.proofs.Common.{◌≡◌, ◌≢◌, ◌⊎◌, inl, inr, ℕ, ◌||◌, true, false, if◌then◌else◌, refl, sym, ap, ◌∙◌, subst, ⊎_elim}
use Rattle.std.proofs.lemmas.Bool.{cases_Bool, false≢true}
use Rattle.law_runs.proofs.Formed.{change_no_load, long_no_load}
use Rattle.law_runs.specs.Formed.{Formed}
use Rattle.law_runs.proofs.Invariant.{NoneAfter}
use Rattle.law_runs.proofs.Nodes.{Prior}
use Rattle.law_runs.specs.Orders.{Path, one, then_on, UpTo, Before, VisibleBy, Synchronized}
use Rattle.law_runs.specs.States.{State, over, Entered, UnderWay, Torn, Meets, MayLoad, MayStore, MaySync}
use Rattle.law_runs.specs.Systems.{Doing, Load, Store, Superseded, Access, System, At, Has, is_load, is_long}

-- what is over has everything before it over
pub record Past (S : System) (s : State) : Type 0 where
  pub entered : (n k : ℕ) (a : Access) → At S n k a → S.is_command n ≡ true → over s n k a ≡ true → Entered S s n a
  pub edges : (x y : ℕ) → S.edge x y ≡ true → s.done y ≡ true → s.done x ≡ true
  pub left : (n k : ℕ) (a : Access) (x : ℕ) → At S n k a → S.is_command n ≡ true → S.leaves n a x ≡ true → s.done x ≡ true → over s n k a ≡ true
  pub stored : (n k : ℕ) (a : Access) → At S n k a → is_load a.doing ≡ true → s.done n ≡ true → s.taken n k ≡ true

-- access c of n may be made
pub record Touches (S : System) (s : State) (n : ℕ) (c : Access) : Type 0 where
  pub has : Has S n c
  pub was : s.done n ≡ true → ⊥
  pub hidden : over s n has.0 c ≡ true → ⊥
  pub ahead : (v j : ℕ) (b : Access) → At S v j b → v ≢ n → Before S v b n c → over s v j b ≡ true
  pub prior : Prior S s.done n c

pub over_done : (s : State) (n k : ℕ) (a : Access) → is_load a.doing ≡ false → over s n k a ≡ s.done n
over_done s n k a e = ap (λ z. if z then s.taken n k else s.done n) e

pub over_taken : (s : State) (n k : ℕ) (a : Access) → is_load a.doing ≡ true → over s n k a ≡ s.taken n k
over_taken s n k a e = ap (λ z. if z then s.taken n k else s.done n) e

pub no_load : (d : Doing) → (is_load d || is_long d) ≡ false → is_load d ≡ false
no_load Load h = absurd (false≢true (sym h))
no_load d h = refl

module _ (S : System) (F : Formed S) (s : State) (P : Past S s) where
  pub path_done : (x y : ℕ) → Path S.edge x y → s.done y ≡ true → s.done x ≡ true
  path_done x y (one e) d = P.edges x y e d
  path_done x y (then_on {b = z} p q) d = path_done x z p (path_done z y q d)

  pub up_done : (x y : ℕ) → UpTo S x y → s.done y ≡ true → s.done x ≡ true
  up_done x y (inl e) d = subst (λ z. s.done z ≡ true) (sym e) d
  up_done x y (inr p) d = path_done x y p d

  -- an access that leaves into a done node is over
  pub left_over : (n k : ℕ) (a : Access) (x : ℕ) → At S n k a → S.leaves n a x ≡ true → s.done x ≡ true → over s n k a ≡ true
  left_over n k a x at l d = go (cases_Bool (S.is_command n))
    where
      go : (S.is_command n ≡ true) ⊎ (S.is_command n ≡ false) → over s n k a ≡ true
      go (inl e) = P.left n k a x at e l d
      go (inr e) = over_done s n k a (no_load a.doing (F.of_sync n a (k, at) e)) ∙ ap s.done (sym (F.leaves_self n a x e l)) ∙ d

  -- where all that enters b is done, what is before b is over
  pub entered_ahead : (n k m : ℕ) (a b : Access) → At S n k a → Entered S s m b → Before S n a m b → over s n k a ≡ true
  entered_ahead n k m a b at en B = left_over n k a B.x at B.leaves (up_done B.x B.y B.leads (en B.y B.enters))

  over_entered : (m j : ℕ) (b : Access) → At S m j b → over s m j b ≡ true → Entered S s m b
  over_entered m j b at o y h = go (cases_Bool (S.is_command m))
    where
      go : (S.is_command m ≡ true) ⊎ (S.is_command m ≡ false) → s.done y ≡ true
      go (inl e) = P.entered m j b at e o y h
      go (inr e) = ap s.done (F.enters_self y m b e h) ∙ sym (over_done s m j b (no_load b.doing (F.of_sync m b (j, at) e))) ∙ o

  pub over_before : (n k m j : ℕ) (a b : Access) → At S n k a → At S m j b → over s m j b ≡ true → Before S n a m b → over s n k a ≡ true
  over_before n k m j a b at bt o B = entered_ahead n k m a b at (over_entered m j b bt o) B

  -- nothing done is after an access that may be made
  pub none_after : (n : ℕ) (c : Access) → Touches S s n c → NoneAfter S s.done n c
  none_after n c t v d h ne ch f B = t.hidden (over_before n t.has.0 v h.0 c d t.has.1 h.1 (over_done s v h.0 d (change_no_load d.doing ch) ∙ f) B)

  -- WHAT MAY BE MADE

  -- a visible node of a command enters it
  visible_enters : (d : Doing) (n y : ℕ) (a : Access) → (is_load d || is_long d) ≡ true → VisibleBy S d n a y → S.enters y n a ≡ true
  visible_enters Load n y a h v = v.0
  visible_enters Store n y a h v = v.0
  visible_enters Superseded n y a h v = v.0
  visible_enters d n y a h v = absurd (false≢true h)

  visible_up : (d : Doing) (n y : ℕ) (a : Access) → (is_load d || is_long d) ≡ false → VisibleBy S d n a y → UpTo S y n
  visible_up Load n y a h v = absurd (false≢true (sym h))
  visible_up Store n y a h v = absurd (false≢true (sym h))
  visible_up Superseded n y a h v = absurd (false≢true (sym h))
  visible_up d n y a h v = v

  pub of_entered : (n : ℕ) (c : Access) (h : Has S n c) → S.is_command n ≡ true → (s.done n ≡ true → ⊥) → (over s n h.0 c ≡ true → ⊥) → Entered S s n c → Touches S s n c
  of_entered n c h cl was hidden en = record {
    has = h;
    was = was;
    hidden = hidden;
    ahead = λ v j b at ne B. entered_ahead v j n b c at en B;
    prior = λ x y u v. inl (up_done x y u (en y (visible_enters c.doing n y c (F.of_command n c h cl) v)));
  }

  pub load_touches : (n k : ℕ) (a : Access) → MayLoad S s n k a → Touches S s n a
  load_touches n k a M = of_entered n a (k, M.at) M.command
      (λ d. false≢true (sym M.fresh ∙ P.stored n k a M.at M.load d))
      (λ o. false≢true (sym M.fresh ∙ sym (over_taken s n k a M.load) ∙ o))
      M.entered

  pub store_touches : (n : ℕ) (c : Access) → MayStore S s n → Has S n c → is_long c.doing ≡ true → Touches S s n c
  store_touches n c M h l = of_entered n c h M.command
      (λ d. false≢true (sym M.fresh ∙ d))
      (λ o. false≢true (sym M.fresh ∙ sym (over_done s n h.0 c (long_no_load c.doing l)) ∙ o))
      (M.entered c h l)

  module _ (n : ℕ) (M : MaySync S s n) where
    pub ready_path : (x : ℕ) → Path S.edge x n → s.done x ≡ true
    ready_path x (one e) = M.edges x e
    ready_path x (then_on {b = z} p q) = path_done x z p (ready_path z q)

    ready_up : (x : ℕ) → UpTo S x n → (s.done x ≡ true) ⊎ (x ≡ n)
    ready_up x (inl e) = inr e
    ready_up x (inr p) = inl (ready_path x p)

    up_then : (x y z : ℕ) → UpTo S x y → UpTo S y z → UpTo S x z
    up_then x y z (inl e) h = subst (λ t. UpTo S t z) (sym e) h
    up_then x y z (inr p) (inl e) = inr (subst (λ t. Path S.edge x t) e p)
    up_then x y z (inr p) (inr q) = inr (then_on p q)

    pub sync_touches : (c : Access) → Has S n c → Touches S s n c
    sync_touches c h = record {
      has = h;
      was = λ d. false≢true (sym M.fresh ∙ d);
      hidden = λ o. false≢true (sym M.fresh ∙ sym (over_done s n h.0 c (no_load c.doing (F.of_sync n c h M.sync))) ∙ o);
      ahead = ahead;
      prior = λ x y u v. ready_up x (up_then x y n u (visible_up c.doing n y c (F.of_sync n c h M.sync) v));
    }
      where
        ahead : (v j : ℕ) (b : Access) → At S v j b → v ≢ n → Before S v b n c → over s v j b ≡ true
        ahead v j b at ne B = go (ready_up B.x (subst (λ z. UpTo S B.x z) (F.enters_self B.y n c M.sync B.enters) B.leads)) (cases_Bool (S.is_command v))
          where
            go : (s.done B.x ≡ true) ⊎ (B.x ≡ n) → (S.is_command v ≡ true) ⊎ (S.is_command v ≡ false) → over s v j b ≡ true
            go (inl d) r = left_over v j b B.x at B.leaves d
            go (inr e) (inl cl) = M.left v j b at cl (subst (λ z. S.leaves v b z ≡ true) e B.leaves)
            go (inr e) (inr sl) = absurd (ne (sym (F.leaves_self v b B.x sl B.leaves) ∙ e))

  -- NO CLASH WITH WHAT IS UNDER WAY

  module _ (T : Synchronized S) (n : ℕ) (c : Access) (t : Touches S s n c) where
    not_met : (v : ℕ) (b : Access) → Has S v b → v ≢ n → UnderWay S s v b → Before S v b n c ⊎ Before S n c v b → ⊥
    not_met v b h ne u (inl B) = false≢true (sym u.fresh ∙ sym (over_done s v h.0 b (long_no_load b.doing u.long)) ∙ t.ahead v h.0 b h.1 ne B)
    not_met v b h ne u (inr B) = t.hidden (entered_ahead n t.has.0 v c b t.has.1 u.entered B)

    pub not_meets : (v : ℕ) (b : Access) → Meets S s n c v b → ⊥
    not_meets v b M = not_met v b M.theirs (λ e. M.other (sym e)) M.way (⊎_elim (λ p. inr p) (λ p. inl p) (T.ordered n v c b M.mine M.theirs M.other M.clash))

    pub not_torn : Torn S s n c.piece → ⊥
    not_torn q = not_met q.node q.access q.has q.other q.way (T.ordered q.node n q.access c q.has t.has q.other (F.clash_long q.access c q.way.long q.overlaps))
