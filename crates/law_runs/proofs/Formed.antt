-- Kinds of accesses, and ranks of nodes.
use Rattle.std.proofs.Common.{◌≡◌, ◌≢◌, ◌⊎◌, inl, inr, ℕ, ◌<◌, ◌≤◌, ◌||◌, true, false, refl, sym, ap, ◌∙◌, subst, ⊎_elim, arith}
use Rattle.std.proofs.lemmas.Bool.{cases_Bool, false≢true}
use Rattle.law_runs.specs.Formed.{Formed}
use Rattle.law_runs.specs.Orders.{Path, one, then_on, UpTo, Before}
use Rattle.law_runs.specs.Runs.{reads}
use Rattle.law_runs.specs.Systems.{Doing, Load, Store, Superseded, Keep, Transfer, Read, TakeOver, Access, System, Has, is_load, is_long, is_store, changes, stores, loads, transfers}

-- nodes have ranks, as in an order of all nodes, that rise along edges and where an access leaves and is entered
pub record Ranked (S : System) (rank : ℕ → ℕ) : Type 0 where
  pub edges : (x y : ℕ) → S.edge x y ≡ true → rank x < rank y
  pub leaves : (n : ℕ) (a : Access) (x : ℕ) → S.is_command n ≡ true → S.leaves n a x ≡ true → rank n < rank x
  pub enters : (y n : ℕ) (a : Access) → S.is_command n ≡ true → S.enters y n a ≡ true → rank y < rank n

-- KINDS OF ACCESSES

pub store_changes : (d : Doing) → is_store d ≡ true → changes d ≡ true
store_changes Store h = refl
store_changes d h = absurd (false≢true h)

pub store_long : (d : Doing) → is_store d ≡ true → is_long d ≡ true
store_long Store h = refl
store_long d h = absurd (false≢true h)

pub store_stores : (d : Doing) → is_store d ≡ true → stores d ≡ true
store_stores Store h = refl
store_stores d h = absurd (false≢true h)

pub stores_changes : (d : Doing) → stores d ≡ true → changes d ≡ true
stores_changes Store h = refl
stores_changes Keep h = refl
stores_changes d h = absurd (false≢true h)

pub change_no_load : (d : Doing) → changes d ≡ true → is_load d ≡ false
change_no_load Load h = absurd (false≢true h)
change_no_load d h = refl

pub long_no_load : (d : Doing) → is_long d ≡ true → is_load d ≡ false
long_no_load Load h = absurd (false≢true h)
long_no_load d h = refl

pub change_plain : (d : Doing) → changes d ≡ true → transfers d ≡ false
change_plain Transfer h = absurd (false≢true h)
change_plain d h = refl

pub long_plain : (d : Doing) → is_long d ≡ true → transfers d ≡ false
long_plain Transfer h = absurd (false≢true h)
long_plain d h = refl

pub load_plain : (d : Doing) → loads d ≡ true → transfers d ≡ false
load_plain Transfer h = absurd (false≢true h)
load_plain d h = refl

pub is_load_loads : (d : Doing) → is_load d ≡ true → loads d ≡ true
is_load_loads Load h = refl
is_load_loads d h = absurd (false≢true h)

-- what leaves bytes and is no store keeps them
pub stores_loads : (d : Doing) → stores d ≡ true → is_store d ≡ false → loads d ≡ true
stores_loads Store h s = absurd (false≢true (sym s))
stores_loads Keep h s = refl
stores_loads d h s = absurd (false≢true h)

-- a change that is neither a store by an agent nor under way
pub sync_no_store : (d : Doing) → (is_load d || is_long d) ≡ false → is_store d ≡ false
sync_no_store Store h = absurd (false≢true (sym h))
sync_no_store d h = refl

pub command_change : (d : Doing) → (is_load d || is_long d) ≡ true → changes d ≡ true → is_store d ≡ true
command_change Store h c = refl
command_change Load h c = absurd (false≢true c)
command_change Superseded h c = absurd (false≢true c)
command_change d h c = absurd (false≢true h)

-- RANKS

module _ (S : System) (F : Formed S) (rank : ℕ → ℕ) (R : Ranked S rank) where
  pub path_rises : (x y : ℕ) → Path S.edge x y → rank x < rank y
  path_rises x y (one e) = R.edges x y e
  path_rises x y (then_on {b = z} p q) = let a = path_rises x z p in let b = path_rises z y q in omega (arith, a, b)

  pub no_cycle : (x : ℕ) → Path S.edge x x → ⊥
  no_cycle x p = let a = path_rises x x p in omega (arith, a)

  up_rises : (x y : ℕ) → UpTo S x y → rank x ≤ rank y
  up_rises x y (inl e) = let q : rank x ≡ rank y = ap rank e in omega (arith, q)
  up_rises x y (inr p) = let a = path_rises x y p in omega (arith, a)

  -- an access is before accesses of later nodes alone
  pub before_rises : (n m : ℕ) (a b : Access) → n ≢ m → Before S n a m b → rank n < rank m
  before_rises n m a b ne B = go (cases_Bool (S.is_command n)) (cases_Bool (S.is_command m))
    where
      up : rank B.x ≤ rank B.y
      up = up_rises B.x B.y B.leads

      both : B.x ≡ n → B.y ≡ m → UpTo S B.x B.y → rank n < rank m
      both p q (inl e) = absurd (ne (sym p ∙ e ∙ q))
      both p q (inr e) = subst (λ z. rank z < rank m) p (subst (λ z. rank B.x < rank z) q (path_rises B.x B.y e))

      go : (S.is_command n ≡ true) ⊎ (S.is_command n ≡ false) → (S.is_command m ≡ true) ⊎ (S.is_command m ≡ false) → rank n < rank m
      go (inl p) (inl q) = let a = R.leaves n a B.x p B.leaves in let b = R.enters B.y m b q B.enters in let c = up in omega (arith, a, b, c)
      go (inl p) (inr q) = let a = R.leaves n a B.x p B.leaves in let b : rank B.y ≡ rank m = ap rank (F.enters_self B.y m b q B.enters) in let c = up in omega (arith, a, b, c)
      go (inr p) (inl q) = let a : rank B.x ≡ rank n = ap rank (F.leaves_self n a B.x p B.leaves) in let b = R.enters B.y m b q B.enters in let c = up in omega (arith, a, b, c)
      go (inr p) (inr q) = both (F.leaves_self n a B.x p B.leaves) (F.enters_self B.y m b q B.enters) B.leads

  pub not_both_ways : (n m : ℕ) (a b : Access) → n ≢ m → Before S n a m b → Before S m b n a → ⊥
  not_both_ways n m a b ne p q = let x = before_rises n m a b ne p in let y = before_rises m n b a (λ e. ne (sym e)) q in omega (arith, x, y)

-- WHAT READS FOR THE HOST OR THE OUTSIDE COMES LAST

module _ (S : System) (F : Formed S) (n : ℕ) (a : Access) (h : Has S n a) (r : reads a.doing ≡ true) where
  reads_sync : (d : Doing) → reads d ≡ true → (is_load d || is_long d) ≡ false
  reads_sync Read e = refl
  reads_sync TakeOver e = refl
  reads_sync d e = absurd (false≢true e)

  pub reads_no_command : S.is_command n ≡ false
  reads_no_command = ⊎_elim (λ e. absurd (false≢true (sym (reads_sync a.doing r) ∙ F.of_command n a h e))) (λ e. e) (cases_Bool (S.is_command n))

  none_from : (x y : ℕ) → x ≡ n → Path S.edge x y → ⊥
  none_from x y e (one q) = F.ends n y a h r (subst (λ z. S.edge z y ≡ true) e q)
  none_from x y e (then_on {b = z} p q) = none_from x z e p

  pub none_later : (v : ℕ) (c : Access) → v ≢ n → Before S n a v c → ⊥
  none_later v c ne B = go (F.leaves_self n a B.x reads_no_command B.leaves) B.leads
    where
      go : B.x ≡ n → UpTo S B.x B.y → ⊥
      go e (inl q) = F.enters_none n v a c h r ne (subst (λ z. S.enters z v c ≡ true) (sym q ∙ e) B.enters)
      go e (inr p) = none_from B.x B.y e p
