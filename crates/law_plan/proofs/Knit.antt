-- Groups that lead to one another by prologues synchronize all accesses that clash.
use Rattle.std.proofs.Common.{◌≡◌, ◌⊎◌, inl, inr, ℕ, Bool, true, refl, sym, subst}
use Rattle.law_plan.proofs.Passing.{Enters, Synchronizes, enters_then, synchronizes_through}
use Rattle.law_plan.specs.Masks.{Leaves}
use Rattle.base_reach.specs.Paths.{Path, one, then_on}
use Rattle.law_nodes.proofs.Passes.{up_to_on}
use Rattle.law_nodes.specs.Passing.{Before, UpTo, Passed}
use Rattle.check_sync.specs.Synchronized.{Clashing}
use Rattle.law_nodes.specs.Synchronized.{Synchronized}
use Rattle.check_access.specs.ValidView.{Has}
use Rattle.check_access.specs.Views.{View}
use Rattle.check_access.specs.declared.access.Access.{Access}

abbrev pub Either : View → ℕ → Access → ℕ → Access → Type 0
Either V x a y b = Synchronizes V x a y b ⊎ Synchronizes V y b x a

-- one group, or a way from one to the other
abbrev pub OnAWay : (ℕ → ℕ → Bool) → ℕ → ℕ → Type 0
OnAWay leads g h = (g ≡ h) ⊎ Path leads g h ⊎ Path leads h g

-- no node is before itself
abbrev pub Acyclic : View → Type 0
Acyclic V = (x : ℕ) → Before V x x → ⊥

-- leads g h: each access of group g goes through the prologue of group h to each access of h
pub record Knit (V : View) (leads : ℕ → ℕ → Bool) (prologue : ℕ → ℕ) (Spot : ℕ → Access → ℕ → Type 0) : Type 0 where
  pub spot : (x : ℕ) (a : Access) → Has V x a → (g : ℕ) × Spot x a g
  pub enters : (x : ℕ) (a : Access) (g h : ℕ) → Spot x a g → leads g h ≡ true → Enters V x a (prologue h)
  pub leaves : (y : ℕ) (b : Access) (g h : ℕ) → Spot y b h → leads g h ≡ true → Leaves V (prologue h) y b
  pub through : (g h k : ℕ) → leads g h ≡ true → leads h k ≡ true → Before V (prologue h) (prologue k)
  pub inside : (x y : ℕ) (a b : Access) (g : ℕ) → Spot x a g → Spot y b g → Clashing V x a y b → Either V x a y b
  pub apart : (x y : ℕ) (a b : Access) (g h : ℕ) → Spot x a g → Spot y b h → Clashing V x a y b → OnAWay leads g h

-- the first prologue on the way from g to h, and the group right before h
record Way (V : View) (leads : ℕ → ℕ → Bool) (prologue : ℕ → ℕ) (g h : ℕ) : Type 0 where
  start : ℕ
  last : ℕ
  starts : leads g start ≡ true
  ends : leads last h ≡ true
  along : UpTo V (prologue start) (prologue h)

module _ (V : View) (leads : ℕ → ℕ → Bool) (prologue : ℕ → ℕ) (Spot : ℕ → Access → ℕ → Type 0) (K : Knit V leads prologue Spot) where
  way : (g h : ℕ) → Path leads g h → Way V leads prologue g h
  way g h (one e) = record { start = h; last = g; starts = e; ends = e; along = inl refl }
  way g h (then_on {b = m} p q) =
      let A = way g m p in
      let B = way m h q in
      record {
        start = A.start;
        last = B.last;
        starts = A.starts;
        ends = B.ends;
        along = up_to_on V (prologue A.start) (prologue m) (prologue h) A.along (up_to_on V (prologue m) (prologue B.start) (prologue h) (inr (K.through A.last m B.start A.ends B.starts)) B.along);
      }

  pub synchronizes_chain : (x y : ℕ) (a b : Access) (g h : ℕ) → Spot x a g → Spot y b h → Path leads g h → Synchronizes V x a y b
  synchronizes_chain x y a b g h sa sb p =
      let A = way g h p in
      synchronizes_through V x a (prologue h) y b (enters_then V x a (prologue A.start) (prologue h) (K.enters x a g A.start sa A.starts) A.along) (K.leaves y b A.last h sb A.ends)

  pair : (x y : ℕ) (a b : Access) → Has V x a → Has V y b → Clashing V x a y b → Either V x a y b
  pair x y a b ha hb c = go (K.spot x a ha) (K.spot y b hb)
    where
      by : (g h : ℕ) → Spot x a g → Spot y b h → OnAWay leads g h → Either V x a y b
      by g h sa sb (inl e) = K.inside x y a b g sa (subst (λ z. Spot y b z) (sym e) sb) c
      by g h sa sb (inr (inl p)) = inl (synchronizes_chain x y a b g h sa sb p)
      by g h sa sb (inr (inr p)) = inr (synchronizes_chain y x b a h g sb sa p)

      go : (g : ℕ) × Spot x a g → (h : ℕ) × Spot y b h → Either V x a y b
      go (g, sa) (h, sb) = by g h sa sb (K.apart x y a b g h sa sb c)

  pub knit_synchronized : Acyclic V → Synchronized V
  knit_synchronized A = record { ordered = λ x y a b ha hb c. order (pair x y a b ha hb c); passed = λ x y a b ha hb c p changes keeps. pass x y a b p (pair x y a b ha hb c) }
    where
      order : {x y : ℕ} {a b : Access} → Either V x a y b → Before V x y ⊎ Before V y x
      order (inl t) = inl t.before
      order (inr t) = inr t.before

      pass : (x y : ℕ) (a b : Access) → Before V x y → Either V x a y b → Passed V x a y b
      pass x y a b p (inl t) = t.passed
      pass x y a b p (inr t) = absurd (A x (then_on p t.before))
