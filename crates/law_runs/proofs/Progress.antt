-- A sound program never stands still.
use Rattle.std.proofs.Common.{◌≡◌, ◌⊎◌, inl, inr, ℕ, zero, suc, Bool, true, false, List, [], ◌∷◌, slice_get, Some, if◌then◌else◌, refl, sym, ap, ◌∙◌, subst, ⊎_elim, eq-eqb, ne_eqb}
use Rattle.std.proofs.lemmas.Bool.{cases_Bool, false≢true}
use Rattle.law_runs.proofs.Absence.{some_same}
use Rattle.law_runs.proofs.Control.{Past, over_done, over_taken}
use Rattle.law_runs.proofs.Simulation.{sound_holds}
use Rattle.law_runs.specs.Apart.{Among, before_in, Earlier, Order}
use Rattle.law_runs.specs.Formed.{Formed}
use Rattle.law_runs.specs.Laws.{Sound, AllDone, GoesOn}
use Rattle.device_cache.specs.Lines.{Bytes}
use Rattle.law_runs.specs.Runs.{Run}
use Rattle.law_runs.specs.States.{State, opened, over, MaySync}
use Rattle.law_runs.specs.Systems.{Access, System, At, is_load}

-- THE FIRST NODE THAT IS NOT DONE

abbrev pub FirstOpen : (ℕ → Bool) → List ℕ → Type 0
FirstOpen done list = ((x : ℕ) → Among x list → done x ≡ true) ⊎ ((n : ℕ) × Among n list × (done n ≡ false) × ((x : ℕ) → Earlier list x n → done x ≡ true))

open_more : (done : ℕ → Bool) (u : ℕ) (rest : List ℕ) → (done u ≡ true) ⊎ (done u ≡ false) → FirstOpen done rest → FirstOpen done (u ∷ rest)
open_more done u rest (inr e) r = inr (u, inl refl, e, λ x h. absurd (subst (λ l. Among x l) (ap (λ z. if z then [] else u ∷ before_in rest u) (eq-eqb u u refl)) h))
open_more done u rest (inl e) (inl f) = inl (λ x h. ⊎_elim (λ q. ap done q ∙ e) (λ q. f x q) h)
open_more done u rest (inl e) (inr t) = inr (t.0, inr t.1, t.2, λ x h. ⊎_elim (λ q. ap done q ∙ e) (λ q. t.3 x q) (subst (λ l. Among x l) (ap (λ z. if z then [] else u ∷ before_in rest t.0) (ne_eqb u t.0 (λ q. false≢true (sym t.2 ∙ ap done (sym q) ∙ e)))) h))

pub first_open : (done : ℕ → Bool) (list : List ℕ) → FirstOpen done list
first_open done [] = inl (λ x h. absurd h)
first_open done (u ∷ rest) = open_more done u rest (cases_Bool (done u)) (first_open done rest)

-- A LOAD THAT IS NOT TAKEN

abbrev OpenLoad : (ℕ → Bool) → List Access → Type 0
OpenLoad taken list = ((k : ℕ) × (a : Access) × (slice_get list k ≡ Some a) × (is_load a.doing ≡ true) × (taken k ≡ false)) ⊎ ((k : ℕ) (a : Access) → slice_get list k ≡ Some a → is_load a.doing ≡ true → taken k ≡ true)

open_load : (list : List Access) (taken : ℕ → Bool) → OpenLoad taken list
open_load [] taken = inr none
  where
    none : (k : ℕ) (a : Access) → slice_get [] k ≡ Some a → is_load a.doing ≡ true → taken k ≡ true
    none k a e l = absurd cc
open_load (b ∷ rest) taken = go (cases_Bool (is_load b.doing)) (cases_Bool (taken 0)) (open_load rest (λ k. taken (suc k)))
  where
    all : ((k : ℕ) (a : Access) → slice_get rest k ≡ Some a → is_load a.doing ≡ true → taken (suc k) ≡ true) → (is_load b.doing ≡ true → taken 0 ≡ true) → (k : ℕ) (a : Access) → slice_get (b ∷ rest) k ≡ Some a → is_load a.doing ≡ true → taken k ≡ true
    all more here zero a e l = here (ap (λ z. is_load z.doing) (some_same e) ∙ l)
    all more here (suc k) a e l = more k a e l

    go : (is_load b.doing ≡ true) ⊎ (is_load b.doing ≡ false) → (taken 0 ≡ true) ⊎ (taken 0 ≡ false) → OpenLoad (λ k. taken (suc k)) rest → OpenLoad taken (b ∷ rest)
    go p q (inl t) = inl (suc t.0, t.1, t.2, t.3, t.4)
    go (inl p) (inr q) (inr more) = inl (0, b, refl, p, q)
    go (inl p) (inl q) (inr more) = inr (all more (λ l. q))
    go (inr p) q (inr more) = inr (all more (λ l. absurd (false≢true (sym p ∙ l))))

-- IT CAN GO ON

module _ (S : System) (F : Formed S) (order : List ℕ) (O : Order S order) (s : State) (P : Past S s) (n : ℕ) (h : Among n order) (f : s.done n ≡ false) (d : (x : ℕ) → Earlier order x n → s.done x ≡ true) where
  pub goes_on : GoesOn S s
  goes_on = ⊎_elim (λ cl. command cl (open_load (S.accesses n) (λ k. s.taken n k))) (λ sl. inr (inr (n, sync sl))) (cases_Bool (S.is_command n))
    where
      command : S.is_command n ≡ true → OpenLoad (λ k. s.taken n k) (S.accesses n) → GoesOn S s
      command cl (inl t) = inl (n, t.0, t.1, record { command = cl; at = t.2; load = t.3; fresh = t.4; entered = λ y e. d y (O.enters y n t.1 cl e) })
      command cl (inr all) = inr (inl (
        n,
        record {
          within = O.only n h;
          command = cl;
          fresh = f;
          taken = λ k a at l. all k a at l;
          entered = λ a ha l y e. d y (O.enters y n a cl e);
        },
      ))

      sync : S.is_command n ≡ false → MaySync S s n
      sync sl = record {
        within = O.only n h;
        sync = sl;
        fresh = f;
        left = λ v k a at cl l. left v k a at (d v (O.leaves v a n cl l)) (cases_Bool (is_load a.doing));
        edges = λ x e. d x (O.edges x n e);
      }
        where
          left : (v k : ℕ) (a : Access) → At S v k a → s.done v ≡ true → (is_load a.doing ≡ true) ⊎ (is_load a.doing ≡ false) → over s v k a ≡ true
          left v k a at f (inl l) = over_taken s v k a l ∙ P.stored v k a at l f
          left v k a at f (inr l) = over_done s v k a l ∙ f

pub progressed : (S : System) → Formed S → (X : Sound S) → (main : Bytes) (s : State) → Run S (opened S main) s → AllDone S s ⊎ GoesOn S s
progressed S F X main s r = go (first_open s.done X.order)
  where
    go : FirstOpen s.done X.order → AllDone S s ⊎ GoesOn S s
    go (inl f) = inl (λ n lt. f n (X.ordered.all n lt))
    go (inr t) = inr (goes_on S F X.order X.ordered s (sound_holds S F X X.order X.ordered main s r).past t.0 t.1 t.2 t.3)
