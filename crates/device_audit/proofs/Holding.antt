-- What is begun on a device that follows a trace.
use Rattle.std.proofs.Common.{◌≡◌, ◌⊎◌, inl, inr, ℕ, suc, ◌+◌, ◌<◌, ◌==◌, List, [], ◌∷◌, ◌++◌, length, get_or, nat_lt, cond, Bool, true, false, Some, None, refl, sym, ap, ◌∙◌, subst, arith}
use Rattle.std.specs.List.{position, position_or_len, swap_remove}
use Rattle.std.proofs.lemmas.Bool.{cases_eq, false≢true, eq-eqb, eqb-true, ltb-true, ne_eqb}
use Rattle.std.proofs.lemmas.List.Quantifiers.{position-Some}
use Rattle.std.proofs.lemmas.List.Sums.{sum_by-append, sum_by-cons, sum_by-swap_remove}
use Rattle.base.proofs.Absence.{position-none}
use Rattle.device_audit.specs.Internal.Following.{one_if, held_of, Holds, Lands}
use Rattle.device.specs.declared.job.Command.{Command}
use Rattle.device_model.specs.Devices.{Device, state_of, view_in}
use Rattle.device_model.specs.States.{is_begun, put}
use Rattle.device_model.specs.declared.phase.Phase.{Phase}
use Rattle.device_model.specs.declared.phase.Phase.TheVariants.{Begun, Done}
use Rattle.device_model.proofs.Control.{put_at, put_other, still_begun}
use Rattle.check_access.specs.Views.{View}

-- HOW MANY

pub one_same : (m n : ℕ) → m ≡ n → one_if (m == n) ≡ 1
one_same m n e = ap one_if (eq-eqb m n e)

one_other : (m n : ℕ) → (m ≡ n → ⊥) → one_if (m == n) ≡ 0
one_other m n e = ap one_if (ne_eqb m n e)

pub held_more : (m : ℕ) (commands : List Command) (c : Command) → held_of m (commands ++ c ∷ []) ≡ held_of m commands + one_if (c.node == m)
held_more m commands c = sum_by-append (λ (x : Command). one_if (x.node == m)) commands (c ∷ []) ∙ ap (λ k. held_of m commands + k) (omega arith)

held_less : (m : ℕ) (commands : List Command) (i : ℕ) (c : Command) → i < length commands → held_of m (swap_remove commands i c) + one_if ((get_or commands i c).node == m) ≡ held_of m commands
held_less m commands i c lt = sum_by-swap_remove (λ (x : Command). one_if (x.node == m)) commands i c lt

-- the place of a command of the node
module _ (n : ℕ) where
  abbrev own : Command → Bool
  own c = c.node == n

  none_of : (commands : List Command) → ((i : ℕ) (c : Command) → i < length commands → own (get_or commands i c) ≡ false) → held_of n commands ≡ 0
  none_of [] none = refl
  none_of (x ∷ xs) none =
      sum_by-cons (λ (c : Command). one_if (own c)) x xs
      ∙ ap (λ k. k + held_of n xs) (ap one_if (none 0 x (omega arith)))
      ∙ ap (λ k. 0 + k) (none_of xs (λ i c lt. none (suc i) c (omega (arith, lt))))

  pub none_held : (commands : List Command) → position own commands ≡ None → held_of n commands ≡ 0
  none_held commands none = none_of commands (λ i c lt. position-none own commands i c lt none)

  within : (b : Bool) (first count place : ℕ) → nat_lt first count ≡ b → cond b (Some first) None ≡ Some place → place < count
  within true first count place lt is = let same : first ≡ place = cc in omega (arith, ltb-true first count lt, same)
  within false first count place lt is = absurd cc

  module _ (commands : List Command) (place : ℕ) (is : position own commands ≡ Some place) where
    pub found_there : place < length commands
    found_there = within (nat_lt (position_or_len own commands) (length commands)) (position_or_len own commands) (length commands) place refl is

    pub found_own : (c : Command) → (get_or commands place c).node ≡ n
    found_own c = eqb-true (get_or commands place c).node n ((position-Some own commands place c is).1)

-- WHAT IS HELD

-- another device of the program
module _ (d e : Device) (same : view_in e ≡ view_in d) (commands : List Command) (holds : Holds d commands) where
  inside : (n : ℕ) → n < length (view_in d).nodes → n < length (view_in e).nodes
  inside n lt = subst (λ (V : View). n < length V.nodes) (sym same) lt

  -- on which one more node is begun
  pub holds_more : (n : ℕ) (c : Command) → (state_of e).phase ≡ put (state_of d).phase n Begun → n < length (view_in d).nodes → c.node ≡ n → Holds e (commands ++ c ∷ [])
  holds_more n c phases there is = record { has = λ m b. has m b (cases_eq m n); within = λ m some. within m some (cases_eq m n) }
    where
      has : (m : ℕ) → is_begun ((state_of e).phase m) ≡ true → (m ≡ n) ⊎ (m ≡ n → ⊥) → 0 < held_of m (commands ++ c ∷ [])
      has m b (inl own) = omega (arith, held_more m commands c, one_same c.node m (is ∙ sym own))
      has m b (inr other) =
          let old = holds.has m (ap is_begun (sym (put_other (state_of d).phase n m Begun other)) ∙ ap (λ (f : ℕ → Phase). is_begun (f m)) (sym phases) ∙ b) in
          omega (arith, held_more m commands c, old)

      within : (m : ℕ) → 0 < held_of m (commands ++ c ∷ []) → (m ≡ n) ⊎ (m ≡ n → ⊥) → m < length (view_in e).nodes
      within m some (inl own) = inside m (subst (λ k. k < length (view_in d).nodes) (sym own) there)
      within m some (inr other) = inside m (holds.within m (omega (arith, some, held_more m commands c, one_other c.node m (λ same. other (sym same ∙ is)))))

-- on which a node is not begun any more
pub holds_less : (d e : Device) (commands : List Command) (n i : ℕ) (c : Command) → Lands d e n → Holds d commands → i < length commands → ((x : Command) → (get_or commands i x).node ≡ n) → Holds e (swap_remove commands i c)
holds_less d e commands n i c lands holds lt is = record {
  has = λ m b.
      let was = lands.less m b in
      omega (arith, holds.has m was.0, held_less m commands i c lt, one_other (get_or commands i c).node m (λ same. was.1 (sym same ∙ is c)));
  within = λ m some. inside d e lands.same commands holds m (holds.within m (omega (arith, some, held_less m commands i c lt)));
}

-- a node that has ended is not begun
pub ended_less : (d e : Device) (n : ℕ) → (state_of e).phase ≡ put (state_of d).phase n Done → (m : ℕ) → is_begun ((state_of e).phase m) ≡ true → (is_begun ((state_of d).phase m) ≡ true) × (m ≡ n → ⊥)
ended_less d e n phases m b =
    let now = ap (λ (f : ℕ → Phase). is_begun (f m)) (sym phases) ∙ b in
    (still_begun (state_of d).phase n m now, λ own. false≢true (ap is_begun (sym (put_at (state_of d).phase n m Done own)) ∙ now))

-- nor is one that was not begun
pub idle_less : (d : Device) (n : ℕ) → is_begun ((state_of d).phase n) ≡ false → (m : ℕ) → is_begun ((state_of d).phase m) ≡ true → (is_begun ((state_of d).phase m) ≡ true) × (m ≡ n → ⊥)
idle_less d n idle m b = (b, λ own. false≢true (sym idle ∙ ap (λ k. is_begun ((state_of d).phase k)) (sym own) ∙ b))
