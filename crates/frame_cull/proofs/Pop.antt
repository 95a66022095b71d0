-- One pass is taken from the stack.
use Rattle.std.proofs.Common.{◌≡◌, ℕ, zero, suc, ◌+◌, ◌<◌, ◌≤◌, List, [], ◌∷◌, ◌++◌, length, get_or, Bool, Option, None, Some, option_to_list, IfNone, refl, sym, ap, subst, ◌∙◌, arith, length-append, ◌↔◌}
use Rattle.std.specs.List.{All, sum_by}
use Rattle.frame_cull.specs.Internal.Counts.{IsForward, IsNeeded, times, count_of, refs_after, stack_after, Counts}
use Rattle.frame_cull.specs.Versions.{row_at}
use Rattle.frame_cull.proofs.Steps.{popped, step, total_after}
use Rattle.frame_cull.proofs.Needed.{needed_is}

get_or-any : {X : Type 0} (xs : List X) (i : ℕ) (d e : X) → i < length xs → get_or xs i d ≡ get_or xs i e
get_or-any [] i d e lt = absurd (omega arith)
get_or-any (x ∷ xs) zero d e lt = refl
get_or-any (x ∷ xs) (suc i) d e lt = get_or-any xs i d e (omega arith)

-- what the code knows after a pop, and what follows
module _ (sources : List (List ℕ)) (roots : List Bool) (refs stack front : List ℕ) (o : Option ℕ) (p : ℕ) (entry row : List ℕ)
    (forward : IsForward sources) (C : Counts sources roots refs stack) (pop : stack ≡ front ++ option_to_list o) (some : o ≡ Some p) (is : entry ≡ get_or sources p entry) (deref : row ≡ entry) where
  stack_is : stack ≡ front ++ p ∷ []
  stack_is = pop ∙ ap (λ x. front ++ option_to_list x) some

  counts : Counts sources roots refs (front ++ p ∷ [])
  counts = subst (λ s. Counts sources roots refs s) stack_is C

  row_is : row ≡ row_at sources p
  row_is = deref ∙ is ∙ get_or-any sources p entry [] (popped sources roots refs front p forward counts).within

  pub row_within : All (λ w. w < length refs) row
  row_within = subst (λ r. All (λ w. w < length refs) r) (sym row_is) (popped sources roots refs front p forward counts).row_within

  pub row_enough : (w : ℕ) → times w row ≤ count_of refs w
  row_enough = subst (λ r. (w : ℕ) → times w r ≤ count_of refs w) (sym row_is) (popped sources roots refs front p forward counts).enough

  pub counts_after : (refs-2 stack-2 : List ℕ) → refs-2 ≡ refs_after row refs → stack-2 ≡ stack_after row refs front → Counts sources roots refs-2 stack-2
  counts_after refs-2 stack-2 e f = rw (e, f, row_is) (step sources roots refs front p forward counts)

  pub total_falls : (refs-2 stack-2 : List ℕ) → refs-2 ≡ refs_after row refs → stack-2 ≡ stack_after row refs front → sum_by (λ r. r) refs-2 + length stack-2 < sum_by (λ r. r) refs + length stack
  total_falls refs-2 stack-2 e f =
      let all = total_after row refs front row_within row_enough in
      let longer : length stack ≡ length front + 1 = ap length stack_is ∙ length-append front (p ∷ []) in
      rw (e, f) (omega (arith, all))

-- no pass is left on the stack
pub ends : (sources : List (List ℕ)) (roots : List Bool) (refs stack front : List ℕ) (o : Option ℕ) → IsForward sources → Counts sources roots refs stack → stack ≡ front ++ option_to_list o → o ≡ None → IfNone o (front ≡ []) → (p : ℕ) → p < length sources → (0 < count_of refs p) ↔ IsNeeded sources roots p
ends sources roots refs stack front o forward C pop none left = let empty : front ≡ [] = subst (λ x. IfNone x (front ≡ [])) none left in needed_is sources roots refs (subst (λ s. Counts sources roots refs s) (pop ∙ (ap (λ x. front ++ option_to_list x) none ∙ ap (λ x. x ++ []) empty)) C) forward
