-- Where the block of each command begins.
use Rattle.std.proofs.Common.{◌≡◌, ⊎_elim, ℕ, zero, suc, ◌+◌, ◌-◌, ◌<◌, ◌≤◌, List, [], ◌∷◌, length, Some, refl, ap, ◌∙◌, subst, arith}
use Rattle.std.specs.Prelude.{slice_get}
use Rattle.std.proofs.lemmas.Option.{slice_get_within}
use Rattle.compile_groups.specs.declared.command.Command.{Command}
use Rattle.compile_groups.specs.declared.grouping.Grouping.{Grouping}
use Rattle.compile_record.proofs.Entries.{entry_append, entry_left, entry_right}
use Rattle.compile_record.specs.Script.{block, blocks, script}
use Rattle.compile_record.specs.declared.mark.Marked.{Marked}
use Rattle.compile_barriers.specs.Under.{Heap}

module _ (G : Grouping) (heap : Heap) where
  -- that of number n of these commands, which are numbered from c on
  abbrev pub start_from : ℕ → List Command → ℕ → ℕ
  start_from c [] n = 0
  start_from c (command ∷ rest) zero = 0
  start_from c (command ∷ rest) (suc n) = length (block G heap c command) + start_from (suc c) rest n

  from_entry : (c n : ℕ) (rest : List Command) (command : Command) (k j : ℕ) (x : Marked) → slice_get rest n ≡ Some command → slice_get (block G heap (c + n) command) k ≡ Some x → start_from c rest n + k ≡ j → slice_get (blocks G heap c rest) j ≡ Some x
  from_entry c n [] command k j x there is e = absurd cc
  from_entry c zero (y ∷ rest) command k j x there is e =
      let same : command ≡ y = cc in
      let number : c + 0 ≡ c = omega arith in
      let place : k ≡ j = omega (arith, e) in
      entry_left (block G heap c y) (blocks G heap (suc c) rest) j x
      (subst (λ i. slice_get (block G heap c y) i ≡ Some x) place
      (subst (λ z. slice_get (block G heap c z) k ≡ Some x) same
      (subst (λ m. slice_get (block G heap m command) k ≡ Some x) number is)))
  from_entry c (suc n) (y ∷ rest) command k j x there is e =
      let number : c + suc n ≡ suc c + n = omega arith in
      entry_right (block G heap c y) (blocks G heap (suc c) rest) (start_from (suc c) rest n + k) j x
      (from_entry (suc c) n rest command k (start_from (suc c) rest n + k) x there (subst (λ m. slice_get (block G heap m command) k ≡ Some x) number is) refl)
      (omega (arith, e))

  -- entry w of the blocks is entry k of that of number n
  record IsFrom (c : ℕ) (rest : List Command) (w : ℕ) (x : Marked) : Type 0 where
    pub number : ℕ
    pub command : Command
    pub entry : ℕ
    pub there : slice_get rest number ≡ Some command
    pub is : slice_get (block G heap (c + number) command) entry ≡ Some x
    pub place : w ≡ start_from c rest number + entry

  from_of : (c : ℕ) (rest : List Command) (w : ℕ) (x : Marked) → slice_get (blocks G heap c rest) w ≡ Some x → IsFrom c rest w x
  from_of c [] w x e = absurd cc
  from_of c (y ∷ rest) w x e = ⊎_elim here (λ h. later h (from_of (suc c) rest (w - length (block G heap c y)) x h.1)) (entry_append (block G heap c y) (blocks G heap (suc c) rest) w x e)
    where
      here : (w < length (block G heap c y)) × (slice_get (block G heap c y) w ≡ Some x) → IsFrom c (y ∷ rest) w x
      here h =
          let number : c ≡ c + 0 = omega arith in
          record { number = 0; command = y; entry = w; there = refl; is = subst (λ m. slice_get (block G heap m y) w ≡ Some x) number h.1; place = omega arith }

      later : (length (block G heap c y) ≤ w) × (slice_get (blocks G heap (suc c) rest) (w - length (block G heap c y)) ≡ Some x) → IsFrom (suc c) rest (w - length (block G heap c y)) x → IsFrom c (y ∷ rest) w x
      later h F =
          let le = h.0 in
          let place = F.place in
          let number : suc c + F.number ≡ c + suc F.number = omega arith in
          record { number = suc F.number; command = F.command; entry = F.entry; there = F.there; is = subst (λ m. slice_get (block G heap m F.command) F.entry ≡ Some x) number F.is; place = omega (arith, le, place) }

  from_rises : (c : ℕ) (rest : List Command) (n m : ℕ) (command : Command) → slice_get rest n ≡ Some command → n < m → start_from c rest n + length (block G heap (c + n) command) ≤ start_from c rest m
  from_rises c [] n m command e lt = absurd cc
  from_rises c (y ∷ rest) n zero command e lt = absurd (omega (arith, lt))
  from_rises c (y ∷ rest) zero (suc m) command e lt =
      let same : command ≡ y = cc in
      let number : c + 0 ≡ c = omega arith in
      let whole : length (block G heap (c + 0) command) ≡ length (block G heap c y) = ap (λ k. length (block G heap k command)) number ∙ ap (λ z. length (block G heap c z)) same in
      omega (arith, whole)
  from_rises c (y ∷ rest) (suc n) (suc m) command e lt =
      let number : c + suc n ≡ suc c + n = omega arith in
      let whole : length (block G heap (c + suc n) command) ≡ length (block G heap (suc c + n) command) = ap (λ k. length (block G heap k command)) number in
      omega (arith, whole, from_rises (suc c) rest n m command e (omega (arith, lt)))

  -- THE WHOLE LIST

  abbrev pub start : ℕ → ℕ
  start c = start_from 0 G.commands c

  pub at_start : (c k : ℕ) (command : Command) (x : Marked) → slice_get G.commands c ≡ Some command → slice_get (block G heap c command) k ≡ Some x → slice_get (script G heap) (start c + k) ≡ Some x
  at_start c k command x there is =
      let number : c ≡ 0 + c = omega arith in
      from_entry 0 c G.commands command k (start c + k) x there (subst (λ m. slice_get (block G heap m command) k ≡ Some x) number is) refl

  -- entry w is entry k of the block of a command
  pub record IsLocated (w : ℕ) (x : Marked) : Type 0 where
    pub number : ℕ
    pub command : Command
    pub entry : ℕ
    pub there : slice_get G.commands number ≡ Some command
    pub is : slice_get (block G heap number command) entry ≡ Some x
    pub place : w ≡ start number + entry

  pub located : (w : ℕ) (x : Marked) → slice_get (script G heap) w ≡ Some x → IsLocated w x
  located w x e =
      let F = from_of 0 G.commands w x e in
      let number : 0 + F.number ≡ F.number = omega arith in
      record { number = F.number; command = F.command; entry = F.entry; there = F.there; is = subst (λ m. slice_get (block G heap m F.command) F.entry ≡ Some x) number F.is; place = F.place }

  -- what is of an earlier block stands earlier
  pub start_less : (c d k j : ℕ) (command : Command) (x : Marked) → slice_get G.commands c ≡ Some command → slice_get (block G heap c command) k ≡ Some x → c < d → start c + k < start d + j
  start_less c d k j command x there is lt =
      let number : 0 + c ≡ c = omega arith in
      let whole : length (block G heap (0 + c) command) ≡ length (block G heap c command) = ap (λ m. length (block G heap m command)) number in
      omega (arith, whole, from_rises 0 G.commands c d command there lt, slice_get_within (block G heap c command) k x is)
