-- What lists contain, and the uses of a group on one queue.
use Rattle.std.proofs.Common.{◌≡◌, ⊎_elim, ℕ, zero, suc, ◌+◌, ◌-◌, ◌<◌, ◌≤◌, ◌==◌, List, [], ◌∷◌, length, get_or, refl, sym, ap, ◌∙◌, subst, eq-eqb, eqb-true, arith}
use Rattle.std.specs.List.{All, AllPairs, Contains, flat_map, range_with_len}
use Rattle.std.proofs.lemmas.Bool.{cases_lt}
use Rattle.std.proofs.lemmas.List.{length-append}
use Rattle.std.proofs.lemmas.List.Elements.{All-filter, filter_passes}
use Rattle.std.proofs.lemmas.List.FromFn.{get_or-range_with_len, length-range_with_len}
use Rattle.std.proofs.lemmas.List.Kept.{AllPairs-filter}
use Rattle.compile_groups.specs.Uses.{no_use}
use Rattle.compile_groups.specs.declared.unit_use.Use.{Use}
use Rattle.compile_record.proofs.Contained.{contains_tail, contains_filter}
use Rattle.compile_barriers.specs.Prologues.{first, last}
use Rattle.compile_barriers.specs.Unions.{on}

pub contains_at : {X : Type 0} (xs : List X) (k : ℕ) (d : X) → k < length xs → Contains xs (get_or xs k d)
contains_at [] k d lt = absurd (omega (arith, lt))
contains_at (x ∷ xs) zero d lt = (0, omega arith, refl)
contains_at (x ∷ xs) (suc k) d lt = contains_tail x xs (get_or xs k d) (contains_at xs k d (omega (arith, lt)))

-- the joined list is not empty where one part is not
pub some_part : {X Y : Type 0} (f : X → List Y) (xs : List X) (x : X) → Contains xs x → 0 < length (f x) → 0 < length (flat_map f xs)
some_part {X} {Y} f xs x h some = go xs h.0 h.1 h.2
  where
    go : (ys : List X) (k : ℕ) → k < length ys → get_or ys k x ≡ x → 0 < length (flat_map f ys)
    go [] k lt e = absurd (omega (arith, lt))
    go (y ∷ ys) zero lt e = let l = length-append (f y) (flat_map f ys) in let more : 0 < length (f y) = subst (λ z. 0 < length (f z)) (sym e) some in omega (arith, l, more)
    go (y ∷ ys) (suc k) lt e = let l = length-append (f y) (flat_map f ys) in let rest = go ys k (omega (arith, lt)) e in omega (arith, l, rest)

pub contains_number : (n k : ℕ) → k < n → Contains (range_with_len 0 n) k
contains_number n k lt =
    let count = length-range_with_len 0 n in
    let zero_more : 0 + k ≡ k = omega arith in
    (k, omega (arith, count, lt), get_or-range_with_len 0 n k k lt ∙ zero_more)

-- USES ON A QUEUE

pub contains_on : (A : List Use) (u : Use) → Contains A u → Contains (on u.queue A) u
contains_on A u h = contains_filter (λ (v : Use). v.queue == u.queue) A u h (eq-eqb u.queue u.queue refl)

abbrev pub Rising : List Use → Type 0
Rising A = AllPairs (λ u v. u.command < v.command) A

-- the last one is the latest, and the first one the earliest
pub up_to_last : (A : List Use) (u : Use) → Rising A → Contains A u → u.command ≤ (last A).command
up_to_last A u rising (k, lt, at) = ⊎_elim
    (λ (l : k < length A - 1). let below = rising k (length A - 1) no_use l (omega (arith, lt)) in let is : (get_or A k no_use).command ≡ u.command = ap (λ (v : Use). v.command) own in omega (arith, below, is))
    (λ (l : length A - 1 ≤ k). let same : k ≡ length A - 1 = omega (arith, l, lt) in let is : u.command ≡ (last A).command = ap (λ (v : Use). v.command) (sym own) ∙ ap (λ j. (get_or A j no_use).command) same in omega (arith, is))
    (cases_lt k (length A - 1))
  where
    any_default : (B : List Use) (j : ℕ) (d e : Use) → j < length B → get_or B j d ≡ get_or B j e
    any_default [] j d e l = absurd (omega (arith, l))
    any_default (v ∷ B) zero d e l = refl
    any_default (v ∷ B) (suc j) d e l = any_default B j d e (omega (arith, l))

    own : get_or A k no_use ≡ u
    own = any_default A k no_use u lt ∙ at

pub from_first : (A : List Use) (u : Use) → Rising A → Contains A u → (first A).command ≤ u.command
from_first A u rising (zero, lt, at) = let is : (first A).command ≡ u.command = ap (λ (v : Use). v.command) (go A lt at) in omega (arith, is)
  where
    go : (B : List Use) → 0 < length B → get_or B 0 u ≡ u → first B ≡ u
    go [] l e = absurd (omega (arith, l))
    go (v ∷ B) l e = e
from_first A u rising (suc k, lt, at) = let below = rising 0 (suc k) u (omega arith) lt in let is : (get_or A (suc k) u).command ≡ u.command = ap (λ (v : Use). v.command) at in let same = ap (λ (v : Use). v.command) (go A lt) in omega (arith, below, is, same)
  where
    go : (B : List Use) → suc k < length B → get_or B 0 u ≡ first B
    go [] l = absurd (omega (arith, l))
    go (v ∷ B) l = refl

module _ (A : List Use) (q : ℕ) where
  pub on_rising : Rising A → Rising (on q A)
  on_rising rising = AllPairs-filter (λ (u : Use) (v : Use). u.command < v.command) (λ (u : Use). u.queue == q) A rising

  pub on_all : (P : Use → Type 0) → All P A → All P (on q A)
  on_all P all = All-filter (λ (u : Use). u.queue == q) P A all

  -- the last and the first of those on the queue
  pub last_on : (P : Use → Type 0) → All P A → 0 < length (on q A) → P (last (on q A))
  last_on P all some = on_all P all (length (on q A) - 1) no_use (omega (arith, some))

  pub first_on : (P : Use → Type 0) → All P A → 0 < length (on q A) → P (first (on q A))
  first_on P all some = on_all P all 0 no_use some

  pub last_queue : 0 < length (on q A) → (last (on q A)).queue ≡ q
  last_queue some = eqb-true (last (on q A)).queue q (filter_passes (λ (u : Use). u.queue == q) A (length (on q A) - 1) no_use (omega (arith, some)))

  pub first_queue : 0 < length (on q A) → (first (on q A)).queue ≡ q
  first_queue some = eqb-true (first (on q A)).queue q (filter_passes (λ (u : Use). u.queue == q) A 0 no_use some)
