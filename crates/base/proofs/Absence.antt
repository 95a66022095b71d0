-- Where nothing was found.
use Rattle.std.proofs.Common.{subst, ◌≡◌, ℕ, zero, suc, ◌+◌, ◌<◌, ◌≤◌, List, [], ◌∷◌, length, get_or, slice_get, nat_lt, not, Bool, true, false, Option, None, Some, is_some, if◌then◌else◌, refl, cond, arith}
use Rattle.std.specs.List.{position, position_or_len, All}
use Rattle.std.specs.Option.{option_or, option_map}
use Rattle.std.proofs.lemmas.Bool.{ltb-false}
use Rattle.std.proofs.lemmas.List.Sums.{fails_before_first}
use Rattle.base.specs.Walks.{first_in}

pub or_first : {X : Type 0} (a b : Option X) → option_or a b ≡ None → a ≡ None
or_first None b e = refl
or_first (Some x) b e = absurd cc

pub or_second : {X : Type 0} (a b : Option X) → option_or a b ≡ None → b ≡ None
or_second None b e = e
or_second (Some x) b e = absurd cc

pub map_none : {X Y : Type 0} (f : X → Y) (a : Option X) → option_map f a ≡ None → a ≡ None
map_none f None e = refl
map_none f (Some x) e = absurd cc

pub has_it : {X : Type 0} (t : Bool) (x : X) → (if t then None else Some x) ≡ None → t ≡ true
has_it true x e = refl
has_it false x e = absurd cc

pub not_none : {A : Type 0} (b : Bool) (x : A) → cond b (Some x) None ≡ None → b ≡ false
not_none true x e = absurd cc
not_none false x e = refl

pub not_false : (b : Bool) → not b ≡ false → b ≡ true
not_false true e = refl
not_false false e = absurd cc

pub position-none : {X : Type 0} (p : X → Bool) (xs : List X) (i : ℕ) (x : X) → i < length xs → position p xs ≡ None → p (get_or xs i x) ≡ false
position-none p xs i x lt none =
    let le : length xs ≤ position_or_len p xs = ltb-false (position_or_len p xs) (length xs) (not_none (nat_lt (position_or_len p xs) (length xs)) (position_or_len p xs) none) in
    fails_before_first p xs i x (omega arith)

-- where no entry fails the test, each passes
pub all_pass : {X : Type 0} (test : X → Bool) (xs : List X) → position (λ y. not (test y)) xs ≡ None → All (λ y. test y ≡ true) xs
all_pass test xs none = λ i d lt. not_false (test (get_or xs i d)) (position-none (λ y. not (test y)) xs i d lt none)

-- a rule that gives nothing over a list gives nothing at each entry
pub first_none : {X Y : Type 0} (rule : ℕ → X → Option Y) (i : ℕ) (xs : List X) → first_in rule i xs ≡ None → (k : ℕ) (d : X) → k < length xs → rule (i + k) (get_or xs k d) ≡ None
first_none rule i [] none k d lt = absurd (omega arith)
first_none rule i (x ∷ xs) none zero d lt =
    let e : i ≡ i + 0 = omega arith in
    subst (λ j. rule j x ≡ None) e (or_first (rule i x) (first_in rule (suc i) xs) none)
first_none rule i (x ∷ xs) none (suc k) d lt =
    let e : suc i + k ≡ i + suc k = omega arith in
    subst (λ j. rule j (get_or xs k d) ≡ None) e (first_none rule (suc i) xs (or_second (rule i x) (first_in rule (suc i) xs) none) k d (omega arith))

-- the same at an entry that is got
pub none_at : {X Y : Type 0} (rule : ℕ → X → Option Y) (i : ℕ) (xs : List X) → first_in rule i xs ≡ None → (k : ℕ) (x : X) → slice_get xs k ≡ Some x → rule (i + k) x ≡ None
none_at rule i [] none k x is = absurd cc
none_at rule i (y ∷ ys) none zero x is =
    let same : y ≡ x = cc in
    subst (λ z. rule (i + 0) z ≡ None) same (subst (λ n. rule n y ≡ None) (omega arith) (or_first (rule i y) (first_in rule (suc i) ys) none))
none_at rule i (y ∷ ys) none (suc k) x is =
    subst (λ n. rule n x ≡ None) (omega arith) (none_at rule (suc i) ys (or_second (rule i y) (first_in rule (suc i) ys) none) k x is)

-- from the first place on
pub none_from : {X Y : Type 0} (rule : ℕ → X → Option Y) (xs : List X) → first_in rule 0 xs ≡ None → (k : ℕ) (x : X) → slice_get xs k ≡ Some x → rule k x ≡ None
none_from rule xs none k x is = let same : 0 + k ≡ k = omega arith in subst (λ n. rule n x ≡ None) same (none_at rule 0 xs none k x is)

-- a test that gives an entry, and one that gives none
pub out : {X : Type 0} (b : Bool) (x : X) → (if b then Some x else None) ≡ None → b ≡ false
out true x e = absurd cc
out false x e = refl

pub stays_out : {X : Type 0} (b : Bool) (x : X) → b ≡ false → (if b then Some x else None) ≡ None
stays_out true x e = absurd cc
stays_out false x e = refl

pub passes_test : {X : Type 0} (b : Bool) (x : X) → b ≡ true → (if b then None else Some x) ≡ None
passes_test true x e = refl
passes_test false x e = absurd cc

pub is_there : {X : Type 0} (b : Bool) (x : X) → is_some (if b then Some x else None) ≡ b
is_there true x = refl
is_there false x = refl

-- equal options that are there hold equal values
pub some_same : {X : Type 0} {a b : X} → Some a ≡ Some b → a ≡ b
some_same e = cc

pub none_some : {X : Type 0} {x : X} → None ≡ Some x → ⊥
none_some e = cc
