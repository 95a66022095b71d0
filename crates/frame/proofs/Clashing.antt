-- Entries that clash, by a table of their names and one of the entries.
use Rattle.std.proofs.Common.{◌≡◌, ℕ, suc, map, is_some, ◌+◌, ◌<◌, ◌||◌, ◌&&◌, ◌==◌, ◌++◌, nat_eq, List, [], ◌∷◌, length, get_or, take, if◌then◌else◌, Bool, true, false, Option, None, Some, refl, sym, ap, ap₂, subst, ◌∙◌, add-one}
use Rattle.std.specs.List.{list_any}
use Rattle.std.specs.Option.{option_eq, option_or}
use Rattle.std.specs.Str.{bytes_eq}
use Rattle.std.proofs.Math.Seq.{take-suc}
use Rattle.std.proofs.lemmas.List.{take-map}
use Rattle.std.proofs.lemmas.List.Folds.{list_any-append, list_any_more}
use Rattle.std.proofs.lemmas.Slice.Eq.{bytes_eq-Decides}
use Rattle.std.proofs.lemmas.Bool.{or_parts}
use Rattle.indexmap.specs.IndexSet.{insert_key}
use Rattle.base.proofs.Booleans.{or_false}
use Rattle.base.specs.Walks.{first_in}
use Rattle.frame.specs.Clashes.{clash, layers_clash, clashes_at, first_clash}
use Rattle.frame.specs.Repeats.{repeats_at, first_repeat}
use Rattle.frame.specs.declared.frame.Spot.{Spot}

-- how entries are equal as keys
abbrev pub same_spot : Spot → Spot → Bool
same_spot a b = bytes_eq a.name b.name && option_eq nat_eq a.layer b.layer

-- BOOLEANS

and_true : (a : Bool) → (a && true) ≡ a
and_true true = refl
and_true false = refl

swap_or : (a b c d : Bool) → ((a || b) || (c || d)) ≡ ((a || c) || (b || d))
swap_or true b c d = refl
swap_or false true true d = refl
swap_or false true false d = refl
swap_or false false c d = refl

-- TESTS OVER LISTS

any_same : {X : Type 0} (p q : X → Bool) → ((x : X) → p x ≡ q x) → (xs : List X) → list_any p xs ≡ list_any q xs
any_same p q same [] = refl
any_same p q same (x ∷ xs) = ap₂ (λ a b. a || b) (same x) (any_same p q same xs)

any_or : {X : Type 0} (p q r : X → Bool) → ((x : X) → p x ≡ (q x || r x)) → (xs : List X) → list_any p xs ≡ (list_any q xs || list_any r xs)
any_or p q r resolved [] = refl
any_or p q r resolved (x ∷ xs) = ap₂ (λ a b. a || b) (resolved x) (any_or p q r resolved xs) ∙ swap_or (q x) (r x) (list_any q xs) (list_any r xs)

any_less : {X : Type 0} (p q : X → Bool) → ((x : X) → q x ≡ (p x && q x)) → (xs : List X) → list_any p xs ≡ false → list_any q xs ≡ false
any_less p q less [] nope = refl
any_less p q less (x ∷ xs) nope = both (p x) (q x) (list_any p xs) (list_any q xs) (less x) nope (any_less p q less xs)
  where
    both : (a b c d : Bool) → b ≡ (a && b) → (a || c) ≡ false → (c ≡ false → d ≡ false) → (b || d) ≡ false
    both true b c d e nope rest = absurd cc
    both false true c d e nope rest = absurd cc
    both false false c d e nope rest = rest nope

-- CLASHES

layer_step : (b : Bool) (l : ℕ) (o : Option ℕ) → (b && layers_clash (Some l) o) ≡ ((b && option_eq nat_eq None o) || (b && option_eq nat_eq (Some l) o))
layer_step true l None = refl
layer_step true l (Some m) = refl
layer_step false l o = refl

pub layer_taken : (name : List ℕ) (l : ℕ) (xs : List Spot) → (list_any (same_spot (record { name = name; layer = None })) xs || list_any (same_spot (record { name = name; layer = Some l })) xs) ≡ list_any (clash (record { name = name; layer = Some l })) xs
layer_taken name l xs = sym (any_or (clash (record { name = name; layer = Some l })) (same_spot (record { name = name; layer = None })) (same_spot (record { name = name; layer = Some l })) (λ x. layer_step (bytes_eq name x.name) l x.layer) xs)

less_named : (b c : Bool) → (b && c) ≡ (b && (b && c))
less_named true c = refl
less_named false c = refl

-- where no entry has the name, none clashes
pub none_named : (spot : Spot) (xs : List Spot) → list_any (λ s. bytes_eq spot.name s.name) xs ≡ false → list_any (clash spot) xs ≡ false
none_named spot xs nope = any_less (λ s. bytes_eq spot.name s.name) (clash spot) (λ x. less_named (bytes_eq spot.name x.name) (layers_clash spot.layer x.layer)) xs nope

-- all layers clash with each entry of the name
pub all_taken : (spot : Spot) (xs : List Spot) → spot.layer ≡ None → list_any (λ s. bytes_eq spot.name s.name) xs ≡ true → list_any (clash spot) xs ≡ true
all_taken spot xs all has = any_same (clash spot) (λ s. bytes_eq spot.name s.name) (λ x. ap (λ o. bytes_eq spot.name x.name && layers_clash o x.layer) all ∙ and_true (bytes_eq spot.name x.name)) xs ∙ has

-- TABLES THAT GROW

-- a name is in the table exactly where it was, or is the one that came
found : (n k : List ℕ) (keys : List (List ℕ)) → list_any (bytes_eq n) (insert_key bytes_eq keys k) ≡ (list_any (bytes_eq n) keys || bytes_eq n k)
found n k keys = by_old (list_any (bytes_eq k) keys) refl
  where
    known : (b : Bool) → bytes_eq n k ≡ b → list_any (bytes_eq k) keys ≡ true → list_any (bytes_eq n) keys ≡ (list_any (bytes_eq n) keys || b)
    known false e old = sym (or_false (list_any (bytes_eq n) keys))
    known true e old =
        let same : n ≡ k = (bytes_eq-Decides n k).0 e in
        let there : list_any (bytes_eq n) keys ≡ true = subst (λ m. list_any (bytes_eq m) keys ≡ true) (sym same) old in
        rw there refl

    by_old : (b : Bool) → list_any (bytes_eq k) keys ≡ b → list_any (bytes_eq n) (if b then keys else keys ++ k ∷ []) ≡ (list_any (bytes_eq n) keys || bytes_eq n k)
    by_old true e = known (bytes_eq n k) refl e
    by_old false e = list_any-append (bytes_eq n) keys (k ∷ []) ∙ ap (λ b. list_any (bytes_eq n) keys || b) (or_false (bytes_eq n k))

pub names_on : (spots : List Spot) (i : ℕ) (spot : Spot) (keys keys' : List (List ℕ)) → i < length spots → spot ≡ get_or spots i spot → keys' ≡ insert_key bytes_eq keys spot.name → ((n : List ℕ) → list_any (bytes_eq n) keys ≡ list_any (λ s. bytes_eq n s.name) (take i spots)) → (n : List ℕ) → list_any (bytes_eq n) keys' ≡ list_any (λ s. bytes_eq n s.name) (take (i + 1) spots)
names_on spots i spot keys keys' lt is grows before n =
    ap (list_any (bytes_eq n)) grows ∙ found n spot.name keys ∙ ap₂ (λ a b. a || b) (before n) (ap (λ s. bytes_eq n s.name) is) ∙ sym (list_any_more (λ s. bytes_eq n s.name) spots i spot lt)

less_same : (b : Bool) (o q : Option ℕ) → (b && option_eq nat_eq o q) ≡ ((b && layers_clash o q) && (b && option_eq nat_eq o q))
less_same false o q = refl
less_same true None None = refl
less_same true None (Some m) = refl
less_same true (Some l) None = refl
less_same true (Some l) (Some m) = twice (l == m)
  where
    twice : (b : Bool) → b ≡ (b && b)
    twice true = refl
    twice false = refl

-- an entry that clashes with none is a new key
pub keys_on : (spots : List Spot) (i : ℕ) (spot : Spot) (keys keys' : List Spot) → i < length spots → spot ≡ get_or spots i spot → keys' ≡ insert_key same_spot keys spot → keys ≡ take i spots → list_any (clash spot) keys ≡ false → keys' ≡ take (i + 1) spots
keys_on spots i spot keys keys' lt is grows so_far free =
    let absent : list_any (same_spot spot) keys ≡ false = any_less (clash spot) (same_spot spot) (λ x. less_same (bytes_eq spot.name x.name) spot.layer x.layer) keys free in
    let last : keys' ≡ keys ++ spot ∷ [] = grows ∙ ap (λ b. if b then keys else keys ++ spot ∷ []) absent in
    rw add-one (last ∙ ap₂ (λ a b. a ++ b ∷ []) so_far is ∙ sym (take-suc spots i spot lt))

-- WHOLE RESOURCES

named_clash : (x : Spot) (xs : List Spot) → x.layer ≡ None → list_any (bytes_eq x.name) (map (λ s. s.name) xs) ≡ list_any (clash x) xs
named_clash x [] whole = refl
named_clash x (y ∷ ys) whole = ap₂ (λ a b. a || b) (sym (ap (λ o. bytes_eq x.name y.name && layers_clash o y.layer) whole ∙ and_true (bytes_eq x.name y.name))) (named_clash x ys whole)

is_whole : (layer : Option ℕ) → is_some layer ≡ false → layer ≡ None
is_whole None e = refl
is_whole (Some l) e = absurd cc

repeats_clash : (spots : List Spot) (i : ℕ) (xs : List Spot) → list_any (λ s. is_some s.layer) xs ≡ false → first_in (repeats_at (map (λ s. s.name) spots)) i (map (λ s. s.name) xs) ≡ first_in (clashes_at spots) i xs
repeats_clash spots i [] whole = refl
repeats_clash spots i (x ∷ xs) whole =
    let resolved = or_parts (is_some x.layer) (list_any (λ s. is_some s.layer) xs) whole in
    let here : list_any (bytes_eq x.name) (take i (map (λ s. s.name) spots)) ≡ list_any (clash x) (take i spots) = ap (list_any (bytes_eq x.name)) (take-map (λ s. s.name) i spots) ∙ named_clash x (take i spots) (is_whole x.layer resolved.0) in
    ap₂ (λ a b. option_or a b) (ap (λ b. if b then Some i else None) here) (repeats_clash spots (suc i) xs resolved.1)

-- entries without layers clash where their names repeat
pub whole_clash : (spots : List Spot) (names : List (List ℕ)) (r : Option ℕ) → list_any (λ s. is_some s.layer) spots ≡ false → names ≡ map (λ s. s.name) spots → r ≡ first_repeat names → r ≡ first_clash spots
whole_clash spots names r whole same is = is ∙ ap first_repeat same ∙ repeats_clash spots 0 spots whole
