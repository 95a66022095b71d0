-- Pairs are added one after another.
use Rattle.std.proofs.Common.{◌≡◌, ℕ, ◌+◌, ◌<◌, ◌≤◌, ◌==◌, ◌&&◌, ◌||◌, nat_lt, Bool, true, false, List, [], ◌∷◌, length, get_or, take, refl, sym, ap, ◌∙◌, ⊎_elim, eq-eqb, ne_eqb, add-one, zero-add, arith}
use Rattle.std.specs.List.{list_any, range_with_len}
use Rattle.std.proofs.lemmas.Bool.{cases_eq, cases_lt, lt-ltb, le-ltb}
use Rattle.std.proofs.lemmas.List.Folds.{list_any-append, list_any_more}
use Rattle.std.proofs.Math.Bool.{and-false}
use Rattle.base.proofs.Booleans.{or_false}
use Rattle.base.proofs.Lists.{range_more}
use Rattle.compile_groups.specs.Needs.{has_command}
use Rattle.compile_groups.specs.declared.command.Command.{Command}
use Rattle.compile_groups.specs.declared.unit_use.Use.{Use}
use Rattle.compile_heap.proofs.Sorted.{flip}
use Rattle.compile_lifetimes.specs.Internal.Leading.{queue_in, comes_later}

-- NUMBER AFTER NUMBER

-- no number yet
pub none_yet : (f : ℕ → Bool) (x : ℕ) (o : Bool) → o ≡ ((nat_lt x 0 && f x) || o)
none_yet f x o = sym (ap (λ b. (b && f x) || o) (le-ltb x 0 (omega arith)))

-- all numbers
pub all_now : (f : ℕ → Bool) (x n : ℕ) (o : Bool) → x < n → ((nat_lt x n && f x) || o) ≡ (f x || o)
all_now f x n o lt = ap (λ b. (b && f x) || o) (lt-ltb x n lt)

-- one number more
pub one_more : (f : ℕ → Bool) (x k : ℕ) (o m n : Bool) → m ≡ ((nat_lt x k && f x) || o) → n ≡ ((x == k && f k) || m) → n ≡ ((nat_lt x (k + 1) && f x) || o)
one_more f x k o m n before now = ⊎_elim same other (cases_eq x k)
  where
    same : x ≡ k → n ≡ ((nat_lt x (k + 1) && f x) || o)
    same e =
        let none : m ≡ o = before ∙ ap (λ b. (b && f x) || o) (le-ltb x k (omega (arith, e))) in
        let all : ((nat_lt x (k + 1) && f x) || o) ≡ (f x || o) = ap (λ b. (b && f x) || o) (lt-ltb x (k + 1) (omega (arith, e))) in
        now ∙ ap (λ b. (b && f k) || m) (eq-eqb x k e) ∙ ap (λ b. f k || b) none ∙ ap (λ z. f z || o) (sym e) ∙ sym all

    as_before : (x ≡ k → ⊥) → nat_lt x (k + 1) ≡ nat_lt x k
    as_before ne = ⊎_elim
        (λ lt. lt-ltb x (k + 1) (omega (arith, lt)) ∙ sym (lt-ltb x k lt))
        (λ ge. le-ltb x (k + 1) (omega (arith, ge, ne)) ∙ sym (le-ltb x k ge))
        (cases_lt x k)

    other : (x ≡ k → ⊥) → n ≡ ((nat_lt x (k + 1) && f x) || o)
    other ne = now ∙ ap (λ b. (b && f k) || m) (ne_eqb x k ne) ∙ before ∙ ap (λ b. (b && f x) || o) (sym (as_before ne))

-- ALONG QUEUES

-- the pairs that end at one command, in the form that all are told in
pub ends_at : (a b c t : Bool) → t ≡ true → (a && (b && c)) ≡ (b && (a && (t && c)))
ends_at true true c t e = sym (ap (λ z. z && c) e)
ends_at true false c t e = refl
ends_at false true c t e = refl
ends_at false false c t e = refl

-- those that end at one of all commands are all
pub all_told : (commands : List Command) (x y end : ℕ) (o n : Bool) → length commands ≤ end → n ≡ ((nat_lt y end && comes_later commands x y) || o) → n ≡ (comes_later commands x y || o)
all_told commands x y end o n over now = ⊎_elim
    (λ lt. now ∙ ap (λ b. (b && comes_later commands x y) || o) (lt-ltb y end (omega (arith, lt, over))))
    (λ ge. now ∙ none ge)
    (cases_lt y (length commands))
  where
    none : length commands ≤ y → ((nat_lt y end && comes_later commands x y) || o) ≡ (comes_later commands x y || o)
    none ge =
        let never : comes_later commands x y ≡ false = ap (λ b. nat_lt x y && (b && queue_in commands x == queue_in commands y)) (le-ltb y (length commands) ge) ∙ and-false (nat_lt x y) in
        ap (λ l. (nat_lt y end && l) || o) never ∙ ap (λ b. b || o) (and-false (nat_lt y end)) ∙ sym (ap (λ l. l || o) never)

-- FROM GROUP TO GROUP

pub from_more : (p q a o : Bool) → ((p && q) || ((p && a) || o)) ≡ ((p && (a || q)) || o)
from_more true true true o = refl
from_more true true false o = refl
from_more true false true o = refl
from_more true false false o = refl
from_more false q a o = refl

pub between_more : (q b a o : Bool) → ((q && b) || ((a && b) || o)) ≡ (((a || q) && b) || o)
between_more true true true o = refl
between_more true true false o = refl
between_more true false true o = refl
between_more true false false o = refl
between_more false b true o = refl
between_more false b false o = refl

pub needs_more : (q l o : Bool) → (q || (l || o)) ≡ ((l || q) || o)
needs_more true true o = refl
needs_more true false o = refl
needs_more false true o = refl
needs_more false false o = refl

pub any_range : (p : ℕ → Bool) (n : ℕ) → list_any p (range_with_len 0 (n + 1)) ≡ (list_any p (range_with_len 0 n) || p n)
any_range p n =
    ap (λ m. list_any p (range_with_len 0 m)) (add-one n)
    ∙ ap (list_any p) (range_more 0 n n (zero-add n))
    ∙ list_any-append p (range_with_len 0 n) (n ∷ [])
    ∙ ap (λ b. list_any p (range_with_len 0 n) || b) (or_false (p n))

pub both_kinds : (needs later : Bool) → (needs || (later || false)) ≡ (later || needs)
both_kinds true true = refl
both_kinds true false = refl
both_kinds false true = refl
both_kinds false false = refl

pub from_step : (next : List Use) (k : ℕ) (d : Use) (from x y : ℕ) (o m n : Bool) → k < length next → m ≡ ((from == x && has_command y (take k next)) || o) → n ≡ ((x == from && y == (get_or next k d).command) || m) → n ≡ ((from == x && has_command y (take (k + 1) next)) || o)
from_step next k d from x y o m n lt before now =
    now
    ∙ ap (λ b. (b && y == (get_or next k d).command) || m) (flip x from)
    ∙ ap (λ b. (from == x && b) || m) (flip y (get_or next k d).command)
    ∙ ap (λ b. (from == x && (get_or next k d).command == y) || b) before
    ∙ from_more (from == x) ((get_or next k d).command == y) (has_command y (take k next)) o
    ∙ sym (ap (λ b. (from == x && b) || o) (list_any_more (λ (u : Use). u.command == y) next k d lt))

pub between_step : (uses : List Use) (k : ℕ) (d : Use) (x : ℕ) (b o m n : Bool) → k < length uses → m ≡ ((has_command x (take k uses) && b) || o) → n ≡ (((get_or uses k d).command == x && b) || m) → n ≡ ((has_command x (take (k + 1) uses) && b) || o)
between_step uses k d x b o m n lt before now =
    now
    ∙ ap (λ z. ((get_or uses k d).command == x && b) || z) before
    ∙ between_more ((get_or uses k d).command == x) b (has_command x (take k uses)) o
    ∙ sym (ap (λ z. (z && b) || o) (list_any_more (λ (u : Use). u.command == x) uses k d lt))
