-- What each kind of pass does.
use Rattle.std.proofs.Common.{◌≡◌, ◌≢◌, ℕ, zero, suc, ◌<◌, ◌≤◌, ◌%◌, ◌==◌, Bool, true, false, [], ◌∷◌, if◌then◌else◌, refl, arith}
use Rattle.std.specs.List.{All, AllPairs}
use Rattle.std.proofs.lemmas.Bool.{eqb-false}
use Rattle.std.proofs.lemmas.List.Elements.{All-cons, All-nil}
use Rattle.std.proofs.lemmas.List.Kept.{AllPairs-cons}
use Rattle.std.proofs.Math.Nat.{mod-lt}
use Rattle.base.proofs.Lists.{one}
use Rattle.base.specs.Operands.{operands_of, mapped, rect_count}
use Rattle.frame_gen.specs.Operations.{kind_of, earlier, op_by, reads_by}

-- five kinds
pub by_kind : (P : ℕ → Type 0) → P 0 → P 1 → P 2 → P 3 → P 4 → (kind : ℕ) → kind < 5 → P kind
by_kind P p0 p1 p2 p3 p4 zero lt = p0
by_kind P p0 p1 p2 p3 p4 (suc zero) lt = p1
by_kind P p0 p1 p2 p3 p4 (suc (suc zero)) lt = p2
by_kind P p0 p1 p2 p3 p4 (suc (suc (suc zero))) lt = p3
by_kind P p0 p1 p2 p3 p4 (suc (suc (suc (suc zero)))) lt = p4
by_kind P p0 p1 p2 p3 p4 (suc (suc (suc (suc (suc n))))) lt = absurd (omega (arith, lt))

pub few_kinds : (w i : ℕ) → kind_of w i < 5
few_kinds w i = by_first (i == 0)
  where
    by_first : (t : Bool) → (if t then 0 else w % 5) < 5
    by_first true = omega arith
    by_first false = omega arith

-- a pass that reads is not the first
pub reads_later : (w i : ℕ) → kind_of w i ≢ 0 → 0 < i
reads_later w zero reads = absurd (reads refl)
reads_later w (suc i) reads = omega arith

pub is_earlier : (n i : ℕ) → 0 < i → earlier n i < i
is_earlier n zero some = absurd (omega (arith, some))
is_earlier n (suc i) some = by_test (suc i == 0) refl
  where
    by_test : (t : Bool) → (suc i == 0) ≡ t → (if t then 0 else n % suc i) < suc i
    by_test true e = omega arith
    by_test false e = mod-lt n some

pub never_later : (n i : ℕ) → earlier n i ≤ i
never_later n zero = omega arith
never_later n (suc i) = let lt = is_earlier n (suc i) (omega arith) in omega (arith, lt)

pub op_mapped : {R S : Type 0} (f : R → S) (kind w : ℕ) (a b dst : R) → mapped f (op_by kind w a b dst) ≡ op_by kind w (f a) (f b) (f dst)
op_mapped f kind w a b dst = by_tests (kind == 0) (kind == 1) (kind == 2) (kind == 3)
  where
    by_tests : (t0 t1 t2 t3 : Bool) → mapped f (if t0 then op_by 0 w a b dst else (if t1 then op_by 1 w a b dst else (if t2 then op_by 2 w a b dst else (if t3 then op_by 3 w a b dst else op_by 4 w a b dst)))) ≡ (if t0 then op_by 0 w (f a) (f b) (f dst) else (if t1 then op_by 1 w (f a) (f b) (f dst) else (if t2 then op_by 2 w (f a) (f b) (f dst) else (if t3 then op_by 3 w (f a) (f b) (f dst) else op_by 4 w (f a) (f b) (f dst)))))
    by_tests true t1 t2 t3 = refl
    by_tests false true t2 t3 = refl
    by_tests false false true t3 = refl
    by_tests false false false true = refl
    by_tests false false false false = refl

pub no_rects : {R : Type 0} (kind : ℕ) → kind < 5 → (w : ℕ) (a b dst : R) → rect_count (op_by kind w a b dst) ≡ 0
no_rects {R = R} kind lt = by_kind (λ k. (w : ℕ) (a b dst : R) → rect_count (op_by k w a b dst) ≡ 0) (λ w a b dst. refl) (λ w a b dst. refl) (λ w a b dst. refl) (λ w a b dst. refl) (λ w a b dst. refl) kind lt

-- what holds of a, b and the destination holds of the operands
pub operands_all : {R : Type 0} (P : R → Type 0) (kind : ℕ) → kind < 5 → (w : ℕ) (a b dst : R) → P a → P b → P dst → All P (operands_of (op_by kind w a b dst))
operands_all {R = R} P kind lt = by_kind (λ k. (w : ℕ) (a b dst : R) → P a → P b → P dst → All P (operands_of (op_by k w a b dst)))
    (λ w a b dst p q r. one P dst r)
    (λ w a b dst p q r. All-cons P a (dst ∷ []) p (one P dst r))
    (λ w a b dst p q r. All-cons P a (b ∷ dst ∷ []) p (All-cons P b (dst ∷ []) q (one P dst r)))
    (λ w a b dst p q r. All-cons P a (dst ∷ []) p (one P dst r))
    (λ w a b dst p q r. All-cons P a (dst ∷ []) p (one P dst r))
    kind lt

-- what is read is a or b
pub reads_all : (P : ℕ → Type 0) (kind : ℕ) → kind < 5 → (a b : ℕ) → (kind ≢ 0 → P a) → (kind ≢ 0 → P b) → All P (reads_by kind a b)
reads_all P kind lt = by_kind (λ k. (a b : ℕ) → (k ≢ 0 → P a) → (k ≢ 0 → P b) → All P (reads_by k a b))
    (λ a b p q. All-nil P)
    (λ a b p q. one P a (p (λ e. omega (arith, e))))
    (λ a b p q. by_test a b (a == b) (p (λ e. omega (arith, e))) (q (λ e. omega (arith, e))))
    (λ a b p q. one P a (p (λ e. omega (arith, e))))
    (λ a b p q. one P a (p (λ e. omega (arith, e))))
    kind lt
  where
    by_test : (a b : ℕ) (t : Bool) → P a → P b → All P (if t then a ∷ [] else a ∷ b ∷ [])
    by_test a b true p q = one P a p
    by_test a b false p q = All-cons P a (b ∷ []) p (one P b q)

-- and nothing twice
pub reads_differ : (kind : ℕ) → kind < 5 → (a b : ℕ) → AllPairs (λ x y. x ≢ y) (reads_by kind a b)
reads_differ kind lt = by_kind (λ k. (a b : ℕ) → AllPairs (λ x y. x ≢ y) (reads_by k a b))
    (λ a b. none)
    (λ a b. alone a)
    (λ a b. by_test a b (a == b) refl)
    (λ a b. alone a)
    (λ a b. alone a)
    kind lt
  where
    none : AllPairs {X = ℕ} (λ x y. x ≢ y) []
    none i j d less lt = absurd (omega (arith, lt))

    alone : (a : ℕ) → AllPairs (λ x y. x ≢ y) (a ∷ [])
    alone a i j d less lt = absurd (omega (arith, less, lt))

    by_test : (a b : ℕ) (t : Bool) → (a == b) ≡ t → AllPairs (λ x y. x ≢ y) (if t then a ∷ [] else a ∷ b ∷ [])
    by_test a b true e = alone a
    by_test a b false e = AllPairs-cons (λ x y. x ≢ y) a (b ∷ []) (one (λ y. a ≢ y) b (eqb-false a b e)) (alone b)
