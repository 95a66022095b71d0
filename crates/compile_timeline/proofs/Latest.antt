-- What queues need, and which item waits for it.
use Rattle.std.proofs.Common.{◌≡◌, ◌⊎◌, inl, inr, ℕ, zero, suc, ◌<◌, ◌≤◌, ◌==◌, ◌&&◌, max, if◌then◌else◌, true, false, List, length, Option, Some, None, refl, sym, ap, ◌∙◌, subst, eq-eqb, eqb-true, arith}
use Rattle.std.specs.Option.{option_map_or}
use Rattle.std.specs.Prelude.{slice_get}
use Rattle.std.proofs.Math.Nat.{le-max_left, le-max_right, max-eq_left, max-eq_right}
use Rattle.std.proofs.lemmas.Bool.{cases_Bool, cases_eq, and_from, and_parts, false≢true, lt-ltb}
use Rattle.std.proofs.lemmas.Option.{slice_get_within}
use Rattle.program.specs.declared.program.Item as programs
use Rattle.compile_timeline.specs.Steps.{queue_of, queue_at, is_item, has_item, IsScript}
use Rattle.compile_timeline.specs.Waits.{wanted, latest, last_item, waits}
use Rattle.compile_timeline.specs.declared.step.Step.{Step}
use Rattle.compile_timeline.specs.declared.step.Step.TheVariants.{Item, Need}
use Rattle.compile_timeline.proofs.Below.{side}

-- STEPS

pub item_there : (script : List Step) (q i : ℕ) → has_item script q i ≡ true → (item : programs.Item) × (slice_get script i ≡ Some (Item q item))
item_there script q i h = go (slice_get script i) refl h
  where
    go : (o : Option Step) → slice_get script i ≡ o → option_map_or (is_item q) o false ≡ true → (item : programs.Item) × (slice_get script i ≡ Some (Item q item))
    go None e t = absurd (false≢true t)
    go (Some (Item r item)) e t = (item, e ∙ ap (λ z. Some (Item z item)) (eqb-true r q t))
    go (Some (Need r j)) e t = absurd (false≢true t)

pub has_there : (script : List Step) (q i : ℕ) (item : programs.Item) → slice_get script i ≡ Some (Item q item) → has_item script q i ≡ true
has_there script q i item e = ap (λ o. option_map_or (is_item q) o false) e ∙ eq-eqb q q refl

pub item_within : (script : List Step) (q i : ℕ) → has_item script q i ≡ true → i < length script
item_within script q i h = let t = item_there script q i h in slice_get_within script i (Item q t.0) t.1

pub item_queue : (script : List Step) (q i : ℕ) → has_item script q i ≡ true → queue_at script i ≡ q
item_queue script q i h = let t = item_there script q i h in ap (λ o. option_map_or queue_of o 0) t.1

-- LATEST NEEDS

latest_more : (script : List Step) (q p i : ℕ) → latest script q p i ≤ latest script q p (suc i)
latest_more script q p i = le-max_right (option_map_or (wanted script q p) (slice_get script i) 0) (latest script q p i)

pub latest_up : (script : List Step) (q p a b : ℕ) → a ≤ b → latest script q p a ≤ latest script q p b
latest_up script q p a zero le = let none : a ≡ 0 = omega arith in let z : latest script q p a ≡ 0 = ap (latest script q p) none in omega (arith, z)
latest_up script q p a (suc b) le = go (side a (suc b)) (λ l. latest_up script q p a b l)
  where
    go : (a < suc b) ⊎ (suc b ≤ a) → (a ≤ b → latest script q p a ≤ latest script q p b) → latest script q p a ≤ latest script q p (suc b)
    go (inl lt) ih = let r = ih (omega (arith, lt)) in let m = latest_more script q p b in omega (arith, r, m)
    go (inr ge) ih = let same : a ≡ suc b = omega (arith, le, ge) in let e : latest script q p a ≡ latest script q p (suc b) = ap (latest script q p) same in omega (arith, e)

pub latest_need : (script : List Step) (q p j w k : ℕ) → slice_get script w ≡ Some (Need q j) → queue_at script j ≡ p → w < k → suc j ≤ latest script q p k
latest_need script q p j w k e f lt =
    let here : option_map_or (wanted script q p) (slice_get script w) 0 ≡ suc j = ap (λ o. option_map_or (wanted script q p) o 0) e ∙ ap (λ z. if z then suc j else 0) (and_from (q == q) (queue_at script j == p) (eq-eqb q q refl) (eq-eqb (queue_at script j) p f)) in
    let one = le-max_left (option_map_or (wanted script q p) (slice_get script w) 0) (latest script q p w) in
    let up = latest_up script q p (suc w) k (omega (arith, lt)) in
    omega (arith, here, one, up)

pub latest_same : (script : List Step) (q p i : ℕ) → option_map_or (wanted script q p) (slice_get script i) 0 ≡ 0 → latest script q p (suc i) ≡ latest script q p i
latest_same script q p i e = ap (λ z. max z (latest script q p i)) e ∙ max-eq_right (omega arith)

latest_item : (script : List Step) (q p i : ℕ) → has_item script q i ≡ true → latest script q p (suc i) ≡ latest script q p i
latest_item script q p i h = let t = item_there script q i h in latest_same script q p i (ap (λ o. option_map_or (wanted script q p) o 0) t.1)

pub record NeedAt (script : List Step) (q p s k : ℕ) : Type 0 where
  pub place : ℕ
  pub below : place < k
  pub need : slice_get script place ≡ Some (Need q s)
  pub queue : queue_at script s ≡ p

-- a need stands for it
pub latest_from : (script : List Step) (q p s k : ℕ) → latest script q p k ≡ suc s → NeedAt script q p s k
latest_from script q p s zero e = absurd (no e)
  where
    no : 0 ≡ suc s → ⊥
    no h = omega arith
latest_from script q p s (suc k) e = go (slice_get script k) refl (λ h. latest_from script q p s k h)
  where
    later : NeedAt script q p s k → NeedAt script q p s (suc k)
    later A = record { place = A.place; below = let b = A.below in omega (arith, b); need = A.need; queue = A.queue }

    at : (o : Option Step) → slice_get script k ≡ o → max (option_map_or (wanted script q p) o 0) (latest script q p k) ≡ suc s
    at o h = ap (λ z. max (option_map_or (wanted script q p) z 0) (latest script q p k)) (sym h) ∙ e

    by_need : (r j : ℕ) → slice_get script k ≡ Some (Need r j) → (latest script q p k ≡ suc s → NeedAt script q p s k) → (((r == q) && (queue_at script j == p)) ≡ true) ⊎ (((r == q) && (queue_at script j == p)) ≡ false) → NeedAt script q p s (suc k)
    by_need r j h ih (inr f) = later (ih (let m : max (if (r == q) && (queue_at script j == p) then suc j else 0) (latest script q p k) ≡ suc s = at (Some (Need r j)) h in sym (ap (λ z. max (if z then suc j else 0) (latest script q p k)) f ∙ max-eq_right (omega arith)) ∙ m))
    by_need r j h ih (inl t) = pick (side (suc j) (latest script q p k))
      where
        parts : ((r == q) ≡ true) × ((queue_at script j == p) ≡ true)
        parts = and_parts (r == q) (queue_at script j == p) t

        m : max (suc j) (latest script q p k) ≡ suc s
        m = sym (ap (λ z. max (if z then suc j else 0) (latest script q p k)) t) ∙ at (Some (Need r j)) h

        pick : (suc j < latest script q p k) ⊎ (latest script q p k ≤ suc j) → NeedAt script q p s (suc k)
        pick (inl lt) = later (ih (sym (max-eq_right (omega (arith, lt))) ∙ m))
        pick (inr le) =
            let same : j ≡ s = let z : suc j ≡ suc s = sym (max-eq_left le) ∙ m in omega (arith, z) in
            record {
              place = k;
              below = omega arith;
              need = h ∙ ap (λ z. Some (Need z j)) (eqb-true r q parts.0) ∙ ap (λ z. Some (Need q z)) same;
              queue = ap (queue_at script) (sym same) ∙ eqb-true (queue_at script j) p parts.1;
            }

    none : (o : Option Step) → slice_get script k ≡ o → option_map_or (wanted script q p) o 0 ≡ 0 → latest script q p k ≡ suc s
    none o h z = sym (ap (λ n. max n (latest script q p k)) z ∙ max-eq_right (omega arith)) ∙ at o h

    go : (o : Option Step) → slice_get script k ≡ o → (latest script q p k ≡ suc s → NeedAt script q p s k) → NeedAt script q p s (suc k)
    go None h ih = later (ih (none None h refl))
    go (Some (Item r item)) h ih = later (ih (none (Some (Item r item)) h refl))
    go (Some (Need r j)) h ih = by_need r j h ih (cases_Bool ((r == q) && (queue_at script j == p)))

-- what is needed stands before
pub latest_low : (script : List Step) (count q p i : ℕ) → IsScript script count → latest script q p i ≤ i
latest_low script count q p i K = go (latest script q p i) refl
  where
    go : (n : ℕ) → latest script q p i ≡ n → latest script q p i ≤ i
    go zero e = omega (arith, e)
    go (suc s) e = let A = latest_from script q p s i e in let b = A.below in let c = K.earlier A.place q s A.need in omega (arith, e, b, c)

-- WHERE A NEED IS NEW

pub record LastAt (script : List Step) (q k : ℕ) : Type 0 where
  pub item : ℕ
  pub below : item < k
  pub has : has_item script q item ≡ true
  pub is : last_item script q k ≡ suc item

pub last_cases : (script : List Step) (q k : ℕ) → (last_item script q k ≡ 0) ⊎ LastAt script q k
last_cases script q zero = inl refl
last_cases script q (suc k) = go (cases_Bool (has_item script q k)) (last_cases script q k)
  where
    go : (has_item script q k ≡ true) ⊎ (has_item script q k ≡ false) → (last_item script q k ≡ 0) ⊎ LastAt script q k → (last_item script q (suc k) ≡ 0) ⊎ LastAt script q (suc k)
    go (inl t) r = inr (record { item = k; below = omega arith; has = t; is = ap (λ z. if z then suc k else last_item script q k) t })
    go (inr f) (inl z) = inl (ap (λ z. if z then suc k else last_item script q k) f ∙ z)
    go (inr f) (inr A) = inr (record { item = A.item; below = let b = A.below in omega (arith, b); has = A.has; is = ap (λ z. if z then suc k else last_item script q k) f ∙ A.is })

-- no later item of the queue stands between
pub last_after : (script : List Step) (q i k : ℕ) → i < k → has_item script q i ≡ true → suc i ≤ last_item script q k
last_after script q i zero lt h = absurd (no lt)
  where
    no : i < 0 → ⊥
    no z = omega arith
last_after script q i (suc k) lt h = go (cases_Bool (has_item script q k)) (cases_eq i k) (λ l. last_after script q i k l h)
  where
    go : (has_item script q k ≡ true) ⊎ (has_item script q k ≡ false) → (i ≡ k) ⊎ (i ≡ k → ⊥) → (i < k → suc i ≤ last_item script q k) → suc i ≤ last_item script q (suc k)
    go (inl t) c ih = let e : last_item script q (suc k) ≡ suc k = ap (λ z. if z then suc k else last_item script q k) t in omega (arith, e, lt)
    go (inr f) (inl e) ih = absurd (false≢true (sym f ∙ subst (λ z. has_item script q z ≡ true) e h))
    go (inr f) (inr ne) ih = let e : last_item script q (suc k) ≡ last_item script q k = ap (λ z. if z then suc k else last_item script q k) f in let r = ih (omega (arith, lt, ne)) in omega (arith, e, r)

pub record NewAt (script : List Step) (q p j k : ℕ) : Type 0 where
  pub item : ℕ
  pub low : item ≤ k
  pub has : has_item script q item ≡ true
  pub new : waits script q item p ≡ true
  pub reaches : suc j ≤ latest script q p item

-- what is needed before an item is waited for there, or at an item before it
pub risen : (script : List Step) (q p j bound k : ℕ) → k < bound → has_item script q k ≡ true → suc j ≤ latest script q p k → NewAt script q p j k
risen script q p j zero k lt h r = absurd (no lt)
  where
    no : k < 0 → ⊥
    no z = omega arith
risen script q p j (suc bound) k lt h r = go (side (latest script q p (last_item script q k)) (suc j)) (last_cases script q k) (λ i l s t. risen script q p j bound i l s t)
  where
    here : latest script q p (last_item script q k) < suc j → NewAt script q p j k
    here l = record { item = k; low = omega arith; has = h; new = lt-ltb (latest script q p (last_item script q k)) (latest script q p k) (omega (arith, l, r)); reaches = r }

    go : (latest script q p (last_item script q k) < suc j) ⊎ (suc j ≤ latest script q p (last_item script q k)) → (last_item script q k ≡ 0) ⊎ LastAt script q k → ((i : ℕ) → i < bound → has_item script q i ≡ true → suc j ≤ latest script q p i → NewAt script q p j i) → NewAt script q p j k
    go (inl l) c ih = here l
    go (inr le) (inl z) ih = absurd (no (ap (latest script q p) z))
      where
        no : latest script q p (last_item script q k) ≡ 0 → ⊥
        no e = omega (arith, e, le)
    go (inr le) (inr A) ih =
        let b = A.below in
        let e : latest script q p (last_item script q k) ≡ latest script q p A.item = ap (latest script q p) A.is ∙ latest_item script q p A.item A.has in
        let B = ih A.item (omega (arith, b, lt)) A.has (omega (arith, e, le)) in
        let l = B.low in
        record { item = B.item; low = omega (arith, l, b); has = B.has; new = B.new; reaches = B.reaches }
