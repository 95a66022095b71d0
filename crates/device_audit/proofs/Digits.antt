-- Digits, one further.
use Rattle.std.proofs.Common.{◌≡◌, ℕ, suc, ◌+◌, ◌<◌, ◌&&◌, List, ◌∷◌, length, drop, drop-cons, get_or, nat_le, Bool, true, false, Option, Some, None, if◌then◌else◌, sym, ap, ◌∙◌, arith}
use Rattle.device_audit.specs.TraceLines.{digits_after, is_digit, longer}

at_entry : (xs : List ℕ) (i : ℕ) → i < length xs → drop i xs ≡ get_or xs i 0 ∷ drop (i + 1) xs
at_entry xs i lt = drop-cons xs i 0 lt ∙ ap (λ j. get_or xs i 0 ∷ drop j xs) (let e : suc i ≡ i + 1 = omega arith in e)

by_test : (b : Bool) (n more : ℕ) (rest total : Option ℕ) → Some more ≡ (if b then Some n else None) → (if b then rest else None) ≡ total → rest ≡ total
by_test true n more rest total e f = f
by_test false n more rest total e f = absurd cc

same_number : (b : Bool) (n more : ℕ) → Some more ≡ (if b then Some n else None) → more ≡ n
same_number true n more e = cc
same_number false n more e = absurd cc

stops : (b : Bool) (n : ℕ) (rest total : Option ℕ) → None ≡ (if b then Some n else None) → (if b then rest else None) ≡ total → None ≡ total
stops true n rest total e f = absurd cc
stops false n rest total e f = f

module _ (text : List ℕ) (i number : ℕ) where
  abbrev c : ℕ
  c = get_or text i 0

  abbrev fits : Bool
  fits = is_digit c && nat_le (longer number c) 4294967295

  pub digit_on : (more : ℕ) (total : Option ℕ) → i < length text → Some more ≡ (if fits then Some (longer number c) else None) → digits_after number (drop i text) ≡ total → digits_after more (drop (i + 1) text) ≡ total
  digit_on more total lt e so_far = ap (λ n. digits_after n (drop (i + 1) text)) (same_number fits (longer number c) more e) ∙ by_test fits (longer number c) more (digits_after (longer number c) (drop (i + 1) text)) total e (sym (ap (digits_after number) (at_entry text i lt)) ∙ so_far)

  pub digit_ends : (total : Option ℕ) → i < length text → None ≡ (if fits then Some (longer number c) else None) → digits_after number (drop i text) ≡ total → None ≡ total
  digit_ends total lt e so_far = stops fits (longer number c) (digits_after (longer number c) (drop (i + 1) text)) total e (sym (ap (digits_after number) (at_entry text i lt)) ∙ so_far)
