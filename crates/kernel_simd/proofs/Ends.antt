-- A list of which a part was written anew.
use Rattle.std.proofs.Common.{◌≡◌, ℕ, ◌-◌, List, [], ◌++◌, length, take, drop, ap, ◌∙◌, arith}
use Rattle.std.proofs.lemmas.Grind.{common_steps}
use borrow.Rule.Slice.PartMut.{post_of}

-- what was put behind a list, read as its rest
pub end_long : (start : ℕ) (old new all : List ℕ) → all ≡ old ++ new → start ≡ length old → length (take (length all - start) (drop start all)) ≡ length new
end_long start old new all is starts = rw (is, starts) (grind (arith, common_steps))

first_part : (old new : List ℕ) → take (length old) (old ++ new) ≡ old
first_part old new = grind (arith, common_steps)

behind_all : (old new : List ℕ) → post_of (length old) (length (old ++ new) - length old) (old ++ new) ≡ []
behind_all old new = grind (arith, common_steps)

both_parts : (old new painted behind : List ℕ) → length painted ≡ length new → take (length (old ++ new)) (old ++ (painted ++ []) ++ behind) ≡ old ++ painted
both_parts old new painted behind long = grind (arith, common_steps)

-- and painted over: the first bytes stay
pub new_end : (start n : ℕ) (old new all painted behind : List ℕ) → all ≡ old ++ new → start ≡ length old → n ≡ length all → length painted ≡ length all - start
    → take n (take start all ++ (painted ++ post_of start (length all - start) all) ++ behind) ≡ old ++ painted
new_end start n old new all painted behind is starts long size =
    let same : length painted ≡ length new = size ∙ rw (is, starts) (grind (arith, common_steps)) in
    rw (long, is, starts) (
    ap (λ (l : List ℕ). take (length (old ++ new)) (l ++ (painted ++ post_of (length old) (length (old ++ new) - length old) (old ++ new)) ++ behind)) (first_part old new)
    ∙ ap (λ (l : List ℕ). take (length (old ++ new)) (old ++ (painted ++ l) ++ behind)) (behind_all old new)
    ∙ both_parts old new painted behind same)

-- all of it
pub new_all : (n : ℕ) (all painted : List ℕ) → length painted ≡ length all → n ≡ length all → take n (painted ++ drop (length painted) all) ≡ painted
new_all n all painted size long = grind (arith, common_steps)
