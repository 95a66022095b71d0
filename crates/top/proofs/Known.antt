-- Bytes that are known, taken and appended piece by piece.
use Rattle.std.proofs.Common.{◌≡◌, ℕ, ◌+◌, ◌<◌, ◌≤◌, ◌-◌, List, ◌++◌, length, take, drop, Some, None, refl, ap, ◌∙◌, append_assoc, append-nil, length-append, arith, inl}
use Rattle.std.proofs.KnownBytes.{Consumes-kept, Consumes-trans}
use Rattle.std.proofs.lemmas.List.{take_rest, take-append-drop}
use Rattle.std.specs.declared.option.Option.{Option}
use Rattle.std.specs.Io.KnownBytes.{Consumes, IsAtEnd, Keeps}
use Rattle.top.specs.Outcomes.{TakesAtMost, TakesWhole, Tells}

-- n bytes of the rest move to the front
pub whole-more : (n : ℕ) (front rest text : List ℕ) → front ++ rest ≡ text → (front ++ take n rest) ++ take (length rest - n) (drop n rest) ≡ text
whole-more n front rest text e = rw (take_rest, append_assoc, take-append-drop) e

-- what was taken up to the end is what was left
pub Tells-whole : (left rest : Option (List ℕ)) (bytes : List ℕ) → Consumes left rest bytes → IsAtEnd rest → Tells left bytes
Tells-whole None rest bytes h end = tt
Tells-whole (Some all) None bytes h end = absurd h
Tells-whole (Some all) (Some more) bytes h end = h ∙ (ap (λ t. bytes ++ t) end ∙ append-nil bytes)

pub TakesWhole-end : (left rest end : Option (List ℕ)) (bytes : List ℕ) (limit : ℕ) → Consumes left rest bytes → IsAtEnd rest → Keeps rest end → TakesWhole limit left end
TakesWhole-end left rest end bytes limit h at_end kept = (bytes, Consumes-kept left rest end bytes h kept, inl (Tells-whole left rest bytes h at_end))

-- some bytes, and then some more
pub TakesAtMost-more : (left rest end : Option (List ℕ)) (bytes : List ℕ) (more most : ℕ) → Consumes left rest bytes → TakesAtMost more rest end → length bytes + more ≤ most → TakesAtMost most left end
TakesAtMost-more left rest end bytes more most h next within =
    (bytes ++ next.0, Consumes-trans left rest end bytes next.0 h next.1, omega (arith, length-append bytes next.0, next.2, within))

-- more than the limit was left where more than the limit was taken
pub over_limit : (left rest : Option (List ℕ)) (bytes : List ℕ) (limit : ℕ) → Consumes left rest bytes → limit < length bytes → (all : List ℕ) × Tells left all × (limit < length all)
over_limit None rest bytes limit h over = (bytes, tt, over)
over_limit (Some all) None bytes limit h over = absurd h
over_limit (Some all) (Some more) bytes limit h over = (all, refl, omega (arith, ap length h, length-append bytes more))
