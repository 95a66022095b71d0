-- Lists of edges, and paths over equal relations.
use Rattle.std.proofs.Common.{◌≡◌, ◌↔◌, ℕ, zero, suc, ◌+◌, ◌<◌, Bool, true, false, ◌||◌, ◌&&◌, ◌==◌, List, [], ◌∷◌, length, get_or, take, refl, sym, ap, ◌∙◌, add-one, arith}
use Rattle.base_reach.specs.Pairs.{links}
use Rattle.base_reach.specs.Paths.{Path, one, then_on}

second_first : (p q r : Bool) → (p || (q || r)) ≡ (q || (p || r))
second_first true true r = refl
second_first true false r = refl
second_first false true r = refl
second_first false false r = refl

-- one edge more
pub links-more : (es : List (ℕ × ℕ)) (i a b : ℕ) (d : ℕ × ℕ) → i < length es → links (take (i + 1) es) a b ≡ (((a == (get_or es i d).0) && (b == (get_or es i d).1)) || links (take i es) a b)
links-more [] i a b d lt = absurd (omega arith)
links-more (x ∷ es) zero a b d lt = refl
links-more (x ∷ es) (suc i) a b d lt =
    let e = get_or es i d in
    let more = links-more es i a b d (omega arith) in
    rw add-one (ap (λ t. ((a == x.0) && (b == x.1)) || t) (rw add-one at more) ∙ second_first ((a == x.0) && (b == x.1)) ((a == e.0) && (b == e.1)) (links (take i es) a b))

pub path_over : (some all : ℕ → ℕ → Bool) → ((a b : ℕ) → some a b ≡ all a b) → (a b : ℕ) → Path some a b → Path all a b
path_over some all same a b (one e) = one (sym (same a b) ∙ e)
path_over some all same a b (then_on {b = m} p q) = then_on (path_over some all same a m p) (path_over some all same m b q)

pub paths_same : (some all : ℕ → ℕ → Bool) → ((a b : ℕ) → some a b ≡ all a b) → (a b : ℕ) → Path some a b ↔ Path all a b
paths_same some all same a b = (path_over some all same a b, path_over all some (λ x y. sym (same x y)) a b)
