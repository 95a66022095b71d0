-- Operations on other numbers for the same operands.
use Rattle.std.proofs.Common.{◌≡◌, ◌==◌, ℕ, false, List, [], ◌∷◌, map, refl, sym, ap₂, ◌∙◌, eq-eqb, eqb-true}
use Rattle.std.specs.List.{All, list_any}
use Rattle.std.proofs.lemmas.Bool.{false_from_ne_true, or_parts, or_from}
use Rattle.std.proofs.lemmas.List.Elements.{All-head, All-tail}
use Rattle.base.proofs.Booleans.{clash}
use Rattle.base.proofs.Operands.{sources_mapped, destination_mapped}
use Rattle.base.specs.InPlace.{in_place}
use Rattle.base.specs.Operands.{sources_of, destination_of, mapped}
use Rattle.base.specs.declared.op.Op.{Op}

-- two numbers that differ stay apart
still_apart : (f : ℕ → ℕ) (dst : ℕ) (sources : List ℕ) → All (λ s. f s ≡ f dst → s ≡ dst) sources → list_any (λ s. s == dst) sources ≡ false → list_any (λ s. s == f dst) (map f sources) ≡ false
still_apart f dst [] apart none = refl
still_apart f dst (s ∷ sources) apart none =
    let parts = or_parts (s == dst) (list_any (λ x. x == dst) sources) none in
    or_from (f s == f dst) (list_any (λ x. x == f dst) (map f sources))
    (false_from_ne_true (f s == f dst) (λ e. clash (sym parts.0 ∙ eq-eqb s dst (All-head (λ x. f x ≡ f dst → x ≡ dst) s sources apart (eqb-true (f s) (f dst) e)))))
    (still_apart f dst sources (All-tail (λ x. f x ≡ f dst → x ≡ dst) s sources apart) parts.1)

pub not_in_place : (f : ℕ → ℕ) (op : Op ℕ) → All (λ s. f s ≡ f (destination_of op) → s ≡ destination_of op) (sources_of op) → in_place op ≡ false → in_place (mapped f op) ≡ false
not_in_place f op apart none =
    ap₂ (λ dst sources. list_any (λ s. s == dst) sources) (destination_mapped f op) (sources_mapped f op)
    ∙ still_apart f (destination_of op) (sources_of op) apart none
