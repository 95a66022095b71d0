-- Pieces looked up.
use Rattle.std.proofs.Common.{◌≡◌, ℕ, ◌<◌, List, length, get_or, sym, ap, ◌∙◌, subst, arith}
use Rattle.std.proofs.lemmas.List.FromFn.{get_or-map-range_with_len, length-map-range_with_len}
use Rattle.compile_groups.specs.declared.grouping.Grouping.{Grouping}
use Rattle.compile_record.specs.Internal.Resources.{resource_at, all_resources}
use Rattle.compile_record.specs.Pieces.{piece_of}
use Rattle.compile_record.specs.declared.resource.Resource.{Resource}

pub resource_within : (G : Grouping) (resources : List Resource) (r : ℕ) → resources ≡ all_resources G → r < length G.shapes → r < length resources
resource_within G resources r e lt = subst (λ n. r < n) (sym (ap length e ∙ length-map-range_with_len (resource_at G) 0 (length G.shapes))) lt

pub piece_got : (G : Grouping) (resources : List Resource) (r : ℕ) (resource : Resource) → resources ≡ all_resources G → r < length G.shapes → (get_or resources r resource).piece ≡ piece_of G r
piece_got G resources r resource e lt = ap (λ l. (get_or l r resource).piece) e ∙ ap (λ x. x.piece) (get_or-map-range_with_len (resource_at G) 0 (length G.shapes) r r resource lt (omega arith))
