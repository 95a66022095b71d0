-- The numbers of the uses of each group, as they are looked up.
use Rattle.std.proofs.Common.{◌≡◌, ℕ, ◌<◌, List, [], length, map, sym, ap, ◌∙◌, subst, arith}
use Rattle.std.specs.List.{range_with_len}
use Rattle.std.proofs.lemmas.List.FromFn.{length-map-range_with_len, get_or-map-range_with_len}
use Rattle.compile_groups.specs.Internal.Buckets.{bucket}
use Rattle.compile_groups.specs.Needs.{numbers_in}
use Rattle.compile_groups.specs.declared.grouping.Grouping.{Grouping}

module _ (G : Grouping) (B : List (List ℕ)) (g : ℕ) (is : B ≡ map (numbers_in G) (range_with_len 0 (length G.groups))) (lt : g < length G.groups) where
  pub numbers_there : g < length B
  numbers_there = subst (λ n. g < n) (sym (ap length is ∙ length-map-range_with_len (numbers_in G) 0 (length G.groups))) lt

  pub numbers_are : bucket B g ≡ numbers_in G g
  numbers_are = ap (λ X. bucket X g) is ∙ get_or-map-range_with_len (numbers_in G) 0 (length G.groups) g g [] lt (omega arith)
