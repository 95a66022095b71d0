-- What is computed once for the groups of a valid frame.
use Rattle.std.proofs.Common.{◌≡◌, ℕ, ◌+◌, ◌<◌, ◌^◌, Bool, List, length, map, sym, ap, ap₂, ◌∙◌, subst, arith}
use Rattle.std.specs.List.{All, filter, range_with_len}
use Rattle.std.specs.Prelude.{is_some}
use Rattle.std.proofs.lemmas.List.{length-map}
use Rattle.std.proofs.lemmas.List.Elements.{All-map, All-weaker}
use Rattle.base.specs.Shapes.{shape_at, bytes_of}
use Rattle.base.specs.declared.shape.Shape.{Shape}
use Rattle.frame.specs.Valid.{IsValid}
use Rattle.frame.specs.Numbered.{NumberedFrame}
use Rattle.compile_groups.proofs.Assembled.{is_grouped, is_known, is_small}
use Rattle.compile_groups.proofs.Found.{found}
use Rattle.compile_groups.proofs.Growing.{shapes-length}
use Rattle.compile_groups.proofs.Sizes.{groups-few, uses-few, unit-small, placed_units}
use Rattle.compile_groups.proofs.Sources.{commands_within, of_groups}
use Rattle.compile_groups.proofs.Tables.{by_unit, by_command, placed_is, looked_up_is, by_group_is}
use Rattle.compile_groups.specs.Internal.Buckets.{none_in, has_place, looked_up, put_numbers}
use Rattle.compile_groups.specs.Internal.Known.{AreKnown}
use Rattle.compile_groups.specs.Internal.Tabled.{IsTabled}
use Rattle.compile_groups.specs.Commands.{all_shapes}
use Rattle.compile_groups.specs.Groups.{all_uses, grouped}
use Rattle.compile_groups.specs.Laws.{IsFound, IsGrouped, IsKnown, IsSmall}
use Rattle.compile_groups.specs.Needs.{use_at, uses_at, uses_in, numbers_from}
use Rattle.compile_groups.specs.Placed.{placed, sizes}
use Rattle.compile_groups.specs.Uses.{uses_of}
use Rattle.compile_groups.specs.declared.grouping.Grouping.{Grouping}
use Rattle.compile_groups.specs.declared.unit_use.Use.{Use}
use Rattle.compile_groups.specs.declared.unit_use.UseAt.{UseAt}

module _ (n : NumberedFrame) (G : Grouping) (is : G ≡ grouped n G.commands) (known : AreKnown n G.commands) where
  pub count-few : length G.groups < 2 ^ 32
  count-few = subst (λ (X : Grouping). length X.groups < 2 ^ 32) (sym is) (let h = groups-few n G.commands in let few = known.few in omega (arith, h, few))

  pub imports-length : length G.imports ≡ length n.units
  imports-length = ap (λ (X : Grouping). length X.imports) is ∙ length-map n.units (λ u. is_some u.imported)

  -- units that are placed
  pub places : (units : ℕ) (imports : List Bool) (B : List (List Use)) (list : List ℕ) → units ≡ length n.units → imports ≡ G.imports → B ≡ by_unit (length n.units) (all_uses n G.commands) → list ≡ filter (has_place imports B) (range_with_len 0 units) → list ≡ placed (grouped n G.commands)
  places units imports B list e f b h =
      h
      ∙ ap (λ k. filter (has_place imports B) (range_with_len 0 k)) e
      ∙ ap₂ (λ x y. filter (has_place x y) (range_with_len 0 (length n.units))) (f ∙ ap (λ (X : Grouping). X.imports) is) b
      ∙ placed_is n G.commands

  -- each unit has a shape
  pub places-within : (list : List ℕ) (shapes : ℕ) → IsValid n → list ≡ placed (grouped n G.commands) → shapes ≡ length G.shapes → All (λ unit. unit < shapes) list
  places-within list shapes good e s =
      let k = shapes-length n in
      let same : length G.shapes ≡ length (all_shapes n) = ap (λ (X : Grouping). length X.shapes) is in
      subst (All (λ unit. unit < shapes)) (sym e) (placed_units n G.commands good (λ unit. unit < shapes) (λ unit lt. omega (arith, lt, k, s, same)))

  -- each command of a use is there
  pub uses-within : (commands : ℕ) → commands ≡ length G.commands → All (λ u. u.command < commands) (all_uses n G.commands)
  uses-within commands e = All-weaker (λ u. u.command < 0 + length G.commands) (λ u. u.command < commands) (λ u h. omega (arith, h, e)) (all_uses n G.commands) (commands_within (all_shapes n) (length n.units) 0 G.commands)

  pub groups-within : (commands : ℕ) → commands ≡ length G.commands → All (λ A. All (λ u. u.command < commands) A) G.groups
  groups-within commands e =
      subst (λ (X : Grouping). All (λ A. All (λ u. u.command < commands) A) X.groups) (sym is)
      (of_groups (λ u. u.command < commands) n G.commands (uses-within commands e))

  pub uses-small : length (all_uses n G.commands) < 2 ^ 32
  uses-small = let h = uses-few (all_shapes n) (length n.units) 0 G.commands in let few = known.few in omega (arith, h, few)

  shapes-are : G.shapes ≡ all_shapes n
  shapes-are = ap (λ (X : Grouping). X.shapes) is

  -- no unit has more bytes than a number of 32 bits can tell
  pub places-small : (list : List ℕ) (shapes : List Shape) → IsValid n → list ≡ placed (grouped n G.commands) → shapes ≡ G.shapes → All (λ unit. bytes_of (shape_at shapes unit) < 2 ^ 32) list
  places-small list shapes good e s =
      subst (λ x. All (λ unit. bytes_of (shape_at x unit) < 2 ^ 32) list) (sym (s ∙ shapes-are))
      (subst (All (λ unit. bytes_of (shape_at (all_shapes n) unit) < 2 ^ 32)) (sym e)
      (placed_units n G.commands good (λ unit. bytes_of (shape_at (all_shapes n) unit) < 2 ^ 32) (λ unit lt. let h = unit-small n unit good lt in omega (arith, h))))

  sharings-length : length G.sharings ≡ length n.units
  sharings-length = ap (λ (X : Grouping). length X.sharings) is ∙ length-map n.units (λ u. u.sharing)

  uses-are : all_uses n G.commands ≡ uses_in G
  uses-are = ap₂ (λ s k. uses_of s k 0 G.commands) (sym shapes-are) (sym sharings-length)

  -- uses with the groups that were looked up
  pub looked : (count commands : ℕ) (groups : List (List Use)) (B : List (List UseAt)) (uses : List Use) (list : List UseAt) → count ≡ length G.groups → commands ≡ length G.commands → groups ≡ G.groups → B ≡ by_command commands groups → uses ≡ all_uses n G.commands → list ≡ map (looked_up count B) uses → list ≡ uses_at G
  looked count commands groups B uses list e c g b u h =
      h
      ∙ ap₂ (λ k x. map (looked_up k x) uses) e (b ∙ ap (by_command commands) g)
      ∙ looked_up_is commands G.groups uses (groups-within commands c)
      ∙ ap (map (use_at G.groups)) (u ∙ uses-are)

  groups-known : All (λ u. u.group < length G.groups) (uses_at G)
  groups-known =
      subst (λ (X : Grouping). All (λ u. u.group < length X.groups) (uses_at X)) (sym is)
      (All-map (λ u. u.group < length (grouped n G.commands).groups) (use_at (grouped n G.commands).groups) (uses_in (grouped n G.commands))
      (All-weaker (IsFound (grouped n G.commands)) (λ u. (use_at (grouped n G.commands).groups u).group < length (grouped n G.commands).groups) (λ u F. F.group) (uses_in (grouped n G.commands)) (found n G.commands)))

  pub known-within : (count : ℕ) (list : List UseAt) → count ≡ length G.groups → list ≡ uses_at G → All (λ u. u.group < count) list
  known-within count list e h = subst (λ k. All (λ u. u.group < k) list) (sym e) (subst (All (λ u. u.group < length G.groups)) (sym h) groups-known)

  pub known-small : (list : List UseAt) → list ≡ uses_at G → length list < 2 ^ 32
  known-small list h =
      let a = ap length h in
      let b = length-map (uses_in G) (use_at G.groups) in
      let c = ap length uses-are in
      omega (arith, a, b, c, uses-small)

  -- all tables
  pub tabled : (count : ℕ) (uses : List UseAt) (B : List (List ℕ)) (places bytes : List ℕ) → IsValid n → count ≡ length G.groups → uses ≡ uses_at G → B ≡ put_numbers 0 uses (none_in count) → places ≡ placed (grouped n G.commands) → bytes ≡ map (λ unit. bytes_of (shape_at G.shapes unit)) places → IsTabled G uses B places bytes
  tabled count uses B places bytes good e u b p s =
      let sized : bytes ≡ sizes (grouped n G.commands) = s ∙ ap₂ (λ x y. map (λ unit. bytes_of (shape_at x unit)) y) shapes-are p in
      record {
        grouped = subst IsGrouped (sym is) (is_grouped n G.commands);
        known = subst IsKnown (sym is) (is_known n G.commands known);
        small = subst IsSmall (sym is) (is_small n G.commands good known.few);
        uses = u;
        by_group = b ∙ by_group_is count uses (known-within count uses e u) ∙ ap₂ (λ x k. map (numbers_from 0 x) (range_with_len 0 k)) u e;
        places = p ∙ sym (ap placed is);
        bytes = sized ∙ sym (ap sizes is);
      }
