-- What stands before the first group of a unit.
use Rattle.std.proofs.Common.{◌≡◌, ℕ, ◌<◌, ◌==◌, true, List, [], ◌∷◌, length, refl, sym, ap, ◌∙◌, arith, if◌then◌else◌}
use Rattle.std.specs.Prelude.{is_some}
use Rattle.std.proofs.lemmas.Bool.{eqb-true}
use Rattle.compile_groups.specs.Laws.{IsGrouped, IsKnown}
use Rattle.compile_groups.specs.Needs.{group_at}
use Rattle.compile_groups.specs.Placed.{placed}
use Rattle.compile_groups.specs.Uses.{no_use}
use Rattle.compile_groups.specs.declared.grouping.Grouping.{Grouping}
use Rattle.compile_groups.specs.declared.unit_use.Use.{Use}
use Rattle.compile_barriers.proofs.Members.{some_use, is_used, imported, no_import}
use Rattle.compile_barriers.specs.Prologues.{first, has_uses, earlier, first_kind, kind_of, prologue_between, prologue_of}
use Rattle.compile_barriers.specs.Under.{Heap, place_of, uses_under}
use Rattle.compile_barriers.specs.declared.prologue.PrologueKind.TheVariants.{Nothing}

pub empty : (uses : List Use) → (length uses == 0) ≡ true → [] ≡ uses
empty [] e = refl
empty (u ∷ uses) e = absurd (let h = eqb-true (length (u ∷ uses)) 0 e in omega (arith, h))

module _ (G : Grouping) (heap : Heap) (g : ℕ) (alone : [] ≡ earlier G g) where
  abbrev B : List Use
  B = group_at G g

  abbrev L : List Use
  L = uses_under G heap (place_of G (first (group_at G g)).unit)

  without : prologue_between (kind_of G [] L B) g [] L B ≡ prologue_of G heap g
  without = ap (λ A. prologue_between (kind_of G A L B) g A L B) alone

  -- an import
  pub import_prologue : IsGrouped G → IsKnown G → g < length G.groups → place_of G (first (group_at G g)).unit ≡ length (placed G) → prologue_between Nothing g [] [] (group_at G g) ≡ prologue_of G heap g
  import_prologue K N lt none =
      sym (ap (λ b. prologue_between (if b then Nothing else first_kind (has_uses L) (is_some (first B).layout)) g [] L B) (imported G (first B).unit (N.members g [] lt 0 no_use (some_use G g K lt)).0 (is_used G g K lt) none))
      ∙ without

  -- a unit that has a place
  pub placed_prologue : place_of G (first (group_at G g)).unit < length (placed G) → prologue_between (first_kind (has_uses L) (is_some (first (group_at G g)).layout)) g [] L (group_at G g) ≡ prologue_of G heap g
  placed_prologue lt =
      sym (ap (λ b. prologue_between (if b then Nothing else first_kind (has_uses L) (is_some (first B).layout)) g [] L B) (no_import G (first B).unit lt))
      ∙ without
