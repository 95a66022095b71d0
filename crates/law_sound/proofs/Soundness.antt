-- The facts of a compiled frame, put together.
use Rattle.law_sound.specs.Laws.{Accessed, AreUnreleased, AreOrdered, ComeBefore, HaveBarriers}
use Rattle.law_plan.specs.Crossings.{IsFull}
use Rattle.law_plan.specs.Facts.{Facts}
use Rattle.law_plan.specs.Nodes.{Nodes, Places, Roles}
use Rattle.law_plan.specs.Plans.{Plan, Grouped}
use Rattle.check_access.specs.Views.{View}

pub facts : (F : Plan) (V : View) (N : Nodes) → IsFull V → Grouped F → Roles F V N → Places F V N → AreOrdered F V N → HaveBarriers F V N → ComeBefore F V N → AreUnreleased F V N → Accessed F V N → Facts F V N
facts F V N full grouped roles places ordered barriers before kept A = record {
  full = full;
  local = record {
    grouped = grouped;
    spots = A.spots;
    roles = roles;
    places = places;
    masks = A.masks;
    aliases = record {
      ordered = ordered;
      barriers = λ g h o. (barriers g h o).0;
      into = before;
      takes = A.aliases;
      onto = λ g h o. (barriers g h o).1;
      kept = kept;
    };
  };
  laid = A.laid;
  owned = A.owned;
  handed = A.handed;
  changed = A.changed;
}
