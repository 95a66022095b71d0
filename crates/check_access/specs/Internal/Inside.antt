-- What contracts see of the fields of a view, and what is known of them.
use Rattle.std.specs.Prelude.{◌≡◌, map}
use Rattle.check_access.specs.Views.{View, overlapping_in}
use Rattle.check_access.specs.declared.view.View.TheInside.{Inside}

abbrev pub view_in : Inside → View
view_in inside = record {
  nodes = inside.edges;
  effects = inside.effects;
  pieces = inside.pieces;
  imported = inside.imported;
  families = inside.families;
}

-- for each piece those that overlap it are listed
abbrev pub KnowsOverlaps : Inside → Type 0
KnowsOverlaps inside = inside.overlapping ≡ map (overlapping_in inside.pieces) inside.pieces
