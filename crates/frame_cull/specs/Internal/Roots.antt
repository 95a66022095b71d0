-- The passes that matter by themselves.
use Rattle.std.specs.Prelude.{◌≡◌, ◌<◌, ℕ, List, [], ◌∷◌, map, length, Bool, true, Option, Some, None, slice_set}
use Rattle.frame.specs.Numbered.{NumberedFrame}
use Rattle.frame_cull.specs.Internal.Counts.{is_root}
use Rattle.frame_cull.specs.Culled.{Matters}
use Rattle.frame_cull.specs.Versions.{row_of, latest_maker}

-- those with a side effect
abbrev pub effects : NumberedFrame → List Bool
effects frame = map (λ pass. pass.side_effect) frame.passes

abbrev pub marked : Option ℕ → List Bool → List Bool
marked None roots = roots
marked (Some p) roots = slice_set roots p true

-- and those that make the last versions of these units
abbrev pub rooted : List (List (Option ℕ)) → List ℕ → List Bool → List Bool
rooted makers [] roots = roots
rooted makers (unit ∷ units) roots = rooted makers units (marked (latest_maker (row_of makers unit)) roots)

-- the roots are the passes that matter
pub record AreRoots (frame : NumberedFrame) (roots : List Bool) : Type 0 where
  pub count : length roots ≡ length frame.passes
  pub matter : (p : ℕ) → p < length frame.passes → Matters frame p → is_root roots p ≡ true
  pub only : (p : ℕ) → is_root roots p ≡ true → Matters frame p
