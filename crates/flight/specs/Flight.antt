-- What flies.
use Rattle.std.specs.Prelude.{ℕ, List}
use Rattle.frame.specs.declared.frame.Frame.{Frame}

-- frames, the names under which bytes persist from one to the next, and how many frames a window has
pub record Flight : Type 0 where
  pub frames : List Frame
  pub persist : List (List ℕ)
  pub depth : ℕ
