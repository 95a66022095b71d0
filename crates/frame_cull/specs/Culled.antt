-- Passes that nothing needs.
use Rattle.std.specs.Prelude.{ℕ, List, ◌≡◌, ◌<◌, ◌↔◌, Bool, true, false, length, Some, slice_index_or}
use Rattle.std.specs.List.{Contains}
use Rattle.frame.specs.Numbered.{NumberedFrame}
use Rattle.frame_cull.specs.Versions.{versions, all_versions, latest_maker, pass_at, used}

-- pass q reads or changes a version that pass p makes
pub record Leads (frame : NumberedFrame) (p : ℕ) (q : ℕ) : Type 0 where
  pub within : q < length frame.passes
  pub unit : ℕ
  pub uses : Contains (used (pass_at frame q)) unit
  pub made_here : latest_maker (versions frame q unit) ≡ Some p

-- zero or more such steps
pub data Reaches (frame : NumberedFrame) : ℕ → ℕ → Type 0 where
  here : {p : ℕ} → Reaches frame p p
  on : {p q r : ℕ} → Leads frame p q → Reaches frame q r → Reaches frame p r

-- pass p makes the last version of a unit that is exported
pub record MakesExport (frame : NumberedFrame) (p : ℕ) : Type 0 where
  pub unit : ℕ
  pub exported : Contains frame.exports unit
  pub last : latest_maker (all_versions frame unit) ≡ Some p

-- what a pass does is seen outside the frame
pub data Matters (frame : NumberedFrame) (p : ℕ) : Type 0 where
  has_effect : (pass_at frame p).side_effect ≡ true → Matters frame p
  makes_export : MakesExport frame p → Matters frame p

-- no pass that matters is reached
abbrev pub Culled : NumberedFrame → ℕ → Type 0
Culled frame p = (q : ℕ) → q < length frame.passes → Reaches frame p q → Matters frame q → ⊥

-- for each pass whether it is kept
pub record AreKept (frame : NumberedFrame) (kept : List Bool) : Type 0 where
  pub count : length kept ≡ length frame.passes
  pub culled : (p : ℕ) → p < length frame.passes → (slice_index_or kept p false ≡ false) ↔ Culled frame p
