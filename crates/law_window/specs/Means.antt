-- A window means what its frames mean one after another.
use Rattle.std.specs.Prelude.{◌≡◌, ◌+◌, ◌==◌, ℕ, zero, suc, List, [], ◌∷◌, take, length, true, Option, Some, slice_get}
use Rattle.std.specs.List.{list_any}
use Rattle.base.specs.declared.shape.Family.{Family}
use Rattle.frame_meaning.specs.Meaning.{meaning}
use Rattle.law_window.specs.Flown.{Flown, holding}
use Rattle.law_window.specs.Persisted.{persisted_after}
use Rattle.law_window.specs.Sources.{Source, Given, Left, given, last_sources}
use Rattle.law_window.specs.Window.{window}

-- how many units the frames before frame i have
abbrev pub units_before : List Flown → ℕ → ℕ
units_before frames zero = 0
units_before [] (suc i) = 0
units_before (flown ∷ frames) (suc i) = length flown.frame.units + units_before frames i

-- how many of them they export
abbrev pub exports_before : List Flown → ℕ → ℕ
exports_before frames zero = 0
exports_before [] (suc i) = 0
exports_before (flown ∷ frames) (suc i) = length flown.frame.exports + exports_before frames i

-- what is persisted for each name is in the unit where it was left, or was given
abbrev pub ArePersisted : (ℕ → List ℕ → Type 0) → List Source → List (List ℕ) → Type 0
ArePersisted Means [] [] = Unit {0}
ArePersisted Means [] (bytes ∷ persisted) = ⊥
ArePersisted Means (source ∷ sources) [] = ⊥
ArePersisted Means (Given old ∷ sources) (bytes ∷ persisted) = (bytes ≡ old) × ArePersisted Means sources persisted
ArePersisted Means (Left unit ∷ sources) (bytes ∷ persisted) = Means unit bytes × ArePersisted Means sources persisted

-- a unit of the window is read back after it, and means these bytes
pub record IsLeft (queues : List Family) (frames : List Flown) (persisted : List (List ℕ)) (unit : ℕ) (bytes : List ℕ) : Type 0 where
  pub exported : list_any (λ x. x == unit) (window queues frames persisted).exports ≡ true
  pub means : meaning (window queues frames persisted) unit ≡ Some bytes

-- export k of frame i, its unit there: where it stands among the exports of the window, and that it means these bytes
pub record IsExport (queues : List Family) (frames : List Flown) (persisted : List (List ℕ)) (i k unit : ℕ) (bytes : Option (List ℕ)) : Type 0 where
  pub place : slice_get (window queues frames persisted).exports (exports_before frames i + k) ≡ Some (units_before frames i + unit)
  pub means : meaning (window queues frames persisted) (units_before frames i + unit) ≡ bytes

-- each export means what it means in its frame, begun with what is persisted after the frames before it; and the units of the
-- persisting names mean what is persisted after all frames
pub record MeansTheSame (queues : List Family) (frames : List Flown) (persisted : List (List ℕ)) : Type 0 where
  pub exports : (i k : ℕ) (flown : Flown) (unit : ℕ) → slice_get frames i ≡ Some flown → slice_get flown.frame.exports k ≡ Some unit → IsExport queues frames persisted i k unit (meaning (holding (persisted_after (take i frames) persisted) flown) unit)
  pub left : ArePersisted (IsLeft queues frames persisted) (last_sources 0 (given persisted) frames) (persisted_after frames persisted)
