-- What soundness sees of a view.
use Rattle.std.specs.Prelude.{◌↔◌, ℕ, List}
use Rattle.check_access.specs.Views.{View}
use Rattle.check_program.specs.Sound.{Sound}
use Rattle.check_sync.specs.Synchronized.{Synchronized}
use Rattle.law_alike.specs.Alike.{Alike}
use Rattle.law_alike.specs.Wholly.{WhollyAlike}

abbrev pub SynchronizedAlike : Type 0
SynchronizedAlike = (V W : View) → Alike V W → Synchronized V ↔ Synchronized W

-- in the same order of nodes
abbrev pub SoundAlike : Type 0
SoundAlike = (V W : View) → WhollyAlike V W → (order : List ℕ) → Sound V order ↔ Sound W order
