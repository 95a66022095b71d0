-- Lifetimes by the groups of a unit, which stand side by side.
use Rattle.std.specs.Prelude.{◌≡◌, ◌<◌, ◌≤◌, ℕ, List, length, slice_index_or, Bool, true}
use Rattle.std.specs.List.{All, list_all}
use Rattle.compile_groups.specs.Needs.{group_at, is_of}
use Rattle.compile_groups.specs.Placed.{unit_at}
use Rattle.compile_groups.specs.declared.grouping.Grouping.{Grouping}
use Rattle.compile_groups.specs.declared.unit_use.Use.{Use}
use Rattle.compile_lifetimes.specs.declared.lifetime.Lifetime.{Lifetime}

-- groups from this number on are of the unit and of those above it, and all others of units below it
pub record IsStart (G : Grouping) (unit start : ℕ) : Type 0 where
  pub within : start ≤ length G.groups
  pub below : (g : ℕ) → g < start → All (λ u. u.unit < unit) (group_at G g)
  pub above : (g : ℕ) → start ≤ g → All (λ u. unit ≤ u.unit) (group_at G g)

-- the groups from the first to the last are those of the unit
pub record IsLifetime (G : Grouping) (unit : ℕ) (lifetime : Lifetime) : Type 0 where
  pub order : lifetime.first ≤ lifetime.last
  pub within : lifetime.last < length G.groups
  pub own : (g : ℕ) → lifetime.first ≤ g → g ≤ lifetime.last → All (λ u. u.unit ≡ unit) (group_at G g)
  pub all : (g : ℕ) → is_of G unit g ≡ true → (lifetime.first ≤ g) × (g ≤ lifetime.last)

-- of so many placed units, each its lifetime
pub record AreLifetimes (G : Grouping) (units : ℕ) (lifetimes : List Lifetime) : Type 0 where
  pub count : length lifetimes ≡ units
  pub each : (a : ℕ) (d : Lifetime) → a < units → IsLifetime G (unit_at G a) (slice_index_or lifetimes a d)

-- they begin and end with groups that there are
abbrev pub IsWithin : Grouping → List Lifetime → Type 0
IsWithin G lifetimes = All (λ lifetime. (lifetime.first < length G.groups) × (lifetime.last < length G.groups)) lifetimes

-- each of these uses reaches each of the others
abbrev pub all_reach : (ℕ → ℕ → Bool) → List Use → List Use → Bool
all_reach reaches uses others = list_all (λ u. list_all (λ v. reaches u.command v.command) others) uses

abbrev pub lifetime_at : List Lifetime → ℕ → Lifetime
lifetime_at lifetimes a = slice_index_or lifetimes a (record { first = 0; last = 0 })

-- the last group of the lifetime at place a reaches the first one of that at place b
abbrev pub is_before : (ℕ → ℕ → Bool) → Grouping → List Lifetime → ℕ → ℕ → Bool
is_before reaches G lifetimes a b = all_reach reaches (group_at G (lifetime_at lifetimes a).last) (group_at G (lifetime_at lifetimes b).first)
