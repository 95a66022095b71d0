-- Reading the parts of a JSON value by cases, with the path of the first fault.
use Rattle.std.specs.Prelude.{ℕ, suc, List, [], ◌∷◌, ◌++◌, Option, Some, None, Ok, Err, ⊤, if◌then◌else◌, map}
use Rattle.std.specs.List.{list_any}
use Rattle.std.specs.Str.{bytes_eq}
use Rattle.base.specs.declared.path.Leg.{Leg}
use Rattle.base.specs.declared.path.Leg.TheVariants as leg
use Rattle.file_json.specs.Reading.{Reading, ◌>>=◌}
use Rattle.serde_json.specs.Data.{Data, null, boolean, number, string, array, object, Items, no_items, item, Members, no_members, member}
use Rattle.serde_json.specs.Find.{get}
use Rattle.serde_json.specs.View.{items_of}

-- how a value is read at a path
abbrev pub Reader : Type 0 → Type 0
Reader X = List Leg → Data → Reading X

-- the path of a member
abbrev pub below : List Leg → List ℕ → List Leg
below at name = at ++ leg.Member name ∷ []

-- a value that must be there
abbrev pub or_at : {X : Type 0} → List Leg → Option X → Reading X
or_at at None = Err at
or_at at (Some x) = Ok x

abbrev pub object_at : Reader ⊤
object_at at null = Err at
object_at at (boolean b) = Err at
object_at at (number n) = Err at
object_at at (string s) = Err at
object_at at (array ds) = Err at
object_at at (object ms) = Ok tt

abbrev pub given_at : {X : Type 0} → Reader X → List Leg → Option Data → Reading X
given_at reads at None = Err at
given_at reads at (Some d) = reads at d

-- a member that must be there
abbrev pub member_at : {X : Type 0} → Reader X → List ℕ → Reader X
member_at reads name at d = given_at reads (below at name) (get name d)

abbrev pub maybe_at : {X : Type 0} → Reader X → List Leg → Option Data → Reading (Option X)
maybe_at reads at None = Ok None
maybe_at reads at (Some d) = reads at d >>= λ x. Ok (Some x)

-- a member that may be there
abbrev pub optional_at : {X : Type 0} → Reader X → List ℕ → Reader (Option X)
optional_at reads name at d = maybe_at reads (below at name) (get name d)

-- the entries from position i on
abbrev pub entries_at : {X : Type 0} → Reader X → List Leg → ℕ → Items → Reading (List X)
entries_at reads at i no_items = Ok []
entries_at reads at i (item d ds) = reads (at ++ leg.Position i ∷ []) d >>= λ x. entries_at reads at (suc i) ds >>= λ xs. Ok (x ∷ xs)

abbrev pub list_at : {X : Type 0} → Reader X → Reader (List X)
list_at reads at null = Err at
list_at reads at (boolean b) = Err at
list_at reads at (number n) = Err at
list_at reads at (string s) = Err at
list_at reads at (array ds) = entries_at reads at 0 ds
list_at reads at (object ms) = Err at

-- the first member that is not known; members are in the byte order of their names
abbrev pub unknown_in : List (List ℕ) → List Leg → Members → Reading ⊤
unknown_in known at no_members = Ok tt
unknown_in known at (member name d ms) = if list_any (λ k. bytes_eq k name) known then unknown_in known at ms else Err (below at name)

-- an object has no members but these
abbrev pub others_at : List (List ℕ) → Reader ⊤
others_at known at null = Ok tt
others_at known at (boolean b) = Ok tt
others_at known at (number n) = Ok tt
others_at known at (string s) = Ok tt
others_at known at (array ds) = Ok tt
others_at known at (object ms) = unknown_in known at ms

-- a list as it is written, from how its entries are
abbrev pub array_of : {X : Type 0} → (X → Data) → List X → Data
array_of writes xs = array (items_of (map writes xs))

-- members, which stand in the byte order of their names
abbrev pub members_in : List (List ℕ × Data) → Members
members_in [] = no_members
members_in (m ∷ ms) = member m.0 m.1 (members_in ms)
