-- Numbers and texts as JSON.
use Rattle.std.specs.Prelude.{◌≡◌, refl, ℕ, ◌≤◌, ◌&&◌, List, Option, Some, None, option_and_then, if◌then◌else◌, nat_le}
use Rattle.base.specs.Names.{name_of, IsName}
use Rattle.file_json.specs.Parts.{Reader, or_at}
use Rattle.serde_json.specs.Data.{Data, number, string, unsigned}
use Rattle.serde_json.specs.Find.{as_number, as_u64, as_str}

-- the number, where it lies between these two
abbrev pub within : ℕ → ℕ → ℕ → Option ℕ
within least most n = if nat_le least n && nat_le n most then Some n else None

-- a whole number between these two
abbrev pub number_at : ℕ → ℕ → Reader ℕ
number_at least most at d = or_at at (option_and_then (within least most) (option_and_then as_u64 (as_number d)))

-- the greatest u32
abbrev pub greatest : ℕ
greatest = 4294967295

-- a whole number that a u32 holds
abbrev pub whole_at : Reader ℕ
whole_at = number_at 0 greatest

abbrev pub number_data : ℕ → Data
number_data n = number (unsigned n)

abbrev pub FitsRange : ℕ → ℕ → ℕ → Type 0
FitsRange least most n = (least ≤ n) × (n ≤ most)

abbrev pub FitsWhole : ℕ → Type 0
FitsWhole = FitsRange 0 greatest

-- a text that stands for a value
abbrev pub text_at : {X : Type 0} → (List ℕ → Option X) → Reader X
text_at value_of at d = or_at at (option_and_then value_of (as_str d))

-- a name as text
abbrev pub name_at : Reader (List ℕ)
name_at = text_at name_of

abbrev pub text_data : {X : Type 0} → (X → List ℕ) → X → Data
text_data text_of x = string (text_of x)

-- a name's text is the name itself
abbrev pub same_bytes : List ℕ → List ℕ
same_bytes name = name

pub name_again : (name : List ℕ) → IsName name → name_of (same_bytes name) ≡ Some name
name_again name h = rw h refl
