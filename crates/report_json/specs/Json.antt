-- JSON as it is printed: without spaces, members in the order told, numbers in decimal.
use Rattle.std.specs.Prelude.{ℕ, suc, Bool, true, false, List, [], ◌∷◌, ◌++◌, ◌==◌, ◌||◌, nat_lt, codes, if◌then◌else◌}
use Rattle.std.specs.Fmt.{decimal}
use Rattle.hex.specs.Hex.{encode_lower}

abbrev pub number : ℕ → List ℕ
number n = decimal n

-- a string whose bytes need no escape
unfoldable pub string : List ℕ → List ℕ
string bytes = codes "\"" ++ bytes ++ codes "\""

-- of any bytes: a quotation mark and a backslash stand behind a backslash, and a control character is told by its number
abbrev pub escaped : ℕ → List ℕ
escaped byte = if byte == 34 || byte == 92 then 92 ∷ byte ∷ [] else if nat_lt byte 32 then codes "\\u00" ++ encode_lower (byte ∷ []) else byte ∷ []

abbrev pub truth : Bool → List ℕ
truth true = codes "true"
truth false = codes "false"

unfoldable pub member : List ℕ → List ℕ → List ℕ
member name value = string name ++ (codes ":" ++ value)

-- the members behind another one
abbrev pub later : List (List ℕ) → List ℕ
later [] = []
later (m ∷ ms) = codes "," ++ (m ++ later ms)

-- an object of at least one member
abbrev pub object : List ℕ → List (List ℕ) → List ℕ
object first ms = codes "{" ++ first ++ later ms ++ codes "}"

-- what stands before entry k of a list
abbrev pub comma : ℕ → List ℕ
comma k = if k == 0 then [] else codes ","

-- the entries of a list from entry k on
abbrev pub entries : {X : Type 0} → (ℕ → X → List ℕ) → ℕ → List X → List ℕ
entries entry k [] = []
entries entry k (x ∷ xs) = comma k ++ (entry k x ++ entries entry (suc k) xs)

abbrev pub array : {X : Type 0} → (ℕ → X → List ℕ) → List X → List ℕ
array entry xs = codes "[" ++ entries entry 0 xs ++ codes "]"

-- a list of two numbers
abbrev pub pair : ℕ → ℕ → List ℕ
pair a b = codes "[" ++ (number a ++ (codes "," ++ (number b ++ codes "]")))

-- an answer is one object, and a line feed
abbrev pub answer : List ℕ → List (List ℕ) → List ℕ
answer first ms = object first ms ++ codes "\n"
