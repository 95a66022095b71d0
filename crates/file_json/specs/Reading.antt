-- What reading comes to, a value or the path of a fault, and what it means that a function reads so.
use Rattle.std.specs.Prelude.{◌≡◌, List, Result, Ok, Err}
use Rattle.base.specs.declared.path.Leg.{Leg}
use Rattle.file_json.specs.declared.read_error.ReadError.{ReadError}
use Rattle.file_json.specs.declared.read_error.ReadError.TheVariants as ends

-- a value, or the path of the first fault
abbrev pub Reading : Type 0 → Type 0
Reading X = Result X (List Leg)

-- what is read next, unless there was a fault
infixl 10 ◌>>=◌
abbrev pub ◌>>=◌ : {A B : Type 0} → Reading A → (A → Reading B) → Reading B
(Ok x) >>= f = f x
(Err e) >>= f = Err e

-- the fault has this path, unless memory ran out
abbrev pub Refuses : ReadError → List Leg → Type 0
Refuses ends.NoMemory path = Unit {0}
Refuses (ends.Refused p) path = p ≡ path

abbrev pub Fails : {X : Type 0} → ReadError → Reading X → Type 0
Fails ends.NoMemory read = Unit {0}
Fails (ends.Refused path) read = read ≡ Err path

-- what a function returned is what reading gives, unless memory ran out
abbrev pub Gives : {X : Type 0} → Result X ReadError → Reading X → Type 0
Gives (Ok x) read = read ≡ Ok x
Gives (Err e) read = Fails e read
