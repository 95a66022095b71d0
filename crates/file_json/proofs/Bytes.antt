-- Which bytes are JSON.
use Rattle.std.proofs.Common.{◌≡◌, ℕ, Bool, true, false, List, Option, None, refl, sym, ap}
use Rattle.std.specs.Str.{IsUtf8, is_utf8}
use Rattle.std.proofs.lemmas.Str.{IsUtf8-from_is_utf8, is_utf8-from_IsUtf8}
use Rattle.serde_json.specs.Data.{Data}
use Rattle.serde_json.specs.Read.{read}
use Rattle.file_json.specs.Json.{json_of}

no_test : (bytes : List ℕ) (b : Bool) → is_utf8 bytes ≡ b → ¬ IsUtf8 bytes → b ≡ false
no_test bytes true e isnt = absurd (isnt (IsUtf8-from_is_utf8 bytes e))
no_test bytes false e isnt = refl

pub json_of-no_text : (bytes : List ℕ) → ¬ IsUtf8 bytes → json_of bytes ≡ None
json_of-no_text bytes isnt = rw (no_test bytes _ refl isnt) refl

pub json_of-text : (bytes text : List ℕ) → text ≡ bytes → IsUtf8 bytes → json_of bytes ≡ read text
json_of-text bytes text same valid = rw (is_utf8-from_IsUtf8 bytes valid) (ap read (sym same))

pub json_of-written : (text : List ℕ) (d : Option Data) → IsUtf8 text → read text ≡ d → json_of text ≡ d
json_of-written text d valid reads = rw (is_utf8-from_IsUtf8 text valid) reads
