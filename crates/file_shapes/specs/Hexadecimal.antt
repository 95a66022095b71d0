-- Bytes as hexadecimal text: an even number of digits in either case, and written in lower case.
use Rattle.std.specs.Prelude.{◌≡◌, ℕ, List, Option, Some, None, Result, Ok, Err}
use Rattle.file_json.specs.Leaves.{text_at, text_data}
use Rattle.file_json.specs.Parts.{Reader}
use Rattle.hex.specs.Hex.{decode_of, encode_lower}
use Rattle.hex.specs.declared.error.FromHexError.{FromHexError}
use Rattle.serde_json.specs.Data.{Data}
use Rattle.file_shapes.specs.declared.hexadecimal.HexError.{HexError}
use Rattle.file_shapes.specs.declared.hexadecimal.HexError.TheVariants as ends

abbrev pub bytes_in : Result (List ℕ) FromHexError → Option (List ℕ)
bytes_in (Ok bytes) = Some bytes
bytes_in (Err e) = None

-- the bytes of a text of hexadecimal digits
abbrev pub hex_of : List ℕ → Option (List ℕ)
hex_of text = bytes_in (decode_of text)

-- what a function returned are these bytes, unless memory ran out
abbrev pub HexGives : Result (List ℕ) HexError → Option (List ℕ) → Type 0
HexGives (Ok bytes) found = found ≡ Some bytes
HexGives (Err ends.NoMemory) found = Unit {0}
HexGives (Err ends.NoBytes) found = found ≡ None

abbrev pub hex_at : Reader (List ℕ)
hex_at = text_at hex_of

abbrev pub hex_data : List ℕ → Data
hex_data = text_data encode_lower
