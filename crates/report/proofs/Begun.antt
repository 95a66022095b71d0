-- Texts that were begun.
use Rattle.std.proofs.Common.{◌≡◌, ℕ, List, ◌++◌, ◌∙◌, append_assoc}
use Rattle.base_text.specs.Starts.{Starts}

pub begun : (front rest whole : List ℕ) → whole ≡ front ++ rest → Starts front whole
begun front rest whole e = record { rest = rest; joined = e }

pub begun_more : (front middle whole : List ℕ) → Starts front middle → Starts middle whole → Starts front whole
begun_more front middle whole a b = record { rest = a.rest ++ b.rest; joined = b.joined ∙ rw a.joined (append_assoc front a.rest b.rest) }
