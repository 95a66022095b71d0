-- Reading entry by entry and member by member, as the loops do.
use Rattle.std.proofs.Common.{◌≡◌, ℕ, true, false, List, ◌∷◌, ◌++◌, map, Ok, Err, Bor, String, Global, string_bytes, refl, sym, ap, ◌∙◌}
use Rattle.std.specs.List.{list_any}
use Rattle.std.specs.Str.{bytes_eq}
use Rattle.base.proofs.Lists.{any_mapped}
use Rattle.base.specs.declared.path.Leg.{Leg}
use Rattle.file_json.specs.Parts.{below, unknown_in}
use Rattle.file_json.specs.Reading.{Reading, Refuses, Fails, ◌>>=◌}
use Rattle.file_json.specs.declared.read_error.ReadError.{ReadError}
use Rattle.file_json.specs.declared.read_error.ReadError.TheVariants as ends
use Rattle.serde_json.specs.View.{members_view}
use Rattle.serde_json.specs.declared.value.Value.{Value}

-- what was read before, and what is still read
abbrev pub with_front : {X : Type 0} → List X → Reading (List X) → Reading (List X)
with_front front read = read >>= λ xs. Ok (front ++ xs)

abbrev Entry : Type 0
Entry = String Global × Value

-- a member that is known, and one that is not
module _ (known : List (Bor (List ℕ))) (at : List Leg) (left : List Entry) (e : Entry) (rest : List Entry) (is : left ≡ e ∷ rest) where
  pub passes_known : list_any (λ k. bytes_eq k.now (string_bytes e.0)) known ≡ true → unknown_in (map (λ k. k.now) known) at (members_view left) ≡ unknown_in (map (λ k. k.now) known) at (members_view rest)
  passes_known h = rw (is, any_mapped (λ k. bytes_eq k (string_bytes e.0)) (λ (k : Bor (List ℕ)). k.now) known, h) refl

  pub stops_at : list_any (λ k. bytes_eq k.now (string_bytes e.0)) known ≡ false → unknown_in (map (λ k. k.now) known) at (members_view left) ≡ Err (below at (string_bytes e.0))
  stops_at h = rw (is, any_mapped (λ k. bytes_eq k (string_bytes e.0)) (λ (k : Bor (List ℕ)). k.now) known, h) refl

pub fails_at : {X : Type 0} (e : ReadError) (path : List Leg) (read : Reading X) → Refuses e path → read ≡ Err path → Fails e read
fails_at ends.NoMemory path read h is = tt
fails_at (ends.Refused p) path read h is = is ∙ ap Err (sym h)
