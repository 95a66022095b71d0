-- Operations on the bytes of all units.
use Rattle.std.proofs.Common.{subst, zero, suc, map, ◌≡◌, ◌≢◌, ℕ, ◌+◌, ◌<◌, ◌==◌, List, [], ◌∷◌, length, get_or, slice_set, slice_index, slice_index_or, true, false, refl, sym, ap, ap₂, ◌∙◌, arith, ⊎_elim}
use Rattle.std.specs.List.{All}
use Rattle.std.proofs.lemmas.Bool.Decides.{eqb_tells}
use Rattle.std.proofs.lemmas.List.{length-set, length-append, get_or-set_same, get_or-set_other, get_or_append_left, set-set}
use Rattle.std.proofs.Math.Seq.{get_or-append_seam}
use Rattle.std.proofs.lemmas.List.Elements.{All-head, All-tail}
use Rattle.std.proofs.lemmas.List.Folds.{list_any_at}
use Rattle.base.proofs.Lists.{map_same}
use Rattle.base.proofs.Operands.{sources_mapped}
use Rattle.base.specs.Applied.{applied, bytes_at, after_op}
use Rattle.base.specs.InPlace.{in_place}
use Rattle.base.specs.Operands.{sources_of, destination_of, operands_of, mapped}
use Rattle.base.specs.Shapes.{bytes_of, shape_at}
use Rattle.base.specs.declared.op.Op.{Op}
use Rattle.base.specs.declared.shape.Shape.{Shape}
use Rattle.frame_meaning.specs.Internal.Sizes.{AreSized}
use Rattle.kernel.specs.Sources.{source_bytes}

no_some : false ≡ true → ⊥
no_some e = cc

-- OPERANDS

module _ (op : Op ℕ) where
  one_more : length (operands_of op) ≡ length (sources_of op) + 1
  one_more = length-append (sources_of op) (destination_of op ∷ [])

  -- what holds of all operands
  pub at_destination : (P : ℕ → Type 0) → All P (operands_of op) → P (destination_of op)
  at_destination P all = subst P (get_or-append_seam (sources_of op) (destination_of op) [] (destination_of op)) (all (length (sources_of op)) (destination_of op) (omega (arith, one_more)))

  pub at_sources : (P : ℕ → Type 0) → All P (operands_of op) → All P (sources_of op)
  at_sources P all = λ k d lt. subst P (get_or_append_left (sources_of op) (destination_of op ∷ []) d k lt) (all k d (omega (arith, one_more)))

  pub destination_within : (count : ℕ) → All (λ unit. unit < count) (operands_of op) → destination_of op < count
  destination_within count within = at_destination (λ unit. unit < count) within

  -- no source is the destination
  apart : in_place op ≡ false → All (λ unit. unit ≢ destination_of op) (sources_of op)
  apart none = λ k d lt same. no_some (sym none ∙ list_any_at (λ source. source == destination_of op) (sources_of op) k d lt (equal (get_or (sources_of op) k d) same))
    where
      equal : (u : ℕ) → u ≡ destination_of op → (u == destination_of op) ≡ true
      equal u same = ⊎_elim (λ h. h.0) (λ h. absurd (h.1 same)) (eqb_tells u (destination_of op))

-- the bytes of a unit, when another has these
elsewhere : (bytes : List (List ℕ)) (dst unit : ℕ) (put : List ℕ) → unit ≢ dst → bytes_at (slice_set bytes dst put) unit ≡ bytes_at bytes unit
elsewhere bytes dst unit put other = get_or-set_other bytes dst unit put [] other

pub same_sources : (bytes : List (List ℕ)) (op : Op ℕ) (put : List ℕ) → in_place op ≡ false → map (bytes_at (slice_set bytes (destination_of op) put)) (sources_of op) ≡ map (bytes_at bytes) (sources_of op)
same_sources bytes op put none = map_same (bytes_at (slice_set bytes (destination_of op) put)) (bytes_at bytes) (sources_of op) (λ k d lt. elsewhere bytes (destination_of op) (get_or (sources_of op) k d) put (apart op none k d lt))

-- LENGTHS

long : (shapes : List Shape) (bytes : List (List ℕ)) (xs : List ℕ) (k : ℕ) → All (λ unit. length (bytes_at bytes unit) ≡ bytes_of (shape_at shapes unit)) xs → length (get_or (map (bytes_at bytes) xs) k []) ≡ get_or (map bytes_of (map (shape_at shapes) xs)) k 0
long shapes bytes [] k sized = refl
long shapes bytes (x ∷ xs) zero sized = All-head (λ unit. length (bytes_at bytes unit) ≡ bytes_of (shape_at shapes unit)) x xs sized
long shapes bytes (x ∷ xs) (suc k) sized = long shapes bytes xs k (All-tail (λ unit. length (bytes_at bytes unit) ≡ bytes_of (shape_at shapes unit)) x xs sized)

pub source_long : (shapes : List Shape) (bytes : List (List ℕ)) (op : Op ℕ) (k : ℕ) (r : List ℕ) → All (λ unit. length (bytes_at bytes unit) ≡ bytes_of (shape_at shapes unit)) (sources_of op) → r ≡ slice_index_or (map (bytes_at bytes) (sources_of op)) k [] → length r ≡ source_bytes (mapped (shape_at shapes) op) k
source_long shapes bytes op k r sized is = ap length is ∙ long shapes bytes (sources_of op) k sized ∙ ap (λ xs. slice_index (map bytes_of xs) k) (sym (sources_mapped (shape_at shapes) op))

-- ONE OPERATION

-- the length of a unit's bytes
abbrev IsLong : List Shape → List (List ℕ) → ℕ → Type 0
IsLong shapes bytes unit = length (bytes_at bytes unit) ≡ bytes_of (shape_at shapes unit)

pub operands_long : (shapes : List Shape) (bytes : List (List ℕ)) (op : Op ℕ) → AreSized shapes bytes → All (λ unit. unit < length shapes) (operands_of op) → All (λ unit. length (bytes_at bytes unit) ≡ bytes_of (shape_at shapes unit)) (operands_of op)
operands_long shapes bytes op S within = λ k d lt. S.sized (get_or (operands_of op) k d) (within k d lt)

module _ (shapes : List Shape) (old : List (List ℕ)) (op : Op ℕ) (count : length old ≡ length shapes) (sized : All (λ unit. length (bytes_at old unit) ≡ bytes_of (shape_at shapes unit)) (operands_of op)) (operands : All (λ unit. unit < length shapes) (operands_of op)) (none : in_place op ≡ false) where
  abbrev dst : ℕ
  dst = destination_of op

  inside : dst < length shapes
  inside = destination_within op (length shapes) operands

  pub destination_fits : dst < length old
  destination_fits = subst (λ m. dst < m) (sym count) inside

  pub taken_sized : (taken : List (List ℕ)) → taken ≡ slice_set old dst [] → All (λ unit. length (bytes_at taken unit) ≡ bytes_of (shape_at shapes unit)) (sources_of op)
  taken_sized taken is = λ k d lt.
      let unit = get_or (sources_of op) k d in
      ap (λ b. length (bytes_at b unit)) is ∙ ap length (elsewhere old dst unit [] (apart op none k d lt)) ∙ at_sources op (IsLong shapes old) sized k d lt

  pub taken_count : (taken : List (List ℕ)) → taken ≡ slice_set old dst [] → length taken ≡ length shapes
  taken_count taken is = ap length is ∙ length-set old dst [] ∙ count

  pub out_long : (was : List ℕ) → was ≡ bytes_at old dst → length was ≡ bytes_of (shape_at shapes dst)
  out_long was is = ap length is ∙ at_destination op (IsLong shapes old) sized

  pub op_done : (taken new : List (List ℕ)) (was out : List ℕ) → was ≡ bytes_at old dst → taken ≡ slice_set old dst [] → out ≡ applied shapes op (map (bytes_at taken) (sources_of op)) was → new ≡ slice_set taken dst out → new ≡ after_op shapes old op
  op_done taken new was out had took gives put =
      put
      ∙ ap₂ (λ b o. slice_set b dst o) took (gives ∙ ap₂ (λ b w. applied shapes op (map (bytes_at b) (sources_of op)) w) took had ∙ ap (λ s. applied shapes op s (bytes_at old dst)) (same_sources old op [] none))
      ∙ set-set old dst [] (applied shapes op (map (bytes_at old) (sources_of op)) (bytes_at old dst))

  pub put_long : (new : List (List ℕ)) (out : List ℕ) → new ≡ slice_set (slice_set old dst []) dst out → length out ≡ bytes_of (shape_at shapes dst) → length (bytes_at new dst) ≡ bytes_of (shape_at shapes dst)
  put_long new out put size = ap (λ b. length (bytes_at b dst)) (put ∙ set-set old dst [] out) ∙ ap length (get_or-set_same old dst out [] destination_fits) ∙ size

-- all units keep their lengths where one does
module _ (shapes : List Shape) (old new : List (List ℕ)) (dst : ℕ) (put : List ℕ) (S : AreSized shapes old) (is : new ≡ slice_set old dst put) (size : length (bytes_at new dst) ≡ bytes_of (shape_at shapes dst)) where
  same_unit : (unit : ℕ) → ((unit == dst) ≡ true) × (unit ≡ dst) → length (bytes_at new unit) ≡ bytes_of (shape_at shapes unit)
  same_unit unit h = subst (λ u. length (bytes_at new u) ≡ bytes_of (shape_at shapes u)) (sym h.1) size

  other_unit : (unit : ℕ) → unit < length shapes → ((unit == dst) ≡ false) × (unit ≢ dst) → length (bytes_at new unit) ≡ bytes_of (shape_at shapes unit)
  other_unit unit lt h = ap (λ b. length (bytes_at b unit)) is ∙ ap length (elsewhere old dst unit put h.1) ∙ S.sized unit lt

  pub still_sized : AreSized shapes new
  still_sized = record {
    count = ap length is ∙ length-set old dst put ∙ S.count;
    sized = λ unit lt. ⊎_elim (same_unit unit) (other_unit unit lt) (eqb_tells unit dst);
  }
