-- What is held when units get their first bytes, when an operation runs on them, and when bytes are let go.
use Rattle.std.proofs.Common.{subst, zero, suc, map, drop, slice_get, ◌+◌, ◌≡◌, ◌≢◌, ℕ, ◌<◌, ◌≤◌, ◌==◌, ◌||◌, inl, inr, List, [], ◌∷◌, length, get_or, replicate, slice_set, Bool, true, false, Some, None, is_some, if◌then◌else◌, refl, sym, ap, ap₂, ◌∙◌, arith, ⊎_elim}
use Rattle.std.specs.List.{All, list_any}
use Rattle.std.proofs.lemmas.Bool.{leb-true}
use Rattle.std.proofs.lemmas.Bool.Decides.{eqb_tells}
use Rattle.std.proofs.lemmas.List.{length-map, length-set, length-replicate, get_or-replicate, get_or-set_same, get_or-set_other}
use Rattle.std.proofs.lemmas.List.Elements.{All-cons, All-head, All-tail}
use Rattle.std.proofs.lemmas.List.Folds.{list_any_at}
use Rattle.std.proofs.lemmas.Option.{get_or_from_slice_get}
use Rattle.base.proofs.Lists.{map_same}
use Rattle.base.specs.Applied.{applied, bytes_at, after_op}
use Rattle.base.specs.Bounds.{size_allowed}
use Rattle.base.specs.Operands.{sources_of, destination_of, operands_of, touches}
use Rattle.base.specs.Shapes.{bytes_of, shape_at}
use Rattle.base.specs.declared.op.Op.{Op}
use Rattle.frame.specs.Valid.{IsValid, shapes_in}
use Rattle.frame.specs.Numbered.{NumberedFrame}
use Rattle.frame.specs.Units.{Unit}
use Rattle.frame_meaning.proofs.Exported.{and_left, exported}
use Rattle.frame_meaning.proofs.Lists.{item_first}
use Rattle.frame_meaning.proofs.Remaining.{as_ops}
use Rattle.frame_meaning.proofs.Runs.{at_destination, at_sources, still_sized}
use Rattle.frame_meaning.proofs.Steps.{are_sized}
use Rattle.frame_meaning.specs.Internal.Held.{IsAt, Stands, all_ops, all_released, all_settled, first_at, is_wanted, released, settled}
use Rattle.frame_meaning.specs.Meaning.{first_bytes, all_bytes, has_picture, meaning}
use Rattle.frame_meaning.specs.Internal.Sizes.{AreSized}

equal : (u v : ℕ) → u ≡ v → (u == v) ≡ true
equal u v same = ⊎_elim (λ h. h.0) (λ h. absurd (h.1 same)) (eqb_tells u v)

opposed : false ≡ true → ⊥
opposed e = cc

pub operand_within : (us : List ℕ) (j u count : ℕ) → All (λ w. w < count) us → j < length us → slice_get us j ≡ Some u → u < count
operand_within us j u count within lt got = subst (λ w. w < count) (get_or_from_slice_get us j u u got) (within j u lt)

-- BYTES LET GO

module _ (wanted : ℕ → Bool) where
  released-at : (held : List (List ℕ)) (u v : ℕ) → wanted v ≡ true → bytes_at (released wanted held u) v ≡ bytes_at held v
  released-at held u v wants = by_test (wanted u) refl
    where
      by_test : (b : Bool) → wanted u ≡ b → bytes_at (released wanted held u) v ≡ bytes_at held v
      by_test true is = ap (λ b. bytes_at (if b then held else slice_set held u []) v) is
      by_test false is = ap (λ b. bytes_at (if b then held else slice_set held u []) v) is ∙ get_or-set_other held u v [] [] (λ same. opposed (sym is ∙ ap wanted (sym same) ∙ wants))

  pub released-length : (held : List (List ℕ)) (u : ℕ) → length (released wanted held u) ≡ length held
  released-length held u = by_test (wanted u) refl
    where
      by_test : (b : Bool) → wanted u ≡ b → length (released wanted held u) ≡ length held
      by_test true is = ap (λ b. length (if b then held else slice_set held u [])) is
      by_test false is = ap (λ b. length (if b then held else slice_set held u [])) is ∙ length-set held u []

  all_released-at : (us : List ℕ) (held : List (List ℕ)) (v : ℕ) → wanted v ≡ true → bytes_at (all_released wanted held us) v ≡ bytes_at held v
  all_released-at [] held v wants = refl
  all_released-at (u ∷ us) held v wants = all_released-at us (released wanted held u) v wants ∙ released-at held u v wants

  all_released-length : (us : List ℕ) (held : List (List ℕ)) → length (all_released wanted held us) ≡ length held
  all_released-length [] held = refl
  all_released-length (u ∷ us) held = all_released-length us (released wanted held u) ∙ released-length held u

pub release_on : (wanted : ℕ → Bool) (us : List ℕ) (j u : ℕ) (held more total : List (List ℕ)) → j < length us → slice_get us j ≡ Some u → more ≡ released wanted held u → all_released wanted held (drop j us) ≡ total → all_released wanted more (drop (j + 1) us) ≡ total
release_on wanted us j u held more total lt got is so_far = ap (λ h. all_released wanted h (drop (j + 1) us)) is ∙ sym (ap (all_released wanted held) (item_first us j u lt (get_or_from_slice_get us j u u got))) ∙ so_far

-- FIRST BYTES

pub settled-length : (units : List Unit) (held : List (List ℕ)) (u : ℕ) → length (settled units held u) ≡ length held
settled-length units held u = by_test (length (bytes_at held u) == 0) refl
  where
    by_test : (b : Bool) → (length (bytes_at held u) == 0) ≡ b → length (settled units held u) ≡ length held
    by_test true is = ap (λ b. length (if b then slice_set held u (first_at units u) else held)) is ∙ length-set held u (first_at units u)
    by_test false is = ap (λ b. length (if b then slice_set held u (first_at units u) else held)) is

pub all_settled-length : (units : List Unit) (us : List ℕ) (held : List (List ℕ)) → length (all_settled units held us) ≡ length held
all_settled-length units [] held = refl
all_settled-length units (u ∷ us) held = all_settled-length units us (settled units held u) ∙ settled-length units held u

pub settle_on : (units : List Unit) (us : List ℕ) (j u : ℕ) (held more total : List (List ℕ)) → j < length us → slice_get us j ≡ Some u → more ≡ settled units held u → all_settled units held (drop j us) ≡ total → all_settled units more (drop (j + 1) us) ≡ total
settle_on units us j u held more total lt got is so_far = ap (λ h. all_settled units h (drop (j + 1) us)) is ∙ sym (ap (all_settled units held) (item_first us j u lt (get_or_from_slice_get us j u u got))) ∙ so_far

pub carried : (units : List Unit) (held bytes more next : List (List ℕ)) (v : ℕ) → Stands units held bytes v → bytes_at more v ≡ bytes_at held v → bytes_at next v ≡ bytes_at bytes v → Stands units more next v
carried units held bytes more next v (inl same) m n = inl (m ∙ same ∙ sym n)
carried units held bytes more next v (inr (none, first)) m n = inr (m ∙ none, n ∙ first)

-- against the bytes of all units, of which each has some
module _ (units : List Unit) (bytes : List (List ℕ)) (some : (unit : ℕ) → unit < length units → 1 ≤ length (bytes_at bytes unit)) where
  settled-same : (held : List (List ℕ)) (u : ℕ) → u < length units → length held ≡ length units → Stands units held bytes u → bytes_at (settled units held u) u ≡ bytes_at bytes u
  settled-same held u lt count stands = ⊎_elim empty holds (eqb_tells (length (bytes_at held u)) 0)
    where
      empty : ((length (bytes_at held u) == 0) ≡ true) × (length (bytes_at held u) ≡ 0) → bytes_at (settled units held u) u ≡ bytes_at bytes u
      empty h = ap (λ b. bytes_at (if b then slice_set held u (first_at units u) else held) u) h.0 ∙ get_or-set_same held u (first_at units u) [] (subst (λ m. u < m) (sym count) lt) ∙ by_case stands
        where
          by_case : Stands units held bytes u → first_at units u ≡ bytes_at bytes u
          by_case (inl same) =
              let least = some u lt in
              let none : length (bytes_at bytes u) ≡ 0 = sym (ap length same) ∙ h.1 in
              absurd (omega (arith, least, none))
          by_case (inr (none, first)) = sym first

      holds : ((length (bytes_at held u) == 0) ≡ false) × (length (bytes_at held u) ≢ 0) → bytes_at (settled units held u) u ≡ bytes_at bytes u
      holds h = ap (λ b. bytes_at (if b then slice_set held u (first_at units u) else held) u) h.0 ∙ by_case stands
        where
          by_case : Stands units held bytes u → bytes_at held u ≡ bytes_at bytes u
          by_case (inl same) = same
          by_case (inr (none, first)) = absurd (h.1 (ap length none))

  settled-other : (held : List (List ℕ)) (u v : ℕ) → v ≢ u → bytes_at (settled units held u) v ≡ bytes_at held v
  settled-other held u v other = by_test (length (bytes_at held u) == 0) refl
    where
      by_test : (b : Bool) → (length (bytes_at held u) == 0) ≡ b → bytes_at (settled units held u) v ≡ bytes_at held v
      by_test true is = ap (λ b. bytes_at (if b then slice_set held u (first_at units u) else held) v) is ∙ get_or-set_other held u v (first_at units u) [] other
      by_test false is = ap (λ b. bytes_at (if b then slice_set held u (first_at units u) else held) v) is

  settled-keeps : (held : List (List ℕ)) (u v : ℕ) → v < length units → length held ≡ length units → bytes_at held v ≡ bytes_at bytes v → bytes_at (settled units held u) v ≡ bytes_at bytes v
  settled-keeps held u v lt count same = ⊎_elim at_it at_other (eqb_tells v u)
    where
      at_it : ((v == u) ≡ true) × (v ≡ u) → bytes_at (settled units held u) v ≡ bytes_at bytes v
      at_it h = subst (λ w. bytes_at (settled units held w) v ≡ bytes_at bytes v) h.1 (settled-same held v lt count (inl same))

      at_other : ((v == u) ≡ false) × (v ≢ u) → bytes_at (settled units held u) v ≡ bytes_at bytes v
      at_other h = settled-other held u v h.1 ∙ same

  settled-stands : (held : List (List ℕ)) (u v : ℕ) → v < length units → length held ≡ length units → Stands units held bytes v → Stands units (settled units held u) bytes v
  settled-stands held u v lt count stands = ⊎_elim at_it at_other (eqb_tells v u)
    where
      at_it : ((v == u) ≡ true) × (v ≡ u) → Stands units (settled units held u) bytes v
      at_it h = inl (subst (λ w. bytes_at (settled units held w) v ≡ bytes_at bytes v) h.1 (settled-same held v lt count stands))

      at_other : ((v == u) ≡ false) × (v ≢ u) → Stands units (settled units held u) bytes v
      at_other h = carried units held bytes (settled units held u) bytes v stands (settled-other held u v h.1) refl

  all_settled-keeps : (us : List ℕ) (held : List (List ℕ)) (v : ℕ) → v < length units → length held ≡ length units → bytes_at held v ≡ bytes_at bytes v → bytes_at (all_settled units held us) v ≡ bytes_at bytes v
  all_settled-keeps [] held v lt count same = same
  all_settled-keeps (u ∷ us) held v lt count same = all_settled-keeps us (settled units held u) v lt (settled-length units held u ∙ count) (settled-keeps held u v lt count same)

  all_settled-stands : (us : List ℕ) (held : List (List ℕ)) (v : ℕ) → v < length units → length held ≡ length units → Stands units held bytes v → Stands units (all_settled units held us) bytes v
  all_settled-stands [] held v lt count stands = stands
  all_settled-stands (u ∷ us) held v lt count stands = all_settled-stands us (settled units held u) v lt (settled-length units held u ∙ count) (settled-stands held u v lt count stands)

  all_settled-same : (us : List ℕ) (held : List (List ℕ)) → All (λ u. u < length units) us → length held ≡ length units → All (Stands units held bytes) us → All (λ u. bytes_at (all_settled units held us) u ≡ bytes_at bytes u) us
  all_settled-same [] held within count stand = λ k d lt. absurd (omega arith)
  all_settled-same (u ∷ us) held within count stand =
      let inside : u < length units = All-head (λ w. w < length units) u us within in
      let rest : All (λ w. w < length units) us = All-tail (λ w. w < length units) u us within in
      let more : length (settled units held u) ≡ length units = settled-length units held u ∙ count in
      All-cons (λ w. bytes_at (all_settled units (settled units held u) us) w ≡ bytes_at bytes w) u us
      (all_settled-keeps us (settled units held u) u inside more (settled-same held u inside count (All-head (Stands units held bytes) u us stand)))
      (all_settled-same us (settled units held u) rest more (λ k d lt. settled-stands held u (get_or us k d) (rest k d lt) count (All-tail (Stands units held bytes) u us stand k d lt)))

-- EACH UNIT HAS BYTES

least : (all : List Unit) → All (λ u. size_allowed u.shape ≡ true) all → (unit : ℕ) → unit < length all → 1 ≤ bytes_of (shape_at (map (λ u. u.shape) all) unit)
least [] sized unit lt = absurd (omega arith)
least (u ∷ all) sized zero lt = leb-true 1 (bytes_of u.shape) (and_left _ _ (All-head (λ v. size_allowed v.shape ≡ true) u all sized))
least (u ∷ all) sized (suc unit) lt = least all (All-tail (λ v. size_allowed v.shape ≡ true) u all sized) unit (omega arith)

some_bytes : (n : NumberedFrame) (bytes : List (List ℕ)) → IsValid n → AreSized (shapes_in n) bytes → (unit : ℕ) → unit < length n.units → 1 ≤ length (bytes_at bytes unit)
some_bytes n bytes good S unit lt = subst (λ m. 1 ≤ m) (sym (S.sized unit (subst (λ m. unit < m) (sym (length-map n.units (λ u. u.shape))) lt))) (least n.units good.sized unit lt)

-- ONE OPERATION

named : (a b c : Bool) → a ≡ true → ((a || b) || c) ≡ true
named a b c e = ap (λ x. (x || b) || c) e

later_named : (a b c : Bool) → (b || c) ≡ true → ((a || b) || c) ≡ true
later_named true b c e = refl
later_named false b c e = e

module _ (n : NumberedFrame) (good : IsValid n) (op : Op ℕ) (rest : List (Op ℕ)) (held : List (List ℕ)) (at : IsAt n (op ∷ rest) held) (within : All (λ unit. unit < length n.units) (operands_of op)) (ready : List (List ℕ)) (settles : ready ≡ all_settled n.units held (operands_of op)) where
  operand_stands : All (Stands n.units held at.bytes) (operands_of op)
  operand_stands = λ k d lt.
      let unit : ℕ = get_or (operands_of op) k d in
      at.stand unit (within k d lt) (named (touches unit op) (list_any (touches unit) rest) (list_any (λ export. export == unit) n.exports) (list_any_at (λ x. x == unit) (operands_of op) k d lt (equal unit unit refl)))

  operand_same : All (λ unit. bytes_at ready unit ≡ bytes_at at.bytes unit) (operands_of op)
  operand_same = subst (λ h. All (λ unit. bytes_at h unit ≡ bytes_at at.bytes unit) (operands_of op)) (sym settles) (all_settled-same n.units at.bytes (some_bytes n at.bytes good at.sized) (operands_of op) held within at.count operand_stands)

  shapes_count : length (shapes_in n) ≡ length n.units
  shapes_count = length-map n.units (λ u. u.shape)

  ready-length : length ready ≡ length n.units
  ready-length = ap length settles ∙ all_settled-length n.units (operands_of op) held ∙ at.count

  pub ready_count : length ready ≡ length (shapes_in n)
  ready_count = ready-length ∙ sym shapes_count

  pub ready_sized : All (λ unit. length (bytes_at ready unit) ≡ bytes_of (shape_at (shapes_in n) unit)) (operands_of op)
  ready_sized = λ k d lt. ap length (operand_same k d lt) ∙ at.sized.sized (get_or (operands_of op) k d) (subst (λ m. get_or (operands_of op) k d < m) (sym shapes_count) (within k d lt))

  abbrev given : List (List ℕ) → List ℕ
  given bytes = applied (shapes_in n) op (map (bytes_at bytes) (sources_of op)) (bytes_at bytes (destination_of op))

  given_same : given ready ≡ given at.bytes
  given_same = ap₂ (λ s d. applied (shapes_in n) op s d) (map_same (bytes_at ready) (bytes_at at.bytes) (sources_of op) (at_sources op (λ unit. bytes_at ready unit ≡ bytes_at at.bytes unit) operand_same)) (at_destination op (λ unit. bytes_at ready unit ≡ bytes_at at.bytes unit) operand_same)

  inside : destination_of op < length n.units
  inside = at_destination op (λ unit. unit < length n.units) within

  module _ (run : List (List ℕ)) (runs : run ≡ after_op (shapes_in n) ready op) (long : length (bytes_at run (destination_of op)) ≡ bytes_of (shape_at (shapes_in n) (destination_of op))) where
    run-length : length run ≡ length n.units
    run-length = ap length runs ∙ length-set ready (destination_of op) (given ready) ∙ ready-length

    pub run_within : All (λ unit. unit < length run) (operands_of op)
    run_within = subst (λ m. All (λ unit. unit < m) (operands_of op)) (sym run-length) within

    abbrev next : List (List ℕ)
    next = after_op (shapes_in n) at.bytes op

    bytes_count : length at.bytes ≡ length n.units
    bytes_count = at.sized.count ∙ shapes_count

    stored_same : bytes_at run (destination_of op) ≡ bytes_at next (destination_of op)
    stored_same =
        ap (λ b. bytes_at b (destination_of op)) runs
        ∙ get_or-set_same ready (destination_of op) (given ready) [] (subst (λ m. destination_of op < m) (sym ready-length) inside)
        ∙ given_same
        ∙ sym (get_or-set_same at.bytes (destination_of op) (given at.bytes) [] (subst (λ m. destination_of op < m) (sym bytes_count) inside))

    run_stands : (v : ℕ) → v < length n.units → is_wanted n.exports rest v ≡ true → Stands n.units run next v
    run_stands v lt wants = ⊎_elim at_it at_other (eqb_tells v (destination_of op))
      where
        at_it : ((v == destination_of op) ≡ true) × (v ≡ destination_of op) → Stands n.units run next v
        at_it h = inl (subst (λ w. bytes_at run w ≡ bytes_at next w) (sym h.1) stored_same)

        before : Stands n.units ready at.bytes v
        before = subst (λ h. Stands n.units h at.bytes v) (sym settles) (all_settled-stands n.units at.bytes (some_bytes n at.bytes good at.sized) (operands_of op) held v lt at.count (at.stand v lt (later_named (touches v op) (list_any (touches v) rest) (list_any (λ export. export == v) n.exports) wants)))

        at_other : ((v == destination_of op) ≡ false) × (v ≢ destination_of op) → Stands n.units run next v
        at_other h = carried n.units ready at.bytes run next v before (ap (λ b. bytes_at b v) runs ∙ get_or-set_other ready (destination_of op) v (given ready) [] h.1) (get_or-set_other at.bytes (destination_of op) v (given at.bytes) [] h.1)

    pub stepped : (new : List (List ℕ)) → new ≡ all_released (is_wanted n.exports rest) run (operands_of op) → IsAt n rest new
    stepped new lets_go = record {
      bytes = next;
      sized = still_sized (shapes_in n) at.bytes next (destination_of op) (given at.bytes) at.sized refl (sym (ap length stored_same) ∙ long);
      count = ap length lets_go ∙ all_released-length (is_wanted n.exports rest) (operands_of op) run ∙ run-length;
      stand = λ v lt wants. carried n.units run next new next v (run_stands v lt wants) (ap (λ b. bytes_at b v) lets_go ∙ all_released-at (is_wanted n.exports rest) (operands_of op) run v wants) refl;
      leads = at.leads;
    }

-- FROM NOTHING TO THE EXPORTS

pub begun : (n : NumberedFrame) → IsValid n → (held : List (List ℕ)) → held ≡ replicate (length n.units) [] → IsAt n (all_ops n.passes) held
begun n good held none = record {
  bytes = map first_bytes n.units;
  sized = are_sized n good;
  count = ap length none ∙ length-replicate (length n.units) [];
  stand = λ unit lt wants. inr (ap (λ h. bytes_at h unit) none ∙ get_or-replicate (length n.units) unit [] [] lt, refl);
  leads = as_ops (shapes_in n) n.passes (map first_bytes n.units);
}

is_there : (b : Bool) (x : List ℕ) → is_some (if b then Some x else None) ≡ true → (if b then Some x else None) ≡ Some x
is_there true x e = refl
is_there false x e = absurd cc

pub exports_meant : (n : NumberedFrame) → IsValid n → (held new : List (List ℕ)) → IsAt n [] held → new ≡ all_settled n.units held n.exports → All (λ unit. meaning n unit ≡ Some (bytes_at new unit)) n.exports
exports_meant n good held new at settles = λ k d lt.
    let unit : ℕ = get_or n.exports k d in
    is_there (has_picture n unit) (bytes_at (all_bytes n) unit) (exported n good k d lt)
    ∙ ap (λ b. Some (bytes_at b unit)) (sym at.leads)
    ∙ ap Some (sym (same k d lt))
    ∙ ap (λ b. Some (bytes_at b unit)) (sym settles)
  where
    same : All (λ u. bytes_at (all_settled n.units held n.exports) u ≡ bytes_at at.bytes u) n.exports
    same = all_settled-same n.units at.bytes (some_bytes n at.bytes good at.sized) n.exports held good.exports_within at.count (λ k d lt. at.stand (get_or n.exports k d) (good.exports_within k d lt) (list_any_at (λ export. export == get_or n.exports k d) n.exports k d lt (equal (get_or n.exports k d) (get_or n.exports k d) refl)))

pub settled_count : (n : NumberedFrame) (held new : List (List ℕ)) → IsAt n [] held → new ≡ all_settled n.units held n.exports → length new ≡ length n.units
settled_count n held new at settles = ap length settles ∙ all_settled-length n.units n.exports held ∙ at.count
