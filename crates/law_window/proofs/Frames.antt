-- The bytes of one frame among those of all, and those that are persisted at the end.
use Rattle.std.proofs.Common.{◌≡◌, ℕ, zero, suc, ◌+◌, ◌<◌, ◌++◌, List, [], ◌∷◌, length, map, take, slice_get, Some, refl, sym, ap, ap₂, subst, ◌∙◌, append_assoc, arith}
use Rattle.std.specs.List.{AllByRecursion}
use Rattle.std.proofs.lemmas.List.{append-nil, get_or-append-add, get_or_append_left, length-append, length-map}
use Rattle.base.specs.Applied.{bytes_at}
use Rattle.base.specs.declared.shape.Family.{Family}
use Rattle.frame.specs.Valid.{shapes_in}
use Rattle.frame_meaning.specs.Meaning.{all_bytes}
use Rattle.law_window.proofs.Law.{bytes_sized, held_imported}
use Rattle.law_window.proofs.Sources.{AreFrom, bytes_from, start_from, start_held}
use Rattle.law_window.proofs.Steps.{from_after, kept_is}
use Rattle.law_window.specs.Flown.{Flown, holding}
use Rattle.law_window.specs.Persisted.{flown_bytes, persisted_after, persisted_by}
use Rattle.law_window.specs.Means.{units_before}
use Rattle.law_window.specs.Sources.{Source, Given, Left, given, last_sources, next, sources_after}
use Rattle.law_window.specs.Together.{Flies}

-- THE BYTES OF ONE FRAME AMONG THOSE OF ALL

from_lengths : (before : List (List ℕ)) (sizes : List ℕ) (sources : List Source) → AreFrom before sizes sources → map length (map (bytes_from before) sources) ≡ sizes
from_lengths before [] [] from = refl
from_lengths before [] (source ∷ sources) from = absurd from
from_lengths before (size ∷ sizes) [] from = absurd from
from_lengths before (size ∷ sizes) (Given bytes ∷ sources) from = ap₂ (λ n ns. n ∷ ns) from.0 (from_lengths before sizes sources from.1)
from_lengths before (size ∷ sizes) (Left unit ∷ sources) from = ap₂ (λ n ns. n ∷ ns) from.1 (from_lengths before sizes sources from.2)

module _ (queues : List Family) (sizes : List ℕ) (flown : Flown) (F : Flies queues sizes flown) (before : List (List ℕ)) (sources : List Source) (from : AreFrom before sizes sources) where
  abbrev now : List (List ℕ)
  now = map (bytes_from before) sources

  abbrev ran : List (List ℕ)
  ran = all_bytes (holding now flown)

  bytes_count : length ran ≡ length flown.frame.units
  bytes_count = (bytes_sized queues sizes flown F before sources from).count ∙ length-map flown.frame.units (λ u. u.shape)

  persisted_next : persisted_by flown now ≡ map (bytes_from (before ++ ran)) (sources_after (length before) flown.places sources)
  persisted_next = kept_is before ran (holding now flown) refl (shapes_in flown.frame) sizes flown.places sources F.placed from (held_imported before (shapes_in flown.frame) sizes flown.places sources flown.frame.units refl F.placed from)

  from_next : AreFrom (before ++ ran) sizes (sources_after (length before) flown.places sources)
  from_next = from_after before ran (shapes_in flown.frame) sizes flown.places sources F.placed from (bytes_sized queues sizes flown F before sources from)

-- the same where the bytes are persisted
module _ (queues : List Family) (sizes : List ℕ) (flown : Flown) (F : Flies queues sizes flown) (persisted : List (List ℕ)) (is : map length persisted ≡ sizes) where
  held_count : length (all_bytes (holding persisted flown)) ≡ length flown.frame.units
  held_count = subst (λ h. length (all_bytes (holding h flown)) ≡ length flown.frame.units) (start_held persisted) (bytes_count queues sizes flown F [] (given persisted) (start_from persisted sizes is))

  pub held_sized : map length (persisted_by flown persisted) ≡ sizes
  held_sized =
      let from = start_from persisted sizes is in
      let next_from = from_next queues sizes flown F [] (given persisted) from in
      subst (λ h. map length (persisted_by flown h) ≡ sizes) (start_held persisted) (ap (map length) (persisted_next queues sizes flown F [] (given persisted) from) ∙ from_lengths ([] ++ all_bytes (holding (map (bytes_from []) (given persisted)) flown)) sizes (sources_after 0 flown.places (given persisted)) next_from)

pub at_frame : (queues : List Family) (sizes : List ℕ) (frames : List Flown) → AllByRecursion (Flies queues sizes) frames → (persisted : List (List ℕ)) → map length persisted ≡ sizes → (i : ℕ) (flown : Flown) (unit : ℕ) → slice_get frames i ≡ Some flown → unit < length flown.frame.units → bytes_at (flown_bytes frames persisted) (units_before frames i + unit) ≡ bytes_at (all_bytes (holding (persisted_after (take i frames) persisted) flown)) unit
at_frame queues sizes [] fly persisted is i flown unit at inside = absurd cc
at_frame queues sizes (first ∷ frames) fly persisted is zero flown unit at inside =
    let same : first ≡ flown = cc in
    let z : 0 + unit ≡ unit = omega arith in
    let within : unit < length (all_bytes (holding persisted first)) = subst (λ n. unit < n) (sym (held_count queues sizes first fly.0 persisted is)) (subst (λ f. unit < length f.frame.units) (sym same) inside) in
    ap (bytes_at (flown_bytes (first ∷ frames) persisted)) z
    ∙ get_or_append_left (all_bytes (holding persisted first)) (flown_bytes frames (persisted_by first persisted)) [] unit within
    ∙ ap (λ f. bytes_at (all_bytes (holding persisted f)) unit) same
at_frame queues sizes (first ∷ frames) fly persisted is (suc i) flown unit at inside =
    let bytes = all_bytes (holding persisted first) in
    let rest = flown_bytes frames (persisted_by first persisted) in
    let e : (length first.frame.units + units_before frames i) + unit ≡ length bytes + (units_before frames i + unit) = omega (arith, held_count queues sizes first fly.0 persisted is) in
    ap (bytes_at (bytes ++ rest)) e ∙ get_or-append-add bytes rest (units_before frames i + unit) []
    ∙ at_frame queues sizes frames fly.1 (persisted_by first persisted) (held_sized queues sizes first fly.0 persisted is) i flown unit at inside

-- WHAT IS HELD AT THE END

held_last : (queues : List Family) (sizes : List ℕ) (frames : List Flown) → AllByRecursion (Flies queues sizes) frames → (before : List (List ℕ)) (sources : List Source) → AreFrom before sizes sources → persisted_after frames (map (bytes_from before) sources) ≡ map (bytes_from (before ++ flown_bytes frames (map (bytes_from before) sources))) (last_sources (length before) sources frames)
held_last queues sizes [] fly before sources from = ap (λ b. map (bytes_from b) sources) (sym (append-nil before))
held_last queues sizes (flown ∷ frames) fly before sources from =
    let persisted = map (bytes_from before) sources in
    let bytes = all_bytes (holding persisted flown) in
    let after = sources_after (length before) flown.places sources in
    let on = persisted_next queues sizes flown fly.0 before sources from in
    let sum : length (before ++ bytes) ≡ next (length before) flown = length-append before bytes ∙ ap (λ k. length before + k) (bytes_count queues sizes flown fly.0 before sources from) in
    ap (persisted_after frames) on
    ∙ held_last queues sizes frames fly.1 (before ++ bytes) after (from_next queues sizes flown fly.0 before sources from)
    ∙ ap₂ (λ h k. map (bytes_from ((before ++ bytes) ++ flown_bytes frames h)) (last_sources k after frames)) (sym on) sum
    ∙ ap (λ b. map (bytes_from b) (last_sources (next (length before) flown) after frames)) (append_assoc before bytes (flown_bytes frames (persisted_by flown persisted)))

pub held_at_end : (queues : List Family) (sizes : List ℕ) (frames : List Flown) (persisted : List (List ℕ)) → AllByRecursion (Flies queues sizes) frames → map length persisted ≡ sizes → persisted_after frames persisted ≡ map (bytes_from (flown_bytes frames persisted)) (last_sources 0 (given persisted) frames)
held_at_end queues sizes frames persisted fly is = subst (λ h. persisted_after frames h ≡ map (bytes_from (flown_bytes frames h)) (last_sources 0 (given persisted) frames)) (start_held persisted) (held_last queues sizes frames fly [] (given persisted) (start_from persisted sizes is))
