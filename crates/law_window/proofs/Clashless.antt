-- Renamed spots clash only where the spots do.
use Rattle.std.proofs.Common.{◌≡◌, ℕ, zero, suc, ◌^◌, ◌<◌, ◌≤◌, ◌&&◌, List, [], ◌∷◌, length, map, get_or, Bool, true, false, Option, Some, None, unwrap_or, refl, sym, ap, ap₂, subst, ◌∙◌, arith}
use Rattle.std.specs.Prelude.{option_and_then, slice_get}
use Rattle.std.specs.List.{AllByRecursion, position}
use Rattle.std.specs.Option.{option_map, option_map_or, option_or}
use Rattle.std.specs.Str.{bytes_eq}
use Rattle.std.proofs.lemmas.List.{get_or-map, length-map}
use Rattle.std.proofs.lemmas.List.Quantifiers.{position-Some}
use Rattle.std.proofs.lemmas.Slice.Eq.{bytes_eq-Decides}
use Rattle.base.proofs.Absence.{map_none, or_first, or_second}
use Rattle.base.specs.Walks.{first_in}
use Rattle.frame.specs.Clashes.{clash, first_clash, layers_clash}
use Rattle.frame.specs.Repeats.{repeats_at, repeats_in}
use Rattle.frame.specs.Units.{numbering, stretches}
use Rattle.frame.specs.Unknowns.{has_layer, is_known}
use Rattle.frame.specs.declared.frame.Frame.{Frame}
use Rattle.frame.specs.declared.frame.Pass.{Pass}
use Rattle.frame.specs.declared.frame.Spot.{Spot}
use Rattle.frame.specs.declared.frame.Write.{Write}
use Rattle.frame.specs.declared.location.Location.TheVariants as at
use Rattle.frame.proofs.Sufficient.{none_in}
use Rattle.law_window.proofs.KnownPass.{IsKnownPass}
use Rattle.law_window.proofs.Distinct.{same_resource}
use Rattle.law_window.proofs.Pairs.{NoPair, from_none, no_first, no_pair_mapped, none_at}
use Rattle.law_window.specs.NamedJoins.{whole}
use Rattle.law_window.specs.Names.{numbered_name, rename_in}
use Rattle.law_window.specs.Passes.{renamed_pass, renamed_spot, renamed_write}
use Rattle.law_window.proofs.Each.{each}

-- neither reads nor writes name a unit twice
pub record IsClashless (pass : Pass) : Type 0 where
  pub reads : first_clash pass.reads ≡ None
  pub writes : first_clash (map (λ w. w.what) pass.writes) ≡ None

-- passes of a frame that repeats nothing
pub all_clashless : (names : List (List ℕ)) (p : ℕ) (passes : List Pass) → first_in (repeats_in names) p passes ≡ None → AllByRecursion IsClashless passes
all_clashless names p [] none = tt
all_clashless names p (pass ∷ passes) none =
    let here = or_first (repeats_in names p pass) (first_in (repeats_in names) (suc p) passes) none in
    let named = option_map (λ i. at.Pass i) (repeats_at names p pass.name) in
    let reads = option_map (λ k. at.Read p k) (first_clash pass.reads) in
    let writes = option_map (λ k. at.Write p k) (first_clash (map (λ w. w.what) pass.writes)) in
    let rest = or_second named (option_or reads writes) here in (
      record { reads = map_none (λ k. at.Read p k) (first_clash pass.reads) (or_first reads writes rest); writes = map_none (λ k. at.Write p k) (first_clash (map (λ w. w.what) pass.writes)) (or_second reads writes rest) },
      all_clashless names (suc p) passes (or_second (repeats_in names p pass) (first_in (repeats_in names) (suc p) passes) none),
    )

clashless_at : (passes : List Pass) → AllByRecursion IsClashless passes → (k : ℕ) (d : Pass) → k < length passes → IsClashless (get_or passes k d)
clashless_at [] all k d lt = absurd (omega arith)
clashless_at (pass ∷ passes) all zero d lt = all.0
clashless_at (pass ∷ passes) all (suc k) d lt = clashless_at passes all.1 k d (omega arith)

-- passes of different names that have no clash repeat nothing
pub none_repeated : (passes : List Pass) → NoPair bytes_eq (map (λ p. p.name) passes) → AllByRecursion IsClashless passes → first_in (repeats_in (map (λ p. p.name) passes)) 0 passes ≡ None
none_repeated passes apart all = none_in (repeats_in (map (λ p. p.name) passes)) passes (λ k d lt.
    let names = map (λ p. p.name) passes in
    let C = clashless_at passes all k d lt in
    let name : get_or names k d.name ≡ (get_or passes k d).name = get_or-map (λ p. p.name) passes k d d.name lt in
    let fresh : repeats_at names k (get_or passes k d).name ≡ None = subst (λ n. repeats_at names k n ≡ None) name (none_at bytes_eq names apart k d.name (subst (λ m. k < m) (sym (length-map passes (λ p. p.name))) lt)) in
    ap₂ (λ a b. option_or (option_map (λ i. at.Pass i) a) (option_or (option_map (λ j. at.Read k j) b) (option_map (λ j. at.Write k j) (first_clash (map (λ w. w.what) (get_or passes k d).writes))))) fresh C.reads
    ∙ ap (option_map (λ j. at.Write k j)) C.writes)

-- RENAMED SPOTS

module _ (i : ℕ) (frame : Frame) (few : length frame.resources ≤ 256) where
  abbrev names : List (List ℕ)
  names = map (λ r. r.name) frame.resources

  abbrev rename : List ℕ → List ℕ
  rename = rename_in i frame

  abbrev Known : Spot → Type 0
  Known spot = is_known (numbering frame) spot ≡ true

  -- a known name has its place
  place : (spot : Spot) → Known spot → (k : ℕ) × (position (bytes_eq spot.name) names ≡ Some k)
  place spot known = by_place (position (bytes_eq spot.name) names) refl known
    where
      by_place : (o : Option ℕ) → position (bytes_eq spot.name) names ≡ o → option_map_or (has_layer spot.layer) (option_and_then (slice_get (stretches 0 frame.resources)) o) false ≡ true → (k : ℕ) × (position (bytes_eq spot.name) names ≡ Some k)
      by_place None is e = absurd cc
      by_place (Some k) is e = (k, is)

  small : (k : ℕ) (name : List ℕ) → position (bytes_eq name) names ≡ Some k → k < 2 ^ 64
  small k name is = let lt : k < length names = (position-Some (bytes_eq name) names k [] is).0 in let size : length names ≡ length frame.resources = length-map frame.resources (λ r. r.name) in omega arith

  stands : (k : ℕ) (name : List ℕ) → position (bytes_eq name) names ≡ Some k → name ≡ get_or names k []
  stands k name is = (bytes_eq-Decides name (get_or names k [])).0 (position-Some (bytes_eq name) names k [] is).1

  new_name : (k : ℕ) (name : List ℕ) → position (bytes_eq name) names ≡ Some k → rename name ≡ numbered_name i k
  new_name k name is = ap (λ o. numbered_name i (unwrap_or o 0)) is

  -- equal new names are of equal names
  same_old : (a b : Spot) → Known a → Known b → rename b.name ≡ rename a.name → b.name ≡ a.name
  same_old a b known-a known-b e =
      let A = place a known-a in
      let B = place b known-b in
      let same : B.0 ≡ A.0 = same_resource i B.0 i A.0 (small B.0 b.name B.1) (small A.0 a.name A.1) (sym (new_name B.0 b.name B.1) ∙ e ∙ new_name A.0 a.name A.1) in
      stands B.0 b.name B.1 ∙ ap (λ k. get_or names k []) same ∙ sym (stands A.0 a.name A.1)

  clash_moves : (a b : Spot) → Known a → Known b → clash b a ≡ false → clash (renamed_spot rename b) (renamed_spot rename a) ≡ false
  clash_moves a b known-a known-b e = by_test (bytes_eq (rename b.name) (rename a.name)) refl
    where
      by_test : (c : Bool) → bytes_eq (rename b.name) (rename a.name) ≡ c → clash (renamed_spot rename b) (renamed_spot rename a) ≡ false
      by_test false is = ap (λ c. c && layers_clash b.layer a.layer) is
      by_test true is =
          let same : bytes_eq b.name a.name ≡ true = (bytes_eq-Decides b.name a.name).1 (same_old a b known-a known-b ((bytes_eq-Decides (rename b.name) (rename a.name)).0 is)) in
          ap (λ c. c && layers_clash b.layer a.layer) (is ∙ sym same) ∙ e

  pub no_clash : (spots : List Spot) → AllByRecursion Known spots → first_clash spots ≡ None → NoPair clash (map (renamed_spot rename) spots)
  no_clash spots known none = no_pair_mapped clash clash (renamed_spot rename) Known clash_moves spots known (from_none clash spots none)

  what_renamed : (writes : List (Write Spot)) → map (λ w. w.what) (map (renamed_write rename) writes) ≡ map (renamed_spot rename) (map (λ w. w.what) writes)
  what_renamed [] = refl
  what_renamed (w ∷ writes) = ap (λ ss. renamed_spot rename w.what ∷ ss) (what_renamed writes)

  all_known : (writes : List (Write Spot)) → AllByRecursion (λ w. Known w.what) writes → AllByRecursion Known (map (λ w. w.what) writes)
  all_known [] known = tt
  all_known (w ∷ writes) known = (known.0, all_known writes known.1)

  pub clashless_renamed : (name : List ℕ) (pass : Pass) → IsKnownPass frame (numbering frame) pass → IsClashless pass → IsClashless (renamed_pass rename name pass)
  clashless_renamed name pass known C = record {
    reads = no_first clash (map (renamed_spot rename) pass.reads) (no_clash pass.reads (each Known pass.reads known.reads) C.reads);
    writes = ap first_clash (what_renamed pass.writes) ∙ no_first clash (map (renamed_spot rename) (map (λ w. w.what) pass.writes)) (no_clash (map (λ w. w.what) pass.writes) (all_known pass.writes (each (λ w. Known w.what) pass.writes known.writes)) C.writes);
  }

-- spots of different names have no clash
pub wholes_apart : (names : List (List ℕ)) → NoPair bytes_eq names → NoPair clash (map whole names)
wholes_apart names apart = no_pair_mapped bytes_eq clash whole (λ name. name ≡ name) (λ a b x y e. ap (λ c. c && true) e) names (trivial names) apart
  where
    trivial : (list : List (List ℕ)) → AllByRecursion (λ name. name ≡ name) list
    trivial [] = tt
    trivial (name ∷ list) = (refl, trivial list)
