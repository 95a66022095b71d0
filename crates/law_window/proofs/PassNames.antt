-- The passes of a declared window repeat nothing.
use Rattle.std.proofs.Common.{◌≡◌, ℕ, suc, ◌<◌, ◌≤◌, ◌++◌, List, [], ◌∷◌, length, map, codes, None, refl, sym, ap, subst, ◌∙◌, arith}
use Rattle.std.specs.List.{AllByRecursion}
use Rattle.std.specs.Str.{bytes_eq}
use Rattle.std.proofs.lemmas.List.{map-append}
use Rattle.base.proofs.Lists.{all_append}
use Rattle.base.specs.Walks.{first_in}
use Rattle.frame.specs.Repeats.{repeats_in}
use Rattle.frame.specs.Units.{numbering}
use Rattle.frame.specs.declared.frame.Frame.{Frame}
use Rattle.frame.specs.declared.frame.Pass.{Pass}
use Rattle.law_window.proofs.KnownPass.{IsKnownPass}
use Rattle.law_window.proofs.Clashless.{IsClashless, clashless_renamed, none_repeated}
use Rattle.law_window.proofs.Distinct.{IsAfter, IsOf, after_all, frame_names, join_apart, own_distinct, own_of}
use Rattle.law_window.proofs.Fresh.{AreFresh, join_clashless, still_fresh}
use Rattle.law_window.proofs.Holders.{AreDifferent, HaveOneLayer}
use Rattle.law_window.proofs.OwnNames.{own_names}
use Rattle.law_window.proofs.Pairs.{NoPair}
use Rattle.law_window.specs.Declared.{Declared}
use Rattle.law_window.specs.NamedJoins.{NamedCarry, named_carries, named_join, named_joins}
use Rattle.law_window.specs.Names.{numbered_name, rename_in}
use Rattle.law_window.specs.Passes.{renamed_passes}
use Rattle.law_window.specs.NamedSources.{NamedSource, left_names, named_after}
use Rattle.law_window.specs.WindowFrame.{declared_passes, named_passes_in}

-- a frame whose passes repeat nothing, and of which nothing is unknown
pub record IsNamed (d : Declared) : Type 0 where
  pub few_resources : length d.frame.resources ≤ 256
  pub few_passes : length d.frame.passes ≤ 256
  pub clashless : AllByRecursion IsClashless d.frame.passes
  pub known : AllByRecursion (IsKnownPass d.frame (numbering d.frame)) d.frame.passes
  pub persisted : HaveOneLayer d.frame.resources d.holders
  pub different : AreDifferent d.holders

-- NAMES OF PASSES

renamed_names : (i k : ℕ) (rename : List ℕ → List ℕ) (passes : List Pass) → map (λ p. p.name) (renamed_passes i k rename passes) ≡ own_names i k (length passes)
renamed_names i k rename [] = refl
renamed_names i k rename (pass ∷ passes) = ap (λ ns. numbered_name i k ∷ ns) (renamed_names i (suc k) rename passes)

module _ (queue : List ℕ) where
  abbrev names_in : List Pass → List (List ℕ)
  names_in passes = map (λ p. p.name) passes

  part_names : (i : ℕ) (sources : List NamedSource) (d : Declared) → names_in (named_passes_in queue i sources d) ≡ names_in (named_joins i queue (named_carries i d.frame.resources d.holders sources)) ++ own_names i 0 (length d.frame.passes)
  part_names i sources d = map-append (λ p. p.name) (named_joins i queue (named_carries i d.frame.resources d.holders sources)) (renamed_passes i 0 (rename_in i d.frame) d.frame.passes) ∙ ap (λ ns. names_in (named_joins i queue (named_carries i d.frame.resources d.holders sources)) ++ ns) (renamed_names i 0 (rename_in i d.frame) d.frame.passes)

  joined_of : (i count : ℕ) (all : List NamedCarry) → AllByRecursion (IsOf i) (names_in (named_joins i queue all) ++ own_names i 0 count)
  joined_of i count [] = own_of i 0 count
  joined_of i count (carry ∷ all) = ((46 ∷ codes "join", refl), own_of i 0 count)

  joined_apart : (i count : ℕ) (all : List NamedCarry) → count ≤ 256 → NoPair bytes_eq (names_in (named_joins i queue all) ++ own_names i 0 count)
  joined_apart i count [] few = own_distinct i 0 count (omega arith)
  joined_apart i count (carry ∷ all) few = (join_apart i 0 count (omega arith), own_distinct i 0 count (omega arith))

  names_after : (j i : ℕ) (sources : List NamedSource) (ds : List Declared) → j < i → AllByRecursion (IsAfter j) (names_in (declared_passes queue i sources ds))
  names_after j i sources [] less = tt
  names_after j i sources (d ∷ ds) less =
      let rest = declared_passes queue (suc i) (named_after i d.holders sources) ds in
      let own = names_in (named_joins i queue (named_carries i d.frame.resources d.holders sources)) ++ own_names i 0 (length d.frame.passes) in
      subst (AllByRecursion (IsAfter j)) (sym (map-append (λ p. p.name) (named_passes_in queue i sources d) rest ∙ ap (λ ns. ns ++ names_in rest) (part_names i sources d)))
      (all_append (IsAfter j) own (names_in rest) (after_all j i own less (joined_of i (length d.frame.passes) (named_carries i d.frame.resources d.holders sources))) (names_after j (suc i) (named_after i d.holders sources) ds (omega arith)))

  names_apart : (i : ℕ) (sources : List NamedSource) (ds : List Declared) → AllByRecursion IsNamed ds → NoPair bytes_eq (names_in (declared_passes queue i sources ds))
  names_apart i sources [] named = tt
  names_apart i sources (d ∷ ds) named =
      let rest = declared_passes queue (suc i) (named_after i d.holders sources) ds in
      let all = named_carries i d.frame.resources d.holders sources in
      let count = length d.frame.passes in
      let own = names_in (named_joins i queue all) ++ own_names i 0 count in
      subst (NoPair bytes_eq) (sym (map-append (λ p. p.name) (named_passes_in queue i sources d) rest ∙ ap (λ ns. ns ++ names_in rest) (part_names i sources d)))
      (frame_names i own (names_in rest) (joined_of i count all) (joined_apart i count all named.0.few_passes) (names_after i (suc i) (named_after i d.holders sources) ds (omega arith)) (names_apart (suc i) (named_after i d.holders sources) ds named.1))

  -- READS AND WRITES

  renamed_clashless : (i k : ℕ) (frame : Frame) (passes : List Pass) → length frame.resources ≤ 256 → AllByRecursion (IsKnownPass frame (numbering frame)) passes → AllByRecursion IsClashless passes → AllByRecursion IsClashless (renamed_passes i k (rename_in i frame) passes)
  renamed_clashless i k frame [] few known all = tt
  renamed_clashless i k frame (pass ∷ passes) few known all = (clashless_renamed i frame few (numbered_name i k) pass known.0 all.0, renamed_clashless i (suc k) frame passes few known.1 all.1)

  joins_clashless : (i : ℕ) (all : List NamedCarry) → IsClashless (named_join i queue all) → AllByRecursion IsClashless (named_joins i queue all)
  joins_clashless i [] one = tt
  joins_clashless i (carry ∷ all) one = (one, tt)

  all_clashless : (i : ℕ) (sources : List NamedSource) (ds : List Declared) → AllByRecursion IsNamed ds → AreFresh i (left_names sources) → AllByRecursion IsClashless (declared_passes queue i sources ds)
  all_clashless i sources [] named fresh = tt
  all_clashless i sources (d ∷ ds) named fresh =
      let D = named.0 in
      let rs = d.frame.resources in
      let cs = named_carries i rs d.holders sources in
      let renamed = renamed_passes i 0 (rename_in i d.frame) d.frame.passes in
      all_append IsClashless (named_joins i queue cs ++ renamed) (declared_passes queue (suc i) (named_after i d.holders sources) ds)
      (all_append IsClashless (named_joins i queue cs) renamed (joins_clashless i cs (join_clashless i rs D.few_resources queue d.holders sources D.persisted D.different fresh.apart)) (renamed_clashless i 0 d.frame d.frame.passes D.few_resources D.known D.clashless))
      (all_clashless (suc i) (named_after i d.holders sources) ds named.1 (still_fresh i rs D.few_resources d.holders sources D.persisted D.different fresh))

  pub passes_repeat_nothing : (i : ℕ) (sources : List NamedSource) (ds : List Declared) → AllByRecursion IsNamed ds → AreFresh i (left_names sources) → first_in (repeats_in (map (λ p. p.name) (declared_passes queue i sources ds))) 0 (declared_passes queue i sources ds) ≡ None
  passes_repeat_nothing i sources ds named fresh = none_repeated (declared_passes queue i sources ds) (names_apart i sources ds named) (all_clashless i sources ds named fresh)
