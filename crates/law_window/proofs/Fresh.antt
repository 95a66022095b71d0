-- The names under which persisting bytes are left are different, and of earlier frames.
use Rattle.std.proofs.Common.{◌≡◌, ◌≢◌, ℕ, zero, suc, ◌<◌, ◌≤◌, List, [], ◌∷◌, length, map, false, Option, Some, None, refl, sym, ap, ◌∙◌, arith}
use Rattle.std.specs.List.{AllByRecursion}
use Rattle.std.specs.Str.{bytes_eq}
use Rattle.std.specs.Fmt.{decimal}
use Rattle.base.proofs.Lists.{turned}
use Rattle.frame.specs.Clashes.{clash, first_clash}
use Rattle.frame.specs.declared.frame.Resource.{Resource}
use Rattle.law_window.proofs.Clashless.{IsClashless, wholes_apart}
use Rattle.law_window.proofs.Distinct.{IsOf, apart, frames_apart, same_resource}
use Rattle.law_window.proofs.Holders.{AreDifferent, HaveOneLayer, OneLayer}
use Rattle.law_window.proofs.Pairs.{NoPair, no_first}
use Rattle.law_window.specs.NamedJoins.{NamedCarry, named_carries, named_join, named_renewal, whole}
use Rattle.law_window.specs.Names.{numbered_name}
use Rattle.law_window.specs.NamedSources.{Kept, Named, NamedSource, left_names, named_after}
use Rattle.law_window.specs.Together.{Absent}

-- a name of a frame before i
abbrev pub IsBefore : ℕ → List ℕ → Type 0
IsBefore i name = (k : ℕ) × (k < i) × IsOf k name

pub record AreFresh (i : ℕ) (names : List (List ℕ)) : Type 0 where
  pub old : AllByRecursion (IsBefore i) names
  pub apart : NoPair bytes_eq names

own : (i k : ℕ) → IsOf i (numbered_name i k)
own i k = (46 ∷ decimal k, refl)

small_held : (rs : List Resource) (k : ℕ) → OneLayer rs k → k < length rs
small_held [] k persisted = absurd persisted
small_held (r ∷ rs) zero persisted = omega arith
small_held (r ∷ rs) (suc k) persisted = let lt : k < length rs = small_held rs k persisted in omega arith

-- an old name is none of frame i
old_apart : (i k : ℕ) (name : List ℕ) → IsBefore i name → bytes_eq (numbered_name i k) name ≡ false
old_apart i k name old = frames_apart old.0 name (numbered_name i k) old.2 (i, old.1, own i k)

module _ (i : ℕ) (rs : List Resource) (few : length rs ≤ 256) where
  still_old : (holders : List (Option ℕ)) (sources : List NamedSource) → AllByRecursion (IsBefore i) (left_names sources) → AllByRecursion (IsBefore (suc i)) (left_names (named_after i holders sources))
  still_old [] sources old = older sources old
    where
      older : (ss : List NamedSource) → AllByRecursion (IsBefore i) (left_names ss) → AllByRecursion (IsBefore (suc i)) (left_names ss)
      older [] o = tt
      older (Kept bytes ∷ ss) o = older ss o
      older (Named name ∷ ss) o = ((o.0.0, (let lt : o.0.0 < i = o.0.1 in omega arith), o.0.2), older ss o.1)
  still_old (None ∷ holders) [] old = tt
  still_old (Some k ∷ holders) [] old = tt
  still_old (None ∷ holders) (Kept bytes ∷ sources) old = still_old holders sources old
  still_old (None ∷ holders) (Named name ∷ sources) old = ((old.0.0, (let lt : old.0.0 < i = old.0.1 in omega arith), old.0.2), still_old holders sources old.1)
  still_old (Some k ∷ holders) (Kept bytes ∷ sources) old = ((i, omega arith, own i k), still_old holders sources old)
  still_old (Some k ∷ holders) (Named name ∷ sources) old = ((i, omega arith, own i k), still_old holders sources old.1)

  -- an old name that stands no more is none of those after
  name_apart : (name : List ℕ) → IsBefore i name → (holders : List (Option ℕ)) (sources : List NamedSource) → AllByRecursion (λ b. bytes_eq b name ≡ false) (left_names sources) → AllByRecursion (λ b. bytes_eq b name ≡ false) (left_names (named_after i holders sources))
  name_apart name old [] sources all = all
  name_apart name old (None ∷ holders) [] all = tt
  name_apart name old (Some k ∷ holders) [] all = tt
  name_apart name old (None ∷ holders) (Kept bytes ∷ sources) all = name_apart name old holders sources all
  name_apart name old (None ∷ holders) (Named other ∷ sources) all = (all.0, name_apart name old holders sources all.1)
  name_apart name old (Some k ∷ holders) (Kept bytes ∷ sources) all = (old_apart i k name old, name_apart name old holders sources all)
  name_apart name old (Some k ∷ holders) (Named other ∷ sources) all = (old_apart i k name old, name_apart name old holders sources all.1)

  other_own : (k l : ℕ) → OneLayer rs k → OneLayer rs l → k ≢ l → bytes_eq (numbered_name i l) (numbered_name i k) ≡ false
  other_own k l persisted there other = apart (numbered_name i l) (numbered_name i k) (λ e. let lt-k : k < length rs = small_held rs k persisted in let lt-l : l < length rs = small_held rs l there in other (sym (same_resource i l i k (omega arith) (omega arith) e)))

  -- so is none a name of frame i whose resource has no other name
  own_apart : (k : ℕ) → OneLayer rs k → (holders : List (Option ℕ)) (sources : List NamedSource) → HaveOneLayer rs holders → Absent k holders → AllByRecursion (IsBefore i) (left_names sources) → AllByRecursion (λ b. bytes_eq b (numbered_name i k) ≡ false) (left_names (named_after i holders sources))
  own_apart k persisted [] sources there absent old = all_old sources old
    where
      all_old : (ss : List NamedSource) → AllByRecursion (IsBefore i) (left_names ss) → AllByRecursion (λ b. bytes_eq b (numbered_name i k) ≡ false) (left_names ss)
      all_old [] o = tt
      all_old (Kept bytes ∷ ss) o = all_old ss o
      all_old (Named name ∷ ss) o = (turned (numbered_name i k) name (old_apart i k name o.0), all_old ss o.1)
  own_apart k persisted (None ∷ holders) [] there absent old = tt
  own_apart k persisted (Some l ∷ holders) [] there absent old = tt
  own_apart k persisted (None ∷ holders) (Kept bytes ∷ sources) there absent old = own_apart k persisted holders sources there absent old
  own_apart k persisted (None ∷ holders) (Named name ∷ sources) there absent old = (turned (numbered_name i k) name (old_apart i k name old.0), own_apart k persisted holders sources there absent old.1)
  own_apart k persisted (Some l ∷ holders) (Kept bytes ∷ sources) there absent old = (other_own k l persisted there.0 absent.0, own_apart k persisted holders sources there.1 absent.1 old)
  own_apart k persisted (Some l ∷ holders) (Named name ∷ sources) there absent old = (other_own k l persisted there.0 absent.0, own_apart k persisted holders sources there.1 absent.1 old.1)

  still_apart : (holders : List (Option ℕ)) (sources : List NamedSource) → HaveOneLayer rs holders → AreDifferent holders → AllByRecursion (IsBefore i) (left_names sources) → NoPair bytes_eq (left_names sources) → NoPair bytes_eq (left_names (named_after i holders sources))
  still_apart [] sources there different old none = none
  still_apart (None ∷ holders) [] there different old none = tt
  still_apart (Some k ∷ holders) [] there different old none = tt
  still_apart (None ∷ holders) (Kept bytes ∷ sources) there different old none = still_apart holders sources there different old none
  still_apart (None ∷ holders) (Named name ∷ sources) there different old none = (name_apart name old.0 holders sources none.0, still_apart holders sources there different old.1 none.1)
  still_apart (Some k ∷ holders) (Kept bytes ∷ sources) there different old none = (own_apart k there.0 holders sources there.1 different.0 old, still_apart holders sources there.1 different.1 old none)
  still_apart (Some k ∷ holders) (Named name ∷ sources) there different old none = (own_apart k there.0 holders sources there.1 different.0 old.1, still_apart holders sources there.1 different.1 old.1 none.1)

  pub still_fresh : (holders : List (Option ℕ)) (sources : List NamedSource) → HaveOneLayer rs holders → AreDifferent holders → AreFresh i (left_names sources) → AreFresh (suc i) (left_names (named_after i holders sources))
  still_fresh holders sources there different F = record { old = still_old holders sources F.old; apart = still_apart holders sources there different F.old F.apart }

  -- JOIN PASSES

  from_all : (P : List ℕ → Type 0) (holders : List (Option ℕ)) (sources : List NamedSource) → AllByRecursion P (left_names sources) → AllByRecursion P (map (λ c. c.from) (named_carries i rs holders sources))
  from_all P [] sources all = tt
  from_all P (None ∷ holders) [] all = tt
  from_all P (Some k ∷ holders) [] all = tt
  from_all P (None ∷ holders) (Kept bytes ∷ sources) all = from_all P holders sources all
  from_all P (None ∷ holders) (Named name ∷ sources) all = from_all P holders sources all.1
  from_all P (Some k ∷ holders) (Kept bytes ∷ sources) all = from_all P holders sources all
  from_all P (Some k ∷ holders) (Named name ∷ sources) all = (all.0, from_all P holders sources all.1)

  from_apart : (holders : List (Option ℕ)) (sources : List NamedSource) → NoPair bytes_eq (left_names sources) → NoPair bytes_eq (map (λ c. c.from) (named_carries i rs holders sources))
  from_apart [] sources none = tt
  from_apart (None ∷ holders) [] none = tt
  from_apart (Some k ∷ holders) [] none = tt
  from_apart (None ∷ holders) (Kept bytes ∷ sources) none = from_apart holders sources none
  from_apart (None ∷ holders) (Named name ∷ sources) none = from_apart holders sources none.1
  from_apart (Some k ∷ holders) (Kept bytes ∷ sources) none = from_apart holders sources none
  from_apart (Some k ∷ holders) (Named name ∷ sources) none = (from_all (λ b. bytes_eq b name ≡ false) holders sources none.0, from_apart holders sources none.1)

  to_other : (k : ℕ) → OneLayer rs k → (holders : List (Option ℕ)) (sources : List NamedSource) → HaveOneLayer rs holders → Absent k holders → AllByRecursion (λ b. bytes_eq b (numbered_name i k) ≡ false) (map (λ c. c.to) (named_carries i rs holders sources))
  to_other k persisted [] sources there absent = tt
  to_other k persisted (None ∷ holders) [] there absent = tt
  to_other k persisted (Some l ∷ holders) [] there absent = tt
  to_other k persisted (None ∷ holders) (source ∷ sources) there absent = to_other k persisted holders sources there absent
  to_other k persisted (Some l ∷ holders) (Kept bytes ∷ sources) there absent = to_other k persisted holders sources there.1 absent.1
  to_other k persisted (Some l ∷ holders) (Named name ∷ sources) there absent = (other_own k l persisted there.0 absent.0, to_other k persisted holders sources there.1 absent.1)

  to_apart : (holders : List (Option ℕ)) (sources : List NamedSource) → HaveOneLayer rs holders → AreDifferent holders → NoPair bytes_eq (map (λ c. c.to) (named_carries i rs holders sources))
  to_apart [] sources there different = tt
  to_apart (None ∷ holders) [] there different = tt
  to_apart (Some k ∷ holders) [] there different = tt
  to_apart (None ∷ holders) (source ∷ sources) there different = to_apart holders sources there different
  to_apart (Some k ∷ holders) (Kept bytes ∷ sources) there different = to_apart holders sources there.1 different.1
  to_apart (Some k ∷ holders) (Named name ∷ sources) there different = (to_other k there.0 holders sources there.1 different.0, to_apart holders sources there.1 different.1)

  whole_from : (all : List NamedCarry) → map (λ c. whole c.from) all ≡ map whole (map (λ c. c.from) all)
  whole_from [] = refl
  whole_from (c ∷ all) = ap (λ ss. whole c.from ∷ ss) (whole_from all)

  whole_to : (all : List NamedCarry) → map (λ w. w.what) (map named_renewal all) ≡ map whole (map (λ c. c.to) all)
  whole_to [] = refl
  whole_to (c ∷ all) = ap (λ ss. whole c.to ∷ ss) (whole_to all)

  pub join_clashless : (queue : List ℕ) (holders : List (Option ℕ)) (sources : List NamedSource) → HaveOneLayer rs holders → AreDifferent holders → NoPair bytes_eq (left_names sources) → IsClashless (named_join i queue (named_carries i rs holders sources))
  join_clashless queue holders sources there different none =
      let all = named_carries i rs holders sources in
      let froms = map (λ c. c.from) all in
      let tos = map (λ c. c.to) all in
      record {
        reads = ap first_clash (whole_from all) ∙ no_first clash (map whole froms) (wholes_apart froms (from_apart holders sources none));
        writes = ap first_clash (whole_to all) ∙ no_first clash (map whole tos) (wholes_apart tos (to_apart holders sources there different));
      }
