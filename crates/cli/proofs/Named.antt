-- Names that are read one after another.
use Rattle.std.proofs.Common.{Bor, ◌≡◌, ◌+◌, ◌<◌, ◌++◌, ◌&&◌, ℕ, Bool, true, false, List, [], ◌∷◌, length, map, take, get_or, Option, Some, None, refl, sym, ap, ap₂, ◌∙◌, arith}
use Rattle.std.specs.Prelude.{if◌then◌else◌}
use Rattle.std.specs.List.{list_all}
use Rattle.std.proofs.lemmas.List.{get_or-map, length-map, map-append, take_more}
use Rattle.std.proofs.lemmas.List.Folds.{list_all-append, list_all_at}
use Rattle.base.specs.Names.{is_name, name_of}
use Rattle.cli.specs.Persist.{all_named}

abbrev texts : List (Bor (List ℕ)) → List (List ℕ)
texts entries = map (λ (part : Bor (List ℕ)). part.now) entries

given : (named : Bool) (text name : List ℕ) → Some name ≡ (if named then Some text else None) → (named ≡ true) × (name ≡ text)
given true text name e = (refl, cc)
given false text name e = absurd cc

not_given : (named : Bool) (text : List ℕ) → ◌≡◌ {A = Option (List ℕ)} None (if named then Some text else None) → named ≡ false
not_given true text e = absurd cc
not_given false text e = refl

module _ (entries : List (Bor (List ℕ))) (i : ℕ) (d : Bor (List ℕ)) (text : List ℕ) (lt : i < length entries) (is : text ≡ (get_or entries i d).now) where
  one_more : texts (take (i + 1) entries) ≡ texts (take i entries) ++ text ∷ []
  one_more =
      ap texts (take_more entries i d lt)
      ∙ map-append (λ (part : Bor (List ℕ)). part.now) (take i entries) (get_or entries i d ∷ [])
      ∙ ap (λ (t : List ℕ). texts (take i entries) ++ t ∷ []) (sym is)

  pub name_more : (name : List ℕ) (names names' : List (List ℕ)) → Some name ≡ name_of text → names' ≡ names ++ name ∷ [] → names ≡ texts (take i entries) → names' ≡ texts (take (i + 1) entries)
  name_more name names names' reads grows so_far =
      grows ∙ ap₂ (λ (ns : List (List ℕ)) (n : List ℕ). ns ++ n ∷ []) so_far (given (is_name text) text name reads).1 ∙ sym one_more

  pub each_more : (name : List ℕ) → Some name ≡ name_of text → list_all is_name (texts (take i entries)) ≡ true → list_all is_name (texts (take (i + 1) entries)) ≡ true
  each_more name reads each =
      ap (list_all is_name) one_more
      ∙ list_all-append is_name (texts (take i entries)) (text ∷ [])
      ∙ ap₂ (λ (a b : Bool). a && (b && true)) each (given (is_name text) text name reads).0

  pub no_name : ◌≡◌ {A = Option (List ℕ)} None (name_of text) → ◌≡◌ {A = Option (List (List ℕ))} None (all_named (texts entries))
  no_name none =
      let here : get_or (texts entries) i [] ≡ text = get_or-map (λ (part : Bor (List ℕ)). part.now) entries i d [] lt ∙ sym is in
      let fails : list_all is_name (texts entries) ≡ false = list_all_at is_name (texts entries) i [] within (ap is_name here ∙ not_given (is_name text) text none) in
      ap (λ (all : Bool). if all then Some (texts entries) else None) (sym fails)
    where
      within : i < length (texts entries)
      within = let many : length (texts entries) ≡ length entries = length-map entries (λ (part : Bor (List ℕ)). part.now) in omega (arith, many, lt)
