-- A declared window within the limits has no fault, and means what its frames mean.
use Rattle.std.proofs.Common.{◌≡◌, ℕ, suc, ◌<◌, List, [], ◌∷◌, length, map, not, true, None, refl, sym, ap, ap₂, subst, arith}
use Rattle.std.specs.List.{AllByRecursion, position}
use Rattle.std.specs.Option.{option_map, option_or}
use Rattle.std.proofs.lemmas.List.{length-map}
use Rattle.base.proofs.Absence.{all_pass, map_none, or_first, or_second}
use Rattle.base.specs.Broken.{of_rule}
use Rattle.base.specs.Walks.{first_in}
use Rattle.frame.proofs.Small.{few_resources, limits_none, passes_few, repeated_none, some_queue, unknown_none}
use Rattle.frame.proofs.Sufficient.{no_fault}
use Rattle.frame.specs.Clashes.{clash, first_clash}
use Rattle.frame.specs.FirstFault.{first_fault, name_broken}
use Rattle.frame.specs.Valid.{IsValid}
use Rattle.frame.specs.Limits.{limit_broken}
use Rattle.frame.specs.Numbered.{numbered}
use Rattle.frame.specs.Repeats.{first_repeat, repeated, repeats_in}
use Rattle.frame.specs.Units.{numbering}
use Rattle.frame.specs.Unknowns.{is_known, unknown_in}
use Rattle.frame.specs.declared.frame.Frame.{Frame}
use Rattle.frame.specs.declared.frame.QueueDecl.{QueueDecl}
use Rattle.frame.specs.declared.location.Location.TheVariants as at
use Rattle.frame.specs.declared.rule.Rule.TheVariants as rules
use Rattle.law_window.proofs.Clashless.{all_clashless}
use Rattle.law_window.proofs.Counts.{small_by_limits}
use Rattle.law_window.proofs.Exported.{IsExporting, exports_apart, own_apart}
use Rattle.law_window.proofs.Fresh.{AreFresh, still_fresh}
use Rattle.law_window.proofs.Holders.{IsUsable, all_fly, all_usable}
use Rattle.law_window.proofs.KnownPass.{IsKnownPass, all_known}
use Rattle.law_window.proofs.Pairs.{no_first}
use Rattle.law_window.proofs.PassNames.{IsNamed, passes_repeat_nothing}
use Rattle.law_window.proofs.WindowNumbers.{nothing_unknown, once, window_numbered}
use Rattle.law_window.specs.Declared.{Declared, flown_of}
use Rattle.law_window.specs.Exports.{declared_exports}
use Rattle.law_window.specs.NamedSources.{NamedSource, kept, last_named, left_names, named_after}
use Rattle.law_window.specs.NamedTogether.{FliesDeclared, FlyDeclared}
use Rattle.law_window.specs.WindowFrame.{first_name, window_frame}
use Rattle.law_window.proofs.Each.{all_of, each}
use Rattle.law_window.proofs.Together.{together_good, together_means}
use Rattle.law_window.specs.Means.{MeansTheSame}
use Rattle.law_window.specs.Small.{IsSmall}
use Rattle.law_window.specs.Together.{Flies, FlyTogether}
use Rattle.law_window.specs.Window.{window}

-- WHAT A FRAME GIVES WHOSE NAMES BREAK NO RULE

module _ (frame : Frame) (named : name_broken frame ≡ None) where
  after_queues : option_or (option_map (λ i. at.Resource i) (first_repeat (map (λ r. r.name) frame.resources))) (option_or (first_in (repeats_in (map (λ p. p.name) frame.passes)) 0 frame.passes) (option_map (λ i. at.Export i) (first_clash frame.exports))) ≡ None
  after_queues = or_second (option_map (λ i. at.Queue i) (first_repeat (map (λ q. q.name) frame.queues))) (option_or (option_map (λ i. at.Resource i) (first_repeat (map (λ r. r.name) frame.resources))) (option_or (first_in (repeats_in (map (λ p. p.name) frame.passes)) 0 frame.passes) (option_map (λ i. at.Export i) (first_clash frame.exports)))) (repeated_none frame named)

  queues_apart : first_repeat (map (λ q. q.name) frame.queues) ≡ None
  queues_apart = map_none (λ i. at.Queue i) (first_repeat (map (λ q. q.name) frame.queues)) (or_first (option_map (λ i. at.Queue i) (first_repeat (map (λ q. q.name) frame.queues))) (option_or (option_map (λ i. at.Resource i) (first_repeat (map (λ r. r.name) frame.resources))) (option_or (first_in (repeats_in (map (λ p. p.name) frame.passes)) 0 frame.passes) (option_map (λ i. at.Export i) (first_clash frame.exports)))) (repeated_none frame named))

  after_resources : option_or (first_in (repeats_in (map (λ p. p.name) frame.passes)) 0 frame.passes) (option_map (λ i. at.Export i) (first_clash frame.exports)) ≡ None
  after_resources = or_second (option_map (λ i. at.Resource i) (first_repeat (map (λ r. r.name) frame.resources))) (option_or (first_in (repeats_in (map (λ p. p.name) frame.passes)) 0 frame.passes) (option_map (λ i. at.Export i) (first_clash frame.exports))) after_queues

  passes_repeat : first_in (repeats_in (map (λ p. p.name) frame.passes)) 0 frame.passes ≡ None
  passes_repeat = or_first (first_in (repeats_in (map (λ p. p.name) frame.passes)) 0 frame.passes) (option_map (λ i. at.Export i) (first_clash frame.exports)) after_resources

  exports_clash : first_clash frame.exports ≡ None
  exports_clash = map_none (λ i. at.Export i) (first_clash frame.exports) (or_second (first_in (repeats_in (map (λ p. p.name) frame.passes)) 0 frame.passes) (option_map (λ i. at.Export i) (first_clash frame.exports)) after_resources)

  exports_known : AllByRecursion (λ spot. is_known (numbering frame) spot ≡ true) frame.exports
  exports_known = each (λ spot. is_known (numbering frame) spot ≡ true) frame.exports (all_pass (is_known (numbering frame)) frame.exports (map_none (λ i. at.Export i) (position (λ spot. not (is_known (numbering frame) spot)) frame.exports) (or_second (first_in (unknown_in frame (numbering frame)) 0 frame.passes) (option_map (λ i. at.Export i) (position (λ spot. not (is_known (numbering frame) spot)) frame.exports)) (unknown_none frame named))))

  passes_known : AllByRecursion (IsKnownPass frame (numbering frame)) frame.passes
  passes_known = all_known frame (numbering frame) 0 frame.passes (or_first (first_in (unknown_in frame (numbering frame)) 0 frame.passes) (option_map (λ i. at.Export i) (position (λ spot. not (is_known (numbering frame) spot)) frame.exports)) (unknown_none frame named))

all_named : (queues : List QueueDecl) (ds : List Declared) → AllByRecursion (IsUsable queues) ds → AllByRecursion IsNamed ds
all_named queues [] usable = tt
all_named queues (d ∷ ds) usable =
    let f = d.frame in
    let U = usable.0 in (
      record {
        few_resources = few_resources f U.named;
        few_passes = passes_few f (limits_none f U.named);
        clashless = all_clashless (map (λ p. p.name) f.passes) 0 f.passes (passes_repeat f U.named);
        known = passes_known f U.named;
        persisted = U.persisted;
        different = U.different;
      },
      all_named queues ds usable.1,
    )

all_exporting : (queues : List QueueDecl) (ds : List Declared) → AllByRecursion (IsUsable queues) ds → AllByRecursion IsExporting ds
all_exporting queues [] usable = tt
all_exporting queues (d ∷ ds) usable =
    let f = d.frame in
    let U = usable.0 in (
      record { few = few_resources f U.named; known = exports_known f U.named; clashless = exports_clash f U.named },
      all_exporting queues ds usable.1,
    )

no_names : (persisted : List (List ℕ)) → left_names (kept persisted) ≡ []
no_names [] = refl
no_names (bytes ∷ persisted) = no_names persisted

start_fresh : (persisted : List (List ℕ)) → AreFresh 0 (left_names (kept persisted))
start_fresh persisted = subst (AreFresh 0) (sym (no_names persisted)) (record { old = tt; apart = tt })

last_fresh : (i : ℕ) (sources : List NamedSource) (ds : List Declared) → AllByRecursion IsNamed ds → AreFresh i (left_names sources) → (j : ℕ) × AreFresh j (left_names (last_named i sources ds))
last_fresh i sources [] named fresh = (i, fresh)
last_fresh i sources (d ∷ ds) named fresh = last_fresh (suc i) (named_after i d.holders sources) ds named.1 (still_fresh i d.frame.resources named.0.few_resources d.holders sources named.0.persisted named.0.different fresh)

-- QUEUES

queue_there : (queues : List QueueDecl) (ds : List Declared) → 0 < length ds → AllByRecursion (IsUsable queues) ds → 0 < length queues
queue_there queues [] some usable = absurd (omega (arith, some))
queue_there queues (d ∷ ds) some usable = subst (λ q. 0 < length q) usable.0.same (some_queue d.frame usable.0.named)

queues_differ : (queues : List QueueDecl) (ds : List Declared) → 0 < length ds → AllByRecursion (IsUsable queues) ds → first_repeat (map (λ q. q.name) queues) ≡ None
queues_differ queues [] some usable = absurd (omega (arith, some))
queues_differ queues (d ∷ ds) some usable = subst (λ qs. first_repeat (map (λ q. q.name) qs) ≡ None) usable.0.same (queues_apart d.frame usable.0.named)

-- THE WINDOW

module _ (queues : List QueueDecl) (sizes : List ℕ) (ds : List Declared) (persisted : List (List ℕ)) (F : FlyDeclared queues sizes ds persisted) where
  abbrev Wf : Frame
  Wf = window_frame queues ds persisted

  declared : AllByRecursion (FliesDeclared queues sizes) ds
  declared = each (FliesDeclared queues sizes) ds F.each

  usable : AllByRecursion (IsUsable queues) ds
  usable = all_usable queues sizes ds declared

  some : 0 < length queues
  some = queue_there queues ds F.some usable

  pub declared_numbered : numbered Wf ≡ window (map (λ q. q.family) queues) (map flown_of ds) persisted
  declared_numbered = window_numbered queues ds persisted usable some

  pub declared_together : FlyTogether (map (λ q. q.family) queues) sizes (map flown_of ds) persisted
  declared_together = record {
    some = subst (λ n. 0 < n) (sym (length-map ds flown_of)) F.some;
    each = all_of (Flies (map (λ q. q.family) queues) sizes) (map flown_of ds) (all_fly queues sizes ds declared);
    sized = F.sized;
  }

  nothing_repeated : repeated Wf ≡ None
  nothing_repeated =
      let named = all_named queues ds usable in
      let last = last_named 0 (kept persisted) ds in
      let exports = exports_apart (declared_exports 0 ds) (left_names last) (own_apart 0 ds (all_exporting queues ds usable)) (last_fresh 0 (kept persisted) ds named (start_fresh persisted)).1.apart in
      ap₂ option_or (ap (option_map (λ i. at.Queue i)) (queues_differ queues ds F.some usable))
      (ap₂ option_or (ap (option_map (λ i. at.Resource i)) (once queues ds persisted usable some))
      (ap₂ option_or (passes_repeat_nothing (first_name queues) 0 (kept persisted) ds named (start_fresh persisted)) (ap (option_map (λ i. at.Export i)) (no_first clash Wf.exports exports))))

  module _ (small : limit_broken Wf ≡ None) where
    still_named : name_broken Wf ≡ None
    still_named = ap₂ option_or small (ap₂ option_or (ap (option_map (of_rule rules.Repeated)) nothing_repeated) (ap (option_map (of_rule rules.Unknown)) (nothing_unknown queues ds persisted usable some)))

    pub is_small : IsSmall (window (map (λ q. q.family) queues) (map flown_of ds) persisted)
    is_small = subst IsSmall declared_numbered (small_by_limits Wf small)

    pub declared_good : first_fault Wf ≡ None
    declared_good = no_fault Wf still_named (subst IsValid (sym declared_numbered) (together_good (map (λ q. q.family) queues) sizes (map flown_of ds) persisted declared_together is_small))

    pub declared_means : MeansTheSame (map (λ q. q.family) queues) (map flown_of ds) persisted
    declared_means = together_means (map (λ q. q.family) queues) sizes (map flown_of ds) persisted declared_together is_small
