-- Frames that nothing keeps from flying can be compiled together.
use Rattle.std.proofs.Common.{◌≡◌, ℕ, zero, suc, ◌+◌, ◌-◌, ◌*◌, ◌<◌, ◌≤◌, List, [], ◌∷◌, length, map, get_or, slice_get, take, drop, min, true, false, ◌==◌, Option, Some, None, is_some, refl, sym, ap, ap₂, subst, ◌∙◌, add-one, arith}
use Rattle.std.specs.Prelude.{IfSome, unwrap_or}
use Rattle.std.specs.List.{All}
use Rattle.std.specs.Option.{option_map, option_map_or, option_or}
use Rattle.std.specs.Str.{bytes_eq}
use Rattle.std.proofs.lemmas.Bool.{and_parts, eqb-true}
use Rattle.std.proofs.lemmas.List.{length-drop, length-map, length-take}
use Rattle.std.proofs.Math.Seq.{take-suc}
use Rattle.std.proofs.lemmas.List.Elements.{All-append, All-cons, All-drop, All-nil, All-take}
use Rattle.std.proofs.lemmas.Option.{get_or_from_slice_get, slice_get_within}
use Rattle.std.proofs.lemmas.Slice.Eq.{bytes_eq-Decides}
use Rattle.base.proofs.Absence.{has_it, none_from, or_first, or_second, map_none}
use Rattle.base.specs.Shapes.{bytes_of}
use Rattle.base.specs.declared.shape.Family.{Family}
use Rattle.base.specs.declared.shape.Family.TheVariants.{Graphics, Compute, Transfer}
use Rattle.flight.proofs.Alike.{windows_alike}
use Rattle.flight.proofs.Counted.{declared_in_window}
use Rattle.flight.proofs.Limited.{none_broken}
use Rattle.flight.specs.Flights.{ArePersisted, all_declared, persisted_bytes, queues_of, size_in, sizes_of, window_at, window_count}
use Rattle.flight.specs.Fly.{Fly}
use Rattle.flight.specs.Refusals.{first_lost, first_too_large, is_persisted, limit_in, lost_at, lost_in, other_at, other_queues, persists, same_family, same_queue, same_queues, too_large, unpersisted}
use Rattle.flight.specs.declared.fault.FlightFault.TheVariants.{Persist, Queues, Window}
use Rattle.frame.specs.FirstFault.{first_fault}
use Rattle.frame.specs.Limits.{limit_broken}
use Rattle.frame.specs.declared.frame.Frame.{Frame}
use Rattle.frame.specs.declared.frame.QueueDecl.{QueueDecl}
use Rattle.frame.specs.declared.frame.Resource.{Resource}
use Rattle.law_window.proofs.Faultless.{declared_good}
use Rattle.law_window.proofs.Persisting.{held_by_names}
use Rattle.law_window.specs.Declared.{Declared, declared_in, holder_in}
use Rattle.law_window.specs.NamedTogether.{AreImports, FliesDeclared, FlyDeclared, IsImport}
use Rattle.law_window.specs.WindowFrame.{window_frame}
use Rattle.law_window.specs.InTurn.{frames_in}

-- EACH FRAME

pub first_queues : (frames : List Frame) (f : Frame) → 0 < length frames → f ≡ get_or frames 0 f → f.queues ≡ queues_of frames
first_queues [] f some is = absurd (omega arith)
first_queues (g ∷ frames) f some is = ap (λ x. x.queues) is

pub good_on : (frames : List Frame) (i : ℕ) (f : Frame) → i < length frames → f ≡ get_or frames i f → first_fault f ≡ None → All (λ frame. first_fault frame ≡ None) (take i frames) → All (λ frame. first_fault frame ≡ None) (take (i + 1) frames)
good_on frames i f lt is good so_far = rw (add-one) (rw (take-suc frames i f lt) (All-append (λ frame. first_fault frame ≡ None) (take i frames) (get_or frames i f ∷ []) so_far (All-cons (λ frame. first_fault frame ≡ None) (get_or frames i f) [] (subst (λ x. first_fault x ≡ None) is good) (All-nil (λ frame. first_fault frame ≡ None)))))

pub good_end : (frames : List Frame) (i : ℕ) → length frames ≤ i → All (λ frame. first_fault frame ≡ None) (take i frames) → All (λ frame. first_fault frame ≡ None) frames
good_end frames i far so_far = subst (All (λ frame. first_fault frame ≡ None)) (take-past frames i far) so_far
  where
    take-past : (xs : List Frame) (n : ℕ) → length xs ≤ n → take n xs ≡ xs
    take-past [] zero far = refl
    take-past [] (suc n) far = refl
    take-past (x ∷ xs) zero far = absurd (omega arith)
    take-past (x ∷ xs) (suc n) far = ap (λ ys. x ∷ ys) (take-past xs n (omega arith))

-- QUEUES

family_is : (a b : Family) → same_family a b ≡ true → a ≡ b
family_is Graphics Graphics e = refl
family_is Graphics Compute e = absurd cc
family_is Graphics Transfer e = absurd cc
family_is Compute Graphics e = absurd cc
family_is Compute Compute e = refl
family_is Compute Transfer e = absurd cc
family_is Transfer Graphics e = absurd cc
family_is Transfer Compute e = absurd cc
family_is Transfer Transfer e = refl

queue_is : (a b : QueueDecl) → same_queue a b ≡ true → a ≡ b
queue_is a b e =
    let both = and_parts (bytes_eq a.name b.name) (same_family a.family b.family) e in
    let name : a.name ≡ b.name = (bytes_eq-Decides a.name b.name).0 both.0 in
    let family : a.family ≡ b.family = family_is a.family b.family both.1 in
    ap₂ (λ n f. record { name = n; family = f }) name family

queues_are : (qs bs : List QueueDecl) → same_queues qs bs ≡ true → qs ≡ bs
queues_are [] [] e = refl
queues_are [] (b ∷ bs) e = absurd cc
queues_are (a ∷ qs) [] e = absurd cc
queues_are (a ∷ qs) (b ∷ bs) e =
    let both = and_parts (same_queue a b) (same_queues qs bs) e in
    ap₂ (λ x xs. x ∷ xs) (queue_is a b both.0) (queues_are qs bs both.1)

-- PERSISTING NAMES

is_import : (rs : List Resource) (k size : ℕ) → option_map_or (is_persisted size) (slice_get rs k) false ≡ true → IsImport rs k size
is_import [] k size e = absurd cc
is_import (r ∷ rs) zero size e =
    let both = and_parts (is_some r.import) (bytes_of r.shape == size) e in
    (both.0, eqb-true (bytes_of r.shape) size both.1)
is_import (r ∷ rs) (suc k) size e = is_import rs k size e

are_imports : (frames : List Frame) (f : Frame) (names : List (List ℕ)) → ((k : ℕ) (name : List ℕ) → slice_get names k ≡ Some name → persists frames f name ≡ true) → AreImports f.resources (sizes_of frames names) names
are_imports frames f [] persist = tt
are_imports frames f (name ∷ names) persist = (by_holder (holder_in f.resources name) (persist 0 name refl), are_imports frames f names (λ k n is. persist (suc k) n is))
  where
    by_holder : (o : Option ℕ) → option_map_or (λ k. option_map_or (is_persisted (unwrap_or (size_in frames name) 0)) (slice_get f.resources k) false) o true ≡ true → IfSome o (λ k. IsImport f.resources k (unwrap_or (size_in frames name) 0))
    by_holder None e = tt
    by_holder (Some k) e = is_import f.resources k (unwrap_or (size_in frames name) 0) e

sizes_same : (frames : List Frame) (persist : List (List ℕ)) (persisted : List (Option (List ℕ))) → ArePersisted frames persist persisted → map length (persisted_bytes persisted) ≡ sizes_of frames persist
sizes_same frames [] [] same = refl
sizes_same frames [] (h ∷ persisted) same = absurd cc
sizes_same frames (n ∷ persist) [] same = absurd cc
sizes_same frames (n ∷ persist) (h ∷ persisted) same =
    let first : option_map length h ≡ size_in frames n = cc in
    let rest : map (option_map length) persisted ≡ map (size_in frames) persist = cc in
    ap₂ (λ x xs. x ∷ xs) (by_bytes h ∙ ap (λ o. unwrap_or o 0) first) (sizes_same frames persist persisted rest)
  where
    by_bytes : (b : Option (List ℕ)) → length (unwrap_or b []) ≡ unwrap_or (option_map length b) 0
    by_bytes None = refl
    by_bytes (Some bytes) = refl

many_same : (frames : List Frame) (persist : List (List ℕ)) (persisted : List (Option (List ℕ))) → ArePersisted frames persist persisted → length persisted ≡ length persist
many_same frames persist persisted same = sym (length-map persisted (option_map length)) ∙ ap length same ∙ length-map persist (size_in frames)

-- WINDOWS

limit_none : (frames : List Frame) (persist : List (List ℕ)) (depth n w k : ℕ) → first_too_large frames persist depth n w ≡ None → k < n → limit_in (window_at frames persist depth (unpersisted persist) (w + k)) ≡ None
limit_none frames persist depth zero w k none lt = absurd (omega arith)
limit_none frames persist depth (suc n) w zero none lt =
    let e : w ≡ w + 0 = omega arith in
    subst (λ v. limit_in (window_at frames persist depth (unpersisted persist) v) ≡ None) e (map_none (λ limit. Window w limit) (limit_in (window_at frames persist depth (unpersisted persist) w)) (or_first (too_large frames persist depth w) (first_too_large frames persist depth n (suc w)) none))
limit_none frames persist depth (suc n) w (suc k) none lt =
    let e : suc w + k ≡ w + suc k = omega arith in
    subst (λ v. limit_in (window_at frames persist depth (unpersisted persist) v) ≡ None) e (limit_none frames persist depth n (suc w) k (or_second (too_large frames persist depth w) (first_too_large frames persist depth n (suc w)) none) (omega arith))

all_mapped : {X Y : Type 0} (P : Y → Type 0) (f : X → Y) (xs : List X) → ((k : ℕ) (x : X) → slice_get xs k ≡ Some x → P (f x)) → All P (map f xs)
all_mapped P f [] each = All-nil P
all_mapped P f (x ∷ xs) each = All-cons P (f x) (map f xs) (each 0 x refl) (all_mapped P f xs (λ k y is. each (suc k) y is))

module _ (frames : List Frame) (persist : List (List ℕ)) (depth : ℕ) (F : Fly frames persist depth) where
  queues_none : other_queues frames ≡ None
  queues_none = or_first (other_queues frames) (option_or (first_lost frames persist) (first_too_large frames persist depth (window_count depth frames) 0)) F.none

  after_queues : option_or (first_lost frames persist) (first_too_large frames persist depth (window_count depth frames) 0) ≡ None
  after_queues = or_second (other_queues frames) (option_or (first_lost frames persist) (first_too_large frames persist depth (window_count depth frames) 0)) F.none

  lost_none : first_lost frames persist ≡ None
  lost_none = or_first (first_lost frames persist) (first_too_large frames persist depth (window_count depth frames) 0) after_queues

  large_none : first_too_large frames persist depth (window_count depth frames) 0 ≡ None
  large_none = or_second (first_lost frames persist) (first_too_large frames persist depth (window_count depth frames) 0) after_queues

  pub each_persists : (k : ℕ) (f : Frame) → slice_get frames k ≡ Some f → (j : ℕ) (name : List ℕ) → slice_get persist j ≡ Some name → persists frames f name ≡ true
  each_persists k f is j name at = has_it (persists frames f name) (Persist k name) (none_from (lost_at frames k f) persist (none_from (lost_in frames persist) frames lost_none k f is) j name at)

  each_flies : (k : ℕ) (f : Frame) → slice_get frames k ≡ Some f → FliesDeclared (queues_of frames) (sizes_of frames persist) (declared_in persist f)
  each_flies k f is = record {
    none = subst (λ x. first_fault x ≡ None) (get_or_from_slice_get frames k f f is) (F.good k f (slice_get_within frames k f is));
    same = sym (queues_are (queues_of frames) f.queues (has_it (same_queues (queues_of frames) f.queues) (Queues k) (none_from (other_at (queues_of frames)) frames queues_none k f is)));
    persisted = held_by_names f.resources (sizes_of frames persist) persist F.different (are_imports frames f persist (each_persists k f is));
  }

  pub all_flying : (persisted : List (Option (List ℕ))) → ArePersisted frames persist persisted → FlyDeclared (queues_of frames) (sizes_of frames persist) (all_declared frames persist) (persisted_bytes persisted)
  all_flying persisted H = record {
    some = subst (λ n. 0 < n) (sym (length-map frames (declared_in persist))) F.some;
    each = all_mapped (FliesDeclared (queues_of frames) (sizes_of frames persist)) (declared_in persist) frames each_flies;
    sized = sizes_same frames persist persisted H;
  }

  module _ (w : ℕ) (there : w * depth < length frames) (counted : w < window_count depth frames) (persisted : List (Option (List ℕ))) (H : ArePersisted frames persist persisted) where
    abbrev ds : List Declared
    ds = frames_in depth (all_declared frames persist) w

    pub mine : ds ≡ all_declared (frames_in depth frames w) persist
    mine = sym (declared_in_window frames persist depth w)

    pub flying : FlyDeclared (queues_of frames) (sizes_of frames persist) ds (persisted_bytes persisted)
    flying = record {
      some =
          let taken : length ds ≡ min depth (length (drop (w * depth) (all_declared frames persist))) = length-take depth (drop (w * depth) (all_declared frames persist)) in
          let dropped : length (drop (w * depth) (all_declared frames persist)) ≡ length (all_declared frames persist) - w * depth = length-drop (w * depth) (all_declared frames persist) in
          let many : length (all_declared frames persist) ≡ length frames = length-map frames (declared_in persist) in
          let deep = F.deep in
          omega (arith, taken, dropped, many, deep, there);
      each = All-take (FliesDeclared (queues_of frames) (sizes_of frames persist)) depth (drop (w * depth) (all_declared frames persist)) (All-drop (FliesDeclared (queues_of frames) (sizes_of frames persist)) (w * depth) (all_declared frames persist) (all_mapped (FliesDeclared (queues_of frames) (sizes_of frames persist)) (declared_in persist) frames each_flies));
      sized = sizes_same frames persist persisted H;
    }

    pub within : limit_broken (window_frame (queues_of frames) ds (persisted_bytes persisted)) ≡ None
    within =
        let start : 0 + w ≡ w = omega arith in
        let none_at_w : limit_in (window_at frames persist depth (unpersisted persist) w) ≡ None = subst (λ v. limit_in (window_at frames persist depth (unpersisted persist) v) ≡ None) start (limit_none frames persist depth (window_count depth frames) 0 w large_none counted) in
        let none = none_broken (window_at frames persist depth (unpersisted persist) w) none_at_w in
        let alike = windows_alike (queues_of frames) (frames_in depth frames w) persist persisted (unpersisted persist) (many_same frames persist persisted H) (length-map persist _) in
        subst (λ xs. limit_broken (window_frame (queues_of frames) xs (persisted_bytes persisted)) ≡ None) (sym mine)
        (alike ∙ subst (λ xs. limit_broken (window_frame (queues_of frames) xs (persisted_bytes (unpersisted persist))) ≡ None) mine none)

    pub window_good : first_fault (window_at frames persist depth persisted w) ≡ None
    window_good = declared_good (queues_of frames) (sizes_of frames persist) ds (persisted_bytes persisted) flying within
