-- Runs of uses as they grow at their end.
use Rattle.std.proofs.Common.{◌≡◌, ℕ, ◌+◌, ◌-◌, ◌<◌, Bool, true, false, List, [], ◌∷◌, ◌++◌, length, take, get_or, if◌then◌else◌, refl, sym, ap, ◌∙◌, arith}
use Rattle.std.specs.Prelude.{OnOk, Result, Ok, Err, Some, slice_get}
use Rattle.std.proofs.lemmas.Option.{none-some, same_Some}
use Rattle.std.proofs.lemmas.List.{take_more}
use Rattle.compile_groups.specs.Internal.Grown.{last_use, joins_last, after_run, added}
use Rattle.compile_groups.specs.Groups.{before_runs, runs}
use Rattle.compile_groups.specs.declared.unit_use.Use.{Use}

before-after : (joins : Use → Use → Bool) (x u v : Use) (run : List Use) (b c : Bool) → joins x v ≡ b → joins (last_use v run) u ≡ c → before_runs joins x (after_run joins u (v ∷ run)) ≡ added joins u (before_runs joins x ((v ∷ run) ∷ []))
before-after joins x u v run true true e f =
    ap (λ z. before_runs joins x (if z then ((v ∷ run) ++ u ∷ []) ∷ [] else (v ∷ run) ∷ (u ∷ []) ∷ [])) f
    ∙ ap (λ z. if z then (x ∷ v ∷ (run ++ u ∷ [])) ∷ [] else (x ∷ []) ∷ (v ∷ (run ++ u ∷ [])) ∷ []) e
    ∙ sym (ap (λ z. added joins u (if z then (x ∷ v ∷ run) ∷ [] else (x ∷ []) ∷ (v ∷ run) ∷ [])) e ∙ ap (λ z. if z then ((x ∷ v ∷ run) ++ u ∷ []) ∷ [] else (x ∷ v ∷ run) ∷ (u ∷ []) ∷ []) f)
before-after joins x u v run true false e f =
    ap (λ z. before_runs joins x (if z then ((v ∷ run) ++ u ∷ []) ∷ [] else (v ∷ run) ∷ (u ∷ []) ∷ [])) f
    ∙ ap (λ z. if z then (x ∷ v ∷ run) ∷ (u ∷ []) ∷ [] else (x ∷ []) ∷ (v ∷ run) ∷ (u ∷ []) ∷ []) e
    ∙ sym (ap (λ z. added joins u (if z then (x ∷ v ∷ run) ∷ [] else (x ∷ []) ∷ (v ∷ run) ∷ [])) e ∙ ap (λ z. if z then ((x ∷ v ∷ run) ++ u ∷ []) ∷ [] else (x ∷ v ∷ run) ∷ (u ∷ []) ∷ []) f)
before-after joins x u v run false true e f =
    ap (λ z. before_runs joins x (if z then ((v ∷ run) ++ u ∷ []) ∷ [] else (v ∷ run) ∷ (u ∷ []) ∷ [])) f
    ∙ ap (λ z. if z then (x ∷ v ∷ (run ++ u ∷ [])) ∷ [] else (x ∷ []) ∷ (v ∷ (run ++ u ∷ [])) ∷ []) e
    ∙ sym (ap (λ z. added joins u (if z then (x ∷ v ∷ run) ∷ [] else (x ∷ []) ∷ (v ∷ run) ∷ [])) e ∙ ap (λ z. (x ∷ []) ∷ (if z then ((v ∷ run) ++ u ∷ []) ∷ [] else (v ∷ run) ∷ (u ∷ []) ∷ [])) f)
before-after joins x u v run false false e f =
    ap (λ z. before_runs joins x (if z then ((v ∷ run) ++ u ∷ []) ∷ [] else (v ∷ run) ∷ (u ∷ []) ∷ [])) f
    ∙ ap (λ z. if z then (x ∷ v ∷ run) ∷ (u ∷ []) ∷ [] else (x ∷ []) ∷ (v ∷ run) ∷ (u ∷ []) ∷ []) e
    ∙ sym (ap (λ z. added joins u (if z then (x ∷ v ∷ run) ∷ [] else (x ∷ []) ∷ (v ∷ run) ∷ [])) e ∙ ap (λ z. (x ∷ []) ∷ (if z then ((v ∷ run) ++ u ∷ []) ∷ [] else (v ∷ run) ∷ (u ∷ []) ∷ [])) f)

before-added : (joins : Use → Use → Bool) (x u : Use) (R : List (List Use)) → before_runs joins x (added joins u R) ≡ added joins u (before_runs joins x R)
before-added joins x u [] = refl
before-added joins x u ([] ∷ []) = refl
before-added joins x u ((v ∷ run) ∷ []) = before-after joins x u v run (joins x v) (joins (last_use v run) u) refl refl
before-added joins x u ([] ∷ next ∷ rest) = refl
before-added joins x u ((v ∷ run) ∷ next ∷ rest) = go (joins x v) refl
  where
    go : (b : Bool) → joins x v ≡ b → before_runs joins x ((v ∷ run) ∷ added joins u (next ∷ rest)) ≡ added joins u (before_runs joins x ((v ∷ run) ∷ next ∷ rest))
    go true e = ap (λ z. if z then (x ∷ v ∷ run) ∷ added joins u (next ∷ rest) else (x ∷ []) ∷ (v ∷ run) ∷ added joins u (next ∷ rest)) e ∙ sym (ap (λ z. added joins u (if z then (x ∷ v ∷ run) ∷ next ∷ rest else (x ∷ []) ∷ (v ∷ run) ∷ next ∷ rest)) e)
    go false e = ap (λ z. if z then (x ∷ v ∷ run) ∷ added joins u (next ∷ rest) else (x ∷ []) ∷ (v ∷ run) ∷ added joins u (next ∷ rest)) e ∙ sym (ap (λ z. added joins u (if z then (x ∷ v ∷ run) ∷ next ∷ rest else (x ∷ []) ∷ (v ∷ run) ∷ next ∷ rest)) e)

-- a use more
pub runs_more : (joins : Use → Use → Bool) (uses : List Use) (u : Use) → runs joins (uses ++ u ∷ []) ≡ added joins u (runs joins uses)
runs_more joins [] u = refl
runs_more joins (x ∷ uses) u = ap (before_runs joins x) (runs_more joins uses u) ∙ before-added joins x u (runs joins uses)

-- only the last run changes
pub added_last : (joins : Use → Use → Bool) (u : Use) (rest : List (List Use)) (run : List Use) → added joins u (rest ++ run ∷ []) ≡ rest ++ after_run joins u run
added_last joins u [] run = refl
added_last joins u (r ∷ []) run = refl
added_last joins u (r ∷ next ∷ rest) run = ap (λ z. r ∷ z) (added_last joins u (next ∷ rest) run)

-- STEPS OF THE CODE

last_at : (u : Use) (run : List Use) → slice_get (u ∷ run) (length run) ≡ Some (last_use u run)
last_at u [] = refl
last_at u (v ∷ run) = last_at v run

-- the last of a run, as it is read
pub last_got : (joins : Use → Use → Bool) (run : List Use) (u x : Use) → Some x ≡ slice_get run (length run - 1) → joins x u ≡ joins_last joins run u
last_got joins [] u x h = absurd (none-some x (sym h))
last_got joins (v ∷ run) u x h = ap (λ z. joins z u) (same_Some x (last_use v run) (h ∙ ap (slice_get (v ∷ run)) shift ∙ last_at v run))
  where
    shift : length (v ∷ run) - 1 ≡ length run
    shift = omega arith

pub added_here : (joins : Use → Use → Bool) (u : Use) (old rest new : List (List Use)) (run : List Use) → old ≡ rest ++ run ∷ [] → new ≡ rest ++ after_run joins u run → new ≡ added joins u old
added_here joins u old rest new run e f = f ∙ sym (ap (added joins u) e ∙ added_last joins u rest run)

pub added_ok : {E : Type 0} (r : Result (Unit {0}) E) (joins : Use → Use → Bool) (u : Use) (old rest new : List (List Use)) (run : List Use) → old ≡ rest ++ run ∷ [] → OnOk r (new ≡ rest ++ after_run joins u run) → OnOk r (new ≡ added joins u old)
added_ok (Ok x) joins u old rest new run e f = added_here joins u old rest new run e f
added_ok (Err x) joins u old rest new run e f = f

-- a use more of those that are gone through
pub run_more : (joins : Use → Use → Bool) (uses : List Use) (i : ℕ) (u : Use) (old new : List (List Use)) → i < length uses → u ≡ get_or uses i u → old ≡ runs joins (take i uses) → new ≡ added joins u old → new ≡ runs joins (take (i + 1) uses)
run_more joins uses i u old new lt e f g =
    g ∙ ap (added joins u) f ∙ sym (runs_more joins (take i uses) u)
    ∙ sym (ap (runs joins) (take_more uses i u lt ∙ ap (λ z. take i uses ++ z ∷ []) (sym e)))
