-- Good passes one after another, and what has contents between them.
use Rattle.std.proofs.Common.{◌≡◌, ℕ, zero, suc, ◌<◌, ◌||◌, List, [], ◌∷◌, ◌++◌, length, take, get_or, Bool, true, false, refl, sym, ap, subst, ◌∙◌, append_assoc, arith}
use Rattle.std.specs.List.{list_any}
use Rattle.std.proofs.lemmas.List.{append-nil}
use Rattle.std.proofs.lemmas.List.Folds.{list_any-append}
use Rattle.frame.specs.Valid.{IsValidPass, has_contents, is_import, renews}
use Rattle.frame.specs.Numbered.{NumberedFrame}
use Rattle.frame.specs.declared.numbered.NumberedPass.{NumberedPass}

-- GOOD PASSES ONE AFTER ANOTHER

abbrev pub AllGood : NumberedFrame → List NumberedPass → List NumberedPass → Type 0
AllGood frame before [] = Unit {0}
AllGood frame before (pass ∷ passes) = IsValidPass frame before pass × AllGood frame (before ++ pass ∷ []) passes

pub one_by_one : (frame : NumberedFrame) (before passes : List NumberedPass) → ((p : ℕ) (d : NumberedPass) → p < length passes → IsValidPass frame (before ++ take p passes) (get_or passes p d)) → AllGood frame before passes
one_by_one frame before [] good = tt
one_by_one frame before (pass ∷ passes) good = (
  subst (λ b. IsValidPass frame b pass) (append-nil before) (good 0 pass (omega arith)),
  one_by_one frame (before ++ pass ∷ []) passes (λ p d lt. subst (λ b. IsValidPass frame b (get_or passes p d)) (sym (append_assoc before (pass ∷ []) (take p passes))) (good (suc p) d (omega arith))),
)

pub at_once : (frame : NumberedFrame) (before passes : List NumberedPass) → AllGood frame before passes → (p : ℕ) (d : NumberedPass) → p < length passes → IsValidPass frame (before ++ take p passes) (get_or passes p d)
at_once frame before [] good p d lt = absurd (omega arith)
at_once frame before (pass ∷ passes) good zero d lt = subst (λ b. IsValidPass frame b pass) (sym (append-nil before)) good.0
at_once frame before (pass ∷ passes) good (suc p) d lt = subst (λ b. IsValidPass frame b (get_or passes p d)) (append_assoc before (pass ∷ []) (take p passes)) (at_once frame (before ++ pass ∷ []) passes good.1 p d (omega arith))

pub good_on : (frame : NumberedFrame) (before ps qs : List NumberedPass) → AllGood frame before ps → AllGood frame (before ++ ps) qs → AllGood frame before (ps ++ qs)
good_on frame before [] qs P Q = subst (λ b. AllGood frame b qs) (append-nil before) Q
good_on frame before (p ∷ ps) qs P Q = (P.0, good_on frame (before ++ p ∷ []) ps qs P.1 (subst (λ b. AllGood frame b qs) (sym (append_assoc before (p ∷ []) ps)) Q))

-- CONTENTS

or_first : (a b c : Bool) → (a || b) ≡ true → (a || (b || c)) ≡ true
or_first true b c e = refl
or_first false true c e = refl
or_first false false c e = absurd cc

or_last : (a b c : Bool) → c ≡ true → (a || (b || c)) ≡ true
or_last true b c e = refl
or_last false true c e = refl
or_last false false c e = e

-- what has contents still has them after more passes
pub contents_stay : (frame : NumberedFrame) (before more : List NumberedPass) (x : ℕ) → has_contents frame.units before x ≡ true → has_contents frame.units (before ++ more) x ≡ true
contents_stay frame before more x e = ap (λ b. is_import frame.units x || b) (list_any-append (renews x) before more) ∙ or_first (is_import frame.units x) (list_any (renews x) before) (list_any (renews x) more) e

pub contents_renewed : (frame : NumberedFrame) (before more : List NumberedPass) (x : ℕ) → list_any (renews x) more ≡ true → has_contents frame.units (before ++ more) x ≡ true
contents_renewed frame before more x e = ap (λ b. is_import frame.units x || b) (list_any-append (renews x) before more) ∙ or_last (is_import frame.units x) (list_any (renews x) before) (list_any (renews x) more) e
