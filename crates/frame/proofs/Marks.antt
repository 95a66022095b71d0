-- Marks of the units that are there.
use Rattle.std.proofs.Common.{◌≡◌, ℕ, ◌+◌, ◌<◌, ◌||◌, ◌&&◌, ◌==◌, List, length, get_or, take, drop, Bool, true, false, Option, None, refl, sym, ap, ◌∙◌, slice_set}
use Rattle.std.specs.List.{list_any, position}
use Rattle.std.proofs.Math.Path.{fun_ext}
use Rattle.std.proofs.lemmas.Bool.{eqb-true, eqb-false}
use Rattle.std.proofs.lemmas.Grind.{get_or-set_at}
use Rattle.std.proofs.lemmas.List.{get_or-set_other}
use Rattle.std.proofs.lemmas.List.Folds.{list_any_more}
use Rattle.base.proofs.Booleans.{or_false, or_assoc}
use Rattle.base.proofs.Walks.{first_on}
use Rattle.base.specs.Walks.{first_in}
use Rattle.frame.specs.Uses.{makes, is_there, is_marked, is_missing, unwritten_in, unwritten_at}
use Rattle.frame.specs.declared.frame.Write.{Write}
use Rattle.frame.specs.declared.numbered.Span.{Span}
use Rattle.frame.specs.declared.numbered.Uses.{Uses}
use Rattle.frame.specs.declared.location.Location.{Location}

-- one mark more
set_mark : (marks : List Bool) (k u : ℕ) → k < length marks → is_marked (slice_set marks k true) u ≡ (is_marked marks u || (k == u))
set_mark marks k u lt = by_same (k == u) refl
  where
    true_last : (a : Bool) → true ≡ (a || true)
    true_last true = refl
    true_last false = refl

    by_same : (b : Bool) → (k == u) ≡ b → is_marked (slice_set marks k true) u ≡ (is_marked marks u || b)
    by_same true e = let same : u ≡ k = sym (eqb-true k u e) in get_or-set_at marks k u true false same lt ∙ true_last (is_marked marks u)
    by_same false e = get_or-set_other marks k u true false (λ same. eqb-false k u e (sym same)) ∙ sym (or_false (is_marked marks u))

pub marked_one : (marks marks' : List Bool) (write : Write ℕ) → write.what < length marks → marks' ≡ slice_set marks write.what true → write.fresh ≡ true → (u : ℕ) → is_marked marks' u ≡ (is_marked marks u || (write.fresh && write.what == u))
marked_one marks marks' write lt is fresh u = ap (λ m. is_marked m u) is ∙ set_mark marks write.what u lt ∙ ap (λ b. is_marked marks u || (b && write.what == u)) (sym fresh)

pub not_marked : (marks : List Bool) (write : Write ℕ) → write.fresh ≡ false → (u : ℕ) → is_marked marks u ≡ (is_marked marks u || (write.fresh && write.what == u))
not_marked marks write stale u = sym (or_false (is_marked marks u)) ∙ ap (λ b. is_marked marks u || (b && write.what == u)) (sym stale)

pub marks_none : (marks : List Bool) (writes : List (Write ℕ)) (u : ℕ) → is_marked marks u ≡ (is_marked marks u || list_any (λ w. w.fresh && w.what == u) (take 0 writes))
marks_none marks writes u = sym (or_false (is_marked marks u))

pub marks_on : (first marks marks' : List Bool) (writes : List (Write ℕ)) (i : ℕ) (write : Write ℕ) → i < length writes → write ≡ get_or writes i write → ((u : ℕ) → is_marked marks u ≡ (is_marked first u || list_any (λ w. w.fresh && w.what == u) (take i writes))) → ((u : ℕ) → is_marked marks' u ≡ (is_marked marks u || (write.fresh && write.what == u))) → (u : ℕ) → is_marked marks' u ≡ (is_marked first u || list_any (λ w. w.fresh && w.what == u) (take (i + 1) writes))
marks_on first marks marks' writes i write lt is so_far grows u =
    grows u ∙ ap (λ b. b || (write.fresh && write.what == u)) (so_far u) ∙ or_assoc (is_marked first u) (list_any (λ w. w.fresh && w.what == u) (take i writes)) (write.fresh && write.what == u) ∙ ap (λ b. is_marked first u || b) (ap (λ w. list_any (λ w. w.fresh && w.what == u) (take i writes) || (w.fresh && w.what == u)) is ∙ sym (list_any_more (λ w. w.fresh && w.what == u) writes i write lt))

-- one pass more
pub there_none : (imported : List Bool) (passes : List Uses) (u : ℕ) → is_marked imported u ≡ is_there imported (take 0 passes) u
there_none imported passes u = sym (or_false (is_marked imported u))

pub there_on : (imported marks marks' : List Bool) (passes : List Uses) (p : ℕ) (uses : Uses) → p < length passes → uses ≡ get_or passes p uses → ((u : ℕ) → is_marked marks u ≡ is_there imported (take p passes) u) → ((u : ℕ) → is_marked marks' u ≡ (is_marked marks u || list_any (λ w. w.fresh && w.what == u) uses.pass.writes)) → (u : ℕ) → is_marked marks' u ≡ is_there imported (take (p + 1) passes) u
there_on imported marks marks' passes p uses lt is so_far grows u =
    grows u ∙ ap (λ b. b || makes u uses) (so_far u) ∙ or_assoc (is_marked imported u) (list_any (makes u) (take p passes)) (makes u uses) ∙ ap (λ b. is_marked imported u || b) (ap (λ x. list_any (makes u) (take p passes) || makes u x) is ∙ sym (list_any_more (makes u) passes p uses lt))

-- the marks answer as the definition does
pub same_place : (imported marks : List Bool) (passes : List Uses) (p : ℕ) (uses : Uses) → ((u : ℕ) → is_marked marks u ≡ is_there imported (take p passes) u) → unwritten_in (is_marked marks) p uses ≡ unwritten_at imported passes p uses
same_place imported marks passes p uses same = ap (λ there. unwritten_in there p uses) (fun_ext same)

pub same_missing : (imported marks : List Bool) (passes : List Uses) (entries : List Span) → ((u : ℕ) → is_marked marks u ≡ is_there imported passes u) → position (is_missing (is_marked marks)) entries ≡ position (is_missing (is_there imported passes)) entries
same_missing imported marks passes entries same = ap (λ there. position (is_missing there) entries) (fun_ext same)

pub missing_on : (imported marks : List Bool) (passes : List Uses) (p : ℕ) (uses : Uses) (r total : Option Location) → p < length passes → uses ≡ get_or passes p uses → ((u : ℕ) → is_marked marks u ≡ is_there imported (take p passes) u) → r ≡ unwritten_in (is_marked marks) p uses → r ≡ None → first_in (unwritten_at imported passes) p (drop p passes) ≡ total → first_in (unwritten_at imported passes) (p + 1) (drop (p + 1) passes) ≡ total
missing_on imported marks passes p uses r total lt is same gives none so_far = first_on (unwritten_at imported passes) passes p uses r total lt is (gives ∙ same_place imported marks passes p uses same) none so_far
