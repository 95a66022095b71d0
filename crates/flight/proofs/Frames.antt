-- One frame further, in lists that grow.
use Rattle.std.proofs.Common.{◌≡◌, ℕ, suc, ◌+◌, ◌<◌, ◌≤◌, ◌++◌, List, [], ◌∷◌, length, map, get_or, drop, Option, Some, None, sym, ap, ap₂, ◌∙◌, add-one, arith}
use Rattle.std.specs.Prelude.{option_to_list}
use Rattle.std.proofs.Math.Seq.{drop-length}
use Rattle.flight.proofs.Walks.{at_place, grown, nothing_more}
use Rattle.flight.specs.Internal.Left.{holders_of, last_left, left_after, other_by, others_by}
use Rattle.flight.specs.Internal.WindowParts.{all_exports, all_passes, all_resources, passes_by, resources_by}
use Rattle.frame.specs.declared.frame.Frame.{Frame}
use Rattle.frame.specs.declared.frame.Pass.{Pass}
use Rattle.frame.specs.declared.frame.Resource.{Resource}
use Rattle.frame.specs.declared.frame.Spot.{Spot}
use Rattle.law_window.specs.Names.{rename_in}
use Rattle.law_window.specs.Passes.{renamed_spot}

pub past : {X : Type 0} (xs : List X) (i : ℕ) → length xs ≤ i → i ≤ length xs → drop i xs ≡ []
past xs i far near = let e : i ≡ length xs = omega arith in ap (λ n. drop n xs) e ∙ drop-length xs

-- EXPORTS

pub exports_on : (frames : List Frame) (i : ℕ) (f : Frame) (more list list' total : List Spot) → i < length frames → f ≡ get_or frames i f → more ≡ map (renamed_spot (rename_in i f)) f.exports → list' ≡ list ++ more → list ++ all_exports i (drop i frames) ≡ total → list' ++ all_exports (i + 1) (drop (i + 1) frames) ≡ total
exports_on frames i f more list list' total lt is gives grows so_far =
    let rest : all_exports i (drop i frames) ≡ more ++ all_exports (suc i) (drop (suc i) frames) = ap (all_exports i) (at_place frames i f lt is) ∙ ap (λ xs. xs ++ all_exports (suc i) (drop (suc i) frames)) (sym gives) in
    rw add-one (grown list more list' _ _ total grows rest so_far)

pub exports_end : (frames : List Frame) (i : ℕ) (list total : List Spot) → length frames ≤ i → i ≤ length frames → list ++ all_exports i (drop i frames) ≡ total → list ≡ total
exports_end frames i list total far near so_far = nothing_more list total _ (ap (all_exports i) (past frames i far near)) so_far

module _ (own : List Spot) (left : List (Option (List ℕ))) (k : ℕ) (name : Option (List ℕ)) (lt : k < length left) (is : name ≡ get_or left k name) where
  others_at : others_by own (drop k left) ≡ option_to_list (other_by own name) ++ others_by own (drop (suc k) left)
  others_at = ap (others_by own) (at_place left k name lt is)

pub other_on : (own : List Spot) (left : List (Option (List ℕ))) (k : ℕ) (name : Option (List ℕ)) (spot : Spot) (list list' total : List Spot) → k < length left → name ≡ get_or left k name → other_by own name ≡ Some spot → list' ≡ list ++ spot ∷ [] → list ++ others_by own (drop k left) ≡ total → list' ++ others_by own (drop (k + 1) left) ≡ total
other_on own left k name spot list list' total lt is gives grows so_far =
    let rest : others_by own (drop k left) ≡ spot ∷ others_by own (drop (suc k) left) = others_at own left k name lt is ∙ ap (λ o. option_to_list o ++ others_by own (drop (suc k) left)) gives in
    rw add-one (grown list (spot ∷ []) list' _ _ total grows rest so_far)

pub known_on : (own : List Spot) (left : List (Option (List ℕ))) (k : ℕ) (name : Option (List ℕ)) (list total : List Spot) → k < length left → name ≡ get_or left k name → other_by own name ≡ None → list ++ others_by own (drop k left) ≡ total → list ++ others_by own (drop (k + 1) left) ≡ total
known_on own left k name list total lt is gives so_far =
    let rest : others_by own (drop k left) ≡ others_by own (drop (suc k) left) = others_at own left k name lt is ∙ ap (λ o. option_to_list o ++ others_by own (drop (suc k) left)) gives in
    rw add-one (ap (λ r. list ++ r) (sym rest) ∙ so_far)

pub others_end : (own : List Spot) (left : List (Option (List ℕ))) (k : ℕ) (list total : List Spot) → length left ≤ k → k ≤ length left → list ++ others_by own (drop k left) ≡ total → list ≡ total
others_end own left k list total far near so_far = nothing_more list total _ (ap (others_by own) (past left k far near)) so_far

-- WHAT IS LEFT

pub left_on : (persist : List (List ℕ)) (frames : List Frame) (i : ℕ) (f : Frame) (holders : List (Option ℕ)) (left left' total : List (Option (List ℕ))) → i < length frames → f ≡ get_or frames i f → holders ≡ holders_of persist f → left' ≡ left_after i holders left → last_left persist i left (drop i frames) ≡ total → last_left persist (i + 1) left' (drop (i + 1) frames) ≡ total
left_on persist frames i f holders left left' total lt is persisted gives so_far =
    rw add-one (ap (λ l. last_left persist (suc i) l (drop (suc i) frames)) (gives ∙ ap (λ hs. left_after i hs left) persisted) ∙ sym (ap (last_left persist i left) (at_place frames i f lt is)) ∙ so_far)

pub left_end : (persist : List (List ℕ)) (frames : List Frame) (i : ℕ) (left total : List (Option (List ℕ))) → length frames ≤ i → i ≤ length frames → last_left persist i left (drop i frames) ≡ total → left ≡ total
left_end persist frames i left total far near so_far = sym (ap (last_left persist i left) (past frames i far near)) ∙ so_far

-- RESOURCES AND PASSES

pub resources_on : (persist : List (List ℕ)) (persisted : List (Option (List ℕ))) (frames : List Frame) (i : ℕ) (f : Frame) (holders : List (Option ℕ)) (left left' : List (Option (List ℕ))) (more list list' total : List Resource) → i < length frames → f ≡ get_or frames i f → holders ≡ holders_of persist f → more ≡ resources_by i holders persisted left f.resources → list' ≡ list ++ more → left' ≡ left_after i holders left → list ++ all_resources persist persisted i left (drop i frames) ≡ total → list' ++ all_resources persist persisted (i + 1) left' (drop (i + 1) frames) ≡ total
resources_on persist persisted frames i f holders left left' more list list' total lt is holds gives grows after so_far =
    let rest : all_resources persist persisted i left (drop i frames) ≡ more ++ all_resources persist persisted (suc i) left' (drop (suc i) frames) =
    ap (all_resources persist persisted i left) (at_place frames i f lt is)
    ∙ ap₂ (λ xs l. xs ++ all_resources persist persisted (suc i) l (drop (suc i) frames)) (sym (gives ∙ ap (λ hs. resources_by i hs persisted left f.resources) holds)) (sym (after ∙ ap (λ hs. left_after i hs left) holds)) in
    rw add-one (grown list more list' _ _ total grows rest so_far)

pub resources_end : (persist : List (List ℕ)) (persisted : List (Option (List ℕ))) (frames : List Frame) (i : ℕ) (left : List (Option (List ℕ))) (list total : List Resource) → length frames ≤ i → i ≤ length frames → list ++ all_resources persist persisted i left (drop i frames) ≡ total → list ≡ total
resources_end persist persisted frames i left list total far near so_far = nothing_more list total _ (ap (all_resources persist persisted i left) (past frames i far near)) so_far

pub passes_on : (queue : List ℕ) (persist : List (List ℕ)) (frames : List Frame) (i : ℕ) (f : Frame) (holders : List (Option ℕ)) (left left' : List (Option (List ℕ))) (list list' total : List Pass) → i < length frames → f ≡ get_or frames i f → holders ≡ holders_of persist f → list' ≡ list ++ passes_by queue i holders left f → left' ≡ left_after i holders left → list ++ all_passes queue persist i left (drop i frames) ≡ total → list' ++ all_passes queue persist (i + 1) left' (drop (i + 1) frames) ≡ total
passes_on queue persist frames i f holders left left' list list' total lt is holds grows after so_far =
    let rest : all_passes queue persist i left (drop i frames) ≡ passes_by queue i holders left f ++ all_passes queue persist (suc i) left' (drop (suc i) frames) =
    ap (all_passes queue persist i left) (at_place frames i f lt is)
    ∙ ap₂ (λ xs l. xs ++ all_passes queue persist (suc i) l (drop (suc i) frames)) (sym (ap (λ hs. passes_by queue i hs left f) holds)) (sym (after ∙ ap (λ hs. left_after i hs left) holds)) in
    rw add-one (grown list (passes_by queue i holders left f) list' _ _ total grows rest so_far)

pub passes_end : (queue : List ℕ) (persist : List (List ℕ)) (frames : List Frame) (i : ℕ) (left : List (Option (List ℕ))) (list total : List Pass) → length frames ≤ i → i ≤ length frames → list ++ all_passes queue persist i left (drop i frames) ≡ total → list ≡ total
passes_end queue persist frames i left list total far near so_far = nothing_more list total _ (ap (all_passes queue persist i left) (past frames i far near)) so_far
