-- A frame with its passes on other queues breaks no rule.
use Rattle.std.proofs.Common.{◌≡◌, ℕ, zero, suc, ◌-◌, ◌<◌, List, [], ◌∷◌, length, map, get_or, slice_get, nat_le, nat_lt, not, is_some, unwrap_or, Bool, true, false, Option, Some, None, Result, Ok, Err, if◌then◌else◌, refl, sym, ap, ap₂, subst, ◌∙◌, arith}
use Rattle.std.specs.List.{AllByRecursion, position}
use Rattle.std.specs.Option.{option_map, option_map_or, option_or}
use Rattle.std.specs.Str.{bytes_eq}
use Rattle.std.proofs.lemmas.List.{length-map}
use Rattle.base.proofs.Absence.{map_none, or_first, or_second}
use Rattle.base.specs.Bounds.{is_between}
use Rattle.base.specs.Broken.{of_rule}
use Rattle.base.specs.Maxima.{max_exports, max_ops, max_passes, max_queues, max_rects, max_units}
use Rattle.base.specs.Walks.{first_in}
use Rattle.base.specs.declared.broken.Broken.{Broken}
use Rattle.base.specs.declared.limit.Limit.TheVariants as limits
use Rattle.frame.proofs.Exports.{position_here, position_past}
use Rattle.frame.proofs.Lookups.{found_as}
use Rattle.frame.proofs.Small.{limits_none, names_known, repeated_none, unknown_none}
use Rattle.frame.proofs.Sufficient.{no_fault, both_none}
use Rattle.frame.specs.Clashes.{first_clash}
use Rattle.frame.specs.FirstFault.{first_fault, name_broken}
use Rattle.frame.specs.Valid.{IsValid}
use Rattle.frame.specs.Limits.{exported, layers_allowed, limit_broken, op_count, over, rects_over, size_broken, spend_pass}
use Rattle.frame.specs.Numbered.{numbered, numbered_pass}
use Rattle.base.specs.Rooms.{first_over, go_on, not_lasting, spend_in}
use Rattle.frame.specs.Repeats.{first_repeat, repeated, repeats_in}
use Rattle.frame.specs.Units.{Numbering, numbering}
use Rattle.frame.specs.Unknowns.{has_queue, is_known, queue_at, unknown, unknown_in, unknown_operand}
use Rattle.frame.specs.declared.frame.Frame.{Frame}
use Rattle.frame.specs.declared.frame.Pass.{Pass}
use Rattle.frame.specs.declared.frame.QueueDecl.{QueueDecl}
use Rattle.frame.specs.declared.location.Location.{Location}
use Rattle.frame.specs.declared.location.Location.TheVariants as at
use Rattle.frame.specs.declared.rule.Rule.{Rule}
use Rattle.frame.specs.declared.rule.Rule.TheVariants as rules
use Rattle.compile_queues.specs.Queues.{AllServe, on_queues, requeued}
use Rattle.compile_queues.specs.Renamed.{AreQueues, frame_on, passes_on, queue_name}
use Rattle.compile_queues.proofs.Requeued.{good_on_queues}

-- LIMITS AND NAMES DO NOT LOOK AT QUEUES

same_count : (names : List (List ℕ)) (passes : List Pass) → length (passes_on names passes) ≡ length passes
same_count [] passes = refl
same_count (name ∷ names) [] = refl
same_count (name ∷ names) (pass ∷ passes) = ap suc (same_count names passes)

same_ops : (names : List (List ℕ)) (passes : List Pass) (room i : ℕ) → first_over op_count room i (passes_on names passes) ≡ first_over op_count room i passes
same_ops [] passes room i = refl
same_ops (name ∷ names) [] room i = refl
same_ops (name ∷ names) (pass ∷ passes) room i = ap (λ rest. if nat_lt room (length pass.ops) then Some i else rest) (same_ops names passes (room - length pass.ops) (suc i))

same_rects : (names : List (List ℕ)) (passes : List Pass) (room p : ℕ) → spend_in spend_pass room p (passes_on names passes) ≡ spend_in spend_pass room p passes
same_rects [] passes room p = refl
same_rects (name ∷ names) [] room p = refl
same_rects (name ∷ names) (pass ∷ passes) room p = by_left (λ rest. same_rects names passes rest (suc p)) (spend_pass room p pass)
  where
    by_left : ((rest : ℕ) → spend_in spend_pass rest (suc p) (passes_on names passes) ≡ spend_in spend_pass rest (suc p) passes) → (left : Result ℕ Location) → go_on (λ rest. spend_in spend_pass rest (suc p) (passes_on names passes)) left ≡ go_on (λ rest. spend_in spend_pass rest (suc p) passes) left
    by_left others (Ok rest) = others rest
    by_left others (Err place) = refl

same_names : (names : List (List ℕ)) (passes : List Pass) → map (λ p. p.name) (passes_on names passes) ≡ map (λ p. p.name) passes
same_names [] passes = refl
same_names (name ∷ names) [] = refl
same_names (name ∷ names) (pass ∷ passes) = ap (λ ns. pass.name ∷ ns) (same_names names passes)

same_repeats : (all names : List (List ℕ)) (passes : List Pass) (p : ℕ) → first_in (repeats_in all) p (passes_on names passes) ≡ first_in (repeats_in all) p passes
same_repeats all [] passes p = refl
same_repeats all (name ∷ names) [] p = refl
same_repeats all (name ∷ names) (pass ∷ passes) p = ap (option_or (repeats_in all p pass)) (same_repeats all names passes (suc p))

-- QUEUES ARE THERE

module _ (frame : Frame) (all : List Pass) where
  abbrev n : Numbering
  n = numbering frame

  abbrev other : Frame
  other = record frame { passes = all }

  abbrev rest_unknown : ℕ → Pass → Option Location
  rest_unknown p pass = option_or (option_map (λ k. at.Read p k) (position (λ spot. not (is_known n spot)) pass.reads)) (option_or (option_map (λ k. at.Write p k) (position (λ w. not (is_known n w.what)) pass.writes)) (first_in (unknown_operand n p) 0 pass.ops))

  same_known : (names : List (List ℕ)) (passes : List Pass) (p : ℕ) → AllByRecursion (λ name. has_queue frame name ≡ true) names → first_in (unknown_in frame n) p passes ≡ None → first_in (unknown_in other n) p (passes_on names passes) ≡ None
  same_known [] [] p there none = refl
  same_known [] (pass ∷ passes) p there none = both_none (unknown_in other n p pass) (first_in (unknown_in other n) (suc p) passes) (or_first (unknown_in frame n p pass) (first_in (unknown_in frame n) (suc p) passes) none) (same_known [] passes (suc p) tt (or_second (unknown_in frame n p pass) (first_in (unknown_in frame n) (suc p) passes) none))
  same_known (name ∷ names) [] p there none = refl
  same_known (name ∷ names) (pass ∷ passes) p there none =
      let here = or_first (unknown_in frame n p pass) (first_in (unknown_in frame n) (suc p) passes) none in
      let in_queue = if has_queue frame pass.queue then None else Some (at.PassQueue p) in
      both_none (unknown_in other n p (record pass { queue = name })) (first_in (unknown_in other n) (suc p) (passes_on names passes))
      (both_none (if has_queue frame name then None else Some (at.PassQueue p)) (rest_unknown p pass) (ap (λ b. if b then None else Some (at.PassQueue p)) there.0) (or_second in_queue (rest_unknown p pass) here))
      (same_known names passes (suc p) there.1 (or_second (unknown_in frame n p pass) (first_in (unknown_in frame n) (suc p) passes) none))

-- a queue is found by its name
names_of : (queues : List QueueDecl) (q : ℕ) → q < length queues → option_map_or (λ d. d.name) (slice_get queues q) [] ≡ get_or (map (λ d. d.name) queues) q []
names_of [] q lt = absurd (omega arith)
names_of (d ∷ queues) zero lt = refl
names_of (d ∷ queues) (suc q) lt = names_of queues q (omega arith)

over_names : (name : List ℕ) (queues : List QueueDecl) → position (λ d. bytes_eq d.name name) queues ≡ position (λ x. bytes_eq x name) (map (λ d. d.name) queues)
over_names name [] = refl
over_names name (d ∷ queues) = by_test (bytes_eq d.name name) refl (over_names name queues)
  where
    by_test : (b : Bool) → bytes_eq d.name name ≡ b → position (λ x. bytes_eq x.name name) queues ≡ position (λ x. bytes_eq x name) (map (λ x. x.name) queues) → position (λ x. bytes_eq x.name name) (d ∷ queues) ≡ position (λ x. bytes_eq x name) (d.name ∷ map (λ x. x.name) queues)
    by_test true e rest = position_here (λ x. bytes_eq x.name name) d queues e ∙ sym (position_here (λ x. bytes_eq x name) d.name (map (λ x. x.name) queues) e)
    by_test false e rest = position_past (λ x. bytes_eq x.name name) d queues e ∙ ap (option_map suc) rest ∙ sym (position_past (λ x. bytes_eq x name) d.name (map (λ x. x.name) queues) e)

module _ (frame : Frame) (named : name_broken frame ≡ None) where
  abbrev repeats_by : Option Location → Option Location
  repeats_by passes = option_or (option_map (λ i. at.Queue i) (first_repeat (map (λ q. q.name) frame.queues))) (option_or (option_map (λ i. at.Resource i) (first_repeat (map (λ r. r.name) frame.resources))) (option_or passes (option_map (λ i. at.Export i) (first_clash frame.exports))))

  queues_differ : first_repeat (map (λ q. q.name) frame.queues) ≡ None
  queues_differ = map_none (λ i. at.Queue i) (first_repeat (map (λ q. q.name) frame.queues)) (or_first (option_map (λ i. at.Queue i) (first_repeat (map (λ q. q.name) frame.queues))) (option_or (option_map (λ i. at.Resource i) (first_repeat (map (λ r. r.name) frame.resources))) (option_or (first_in (repeats_in (map (λ p. p.name) frame.passes)) 0 frame.passes) (option_map (λ i. at.Export i) (first_clash frame.exports)))) (repeated_none frame named))

  queue_found : (q : ℕ) → q < length frame.queues → queue_at frame (queue_name frame q) ≡ Some q
  queue_found q lt =
      let names = map (λ d. d.name) frame.queues in
      over_names (queue_name frame q) frame.queues ∙ ap (λ name. position (λ x. bytes_eq x name) names) (names_of frame.queues q lt) ∙ found_as names queues_differ q (subst (λ m. q < m) (sym (length-map frame.queues (λ d. d.name))) lt)

  all_there : (qs : List ℕ) → AreQueues frame qs → AllByRecursion (λ name. has_queue frame name ≡ true) (map (queue_name frame) qs)
  all_there [] below = tt
  all_there (q ∷ qs) below = (ap is_some (queue_found q below.0), all_there qs below.1)

  module _ (qs : List ℕ) (below : AreQueues frame qs) where
    abbrev names : List (List ℕ)
    names = map (queue_name frame) qs

    abbrev others : List Pass
    others = passes_on names frame.passes

    -- the limits, by what is counted over passes
    abbrev limits_by : ℕ → Option ℕ → Option Location → Option (Broken Rule Location)
    limits_by count ops rects = option_or (option_or (option_map (λ i. over limits.Layers (at.Resource i)) (position (λ r. not (layers_allowed r)) frame.resources)) (option_or (if is_between 1 max_queues (length frame.queues) then None else Some (over limits.Queues at.Queues)) (option_or (option_map (λ i. over limits.Resources at.Resources) (first_over (λ r. r.layers) max_units 0 frame.resources)) (option_or (if nat_le count max_passes then None else Some (over limits.Passes at.Passes)) (option_or (option_map (λ p. over limits.Ops (at.Ops p)) ops) (option_or (option_map (over limits.Rects) rects) (option_map (λ i. over limits.Exports at.Exports) (first_over (exported frame) max_exports 0 frame.exports)))))))) (size_broken frame.resources)

    same_limits : limit_broken (frame_on qs frame) ≡ limit_broken frame
    same_limits =
        ap₂ (λ count ops. limits_by count ops (rects_over others)) (same_count names frame.passes) (same_ops names frame.passes max_ops 0)
        ∙ ap (λ left. limits_by (length frame.passes) (first_over op_count max_ops 0 frame.passes) (not_lasting left)) (same_rects names frame.passes max_rects 0)

    same_repeated : repeated (frame_on qs frame) ≡ repeated frame
    same_repeated = ap repeats_by (ap (λ ns. first_in (repeats_in ns) 0 others) (same_names names frame.passes) ∙ same_repeats (map (λ p. p.name) frame.passes) names frame.passes 0)

    still_known : unknown (frame_on qs frame) ≡ None
    still_known =
        let exports = option_map (λ i. at.Export i) (position (λ spot. not (is_known (numbering frame) spot)) frame.exports) in
        let old = first_in (unknown_in frame (numbering frame)) 0 frame.passes in
        both_none (first_in (unknown_in (frame_on qs frame) (numbering frame)) 0 others) exports (same_known frame others names frame.passes 0 (all_there qs below) (or_first old exports (unknown_none frame named))) (or_second old exports (unknown_none frame named))

    still_named : name_broken (frame_on qs frame) ≡ None
    still_named =
        both_none (limit_broken (frame_on qs frame)) (option_or (option_map (of_rule rules.Repeated) (repeated (frame_on qs frame))) (option_map (of_rule rules.Unknown) (unknown (frame_on qs frame))))
        (same_limits ∙ limits_none frame named)
        (both_none (option_map (of_rule rules.Repeated) (repeated (frame_on qs frame))) (option_map (of_rule rules.Unknown) (unknown (frame_on qs frame))) (ap (option_map (of_rule rules.Repeated)) (same_repeated ∙ repeated_none frame named)) (ap (option_map (of_rule rules.Unknown)) still_known))

  same_numbers : (qs : List ℕ) → AreQueues frame qs → (all passes : List Pass) → map (numbered_pass (record frame { passes = all }) (numbering frame)) (passes_on (map (queue_name frame) qs) passes) ≡ requeued qs (map (numbered_pass frame (numbering frame)) passes)
  same_numbers [] below all [] = refl
  same_numbers [] below all (pass ∷ passes) = ap (λ ps. numbered_pass frame (numbering frame) pass ∷ ps) (same_numbers [] tt all passes)
  same_numbers (q ∷ qs) below all [] = refl
  same_numbers (q ∷ qs) below all (pass ∷ passes) = ap₂ (λ k ps. record (numbered_pass frame (numbering frame) pass) { queue = k } ∷ ps) (ap (λ o. unwrap_or o 0) (queue_found q below.0)) (same_numbers qs below.1 all passes)

  -- numbers see queues alone
  on_others : (qs : List ℕ) → AreQueues frame qs → numbered (frame_on qs frame) ≡ on_queues qs (numbered frame)
  on_others qs below = ap (λ ps. record (numbered frame) { passes = ps }) (same_numbers qs below (passes_on (map (queue_name frame) qs) frame.passes) frame.passes)

pub numbered_on : (frame : Frame) (qs : List ℕ) → first_fault frame ≡ None → AreQueues frame qs → numbered (frame_on qs frame) ≡ on_queues qs (numbered frame)
numbered_on frame qs none below = on_others frame (names_known frame none) qs below

-- the frame breaks no rule where each queue serves its pass
pub frame_still_good : (frame : Frame) (qs : List ℕ) → first_fault frame ≡ None → IsValid (numbered frame) → AreQueues frame qs → AllServe (numbered frame).queues qs (numbered frame).passes → first_fault (frame_on qs frame) ≡ None
frame_still_good frame qs none G below serve =
    no_fault (frame_on qs frame) (still_named frame (names_known frame none) qs below) (subst IsValid (sym (numbered_on frame qs none below)) (good_on_queues (numbered frame) qs serve G))
