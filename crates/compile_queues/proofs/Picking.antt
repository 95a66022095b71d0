-- The choice, one pass further, and what it makes of the frame.
use Rattle.std.proofs.Common.{◌≡◌, ◌≤◌, ◌<◌, ◌↔◌, ℕ, suc, ◌+◌, true, false, List, [], ◌∷◌, length, map, get_or, slice_get, slice_set, Some, None, refl, sym, ap, subst, ◌∙◌, arith, ⊎_elim}
use Rattle.std.specs.List.{All, list_all}
use Rattle.std.specs.Option.{option_map_or}
use Rattle.std.proofs.lemmas.Bool.{and_from, cases_eq}
use Rattle.std.proofs.lemmas.List.{get_or-map, get_or-set_other, get_or-set_same, get_or_default, length-map, length-set}
use Rattle.std.proofs.lemmas.List.Elements.{All-head, All-tail, recursion_from_All}
use Rattle.std.proofs.lemmas.Option.{slice_get-get_or}
use Rattle.compile_queues.specs.Choice.{Chosen, Costs, DiffersInQueues, IsChoice, IsPick}
use Rattle.compile_queues.specs.Internal.Chosen.{IsFound}
use Rattle.compile_queues.specs.Cost.{IsFrameCost}
use Rattle.compile_queues.specs.Queues.{AllServe, on_queues, queues_of, requeued, serves}
use Rattle.compile_queues.specs.Renamed.{AreQueues, frame_on}
use Rattle.compile_queues.proofs.Frames.{frame_still_good, numbered_on}
use Rattle.compile_queues.proofs.Requeued.{same_culled, same_meaning, served}
use Rattle.base.specs.Runs.{runs}
use Rattle.base.specs.declared.op.Op.{Op}
use Rattle.base.specs.declared.shape.Family.{Family}
use Rattle.base.specs.declared.shape.Family.TheVariants.{Graphics}
use Rattle.frame.proofs.Necessary.{good}
use Rattle.frame.proofs.Small.{none_broken}
use Rattle.frame.specs.FirstFault.{first_fault}
use Rattle.frame.specs.Valid.{IsValid}
use Rattle.frame.specs.Numbered.{NumberedFrame, numbered, numbered_pass}
use Rattle.frame.specs.Units.{numbering}
use Rattle.frame.specs.declared.frame.Frame.{Frame}
use Rattle.frame.specs.declared.numbered.NumberedPass.{NumberedPass}
use Rattle.frame_meaning.specs.Meaning.{meaning}
use Rattle.frame_cull.specs.Culled.{Culled}
use Rattle.frame_cull.specs.Versions.{no_pass, pass_at}

-- AS GIVEN

own_queues : (passes : List NumberedPass) → requeued (map (λ pass. pass.queue) passes) passes ≡ passes
own_queues [] = refl
own_queues (pass ∷ passes) = ap (λ ps. pass ∷ ps) (own_queues passes)

pub as_given : (frame : NumberedFrame) → on_queues (queues_of frame) frame ≡ frame
as_given frame = ap (λ ps. record frame { passes = ps }) (own_queues frame.passes)

all_run : (family : Family) (ops : List (Op ℕ)) → All (λ op. runs op family ≡ true) ops → list_all (λ op. runs op family) ops ≡ true
all_run family [] all = refl
all_run family (op ∷ ops) all = and_from (runs op family) (list_all (λ o. runs o family) ops) (All-head (λ o. runs o family ≡ true) op ops all) (all_run family ops (All-tail (λ o. runs o family ≡ true) op ops all))

serves_by : (queues : List Family) (pass : NumberedPass) (q : ℕ) (family : Family) → slice_get queues q ≡ Some family → list_all (λ op. runs op family) pass.ops ≡ true → serves queues pass q ≡ true
serves_by queues pass q family at all = ap (λ o. option_map_or (λ f. list_all (λ op. runs op f) pass.ops) o false) at ∙ all

pub given_serves : (frame : NumberedFrame) → IsValid frame → (k : ℕ) → k < length frame.passes → serves frame.queues (pass_at frame k) (get_or (queues_of frame) k 0) ≡ true
given_serves frame G k lt =
    let pass = pass_at frame k in
    let inside : pass.queue < length frame.queues = (G.within k no_pass lt).queue in
    let family = get_or frame.queues pass.queue Graphics in
    let at : slice_get frame.queues pass.queue ≡ Some family = slice_get-get_or frame.queues pass.queue Graphics inside in
    let all : list_all (λ op. runs op family) pass.ops ≡ true = all_run family pass.ops (λ j d less. ((G.passes_good k no_pass lt).ops_good j d less).on_queue family at) in
    subst (λ q. serves frame.queues pass q ≡ true) (sym (get_or-map (λ p. p.queue) frame.passes k no_pass 0 lt)) (serves_by frame.queues pass pass.queue family at all)

pub given_below : (frame : NumberedFrame) → IsValid frame → All (λ q. q < length frame.queues) (queues_of frame)
given_below frame G k d lt =
    let less : k < length frame.passes = subst (λ n. k < n) (length-map frame.passes (λ p. p.queue)) lt in
    subst (λ q. q < length frame.queues) (sym (get_or-map (λ p. p.queue) frame.passes k no_pass d less)) (G.within k no_pass less).queue

pub given_count : (frame : NumberedFrame) (queues : List ℕ) → queues ≡ queues_of frame → length queues ≡ length frame.passes
given_count frame queues is = ap length is ∙ length-map frame.passes (λ p. p.queue)

pub given_all : (frame : NumberedFrame) (queues : List ℕ) → IsValid frame → queues ≡ queues_of frame → All (λ q. q < length frame.queues) queues
given_all frame queues G is = subst (All (λ q. q < length frame.queues)) (sym is) (given_below frame G)

pub found_first : (frame : NumberedFrame) (queues : List ℕ) (given : ℕ) → IsValid frame → queues ≡ queues_of frame → IsFrameCost (on_queues queues frame) given → IsFound frame 0 given queues given
found_first frame queues given G is C = record {
  chosen = subst (Chosen frame 0) (sym is) Chosen.given;
  count = ap length is ∙ length-map frame.passes (λ p. p.queue);
  runs = λ k lt. subst (λ qs. serves frame.queues (pass_at frame k) (get_or qs k 0) ≡ true) (sym is) (given_serves frame G k lt);
  at_first = subst (λ f. IsFrameCost f given) (ap (λ qs. on_queues qs frame) is ∙ as_given frame) C;
  now = C;
  less = omega arith;
}

-- ONE PASS MORE

pub found_below : (frame : NumberedFrame) (p given : ℕ) (queues : List ℕ) (found : ℕ) → IsFound frame p given queues found → All (λ q. q < length frame.queues) queues
found_below frame p given queues found F k d lt =
    let less : k < length frame.passes = subst (λ n. k < n) F.count lt in
    subst (λ q. q < length frame.queues) (get_or_default queues k 0 d lt) (served frame.queues (pass_at frame k) (get_or queues k 0) (F.runs k less)).0

pub found_more : (frame : NumberedFrame) (p given : ℕ) (queues more : List ℕ) (found q cost : ℕ) → p < length frame.passes → IsFound frame p given queues found → IsPick frame queues p q → Costs frame queues p q cost → cost ≤ found → more ≡ slice_set queues p q → IsFound frame (p + 1) given more cost
found_more frame p given queues more found q cost lt F P C le set =
    subst (λ qs. IsFound frame (p + 1) given qs cost) (sym set) (record {
      chosen = Chosen.one_more F.chosen lt P;
      count = length-set queues p q ∙ F.count;
      runs = λ k less. ⊎_elim (λ e. here k e) (λ ne. subst (λ x. serves frame.queues (pass_at frame k) x ≡ true) (sym (get_or-set_other queues p k q 0 ne)) (F.runs k less)) (cases_eq k p);
      at_first = F.at_first;
      now = C;
      less = (let before = F.less in omega (arith, before, le));
    })
  where
    here : (k : ℕ) → k ≡ p → serves frame.queues (pass_at frame k) (get_or (slice_set queues p q) k 0) ≡ true
    here k e = subst (λ j. serves frame.queues (pass_at frame j) (get_or (slice_set queues p q) j 0) ≡ true) (sym e) (subst (λ x. serves frame.queues (pass_at frame p) x ≡ true) (sym (get_or-set_same queues p q 0 (subst (λ n. p < n) (sym F.count) lt))) P.runs)

-- THE CHOSEN FRAME

serve_all : (queues : List Family) (qs : List ℕ) (passes : List NumberedPass) → ((k : ℕ) → k < length passes → serves queues (get_or passes k no_pass) (get_or qs k 0) ≡ true) → AllServe queues qs passes
serve_all queues [] passes each = tt
serve_all queues (q ∷ qs) [] each = tt
serve_all queues (q ∷ qs) (pass ∷ passes) each = (each 0 (omega arith), serve_all queues qs passes (λ k lt. each (suc k) (omega (arith, lt))))

pub found_serves : (frame : NumberedFrame) (p given : ℕ) (queues : List ℕ) (found : ℕ) → IsFound frame p given queues found → AllServe frame.queues queues frame.passes
found_serves frame p given queues found F = serve_all frame.queues queues frame.passes F.runs

pub found_queues : (frame : Frame) (p given : ℕ) (queues : List ℕ) (found : ℕ) → IsFound (numbered frame) p given queues found → All (λ q. q < length frame.queues) queues
found_queues frame p given queues found F = subst (λ n. All (λ q. q < n) queues) (length-map frame.queues (λ q. q.family)) (found_below (numbered frame) p given queues found F)

pub found_there : (frame : Frame) (p given : ℕ) (queues : List ℕ) (found : ℕ) → IsFound (numbered frame) p given queues found → AreQueues frame queues
found_there frame p given queues found F = recursion_from_All (λ q. q < length frame.queues) queues (found_queues frame p given queues found F)

pub found_count : (frame : Frame) (p given : ℕ) (queues : List ℕ) (found : ℕ) → IsFound (numbered frame) p given queues found → length queues ≡ length frame.passes
found_count frame p given queues found F = F.count ∙ length-map frame.passes (numbered_pass frame (numbering frame))

module _ (frame : Frame) (queues : List ℕ) (given found : ℕ) (none : first_fault frame ≡ None) (F : IsFound (numbered frame) (length (numbered frame).passes) given queues found) (chosen : Frame) (is : chosen ≡ frame_on queues frame) where
  abbrev n : NumberedFrame
  n = numbered frame

  there : AreQueues frame queues
  there = found_there frame (length n.passes) given queues found F

  pub chosen_good : first_fault chosen ≡ None
  chosen_good = ap first_fault is ∙ frame_still_good frame queues none (good frame (none_broken frame none)) there (found_serves n (length n.passes) given queues found F)

  pub is_choice : IsChoice frame chosen
  is_choice = record { queues = queues; picked = F.chosen; is = is }

  chosen_numbers : numbered chosen ≡ on_queues queues n
  chosen_numbers = ap numbered is ∙ numbered_on frame queues none there

  pub differs : DiffersInQueues n (numbered chosen)
  differs = (queues, chosen_numbers)

  pub chosen_meaning : (unit : ℕ) → meaning (numbered chosen) unit ≡ meaning n unit
  chosen_meaning unit = ap (λ (f : NumberedFrame). meaning f unit) chosen_numbers ∙ same_meaning queues n unit

  pub chosen_culled : (p : ℕ) → Culled (numbered chosen) p ↔ Culled n p
  chosen_culled p = subst (λ (f : NumberedFrame). Culled f p ↔ Culled n p) (sym chosen_numbers) (same_culled queues n p)

  pub found_cost : IsFrameCost (numbered chosen) found
  found_cost = subst (λ (f : NumberedFrame). IsFrameCost f found) (sym chosen_numbers) F.now
