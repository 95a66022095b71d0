-- What the sweep over a frame's work needs, and what it finds.
use Rattle.std.proofs.Common.{◌≡◌, ◌≤◌, ◌<◌, ℕ, Bool, List, length, map, get_or, Option, Some, None, sym, ap, subst, ◌∙◌, arith, ⊎_elim}
use Rattle.std.specs.List.{All, range_with_len}
use Rattle.std.proofs.lemmas.Bool.{cases_lt}
use Rattle.std.proofs.lemmas.List.{get_or_past, length-map}
use Rattle.std.proofs.lemmas.List.Elements.{All-map}
use Rattle.std.proofs.lemmas.List.FromFn.{length-range_with_len}
use Rattle.compile_queues.specs.Internal.Spans.{AreWithin, joined, span_of, spans_of, steps}
use Rattle.compile_queues.specs.Internal.Sweep.{GoesForward}
use Rattle.compile_queues.specs.Internal.Work.{IsOf, IsWork, owners, queue_by}
use Rattle.compile_queues.specs.Cost.{IsCost, IsFrameCost, costs}
use Rattle.compile_queues.specs.Queues.{on_queues}
use Rattle.compile_queues.specs.declared.spans.Span.{Span}
use Rattle.compile_queues.specs.declared.work.Work.{Work}
use Rattle.compile_queues.proofs.Steps.{costs_length, frame_cost, goes_forward, sorted, spans_within}
use Rattle.frame.specs.Numbered.{NumberedFrame}
use Rattle.compile_groups.specs.Groups.{grouping, sharings_in}
use Rattle.compile_groups.specs.Laws.{flat}
use Rattle.compile_groups.specs.declared.grouping.Grouping.{Grouping}
use Rattle.compile_groups.specs.declared.unit_use.Use.{Use}
use Rattle.frame_cull.specs.Culled.{AreKept}

-- a pass's queue, or queue 0, is there
by_owner : (qs : List ℕ) (count : ℕ) → 0 < count → All (λ q. q < count) qs → (owner : Option ℕ) → queue_by qs owner < count
by_owner qs count some all None = some
by_owner qs count some all (Some p) = ⊎_elim (λ lt. all p 0 lt) (λ ge. subst (λ q. q < count) (sym (get_or_past qs p 0 ge)) some) (cases_lt p (length qs))

pub spans_length : (J : Use → Use → Bool) (uses : List Use) (spans : List Span) → spans ≡ spans_of J uses → length spans ≡ length uses
spans_length J uses spans is = ap length is ∙ length-map (range_with_len 0 (length uses)) (span_of J uses) ∙ length-range_with_len 0 (length uses)

module _ (frame : NumberedFrame) (work : Work) (qs : List ℕ) (W : IsWork frame work) (count : length qs ≡ length frame.passes) (queues : List ℕ) (is : queues ≡ map (queue_by qs) work.owners) where
  abbrev own_queues : List ℕ
  own_queues = map (queue_by qs) (owners frame work.kept)

  abbrev own_uses : List Use
  own_uses = flat (grouping frame work.kept).groups

  abbrev own_joined : Use → Use → Bool
  own_joined = joined frame.queues (sharings_in frame) own_queues

  queues_are : queues ≡ own_queues
  queues_are = is ∙ ap (map (queue_by qs)) W.gathered.owners_are

  pub as_costs : length queues ≡ length work.costs
  as_costs = ap length queues_are ∙ sym (costs_length frame qs count work.kept) ∙ sym (ap length W.gathered.costs_are)

  pub all_below : 0 < length frame.queues → All (λ q. q < length frame.queues) qs → All (λ q. q < length work.families) queues
  all_below some all = subst (λ F. All (λ q. q < length F) queues) (sym W.gathered.families_are) (subst (All (λ q. q < length frame.queues)) (sym is) (All-map (λ q. q < length frame.queues) (queue_by qs) work.owners (λ k d lt. by_owner qs (length frame.queues) some all (get_or work.owners k d))))

  module _ (spans : List Span) (spanned : spans ≡ spans_of (joined work.families work.sharings queues) work.uses) where
    spans_are : spans ≡ spans_of own_joined own_uses
    spans_are =
        spanned
        ∙ ap (λ F. spans_of (joined F work.sharings queues) work.uses) W.gathered.families_are
        ∙ ap (λ S. spans_of (joined frame.queues S queues) work.uses) W.gathered.sharings_are
        ∙ ap (λ Q. spans_of (joined frame.queues (sharings_in frame) Q) work.uses) queues_are
        ∙ ap (λ U. spans_of own_joined U) W.gathered.uses_are

    pub is_forward : GoesForward (steps queues work.uses spans)
    is_forward =
        subst (λ Q. GoesForward (steps Q work.uses spans)) (sym queues_are)
        (subst (λ U. GoesForward (steps own_queues U spans)) (sym W.gathered.uses_are)
        (subst (λ S. GoesForward (steps own_queues own_uses S)) (sym spans_are)
        (goes_forward own_joined own_uses (sorted frame qs count work.kept) own_queues)))

    pub swept : (cost : ℕ) → IsCost (steps queues work.uses spans) work.costs cost → IsFrameCost (on_queues qs frame) cost
    swept cost C =
        frame_cost frame qs count work.kept cost W.are_kept
        (subst (λ S. IsCost (steps own_queues own_uses S) (costs (grouping frame work.kept)) cost) spans_are
        (subst (λ U. IsCost (steps own_queues U spans) (costs (grouping frame work.kept)) cost) W.gathered.uses_are
        (subst (λ Q. IsCost (steps Q work.uses spans) (costs (grouping frame work.kept)) cost) queues_are
        (subst (λ list. IsCost (steps queues work.uses spans) list cost) W.gathered.costs_are C))))

pub work_is : (frame : NumberedFrame) (kept : List Bool) (owned : List (Option ℕ)) (G : Grouping) (work : Work) → AreKept frame kept → owned ≡ owners frame kept → G ≡ grouping frame kept → IsOf kept owned G work → IsWork frame work
work_is frame kept owned G work K o g O = record {
  are_kept = subst (AreKept frame) (sym O.kept_is) K;
  gathered = subst (λ k. IsOf k (owners frame k) (grouping frame k) work) (sym O.kept_is) (subst (λ H. IsOf kept (owners frame kept) H work) g (subst (λ os. IsOf kept os G work) o O));
}

pub all_within : (J : Use → Use → Bool) (uses : List Use) (j : ℕ) (spans : List Span) → j ≤ length uses → length uses ≤ j → spans ≡ map (span_of J uses) (range_with_len 0 j) → AreWithin uses spans
all_within J uses j spans le ge is = let end : j ≡ length uses = omega (arith, le, ge) in subst (AreWithin uses) (sym (is ∙ ap (λ n. map (span_of J uses) (range_with_len 0 n)) end)) (spans_within J uses)
