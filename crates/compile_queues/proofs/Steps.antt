-- The steps of the sweep are those of the frame.
use Rattle.std.proofs.Common.{◌≡◌, ℕ, zero, suc, ◌+◌, ◌-◌, ◌<◌, ◌≤◌, ◌==◌, ◌&&◌, ◌||◌, nat_lt, Bool, true, false, List, [], ◌∷◌, length, map, drop, get_or, slice_get, inl, inr, refl, sym, ap, ap₂, subst, ◌∙◌, arith, ⊎_elim, eqb-true, zero-add}
use Rattle.std.specs.List.{AllPairs, list_any, range_with_len, slice_range}
use Rattle.std.specs.Option.{option_map_or}
use Rattle.std.proofs.lemmas.Bool.{and_parts, cases_Bool, ltb-true}
use Rattle.std.proofs.lemmas.List.{get_or_default, length-map, length-take}
use Rattle.std.proofs.lemmas.List.FromFn.{get_or-map-range_with_len, get_or-range_with_len, length-range_with_len}
use Rattle.compile_queues.specs.Internal.Spans.{AreWithin, is_by, joined, moved, needs_at, no_span, span_at, span_of, spans_of, steps, use_at}
use Rattle.compile_queues.specs.Internal.Sweep.{GoesForward}
use Rattle.compile_queues.specs.Internal.Work.{owners, queue_by}
use Rattle.compile_queues.specs.Cost.{IsCost, IsFrameCost, IsPath, command_cost, costs}
use Rattle.compile_queues.specs.Queues.{on_queues}
use Rattle.compile_queues.specs.declared.spans.Span.{Span}
use Rattle.compile_queues.proofs.Linked.{linked_in, needs_are, passes_in, same_linked_in}
use Rattle.compile_queues.proofs.Moved.{commands_moved, groups_moved, queues_length, with_costs, with_length, with_queue}
use Rattle.compile_queues.proofs.Requeued.{same_kept}
use Rattle.compile_queues.proofs.Runs.{IsOrderly, needed_by, needs_by_spans, orderly, range_at}
use Rattle.frame.specs.Numbered.{NumberedFrame}
use Rattle.compile_groups.proofs.Assembled.{is_grouped}
use Rattle.compile_groups.specs.Commands.{commands}
use Rattle.compile_groups.specs.Groups.{grouping, runs, sharings_in}
use Rattle.compile_groups.specs.Laws.{Before, flat}
use Rattle.compile_groups.specs.Needs.{leads, needs, queue_of}
use Rattle.compile_groups.specs.Uses.{no_use}
use Rattle.compile_groups.specs.declared.command.Command.{Command}
use Rattle.compile_groups.specs.declared.grouping.Grouping.{Grouping}
use Rattle.compile_groups.specs.declared.unit_use.Use.{Use}
use Rattle.frame_cull.specs.Culled.{AreKept}

-- NEEDS

any_below : (p q : ℕ → Bool) (a n : ℕ) → ((j : ℕ) → a ≤ j → j < a + n → p j ≡ q j) → list_any p (range_with_len a n) ≡ list_any q (range_with_len a n)
any_below p q a zero same = refl
any_below p q a (suc n) same = ap₂ (λ x y. x || y) (same a (omega arith) (omega arith)) (any_below p q (a + 1) n (λ j from to. same j (omega (arith, from)) (omega (arith, to))))

pub span_is : (J : Use → Use → Bool) (uses : List Use) (j : ℕ) → j < length uses → span_at (spans_of J uses) j ≡ span_of J uses j
span_is J uses j lt = get_or-map-range_with_len (span_of J uses) 0 (length uses) j j no_span lt (zero-add j)

needed_as : (J : Use → Use → Bool) (uses : List Use) (c d : ℕ) → list_any (needed_by J uses c d) (range_with_len 0 (length uses)) ≡ list_any (needs_at uses (spans_of J uses) c d) (range_with_len 0 (length uses))
needed_as J uses c d = any_below (needed_by J uses c d) (needs_at uses (spans_of J uses) c d) 0 (length uses) (λ j from to. ap (λ (s : Span). (use_at uses j).command == d && list_any (is_by (use_at uses j).unit c) (slice_range uses s.from s.to)) (sym (span_is J uses j (omega (arith, to)))))

-- SPANS ARE WHERE THERE ARE USES

pub spans_within : (J : Use → Use → Bool) (uses : List Use) → AreWithin uses (spans_of J uses)
spans_within J uses = λ j d lt.
    let less : j < length uses = subst (λ n. j < n) (length-map (range_with_len 0 (length uses)) (span_of J uses) ∙ length-range_with_len 0 (length uses)) lt in
    let O : IsOrderly j (span_of J uses j) = orderly J uses j in
    let up_to : (span_of J uses j).to ≤ j = O.1 in
    subst (λ (s : Span). (s.from ≤ s.to) × (s.to ≤ length uses)) (sym (get_or-map-range_with_len (span_of J uses) 0 (length uses) j j d less (zero-add j))) (O.0, omega arith)

-- A NEED GOES FORWARD

module _ (J : Use → Use → Bool) (uses : List Use) (sorted : AllPairs Before uses) where
  before_it : (c d j : ℕ) → j < length uses → needed_by J uses c d j ≡ true → c < d
  before_it c d j lt e =
      let span = span_of J uses j in
      let O : IsOrderly j span = orderly J uses j in
      let parts = and_parts ((use_at uses j).command == d) (list_any (is_by (use_at uses j).unit c) (slice_range uses span.from span.to)) e in
      let P = passes_in (is_by (use_at uses j).unit c) (slice_range uses span.from span.to) parts.1 in
      let by = and_parts (P.it.unit == (use_at uses j).unit) (P.it.command == c) P.passes in
      let short : P.place < span.to - span.from = (let size = length-take (span.to - span.from) (drop span.from uses) in let inside = P.within in omega (arith, size, inside)) in
      let le = O.1 in
      let earlier : span.from + P.place < j = omega (arith, short, le) in
      let at : use_at uses (span.from + P.place) ≡ P.it = get_or_default uses (span.from + P.place) no_use P.it (omega (arith, earlier, lt)) ∙ sym (range_at uses span.from span.to P.place P.it (omega (arith, short))) ∙ P.is in
      up P.it (use_at uses j) (subst (λ u. Before u (use_at uses j)) at (sorted (span.from + P.place) j no_use earlier lt)) (eqb-true P.it.unit (use_at uses j).unit by.0) (eqb-true P.it.command c by.1) (eqb-true (use_at uses j).command d parts.0)
    where
      up : (u v : Use) → Before u v → u.unit ≡ v.unit → u.command ≡ c → v.command ≡ d → c < d
      up u v (inl less) same of_c of_d = absurd (omega (arith, less, same))
      up u v (inr both) same of_c of_d = (let less = both.1 in omega (arith, less, of_c, of_d))

  needed_forward : (c d : ℕ) → list_any (needed_by J uses c d) (range_with_len 0 (length uses)) ≡ true → c < d
  needed_forward c d e =
      let P = passes_in (needed_by J uses c d) (range_with_len 0 (length uses)) e in
      let less : P.place < length uses = subst (λ n. P.place < n) (length-range_with_len 0 (length uses)) P.within in
      let at : P.place ≡ P.it = sym (get_or-range_with_len 0 (length uses) P.place P.it less ∙ zero-add P.place) ∙ P.is in
      before_it c d P.it (subst (λ j. j < length uses) at less) P.passes

  pub goes_forward : (queues : List ℕ) → GoesForward (steps queues uses (spans_of J uses))
  goes_forward queues c d e = ⊎_elim
      (λ along. ltb-true c d (and_parts (nat_lt c d) (nat_lt d (length queues) && get_or queues c 0 == get_or queues d 0) along).0)
      (λ not_along. needed_forward c d (needed_as J uses c d ∙ second (later c d) (list_any (needs_at uses (spans_of J uses) c d) (range_with_len 0 (length uses))) e not_along))
      (cases_Bool (later c d))
    where
      later : ℕ → ℕ → Bool
      later x y = nat_lt x y && (nat_lt y (length queues) && get_or queues x 0 == get_or queues y 0)

      second : (a b : Bool) → (a || b) ≡ true → a ≡ false → b ≡ true
      second a b e f = sym (ap (λ t. t || b) f) ∙ e

-- OF A FRAME ON OTHER QUEUES

module _ (frame : NumberedFrame) (qs : List ℕ) (count : length qs ≡ length frame.passes) (kept : List Bool) where
  abbrev G : Grouping
  G = grouping (on_queues qs frame) kept

  abbrev queues : List ℕ
  queues = map (queue_by qs) (owners frame kept)

  abbrev uses : List Use
  uses = flat (grouping frame kept).groups

  abbrev J : Use → Use → Bool
  J = joined frame.queues (sharings_in frame) queues

  as_many : length queues ≡ length (commands frame kept)
  as_many = queues_length frame qs count kept

  needs_moved : (c d : ℕ) → needs G c d ≡ list_any (needs_at uses (spans_of J uses) c d) (range_with_len 0 (length uses))
  needs_moved c d =
      needs_are G c d (is_grouped (on_queues qs frame) (commands (on_queues qs frame) kept)).in_order.one
      ∙ ap (linked_in c d) (groups_moved frame qs count kept)
      ∙ same_linked_in (moved queues) (λ u. refl) (λ u. refl) c d (runs J uses)
      ∙ needs_by_spans J uses c d
      ∙ needed_as J uses c d

  command_count : length G.commands ≡ length queues
  command_count = ap length (commands_moved frame qs count kept) ∙ with_length queues (commands frame kept) as_many

  queue_is : (c : ℕ) → queue_of G c ≡ get_or queues c 0
  queue_is c = ap (λ cs. option_map_or (λ (command : Command). command.queue) (slice_get cs c) 0) (commands_moved frame qs count kept) ∙ with_queue queues (commands frame kept) c as_many

  leads_moved : (c d : ℕ) → leads G c d ≡ steps queues uses (spans_of J uses) c d
  leads_moved c d =
      ap₂ (λ n b. (nat_lt c d && (nat_lt d n && queue_of G c == queue_of G d)) || b) command_count (needs_moved c d)
      ∙ ap₂ (λ p q. (nat_lt c d && (nat_lt d (length queues) && p == q)) || list_any (needs_at uses (spans_of J uses) c d) (range_with_len 0 (length uses))) (queue_is c) (queue_is d)

  costs_moved : costs G ≡ costs (grouping frame kept)
  costs_moved = ap (map (command_cost G)) (commands_moved frame qs count kept) ∙ with_costs (command_cost (grouping frame kept)) (λ command q. refl) queues (commands frame kept) as_many

  pub costs_length : length (costs (grouping frame kept)) ≡ length queues
  costs_length = length-map (commands frame kept) (command_cost (grouping frame kept)) ∙ sym as_many

  pub sorted : AllPairs Before uses
  sorted = (is_grouped frame (commands frame kept)).in_order.sorted

-- THE COST

same_path : (step other : ℕ → ℕ → Bool) → ((a b : ℕ) → step a b ≡ other a b) → (path : List ℕ) → IsPath step path → IsPath other path
same_path step other same [] P = tt
same_path step other same (b ∷ []) P = tt
same_path step other same (b ∷ (a ∷ path)) P = (sym (same a b) ∙ P.0, same_path step other same (a ∷ path) P.1)

same_cost : (step other : ℕ → ℕ → Bool) → ((a b : ℕ) → step a b ≡ other a b) → (costs : List ℕ) (cost : ℕ) → IsCost step costs cost → IsCost other costs cost
same_cost step other same costs cost C = record {
  path = C.path;
  within = C.within;
  is_path = same_path step other same C.path C.is_path;
  sum = C.sum;
  greatest = λ path below is. C.greatest path below (same_path other step (λ a b. sym (same a b)) path is);
}

-- what the sweep finds is what the frame costs
pub frame_cost : (frame : NumberedFrame) (qs : List ℕ) (count : length qs ≡ length frame.passes) (kept : List Bool) (cost : ℕ) → AreKept frame kept → IsCost (steps (queues frame qs count kept) (uses frame qs count kept) (spans_of (J frame qs count kept) (uses frame qs count kept))) (costs (grouping frame kept)) cost → IsFrameCost (on_queues qs frame) cost
frame_cost frame qs count kept cost K C = record {
  kept = kept;
  are_kept = same_kept qs frame kept K;
  is_cost = subst (λ list. IsCost (leads (G frame qs count kept)) list cost) (sym (costs_moved frame qs count kept)) (same_cost (steps (queues frame qs count kept) (uses frame qs count kept) (spans_of (J frame qs count kept) (uses frame qs count kept))) (leads (G frame qs count kept)) (λ c d. sym (leads_moved frame qs count kept c d)) (costs (grouping frame kept)) cost C);
}
