use Rattle.std.proofs.Common.{length, sym, subst}
use Rattle.std.specs.List.{All}
use Rattle.compile_groups.specs.Groups.{grouping}
use Rattle.compile_record.specs.Recorded.{heap_with}
use Rattle.law_record.proofs.Begun.{all_begun}
use Rattle.law_record.proofs.Carrying.{carries}
use Rattle.law_record.proofs.Compiled.{list, queues_are}
use Rattle.law_record.proofs.Needing.{node_for, are_items}
use Rattle.law_record.proofs.Rising.{waits_rise}
use Rattle.law_record.proofs.Signalling.{signals_count}
use Rattle.law_record.proofs.Waiting.{are_waits}
use Rattle.law_record.proofs.laws.recorded_laws.Goals as goal
use Rattle.law_record.specs.Begun.{IsCutUp}
use Rattle.program.specs.declared.program.Queue.{Queue}

pub returns-clause-carries : goal.returns-clause-carries
returns-clause-carries c = λ frame made good kept C.
    let T = c.timeline_laws.ensures in
    let G = grouping frame made.kept in
    carries frame made good C (c.group_laws.ensures.known frame made.kept good) (T.families (list frame made C) G.families) (T.parts (list frame made C) G.families made.program (queues_are frame made C))

pub returns-clause-needed : goal.returns-clause-needed
returns-clause-needed c = λ frame made good kept C.
    let T = c.timeline_laws.ensures in
    let G = grouping frame made.kept in
    let heap = heap_with C.ordered made.placement in
    let L = c.group_laws.ensures.grouped frame made.kept in
    let S = c.script_laws.ensures.standing frame made.kept heap in
    let K = c.script_laws.ensures.in_turn frame made.kept heap good in
    let count = length G.families in
    let E = T.parts (list frame made C) G.families made.program (queues_are frame made C) in
    let numbered = T.numbered (list frame made C) count in
    let there = T.there (list frame made C) count in
    let order = T.order (list frame made C) count in
    record {
      ordered = C.ordered;
      is_ordered = C.is_ordered;
      node = node_for G heap L S made.program count E numbered there order K;
      items = are_items G heap L S made.program count E numbered there order K;
      waits = are_waits G heap L S made.program count E numbered there order K (T.waits (list frame made C) count K) (T.met (list frame made C));
    }

pub returns-clause-rising : goal.returns-clause-rising
returns-clause-rising c = λ frame made good kept C.
    let T = c.timeline_laws.ensures in
    let G = grouping frame made.kept in
    let S = c.script_laws.ensures.in_turn frame made.kept (heap_with C.ordered made.placement) good in
    waits_rise made.program (list frame made C) (length G.families) (T.parts (list frame made C) G.families made.program (queues_are frame made C)) (T.numbered (list frame made C) (length G.families)) (T.there (list frame made C) (length G.families)) (T.order (list frame made C) (length G.families)) S (T.waits (list frame made C) (length G.families) S) (T.values (list frame made C) (length G.families))

pub returns-clause-signalled : goal.returns-clause-signalled
returns-clause-signalled c = λ frame made good kept C.
    let T = c.timeline_laws.ensures in
    let G = grouping frame made.kept in
    let S = c.script_laws.ensures.in_turn frame made.kept (heap_with C.ordered made.placement) good in
    signals_count made.program (list frame made C) (length G.families) (T.parts (list frame made C) G.families made.program (queues_are frame made C)) (T.numbered (list frame made C) (length G.families)) (T.there (list frame made C) (length G.families)) (T.order (list frame made C) (length G.families)) (T.waits (list frame made C) (length G.families) S)

pub returns-clause-begun : goal.returns-clause-begun
returns-clause-begun c = λ frame made good kept C. subst (λ l. All (λ (queue : Queue). IsCutUp queue.batches) l) (sym (queues_are frame made C)) (all_begun (list frame made C) (grouping frame made.kept).families)
