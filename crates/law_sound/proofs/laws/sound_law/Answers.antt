use Rattle.std.proofs.Common.{refl}
use Rattle.law_sound.proofs.Soundness.{facts}
use Rattle.law_sound.proofs.laws.sound_law.Goals as goal
use Rattle.law_sound.specs.Nodes.{nodes_of, steps}
use Rattle.law_sound.specs.Plan.{plan_of}
use Rattle.compile_groups.specs.Groups.{grouping}
use Rattle.compile_record.specs.Recorded.{heap_with, recorded}
use Rattle.check_access.specs.Views.{view_of}

pub returns : goal.returns
returns c = λ frame kept ordered places good is_ordered least accessed.
    let G = grouping frame kept in
    let heap = heap_with ordered places in
    let program = recorded frame kept ordered places in
    let P = c.places_law.ensures in
    let A = c.aliases_law.ensures in
    let found = c.cut_laws.ensures.least program (steps G heap) G.families refl (c.script_laws.ensures.in_turn frame kept heap good) in
    let none = c.faultless_law.ensures frame (record { program = program; kept = kept; placement = places }) good (record { ordered = ordered; is_ordered = is_ordered; least = least; recorded = refl }) in
    let shaped = c.view_law.ensures program none in (
      found.0,
      (c.node_laws.ensures.sound (view_of program) shaped (c.order_laws.ensures.single program) found.0).1 (c.crossing_laws.ensures.sound (plan_of G heap) (view_of program) (nodes_of G heap) shaped
          (facts (plan_of G heap) (view_of program) (nodes_of G heap) (c.cut_laws.ensures.full program (steps G heap) G.families refl)
          (P.grouped frame kept ordered places good is_ordered least)
          (P.roles frame kept ordered places good is_ordered least)
          (P.placed frame kept ordered places good is_ordered least)
          (A.ordered frame kept ordered places good is_ordered least)
          (A.barriers frame kept ordered places good is_ordered least)
          (A.before frame kept ordered places good is_ordered least)
          (A.kept frame kept ordered places good is_ordered least)
          accessed)
          found.0 found.1),
    )
