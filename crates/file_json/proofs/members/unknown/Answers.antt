use Rattle.std.proofs.Common.{sym, ◌∙◌, rules}
use Rattle.std.specs.Map.Iter.{deref_pair}
use Rattle.std.proofs.lemmas.Map.Iter.{rest_more}
use Rattle.file_json.proofs.Walks.{passes_known, stops_at, fails_at}
use Rattle.file_json.proofs.members.unknown.Goals as goal

pub returns-then-not-is_known : goal.returns-then-not-is_known
returns-then-not-is_known c =
    let left = rest_more deref_pair c.loop-name.name-iterator c.next.new.self c.next.result (c.in-Some.name, c.in-Some.field-0-1) c.in-Some.is c.next.ensures.steps in
    fails_at c.refused.result _ _ (search rules) (sym c.loop-name.invariant ∙ stops_at c.args.known.now _ c.loop-name.name-iterator (c.in-Some.name.now, c.in-Some.field-0-1.now) c.next.new.self left (search rules))

pub loop-name-preserved : goal.loop-name-preserved
loop-name-preserved c =
    let left = rest_more deref_pair c.loop-name.name-iterator c.next.new.self c.next.result (c.in-Some.name, c.in-Some.field-0-1) c.in-Some.is c.next.ensures.steps in
    sym (passes_known c.args.known.now _ c.loop-name.name-iterator (c.in-Some.name.now, c.in-Some.field-0-1.now) c.next.new.self left (search rules)) ∙ c.loop-name.invariant
