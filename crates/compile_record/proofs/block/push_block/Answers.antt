use Rattle.std.proofs.Common.{◌<◌, ◌++◌, ◌∙◌, length, map, sym, ap, subst}
use Rattle.std.specs.List.{All, flat_map}
use Rattle.base.proofs.Lists.{entry_of}
use Rattle.base.specs.Operands.{operands_of}
use Rattle.compile_record.proofs.Blocks.{on_ok, whole}
use Rattle.compile_record.proofs.Told.{all_used, all_there}
use Rattle.compile_record.proofs.block.push_block.Goals as goal
use Rattle.compile_record.specs.Internal.PrologueFacts.{IsUsed}
use Rattle.compile_record.specs.Script.{use_needs, use_prologues, use_releases, does_command, host_barrier, groups_used}
use Rattle.compile_record.specs.declared.mark.Marked.TheVariants.{Needs}

pub need_groups-requires : goal.need_groups-requires
need_groups-requires g c = (c.requires.0, subst (All (IsUsed c.args.groups.now c.args.command.now.queue)) (sym (c.as_slice-used.ensures ∙ c.in_ok-list.ensures)) (all_used c.args.groups.now c.args.c c.args.command.now c.requires.1.1.0 c.requires.1.1.1.1))

pub push_prologues-requires : goal.push_prologues-requires
push_prologues-requires g c = (c.requires.0, (c.requires.1.0, (c.requires.1.1.1.0, subst (All (λ n. n < length c.args.groups.now.groups)) (sym (c.as_slice-used.ensures ∙ c.in_ok-list.ensures)) (all_there c.args.groups.now c.args.command.now.queue (groups_used c.args.groups.now c.args.c) (all_used c.args.groups.now c.args.c c.args.command.now c.requires.1.1.0 c.requires.1.1.1.1)))))

pub push_releases-requires : goal.push_releases-requires
push_releases-requires g c = (c.requires.0, (c.requires.1.0, (c.requires.1.1.1.0, subst (All (λ n. n < length c.args.groups.now.groups)) (sym (c.as_slice-used.ensures ∙ c.in_ok-list.ensures)) (all_there c.args.groups.now c.args.command.now.queue (groups_used c.args.groups.now c.args.c) (all_used c.args.groups.now c.args.c c.args.command.now c.requires.1.1.0 c.requires.1.1.1.1)))))

pub push_command-requires-clause-operands : goal.push_command-requires-clause-operands
push_command-requires-clause-operands g c = entry_of (λ command. All (λ r. r < length c.args.groups.now.shapes) (operands_of command.op)) c.args.groups.now.commands c.args.c c.args.command.now c.requires.1.1.1.0.operands c.requires.1.1.1.1

pub push_host_barrier-requires-clause-operands : goal.push_host_barrier-requires-clause-operands
push_host_barrier-requires-clause-operands g c = entry_of (λ command. All (λ r. r < length c.args.groups.now.shapes) (operands_of command.op)) c.args.groups.now.commands c.args.c c.args.command.now c.requires.1.1.1.0.operands c.requires.1.1.1.1

pub returns : goal.returns
returns g c =
    let used = c.as_slice-used.ensures ∙ c.in_ok-list.ensures in
    let G = c.args.groups.now in
    let q = c.args.command.now.queue in
    let n = c.args.c in
    on_ok c.push_host_barrier.result (whole c.args.script.now c.need_groups.new.script c.push_prologues.new.script c.push_command.new.script c.push_releases.new.script c.push_host_barrier.new.script
    (map (Needs q) (flat_map (use_needs G g.heap q n) (groups_used G n)))
    (flat_map (use_prologues G g.heap n) (groups_used G n))
    (flat_map (use_releases G g.heap q n) (groups_used G n))
    (host_barrier G c.args.command.now c.args.command.now.export)
    (does_command G n c.args.command.now)
    (c.in_ok-need_groups.ensures ∙ ap (λ l. c.args.script.now ++ map (Needs q) (flat_map (use_needs G g.heap q n) l)) used)
    (c.in_ok-push_prologues.ensures ∙ ap (λ l. c.need_groups.new.script ++ flat_map (use_prologues G g.heap n) l) used)
    c.in_ok-push_command.ensures
    (c.in_ok-push_releases.ensures ∙ ap (λ l. c.push_command.new.script ++ flat_map (use_releases G g.heap q n) l) used))
    c.push_host_barrier.ensures
