use Rattle.std.proofs.Common.{◌≡◌, None, subst, sym, ap, ◌∙◌}
use Rattle.std.specs.Option.{option_map}
use Rattle.base.proofs.Lists.{entry_of}
use Rattle.program.proofs.Entering.{has_place, read, not_missing}
use Rattle.program.proofs.Obeying.{obeys, entries_obey}
use Rattle.program.specs.Entries.{entries_of, seen}
use Rattle.program.specs.FirstFault.{first_broken}
use Rattle.program.specs.Obeys.{EntryObeys}
use Rattle.program.proofs.valid.ValidProgram.entry.Goals as goal

pub index-requires : goal.index-requires
index-requires c = has_place c.args.self.now c.self.inside.program c.self.inside.nodes c.args.n c.self.view_is c.self.invariant.1 c.requires

pub unreachable-requires : goal.unreachable-requires
unreachable-requires c = not_missing c.args.self.now c.self.inside.program c.self.inside.nodes c.args.n c.self.view_is c.self.invariant.1 c.requires c.index.result.now c.index.ensures (sym c.entry_at.ensures ∙ ap (option_map seen) c.in-None.is)

pub returns-clause-entry : goal.returns-clause-entry
returns-clause-entry c = read c.args.self.now c.self.inside.program c.self.inside.nodes c.args.n c.self.view_is c.self.invariant.1 c.requires c.index.result.now c.index.ensures ∙ sym c.entry_at.ensures ∙ ap (option_map seen) c.in-Some.is

pub returns-clause-obeys : goal.returns-clause-obeys
returns-clause-obeys c = λ rule.
    let program = c.args.self.now in
    let here = read program c.self.inside.program c.self.inside.nodes c.args.n c.self.view_is c.self.invariant.1 c.requires c.index.result.now c.index.ensures ∙ sym c.entry_at.ensures ∙ ap (option_map seen) c.in-Some.is in
    entry_of (EntryObeys rule program) (entries_of program) c.args.n (seen c.in-Some.entry) (entries_obey program rule (obeys program (subst (λ program. first_broken program ≡ None) c.self.view_is c.self.invariant.0) rule)) here
