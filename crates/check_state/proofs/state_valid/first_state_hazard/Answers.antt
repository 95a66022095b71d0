use Rattle.std.proofs.Common.{length, arith}
use Rattle.std.proofs.lemmas.Option.{slice_get-get_or}
use Rattle.check_state.specs.StateValid.{StateValidAt}
use Rattle.check_state.proofs.Known.{read_within}
use Rattle.check_state.proofs.Laws.{state_hazard_here}
use Rattle.check_state.proofs.Walks.{node_access_there, below_step, below_all}
use Rattle.check_state.proofs.state_valid.first_state_hazard.Goals as goal

pub returns-in-Some-clause-refutes : goal.returns-in-Some-clause-refutes
returns-in-Some-clause-refutes c = λ state_valid.
    let t = node_access_there c.args.accesses.now c.loop-j.j c.loop-j-test.true in
    state_hazard_here c.in-Some.state_hazard c.args.view.now c.args.accesses.now c.loop-j.j t.0 (c.in-Some.ensures t.0 t.1) (state_valid c.loop-j.j t.0 t.1)

pub returns-in-Some-clause-first : goal.returns-in-Some-clause-first
returns-in-Some-clause-first c =
    let t = node_access_there c.args.accesses.now c.loop-j.j c.loop-j-test.true in
    record { place = c.loop-j.j; node_access = t.0; at = t.1; below = c.loop-j.invariant.below; breaks = c.in-Some.ensures t.0 t.1 }

pub add-requires-clause-layouts : goal.add-requires-clause-layouts
add-requires-clause-layouts c = read_within c.args.view.now c.args.accesses.now c.requires.shape c.requires.listed c.loop-j.j _ c.loop-j.past.layouts c.loop-j-test.true c.loop-j.invariant.past.layouts.size

pub add-requires-clause-owners : goal.add-requires-clause-owners
add-requires-clause-owners c = read_within c.args.view.now c.args.accesses.now c.requires.shape c.requires.listed c.loop-j.j _ c.loop-j.past.owners c.loop-j-test.true c.loop-j.invariant.past.owners.size

pub add-requires-clause-transfers : goal.add-requires-clause-transfers
add-requires-clause-transfers c = read_within c.args.view.now c.args.accesses.now c.requires.shape c.requires.listed c.loop-j.j _ c.loop-j.past.transfers c.loop-j-test.true c.loop-j.invariant.past.transfers.size

pub loop-j-preserved : goal.loop-j-preserved
loop-j-preserved c =
    let t = node_access_there c.args.accesses.now c.loop-j.j c.loop-j-test.true in
    record {
      past = c.add.ensures (length c.args.view.now.pieces) c.args.accesses.now c.loop-j.j (slice_get-get_or c.args.accesses.now c.loop-j.j _ c.loop-j-test.true) c.loop-j.invariant.past;
      below = below_step (λ j a. StateValidAt c.args.view.now c.args.accesses.now j a) c.args.accesses.now c.loop-j.j t.0 c.loop-j.invariant.below t.1 (c.in_default.ensures t.0 t.1);
    }

pub returns-clause-first : goal.returns-clause-first
returns-clause-first c = below_all (λ j a. StateValidAt c.args.view.now c.args.accesses.now j a) c.args.accesses.now c.loop-j.j (omega arith) c.loop-j.invariant.below
