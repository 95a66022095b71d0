use Rattle.std.proofs.Common.{length, arith, ◌∙◌}
use Rattle.std.proofs.lemmas.Option.{slice_get-get_or}
use Rattle.check_state.specs.Initialized.{InitializedAt}
use Rattle.check_state.specs.PieceStates.{changes_bytes}
use Rattle.check_state.proofs.Known.{read_piece, read_within}
use Rattle.check_state.proofs.Laws.{load_hazard_here}
use Rattle.check_state.proofs.Tables.{is_last_more}
use Rattle.check_state.proofs.Walks.{below_step, below_all}
use Rattle.check_state.proofs.initialized.first_load_hazard.Goals as goal

pub returns-in-Some-clause-refutes : goal.returns-in-Some-clause-refutes
returns-in-Some-clause-refutes c = λ initialized.
    load_hazard_here c.in-Some.load_hazard c.args.view.now c.args.accesses.now c.loop-j.j _
    (c.in-Some.ensures c.args.accesses.now c.loop-j.j (c.at.ensures ∙ c.loop-j.invariant.changed.each _ (read_piece c.args.view.now c.args.accesses.now c.requires.shape c.requires.listed c.loop-j.j _ c.loop-j-test.true)))
    (initialized c.loop-j.j _ (slice_get-get_or c.args.accesses.now c.loop-j.j _ c.loop-j-test.true))

pub returns-in-Some-clause-first : goal.returns-in-Some-clause-first
returns-in-Some-clause-first c = record {
  place = c.loop-j.j;
  node_access = _;
  at = slice_get-get_or c.args.accesses.now c.loop-j.j _ c.loop-j-test.true;
  below = c.loop-j.invariant.below;
  breaks = c.in-Some.ensures c.args.accesses.now c.loop-j.j (c.at.ensures ∙ c.loop-j.invariant.changed.each _ (read_piece c.args.view.now c.args.accesses.now c.requires.shape c.requires.listed c.loop-j.j _ c.loop-j-test.true));
}

pub put_over-requires-clause-piece : goal.put_over-requires-clause-piece
put_over-requires-clause-piece c = read_within c.args.view.now c.args.accesses.now c.requires.shape c.requires.listed c.loop-j.j _ c.loop-j.changed c.loop-j-test.true c.loop-j.invariant.changed.size

pub loop-j-preserved : goal.loop-j-preserved
loop-j-preserved c =
    let at = slice_get-get_or c.args.accesses.now c.loop-j.j _ c.loop-j-test.true in
    record {
      changed = is_last_more (changes_bytes c.args.view.now) (length c.args.view.now.pieces) c.args.accesses.now c.loop-j.j _ c.loop-j.changed c.put_over.new.self at c.loop-j.invariant.changed c.put_over.ensures;
      below = below_step (λ j a. InitializedAt c.args.view.now c.args.accesses.now j a) c.args.accesses.now c.loop-j.j _ c.loop-j.invariant.below at (c.in_default.ensures c.args.accesses.now c.loop-j.j (c.at.ensures ∙ c.loop-j.invariant.changed.each _ (read_piece c.args.view.now c.args.accesses.now c.requires.shape c.requires.listed c.loop-j.j _ c.loop-j-test.true)));
    }

pub returns-clause-first : goal.returns-clause-first
returns-clause-first c = below_all (λ j a. InitializedAt c.args.view.now c.args.accesses.now j a) c.args.accesses.now c.loop-j.j (omega arith) c.loop-j.invariant.below
