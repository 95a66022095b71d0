use Rattle.device_workers.proofs.run.run_workers.Given as goal

abbrev pub ghosts-run_task : goal.ghosts-run_task
ghosts-run_task g a = record {
  program = a.program.now.program;
  tend = a.tend;
  parts = a.blanks.events.parts;
  event_ledger = a.blanks.events.name;
  end_ledger = a.blanks.ends.name;
  move_ledger = a.blanks.moves.name;
}
