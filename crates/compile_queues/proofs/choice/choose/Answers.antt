use Rattle.compile_queues.proofs.Picking.{chosen_culled, chosen_good, chosen_meaning, differs, found_cost, is_choice}
use Rattle.compile_queues.proofs.choice.choose.Goals as goal

pub returns-clause-choice : goal.returns-clause-choice
returns-clause-choice c = let found = c.in_ok-found.found in is_choice c.args.frame.now found.queues found.given found.found c.frame-good.ensures.good c.in_ok-found.ensures c.in_ok-chosen.chosen c.in_ok-chosen.ensures

pub returns-clause-good : goal.returns-clause-good
returns-clause-good c = let found = c.in_ok-found.found in chosen_good c.args.frame.now found.queues found.given found.found c.frame-good.ensures.good c.in_ok-found.ensures c.in_ok-chosen.chosen c.in_ok-chosen.ensures

pub returns-clause-numbers : goal.returns-clause-numbers
returns-clause-numbers c = let found = c.in_ok-found.found in differs c.args.frame.now found.queues found.given found.found c.frame-good.ensures.good c.in_ok-found.ensures c.in_ok-chosen.chosen c.in_ok-chosen.ensures

pub returns-clause-meaning : goal.returns-clause-meaning
returns-clause-meaning c = let found = c.in_ok-found.found in chosen_meaning c.args.frame.now found.queues found.given found.found c.frame-good.ensures.good c.in_ok-found.ensures c.in_ok-chosen.chosen c.in_ok-chosen.ensures

pub returns-clause-culled : goal.returns-clause-culled
returns-clause-culled c = let found = c.in_ok-found.found in chosen_culled c.args.frame.now found.queues found.given found.found c.frame-good.ensures.good c.in_ok-found.ensures c.in_ok-chosen.chosen c.in_ok-chosen.ensures

pub returns-clause-given : goal.returns-clause-given
returns-clause-given c = c.in_ok-found.ensures.at_first

pub returns-clause-found : goal.returns-clause-found
returns-clause-found c = let found = c.in_ok-found.found in found_cost c.args.frame.now found.queues found.given found.found c.frame-good.ensures.good c.in_ok-found.ensures c.in_ok-chosen.chosen c.in_ok-chosen.ensures

pub returns-clause-less : goal.returns-clause-less
returns-clause-less c = c.in_ok-found.ensures.less
