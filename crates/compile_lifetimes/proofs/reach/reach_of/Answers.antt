use Rattle.std.proofs.Common.{◌≡◌, ◌||◌, ℕ, ap, ◌∙◌}
use Rattle.compile_groups.specs.Needs.{needs, leads}
use Rattle.compile_lifetimes.specs.Internal.Leading.{comes_later}
use Rattle.compile_lifetimes.proofs.Adding.{both_kinds}
use Rattle.compile_lifetimes.proofs.reach.reach_of.Goals as goal
use Rattle.base_reach.specs.Pairs.{has}
use Rattle.base_reach.proofs.Linked.{paths_same}

pub returns-clause-has : goal.returns-clause-has
returns-clause-has c a b =
    let G = c.args.groups.now in
    let closed = c.close.ensures.has a b in
    let edges : (x y : ℕ) → has c.add_needs.new.rows x y ≡ leads G x y = λ x y.
    c.add_needs.ensures.has x y
    ∙ ap (λ o. needs G x y || o) (c.add_queues.ensures.has x y ∙ ap (λ list. comes_later list x y || has c.in_ok-rows.rows x y) c.commands-commands.ensures.commands ∙ ap (λ o. comes_later G.commands x y || o) (c.in_ok-rows.ensures.has x y))
    ∙ both_kinds (needs G x y) (comes_later G.commands x y) in
    let same = paths_same (has c.add_needs.new.rows) (leads G) edges a b in
    (λ h. same.0 (closed.0 h), λ p. closed.1 (same.1 p))
