use Rattle.std.proofs.Common.{◌≡◌, ◌≤◌, ◌<◌, ℕ, ◌+◌, ◌*◌, length, arith, ap, ◌∙◌}
use Rattle.std.proofs.lemmas.Nat.{mul-le, row_fits}
use Rattle.base_first.specs.Points.{point_at}
use Rattle.base_first.proofs.Steps.{stepped, stepped_alone, newest_on}
use Rattle.base_first.proofs.walk.step.Goals as goal

within : (n q t o w size : ℕ) → w ≡ q * t → o < q → size ≡ (n + (q * t + q * t)) * (q * t) → (n + o * t + w + t) * w ≤ size
within n q t o w size ew lt e =
    let f = row_fits o t q t lt (omega arith) in
    let m = mul-le (n + o * t + w + t) w (n + (w + w)) w (omega (arith, f, ew)) (omega arith) in
    let g : (n + (w + w)) * w ≡ (n + (q * t + q * t)) * (q * t) = ap (λ k. (n + (k + k)) * k) ew in
    omega (arith, m, g, e)

inside : (n q t i w size : ℕ) → w ≡ q * t → i < n → size ≡ (n + (q * t + q * t)) * (q * t) → i * w + w ≤ size
inside n q t i w size ew lt e =
    let m = row_fits i w (n + (w + w)) w (omega (arith, lt)) (omega arith) in
    let g : (n + (w + w)) * w ≡ (n + (q * t + q * t)) * (q * t) = ap (λ k. (n + (k + k)) * k) ew in
    omega (arith, m, g, e)

pub take_rows-requires-clause-within : goal.take_rows-requires-clause-within
take_rows-requires-clause-within c = within (length c.args.points.now) c.args.size.queues c.args.size.channels (point_at c.args.points.now c.args.p).queue c.args.size.width (length c.open_group.new.numbers) c.requires.width (c.requires.lined.queue c.args.p c.requires.p) c.open_group.ensures.walked.size

pub take_row-requires-clause-i : goal.take_row-requires-clause-i
take_row-requires-clause-i c =
    let l = c.requires.lined.met c.args.p c.in-Some.signal c.requires.p c.in-Some.is in
    inside (length c.args.points.now) c.args.size.queues c.args.size.channels c.in-Some.signal c.args.size.width (length c.give_row.new.numbers) c.requires.width (omega (arith, l, c.requires.p))
    (c.give_row.ensures.length ∙ c.put.ensures.length ∙ c.take_rows.ensures.length ∙ c.open_group.ensures.walked.size)

pub take_row-requires-clause-apart : goal.take_row-requires-clause-apart
take_row-requires-clause-apart c = let l = c.requires.lined.met c.args.p c.in-Some.signal c.requires.p c.in-Some.is in omega (arith, l)

pub returns-in-Some-clause-walked : goal.returns-in-Some-clause-walked
returns-in-Some-clause-walked c = stepped c.args.points.now c.args.size.queues c.args.size.channels c.requires.lined c.args.p c.args.size.width c.open_group.new.numbers c.take_rows.new.numbers c.put.new.numbers c.give_row.new.numbers c.open_group.new.groups c.requires.p c.requires.width c.open_group.ensures.group c.take_rows.ensures.taken c.put.ensures.put c.give_row.ensures.given c.open_group.ensures.walked
    c.in-Some.signal c.take_row.new.numbers (c.take_row.ensures.length ∙ c.give_row.ensures.length ∙ c.put.ensures.length ∙ c.take_rows.ensures.length) c.in-Some.is c.take_row.ensures.taken c.take_row.ensures.others

pub returns-in-Some-clause-newest : goal.returns-in-Some-clause-newest
returns-in-Some-clause-newest c = newest_on c.args.points.now c.args.size.queues c.args.size.channels c.requires.lined c.args.p c.args.groups.now c.open_group.new.groups c.requires.p c.open_group.ensures.group c.open_group.ensures.others c.requires.newest

pub returns-in_default-clause-walked : goal.returns-in_default-clause-walked
returns-in_default-clause-walked c = stepped_alone c.args.points.now c.args.size.queues c.args.size.channels c.requires.lined c.args.p c.args.size.width c.open_group.new.numbers c.take_rows.new.numbers c.put.new.numbers c.give_row.new.numbers c.open_group.new.groups c.requires.p c.requires.width c.open_group.ensures.group c.take_rows.ensures.taken c.put.ensures.put c.give_row.ensures.given c.open_group.ensures.walked
    (c.give_row.ensures.length ∙ c.put.ensures.length ∙ c.take_rows.ensures.length) c.in_default.is

pub returns-in_default-clause-newest : goal.returns-in_default-clause-newest
returns-in_default-clause-newest c = newest_on c.args.points.now c.args.size.queues c.args.size.channels c.requires.lined c.args.p c.args.groups.now c.open_group.new.groups c.requires.p c.open_group.ensures.group c.open_group.ensures.others c.requires.newest
