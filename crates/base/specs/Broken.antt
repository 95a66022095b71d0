-- The first broken rule of a file.
use Rattle.std.specs.Prelude.{Some, None}
use Rattle.base.specs.declared.broken.Broken.{Broken}
use Rattle.base.specs.declared.limit.Limit.{Limit}

-- a rule that is none on limits
abbrev pub of_rule : {R P : Type 0} → R → P → Broken R P
of_rule rule location = record { rule = rule; limit = None; location = location }

-- the rule on limits
abbrev pub over_limit : {R P : Type 0} → R → Limit → P → Broken R P
over_limit rule limit location = record { rule = rule; limit = Some limit; location = location }
