use Rattle.compile_lifetimes.specs.Internal.Lifetimes.{AreLifetimes}
use Rattle.compile_lifetimes.proofs.lifetime.lifetimes_of.Given as goal

abbrev pub invariant-loop-unit : goal.invariant-loop-unit
invariant-loop-unit l = AreLifetimes l.groups l.unit-index l.lifetimes
