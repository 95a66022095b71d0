-- What is broken of the limits has a limit.
use Rattle.std.proofs.Common.{◌≡◌, ℕ, List, length, nat_le, not, Bool, true, false, Option, Some, None, if◌then◌else◌, refl}
use Rattle.std.specs.Prelude.{IfSome, is_some, option_and_then}
use Rattle.std.specs.List.{position}
use Rattle.std.specs.Option.{option_map, option_or}
use Rattle.base.specs.Bounds.{is_between, sides_allowed, size_allowed}
use Rattle.base.specs.Maxima.{max_exports, max_ops, max_passes, max_queues, max_resource_bytes, max_units}
use Rattle.base.specs.declared.broken.Broken.{Broken}
use Rattle.base.specs.declared.limit.Limit.{Limit}
use Rattle.base.specs.declared.limit.Limit.TheVariants as limits
use Rattle.flight.specs.Refusals.{limit_in}
use Rattle.frame.specs.Limits.{all_bytes, count_broken, exported, layers_allowed, limit_broken, op_count, over, rects_over, size_broken}
use Rattle.base.specs.Rooms.{first_over}
use Rattle.frame.specs.declared.frame.Frame.{Frame}
use Rattle.frame.specs.declared.frame.Resource.{Resource}
use Rattle.frame.specs.declared.location.Location.{Location}
use Rattle.frame.specs.declared.location.Location.TheVariants as at
use Rattle.frame.specs.declared.rule.Rule.{Rule}

abbrev IsLimited : Option (Broken Rule Location) → Type 0
IsLimited o = IfSome o (λ b. is_some b.limit ≡ true)

at_place : {X : Type 0} (limit : Limit) (place : X → Location) (o : Option X) → IsLimited (option_map (λ x. over limit (place x)) o)
at_place limit place None = tt
at_place limit place (Some x) = refl

unless : (limit : Limit) (place : Location) (test : Bool) → IsLimited (if test then None else Some (over limit place))
unless limit place true = tt
unless limit place false = refl

limited_or : (a b : Option (Broken Rule Location)) → IsLimited a → IsLimited b → IsLimited (option_or a b)
limited_or None b one two = two
limited_or (Some x) b one two = one

counts_limited : (frame : Frame) → IsLimited (count_broken frame)
counts_limited frame =
    limited_or _ _ (at_place limits.Layers (λ i. at.Resource i) (position (λ r. not (layers_allowed r)) frame.resources))
    (limited_or _ _ (unless limits.Queues at.Queues (is_between 1 max_queues (length frame.queues)))
    (limited_or _ _ (at_place limits.Resources (λ (i : ℕ). at.Resources) (first_over (λ r. r.layers) max_units 0 frame.resources))
    (limited_or _ _ (unless limits.Passes at.Passes (nat_le (length frame.passes) max_passes))
    (limited_or _ _ (at_place limits.Ops (λ p. at.Ops p) (first_over op_count max_ops 0 frame.passes))
    (limited_or _ _ (at_place limits.Rects (λ place. place) (rects_over frame.passes))
    (at_place limits.Exports (λ (i : ℕ). at.Exports) (first_over (exported frame) max_exports 0 frame.exports)))))))

sizes_limited : (rs : List Resource) → IsLimited (size_broken rs)
sizes_limited rs =
    limited_or _ _ (at_place limits.Side (λ i. at.Resource i) (position (λ r. not (sides_allowed r.shape)) rs))
    (limited_or _ _ (at_place limits.Size (λ i. at.Resource i) (position (λ r. not (size_allowed r.shape)) rs))
    (at_place limits.Total (λ i. at.Resource i) (first_over all_bytes max_resource_bytes 0 rs)))

none_limited : (o : Option (Broken Rule Location)) → IsLimited o → option_and_then (λ b. b.limit) o ≡ None → o ≡ None
none_limited None limited none = refl
none_limited (Some b) limited none = by_limit b.limit limited none
  where
    by_limit : (l : Option Limit) → is_some l ≡ true → l ≡ None → Some b ≡ None
    by_limit None some none = absurd cc
    by_limit (Some x) some none = absurd cc

pub none_broken : (frame : Frame) → limit_in frame ≡ None → limit_broken frame ≡ None
none_broken frame none = none_limited (limit_broken frame) (limited_or (count_broken frame) (size_broken frame.resources) (counts_limited frame) (sizes_limited frame.resources)) none
