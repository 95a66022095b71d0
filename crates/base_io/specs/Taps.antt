-- What a tap heard.
use Rattle.std.specs.Prelude.{List, ◌++◌, ◌≡◌, Some, None}
use Rattle.std.specs.declared.option.Option.{Option}
use Rattle.base.specs.declared.event.Event.{Event}

-- what it heard grows by these events
abbrev pub Hears : Option (List Event) → Option (List Event) → List Event → Type 0
Hears None new events = Unit {0}
Hears (Some old) new events = new ≡ Some (old ++ events)
