-- What windows are made of.
use Rattle.flight.specs.Flight.{Flight}
use Rattle.flight.specs.Fly.{Fly}
use Rattle.flight.specs.declared.windows.Windows.TheInside.{Inside}

abbrev pub flight_in : Inside → Flight
flight_in inside = record { frames = inside.frames.now; persist = inside.persist.now; depth = inside.depth }

abbrev pub IsFlying : Inside → Type 0
IsFlying inside = Fly inside.frames.now inside.persist.now inside.depth
