-- What `flight` prints beside the exports of its frames.
use Rattle.std.specs.Prelude.{ℕ, List, ◌++◌, codes}
use Rattle.std.specs.Fmt.{decimal}
use Rattle.base.specs.Limits.{limit_name}
use Rattle.report.specs.declared.flight.FlightLine.{FlightLine}
use Rattle.report.specs.declared.flight.FlightLine.TheVariants.{Frame, FaultOf, Count, Queues, Persist, Window}

-- the line of a frame, what leads on to its fault, and the lines of what is wrong with the flight as a whole
abbrev pub flight_text : FlightLine → List ℕ
flight_text (Frame frame) = codes "frame " ++ decimal frame ++ codes "\n"
flight_text (FaultOf frame) = codes "frame " ++ decimal frame ++ codes " "
flight_text Count = codes "fault L1\n"
flight_text (Queues frame) = codes "fault L2 " ++ decimal frame ++ codes "\n"
flight_text (Persist frame name) = codes "fault L3 " ++ decimal frame ++ codes " " ++ name ++ codes "\n"
flight_text (Window window limit) = codes "fault L4 " ++ decimal window ++ codes " " ++ limit_name limit ++ codes "\n"
