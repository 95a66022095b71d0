-- Worked rows: three frames, each of which adds 1 to a persisting buffer.
use Rattle.std.proofs.Common.{◌≡◌, ℕ, List, [], ◌∷◌, codes, Some, None, true, false, refl}
use Rattle.std.specs.Fmt.{digits}
use Rattle.base.specs.declared.op.Fun.TheVariants.{Add}
use Rattle.base.specs.declared.op.Op.TheVariants.{CopyBuffer, Map}
use Rattle.base.specs.declared.shape.Family.TheVariants.{Graphics, Compute}
use Rattle.base.specs.declared.shape.Shape.TheVariants.{Buffer}
use Rattle.vk.specs.declared.sharing.Sharing.TheVariants.{Exclusive}
use Rattle.flight.specs.Alone.{first_bytes}
use Rattle.flight.specs.Exported.{export_place, persisted_export}
use Rattle.flight.specs.Flights.{ArePersisted, window_count}
use Rattle.flight.specs.Refusals.{first_refusal}
use Rattle.flight.specs.declared.fault.FlightFault.TheVariants.{Persist, Queues}
use Rattle.frame.specs.declared.frame.Frame.{Frame}
use Rattle.frame.specs.declared.frame.QueueDecl.{QueueDecl}
use Rattle.frame.specs.declared.frame.Spot.{Spot}

abbrev whole : List ℕ → Spot
whole name = record { name = name; layer = None }

abbrev queues : List QueueDecl
queues = record { name = codes "g"; family = Graphics } ∷ []

-- the buffer b is an import of four bytes; c is what comes out, and goes into b
abbrev frame : Frame
frame = record {
  queues = queues;
  resources = record { name = codes "b"; shape = Buffer 4; layers = 1; import = Some (1 ∷ 0 ∷ 0 ∷ 0 ∷ []); sharing = Exclusive } ∷ record { name = codes "c"; shape = Buffer 4; layers = 1; import = None; sharing = Exclusive } ∷ [];
  passes = record { name = codes "p"; queue = codes "g"; reads = []; writes = record { what = whole (codes "c"); fresh = true } ∷ record { what = whole (codes "b"); fresh = false } ∷ []; ops = Map (whole (codes "b")) (whole (codes "c")) Add 1 ∷ CopyBuffer (whole (codes "c")) (whole (codes "b")) 0 0 4 ∷ []; side_effect = false } ∷ [];
  exports = whole (codes "c") ∷ [];
}

abbrev three : List Frame
three = frame ∷ frame ∷ frame ∷ []

-- a window of one frame, of two, of three
one_by_one : first_refusal three (codes "b" ∷ []) 1 ≡ None
unfolding digits
one_by_one = refl

two_by_two : first_refusal three (codes "b" ∷ []) 2 ≡ None
unfolding digits
two_by_two = refl

all_three : first_refusal three (codes "b" ∷ []) 3 ≡ None
unfolding digits
all_three = refl

counts : window_count 2 three ≡ 2
counts = refl

-- what is no import does not persist
no_import : first_refusal three (codes "c" ∷ []) 2 ≡ Some (Persist 0 (codes "c"))
no_import = refl

-- of two names the first that does not
second_name : first_refusal three (codes "b" ∷ codes "c" ∷ []) 2 ≡ Some (Persist 0 (codes "c"))
second_name = refl

-- a frame with another family comes before a name
other_family : first_refusal (frame ∷ record frame { queues = record { name = codes "g"; family = Compute } ∷ [] } ∷ []) (codes "c" ∷ []) 1 ≡ Some (Queues 1)
other_family = refl

-- bytes of four are persisted under b, and none under a name that no frame has
persisted : ArePersisted three (codes "b" ∷ codes "d" ∷ []) (Some (2 ∷ 0 ∷ 0 ∷ 0 ∷ []) ∷ None ∷ [])
persisted = refl

-- before the first window an import is persisted
begins : first_bytes three (codes "b" ∷ codes "d" ∷ []) ≡ Some (1 ∷ 0 ∷ 0 ∷ 0 ∷ []) ∷ None ∷ []
begins = refl

-- in a window of two frames the exports of the second come after those of the first; the third frame begins another window
second : export_place three 2 1 0 ≡ 1
second = refl

third : export_place three 2 2 0 ≡ 0
third = refl

-- after the exports comes the last unit of a name; a name that no frame has has no place
persisting : persisted_export three (codes "b" ∷ []) 2 0 0 ≡ Some 2
persisting = refl

at_last : persisted_export three (codes "b" ∷ []) 2 1 0 ≡ Some 1
at_last = refl

nowhere : persisted_export three (codes "d" ∷ []) 2 0 0 ≡ None
nowhere = refl
