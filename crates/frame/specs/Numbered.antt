-- A frame with numbers in place of names.
use Rattle.std.specs.Prelude.{ℕ, Bool, List, map, ◌<◌, unwrap_or}
use Rattle.std.specs.List.{All, flat_map}
use Rattle.base.specs.Operands.{operands_of, mapped}
use Rattle.base.specs.declared.shape.Family.{Family}
use Rattle.frame.specs.Units.{Numbering, numbering, units_in, span_of, units_of, unit_of, Unit, units}
use Rattle.frame.specs.Unknowns.{queue_at}
use Rattle.frame.specs.declared.frame.Frame.{Frame}
use Rattle.frame.specs.declared.frame.Pass.{Pass}
use Rattle.frame.specs.declared.frame.Spot.{Spot}
use Rattle.frame.specs.declared.frame.Write.{Write}
use Rattle.frame.specs.declared.numbered.NumberedPass.{NumberedPass}
use Rattle.frame.specs.declared.numbered.Span.{Span}
use Rattle.frame.specs.declared.numbered.Stored.{Stored}
use Rattle.frame.specs.declared.numbered.Uses.{Uses}

abbrev pub queue_number : Frame → List ℕ → ℕ
queue_number frame name = unwrap_or (queue_at frame name) 0

abbrev pub write_each : Bool → ℕ → Write ℕ
write_each fresh unit = record { what = unit; fresh = fresh }

abbrev pub stored_of : Numbering → Write Spot → Stored
stored_of n write = record { units = span_of n write.what; fresh = write.fresh }

-- one write for each unit
abbrev pub unit_writes : Stored → List (Write ℕ)
unit_writes stored = map (write_each stored.fresh) (units_in stored.units)

abbrev pub writes_of : Numbering → Write Spot → List (Write ℕ)
writes_of n write = unit_writes (stored_of n write)

abbrev pub numbered_pass : Frame → Numbering → Pass → NumberedPass
numbered_pass frame n pass = record {
  queue = queue_number frame pass.queue;
  reads = flat_map (units_of n) pass.reads;
  writes = flat_map (writes_of n) pass.writes;
  ops = map (mapped (unit_of n)) pass.ops;
  side_effect = pass.side_effect;
}

-- a frame's units, the families of its queues, its passes, and the units that are read back after it
pub record NumberedFrame : Type 0 where
  pub units : List Unit
  pub queues : List Family
  pub passes : List NumberedPass
  pub exports : List ℕ

abbrev pub numbered : Frame → NumberedFrame
numbered frame = record {
  units = units frame;
  queues = map (λ q. q.family) frame.queues;
  passes = map (numbered_pass frame (numbering frame)) frame.passes;
  exports = flat_map (units_of (numbering frame)) frame.exports;
}

-- each number is one of a queue, or of one of so many units
pub record IsWithin (queues : ℕ) (units : ℕ) (pass : NumberedPass) : Type 0 where
  pub queue : pass.queue < queues
  pub reads : All (λ unit. unit < units) pass.reads
  pub writes : All (λ w. w.what < units) pass.writes
  pub ops : All (λ op. All (λ unit. unit < units) (operands_of op)) pass.ops

-- ENTRIES BESIDE THEIR UNITS

abbrev pub uses_of : Frame → Numbering → Pass → Uses
uses_of frame n pass = record {
  pass = numbered_pass frame n pass;
  reads = map (span_of n) pass.reads;
  writes = map (stored_of n) pass.writes;
}

-- all passes, and the exports
abbrev pub all_uses : Frame → List Uses
all_uses frame = map (uses_of frame (numbering frame)) frame.passes

abbrev pub export_units : Frame → List Span
export_units frame = map (span_of (numbering frame)) frame.exports
