-- What is computed once for a valid frame.
use Rattle.frame.specs.FirstFault.{shapes_of, sharings_of}
use Rattle.frame.specs.Numbered.{numbered}
use Rattle.frame.specs.Units.{owners, unit_spots}
use Rattle.frame.specs.declared.frame.Frame.{Frame}
use Rattle.frame.specs.declared.valid.Resolved.{Resolved}

abbrev pub resolved_of : Frame → Resolved
resolved_of frame = record {
  shapes = shapes_of frame;
  sharings = sharings_of frame;
  owners = owners 0 frame.resources;
  spots = unit_spots frame;
  passes = (numbered frame).passes;
  exports = (numbered frame).exports;
}
