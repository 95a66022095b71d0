-- What types say of the parts of a frame: names are names, and numbers are those that their types hold.
use Rattle.std.specs.Prelude.{IfSome}
use Rattle.std.specs.List.{AllByRecursion}
use Rattle.hex.specs.Hex.{IsBytes}
use Rattle.base.specs.Names.{IsName}
use Rattle.base.specs.declared.op.Op.{Op}
use Rattle.frame.specs.declared.frame.Frame.{Frame}
use Rattle.frame.specs.declared.frame.Pass.{Pass}
use Rattle.frame.specs.declared.frame.QueueDecl.{QueueDecl}
use Rattle.frame.specs.declared.frame.Resource.{Resource}
use Rattle.frame.specs.declared.frame.Spot.{Spot}
use Rattle.frame.specs.declared.frame.Write.{Write}
use Rattle.file_ops.specs.OpFits.{FitsOp}

abbrev pub IsTypedSpot : Spot → Type 0
IsTypedSpot spot = IsName spot.name

abbrev pub IsTypedQueue : QueueDecl → Type 0
IsTypedQueue queue = IsName queue.name

pub record IsTypedResource (resource : Resource) : Type 0 where
  pub name : IsName resource.name
  pub import : IfSome resource.import IsBytes

abbrev pub IsTypedWrite : Write Spot → Type 0
IsTypedWrite write = IsTypedSpot write.what

abbrev pub IsTypedOp : Op Spot → Type 0
IsTypedOp = FitsOp IsTypedSpot

pub record IsTypedPass (pass : Pass) : Type 0 where
  pub name : IsName pass.name
  pub queue : IsName pass.queue
  pub reads : AllByRecursion IsTypedSpot pass.reads
  pub writes : AllByRecursion IsTypedWrite pass.writes
  pub ops : AllByRecursion IsTypedOp pass.ops

pub record IsTypedFrame (frame : Frame) : Type 0 where
  pub queues : AllByRecursion IsTypedQueue frame.queues
  pub resources : AllByRecursion IsTypedResource frame.resources
  pub passes : AllByRecursion IsTypedPass frame.passes
  pub exports : AllByRecursion IsTypedSpot frame.exports
