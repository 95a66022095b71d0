use Rattle.std.proofs.Common.{◌∙◌}
use Rattle.frame.specs.Numbered.{numbered}
use Rattle.frame_cull.proofs.Grow.{units_fit, writes_fit, part_by_part}
use Rattle.frame_cull.specs.Versions.{Numbers}
use Rattle.frame_cull.proofs.versions.Versions.add_pass.Goals as goal

pub all_latest-requires : goal.all_latest-requires
all_latest-requires c =
    let old : Numbers = record { makers = c.self.inside.makers; reads = c.self.inside.reads; writes = c.self.inside.writes; sources = c.self.inside.sources } in
    units_fit (numbered c.args.frame.now) c.args.pass old c.reads-reads.result.now (c.self.view_is ∙ c.requires.before) c.reads-reads.ensures.within

pub sources-requires-clause-reads : goal.sources-requires-clause-reads
sources-requires-clause-reads c =
    let old : Numbers = record { makers = c.self.inside.makers; reads = c.self.inside.reads; writes = c.self.inside.writes; sources = c.self.inside.sources } in
    units_fit (numbered c.args.frame.now) c.args.pass old c.reads-reads.result.now (c.self.view_is ∙ c.requires.before) c.reads-reads.ensures.within

pub sources-requires-clause-writes : goal.sources-requires-clause-writes
sources-requires-clause-writes c =
    let old : Numbers = record { makers = c.self.inside.makers; reads = c.self.inside.reads; writes = c.self.inside.writes; sources = c.self.inside.sources } in
    writes_fit (numbered c.args.frame.now) c.args.pass old c.writes-writes.result.now (c.self.view_is ∙ c.requires.before) c.writes-writes.ensures.within

pub add-requires : goal.add-requires
add-requires c =
    let old : Numbers = record { makers = c.self.inside.makers; reads = c.self.inside.reads; writes = c.self.inside.writes; sources = c.self.inside.sources } in
    writes_fit (numbered c.args.frame.now) c.args.pass old c.writes-writes.result.now (c.self.view_is ∙ c.requires.before) c.writes-writes.ensures.within

pub returns : goal.returns
returns c =
    let old : Numbers = record { makers = c.self.inside.makers; reads = c.self.inside.reads; writes = c.self.inside.writes; sources = c.self.inside.sources } in
    part_by_part (numbered c.args.frame.now) c.args.pass old c.reads-reads.result.now c.writes-writes.result.now c.in_ok-read.read c.in_ok-made.made c.in_ok-sources.sources
    c.add.new.self c.push.new.self c.push-2.new.self c.push-3.new.self
    c.requires.pass (c.self.view_is ∙ c.requires.before) c.reads-reads.ensures.reads c.writes-writes.ensures.writes c.reads-reads.ensures.within c.writes-writes.ensures.within
    c.in_ok-read.ensures c.in_ok-sources.ensures c.in_ok-made.ensures.numbers c.in_ok-made.ensures.rows c.in_ok-push.ensures.ok c.in_ok-push-2.ensures.ok c.in_ok-push-3.ensures.ok
