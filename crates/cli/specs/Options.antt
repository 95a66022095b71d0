-- How a program is run on a device.
use Rattle.std.specs.Prelude.{unwrap_or}
use Rattle.cli.specs.declared.line_options.LineOptions.{LineOptions}
use Rattle.base.specs.declared.run_options.RunOptions.{RunOptions}

-- two workers where none are asked for
abbrev pub options_in : LineOptions → RunOptions
options_in given = record { workers = unwrap_or given.workers 2; tend = given.tend }
