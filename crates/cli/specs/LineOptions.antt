-- The options of a line.
use Rattle.std.specs.Prelude.{ℕ, List, Bool, ◌||◌, not, false, Option, Some, None, is_some, option_map, option_and_then, codes}
use Rattle.std.specs.Option.{option_map_or}
use Rattle.std.specs.Str.{bytes_eq}
use Rattle.clap.specs.Words.{Row, first_of}
use Rattle.cli.specs.Numbers.{number_within}
use Rattle.cli.specs.OptionNames.{name_of}
use Rattle.cli.specs.declared.option_name.OptionName.{OptionName}
use Rattle.cli.specs.declared.option_name.OptionName.TheVariants.{Workers, Tend, Number, Passes, Depth, Persist, Trace, Summary, Tight, Cost, Json}
use Rattle.cli.specs.declared.line_options.LineOptions.{LineOptions}

-- the word behind an option, by what `clap` found on the line
abbrev pub word_in : OptionName → List Row → Option (List ℕ)
word_in option rows = first_of (name_of option) rows

-- the word of a flag is `true` where it was given, and `false` where not
abbrev pub is_given : Option (List ℕ) → Bool
is_given word = option_map_or (λ w. bytes_eq w (codes "true")) word false

-- no number where no word is given; none at all where the word is no number within these bounds
abbrev pub number_in : ℕ → ℕ → Option (List ℕ) → Option (Option ℕ)
number_in least most None = Some None
number_in least most (Some word) = option_map (λ n. Some n) (number_within least most word)

-- 1 to 16 workers, seeds and numbers below 2 ^ 32, 1 to 256 passes, a depth of 1 to 8: by what `clap` found on the line
abbrev pub line_options_in : List Row → Option LineOptions
line_options_in rows =
    option_and_then (λ workers. option_and_then (λ tend. option_and_then (λ number. option_and_then (λ passes. option_map (λ depth. record {
      workers = workers;
      tend = tend;
      number = number;
      passes = passes;
      depth = depth;
      persist = is_some (word_in Persist rows);
      trace = is_given (word_in Trace rows);
      summary = is_given (word_in Summary rows);
      tight = is_given (word_in Tight rows);
      cost = is_given (word_in Cost rows);
      json = is_given (word_in Json rows);
    })
    (number_in 1 8 (word_in Depth rows)))
    (number_in 1 256 (word_in Passes rows)))
    (number_in 0 4294967295 (word_in Number rows)))
    (number_in 0 4294967295 (word_in Tend rows)))
    (number_in 1 16 (word_in Workers rows))

-- there is no option
abbrev pub is_none : LineOptions → Bool
is_none given = not ((is_some given.workers || is_some given.tend || is_some given.number || is_some given.passes || is_some given.depth) || given.persist || given.trace || given.summary || given.tight || given.cost || given.json)
