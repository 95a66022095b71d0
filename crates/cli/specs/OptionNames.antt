-- The options, their names, and whether a word stands behind each (`Set`) or it is a flag (`SetTrue`).
use Rattle.std.specs.Prelude.{ℕ, List, [], ◌∷◌, codes}
use Rattle.clap.specs.declared.builder.action.ArgAction.{ArgAction}
use Rattle.clap.specs.declared.builder.action.ArgAction.TheVariants.{Set, SetTrue}
use Rattle.cli.specs.declared.option_name.OptionName.{OptionName}
use Rattle.cli.specs.declared.option_name.OptionName.TheVariants.{Workers, Tend, Number, Passes, Depth, Persist, Trace, Summary, Tight, Cost, Json}

abbrev pub name_of : OptionName → List ℕ
name_of Workers = codes "workers"
name_of Tend = codes "tend"
name_of Number = codes "number"
name_of Passes = codes "passes"
name_of Depth = codes "depth"
name_of Persist = codes "persist"
name_of Trace = codes "trace"
name_of Summary = codes "summary"
name_of Tight = codes "tight"
name_of Cost = codes "cost"
name_of Json = codes "json"

abbrev pub action_of : OptionName → ArgAction
action_of Workers = Set
action_of Tend = Set
action_of Number = Set
action_of Passes = Set
action_of Depth = Set
action_of Persist = Set
action_of Trace = SetTrue
action_of Summary = SetTrue
action_of Tight = SetTrue
action_of Cost = SetTrue
action_of Json = SetTrue

abbrev pub all_names : List OptionName
all_names = Workers ∷ Tend ∷ Number ∷ Passes ∷ Depth ∷ Persist ∷ Trace ∷ Summary ∷ Tight ∷ Cost ∷ Json ∷ []
