-- Names under which bytes persist from one frame to the next.
use Rattle.std.specs.Prelude.{ℕ, ◌==◌, ◌&&◌, nat_le, not, List, [], length, Bool, Option, Some, None, is_some, if◌then◌else◌}
use Rattle.std.specs.List.{list_all, slice_split}
use Rattle.base.specs.Names.{is_name}
use Rattle.frame.specs.Repeats.{first_repeat}

abbrev pub all_named : List (List ℕ) → Option (List (List ℕ))
all_named texts = if list_all is_name texts then Some texts else None

-- at most 16, each other than those before it
abbrev pub are_different : List (List ℕ) → Bool
are_different names = nat_le (length names) 16 && not (is_some (first_repeat names))

abbrev pub if_different : Option (List (List ℕ)) → Option (List (List ℕ))
if_different None = None
if_different (Some names) = if are_different names then Some names else None

-- 1 to 16 different names with a comma between
abbrev pub names_of : List ℕ → Option (List (List ℕ))
names_of text = if_different (all_named (slice_split (λ b. b == 44) text))

-- no names where no word is given; none at all where the word is none
abbrev pub persist_in : Option (List ℕ) → Option (List (List ℕ))
persist_in None = Some []
persist_in (Some text) = names_of text
