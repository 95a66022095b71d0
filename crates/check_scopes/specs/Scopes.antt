-- What a mask waits for, and what waits for it.
use Rattle.std.specs.Prelude.{ℕ, if◌then◌else◌}
use Rattle.vk.specs.Sets.{has, union_over}
use Rattle.check_scopes.specs.Words.{Word, words, earlier, later}

-- what a word adds where it is in the mask
abbrev pub part : (ℕ → ℕ) → ℕ → Word → ℕ
part of mask word = if has mask word.bit then of word.stands_for else 0

-- a source mask's stages, and those that come before one of them in a pipeline
abbrev pub waited_for : ℕ → ℕ
waited_for mask = union_over (part earlier mask) words

-- a destination mask's stages, and those that come after one of them
abbrev pub waiting : ℕ → ℕ
waiting mask = union_over (part later mask) words

-- the stages alone, for memory
abbrev pub expanded : ℕ → ℕ
expanded mask = union_over (part (λ set. set) mask) words
