-- A frame as the laws of recorded programs see it: commands, groups, and what reaches what.
use Rattle.std.specs.Prelude.{◌≡◌, ℕ, ◌+◌, ◌<◌, ◌≤◌, Bool, true, ◌&&◌, ◌||◌, ◌==◌}

-- beside the groups of the units there are two for each export, that of its copy and that of its host read
pub record Plan : Type 0 where
  -- how many commands, and the queue of each
  pub count : ℕ
  pub queue : ℕ → ℕ
  pub groups : ℕ
  -- the piece of a group's unit; groups are numbered by it, and then in order
  pub piece : ℕ → ℕ
  -- the command has a use in the group
  pub member : ℕ → ℕ → Bool
  -- the group of a host read
  pub host : ℕ → Bool
  -- over g h: g is the last group of a placed unit, and h the first one of a unit that is ordered after it and overlaps it
  pub over : ℕ → ℕ → Bool

-- each access of group g goes through the prologue of group h to each access of h
abbrev pub leads : Plan → ℕ → ℕ → Bool
leads F g h = ((h == g + 1) && (F.piece g == F.piece h)) || F.over g h

-- command c is needed before command d: by steps of a queue, and from each group to the next one of its unit
pub data Reach (F : Plan) : ℕ → ℕ → Type 0 where
  by_queue : {c d : ℕ} → F.queue c ≡ F.queue d → c < d → d < F.count → Reach F c d
  by_need : {c d g : ℕ} → F.piece g ≡ F.piece (g + 1) → F.member c g ≡ true → F.member d (g + 1) ≡ true → Reach F c d
  then_reach : {c d e : ℕ} → Reach F c d → Reach F d e → Reach F c e

-- groups stand by their pieces, and what is over goes from the last group of a unit to the first one of another
pub record Grouped (F : Plan) : Type 0 where
  pub rising : (g h : ℕ) → g ≤ h → F.piece g ≤ F.piece h
  pub over_last : (g h k : ℕ) → F.over g h ≡ true → F.piece k ≡ F.piece g → k ≤ g
  pub over_first : (g h k : ℕ) → F.over g h ≡ true → F.piece k ≡ F.piece h → h ≤ k

-- group i is the first one of the unit of group g
pub record First (F : Plan) (g i : ℕ) : Type 0 where
  pub same : F.piece i ≡ F.piece g
  pub least : (h : ℕ) → F.piece h ≡ F.piece g → i ≤ h
