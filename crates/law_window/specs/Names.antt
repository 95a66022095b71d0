-- Names in a window.
use Rattle.std.specs.Prelude.{ℕ, List, ◌∷◌, ◌+◌, codes, unwrap_or}
use Rattle.std.specs.Fmt.{decimal}
use Rattle.frame.specs.declared.frame.Frame.{Frame}
use Rattle.law_window.specs.Declared.{holder_in}

-- `i.j`: of resource j, or pass j, of frame i. A window has at most 8 frames, so i has one digit
abbrev pub numbered_name : ℕ → ℕ → List ℕ
numbered_name i j = (48 + i) ∷ 46 ∷ decimal j

-- `i.join`
abbrev pub join_name : ℕ → List ℕ
join_name i = (48 + i) ∷ 46 ∷ codes "join"

-- the name in the window of what has a name in frame i
abbrev pub rename_in : ℕ → Frame → List ℕ → List ℕ
rename_in i frame name = numbered_name i (unwrap_or (holder_in frame.resources name) 0)
