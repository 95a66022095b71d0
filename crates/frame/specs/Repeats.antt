-- Names that stand twice.
use Rattle.std.specs.Prelude.{ℕ, List, take, map, Option, Some, None, if◌then◌else◌}
use Rattle.std.specs.List.{list_any}
use Rattle.std.specs.Option.{option_or, option_map}
use Rattle.std.specs.Str.{bytes_eq}
use Rattle.base.specs.Walks.{first_in}
use Rattle.frame.specs.Clashes.{first_clash}
use Rattle.frame.specs.declared.frame.Frame.{Frame}
use Rattle.frame.specs.declared.frame.Pass.{Pass}
use Rattle.frame.specs.declared.location.Location.{Location}
use Rattle.frame.specs.declared.location.Location.TheVariants as at

-- location i, where its name stands before it too
abbrev pub repeats_at : List (List ℕ) → ℕ → List ℕ → Option ℕ
repeats_at names i name = if list_any (bytes_eq name) (take i names) then Some i else None

-- the first name that stands before it too
abbrev pub first_repeat : List (List ℕ) → Option ℕ
first_repeat names = first_in (repeats_at names) 0 names

-- in pass p, where names has the names of all passes
abbrev pub repeats_in : List (List ℕ) → ℕ → Pass → Option Location
repeats_in names p pass =
    option_or (option_map (λ i. at.Pass i) (repeats_at names p pass.name))
    (option_or (option_map (λ k. at.Read p k) (first_clash pass.reads))
    (option_map (λ k. at.Write p k) (first_clash (map (λ w. w.what) pass.writes))))

abbrev pub repeated : Frame → Option Location
repeated frame =
    option_or (option_map (λ i. at.Queue i) (first_repeat (map (λ q. q.name) frame.queues)))
    (option_or (option_map (λ i. at.Resource i) (first_repeat (map (λ r. r.name) frame.resources)))
    (option_or (first_in (repeats_in (map (λ p. p.name) frame.passes)) 0 frame.passes)
    (option_map (λ i. at.Export i) (first_clash frame.exports))))
