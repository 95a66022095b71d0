-- What the cost of a frame asks of its commands, whatever queues its passes run on.
use Rattle.std.specs.Prelude.{◌≡◌, ◌≤◌, ℕ, suc, List, [], ◌∷◌, ◌++◌, ◌==◌, map, length, replicate, slice_index_or, Bool, false, Option, Some, if◌then◌else◌}
use Rattle.std.specs.List.{All, filter, range_with_len}
use Rattle.std.specs.Option.{option_map_or}
use Rattle.compile_queues.specs.Cost.{costs}
use Rattle.compile_queues.specs.Internal.Spans.{use_at}
use Rattle.compile_queues.specs.Internal.Sweep.{most_cost}
use Rattle.compile_queues.specs.declared.work.Work.{Work}
use Rattle.frame.specs.Numbered.{NumberedFrame}
use Rattle.frame.specs.declared.numbered.NumberedPass.{NumberedPass}
use Rattle.compile_groups.specs.Groups.{grouping}
use Rattle.compile_groups.specs.Laws.{flat}
use Rattle.compile_groups.specs.declared.command.Command.{Command}
use Rattle.compile_groups.specs.declared.grouping.Grouping.{Grouping}
use Rattle.compile_groups.specs.declared.unit_use.Use.{Use}
use Rattle.frame_cull.specs.Culled.{AreKept}
use Rattle.frame_cull.specs.Versions.{all_versions, latest_maker}

-- WHOSE QUEUE A COMMAND IS ON

-- that of its pass; the passes are numbered from p on, and for each it is told whether it is kept
abbrev pub kept_owners : ℕ → List NumberedPass → List Bool → List (Option ℕ)
kept_owners p [] kept = []
kept_owners p (pass ∷ passes) [] = []
kept_owners p (pass ∷ passes) (keep ∷ kept) = (if keep then replicate (length pass.ops) (Some p) else []) ++ kept_owners (suc p) passes kept

-- that of the pass that makes an exported unit's last version, if a pass makes it
abbrev pub export_owner : NumberedFrame → ℕ → Option ℕ
export_owner frame unit = latest_maker (all_versions frame unit)

abbrev pub owners : NumberedFrame → List Bool → List (Option ℕ)
owners frame kept = kept_owners 0 frame.passes kept ++ map (export_owner frame) frame.exports

-- those by pass p
abbrev pub kept_owner : List Bool → ℕ → NumberedPass → List (Option ℕ)
kept_owner kept p pass = if slice_index_or kept p false then replicate (length pass.ops) (Some p) else []

-- where passes are on these queues; queue 0 where there is no pass
abbrev pub queue_by : List ℕ → Option ℕ → ℕ
queue_by qs owner = option_map_or (λ p. slice_index_or qs p 0) owner 0

-- commands on these queues, one for each
abbrev pub with_queues : List ℕ → List Command → List Command
with_queues [] commands = []
with_queues (q ∷ qs) [] = []
with_queues (q ∷ qs) (command ∷ commands) = record command { queue = q } ∷ with_queues qs commands

-- ALL OF IT

-- the numbers of the uses by command d
abbrev pub places : List Use → ℕ → List ℕ
places uses d = filter (λ j. (use_at uses j).command == d) (range_with_len 0 (length uses))

-- what is gathered from these
pub record IsOf (kept : List Bool) (owned : List (Option ℕ)) (G : Grouping) (work : Work) : Type 0 where
  pub kept_is : work.kept ≡ kept
  pub owners_are : work.owners ≡ owned
  pub costs_are : work.costs ≡ costs G
  pub few : length work.costs ≤ 288
  pub small : All (λ cost. cost ≤ most_cost) work.costs
  pub uses_are : work.uses ≡ flat G.groups
  pub places_are : work.places ≡ map (places work.uses) (range_with_len 0 (length work.costs))
  pub families_are : work.families ≡ G.families
  pub sharings_are : work.sharings ≡ G.sharings

pub record IsWork (frame : NumberedFrame) (work : Work) : Type 0 where
  pub are_kept : AreKept frame work.kept
  pub gathered : IsOf work.kept (owners frame work.kept) (grouping frame work.kept) work
