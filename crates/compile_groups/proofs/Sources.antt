-- Each use of a group is one of the uses of its command.
use Rattle.std.proofs.Common.{◌≡◌, ℕ, suc, ◌+◌, ◌<◌, List, [], ◌∷◌, length, get_or, Some, refl, sym, ap, ◌∙◌, subst, arith}
use Rattle.std.specs.List.{All, range_with_len}
use Rattle.std.specs.Prelude.{slice_get, is_some}
use Rattle.std.proofs.lemmas.Bool.{ltb-true}
use Rattle.std.proofs.lemmas.List.{length-map}
use Rattle.std.proofs.lemmas.List.Elements.{All-nil, All-append, All-filter, All-weaker}
use Rattle.std.proofs.lemmas.Option.{slice_get-get_or, slice_get_within, get_or_from_slice_get}
use Rattle.base.specs.Touches.{touches_of}
use Rattle.base.specs.declared.shape.Shape.{Shape}
use Rattle.frame.specs.Numbered.{NumberedFrame}
use Rattle.compile_groups.proofs.InOrder.{is_of, of_operands, of_command, groups_flat}
use Rattle.compile_groups.proofs.Lists.{each_of_flat, all_parts}
use Rattle.compile_groups.specs.Commands.{all_shapes}
use Rattle.compile_groups.specs.Groups.{unit_uses, all_uses, imports_in, frame_joins, grouped}
use Rattle.compile_groups.specs.Laws.{IsSourced, AreSourced}
use Rattle.compile_groups.specs.Uses.{command_uses, uses_of}
use Rattle.compile_groups.specs.declared.command.Command.{Command}
use Rattle.compile_groups.specs.declared.unit_use.Use.{Use}

-- USES ARE OF UNITS AND COMMANDS

pub units_within : (shapes : List Shape) (units c : ℕ) (commands : List Command) → All (λ u. u.unit < units) (uses_of shapes units c commands)
units_within shapes units c [] = All-nil (λ u. u.unit < units)
units_within shapes units c (command ∷ commands) =
    All-append (λ u. u.unit < units) (command_uses shapes units c command) (uses_of shapes units (suc c) commands)
    (of_operands (λ u. u.unit < units) shapes units c command.queue (λ k touch lt. ltb-true touch.what units lt) 0 [] (touches_of shapes command.op))
    (units_within shapes units (suc c) commands)

pub commands_within : (shapes : List Shape) (units c : ℕ) (commands : List Command) → All (λ u. u.command < c + length commands) (uses_of shapes units c commands)
commands_within shapes units c [] = All-nil (λ u. u.command < c + 0)
commands_within shapes units c (command ∷ commands) =
    All-append (λ u. u.command < c + suc (length commands)) (command_uses shapes units c command) (uses_of shapes units (suc c) commands)
    (All-weaker (λ u. u.command ≡ c) (λ u. u.command < c + suc (length commands)) (λ u e. omega (arith, e)) (command_uses shapes units c command) (of_command shapes units c command))
    (All-weaker (λ u. u.command < suc c + length commands) (λ u. u.command < c + suc (length commands)) (λ u h. omega (arith, h)) (uses_of shapes units (suc c) commands) (commands_within shapes units (suc c) commands))

-- what holds of all uses holds of those of each group
pub of_groups : (P : Use → Type 0) (frame : NumberedFrame) (commands : List Command) → All P (all_uses frame commands) → All (λ A. All P A) (grouped frame commands).groups
of_groups P frame commands h =
    each_of_flat P (grouped frame commands).groups
    (subst (All P) (sym (groups_flat (frame_joins frame) (all_uses frame commands) (range_with_len 0 (length frame.units))))
    (all_parts P (unit_uses (all_uses frame commands)) (range_with_len 0 (length frame.units)) (λ unit. All-filter (is_of unit) P (all_uses frame commands) h)))

-- SOURCES

-- it is use number `entry` of the command at a place after number c
record Source (shapes : List Shape) (units c : ℕ) (commands : List Command) (u : Use) : Type 0 where
  pub place : ℕ
  pub command : Command
  pub entry : ℕ
  pub number : u.command ≡ c + place
  pub there : slice_get commands place ≡ Some command
  pub is : slice_get (command_uses shapes units u.command command) entry ≡ Some u
  pub queue : u.queue ≡ command.queue

sources : (shapes : List Shape) (units c : ℕ) (commands : List Command) → All (Source shapes units c commands) (uses_of shapes units c commands)
sources shapes units c [] = All-nil (Source shapes units c [])
sources shapes units c (command ∷ rest) =
    All-append (Source shapes units c (command ∷ rest)) (command_uses shapes units c command) (uses_of shapes units (suc c) rest)
    (λ k d lt.
    let own : (get_or (command_uses shapes units c command) k d).command ≡ c = of_command shapes units c command k d lt in
    record {
      place = 0;
      command = command;
      entry = k;
      number = own ∙ omega arith;
      there = refl;
      is = ap (λ n. slice_get (command_uses shapes units n command) k) own ∙ slice_get-get_or (command_uses shapes units c command) k d lt;
      queue = of_operands (λ u. u.queue ≡ command.queue) shapes units c command.queue (λ j touch h. refl) 0 [] (touches_of shapes command.op) k d lt;
    })
    (All-weaker (Source shapes units (suc c) rest) (Source shapes units c (command ∷ rest)) (λ u S. let n = S.number in record { place = suc S.place; command = S.command; entry = S.entry; number = omega (arith, n); there = S.there; is = S.is; queue = S.queue }) (uses_of shapes units (suc c) rest) (sources shapes units (suc c) rest))

sourced_of : (frame : NumberedFrame) (commands : List Command) (u : Use) → Source (all_shapes frame) (length frame.units) 0 commands u → IsSourced (grouped frame commands) u
sourced_of frame commands u S =
    let n = S.number in
    let e : S.place ≡ u.command = omega (arith, n) in
    record {
      command = S.command;
      entry = S.entry;
      there = subst (λ k. slice_get commands k ≡ Some S.command) e S.there;
      is = subst (λ n. slice_get (command_uses (all_shapes frame) n u.command S.command) S.entry ≡ Some u) (sym (length-map frame.units (λ u. u.sharing))) S.is;
      queue = S.queue;
    }

pub sourced : (frame : NumberedFrame) (commands : List Command) → AreSourced (grouped frame commands)
sourced frame commands =
    of_groups (IsSourced (grouped frame commands)) frame commands
    (All-weaker (Source (all_shapes frame) (length frame.units) 0 commands) (IsSourced (grouped frame commands)) (sourced_of frame commands) (all_uses frame commands) (sources (all_shapes frame) (length frame.units) 0 commands))

-- each use of a group is of a unit and on a queue that there are
pub members_within : (frame : NumberedFrame) (commands : List Command) → All (λ command. command.queue < length frame.queues) commands → All (All (λ u. (u.unit < length (imports_in frame)) × (u.queue < length frame.queues))) (grouped frame commands).groups
members_within frame commands known g d lt k e lk =
    let S = sourced frame commands g d lt k e lk in
    let within = slice_get_within commands (get_or (get_or (grouped frame commands).groups g d) k e).command S.command S.there in
    let same = get_or_from_slice_get commands (get_or (get_or (grouped frame commands).groups g d) k e).command S.command S.command S.there in (
      subst (λ n. (get_or (get_or (grouped frame commands).groups g d) k e).unit < n) (sym (length-map frame.units (λ u. is_some u.imported)))
          (of_groups (λ u. u.unit < length frame.units) frame commands (units_within (all_shapes frame) (length frame.units) 0 commands) g d lt k e lk),
      subst (λ q. q < length frame.queues) (sym (S.queue ∙ ap (λ (c : Command). c.queue) (sym same)))
          (known (get_or (get_or (grouped frame commands).groups g d) k e).command S.command within),
    )
