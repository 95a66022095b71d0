-- The uses of a command: each is by a touch of its operation, and each unit that it names has one.
use Rattle.std.proofs.Common.{◌≡◌, ℕ, suc, ◌+◌, ◌<◌, ◌++◌, Bool, true, false, List, [], ◌∷◌, length, slice_get, if◌then◌else◌, Some, refl, ap, ◌∙◌, subst, eq-eqb, arith}
use Rattle.std.specs.List.{All, Contains}
use Rattle.std.proofs.lemmas.List.Elements.{All-nil, All-head, All-tail, All-append, All-contains, All-contains_itself}
use Rattle.std.proofs.lemmas.List.Folds.{list_any_at}
use Rattle.base.proofs.Lists.{entry_of, one}
use Rattle.base.specs.Touches.{touches_of}
use Rattle.base.specs.declared.shape.Shape.{Shape}
use Rattle.base.specs.declared.touch.Touch.{Touch}
use Rattle.compile_groups.specs.Laws.{IsSourced}
use Rattle.compile_groups.specs.Needs.{uses_in}
use Rattle.compile_groups.specs.Uses.{is_first_named, use_of, uses_from, command_uses}
use Rattle.compile_groups.specs.declared.command.Command.{Command}
use Rattle.compile_groups.specs.declared.grouping.Grouping.{Grouping}
use Rattle.compile_groups.specs.declared.unit_use.Use.{Use}
use Rattle.compile_record.proofs.Membership.{among_uses}
use Rattle.law_valid.proofs.Touched.{IsUsed, names, named_used}

-- a use by one of the touches
pub record IsUseOf (shapes : List Shape) (c q : ℕ) (touches : List Touch) (u : Use) : Type 0 where
  pub touch : Touch
  pub operand : ℕ
  pub there : Contains touches touch
  pub is : u ≡ use_of shapes c q operand touch

module _ (shapes : List Shape) (all : List Touch) (units c q : ℕ) where
  uses_are : (k : ℕ) (named : List ℕ) (touches : List Touch) → All (Contains all) touches → All (IsUseOf shapes c q all) (uses_from shapes units c q k named touches)
  uses_are k named [] among = All-nil (IsUseOf shapes c q all)
  uses_are k named (touch ∷ touches) among =
      All-append (IsUseOf shapes c q all) (if is_first_named units named touch.what then use_of shapes c q k touch ∷ [] else []) (uses_from shapes units c q (suc k) (named ++ touch.what ∷ []) touches)
      (own (is_first_named units named touch.what))
      (uses_are (suc k) (named ++ touch.what ∷ []) touches (All-tail (Contains all) touch touches among))
    where
      own : (b : Bool) → All (IsUseOf shapes c q all) (if b then use_of shapes c q k touch ∷ [] else [])
      own true = one (IsUseOf shapes c q all) (use_of shapes c q k touch) (record { touch = touch; operand = k; there = All-head (Contains all) touch touches among; is = refl })
      own false = All-nil (IsUseOf shapes c q all)

-- each use of a command is by a touch of its operation
pub command_uses_are : (shapes : List Shape) (units c : ℕ) (command : Command) → All (IsUseOf shapes c command.queue (touches_of shapes command.op)) (command_uses shapes units c command)
command_uses_are shapes units c command = uses_are shapes (touches_of shapes command.op) units c command.queue 0 [] (touches_of shapes command.op) (All-contains_itself (touches_of shapes command.op))

pub sourced_use : (G : Grouping) (u : Use) (S : IsSourced G u) → IsUseOf G.shapes u.command S.command.queue (touches_of G.shapes S.command.op) u
sourced_use G u S = entry_of (IsUseOf G.shapes u.command S.command.queue (touches_of G.shapes S.command.op)) (command_uses G.shapes (length G.sharings) u.command S.command) S.entry u (command_uses_are G.shapes (length G.sharings) u.command S.command) S.is

-- THE USE OF A UNIT

pub command_used : (shapes : List Shape) (units c : ℕ) (command : Command) (t : Touch) → Contains (touches_of shapes command.op) t → t.what < units → IsUsed t.what (command_uses shapes units c command)
command_used shapes units c command t h lt = named_used shapes units c command.queue 0 [] (touches_of shapes command.op) t.what lt refl
    (list_any_at (names t.what) (touches_of shapes command.op) h.0 t h.1 (ap (names t.what) h.2 ∙ eq-eqb t.what t.what refl))

-- a unit that a command touches is used by it
pub record UsedBy (G : Grouping) (c r : ℕ) : Type 0 where
  pub one : Use
  pub unit : one.unit ≡ r
  pub command : one.command ≡ c
  pub there : Contains (uses_in G) one

pub used_by : (G : Grouping) (c : ℕ) (command : Command) (t : Touch) → slice_get G.commands c ≡ Some command → Contains (touches_of G.shapes command.op) t → t.what < length G.sharings → UsedBy G c t.what
used_by G c command t at h lt =
    let U = command_used G.shapes (length G.sharings) c command t h lt in
    let I = All-contains (IsUseOf G.shapes c command.queue (touches_of G.shapes command.op)) (command_uses G.shapes (length G.sharings) c command) U.one (command_uses_are G.shapes (length G.sharings) c command) U.there in
    let z : c ≡ 0 + c = omega arith in
    record {
      one = U.one;
      unit = U.unit;
      command = ap (λ (u : Use). u.command) I.is;
      there = among_uses G.shapes (length G.sharings) 0 G.commands c command U.one at (subst (λ n. Contains (command_uses G.shapes (length G.sharings) n command) U.one) z U.there);
    }
