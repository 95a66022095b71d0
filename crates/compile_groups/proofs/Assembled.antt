-- The grouping of a frame, part by part.
use Rattle.std.proofs.Common.{◌≡◌, ℕ, ◌<◌, ◌≤◌, Bool, List, length, sym, ap, ap₂, ◌∙◌, subst, arith}
use Rattle.std.specs.List.{All, flat_map, range_with_len}
use Rattle.std.specs.Prelude.{is_some}
use Rattle.std.proofs.lemmas.List.{length-map}
use Rattle.base.specs.Operands.{operands_of}
use Rattle.base.specs.declared.shape.Family.{Family}
use Rattle.base.specs.declared.shape.Shape.{Shape}
use Rattle.vk.specs.declared.sharing.Sharing.{Sharing}
use Rattle.frame.specs.Valid.{IsValid}
use Rattle.frame.specs.Numbered.{NumberedFrame}
use Rattle.compile_groups.proofs.Found.{found, numbered}
use Rattle.compile_groups.proofs.Growing.{shapes-length}
use Rattle.compile_groups.proofs.InOrder.{whole, in_order, groups_rise, members_rise}
use Rattle.compile_groups.proofs.Joined.{joined}
use Rattle.compile_groups.proofs.Sizes.{groups-few, sizes-small}
use Rattle.compile_groups.proofs.Sources.{units_within, sourced, members_within}
use Rattle.compile_groups.proofs.Tables.{by_unit, groups_by_unit}
use Rattle.compile_groups.specs.Internal.Buckets.{bucket}
use Rattle.compile_groups.specs.Internal.Known.{AreKnown}
use Rattle.compile_groups.specs.Commands.{all_shapes}
use Rattle.compile_groups.specs.Groups.{joins, runs, all_uses, sharings_in, imports_in, frame_joins, grouped}
use Rattle.compile_groups.specs.Laws.{IsGrouped, IsKnown, IsSmall}
use Rattle.compile_groups.specs.Needs.{uses_in}
use Rattle.compile_groups.specs.Uses.{uses_of}
use Rattle.compile_groups.specs.declared.command.Command.{Command}
use Rattle.compile_groups.specs.declared.grouping.Grouping.{Grouping}
use Rattle.compile_groups.specs.declared.unit_use.Use.{Use}

groups_are : (n : NumberedFrame) (commands : List Command) (groups B : List (List Use)) (units : ℕ) (F : List Family) (S : List Sharing) → F ≡ n.queues → S ≡ sharings_in n → units ≡ length n.units → B ≡ by_unit (length n.units) (all_uses n commands) → groups ≡ flat_map (λ unit. runs (joins F S) (bucket B unit)) (range_with_len 0 units) → groups ≡ (grouped n commands).groups
groups_are n commands groups B units F S f s u b g =
    g
    ∙ ap₂ (λ x y. flat_map (λ unit. runs (joins x y) (bucket B unit)) (range_with_len 0 units)) f s
    ∙ ap₂ (λ x k. flat_map (λ unit. runs (frame_joins n) (bucket x unit)) (range_with_len 0 k)) b u
    ∙ groups_by_unit (frame_joins n) (length n.units) (all_uses n commands) (range_with_len 0 (length n.units)) (units_within (all_shapes n) (length n.units) 0 commands)

same_parts : (commands : List Command) (a a' : List Shape) (b b' : List Sharing) (c c' : List Bool) (d d' : List Family) (e e' : List (List Use)) → a ≡ a' → b ≡ b' → c ≡ c' → d ≡ d' → e ≡ e' → ◌≡◌ {A = Grouping} (record { shapes = a; sharings = b; imports = c; families = d; commands = commands; groups = e }) (record { shapes = a'; sharings = b'; imports = c'; families = d'; commands = commands; groups = e' })
same_parts commands a a' b b' c c' d d' e e' f g h i j =
    ap (λ x. record { shapes = x; sharings = b; imports = c; families = d; commands = commands; groups = e }) f
    ∙ ap (λ x. record { shapes = a'; sharings = x; imports = c; families = d; commands = commands; groups = e }) g
    ∙ ap (λ x. record { shapes = a'; sharings = b'; imports = x; families = d; commands = commands; groups = e }) h
    ∙ ap (λ x. record { shapes = a'; sharings = b'; imports = c'; families = x; commands = commands; groups = e }) i
    ∙ ap (λ x. record { shapes = a'; sharings = b'; imports = c'; families = d'; commands = commands; groups = x }) j

-- all parts are those of the definition
pub assembled : (n : NumberedFrame) (commands : List Command) (shapes : List Shape) (sharings : List Sharing) (imports : List Bool) (families : List Family) (groups B : List (List Use)) (units : ℕ) (F : List Family) (S : List Sharing) → shapes ≡ all_shapes n → sharings ≡ sharings_in n → imports ≡ imports_in n → families ≡ n.queues → F ≡ families → S ≡ sharings → units ≡ length n.units → B ≡ by_unit (length n.units) (all_uses n commands) → groups ≡ flat_map (λ unit. runs (joins F S) (bucket B unit)) (range_with_len 0 units) → ◌≡◌ {A = Grouping} (record { shapes = shapes; sharings = sharings; imports = imports; families = families; commands = commands; groups = groups }) (grouped n commands)
assembled n commands shapes sharings imports families groups B units F S a b c d f s u x g =
    same_parts commands shapes (all_shapes n) sharings (sharings_in n) imports (imports_in n) families n.queues groups (grouped n commands).groups a b c d
    (groups_are n commands groups B units F S (f ∙ d) (s ∙ b) u x g)

pub uses_are : (n : NumberedFrame) (commands list : List Command) (shapes : List Shape) (units : ℕ) (uses : List Use) → shapes ≡ all_shapes n → units ≡ length n.units → list ≡ commands → uses ≡ uses_of shapes units 0 list → uses ≡ all_uses n commands
uses_are n commands list shapes units uses a b e u =
    u
    ∙ ap₂ (λ x k. uses_of x k 0 list) a b
    ∙ ap (uses_of (all_shapes n) (length n.units) 0) e

pub buckets_are : (n : NumberedFrame) (commands : List Command) (uses list : List Use) (units : ℕ) (B : List (List Use)) → uses ≡ all_uses n commands → list ≡ uses → units ≡ length n.units → B ≡ by_unit units list → B ≡ by_unit (length n.units) (all_uses n commands)
buckets_are n commands uses list units B a b e f = f ∙ ap₂ by_unit e (b ∙ a)

pub units-known : (n : NumberedFrame) (commands : List Command) (uses list : List Use) (units : ℕ) → uses ≡ all_uses n commands → list ≡ uses → units ≡ length n.units → All (λ u. u.unit < units) list
units-known n commands uses list units a b e = subst (All (λ u. u.unit < units)) (sym (b ∙ a)) (subst (λ k. All (λ u. u.unit < k) (all_uses n commands)) (sym e) (units_within (all_shapes n) (length n.units) 0 commands))

pub operands-known : (n : NumberedFrame) (commands list : List Command) (shapes : List Shape) → shapes ≡ all_shapes n → list ≡ commands → All (λ command. All (λ r. r < length (all_shapes n)) (operands_of command.op)) commands → All (λ command. All (λ r. r < length shapes) (operands_of command.op)) list
operands-known n commands list shapes a e h =
    subst (All (λ command. All (λ r. r < length shapes) (operands_of command.op))) (sym e)
    (subst (λ x. All (λ command. All (λ r. r < length x) (operands_of command.op)) commands) (sym a) h)

-- by its own commands
pub of_own : (n : NumberedFrame) (commands : List Command) (G : Grouping) → G ≡ grouped n commands → G ≡ grouped n G.commands
of_own n commands G is = is ∙ ap (grouped n) (sym (ap (λ (X : Grouping). X.commands) is))

pub own_commands : (n : NumberedFrame) (commands : List Command) (G : Grouping) → G ≡ grouped n commands → G.commands ≡ commands
own_commands n commands G is = ap (λ (X : Grouping). X.commands) is

-- THE LAWS

pub is_grouped : (n : NumberedFrame) (commands : List Command) → IsGrouped (grouped n commands)
is_grouped n commands = record {
  in_order = in_order n commands;
  groups_rise = groups_rise n commands;
  members_rise = members_rise n commands;
  joined = joined n commands;
  whole = whole n commands;
  found = found n commands;
  numbered = numbered n commands;
  sourced = sourced n commands;
  few = groups-few n commands;
}

pub is_known : (n : NumberedFrame) (commands : List Command) → AreKnown n commands → IsKnown (grouped n commands)
is_known n commands known = record {
  queues = known.queues;
  operands = known.operands;
  units = subst (λ k. All (λ u. u.unit < k) (uses_in (grouped n commands))) shared (units_within (all_shapes n) (length (sharings_in n)) 0 commands);
  members = members_within n commands known.queues;
  sharings = shared;
  shapes = let a = length-map n.units (λ u. is_some u.imported) in let b = shapes-length n in omega (arith, a, b);
}
  where
    shared : length (sharings_in n) ≡ length (imports_in n)
    shared = length-map n.units (λ u. u.sharing) ∙ sym (length-map n.units (λ u. is_some u.imported))

pub is_small : (n : NumberedFrame) (commands : List Command) → IsValid n → length commands ≤ 288 → IsSmall (grouped n commands)
is_small n commands good few = record {
  few_commands = few;
  few_units = let u = good.few_units in let e = length-map n.units (λ u. is_some u.imported) in omega (arith, u, e);
  sizes = sizes-small n commands good;
}
