-- What a command names has a piece: a buffer of an export has one always, and a unit that is named is used.
use Rattle.std.proofs.Common.{◌≡◌, ⊎_elim, ℕ, zero, suc, ◌<◌, ◌≤◌, ◌==◌, ◌||◌, ◌++◌, nat_lt, not, Bool, true, false, List, [], ◌∷◌, length, map, get_or, if◌then◌else◌, refl, sym, ap, ◌∙◌, subst, eq-eqb, eqb-true, arith}
use Rattle.std.specs.List.{Contains, list_any}
use Rattle.std.proofs.lemmas.Bool.{cases_lt, and_from, lt-ltb, le-leb, or_left, or_right, or_from}
use Rattle.std.proofs.lemmas.List.Elements.{All-contains, Contains-append_left, Contains-append_right}
use Rattle.std.proofs.lemmas.List.Folds.{list_any_at, list_any-append}
use Rattle.base.proofs.Booleans.{clash}
use Rattle.base.proofs.Lists.{any_mapped}
use Rattle.base.specs.Operands.{sources_of, destination_of, operands_of}
use Rattle.base.specs.Touches.{source_touch, destination_touch, touches_of}
use Rattle.base.specs.declared.op.Op.{Op}
use Rattle.base.specs.declared.shape.Shape.{Shape}
use Rattle.base.specs.declared.touch.Touch.{Touch}
use Rattle.compile_groups.specs.Laws.{IsFound, IsGrouped, IsKnown}
use Rattle.compile_groups.specs.Needs.{group_at, group_of, has_unit, is_touched, uses_in}
use Rattle.compile_groups.specs.Uses.{is_first_named, use_of, uses_from, command_uses, uses_of}
use Rattle.compile_groups.specs.declared.command.Command.{Command}
use Rattle.compile_groups.specs.declared.grouping.Grouping.{Grouping}
use Rattle.compile_groups.specs.declared.unit_use.Use.{Use}
use Rattle.compile_record.specs.Pieces.{is_readback, has_piece}

-- THE USE OF A UNIT

abbrev pub names : ℕ → Touch → Bool
names r touch = touch.what == r

pub record IsUsed (r : ℕ) (uses : List Use) : Type 0 where
  pub one : Use
  pub unit : one.unit ≡ r
  pub there : Contains uses one

first_of : (shapes : List Shape) (units c q k : ℕ) (named : List ℕ) (touch : Touch) (r : ℕ) → r < units → list_any (λ unit. unit == r) named ≡ false → touch.what ≡ r → IsUsed r (if is_first_named units named touch.what then use_of shapes c q k touch ∷ [] else [])
first_of shapes units c q k named touch r lt new is =
    let own : is_first_named units named touch.what ≡ true = and_from (nat_lt touch.what units) (not (list_any (λ unit. unit == touch.what) named)) (subst (λ n. nat_lt n units ≡ true) (sym is) (lt-ltb r units lt)) (subst (λ n. not (list_any (λ unit. unit == n) named) ≡ true) (sym is) (ap not new)) in
    record { one = use_of shapes c q k touch; unit = is; there = subst (λ b. Contains (if b then use_of shapes c q k touch ∷ [] else []) (use_of shapes c q k touch)) (sym own) (0, omega arith, refl) }

pub named_used : (shapes : List Shape) (units c q k : ℕ) (named : List ℕ) (touches : List Touch) (r : ℕ) → r < units → list_any (λ unit. unit == r) named ≡ false → list_any (names r) touches ≡ true → IsUsed r (uses_from shapes units c q k named touches)
named_used shapes units c q k named [] r lt new e = absurd (clash e)
named_used shapes units c q k named (touch ∷ touches) r lt new e = go (touch.what == r) refl (λ more none. named_used shapes units c q (suc k) (named ++ touch.what ∷ []) touches r lt none more)
  where
    go : (b : Bool) → (touch.what == r) ≡ b → (list_any (names r) touches ≡ true → list_any (λ unit. unit == r) (named ++ touch.what ∷ []) ≡ false → IsUsed r (uses_from shapes units c q (suc k) (named ++ touch.what ∷ []) touches)) → IsUsed r (uses_from shapes units c q k named (touch ∷ touches))
    go true is later =
        let U = first_of shapes units c q k named touch r lt new (eqb-true touch.what r is) in
        record { one = U.one; unit = U.unit; there = Contains-append_left (if is_first_named units named touch.what then use_of shapes c q k touch ∷ [] else []) (uses_from shapes units c q (suc k) (named ++ touch.what ∷ []) touches) U.one U.there }
    go false is later =
        let more : list_any (names r) touches ≡ true = sym (ap (λ b. b || list_any (names r) touches) is) ∙ e in
        let none : list_any (λ unit. unit == r) (named ++ touch.what ∷ []) ≡ false = list_any-append (λ unit. unit == r) named (touch.what ∷ []) ∙ or_from (list_any (λ unit. unit == r) named) ((touch.what == r) || false) new (or_from (touch.what == r) false is refl) in
        let U = later more none in
        record { one = U.one; unit = U.unit; there = Contains-append_right (if is_first_named units named touch.what then use_of shapes c q k touch ∷ [] else []) (uses_from shapes units c q (suc k) (named ++ touch.what ∷ []) touches) U.one U.there }

-- operands and touches name the same
named_touched : (shapes : List Shape) (op : Op ℕ) (r : ℕ) → list_any (names r) (touches_of shapes op) ≡ list_any (λ x. x == r) (operands_of op)
named_touched shapes op r =
    list_any-append (names r) (map (source_touch shapes op) (sources_of op)) (destination_touch shapes op ∷ [])
    ∙ ap (λ b. b || ((destination_of op == r) || false)) (any_mapped (names r) (source_touch shapes op) (sources_of op))
    ∙ sym (list_any-append (λ x. x == r) (sources_of op) (destination_of op ∷ []))

command_used : (shapes : List Shape) (units c : ℕ) (command : Command) (k d : ℕ) → k < length (operands_of command.op) → get_or (operands_of command.op) k d < units → IsUsed (get_or (operands_of command.op) k d) (command_uses shapes units c command)
command_used shapes units c command k d lt within =
    let r : ℕ = get_or (operands_of command.op) k d in
    named_used shapes units c command.queue 0 [] (touches_of shapes command.op) r within refl
    (named_touched shapes command.op r ∙ list_any_at (λ x. x == r) (operands_of command.op) k d lt (eq-eqb r r refl))

among : (shapes : List Shape) (units c : ℕ) (commands : List Command) (place : ℕ) (d : Command) (r : ℕ) → place < length commands → ((n : ℕ) → IsUsed r (command_uses shapes units n (get_or commands place d))) → IsUsed r (uses_of shapes units c commands)
among shapes units c [] place d r lt U = absurd (omega (arith, lt))
among shapes units c (x ∷ commands) zero d r lt U =
    let V = U c in
    record { one = V.one; unit = V.unit; there = Contains-append_left (command_uses shapes units c x) (uses_of shapes units (suc c) commands) V.one V.there }
among shapes units c (x ∷ commands) (suc place) d r lt U =
    let V = among shapes units (suc c) commands place d r (omega (arith, lt)) U in
    record { one = V.one; unit = V.unit; there = Contains-append_right (command_uses shapes units c x) (uses_of shapes units (suc c) commands) V.one V.there }

-- PIECES

module _ (G : Grouping) (L : IsGrouped G) (K : IsKnown G) where
  used_touched : (r : ℕ) → IsUsed r (uses_in G) → is_touched G r ≡ true
  used_touched r U =
      let F : IsFound G U.one = All-contains (IsFound G) (uses_in G) U.one L.found U.there in
      let g : ℕ = group_of G U.one.command U.one.unit in
      let at : has_unit r (group_at G g) ≡ true = list_any_at (λ (u : Use). u.unit == r) (group_at G g) F.member.0 U.one F.member.1 (subst (λ (u : Use). (u.unit == r) ≡ true) (sym F.member.2) (eq-eqb U.one.unit r U.unit)) in
      list_any_at (has_unit r) G.groups g [] F.group at

  -- each operand of a command has one
  pub operand_piece : (c : ℕ) (d : Command) → c < length G.commands → (k e : ℕ) → k < length (operands_of (get_or G.commands c d).op) → has_piece G (get_or (operands_of (get_or G.commands c d).op) k e) ≡ true
  operand_piece c d lt k e lk = ⊎_elim unit buffer (cases_lt r (length G.imports))
    where
      r : ℕ
      r = get_or (operands_of (get_or G.commands c d).op) k e

      unit : get_or (operands_of (get_or G.commands c d).op) k e < length G.imports → has_piece G (get_or (operands_of (get_or G.commands c d).op) k e) ≡ true
      unit h = or_right (is_readback G (get_or (operands_of (get_or G.commands c d).op) k e)) (is_touched G (get_or (operands_of (get_or G.commands c d).op) k e))
          (used_touched (get_or (operands_of (get_or G.commands c d).op) k e)
          (among G.shapes (length G.sharings) 0 G.commands c d (get_or (operands_of (get_or G.commands c d).op) k e) lt
          (λ n. command_used G.shapes (length G.sharings) n (get_or G.commands c d) k e lk (subst (λ m. get_or (operands_of (get_or G.commands c d).op) k e < m) (sym K.sharings) h))))

      buffer : length G.imports ≤ get_or (operands_of (get_or G.commands c d).op) k e → has_piece G (get_or (operands_of (get_or G.commands c d).op) k e) ≡ true
      buffer h = or_left (is_readback G (get_or (operands_of (get_or G.commands c d).op) k e)) (is_touched G (get_or (operands_of (get_or G.commands c d).op) k e)) (le-leb (length G.imports) (get_or (operands_of (get_or G.commands c d).op) k e) h)

  -- and each unit that a group uses
  pub member_piece : (g k : ℕ) (d : Use) → g < length G.groups → k < length (group_at G g) → has_piece G (get_or (group_at G g) k d).unit ≡ true
  member_piece g k d lt lk =
      let r : ℕ = (get_or (group_at G g) k d).unit in
      or_right (is_readback G r) (is_touched G r) (list_any_at (has_unit r) G.groups g [] lt (list_any_at (λ (u : Use). u.unit == r) (group_at G g) k d lk (eq-eqb r r refl)))
