-- What a command names has a piece.
use Rattle.std.proofs.Common.{◌≡◌, ◌⊎◌, inl, inr, ℕ, zero, suc, ◌<◌, ◌≤◌, ◌==◌, ◌||◌, not, nat_lt, Bool, true, false, List, [], ◌∷◌, ◌++◌, length, map, get_or, if◌then◌else◌, refl, sym, ap, ap₂, ◌∙◌, subst, eqb-true, lt-ltb, le-leb, arith}
use Rattle.std.specs.List.{All, list_any}
use Rattle.std.proofs.lemmas.Bool.{and_from, cases_lt, false≢true, or_right}
use Rattle.std.proofs.lemmas.List.Folds.{Any-from_list_any, list_any-append, list_any_at}
use Rattle.base.proofs.Lists.{any_mapped}
use Rattle.base.specs.Operands.{sources_of, destination_of, operands_of, touches}
use Rattle.base.specs.Touches.{source_touch, destination_touch, touches_of}
use Rattle.base.specs.declared.op.Op.{Op}
use Rattle.base.specs.declared.shape.Shape.{Shape}
use Rattle.base.specs.declared.touch.Touch.{Touch}
use Rattle.law_meaning.proofs.Operations.{each_touched}
use Rattle.compile_groups.specs.Laws.{IsFound, IsGrouped, IsKnown}
use Rattle.compile_groups.specs.Needs.{group_at, group_of, has_unit, is_touched, uses_in}
use Rattle.compile_groups.specs.Uses.{use_of, is_first_named, uses_from, command_uses, uses_of}
use Rattle.compile_groups.specs.declared.command.Command.{Command}
use Rattle.compile_groups.specs.declared.grouping.Grouping.{Grouping}
use Rattle.compile_groups.specs.declared.unit_use.Use.{Use}
use Rattle.compile_record.specs.Pieces.{is_readback, has_piece}

-- ONE COMMAND

-- an operand is touched
operand_touch : (shapes : List Shape) (op : Op ℕ) (r : ℕ) → list_any (λ t. t.what == r) (touches_of shapes op) ≡ touches r op
operand_touch shapes op r =
    list_any-append (λ (t : Touch). t.what == r) (map (source_touch shapes op) (sources_of op)) (destination_touch shapes op ∷ [])
    ∙ ap (λ b. b || list_any (λ (t : Touch). t.what == r) (destination_touch shapes op ∷ [])) (any_mapped (λ (t : Touch). t.what == r) (source_touch shapes op) (sources_of op))
    ∙ sym (list_any-append (λ x. x == r) (sources_of op) (destination_of op ∷ []))

module _ (shapes : List Shape) (units : ℕ) (r : ℕ) (known : r < units) where
  -- and so is a use of its command
  touch_used : (c q k : ℕ) (named : List ℕ) (touches : List Touch) → list_any (λ u. u == r) named ≡ false → list_any (λ t. t.what == r) touches ≡ true → has_unit r (uses_from shapes units c q k named touches) ≡ true
  touch_used c q k named [] none e = absurd (false≢true e)
  touch_used c q k named (t ∷ touches) none e =
      list_any-append (λ (u : Use). u.unit == r) (if is_first_named units named t.what then use_of shapes c q k t ∷ [] else []) (uses_from shapes units c q (suc k) (named ++ t.what ∷ []) touches)
      ∙ go (t.what == r) refl e (touch_used c q (suc k) (named ++ t.what ∷ []) touches)
    where
      first : t.what ≡ r → is_first_named units named t.what ≡ true
      first same = subst (λ x. is_first_named units named x ≡ true) (sym same) (and_from (nat_lt r units) (not (list_any (λ u. u == r) named)) (lt-ltb r units known) (ap not none))

      unnamed : (t.what == r) ≡ false → list_any (λ u. u == r) (named ++ t.what ∷ []) ≡ false
      unnamed h = list_any-append (λ u. u == r) named (t.what ∷ []) ∙ ap₂ (λ a b. a || (b || false)) none h

      go : (b : Bool) → (t.what == r) ≡ b → (b || list_any (λ x. x.what == r) touches) ≡ true
          → (list_any (λ u. u == r) (named ++ t.what ∷ []) ≡ false → list_any (λ x. x.what == r) touches ≡ true → has_unit r (uses_from shapes units c q (suc k) (named ++ t.what ∷ []) touches) ≡ true)
          → (list_any (λ (u : Use). u.unit == r) (if is_first_named units named t.what then use_of shapes c q k t ∷ [] else []) || has_unit r (uses_from shapes units c q (suc k) (named ++ t.what ∷ []) touches)) ≡ true
      go true h e more =
          ap (λ b. list_any (λ (u : Use). u.unit == r) (if b then use_of shapes c q k t ∷ [] else []) || has_unit r (uses_from shapes units c q (suc k) (named ++ t.what ∷ []) touches)) (first (eqb-true t.what r h))
          ∙ ap (λ b. (b || false) || has_unit r (uses_from shapes units c q (suc k) (named ++ t.what ∷ []) touches)) h
      go false h e more = or_right (list_any (λ (u : Use). u.unit == r) (if is_first_named units named t.what then use_of shapes c q k t ∷ [] else [])) (has_unit r (uses_from shapes units c q (suc k) (named ++ t.what ∷ []) touches)) (more (unnamed h) e)

  command_used : (c : ℕ) (command : Command) → touches r command.op ≡ true → has_unit r (command_uses shapes units c command) ≡ true
  command_used c command e = touch_used c command.queue 0 [] (touches_of shapes command.op) refl (operand_touch shapes command.op r ∙ e)

  pub all_used : (c : ℕ) (commands : List Command) (i : ℕ) (d : Command) → i < length commands → touches r (get_or commands i d).op ≡ true → has_unit r (uses_of shapes units c commands) ≡ true
  all_used c [] i d lt e = absurd (omega (arith, lt))
  all_used c (command ∷ commands) zero d lt e =
      list_any-append (λ (u : Use). u.unit == r) (command_uses shapes units c command) (uses_of shapes units (suc c) commands)
      ∙ ap (λ b. b || has_unit r (uses_of shapes units (suc c) commands)) (command_used c command e)
  all_used c (command ∷ commands) (suc i) d lt e =
      list_any-append (λ (u : Use). u.unit == r) (command_uses shapes units c command) (uses_of shapes units (suc c) commands)
      ∙ or_right (has_unit r (command_uses shapes units c command)) (has_unit r (uses_of shapes units (suc c) commands)) (all_used (suc c) commands i d (omega (arith, lt)) e)

-- ALL COMMANDS

-- a unit or a read-back that has a piece
abbrev pub Has : Grouping → ℕ → Type 0
Has G r = (r < length G.shapes) × (has_piece G r ≡ true)

module _ (G : Grouping) (grouped : IsGrouped G) (known : IsKnown G) where
  used_touched : (r : ℕ) → has_unit r (uses_in G) ≡ true → is_touched G r ≡ true
  used_touched r e =
      let any = Any-from_list_any (λ (u : Use). u.unit == r) (uses_in G) e in
      let found : IsFound G any.1 = subst (IsFound G) any.3 (grouped.found any.0 any.1 any.2) in
      let member = found.member in
      list_any_at (has_unit r) G.groups (group_of G any.1.command any.1.unit) [] found.group
      (list_any_at (λ (u : Use). u.unit == r) (group_at G (group_of G any.1.command any.1.unit)) member.0 any.1 member.1 (subst (λ x. (x.unit == r) ≡ true) (sym member.2) any.4))

  pub operands_have : All (λ command. All (Has G) (operands_of command.op)) G.commands
  operands_have = λ i d lt j e less. (known.operands i d lt j e less, go i d lt (get_or (operands_of (get_or G.commands i d).op) j e) (each_touched (get_or G.commands i d).op j e less) (cases_lt (get_or (operands_of (get_or G.commands i d).op) j e) (length G.imports)))
    where
      go : (i : ℕ) (d : Command) → i < length G.commands → (r : ℕ) → touches r (get_or G.commands i d).op ≡ true → (r < length G.imports) ⊎ (length G.imports ≤ r) → has_piece G r ≡ true
      go i d lt r touch (inl unit) =
          let count = known.sharings in
          or_right (is_readback G r) (is_touched G r) (used_touched r (all_used G.shapes (length G.sharings) r (omega (arith, unit, count)) 0 G.commands i d lt touch))
      go i d lt r touch (inr past) = ap (λ b. b || is_touched G r) (le-leb (length G.imports) r past)
