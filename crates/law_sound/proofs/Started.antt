-- A unit that is no import is stored whole before anything else touches it.
use Rattle.std.proofs.Common.{◌≡◌, ⊎_elim, ℕ, zero, suc, ◌+◌, ◌-◌, ◌<◌, ◌≤◌, ◌==◌, ◌||◌, Bool, true, false, List, [], ◌∷◌, length, take, get_or, Some, refl, sym, ap, ◌∙◌, subst, eqb-true, ne_eqb, arith}
use Rattle.std.specs.List.{All, Contains, position_or_len}
use Rattle.std.specs.Prelude.{slice_get}
use Rattle.std.proofs.lemmas.Bool.{cases_lt, cases_order, false≢true, or_cases, or_left}
use Rattle.std.proofs.lemmas.List.Elements.{All-append, All-contains, Contains-append_left}
use Rattle.std.proofs.lemmas.List.Folds.{Any-from_list_any}
use Rattle.std.proofs.lemmas.List.Sums.{fails_before_first, passes_at_first}
use Rattle.std.proofs.lemmas.Option.{get_or_from_slice_get, slice_get-get_or, slice_get_within}
use Rattle.base.proofs.Absence.{some_same}
use Rattle.base.proofs.Lists.{entry_of, one}
use Rattle.base.specs.Operands.{destination_of, operands_of, sources_of, touches}
use Rattle.base.specs.Shapes.{shape_at}
use Rattle.base.specs.declared.op.Op.{Op}
use Rattle.base.specs.declared.shape.Shape.{Shape}
use Rattle.base.specs.declared.shape.Shape.TheVariants.{Buffer, Image}
use Rattle.law_sound.proofs.Entries.{entry_cases, entry_left}
use Rattle.law_sound.proofs.KeptCommands.{IsOp, ops_at, start, starts_rise, there_at, where_from}
use Rattle.law_sound.proofs.Makers.{IsTouched, export_touched, found_touched, good_pass, starts_there, write_cases}
use Rattle.law_sound.specs.Starts.{IsStart}
use Rattle.frame.specs.Valid.{IsValid, IsValidOp, IsValidPass, has_contents, is_import, shapes_in}
use Rattle.frame.specs.Numbered.{NumberedFrame}
use Rattle.frame.specs.Uses.{reads_it, starts_whole, stores_whole, writes_it}
use Rattle.compile_groups.specs.Commands.{commands, copy_out, export_command, export_commands, kept_commands}
use Rattle.compile_groups.specs.declared.command.Command.{Command}
use Rattle.frame_cull.specs.Culled.{AreKept}
use Rattle.frame_cull.specs.Versions.{changes, pass_at, used}

-- the copy of an export touches its unit and its buffer
record IsCopy (frame : NumberedFrame) (units : List ℕ) (command : Command) : Type 0 where
  unit : ℕ
  number : ℕ
  there : Contains units unit
  is : command ≡ export_command frame number unit

copy_is : (frame : NumberedFrame) (units : List ℕ) (k i : ℕ) (command : Command) → slice_get (export_commands frame k units) i ≡ Some command → IsCopy frame units command
copy_is frame [] k i command e = absurd cc
copy_is frame (unit ∷ units) k zero command e = let same : export_command frame k unit ≡ command = cc in record { unit = unit; number = k; there = (0, omega arith, refl); is = sym same }
copy_is frame (unit ∷ units) k (suc i) command e =
    let rest = copy_is frame units (suc k) i command e in
    let t = rest.there in
    let low = t.1 in
    record { unit = rest.unit; number = rest.number; there = (suc t.0, omega (arith, low), t.2); is = rest.is }

copy_touches : (unit src dst : ℕ) (shape : Shape) → touches unit (copy_out shape src dst) ≡ true → unit < dst → src ≡ unit
copy_touches unit src dst shape e lt = go shape e
  where
    late : (dst == unit) ≡ false
    late = ne_eqb dst unit (λ same. omega (arith, same, lt))

    either : ((src == unit) || ((dst == unit) || false)) ≡ true → src ≡ unit
    either h = ⊎_elim
        (λ own. eqb-true src unit own)
        (λ other. absurd (false≢true (sym (ap (λ b. b || false) late) ∙ other)))
        (or_cases (src == unit) ((dst == unit) || false) h)

    go : (s : Shape) → touches unit (copy_out s src dst) ≡ true → src ≡ unit
    go (Buffer size) h = either h
    go (Image width height texel) h = either h

module _ (frame : NumberedFrame) (kept : List Bool) (good : IsValid frame) (A : AreKept frame kept) (unit : ℕ) (below : unit < length frame.units) (none : is_import frame.units unit ≡ false) where
  abbrev own : List Command
  own = kept_commands frame.passes kept

  abbrev copies : List Command
  copies = export_commands frame 0 frame.exports

  -- the first command that touches the unit
  module _ (b : ℕ) (B : Command) (at : slice_get (commands frame kept) b ≡ Some B) (touched : touches unit B.op ≡ true) (first : (e : ℕ) (other : Command) → e < b → slice_get (commands frame kept) e ≡ Some other → touches unit other.op ≡ false) where
    -- so no operation of a kept pass before it does
    none_before : (p i : ℕ) (op : Op ℕ) → p < length frame.passes → get_or kept p false ≡ true → slice_get (ops_at frame.passes p) i ≡ Some op → start frame.passes kept p + i < b → touches unit op ≡ true → ⊥
    none_before p i op lt k o early t =
        let C = there_at frame.passes kept p i op lt k o in
        let within = slice_get_within own (start frame.passes kept p + i) C.0 C.1 in
        let clear = first (start frame.passes kept p + i) C.0 early (entry_left own copies (start frame.passes kept p + i) within ∙ C.1) in
        false≢true (sym (subst (λ x. touches unit x ≡ false) C.2 clear) ∙ t)

    module _ (p i : ℕ) (I : IsOp frame.passes kept b p i B.op) where
      P : IsValidPass frame (take p frame.passes) (pass_at frame p)
      P = good_pass frame kept good A unit none p I.within

      untouched : IsTouched frame kept p unit → ⊥
      untouched T =
          let rise = starts_rise frame.passes kept T.pass p T.place T.op T.before T.within T.is_kept T.at in
          let place = I.place in
          none_before T.pass T.place T.op T.within T.is_kept T.at (omega (arith, rise, place)) T.touches_it

      -- what an operation touches is declared
      declared : (writes_it (pass_at frame p) unit || reads_it (pass_at frame p) unit) ≡ true
      declared = go (Any-from_list_any (λ x. x == unit) (operands_of B.op) touched)
        where
          D : IsValidOp frame (pass_at frame p) B.op
          D = entry_of (IsValidOp frame (pass_at frame p)) (ops_at frame.passes p) i B.op P.ops_good I.at

          all : All (λ x. (writes_it (pass_at frame p) x || reads_it (pass_at frame p) x) ≡ true) (operands_of B.op)
          all = All-append (λ x. (writes_it (pass_at frame p) x || reads_it (pass_at frame p) x) ≡ true) (sources_of B.op) (destination_of B.op ∷ []) D.declared_sources
              (one (λ x. (writes_it (pass_at frame p) x || reads_it (pass_at frame p) x) ≡ true) (destination_of B.op) (or_left (writes_it (pass_at frame p) (destination_of B.op)) (reads_it (pass_at frame p) (destination_of B.op)) D.declared_destination))

          go : (k : ℕ) × (x : ℕ) × (k < length (operands_of B.op)) × (get_or (operands_of B.op) k x ≡ x) × ((x == unit) ≡ true) → (writes_it (pass_at frame p) unit || reads_it (pass_at frame p) unit) ≡ true
          go (k, x, low, is, same) = subst (λ u. (writes_it (pass_at frame p) u || reads_it (pass_at frame p) u) ≡ true) (is ∙ eqb-true x unit same) (all k x low)

      read_there : reads_it (pass_at frame p) unit ≡ true → (has_contents frame.units (take p frame.passes) unit ≡ true) × Contains (used (pass_at frame p)) unit
      read_there e = go (Any-from_list_any (λ r. r == unit) (pass_at frame p).reads e)
        where
          go : (k : ℕ) × (r : ℕ) × (k < length (pass_at frame p).reads) × (get_or (pass_at frame p).reads k r ≡ r) × ((r == unit) ≡ true) → (has_contents frame.units (take p frame.passes) unit ≡ true) × Contains (used (pass_at frame p)) unit
          go (k, r, low, is, same) =
              let u : r ≡ unit = eqb-true r unit same in (
                subst (λ x. has_contents frame.units (take p frame.passes) x ≡ true) (is ∙ u) (P.reads_there k r low),
                subst (λ x. Contains (used (pass_at frame p)) x) u (Contains-append_left (pass_at frame p).reads (changes (pass_at frame p).writes) r (k, low, is)),
              )

      found : (has_contents frame.units (take p frame.passes) unit ≡ true) × Contains (used (pass_at frame p)) unit → ⊥
      found h = untouched (found_touched frame kept good A unit none p I.within I.is_kept h.0 h.1)

      -- the first operation of its pass that touches the unit is this one
      started : starts_whole (shapes_in frame) (ops_at frame.passes p) unit ≡ true → stores_whole (shapes_in frame) unit B.op ≡ true
      started whole =
          let s = starts_there frame kept good A unit none (ops_at frame.passes p) whole in
          let place = I.place in
          ⊎_elim
          (λ (same : s.0 ≡ i). subst (λ o. stores_whole (shapes_in frame) unit o ≡ true) (some_same (sym s.2 ∙ ap (slice_get (ops_at frame.passes p)) same ∙ I.at)) s.4)
          (⊎_elim
          (λ (l : s.0 < i). absurd (none_before p s.0 s.1 I.within I.is_kept s.2 (omega (arith, l, place)) s.3))
          (λ (l : i < s.0). absurd (false≢true (sym (s.5 i B.op l I.at) ∙ touched))))
          (cases_order s.0 i)

      pub kept_whole : stores_whole (shapes_in frame) unit B.op ≡ true
      kept_whole = ⊎_elim
          (λ w. ⊎_elim started (λ old. absurd (found old)) (write_cases frame kept good A unit none p I.within w))
          (λ r. absurd (found (read_there r)))
          (or_cases (writes_it (pass_at frame p) unit) (reads_it (pass_at frame p) unit) declared)

    -- it is no copy of an export, since that finds what a kept pass stored
    no_copy : length own ≤ b → slice_get copies (b - length own) ≡ Some B → ⊥
    no_copy le e = early (export_touched frame kept good A unit none (subst (λ u. has_contents frame.units frame.passes u ≡ true) same (All-contains (λ u. has_contents frame.units frame.passes u ≡ true) frame.exports C.unit good.exports_there C.there)) (subst (λ u. Contains frame.exports u) same C.there))
      where
        C : IsCopy frame frame.exports B
        C = copy_is frame frame.exports 0 (b - length own) B e

        same : C.unit ≡ unit
        same = copy_touches unit C.unit (length frame.units + C.number) (shape_at (shapes_in frame) C.unit) (subst (λ (x : Command). touches unit x.op ≡ true) C.is touched) (omega (arith, below))

        early : IsTouched frame kept (length frame.passes) unit → ⊥
        early T =
            let D = there_at frame.passes kept T.pass T.place T.op T.within T.is_kept T.at in
            let within = slice_get_within own (start frame.passes kept T.pass + T.place) D.0 D.1 in
            none_before T.pass T.place T.op T.within T.is_kept T.at (omega (arith, within, le)) T.touches_it

    pub first_whole : stores_whole (shapes_in frame) unit B.op ≡ true
    first_whole = ⊎_elim
        (λ h. let w = where_from frame.passes kept b B h in kept_whole w.0 w.1 w.2)
        (λ h. absurd (no_copy h.0 h.1))
        (entry_cases own copies b B at)

  pub is_started : (c : ℕ) (command : Command) → slice_get (commands frame kept) c ≡ Some command → touches unit command.op ≡ true → (b : ℕ) × (b ≤ c) × IsStart (shapes_in frame) (commands frame kept) unit b
  is_started c command there touched = (b, low, record { command = B; there = at; whole = first_whole b B at passes first; first = first })
    where
      b : ℕ
      b = position_or_len (λ (d : Command). touches unit d.op) (commands frame kept)

      B : Command
      B = get_or (commands frame kept) (position_or_len (λ (d : Command). touches unit d.op) (commands frame kept)) command

      low : position_or_len (λ (d : Command). touches unit d.op) (commands frame kept) ≤ c
      low = ⊎_elim
          (λ early. absurd (false≢true (sym (fails_before_first (λ (d : Command). touches unit d.op) (commands frame kept) c command early) ∙ ap (λ (d : Command). touches unit d.op) (get_or_from_slice_get (commands frame kept) c command command there) ∙ touched)))
          (λ le. le)
          (cases_lt c (position_or_len (λ (d : Command). touches unit d.op) (commands frame kept)))

      within : position_or_len (λ (d : Command). touches unit d.op) (commands frame kept) < length (commands frame kept)
      within = let l = low in let w = slice_get_within (commands frame kept) c command there in omega (arith, l, w)

      at : slice_get (commands frame kept) (position_or_len (λ (d : Command). touches unit d.op) (commands frame kept)) ≡ Some (get_or (commands frame kept) (position_or_len (λ (d : Command). touches unit d.op) (commands frame kept)) command)
      at = slice_get-get_or (commands frame kept) (position_or_len (λ (d : Command). touches unit d.op) (commands frame kept)) command within

      passes : touches unit (get_or (commands frame kept) (position_or_len (λ (d : Command). touches unit d.op) (commands frame kept)) command).op ≡ true
      passes = passes_at_first (λ (d : Command). touches unit d.op) (commands frame kept) command within

      first : (e : ℕ) (other : Command) → e < position_or_len (λ (d : Command). touches unit d.op) (commands frame kept) → slice_get (commands frame kept) e ≡ Some other → touches unit other.op ≡ false
      first e other lt is = sym (ap (λ (d : Command). touches unit d.op) (get_or_from_slice_get (commands frame kept) e other other is)) ∙ fails_before_first (λ (d : Command). touches unit d.op) (commands frame kept) e other lt
