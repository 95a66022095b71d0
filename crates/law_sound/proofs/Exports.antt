-- The commands that copy exports: one for each.
use Rattle.std.proofs.Common.{◌≡◌, ⊎_elim, ℕ, zero, suc, ◌+◌, ◌-◌, ◌<◌, ◌≤◌, ◌==◌, Bool, true, false, List, [], ◌∷◌, length, map, get_or, if◌then◌else◌, Option, Some, None, refl, sym, ap, ◌∙◌, eq-eqb, eqb-true, arith}
use Rattle.std.specs.List.{All, position_or_len}
use Rattle.std.specs.Option.{option_map_or}
use Rattle.std.specs.Prelude.{is_some, slice_get}
use Rattle.std.proofs.lemmas.Bool.{cases_lt, false≢true}
use Rattle.std.proofs.lemmas.List.{length-append, length-map}
use Rattle.std.proofs.lemmas.List.Elements.{All-nil, All-append, All-map}
use Rattle.std.proofs.lemmas.List.Sums.{fails_before_first, passes_at_first}
use Rattle.std.proofs.lemmas.Option.{get_or_from_slice_get, slice_get-get_or, slice_get_within}
use Rattle.base.proofs.Absence.{some_same}
use Rattle.base.proofs.Lists.{entry_of, got_back}
use Rattle.law_sound.proofs.Entries.{entry_cases}
use Rattle.law_sound.specs.Nodes.{copy_of}
use Rattle.law_sound.specs.Plan.{export_count, exports, is_copy_of}
use Rattle.frame.specs.Valid.{shapes_in}
use Rattle.frame.specs.Numbered.{NumberedFrame}
use Rattle.frame.specs.Units.{Unit}
use Rattle.frame.specs.declared.numbered.NumberedPass.{NumberedPass}
use Rattle.compile_groups.specs.Commands.{export_command, export_commands, kept_commands, on_queue, pass_commands, readback_shape}
use Rattle.compile_groups.specs.Groups.{grouping}
use Rattle.compile_groups.specs.declared.command.Command.{Command}
use Rattle.compile_groups.specs.declared.grouping.Grouping.{Grouping}

-- command c copies export k
pub record Copies (G : Grouping) (k c : ℕ) : Type 0 where
  pub command : Command
  pub there : slice_get G.commands c ≡ Some command
  pub export : command.export ≡ Some k

pub copies_from : (G : Grouping) (k c : ℕ) → is_copy_of G k c ≡ true → Copies G k c
copies_from G k c e = go (slice_get G.commands c) refl e
  where
    of_export : (command : Command) → slice_get G.commands c ≡ Some command → (x : Option ℕ) → command.export ≡ x → option_map_or (λ j. j == k) x false ≡ true → Copies G k c
    of_export command at None is t = absurd (false≢true t)
    of_export command at (Some j) is t = record { command = command; there = at; export = is ∙ ap (λ z. Some z) (eqb-true j k t) }

    go : (o : Option Command) → slice_get G.commands c ≡ o → option_map_or (exports k) o false ≡ true → Copies G k c
    go None at t = absurd (false≢true t)
    go (Some command) at t = of_export command at command.export refl t

-- each export has a copy, and one alone
pub record AreCopied (G : Grouping) : Type 0 where
  pub each : (k : ℕ) → k < export_count G → Copies G k (copy_of G k)
  pub once : (k c : ℕ) → Copies G k c → copy_of G k ≡ c

-- OF A FRAME

pass_none : (pass : NumberedPass) → All (λ command. command.export ≡ None) (pass_commands pass)
pass_none pass = All-map (λ (command : Command). command.export ≡ None) (on_queue pass.queue) pass.ops (λ k d lt. refl)

kept_none : (passes : List NumberedPass) (kept : List Bool) → All (λ command. command.export ≡ None) (kept_commands passes kept)
kept_none [] kept = All-nil (λ (command : Command). command.export ≡ None)
kept_none (pass ∷ passes) [] = All-nil (λ (command : Command). command.export ≡ None)
kept_none (pass ∷ passes) (keep ∷ kept) = All-append (λ (command : Command). command.export ≡ None) (if keep then pass_commands pass else []) (kept_commands passes kept) (own keep) (kept_none passes kept)
  where
    own : (b : Bool) → All (λ command. command.export ≡ None) (if b then pass_commands pass else [])
    own true = pass_none pass
    own false = All-nil (λ (command : Command). command.export ≡ None)

module _ (frame : NumberedFrame) where
  export_number : (units : List ℕ) (k i : ℕ) (command : Command) → slice_get (export_commands frame k units) i ≡ Some command → command.export ≡ Some (k + i)
  export_number [] k i command e = absurd cc
  export_number (unit ∷ units) k zero command e =
      let is : export_command frame k unit ≡ command = cc in
      let z : k ≡ k + 0 = omega arith in
      ap (λ (x : Command). x.export) (sym is) ∙ ap (λ n. Some n) z
  export_number (unit ∷ units) k (suc i) command e = let n : suc k + i ≡ k + suc i = omega arith in export_number units (suc k) i command e ∙ ap (λ m. Some m) n

  export_there : (units : List ℕ) (k i : ℕ) → i < length units → (command : Command) × (slice_get (export_commands frame k units) i ≡ Some command)
  export_there [] k i lt = absurd (omega (arith, lt))
  export_there (unit ∷ units) k zero lt = (export_command frame k unit, refl)
  export_there (unit ∷ units) k (suc i) lt = export_there units (suc k) i (omega (arith, lt))

  module _ (kept : List Bool) where
    abbrev G : Grouping
    G = grouping frame kept

    abbrev own : List Command
    own = kept_commands frame.passes kept

    -- where a copy stands
    copy_place : (k c : ℕ) → Copies G k c → c ≡ length own + k
    copy_place k c C = ⊎_elim early late (entry_cases own (export_commands frame 0 frame.exports) c C.command C.there)
      where
        early : slice_get own c ≡ Some C.command → c ≡ length own + k
        early at = absurd (let none = entry_of (λ (command : Command). command.export ≡ None) own c C.command (kept_none frame.passes kept) at in let some = C.export in cc)

        late : (length own ≤ c) × (slice_get (export_commands frame 0 frame.exports) (c - length own) ≡ Some C.command) → c ≡ length own + k
        late h =
            let le = h.0 in
            let number : 0 + (c - length own) ≡ k = some_same (sym (export_number frame.exports 0 (c - length own) C.command h.1) ∙ C.export) in
            omega (arith, le, number)

    count_is : export_count G ≡ length frame.exports
    count_is =
        let all = length-append (shapes_in frame) (map (readback_shape frame) frame.exports) in
        let shapes = length-map frame.units (λ (u : Unit). u.shape) in
        let buffers = length-map frame.exports (readback_shape frame) in
        let imports : length G.imports ≡ length frame.units = length-map frame.units (λ (u : Unit). is_some u.imported) in
        omega (arith, all, shapes, buffers, imports)

    some_copy : (k : ℕ) → k < export_count G → Copies G k (length own + k)
    some_copy k lt =
        let count = count_is in
        let e = export_there frame.exports 0 k (omega (arith, count, lt)) in
        let z : 0 + k ≡ k = omega arith in
        record { command = e.0; there = got_back own (export_commands frame 0 frame.exports) k ∙ e.1; export = export_number frame.exports 0 k e.0 e.1 ∙ ap (λ n. Some n) z }

    -- the first one is a copy, so the only one
    first_copy : (k c : ℕ) → Copies G k c → Copies G k (copy_of G k)
    first_copy k c C = copies_from G k (copy_of G k) (ap (λ o. option_map_or (exports k) o false) (at_first C.command) ∙ passes_at_first (exports k) G.commands C.command within)
      where
        passes : exports k (get_or G.commands c C.command) ≡ true
        passes = ap (exports k) (get_or_from_slice_get G.commands c C.command C.command C.there) ∙ ap (λ x. option_map_or (λ j. j == k) x false) C.export ∙ eq-eqb k k refl

        within : position_or_len (exports k) G.commands < length G.commands
        within = let below = slice_get_within G.commands c C.command C.there in ⊎_elim
            (λ lt. lt)
            (λ le. absurd (false≢true (sym (fails_before_first (exports k) G.commands c C.command (omega (arith, le, below))) ∙ passes)))
            (cases_lt (position_or_len (exports k) G.commands) (length G.commands))

        at_first : (d : Command) → slice_get G.commands (copy_of G k) ≡ Some (get_or G.commands (copy_of G k) d)
        at_first d = slice_get-get_or G.commands (copy_of G k) d within

    pub are_copied : AreCopied G
    are_copied = record {
      each = λ k lt. first_copy k (length own + k) (some_copy k lt);
      once = λ k c C. copy_place k (copy_of G k) (first_copy k c C) ∙ sym (copy_place k c C);
    }
