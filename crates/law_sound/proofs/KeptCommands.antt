-- Where the operations of kept passes stand among the commands.
use Rattle.std.proofs.Common.{◌≡◌, ⊎_elim, ℕ, zero, suc, ◌+◌, ◌-◌, ◌<◌, ◌≤◌, Bool, true, false, List, [], ◌∷◌, ◌++◌, length, map, take, get_or, if◌then◌else◌, Option, Some, None, refl, sym, ap, ◌∙◌, arith}
use Rattle.std.specs.Option.{option_map}
use Rattle.std.specs.Prelude.{slice_get}
use Rattle.std.proofs.lemmas.Bool.{false≢true}
use Rattle.std.proofs.lemmas.List.{length-append, length-map}
use Rattle.std.proofs.lemmas.Option.{slice_get-map, slice_get_within}
use Rattle.base.proofs.Lists.{got_back}
use Rattle.base.specs.declared.op.Op.{Op}
use Rattle.law_sound.proofs.Entries.{entry_cases, entry_left}
use Rattle.frame.specs.declared.numbered.NumberedPass.{NumberedPass}
use Rattle.compile_groups.specs.Commands.{kept_commands, on_queue, pass_commands}
use Rattle.compile_groups.specs.declared.command.Command.{Command}
use Rattle.frame_cull.specs.Versions.{no_pass}

-- how many commands stand before those of pass p
abbrev pub start : List NumberedPass → List Bool → ℕ → ℕ
start passes kept p = length (kept_commands (take p passes) (take p kept))

abbrev pub ops_at : List NumberedPass → ℕ → List (Op ℕ)
ops_at passes p = (get_or passes p no_pass).ops

-- command c is operation i of pass p, which is kept
pub record IsOp (passes : List NumberedPass) (kept : List Bool) (c p i : ℕ) (op : Op ℕ) : Type 0 where
  pub within : p < length passes
  pub is_kept : get_or kept p false ≡ true
  pub at : slice_get (ops_at passes p) i ≡ Some op
  pub place : c ≡ start passes kept p + i

abbrev front : Bool → NumberedPass → List Command
front keep pass = if keep then pass_commands pass else []

-- of a list that begins with a pass
start_more : (keep : Bool) (pass : NumberedPass) (passes : List NumberedPass) (kept : List Bool) (p : ℕ) → start (pass ∷ passes) (keep ∷ kept) (suc p) ≡ length (front keep pass) + start passes kept p
start_more keep pass passes kept p = length-append (front keep pass) (kept_commands (take p passes) (take p kept))

own_op : (queue : ℕ) (ops : List (Op ℕ)) (i : ℕ) (command : Command) → slice_get (map (on_queue queue) ops) i ≡ Some command → slice_get ops i ≡ Some command.op
own_op queue ops i command e = go (slice_get ops i) refl
  where
    both : option_map (on_queue queue) (slice_get ops i) ≡ Some command
    both = sym (slice_get-map (on_queue queue) ops i) ∙ e

    go : (o : Option (Op ℕ)) → slice_get ops i ≡ o → slice_get ops i ≡ Some command.op
    go None is = absurd (none_there (sym (ap (option_map (on_queue queue)) is) ∙ both))
      where
        none_there : None ≡ Some command → ⊥
        none_there n = cc
    go (Some op) is = is ∙ same (sym (ap (option_map (on_queue queue)) is) ∙ both)
      where
        same : Some (on_queue queue op) ≡ Some command → Some op ≡ Some command.op
        same s = let own : on_queue queue op ≡ command = cc in ap (λ (x : Command). Some x.op) own

pub where_from : (passes : List NumberedPass) (kept : List Bool) (c : ℕ) (command : Command) → slice_get (kept_commands passes kept) c ≡ Some command → (p : ℕ) × (i : ℕ) × IsOp passes kept c p i command.op
where_from [] kept c command e = absurd cc
where_from (pass ∷ passes) [] c command e = absurd cc
where_from (pass ∷ passes) (keep ∷ kept) c command e = ⊎_elim (here keep refl) (λ h. later h.0 (where_from passes kept (c - length (front keep pass)) command h.1)) (entry_cases (front keep pass) (kept_commands passes kept) c command e)
  where
    here : (b : Bool) → keep ≡ b → slice_get (front keep pass) c ≡ Some command → (p : ℕ) × (i : ℕ) × IsOp (pass ∷ passes) (keep ∷ kept) c p i command.op
    here true is at = (0, c, record { within = omega arith; is_kept = is; at = own_op pass.queue pass.ops c command (sym (ap (λ b. slice_get (front b pass) c) is) ∙ at); place = omega arith })
    here false is at = absurd (nothing (sym (ap (λ b. slice_get (front b pass) c) is) ∙ at))
      where
        nothing : slice_get [] c ≡ Some command → ⊥
        nothing n = cc

    later : length (front keep pass) ≤ c → (p : ℕ) × (i : ℕ) × IsOp passes kept (c - length (front keep pass)) p i command.op → (p : ℕ) × (i : ℕ) × IsOp (pass ∷ passes) (keep ∷ kept) c p i command.op
    later le (p, i, I) =
        let low = I.within in
        let place = I.place in
        let more = start_more keep pass passes kept p in
        (suc p, i, record { within = omega (arith, low); is_kept = I.is_kept; at = I.at; place = omega (arith, place, more, le) })

pub there_at : (passes : List NumberedPass) (kept : List Bool) (p i : ℕ) (op : Op ℕ) → p < length passes → get_or kept p false ≡ true → slice_get (ops_at passes p) i ≡ Some op → (command : Command) × (slice_get (kept_commands passes kept) (start passes kept p + i) ≡ Some command) × (command.op ≡ op)
there_at [] kept p i op lt k e = absurd (omega (arith, lt))
there_at (pass ∷ passes) [] p i op lt k e = absurd (false≢true k)
there_at (pass ∷ passes) (keep ∷ kept) zero i op lt k e =
    let within = slice_get_within pass.ops i op e in
    let count = length-map pass.ops (on_queue pass.queue) in
    let z : 0 + i ≡ i = omega arith in (
      on_queue pass.queue op,
      ap (slice_get (kept_commands (pass ∷ passes) (keep ∷ kept))) z
          ∙ ap (λ b. slice_get (front b pass ++ kept_commands passes kept) i) k
          ∙ entry_left (pass_commands pass) (kept_commands passes kept) i (omega (arith, within, count))
          ∙ slice_get-map (on_queue pass.queue) pass.ops i ∙ ap (option_map (on_queue pass.queue)) e,
      refl,
    )
there_at (pass ∷ passes) (keep ∷ kept) (suc p) i op lt k e =
    let rest = there_at passes kept p i op (omega (arith, lt)) k e in
    let more = start_more keep pass passes kept p in
    let number : start (pass ∷ passes) (keep ∷ kept) (suc p) + i ≡ length (front keep pass) + (start passes kept p + i) = omega (arith, more) in
    (rest.0, ap (slice_get (kept_commands (pass ∷ passes) (keep ∷ kept))) number ∙ got_back (front keep pass) (kept_commands passes kept) (start passes kept p + i) ∙ rest.1, rest.2)

-- operations of earlier passes stand before those of later ones
pub starts_rise : (passes : List NumberedPass) (kept : List Bool) (p q i : ℕ) (op : Op ℕ) → p < q → p < length passes → get_or kept p false ≡ true → slice_get (ops_at passes p) i ≡ Some op → start passes kept p + i < start passes kept q
starts_rise [] kept p q i op lt low k e = absurd (omega (arith, low))
starts_rise (pass ∷ passes) [] p q i op lt low k e = absurd (false≢true k)
starts_rise (pass ∷ passes) (keep ∷ kept) p zero i op lt low k e = absurd (omega (arith, lt))
starts_rise (pass ∷ passes) (keep ∷ kept) zero (suc q) i op lt low k e =
    let within = slice_get_within pass.ops i op e in
    let count = length-map pass.ops (on_queue pass.queue) in
    let more = start_more keep pass passes kept q in
    let own : length (front keep pass) ≡ length (pass_commands pass) = ap (λ b. length (front b pass)) k in
    omega (arith, within, count, more, own)
starts_rise (pass ∷ passes) (keep ∷ kept) (suc p) (suc q) i op lt low k e =
    let rest = starts_rise passes kept p q i op (omega (arith, lt)) (omega (arith, low)) k e in
    let one = start_more keep pass passes kept p in
    let two = start_more keep pass passes kept q in
    omega (arith, rest, one, two)
