-- What a valid frame exports has contents after all passes.
use Rattle.std.proofs.Common.{◌≡◌, ℕ, ◌==◌, ◌&&◌, ◌||◌, Bool, true, false, List, [], ◌∷◌, take, get_or, Some, is_some, if◌then◌else◌, refl, subst, ap, ◌∙◌}
use Rattle.std.specs.List.{All, list_any, find}
use Rattle.std.specs.Option.{option_map_or}
use Rattle.std.proofs.lemmas.Bool.{eqb-true, or_right}
use Rattle.std.proofs.lemmas.List.Folds.{Any-from_list_any, list_any-from_Any}
use Rattle.base.proofs.Absence.{is_there}
use Rattle.base.specs.Applied.{bytes_at}
use Rattle.base.specs.Operands.{destination_of, mapped, touches}
use Rattle.base.specs.Shapes.{shape_at}
use Rattle.base.specs.Wholes.{is_whole}
use Rattle.base.specs.declared.op.Op.{Op}
use Rattle.base.specs.declared.shape.Shape.{Shape}
use Rattle.frame.specs.Valid.{IsValid, IsValidPass, is_import, renews, shapes_in}
use Rattle.frame.specs.Numbered.{NumberedFrame}
use Rattle.frame.specs.Uses.{stores_whole, starts_whole}
use Rattle.frame.specs.declared.numbered.NumberedPass.{NumberedPass}
use Rattle.frame_meaning.specs.Meaning.{stores_to, has_picture, meaning, all_bytes}

pub and_left : (a b : Bool) → (a && b) ≡ true → a ≡ true
and_left true b e = refl
and_left false b e = absurd cc

and_right : (a b : Bool) → (a && b) ≡ true → b ≡ true
and_right true b e = e
and_right false b e = absurd cc

pub or_more : (a b c : Bool) → (b ≡ true → c ≡ true) → (a || b) ≡ true → (a || c) ≡ true
or_more true b c so e = refl
or_more false b c so e = so e

abbrev stores : ℕ → Op ℕ → Bool
stores unit op = destination_of op == unit

-- the operation that stores the whole unit first is one that stores to it
whole_stores : (shapes : List Shape) (unit : ℕ) (ops : List (Op ℕ)) → starts_whole shapes ops unit ≡ true → list_any (stores unit) ops ≡ true
whole_stores shapes unit [] e = absurd cc
whole_stores shapes unit (op ∷ ops) e = by_test (touches unit op) e (whole_stores shapes unit ops)
  where
    by_test : (b : Bool) → option_map_or (stores_whole shapes unit) (if b then Some op else find (touches unit) ops) false ≡ true → (starts_whole shapes ops unit ≡ true → list_any (stores unit) ops ≡ true) → list_any (stores unit) (op ∷ ops) ≡ true
    by_test true e more = ap (λ b. b || list_any (stores unit) ops) (and_left (destination_of op == unit) (is_whole (mapped (shape_at shapes) op)) e)
    by_test false e more = or_right (stores unit op) (list_any (stores unit) ops) (more e)

renewed : (frame : NumberedFrame) (before : List NumberedPass) (pass : NumberedPass) (unit : ℕ) → IsValidPass frame before pass → renews unit pass ≡ true → stores_to unit pass ≡ true
renewed frame before pass unit good e =
    let write = Any-from_list_any (λ w. w.fresh && w.what == unit) pass.writes e in
    let fresh : write.1.fresh ≡ true = and_left write.1.fresh (write.1.what == unit) write.4 in
    let same : write.1.what ≡ unit = eqb-true write.1.what unit (and_right write.1.fresh (write.1.what == unit) write.4) in
    let whole = subst (λ w. w.fresh ≡ true → starts_whole (shapes_in frame) pass.ops w.what ≡ true) write.3 (good.new_whole write.0 write.1 write.2) in
    whole_stores (shapes_in frame) unit pass.ops (subst (λ u. starts_whole (shapes_in frame) pass.ops u ≡ true) same (whole fresh))

pub all_renewed : (frame : NumberedFrame) → IsValid frame → (unit : ℕ) → list_any (renews unit) frame.passes ≡ true → list_any (stores_to unit) frame.passes ≡ true
all_renewed frame good unit e =
    let pass = Any-from_list_any (renews unit) frame.passes e in
    let here = subst (λ p. IsValidPass frame (take pass.0 frame.passes) p) pass.3 (good.passes_good pass.0 pass.1 pass.2) in
    list_any-from_Any (stores_to unit) frame.passes (pass.0, pass.1, pass.2, pass.3, renewed frame (take pass.0 frame.passes) pass.1 unit here pass.4)

pub exported : (frame : NumberedFrame) → IsValid frame → All (λ unit. is_some (meaning frame unit) ≡ true) frame.exports
exported frame good k d lt =
    let unit : ℕ = get_or frame.exports k d in
    is_there (has_picture frame unit) (bytes_at (all_bytes frame) unit) ∙ or_more (is_import frame.units unit) (list_any (renews unit) frame.passes) (list_any (stores_to unit) frame.passes) (all_renewed frame good unit) (good.exports_there k d lt)
