-- The pass that makes the latest version of a unit, pass by pass.
use Rattle.std.proofs.Common.{◌≡◌, ℕ, suc, ◌+◌, ◌-◌, ◌<◌, ◌==◌, Bool, true, false, List, [], ◌∷◌, ◌++◌, ◌||◌, length, take, get_or, Option, Some, None, if◌then◌else◌, refl, sym, ap, ◌∙◌, arith}
use Rattle.std.specs.List.{list_any}
use Rattle.std.proofs.Math.Seq.{get_or-append_seam}
use Rattle.std.proofs.lemmas.List.{length-append, length-take-le, append_assoc, append-nil, take_more}
use Rattle.frame.specs.Valid.{is_import}
use Rattle.frame.specs.Numbered.{NumberedFrame}
use Rattle.frame.specs.Uses.{writes_it}
use Rattle.frame.specs.declared.frame.Write.{Write}
use Rattle.frame.specs.declared.numbered.NumberedPass.{NumberedPass}
use Rattle.frame_cull.specs.Versions.{made_by, made, imported, versions, latest_maker, pass_at, no_pass}

last_pushed : (row : List (Option ℕ)) (o : Option ℕ) → latest_maker (row ++ o ∷ []) ≡ o
last_pushed row o =
    let size = length-append row (o ∷ []) in
    let e : length (row ++ o ∷ []) - 1 ≡ length row = omega (arith, size) in
    ap (λ n. get_or (row ++ o ∷ []) n None) e ∙ get_or-append_seam row o [] None

-- after the writes of pass p
last_made : (u p : ℕ) (writes : List (Write ℕ)) (row : List (Option ℕ)) → latest_maker (row ++ made_by u p writes) ≡ (if list_any (λ w. w.what == u) writes then Some p else latest_maker row)
last_made u p [] row = ap latest_maker (append-nil row)
last_made u p (w ∷ writes) row = go (last_made u p writes) (w.what == u)
  where
    either : (b : Bool) (row : List (Option ℕ)) → latest_maker row ≡ Some p → (if b then Some p else latest_maker row) ≡ Some p
    either true row e = refl
    either false row e = e

    go : ((row : List (Option ℕ)) → latest_maker (row ++ made_by u p writes) ≡ (if list_any (λ w. w.what == u) writes then Some p else latest_maker row)) → (t : Bool) → latest_maker (row ++ (if t then Some p ∷ made_by u p writes else made_by u p writes)) ≡ (if t || list_any (λ w. w.what == u) writes then Some p else latest_maker row)
    go more true =
        ap latest_maker (sym (append_assoc row (Some p ∷ []) (made_by u p writes)))
        ∙ more (row ++ Some p ∷ [])
        ∙ either (list_any (λ w. w.what == u) writes) (row ++ Some p ∷ []) (last_pushed row (Some p))
    go more false = more row

made_more : (u i : ℕ) (passes : List NumberedPass) (pass : NumberedPass) → made u i (passes ++ pass ∷ []) ≡ made u i passes ++ made_by u (i + length passes) pass.writes
made_more u i [] pass =
    let e : i ≡ i + 0 = omega arith in
    append-nil (made_by u i pass.writes) ∙ ap (λ n. made_by u n pass.writes) e
made_more u i (first ∷ passes) pass =
    let e : suc i + length passes ≡ i + suc (length passes) = omega arith in
    ap (λ l. made_by u i first.writes ++ l) (made_more u (suc i) passes pass ∙ ap (λ n. made u (suc i) passes ++ made_by u n pass.writes) e)
    ∙ sym (append_assoc (made_by u i first.writes) (made u (suc i) passes) (made_by u (i + suc (length passes)) pass.writes))

module _ (frame : NumberedFrame) (u p : ℕ) where
  versions_more : p < length frame.passes → versions frame (suc p) u ≡ versions frame p u ++ made_by u p (pass_at frame p).writes
  versions_more lt =
      let s : suc p ≡ p + 1 = omega arith in
      let size : 0 + length (take p frame.passes) ≡ p = omega (arith, length-take-le p frame.passes (omega (arith, lt))) in
      ap (λ n. versions frame n u) s
      ∙ ap (λ l. imported frame u ++ made u 0 l) (take_more frame.passes p no_pass lt)
      ∙ ap (λ l. imported frame u ++ l) (made_more u 0 (take p frame.passes) (pass_at frame p) ∙ ap (λ n. made u 0 (take p frame.passes) ++ made_by u n (pass_at frame p).writes) size)
      ∙ sym (append_assoc (imported frame u) (made u 0 (take p frame.passes)) (made_by u p (pass_at frame p).writes))

  -- a pass that writes a unit makes its latest version, and any other leaves it
  pub maker_next : p < length frame.passes → latest_maker (versions frame (suc p) u) ≡ (if writes_it (pass_at frame p) u then Some p else latest_maker (versions frame p u))
  maker_next lt = ap latest_maker (versions_more lt) ∙ last_made u p (pass_at frame p).writes (versions frame p u)

-- no pass makes a version before the first one
pub maker_first : (frame : NumberedFrame) (u : ℕ) → latest_maker (versions frame 0 u) ≡ None
maker_first frame u = go (is_import frame.units u)
  where
    go : (b : Bool) → latest_maker ((if b then None ∷ [] else []) ++ made u 0 (take 0 frame.passes)) ≡ None
    go true = refl
    go false = refl
