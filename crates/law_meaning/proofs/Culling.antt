-- All passes and the kept ones alone, side by side: units whose latest version a kept pass makes have the same bytes.
use Rattle.std.proofs.Common.{◌≡◌, ◌≢◌, ◌⊎◌, inl, inr, ℕ, zero, suc, ◌+◌, ◌<◌, ◌==◌, ◌||◌, not, Bool, true, false, List, ◌∷◌, length, take, drop, drop-cons, get_or, slice_index_or, Some, is_some, if◌then◌else◌, refl, sym, ap, ◌∙◌, subst, eqb-true, arith}
use Rattle.std.specs.List.{All, Contains, filter}
use Rattle.std.proofs.lemmas.Bool.{false≢true, true≢false}
use Rattle.std.proofs.lemmas.List.{drop_all, length-map}
use Rattle.std.proofs.lemmas.List.Elements.{Contains-append_left, Contains-append_right, Contains-get_or}
use Rattle.std.proofs.lemmas.List.Folds.{Any-from_list_any}
use Rattle.std.proofs.lemmas.Option.{same_Some}
use Rattle.base.specs.Applied.{bytes_at}
use Rattle.base.specs.Operands.{sources_of, destination_of, operands_of}
use Rattle.base.specs.Wholes.{is_whole}
use Rattle.base.specs.declared.op.Op.{Op}
use Rattle.base.specs.declared.shape.Shape.{Shape}
use Rattle.law_meaning.proofs.Lists.{map_has}
use Rattle.law_meaning.proofs.Makers.{maker_next, maker_first}
use Rattle.law_meaning.proofs.Operations.{operands_all}
use Rattle.law_meaning.proofs.States.{AreSized, IsFit, ops_sized, ops_keep}
use Rattle.law_meaning.proofs.Whole.{Settles, ops_alike}
use Rattle.law_meaning.specs.Kept.{kept_passes}
use Rattle.frame.specs.Valid.{IsValid, IsValidPass, IsValidOp, shapes_in}
use Rattle.frame.specs.Numbered.{NumberedFrame, IsWithin}
use Rattle.frame.specs.Uses.{writes_it, reads_it, starts_whole}
use Rattle.frame.specs.declared.frame.Write.{Write}
use Rattle.frame.specs.declared.numbered.NumberedPass.{NumberedPass}
use Rattle.compile_groups.proofs.Found.{filter_at}
use Rattle.frame_meaning.specs.Meaning.{after_ops, after_passes}
use Rattle.kernel.specs.Anew.{IgnoresOld}
use Rattle.frame_cull.specs.Culled.{Leads, here, on, Matters, Culled, AreKept}
use Rattle.frame_cull.specs.Versions.{versions, latest_maker, pass_at, no_pass, used, changes}

-- WHAT A PASS DECLARES

read_used : (pass : NumberedPass) (u : ℕ) → reads_it pass u ≡ true → Contains (used pass) u
read_used pass u e =
    let any = Any-from_list_any (λ r. r == u) pass.reads e in
    let same : any.1 ≡ u = eqb-true any.1 u any.4 in
    let there : Contains pass.reads any.1 = subst (Contains pass.reads) any.3 (Contains-get_or pass.reads any.0 any.1 any.2) in
    Contains-append_left pass.reads (changes pass.writes) u (subst (Contains pass.reads) same there)

-- it is made new by the pass, or used
written_how : (shapes : List Shape) (pass : NumberedPass) (u : ℕ) → All (λ w. w.fresh ≡ true → starts_whole shapes pass.ops w.what ≡ true) pass.writes → writes_it pass u ≡ true → (starts_whole shapes pass.ops u ≡ true) ⊎ Contains (used pass) u
written_how shapes pass u new e =
    let any = Any-from_list_any (λ w. w.what == u) pass.writes e in
    let same : any.1.what ≡ u = eqb-true any.1.what u any.4 in
    let at : slice_index_or pass.writes any.0 any.1 ≡ any.1 = any.3 in
    go any.1 any.0 any.2 at same (subst (λ w. w.fresh ≡ true → starts_whole shapes pass.ops w.what ≡ true) at (new any.0 any.1 any.2)) any.1.fresh refl
  where
    go : (w : Write ℕ) (k : ℕ) → k < length pass.writes → slice_index_or pass.writes k w ≡ w → w.what ≡ u → (w.fresh ≡ true → starts_whole shapes pass.ops w.what ≡ true) → (b : Bool) → w.fresh ≡ b → (starts_whole shapes pass.ops u ≡ true) ⊎ Contains (used pass) u
    go w k lt at same whole true f = inl (subst (λ x. starts_whole shapes pass.ops x ≡ true) same (whole f))
    go w k lt at same whole false f =
        let kept : Contains (filter (λ x. not x.fresh) pass.writes) w = filter_at (λ x. not x.fresh) pass.writes w k lt at (ap not f) in
        let there : Contains (changes pass.writes) w.what = map_has (λ x. x.what) (filter (λ x. not x.fresh) pass.writes) w kept.0 kept.1 kept.2 in
        inr (Contains-append_right pass.reads (changes pass.writes) u (subst (Contains (changes pass.writes)) same there))

-- PASS BY PASS

module _ (ignores : (op : Op Shape) → is_whole op ≡ true → IgnoresOld op) (frame : NumberedFrame) (kept : List Bool) (good : IsValid frame) (are : AreKept frame kept) where
  abbrev shapes : List Shape
  shapes = shapes_in frame

  abbrev total : ℕ
  total = length frame.passes

  abbrev keeps : ℕ → Bool
  keeps p = slice_index_or kept p false

  -- no pass that is left out made its latest version
  abbrev pub Fine : ℕ → ℕ → Type 0
  Fine p u = (m : ℕ) → latest_maker (versions frame p u) ≡ Some m → keeps m ≡ true

  pub record SideBySide (p : ℕ) (b d : List (List ℕ)) : Type 0 where
    pub all_sized : AreSized shapes b
    pub kept_sized : AreSized shapes d
    pub makers : (u m : ℕ) → latest_maker (versions frame p u) ≡ Some m → m < p
    pub alike : (u : ℕ) → Fine p u → bytes_at b u ≡ bytes_at d u

  kept_or : (m : ℕ) → m < total → (Culled frame m → ⊥) → keeps m ≡ true
  kept_or m lt not_culled = go (keeps m) refl
    where
      go : (b : Bool) → keeps m ≡ b → keeps m ≡ true
      go true e = e
      go false e = absurd (not_culled ((are.culled m lt).0 e))

  -- what matters is kept
  pub mattering : (m : ℕ) → m < total → Matters frame m → keeps m ≡ true
  mattering m lt matters = kept_or m lt (λ culled. culled m lt here matters)

  -- and what a kept pass uses is made by a kept one
  leading : (m p : ℕ) → m < total → p < total → keeps p ≡ true → Leads frame m p → keeps m ≡ true
  leading m p ml pl keep leads = kept_or m ml (λ culled. true≢false (sym keep ∙ (are.culled p pl).1 (λ q lt reach matters. culled q lt (on leads reach) matters)))

  module _ (p : ℕ) (lt : p < total) where
    abbrev pass : NumberedPass
    pass = pass_at frame p

    its_good : IsValidPass frame (take p frame.passes) pass
    its_good = good.passes_good p no_pass lt

    its_within : IsWithin (length frame.queues) (length frame.units) pass
    its_within = good.within p no_pass lt

    fit : All (IsFit shapes) pass.ops
    fit = λ k d less. record {
      within = λ j e inside. subst (λ n. get_or (operands_of (get_or pass.ops k d)) j e < n) (sym (length-map frame.units (λ unit. unit.shape))) (its_within.ops k d less j e inside);
      fitting = (its_good.ops_good k d less).fitting;
      apart = (its_good.ops_good k d less).not_in_place;
    }

    next_makers : ((u m : ℕ) → latest_maker (versions frame p u) ≡ Some m → m < p) → (u m : ℕ) → latest_maker (versions frame (suc p) u) ≡ Some m → m < suc p
    next_makers makers u m e = go (writes_it pass u) (sym (maker_next frame u p lt) ∙ e)
      where
        go : (t : Bool) → (if t then Some p else latest_maker (versions frame p u)) ≡ Some m → m < suc p
        go true h = let same : p ≡ m = same_Some p m h in omega (arith, same)
        go false h = let below = makers u m h in omega (arith, below)

    -- written by the pass
    written_maker : (u : ℕ) → writes_it pass u ≡ true → latest_maker (versions frame (suc p) u) ≡ Some p
    written_maker u e = maker_next frame u p lt ∙ ap (λ t. if t then Some p else latest_maker (versions frame p u)) e

    other_maker : (u : ℕ) → writes_it pass u ≡ false → latest_maker (versions frame (suc p) u) ≡ latest_maker (versions frame p u)
    other_maker u e = maker_next frame u p lt ∙ ap (λ t. if t then Some p else latest_maker (versions frame p u)) e

    fine_before : (u : ℕ) → writes_it pass u ≡ false → Fine (suc p) u → Fine p u
    fine_before u e fine m h = fine m (other_maker u e ∙ h)

    -- A KEPT PASS

    module _ (keep : keeps p ≡ true) (b d : List (List ℕ)) (side : SideBySide p b d) where
      used_fine : (u : ℕ) → Contains (used pass) u → Fine p u
      used_fine u uses m e = let below = side.makers u m e in leading m p (omega (arith, below, lt)) lt keep (record { within = lt; unit = u; uses = uses; made_here = e })

      declared_fine : (u : ℕ) → (writes_it pass u || reads_it pass u) ≡ true → Fine (suc p) u
      declared_fine u e = go (writes_it pass u) refl e
        where
          go : (t : Bool) → writes_it pass u ≡ t → (t || reads_it pass u) ≡ true → Fine (suc p) u
          go true w h m made = subst (λ q. keeps q ≡ true) (same_Some p m (sym (written_maker u w) ∙ made)) keep
          go false w h m made = used_fine u (read_used pass u h) m (sym (other_maker u w) ∙ made)

      operands_fine : All (λ op. All (Fine (suc p)) (operands_of op)) pass.ops
      operands_fine = λ k d less. go (get_or pass.ops k d) (its_good.ops_good k d less)
        where
          destination_fine : (op : Op ℕ) → IsValidOp frame pass op → Fine (suc p) (destination_of op)
          destination_fine op g = declared_fine (destination_of op) (ap (λ t. t || reads_it pass (destination_of op)) g.declared_destination)

          go : (op : Op ℕ) → IsValidOp frame pass op → All (Fine (suc p)) (operands_of op)
          go op g = operands_all (Fine (suc p)) op (λ k e less. declared_fine (get_or (sources_of op) k e) (g.declared_sources k e less)) (destination_fine op g)

      settles : (u : ℕ) → Fine (suc p) u → Settles shapes pass.ops b d u
      settles u fine = go (writes_it pass u) refl
        where
          how : (starts_whole shapes pass.ops u ≡ true) ⊎ Contains (used pass) u → Settles shapes pass.ops b d u
          how (inl whole) = inr whole
          how (inr uses) = inl (side.alike u (used_fine u uses))

          go : (t : Bool) → writes_it pass u ≡ t → Settles shapes pass.ops b d u
          go true e = how (written_how shapes pass u its_good.new_whole e)
          go false e = inl (side.alike u (fine_before u e fine))

      kept_step : SideBySide (suc p) (after_ops shapes b pass.ops) (after_ops shapes d pass.ops)
      kept_step = record {
        all_sized = ops_sized shapes pass.ops fit b side.all_sized;
        kept_sized = ops_sized shapes pass.ops fit d side.kept_sized;
        makers = next_makers side.makers;
        alike = ops_alike shapes ignores (Fine (suc p)) pass.ops fit operands_fine b d side.all_sized side.kept_sized settles;
      }

    -- A PASS THAT IS LEFT OUT

    left_step : keeps p ≡ false → (b d : List (List ℕ)) → SideBySide p b d → SideBySide (suc p) (after_ops shapes b pass.ops) d
    left_step left b d side = record {
      all_sized = ops_sized shapes pass.ops fit b side.all_sized;
      kept_sized = side.kept_sized;
      makers = next_makers side.makers;
      alike = λ u fine. alike u fine (writes_it pass u) refl;
    }
      where
        elsewhere : (u : ℕ) → writes_it pass u ≡ false → All (λ op. u ≢ destination_of op) pass.ops
        elsewhere u e = λ k d less same. false≢true (sym e ∙ ap (writes_it pass) same ∙ (its_good.ops_good k d less).declared_destination)

        alike : (u : ℕ) → Fine (suc p) u → (t : Bool) → writes_it pass u ≡ t → bytes_at (after_ops shapes b pass.ops) u ≡ bytes_at d u
        alike u fine true e = absurd (true≢false (sym (fine p (written_maker u e)) ∙ left))
        alike u fine false e = ops_keep shapes pass.ops u (elsewhere u e) b ∙ side.alike u (fine_before u e fine)

  -- ALL PASSES

  run : (m p : ℕ) → p + m ≡ total → (b d : List (List ℕ)) → SideBySide p b d → SideBySide total (after_passes shapes b (drop p frame.passes)) (after_passes shapes d (kept_passes (drop p frame.passes) (drop p kept)))
  run zero p e b d side =
      let same : p ≡ total = omega (arith, e) in
      subst (λ xs. SideBySide total (after_passes shapes b xs) (after_passes shapes d (kept_passes xs (drop p kept)))) (sym (drop_all p frame.passes (omega (arith, e)))) (subst (λ n. SideBySide n b d) same side)
  run (suc m) p e b d side =
      let lt : p < total = omega (arith, e) in
      let count = are.count in
      subst (λ xs. SideBySide total (after_passes shapes b xs) (after_passes shapes d (kept_passes xs (drop p kept)))) (sym (drop-cons frame.passes p no_pass lt))
      (subst (λ ks. SideBySide total (after_passes shapes b (pass_at frame p ∷ drop (suc p) frame.passes)) (after_passes shapes d (kept_passes (pass_at frame p ∷ drop (suc p) frame.passes) ks))) (sym (drop-cons kept p false (omega (arith, lt, count))))
      (go lt (λ x y next. run m (suc p) (omega (arith, e)) x y next) (keeps p) refl))
    where
      go : p < total
          → ((x y : List (List ℕ)) → SideBySide (suc p) x y → SideBySide total (after_passes shapes x (drop (suc p) frame.passes)) (after_passes shapes y (kept_passes (drop (suc p) frame.passes) (drop (suc p) kept))))
          → (t : Bool) → keeps p ≡ t
          → SideBySide total (after_passes shapes (after_ops shapes b (pass_at frame p).ops) (drop (suc p) frame.passes)) (after_passes shapes d (if t then pass_at frame p ∷ kept_passes (drop (suc p) frame.passes) (drop (suc p) kept) else kept_passes (drop (suc p) frame.passes) (drop (suc p) kept)))
      go lt more true keep = more (after_ops shapes b (pass_at frame p).ops) (after_ops shapes d (pass_at frame p).ops) (kept_step p lt keep b d side)
      go lt more false left = more (after_ops shapes b (pass_at frame p).ops) d (left_step p lt left b d side)

  pub all_run : (b : List (List ℕ)) → AreSized shapes b → SideBySide total (after_passes shapes b frame.passes) (after_passes shapes b (kept_passes frame.passes kept))
  all_run b sized = run total 0 (omega arith) b b (record { all_sized = sized; kept_sized = sized; makers = λ u m e. absurd (none_made u m e); alike = λ u fine. refl })
    where
      none_made : (u m : ℕ) → latest_maker (versions frame 0 u) ≡ Some m → ⊥
      none_made u m e = false≢true (ap is_some (sym (maker_first frame u) ∙ e))
