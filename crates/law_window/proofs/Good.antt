-- A window of good frames is good.
use Rattle.std.proofs.Common.{◌≡◌, ℕ, zero, suc, ◌+◌, ◌<◌, ◌≤◌, ◌&&◌, ◌||◌, inl, inr, List, [], ◌∷◌, ◌++◌, length, map, get_or, nat_le, Bool, true, false, Option, Some, None, refl, sym, ap, subst, ◌∙◌, append_assoc, arith}
use Rattle.std.specs.List.{All, AllByRecursion, list_any}
use Rattle.std.proofs.lemmas.Bool.{leb-true}
use Rattle.std.proofs.lemmas.List.{append-nil, length-append, length-map, map-append}
use Rattle.std.proofs.lemmas.List.Elements.{All-append, All-map, All-nil}
use Rattle.base.specs.Bounds.{size_allowed}
use Rattle.base.specs.Operands.{operands_of, mapped}
use Rattle.base.specs.Shapes.{bytes_of, shape_at}
use Rattle.base.specs.declared.shape.Family.{Family}
use Rattle.base.specs.declared.shape.Shape.{Shape}
use Rattle.base.specs.declared.shape.Shape.TheVariants.{Buffer}
use Rattle.frame.specs.Valid.{has_contents, is_import, renews, shapes_in}
use Rattle.frame.specs.Numbered.{IsWithin, NumberedFrame}
use Rattle.frame.specs.Units.{Unit}
use Rattle.frame.specs.declared.numbered.NumberedPass.{NumberedPass}
use Rattle.base.proofs.Operands.{operands_mapped}
use Rattle.law_window.proofs.Contents.{IsInitialized, all_carries, carries_differ, import_after, import_first, import_inside, import_or_copy, placed_initialized}
use Rattle.law_window.proofs.GoodJoin.{Different, IsCarry, good_join, joins_renew}
use Rattle.law_window.proofs.GoodMoved.{all_moved, there}
use Rattle.law_window.proofs.Imports.{all_length, all_shapes}
use Rattle.law_window.proofs.Law.{operands_inside}
use Rattle.law_window.proofs.Moves.{at_middle}
use Rattle.law_window.proofs.Each.{all_of, each}
use Rattle.frame.proofs.OneByOne.{AllGood, contents_renewed, contents_stay, good_on}
use Rattle.law_window.proofs.Sources.{AllPlaced, AreLeft}
use Rattle.law_window.specs.Flown.{Flown}
use Rattle.law_window.specs.Joins.{Carry, carries, copy_of, join_of, joins, renewal}
use Rattle.law_window.specs.Moved.{moved, moved_write}
use Rattle.law_window.specs.Sources.{Given, Left, Source, import_from, last_sources, next, sources_after}
use Rattle.law_window.specs.Together.{ArePlaced, Flies}
use Rattle.law_window.specs.Window.{all_passes, all_units, own_exports, passes_in, units_in}

-- PLACES

placed_all : (P Q : ℕ → Type 0) (sizes : List ℕ) (places : List (Option ℕ)) (shapes : List Shape) → ArePlaced sizes places shapes → ((x : ℕ) → x < length shapes → P x → Q x) → AllPlaced P places → AllPlaced Q places
placed_all P Q [] [] shapes placed so all = tt
placed_all P Q [] (place ∷ places) shapes placed so all = absurd placed
placed_all P Q (size ∷ sizes) [] shapes placed so all = absurd placed
placed_all P Q (size ∷ sizes) (None ∷ places) shapes placed so all = placed_all P Q sizes places shapes placed so all
placed_all P Q (size ∷ sizes) (Some x ∷ places) shapes placed so all = (so x placed.0 all.0, placed_all P Q sizes places shapes placed.3 so all.1)

-- what is left after a frame
left_after : (W : NumberedFrame) (earlier more : List NumberedPass) (n m : ℕ) (shapes : List Shape) → n + length shapes ≤ m → ((x : ℕ) → x < length shapes → shape_at (shapes_in W) (n + x) ≡ shape_at shapes x) → (sizes : List ℕ) (places : List (Option ℕ)) (sources : List Source) → ArePlaced sizes places shapes → AreLeft W earlier n sizes sources → AllPlaced (λ x. has_contents W.units (earlier ++ more) (n + x) ≡ true) places → AreLeft W (earlier ++ more) m sizes (sources_after n places sources)
left_after W earlier more n m shapes le at [] [] [] placed left full = tt
left_after W earlier more n m shapes le at [] [] (source ∷ sources) placed left full = absurd left
left_after W earlier more n m shapes le at [] (place ∷ places) sources placed left full = absurd placed
left_after W earlier more n m shapes le at (size ∷ sizes) [] sources placed left full = absurd placed
left_after W earlier more n m shapes le at (size ∷ sizes) (place ∷ places) [] placed left full = absurd left
left_after W earlier more n m shapes le at (size ∷ sizes) (None ∷ places) (Given bytes ∷ sources) placed left full = (left.0, left_after W earlier more n m shapes le at sizes places sources placed left.1 full)
left_after W earlier more n m shapes le at (size ∷ sizes) (None ∷ places) (Left unit ∷ sources) placed left full =
    (omega (arith, left.0), left.1, contents_stay W earlier more unit left.2, left_after W earlier more n m shapes le at sizes places sources placed left.3 full)
left_after W earlier more n m shapes le at (size ∷ sizes) (Some x ∷ places) (Given bytes ∷ sources) placed left full =
    (omega (arith, placed.0), at x placed.0 ∙ placed.1, full.0, left_after W earlier more n m shapes le at sizes places sources placed.3 left.1 full.1)
left_after W earlier more n m shapes le at (size ∷ sizes) (Some x ∷ places) (Left unit ∷ sources) placed left full =
    (omega (arith, placed.0), at x placed.0 ∙ placed.1, full.0, left_after W earlier more n m shapes le at sizes places sources placed.3 left.3 full.1)

some_bytes : (us : List Unit) → AllByRecursion (λ u. size_allowed u.shape ≡ true) us → (x : ℕ) → x < length us → 1 ≤ bytes_of (shape_at (map (λ u. u.shape) us) x)
some_bytes [] all x lt = absurd (omega arith)
some_bytes (u ∷ us) all zero lt = leb-true 1 (bytes_of u.shape) (left_of (nat_le 1 (bytes_of u.shape)) (nat_le (bytes_of u.shape) 16777216) all.0)
  where
    left_of : (a b : Bool) → (a && b) ≡ true → a ≡ true
    left_of true b e = refl
    left_of false b e = absurd cc
some_bytes (u ∷ us) all (suc x) lt = some_bytes us all.1 x (omega arith)

-- THE COPIES OF A JOIN PASS ARE IN RANGE

copied_inside : (n : ℕ) (shapes : List Shape) (sizes : List ℕ) (places : List (Option ℕ)) (sources : List Source) → ArePlaced sizes places shapes → AllByRecursion (λ carry. carry.to < n + length shapes) (carries n shapes places sources)
copied_inside n shapes [] [] sources placed = tt
copied_inside n shapes [] (place ∷ places) sources placed = absurd placed
copied_inside n shapes (size ∷ sizes) [] sources placed = absurd placed
copied_inside n shapes (size ∷ sizes) (place ∷ places) [] placed = tt
copied_inside n shapes (size ∷ sizes) (None ∷ places) (source ∷ sources) placed = copied_inside n shapes sizes places sources placed
copied_inside n shapes (size ∷ sizes) (Some x ∷ places) (Given bytes ∷ sources) placed = copied_inside n shapes sizes places sources placed.3
copied_inside n shapes (size ∷ sizes) (Some x ∷ places) (Left unit ∷ sources) placed = (omega (arith, placed.0), copied_inside n shapes sizes places sources placed.3)

-- ONE FRAME OF A WINDOW

module _ (W : NumberedFrame) (queues : List Family) (sizes : List ℕ) (flown : Flown) (F : Flies queues sizes flown) (before after : List Unit) (earlier : List NumberedPass) (sources : List Source) (Q : W.queues ≡ queues) (U : W.units ≡ before ++ (units_in sources flown ++ after)) (left : AreLeft W earlier (length before) sizes sources) where
  abbrev n : ℕ
  n = length before

  abbrev us : List Unit
  us = flown.frame.units

  abbrev shapes : List Shape
  shapes = shapes_in flown.frame

  abbrev all : List Carry
  all = carries n shapes flown.places sources

  abbrev own : List NumberedPass
  own = map (moved n) flown.frame.passes

  abbrev shapes-before : List Shape
  shapes-before = map (λ u. u.shape) before

  abbrev shapes-after : List Shape
  shapes-after = map (λ u. u.shape) after

  same : length shapes-before ≡ n
  same = length-map before (λ u. u.shape)

  count : length shapes ≡ length us
  count = length-map us (λ u. u.shape)

  begun_count : length (units_in sources flown) ≡ length us
  begun_count = all_length flown.places (map import_from sources) us

  shaped : shapes_in W ≡ shapes-before ++ (shapes ++ shapes-after)
  shaped = ap (map (λ u. u.shape)) U ∙ map-append (λ u. u.shape) before (units_in sources flown ++ after) ∙ ap (λ s. shapes-before ++ s) (map-append (λ u. u.shape) (units_in sources flown) after ∙ ap (λ s. s ++ shapes-after) (all_shapes flown.places (map import_from sources) us))

  room : n + length us ≤ length W.units
  room =
      let a : length W.units ≡ length before + length (units_in sources flown ++ after) = ap length U ∙ length-append before (units_in sources flown ++ after) in
      let b : length (units_in sources flown ++ after) ≡ length (units_in sources flown) + length after = length-append (units_in sources flown) after in
      omega (arith, begun_count)

  at : (x : ℕ) → x < length shapes → shape_at (shapes_in W) (n + x) ≡ shape_at shapes x
  at x lt = ap (λ s. shape_at s (n + x)) shaped ∙ subst (λ k. shape_at (shapes-before ++ (shapes ++ shapes-after)) (k + x) ≡ shape_at shapes x) same (at_middle shapes-before shapes shapes-after x (Buffer 0) lt)

  some : (x : ℕ) → x < length shapes → 1 ≤ bytes_of (shape_at shapes x)
  some x lt = some_bytes us (each (λ u. size_allowed u.shape ≡ true) us F.good.sized) x (subst (λ k. x < k) count lt)

  each_carry : AllByRecursion (IsCarry W earlier n) all
  each_carry = all_carries W earlier n shapes at some sizes flown.places sources F.placed left

  good_joins : AllGood W earlier (joins all)
  good_joins = by_case all each_carry (carries_differ W earlier n shapes at some sizes flown.places sources F.placed)
    where
      by_case : (cs : List Carry) → AllByRecursion (IsCarry W earlier n) cs → Different cs → AllGood W earlier (joins cs)
      by_case [] ok apart = tt
      by_case (carry ∷ cs) ok apart = (good_join W earlier n (carry ∷ cs) ok apart, tt)

  -- an import or a copy gives contents
  initialized_there : (x : ℕ) → x < length us → IsInitialized n (units_in sources flown) all x → has_contents W.units (earlier ++ joins all) (n + x) ≡ true
  initialized_there x lt (inl e) = ap (λ b. b || list_any (renews (n + x)) (earlier ++ joins all)) (ap (λ v. is_import v (n + x)) U ∙ import_after before (units_in sources flown ++ after) x ∙ import_first (units_in sources flown) after x (subst (λ k. x < k) (sym begun_count) lt) ∙ e)
  initialized_there x lt (inr e) = contents_renewed W earlier (joins all) (n + x) (joins_renew (n + x) all ∙ e)

  imports_there : (x : ℕ) → is_import us x ≡ true → has_contents W.units (earlier ++ joins all) (n + x) ≡ true
  imports_there x e = initialized_there x (import_inside us x e) (import_or_copy n shapes flown.places sources us x e)

  same_queues : W.queues ≡ flown.frame.queues
  same_queues = Q ∙ sym F.same

  moved_there : (x : ℕ) → is_import us x ≡ true → has_contents W.units (earlier ++ joins all) (length shapes-before + x) ≡ true
  moved_there x e = subst (λ k. has_contents W.units (earlier ++ joins all) (k + x) ≡ true) (sym same) (imports_there x e)

  good_own : AllGood W (earlier ++ joins all) own
  good_own = subst (λ k. AllGood W (earlier ++ joins all) (map (moved k) flown.frame.passes)) same (all_moved flown.frame W shapes-before shapes-after shaped same_queues (earlier ++ joins all) moved_there F.good (operands_inside flown.frame F.good))

  pub good_part : AllGood W earlier (passes_in n sources flown)
  good_part = good_on W earlier (joins all) own good_joins good_own

  pub left_on : AreLeft W (earlier ++ passes_in n sources flown) (n + length us) sizes (sources_after n flown.places sources)
  left_on = left_after W earlier (passes_in n sources flown) n (n + length us) shapes (omega (arith, count)) at sizes flown.places sources F.placed left (placed_all (IsInitialized n (units_in sources flown) all) (λ x. has_contents W.units (earlier ++ passes_in n sources flown) (n + x) ≡ true) sizes flown.places shapes F.placed (λ x lt initialized. ap (λ b. has_contents W.units b (n + x)) (sym (append_assoc earlier (joins all) own)) ∙ contents_stay W (earlier ++ joins all) own (n + x) (initialized_there x (subst (λ k. x < k) count lt) initialized)) (placed_initialized W earlier n shapes sizes flown.places sources us (sym count) F.placed left))

  pub own_there : All (λ x. has_contents W.units (earlier ++ passes_in n sources flown) x ≡ true) (map (λ unit. n + unit) flown.frame.exports)
  own_there = All-map (λ x. has_contents W.units (earlier ++ passes_in n sources flown) x ≡ true) (λ unit. n + unit) flown.frame.exports (λ k d lt.
      let x = get_or flown.frame.exports k d in
      let moved_on : has_contents W.units ((earlier ++ joins all) ++ map (moved (length shapes-before)) flown.frame.passes) (length shapes-before + x) ≡ true = there flown.frame W shapes-before shapes-after shaped same_queues (earlier ++ joins all) moved_there flown.frame.passes x (F.good.exports_there k d lt) in
      ap (λ b. has_contents W.units b (n + x)) (sym (append_assoc earlier (joins all) own)) ∙ subst (λ k. has_contents W.units ((earlier ++ joins all) ++ map (moved k) flown.frame.passes) (k + x) ≡ true) same moved_on)

  pub own_inside : All (λ x. x < length W.units) (map (λ unit. n + unit) flown.frame.exports)
  own_inside = All-map (λ x. x < length W.units) (λ unit. n + unit) flown.frame.exports (λ k d lt. omega (arith, room, F.good.exports_within k d lt))

  join_within : 0 < length W.queues → (cs : List Carry) → AllByRecursion (IsCarry W earlier n) cs → AllByRecursion (λ carry. carry.to < n + length shapes) cs → All (IsWithin (length W.queues) (length W.units)) (joins cs)
  join_within some_queue [] ok inside = All-nil (IsWithin (length W.queues) (length W.units))
  join_within some_queue (carry ∷ cs) ok inside =
      let all_ok = all_of (IsCarry W earlier n) (carry ∷ cs) ok in
      let all_in = all_of (λ c. c.to < n + length shapes) (carry ∷ cs) inside in
      all_of (IsWithin (length W.queues) (length W.units)) (join_of (carry ∷ cs) ∷ []) (
        record {
          queue = some_queue;
          reads = All-map (λ x. x < length W.units) (λ c. c.from) (carry ∷ cs) (λ k d lt. omega (arith, room, (all_ok k d lt).low));
          writes = All-map (λ w. w.what < length W.units) renewal (carry ∷ cs) (λ k d lt. omega (arith, room, count, all_in k d lt));
          ops = All-map (λ op. All (λ x. x < length W.units) (operands_of op)) copy_of (carry ∷ cs) (λ k d lt.
              let c = get_or (carry ∷ cs) k d in
              all_of (λ x. x < length W.units) (c.from ∷ c.to ∷ []) (omega (arith, room, (all_ok k d lt).low), (omega (arith, room, count, all_in k d lt), tt)));
        },
        tt,
      )

  pub part_within : 0 < length W.queues → All (IsWithin (length W.queues) (length W.units)) (passes_in n sources flown)
  part_within some_queue = All-append (IsWithin (length W.queues) (length W.units)) (joins all) own (join_within some_queue all each_carry (copied_inside n shapes sizes flown.places sources F.placed)) (All-map (IsWithin (length W.queues) (length W.units)) (moved n) flown.frame.passes (λ p d lt.
      let pass = get_or flown.frame.passes p d in
      let within = F.good.within p d lt in
      record {
        queue = subst (λ q. pass.queue < length q) (sym same_queues) within.queue;
        reads = All-map (λ x. x < length W.units) (λ x. n + x) pass.reads (λ k e less. omega (arith, room, within.reads k e less));
        writes = All-map (λ w. w.what < length W.units) (moved_write n) pass.writes (λ k e less. omega (arith, room, within.writes k e less));
        ops = All-map (λ op. All (λ x. x < length W.units) (operands_of op)) (mapped (λ x. n + x)) pass.ops (λ k e less. subst (All (λ x. x < length W.units)) (sym (operands_mapped (λ x. n + x) (get_or pass.ops k e))) (All-map (λ x. x < length W.units) (λ x. n + x) (operands_of (get_or pass.ops k e)) (λ j f small. omega (arith, room, within.ops k e less j f small))));
      }))

-- ALL FRAMES OF A WINDOW

-- what holds of the frames whose units begin at n, after the units and passes of those before them
pub record Whole (W : NumberedFrame) (earlier : List NumberedPass) (n : ℕ) (sizes : List ℕ) (sources : List Source) (frames : List Flown) : Type 0 where
  pub good : AllGood W earlier (all_passes n sources frames)
  pub within : All (IsWithin (length W.queues) (length W.units)) (all_passes n sources frames)
  pub inside : All (λ x. x < length W.units) (own_exports n frames)
  pub full : All (λ x. has_contents W.units (earlier ++ all_passes n sources frames) x ≡ true) (own_exports n frames)
  pub left : AreLeft W (earlier ++ all_passes n sources frames) (length W.units) sizes (last_sources n sources frames)

pub all_frames : (W : NumberedFrame) (queues : List Family) (sizes : List ℕ) (frames : List Flown) → AllByRecursion (Flies queues sizes) frames → W.queues ≡ queues → 0 < length W.queues → (before : List Unit) (earlier : List NumberedPass) (sources : List Source) → W.units ≡ before ++ all_units (length before) sources frames → AreLeft W earlier (length before) sizes sources → Whole W earlier (length before) sizes sources frames
all_frames W queues sizes [] fly Q some before earlier sources U left = record {
  good = tt;
  within = All-nil (IsWithin (length W.queues) (length W.units));
  inside = All-nil (λ x. x < length W.units);
  full = All-nil (λ x. has_contents W.units (earlier ++ []) x ≡ true);
  left = let e : length before ≡ length W.units = sym (ap length U ∙ ap length (append-nil before)) in subst (λ b. AreLeft W b (length W.units) sizes sources) (sym (append-nil earlier)) (subst (λ k. AreLeft W earlier k sizes sources) e left);
}
all_frames W queues sizes (flown ∷ frames) fly Q some before earlier sources U left =
    let n = length before in
    let after = sources_after n flown.places sources in
    let part = passes_in n sources flown in
    let rest = all_passes (next n flown) after frames in
    let begun = units_in sources flown in
    let more = all_units (next n flown) after frames in
    let sum : length (before ++ begun) ≡ next n flown = length-append before begun ∙ ap (λ k. n + k) (all_length flown.places (map import_from sources) flown.frame.units) in
    let on = left_on W queues sizes flown fly.0 before more earlier sources Q U left in
    let tail : Whole W (earlier ++ part) (next n flown) sizes after frames =
    subst (λ k. Whole W (earlier ++ part) k sizes after frames) sum (all_frames W queues sizes frames fly.1 Q some (before ++ begun) (earlier ++ part) after (subst (λ k. W.units ≡ (before ++ begun) ++ all_units k after frames) (sym sum) (U ∙ sym (append_assoc before begun more))) (subst (λ k. AreLeft W (earlier ++ part) k sizes after) (sym sum) on)) in
    let own = map (λ unit. n + unit) flown.frame.exports in
    let joined_on : (earlier ++ part) ++ rest ≡ earlier ++ (part ++ rest) = append_assoc earlier part rest in
    let Full : List NumberedPass → ℕ → Type 0 = λ b x. has_contents W.units b x ≡ true in
    record {
      good = good_on W earlier part rest (good_part W queues sizes flown fly.0 before more earlier sources Q U left) tail.good;
      within = All-append (IsWithin (length W.queues) (length W.units)) part rest (part_within W queues sizes flown fly.0 before more earlier sources Q U left some) tail.within;
      inside = All-append (λ x. x < length W.units) own (own_exports (next n flown) frames) (own_inside W queues sizes flown fly.0 before more earlier sources Q U left) tail.inside;
      full = All-append (Full (earlier ++ (part ++ rest))) own (own_exports (next n flown) frames)
          (λ k d lt. subst (λ b. Full b (get_or own k d)) joined_on (contents_stay W (earlier ++ part) rest (get_or own k d) (own_there W queues sizes flown fly.0 before more earlier sources Q U left k d lt)))
          (λ k d lt. subst (λ b. Full b (get_or (own_exports (next n flown) frames) k d)) joined_on (tail.full k d lt));
      left = subst (λ b. AreLeft W b (length W.units) sizes (last_sources (next n flown) after frames)) joined_on tail.left;
    }
