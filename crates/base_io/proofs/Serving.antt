-- Taps are served in order, one place after another.
use Rattle.std.proofs.Common.{◌≡◌, get_or, ℕ, ◌+◌, ◌≤◌, ◌<◌, List, [], ◌∷◌, ◌++◌, length, take, drop, refl, sym, subst, ap, ◌∙◌, arith, true, false, Bool, slice_set, append_assoc, append-nil, length-append}
use Rattle.std.specs.declared.option.Option.{Option}
use Rattle.std.proofs.Math.Seq.{set-append_seam, get_or-append_seam, take-append_seam, drop-append-add}
use Rattle.std.specs.List.{HoldsAt}
use Rattle.std.proofs.Common.{inl, inr}
use Rattle.std.proofs.lemmas.Bool.{cases_lt}
use Rattle.std.proofs.lemmas.List.{get_or_append_left, get_or_push}
use Rattle.std.proofs.lemmas.List.Elements.{at_read}
use Rattle.base.specs.declared.event.Event.{Event}
use Rattle.base_io.specs.Internal.Serves.{ServesAt}
use Rattle.base_io.specs.Served.{AreServed, IsRising, Splits, none, stays, ends, IsServed}

-- the taps before this place of the lent ones were served, and the others stand behind those that stay
pub record IsServing {T : Type 0} (heard : T → Option (List Event)) (finished : T → Type 0) (events : List Event) (lent : List T) (place at : ℕ) (taps spent : List T) (places : List ℕ) : Type 0 where
  pub done : List T
  pub kept : List T
  pub rest : List T
  pub lent_is : lent ≡ done ++ rest
  pub taps_are : taps ≡ kept ++ rest
  pub place_is : place ≡ length done
  pub at_is : at ≡ length kept
  pub split : Splits heard finished events done kept spent places

-- the tap at a place is served
pub serves_at : {T : Type 0} (heard : T → Option (List Event)) (finished : T → Type 0) (events : List Event) (old : List T) (at : ℕ) (tap before : T) (done : Bool) → at < length old → before ≡ get_or old at before → IsServed (heard before) (heard tap) (finished tap) events done → ServesAt heard finished events old at (slice_set old at tap) done
serves_at heard finished events old at tap before done inside is served =
    record { tap = tap; items = refl; served = at_read old (λ x. IsServed (heard x) (heard tap) (finished tap) events done) at before inside is served }

-- a write at the seam, one item further
set_next : {A : Type 0} (xs ys : List A) (x v : A) → slice_set (xs ++ x ∷ ys) (length xs) v ≡ (xs ++ v ∷ []) ++ ys
set_next xs ys x v = set-append_seam xs x ys v ∙ sym (append_assoc xs (v ∷ []) ys)

module _ {T : Type 0} (heard : T → Option (List Event)) (finished : T → Type 0) (events : List Event) where
  -- nothing is served yet
  pub serving_none : (lent : List T) → IsServing heard finished events lent 0 0 lent [] []
  serving_none lent = record { done = []; kept = []; rest = lent; lent_is = refl; taps_are = refl; place_is = refl; at_is = refl; split = none }

  -- which tap is served
  served_first : (kept rest new : List T) (x : T) (done : Bool) (s : ServesAt heard finished events (kept ++ x ∷ rest) (length kept) new done) → IsServed (heard x) (heard s.tap) (finished s.tap) events done
  served_first kept rest new x done s = subst (λ y. IsServed (heard y) (heard s.tap) (finished s.tap) events done) (get_or-append_seam kept x rest s.tap) (s.served s.tap)

  stays_parts : (done kept rest new spent : List T) (places : List ℕ) → Splits heard finished events done kept spent places → length done < length (done ++ rest) → ServesAt heard finished events (kept ++ rest) (length kept) new false → IsServing heard finished events (done ++ rest) (length done + 1) (length kept + 1) new spent places
  stays_parts done kept [] new spent places split more s = absurd (omega (arith, length-append done []))
  stays_parts done kept (x ∷ rest) new spent places split more s =
      record {
        done = done ++ x ∷ [];
        kept = kept ++ s.tap ∷ [];
        rest = rest;
        lent_is = sym (append_assoc done (x ∷ []) rest);
        taps_are = s.items ∙ set_next kept rest x s.tap;
        place_is = sym (length-append done (x ∷ []));
        at_is = sym (length-append kept (s.tap ∷ []));
        split = stays x s.tap split (served_first kept rest new x false s);
      }

  ends_parts : (done kept rest new after spent spent' : List T) (places : List ℕ) → Splits heard finished events done kept spent places → length done < length (done ++ rest) → ServesAt heard finished events (kept ++ rest) (length kept) new true → after ≡ take (length kept) new ++ drop (length kept + 1) new → HoldsAt (λ x. spent' ≡ spent ++ x ∷ []) new (length kept) → IsServing heard finished events (done ++ rest) (length done + 1) (length kept) after spent' (places ++ length done ∷ [])
  ends_parts done kept [] new after spent spent' places split more s removed moved = absurd (omega (arith, length-append done []))
  ends_parts done kept (x ∷ rest) new after spent spent' places split more s removed moved =
      let new_is : new ≡ kept ++ s.tap ∷ rest = s.items ∙ set-append_seam kept x rest s.tap in
      let after_is : after ≡ kept ++ rest = removed ∙ (rw new_is (rw (take-append_seam, drop-append-add))) in
      let spent_is : spent' ≡ spent ++ s.tap ∷ [] = moved s.tap ∙ ap (λ y. spent ++ y ∷ []) (rw new_is (get_or-append_seam kept s.tap rest s.tap)) in
      record {
        done = done ++ x ∷ [];
        kept = kept;
        rest = rest;
        lent_is = sym (append_assoc done (x ∷ []) rest);
        taps_are = after_is;
        place_is = sym (length-append done (x ∷ []));
        at_is = refl;
        split = rw spent_is (ends x s.tap split (served_first kept rest new x true s));
      }

  -- one tap more stays
  pub serving_stays : (lent taps new spent : List T) (places : List ℕ) (place at : ℕ) → IsServing heard finished events lent place at taps spent places → place < length lent → ServesAt heard finished events taps at new false → IsServing heard finished events lent (place + 1) (at + 1) new spent places
  serving_stays lent taps new spent places place at i more s =
      let more' : length i.done < length (i.done ++ i.rest) = omega (arith, i.place_is, ap length i.lent_is) in
      let s' = subst (λ (t : List T). ServesAt heard finished events t (length i.kept) new false) i.taps_are (subst (λ (n : ℕ). ServesAt heard finished events taps n new false) i.at_is s) in
      rw (i.lent_is, i.place_is, i.at_is) (stays_parts i.done i.kept i.rest new spent places i.split more' s')

  -- one tap more is finished
  pub serving_ends : (lent taps new after spent spent' : List T) (places places' : List ℕ) (place at : ℕ) → IsServing heard finished events lent place at taps spent places → place < length lent → ServesAt heard finished events taps at new true → after ≡ take at new ++ drop (at + 1) new → HoldsAt (λ x. spent' ≡ spent ++ x ∷ []) new at → places' ≡ places ++ place ∷ [] → IsServing heard finished events lent (place + 1) at after spent' places'
  serving_ends lent taps new after spent spent' places places' place at i more s removed moved noted =
      let more' : length i.done < length (i.done ++ i.rest) = omega (arith, i.place_is, ap length i.lent_is) in
      let s' = subst (λ (t : List T). ServesAt heard finished events t (length i.kept) new true) i.taps_are (subst (λ (n : ℕ). ServesAt heard finished events taps n new true) i.at_is s) in
      rw (noted, i.lent_is, i.place_is, i.at_is) (ends_parts i.done i.kept i.rest new after spent spent' places i.split more' s' (rw i.at_is at removed) (rw i.at_is at moved))

  all_parts : (lent taps spent : List T) (places : List ℕ) (done kept rest : List T) → lent ≡ done ++ rest → taps ≡ kept ++ rest → Splits heard finished events done kept spent places → length lent ≤ length done → Splits heard finished events lent taps spent places
  all_parts lent taps spent places done kept [] el et split short = rw (el, et, append-nil, append-nil) split
  all_parts lent taps spent places done kept (x ∷ rest) el et split short = absurd (omega (arith, ap length el, length-append done (x ∷ rest)))

  -- all are served
  serving_all : (lent taps spent : List T) (places : List ℕ) (place at : ℕ) → IsServing heard finished events lent place at taps spent places → length lent ≤ place → Splits heard finished events lent taps spent places
  serving_all lent taps spent places place at i end = all_parts lent taps spent places i.done i.kept i.rest i.lent_is i.taps_are i.split (omega (arith, i.place_is))

  rising_push : (xs : List ℕ) (end x : ℕ) → IsRising xs x → x < end → IsRising (xs ++ x ∷ []) end
  rising_push xs end x h l = λ k inside.
      elim (cases_lt k (length xs)) [
        | inl front ↦ (
          let e = get_or_append_left xs (x ∷ []) 0 k front in rw e (omega (arith, (h k front).0)),
          λ j below. let front' : j < length xs = omega arith in rw (get_or_append_left xs (x ∷ []) 0 k front, get_or_append_left xs (x ∷ []) 0 j front') ((h k front).1 j below),
        )
        | inr behind ↦ let at_end : length xs ≡ k = omega (arith, length-append xs (x ∷ [])) in (
          rw (get_or_push xs x 0 k at_end) l,
          λ j below. let front' : j < length xs = omega arith in rw (get_or_push xs x 0 k at_end, get_or_append_left xs (x ∷ []) 0 j front') ((h j front').0),
        )
      ]

  rising_wider : (xs : List ℕ) (x end : ℕ) → IsRising xs x → x ≤ end → IsRising xs end
  rising_wider xs x end h l = λ k inside. (omega (arith, (h k inside).0), (h k inside).1)

  Splits-rising : {lent kept spent : List T} {places : List ℕ} → Splits heard finished events lent kept spent places → IsRising places (length lent)
  Splits-rising none = λ k inside. absurd (omega arith)
  Splits-rising (stays {lent = l} {places = p} old new split served) = rising_wider p (length l) _ (Splits-rising split) (omega (arith, length-append l (old ∷ [])))
  Splits-rising (ends {lent = l} {places = p} old new split served) = rising_push p _ (length l) (Splits-rising split) (omega (arith, length-append l (old ∷ [])))

  Splits-as_many : {lent kept spent : List T} {places : List ℕ} → Splits heard finished events lent kept spent places → length places ≡ length spent
  Splits-as_many none = refl
  Splits-as_many (stays old new split served) = Splits-as_many split
  Splits-as_many (ends {lent = l} {spent = s} {places = p} old new split served) = omega (arith, Splits-as_many split, length-append p (length l ∷ []), length-append s (new ∷ []))

  pub are_served : (lent taps spent : List T) (places : List ℕ) (place at : ℕ) → IsServing heard finished events lent place at taps spent places → length lent ≤ place → AreServed heard finished events lent taps spent places
  are_served lent taps spent places place at i end = let split = serving_all lent taps spent places place at i end in record { split = split; rising = Splits-rising split; as_many = Splits-as_many split }
