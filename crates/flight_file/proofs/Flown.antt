-- Windows that have flown.
use Rattle.std.proofs.Common.{◌≡◌, ◌+◌, ◌*◌, ◌<◌, ◌≤◌, ◌++◌, ℕ, zero, suc, List, [], ◌∷◌, length, get_or, false, Option, Some, slice_get, inl, inr, refl, sym, ap, ap₂, subst, ◌∙◌, add-one, append_assoc, append-nil, arith}
use Rattle.std.specs.Prelude.{◌/◌, ◌⊎◌, IfOk, IsErrAnd, Result, Ok, Err, unwrap_or}
use Rattle.std.specs.List.{flat_map}
use Rattle.std.proofs.lemmas.Option.{slice_get-get_or}
use Rattle.base.specs.declared.event.Event.{Event}
use Rattle.flight.specs.Alone.{IsPersisted, alone, persisted_next}
use Rattle.flight.specs.Exported.{export_place, persisted_export}
use Rattle.flight.specs.Flight.{Flight}
use Rattle.flight.specs.Flights.{ArePersisted, window_at, window_count}
use Rattle.flight_file.proofs.Texts.{text_all}
use Rattle.flight_file.proofs.Windows.{all_windows}
use Rattle.flight_file.specs.Internal.Flying.{CanRead, FliesOn, IsFlown, IsGathered, Prints, text_before}
use Rattle.flight_file.specs.Flights.{Flies, WindowRun}
use Rattle.flight_file.specs.Texts.{bytes_alone}
use Rattle.flight_file.specs.declared.flying.Flying.{Flying}
use Rattle.flight_file.specs.declared.outcome.Outcome.TheVariants.{Flown}
use Rattle.frame.specs.Numbered.{NumberedFrame, numbered}
use Rattle.frame.specs.declared.frame.Frame.{Frame}
use Rattle.frame_meaning.specs.Meaning.{AreMeant, meaning}
use Rattle.device_run.proofs.Keeping.{kept_more}
use Rattle.device_run.specs.FrameRuns.{RunsOn}
use Rattle.device_run.specs.Keepers.{Kept, KeptDevices}
use Rattle.device_run.specs.Runs.{read_by}
use Rattle.device_model.specs.Devices.{Device}
use Rattle.program.specs.declared.program.Program.{Program}

-- what laws of flights say of exports
abbrev pub ExportsAlone : Flight → Type 0
ExportsAlone F = (i : ℕ) (frame : Frame) → slice_get F.frames i ≡ Some frame → (persisted : List (Option (List ℕ))) → IsPersisted F.frames F.persist ((i / F.depth) * F.depth) persisted → (bytes : ℕ → List ℕ) → AreMeant (numbered (window_at F.frames F.persist F.depth persisted (i / F.depth))) bytes → AreMeant (alone F.frames F.persist i frame) (λ k. bytes (export_place F.frames F.depth i k))

-- and of what is persisted before the next window
abbrev pub HoldsNext : Flight → Type 0
HoldsNext F = (w : ℕ) → w < window_count F.depth F.frames → (persisted : List (Option (List ℕ))) → IsPersisted F.frames F.persist (w * F.depth) persisted → (bytes : ℕ → List ℕ) → AreMeant (numbered (window_at F.frames F.persist F.depth persisted w)) bytes → IsPersisted F.frames F.persist (suc w * F.depth) (persisted_next (persisted_export F.frames F.persist F.depth w) bytes 0 persisted)

-- what an export means alone is printed
printed_alone : (frames : List Frame) (persist : List (List ℕ)) (i : ℕ) (frame : Frame) (k : ℕ) (bytes : List ℕ) → meaning (alone frames persist i frame) (get_or (alone frames persist i frame).exports k 0) ≡ Some bytes → bytes_alone frames persist i frame k ≡ bytes
unfolding bytes_alone
printed_alone frames persist i frame k bytes means = ap (λ o. unwrap_or o []) means

module _ (tend : Option ℕ) (F : Flight) (w : ℕ) (device : Device) where
  -- the window begins with what is persisted, and has run
  window_run : ExportsAlone F → (persisted : List (Option (List ℕ))) → IsPersisted F.frames F.persist (w * F.depth) persisted → RunsOn tend false (numbered (window_at F.frames F.persist F.depth persisted w)) device → WindowRun tend F.frames F.persist F.depth w device
  window_run laws persisted before run = record { persisted = persisted; is_persisted = before; run = run; printed = printed }
    where
      printed : (i k : ℕ) (frame : Frame) → slice_get F.frames i ≡ Some frame → i / F.depth ≡ w → k < length (numbered frame).exports → bytes_alone F.frames F.persist i frame k ≡ read_by device (export_place F.frames F.depth i k)
      printed i k frame at e lt =
          let lone : NumberedFrame = alone F.frames F.persist i frame in
          let unit : ℕ = get_or lone.exports k 0 in
          let begins : IsPersisted F.frames F.persist ((i / F.depth) * F.depth) persisted = subst (λ v. IsPersisted F.frames F.persist (v * F.depth) persisted) (sym e) before in
          let read : AreMeant (numbered (window_at F.frames F.persist F.depth persisted (i / F.depth))) (read_by device) = subst (λ v. AreMeant (numbered (window_at F.frames F.persist F.depth persisted v)) (read_by device)) (sym e) run.meant in
          let means : meaning lone unit ≡ Some (read_by device (export_place F.frames F.depth i k)) = laws i frame at persisted begins (read_by device) read k unit (slice_get-get_or lone.exports k 0 lt) in
          printed_alone F.frames F.persist i frame k (read_by device (export_place F.frames F.depth i k)) means

  -- so what it exports can be read
  window_read : (persisted : List (Option (List ℕ))) → ArePersisted F.frames F.persist persisted → RunsOn tend false (numbered (window_at F.frames F.persist F.depth persisted w)) device → CanRead F w persisted device
  window_read persisted sized run = record {
    complete = run.has_run.complete;
    sized = sized;
    readbacks = ap (λ (p : Program). length p.readbacks) run.has_run.runs ∙ run.compiles.right.readbacks;
  }

  -- and each of its frames can be printed
  window_prints : WindowRun tend F.frames F.persist F.depth w device → (i : ℕ) → i / F.depth ≡ w → Prints F i device
  window_prints run i e = record {
    persisted = run.persisted;
    read = subst (λ v. CanRead F v run.persisted device) (sym e) (window_read run.persisted run.is_persisted.sized run.run);
    printed = λ k frame at lt. run.printed i k frame at e lt;
  }

-- want of memory says nothing
pub gave_up : {X E : Type 0} (r : Result X E) (P : X → Type 0) (Q : E → Type 0) → IsErrAnd r Q → IfOk r P
gave_up (Ok x) P Q h = absurd h
gave_up (Err e) P Q h = tt

-- of what went well
pub on_ok : {X E : Type 0} (r : Result X E) (P Q : Type 0) → IfOk r (λ x. P) → (P → Q) → IfOk r (λ x. Q)
on_ok (Ok x) P Q p follows = follows p
on_ok (Err e) P Q p follows = tt

-- ONE WINDOW FURTHER

last_or_before : {X : Type 0} (xs : List X) (x y : X) (v : ℕ) → slice_get (xs ++ x ∷ []) v ≡ Some y → (slice_get xs v ≡ Some y) ⊎ ((v ≡ length xs) × (x ≡ y))
last_or_before [] x y zero at = inr (refl, cc)
last_or_before [] x y (suc v) at = absurd cc
last_or_before (a ∷ xs) x y zero at = inl at
last_or_before (a ∷ xs) x y (suc v) at = further (last_or_before xs x y v at)
  where
    further : (slice_get xs v ≡ Some y) ⊎ ((v ≡ length xs) × (x ≡ y)) → (slice_get xs v ≡ Some y) ⊎ ((suc v ≡ suc (length xs)) × (x ≡ y))
    further (inl found) = inl found
    further (inr last) = inr (ap suc last.0, last.1)

one_longer : {X : Type 0} (xs : List X) (x : X) → length (xs ++ x ∷ []) ≡ suc (length xs)
one_longer [] x = refl
one_longer (a ∷ xs) x = ap suc (one_longer xs x)

history_more : (devices : List Device) (device : Device) → flat_map (λ (d : Device). d.history) (devices ++ device ∷ []) ≡ flat_map (λ (d : Device). d.history) devices ++ device.history
history_more [] device = append-nil device.history
history_more (d ∷ devices) device = ap (λ (h : List Event). d.history ++ h) (history_more devices device) ∙ sym (append_assoc d.history (flat_map (λ (e : Device). e.history) devices) device.history)

flown_more : (tend : Option ℕ) (F : Flight) (w : ℕ) (device : Device) (old new : Flying) (devices : List Device) → IsFlown tend F w devices old → WindowRun tend F.frames F.persist F.depth w device → IsPersisted F.frames F.persist (suc w * F.depth) new.persisted → IsGathered F w device old new → IsFlown tend F (w + 1) (devices ++ device ∷ []) new
flown_more tend F w device old new devices was run persisted gathered = rw add-one (record {
  windows = one_longer devices device ∙ ap suc was.windows;
  runs = runs;
  persisted = persisted;
  text = rw add-one at gathered.text;
  history = gathered.history ∙ ap (λ (h : List Event). h ++ device.history) was.history ∙ sym (history_more devices device);
})
  where
    runs : (v : ℕ) (d : Device) → slice_get (devices ++ device ∷ []) v ≡ Some d → WindowRun tend F.frames F.persist F.depth v d
    runs v d at = by (last_or_before devices device d v at)
      where
        by : (slice_get devices v ≡ Some d) ⊎ ((v ≡ length devices) × (device ≡ d)) → WindowRun tend F.frames F.persist F.depth v d
        by (inl found) = was.runs v d found
        by (inr last) = subst (λ (e : Device). WindowRun tend F.frames F.persist F.depth v e) last.1 (subst (λ u. WindowRun tend F.frames F.persist F.depth u device) (sym (last.0 ∙ was.windows)) run)

-- a window is compiled from what is persisted, and has run
module _ (tend : Option ℕ) (F : Flight) (w : ℕ) (device : Device) (old : Flying) (before : IsPersisted F.frames F.persist (w * F.depth) old.persisted) (ran : RunsOn tend false (numbered (window_at F.frames F.persist F.depth old.persisted w)) device) where
  pub ran_reads : CanRead F w old.persisted device
  ran_reads = window_read tend F w device old.persisted before.sized ran

  pub ran_prints : ExportsAlone F → (i : ℕ) → i / F.depth ≡ w → Prints F i device
  ran_prints exports = window_prints tend F w device (window_run tend F w device exports old.persisted before ran)

  pub ran_flown : ExportsAlone F → HoldsNext F → w < window_count F.depth F.frames → (new : Flying) → IsGathered F w device old new → FliesOn tend F w device old new
  ran_flown exports holds there new gathered devices was =
      let run : WindowRun tend F.frames F.persist F.depth w device = window_run tend F w device exports old.persisted before ran in
      let next : IsPersisted F.frames F.persist (suc w * F.depth) (persisted_next (persisted_export F.frames F.persist F.depth w) (read_by device) 0 old.persisted) = holds w there old.persisted before (read_by device) ran.meant in
      flown_more tend F w device old new devices was run (subst (λ (h : List (Option (List ℕ))). IsPersisted F.frames F.persist (suc w * F.depth) h) (sym gathered.persisted) next) gathered

-- its device is handed over
pub kept_flown : (tend : Option ℕ) (F : Flight) (w : ℕ) (device : Device) (old new : Flying) (first middle last : Option (List Device)) → Kept first middle (λ devices. IsFlown tend F w devices old) → FliesOn tend F w device old new → KeptDevices middle last (device ∷ []) → Kept first last (λ devices. IsFlown tend F (w + 1) devices new)
kept_flown tend F w device old new first middle last so_far flies handed = record {
  devices = so_far.devices ++ device ∷ [];
  kept = kept_more first middle last so_far.devices (device ∷ []) so_far.kept handed;
  meets = flies so_far.devices so_far.meets;
}

-- nothing has flown
pub none_flown : (tend : Option ℕ) (F : Flight) (flying : Flying) → IsPersisted F.frames F.persist 0 flying.persisted → flying.text ≡ [] → flying.history ≡ [] → IsFlown tend F 0 [] flying
none_flown tend F flying persisted text history = record {
  windows = refl;
  runs = none;
  persisted = subst (λ i. IsPersisted F.frames F.persist i flying.persisted) (sym nothing) persisted;
  text = text ∙ sym (ap (text_before F) nothing);
  history = history;
}
  where
    nothing : 0 * F.depth ≡ 0
    nothing = omega arith

    none : (v : ℕ) (d : Device) → slice_get {X = Device} [] v ≡ Some d → WindowRun tend F.frames F.persist F.depth v d
    none v d at = absurd cc

-- all windows
pub all_flown : (tend : Option ℕ) (F : Flight) (count w : ℕ) (flying : Flying) → 1 ≤ F.depth → count ≡ window_count F.depth F.frames → count ≤ w → w ≤ count → (devices : List Device) → IsFlown tend F w devices flying → Flies tend F.persist F.depth F.frames devices (Flown flying.text flying.history)
all_flown tend F count w flying deep counted far near devices was =
    let last : w ≡ count = omega (arith, far, near) in
    let end : w ≡ window_count F.depth F.frames = last ∙ counted in
    record {
      windows = was.windows ∙ end;
      runs = was.runs;
      whole = ap₂ (λ t h. Flown t h) (text_all F (w * F.depth) flying.text (all_windows (length F.frames) F.depth w deep end) was.text) was.history;
    }
