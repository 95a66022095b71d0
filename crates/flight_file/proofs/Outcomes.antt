-- What files, lines and frames come to.
use Rattle.std.proofs.Common.{◌≡◌, ◌≤◌, ◌&&◌, ℕ, true, false, Bool, List, [], length, nat_le, Option, Some, None, refl, sym, subst, arith}
use Rattle.std.specs.Prelude.{if◌then◌else◌, Result, Ok, Err}
use Rattle.std.specs.Option.{option_map}
use Rattle.device_model.specs.Devices.{Device}
use Rattle.device_run.proofs.Keeping.{kept_so, none_kept}
use Rattle.device_run.specs.Keepers.{Kept}
use Rattle.flight.specs.Refusals.{first_refusal}
use Rattle.flight.specs.declared.fault.FlightFault.{FlightFault}
use Rattle.flight_file.specs.Internal.Reading.{FliesLines}
use Rattle.flight_file.specs.Files.{frames_of, if_frames, unless_refused}
use Rattle.flight_file.specs.Flights.{Flies, FliesFile, FliesFrames, IsRefused}
use Rattle.flight_file.specs.Lines.{lines_of}
use Rattle.flight_file.specs.Texts.{refusal_text}
use Rattle.flight_file.specs.declared.outcome.Outcome.{Outcome}
use Rattle.flight_file.specs.declared.outcome.Outcome.TheVariants.{Refused}
use Rattle.flight_file.specs.declared.refusal.Refusal.{Refusal}
use Rattle.flight_file.specs.declared.refusal.Refusal.TheVariants as refusals
use Rattle.frame.specs.declared.frame.Frame.{Frame}
use Rattle.compile_file.specs.Files.{unless_broken}

bounds : (n : ℕ) → 1 ≤ n → n ≤ 64 → (nat_le 1 n && nat_le n 64) ≡ true
bounds n some few = grind arith

-- no device has run
told : (refusal : Refusal) (outcome : Outcome) → outcome ≡ Refused (refusal_text refusal) → IsRefused refusal [] outcome
told refusal outcome is = record { told = is; none = refl }

-- FRAMES, LINES, FILES

module _ (tend : Option ℕ) (persist : List (List ℕ)) (depth : ℕ) (devices : List Device) (outcome : Outcome) where
  abbrev Unless : List Frame → Option FlightFault → Type 0
  Unless frames fault = FliesFrames tend persist depth (unless_broken frames (option_map (λ f. refusals.Flight f) fault)) devices outcome

  abbrev Read : Result (List Frame) Refusal → Type 0
  Read read = FliesFrames tend persist depth (if_frames persist depth read) devices outcome

  abbrev Counted : List (List ℕ) → Bool → Type 0
  Counted lines within = FliesFrames tend persist depth (if within then if_frames persist depth (frames_of 0 lines) else Err refusals.Count) devices outcome

  counted : (bytes : List ℕ) (lines : List (List ℕ)) → lines ≡ lines_of bytes → 1 ≤ length lines → length lines ≤ 64 → FliesLines tend persist depth lines devices outcome → FliesFile tend persist depth bytes devices outcome
  counted bytes lines is some few flies =
      subst (λ (ls : List (List ℕ)). Counted ls (nat_le 1 (length ls) && nat_le (length ls) 64)) is (subst (Counted lines) (sym (bounds (length lines) some few)) flies)

module _ (tend : Option ℕ) (persist : List (List ℕ)) (depth : ℕ) (old new : Option (List Device)) (outcome : Outcome) where
  pub frames_fly : (frames : List Frame) → first_refusal frames persist depth ≡ None → Kept old new (λ devices. Flies tend persist depth frames devices outcome) → Kept old new (λ devices. FliesFrames tend persist depth (unless_refused persist depth frames) devices outcome)
  frames_fly frames none flies = kept_so old new _ _ flies (λ devices so. subst (Unless tend persist depth devices outcome frames) (sym none) so)

  pub lines_fly : (lines : List (List ℕ)) (frames : List Frame) → frames_of 0 lines ≡ Ok frames → Kept old new (λ devices. FliesFrames tend persist depth (unless_refused persist depth frames) devices outcome) → Kept old new (λ devices. FliesLines tend persist depth lines devices outcome)
  lines_fly lines frames read flies = kept_so old new _ _ flies (λ devices so. subst (Read tend persist depth devices outcome) (sym read) so)

  pub file_flies : (bytes : List ℕ) (lines : List (List ℕ)) → lines ≡ lines_of bytes → 1 ≤ length lines → length lines ≤ 64 → Kept old new (λ devices. FliesLines tend persist depth lines devices outcome) → Kept old new (λ devices. FliesFile tend persist depth bytes devices outcome)
  file_flies bytes lines is some few flies = kept_so old new _ _ flies (λ devices so. counted tend persist depth devices outcome bytes lines is some few so)

-- of what is refused none is handed over
module _ (tend : Option ℕ) (persist : List (List ℕ)) (depth : ℕ) (o : Option (List Device)) (outcome : Outcome) where
  pub frames_refused : (frames : List Frame) (fault : FlightFault) → first_refusal frames persist depth ≡ Some fault → outcome ≡ Refused (refusal_text (refusals.Flight fault)) → Kept o o (λ devices. FliesFrames tend persist depth (unless_refused persist depth frames) devices outcome)
  frames_refused frames fault is so = none_kept o (λ devices. FliesFrames tend persist depth (unless_refused persist depth frames) devices outcome) (subst (Unless tend persist depth [] outcome frames) (sym is) (told (refusals.Flight fault) outcome so))

  pub lines_refused : (lines : List (List ℕ)) (refusal : Refusal) → frames_of 0 lines ≡ Err refusal → outcome ≡ Refused (refusal_text refusal) → Kept o o (λ devices. FliesLines tend persist depth lines devices outcome)
  lines_refused lines refusal read so = none_kept o (λ devices. FliesLines tend persist depth lines devices outcome) (subst (Read tend persist depth [] outcome) (sym read) (told refusal outcome so))

  pub file_refused : (bytes : List ℕ) → (nat_le 1 (length (lines_of bytes)) && nat_le (length (lines_of bytes)) 64) ≡ false → outcome ≡ Refused (refusal_text refusals.Count) → Kept o o (λ devices. FliesFile tend persist depth bytes devices outcome)
  file_refused bytes none so = none_kept o (λ devices. FliesFile tend persist depth bytes devices outcome) (subst (Counted tend persist depth [] outcome (lines_of bytes)) (sym none) (told refusals.Count outcome so))
