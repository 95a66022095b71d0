-- Windows mean, one after another, what their frames mean one after another.
use Rattle.std.proofs.Common.{◌≡◌, ℕ, ◌*◌, ◌<◌, List, [], ◌∷◌, length, map, drop, take, Option, Some, None, refl, sym, ap, subst, ◌∙◌}
use Rattle.std.proofs.lemmas.List.{drop-map, length-map, take-map}
use Rattle.flight.proofs.Alike.{windows_alike}
use Rattle.flight.proofs.Counted.{there}
use Rattle.flight.proofs.Flies.{all_flying, mine, within, flying}
use Rattle.flight.specs.Flights.{ArePersisted, all_declared, families_of, persisted_bytes, queues_of, sizes_of, window_at, window_count}
use Rattle.flight.specs.Fly.{Fly}
use Rattle.frame.specs.Limits.{limit_broken}
use Rattle.frame.specs.Numbered.{numbered}
use Rattle.frame.specs.declared.frame.Frame.{Frame}
use Rattle.law_window.proofs.Faultless.{declared_numbered}
use Rattle.law_window.proofs.Turns.{declared_in_turn, each_declared}
use Rattle.law_window.specs.Declared.{Declared, flown_of}
use Rattle.law_window.specs.NamedTogether.{FlyDeclared}
use Rattle.law_window.specs.WindowFrame.{window_frame}
use Rattle.law_window.specs.Flown.{Flown}
use Rattle.law_window.specs.InTurn.{MeansInTurn, frames_in, persisted_before}
use Rattle.law_window.specs.Window.{window}

all_there : (bytes : List (List ℕ)) → persisted_bytes (map (λ b. Some b) bytes) ≡ bytes
all_there [] = refl
all_there (b ∷ bytes) = ap (λ bs. b ∷ bs) (all_there bytes)

module _ (frames : List Frame) (persist : List (List ℕ)) (depth : ℕ) (F : Fly frames persist depth) (persisted : List (Option (List ℕ))) (H : ArePersisted frames persist persisted) (w : ℕ) (counted : w < window_count depth frames) where
  abbrev ds : List Declared
  ds = all_declared frames persist

  abbrev flown : List Flown
  flown = map flown_of ds

  has_frame : w * depth < length frames
  has_frame = there (length frames) depth w F.deep counted

  pub same_frames : map flown_of (frames_in depth ds w) ≡ frames_in depth flown w
  same_frames = sym (ap (take depth) (drop-map flown_of (w * depth) ds) ∙ take-map flown_of depth (drop (w * depth) ds))

  pub flight_numbers : numbered (window_at frames persist depth persisted w) ≡ window (families_of frames) (frames_in depth flown w) (persisted_bytes persisted)
  flight_numbers =
      declared_numbered (queues_of frames) (sizes_of frames persist) (frames_in depth ds w) (persisted_bytes persisted) (flying frames persist depth F w has_frame counted persisted H)
      ∙ ap (λ fs. window (families_of frames) fs (persisted_bytes persisted)) same_frames

  whole : FlyDeclared (queues_of frames) (sizes_of frames persist) ds (persisted_bytes persisted)
  whole = all_flying frames persist depth F persisted H

  among : w * depth < length ds
  among = subst (λ n. w * depth < n) (sym (length-map frames _)) has_frame

  abbrev begun : List (List ℕ)
  begun = persisted_before depth flown (persisted_bytes persisted) w

  begun_many : length (map (λ b. Some b) begun) ≡ length persist
  begun_many =
      let sized = (each_declared (queues_of frames) (sizes_of frames persist) ds (persisted_bytes persisted) whole depth w F.deep among).sized in
      length-map begun _ ∙ sym (length-map begun length) ∙ ap length sized ∙ length-map persist _

  begun_within : limit_broken (window_frame (queues_of frames) (frames_in depth ds w) begun) ≡ None
  begun_within =
      let alike = windows_alike (queues_of frames) (frames_in depth frames w) persist (map (λ b. Some b) begun) persisted begun_many (sym (length-map persisted _) ∙ ap length H ∙ length-map persist _) in
      let old = subst (λ xs. limit_broken (window_frame (queues_of frames) xs (persisted_bytes persisted)) ≡ None) (mine frames persist depth F w has_frame counted persisted H) (within frames persist depth F w has_frame counted persisted H) in
      subst (λ bytes. limit_broken (window_frame (queues_of frames) (frames_in depth ds w) bytes) ≡ None) (all_there begun)
      (subst (λ xs. limit_broken (window_frame (queues_of frames) xs (persisted_bytes (map (λ b. Some b) begun))) ≡ None) (sym (mine frames persist depth F w has_frame counted persisted H)) (alike ∙ old))

  pub flight_in_turn : MeansInTurn (families_of frames) depth flown (persisted_bytes persisted) w
  flight_in_turn = declared_in_turn (queues_of frames) (sizes_of frames persist) ds (persisted_bytes persisted) whole depth w F.deep among begun_within
