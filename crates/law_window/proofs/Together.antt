-- The laws of windows, over frames that can be compiled together.
use Rattle.std.proofs.Common.{◌≡◌, ◌<◌, ◌≤◌, ℕ, List, [], ◌∷◌, length, subst, arith}
use Rattle.std.specs.List.{AllByRecursion}
use Rattle.base.specs.declared.shape.Family.{Family}
use Rattle.frame.specs.Valid.{IsValid}
use Rattle.frame_meaning.specs.Meaning.{all_bytes}
use Rattle.law_window.proofs.Each.{each}
use Rattle.law_window.proofs.GoodWindow.{good_window}
use Rattle.law_window.proofs.Law.{window_bytes}
use Rattle.law_window.proofs.Means.{means_the_same}
use Rattle.law_window.specs.Flown.{Flown}
use Rattle.law_window.specs.Persisted.{flown_bytes}
use Rattle.law_window.specs.Means.{MeansTheSame}
use Rattle.law_window.specs.Small.{IsSmall}
use Rattle.law_window.specs.Together.{Flies, FlyTogether}
use Rattle.law_window.specs.Window.{window}

module _ (queues : List Family) (sizes : List ℕ) where
  some_queue : (frames : List Flown) → 0 < length frames → AllByRecursion (Flies queues sizes) frames → 0 < length queues
  some_queue [] some fly = absurd (omega (arith, some))
  some_queue (flown ∷ frames) some fly = subst (λ q. 0 < length q) fly.0.same fly.0.good.some_queue

  few_queues : (frames : List Flown) → 0 < length frames → AllByRecursion (Flies queues sizes) frames → length queues ≤ 4
  few_queues [] some fly = absurd (omega (arith, some))
  few_queues (flown ∷ frames) some fly = subst (λ q. length q ≤ 4) fly.0.same fly.0.good.few_queues

pub together_bytes : (queues : List Family) (sizes : List ℕ) (frames : List Flown) (persisted : List (List ℕ)) → FlyTogether queues sizes frames persisted → all_bytes (window queues frames persisted) ≡ flown_bytes frames persisted
together_bytes queues sizes frames persisted T = window_bytes queues sizes frames persisted (each (Flies queues sizes) frames T.each) T.sized

pub together_good : (queues : List Family) (sizes : List ℕ) (frames : List Flown) (persisted : List (List ℕ)) → FlyTogether queues sizes frames persisted → IsSmall (window queues frames persisted) → IsValid (window queues frames persisted)
together_good queues sizes frames persisted T small =
    let fly = each (Flies queues sizes) frames T.each in
    good_window queues sizes frames persisted fly T.sized (some_queue queues sizes frames T.some fly) (few_queues queues sizes frames T.some fly) small

pub together_means : (queues : List Family) (sizes : List ℕ) (frames : List Flown) (persisted : List (List ℕ)) → FlyTogether queues sizes frames persisted → IsSmall (window queues frames persisted) → MeansTheSame queues frames persisted
together_means queues sizes frames persisted T small = means_the_same queues sizes frames persisted T.each T.sized (together_good queues sizes frames persisted T small)
