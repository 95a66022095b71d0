-- The declared windows of one depth, one after another.
use Rattle.std.proofs.Common.{◌≡◌, ℕ, ◌-◌, ◌*◌, ◌<◌, List, length, map, take, drop, min, None, sym, ap, subst, ◌∙◌, arith}
use Rattle.std.proofs.lemmas.List.{drop-map, length-drop, length-map, length-take, take-map}
use Rattle.std.proofs.lemmas.List.Elements.{All-drop, All-take}
use Rattle.base.specs.declared.shape.Family.{Family}
use Rattle.frame.specs.Limits.{limit_broken}
use Rattle.frame.specs.declared.frame.QueueDecl.{QueueDecl}
use Rattle.law_window.proofs.Faultless.{declared_together, is_small}
use Rattle.law_window.specs.Declared.{Declared, flown_of}
use Rattle.law_window.specs.NamedTogether.{FliesDeclared, FlyDeclared}
use Rattle.law_window.specs.WindowFrame.{window_frame}
use Rattle.law_window.proofs.InTurn.{each_together, means_in_turn}
use Rattle.law_window.specs.Flown.{Flown}
use Rattle.law_window.specs.InTurn.{MeansInTurn, frames_in, persisted_before}
use Rattle.law_window.specs.Small.{IsSmall}
use Rattle.law_window.specs.Window.{window}

module _ (queues : List QueueDecl) (sizes : List ℕ) (ds : List Declared) (persisted : List (List ℕ)) (F : FlyDeclared queues sizes ds persisted) (depth w : ℕ) (deep : 0 < depth) (there : w * depth < length ds) where
  abbrev families : List Family
  families = map (λ q. q.family) queues

  abbrev flown : List Flown
  flown = map flown_of ds

  abbrev begun : List (List ℕ)
  begun = persisted_before depth flown persisted w

  among : w * depth < length flown
  among = subst (λ n. w * depth < n) (sym (length-map ds flown_of)) there

  same_frames : map flown_of (frames_in depth ds w) ≡ frames_in depth flown w
  same_frames = sym (ap (take depth) (drop-map flown_of (w * depth) ds) ∙ take-map flown_of depth (drop (w * depth) ds))

  pub each_declared : FlyDeclared queues sizes (frames_in depth ds w) begun
  each_declared = record {
    some =
        let taken : length (take depth (drop (w * depth) ds)) ≡ min depth (length (drop (w * depth) ds)) = length-take depth (drop (w * depth) ds) in
        let dropped : length (drop (w * depth) ds) ≡ length ds - w * depth = length-drop (w * depth) ds in
        omega (arith, taken, dropped, deep, there);
    each = All-take (FliesDeclared queues sizes) depth (drop (w * depth) ds) (All-drop (FliesDeclared queues sizes) (w * depth) ds F.each);
    sized = (each_together families sizes flown persisted (declared_together queues sizes ds persisted F) depth w deep among).sized;
  }

  pub declared_in_turn : limit_broken (window_frame queues (frames_in depth ds w) begun) ≡ None → MeansInTurn families depth flown persisted w
  declared_in_turn within =
      let small = is_small queues sizes (frames_in depth ds w) begun each_declared within in
      means_in_turn families sizes flown persisted (declared_together queues sizes ds persisted F) depth w deep among (subst (λ frames. IsSmall (window families frames begun)) same_frames small)
