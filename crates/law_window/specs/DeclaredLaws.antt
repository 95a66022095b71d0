-- What the laws of declared windows say of queues, frames and the bytes that are persisted before them.
use Rattle.std.specs.Prelude.{◌≡◌, ◌<◌, ◌*◌, ℕ, List, None, length, map}
use Rattle.frame.specs.Limits.{limit_broken}
use Rattle.frame.specs.declared.frame.QueueDecl.{QueueDecl}
use Rattle.law_window.specs.Declared.{Declared, flown_of}
use Rattle.law_window.specs.NamedTogether.{FlyDeclared}
use Rattle.law_window.specs.WindowFrame.{window_frame}
use Rattle.law_window.specs.InTurn.{MeansInTurn, frames_in, persisted_before}

-- so it is of all declared frames that can be compiled together
abbrev pub OfDeclared : (List QueueDecl → List ℕ → List Declared → List (List ℕ) → Type 0) → Type 0
OfDeclared Law =
    (queues : List QueueDecl) (sizes : List ℕ) (ds : List Declared) (persisted : List (List ℕ)) → FlyDeclared queues sizes ds persisted
    → Law queues sizes ds persisted

-- the frames of each window of one depth can be compiled together
abbrev pub EachDeclared : List QueueDecl → List ℕ → List Declared → List (List ℕ) → Type 0
EachDeclared queues sizes ds persisted =
    (depth w : ℕ) → 0 < depth → w * depth < length ds
    → FlyDeclared queues sizes (frames_in depth ds w) (persisted_before depth (map flown_of ds) persisted w)

-- and each such window that breaks no limit means what its frames mean one after another
abbrev pub EachDeclaredInTurn : List QueueDecl → List ℕ → List Declared → List (List ℕ) → Type 0
EachDeclaredInTurn queues sizes ds persisted =
    (depth w : ℕ) → 0 < depth → w * depth < length ds
    → limit_broken (window_frame queues (frames_in depth ds w) (persisted_before depth (map flown_of ds) persisted w)) ≡ None
    → MeansInTurn (map (λ q. q.family) queues) depth (map flown_of ds) persisted w
