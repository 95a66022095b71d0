-- Declared frames that can be compiled together.
use Rattle.std.specs.Prelude.{◌≡◌, ◌<◌, ℕ, zero, suc, List, [], ◌∷◌, map, length, true, Option, Some, None, IfSome, is_some}
use Rattle.std.specs.List.{All}
use Rattle.base.specs.Shapes.{bytes_of}
use Rattle.frame.specs.FirstFault.{first_fault}
use Rattle.frame.specs.declared.frame.QueueDecl.{QueueDecl}
use Rattle.frame.specs.declared.frame.Resource.{Resource}
use Rattle.law_window.specs.Declared.{Declared, holder_in}
use Rattle.law_window.specs.Together.{Absent}

-- resource k is an import of this size
abbrev pub IsImport : List Resource → ℕ → ℕ → Type 0
IsImport [] k size = ⊥
IsImport (r ∷ rs) zero size = (is_some r.import ≡ true) × (bytes_of r.shape ≡ size)
IsImport (r ∷ rs) (suc k) size = IsImport rs k size

-- different imports have the persisting names, each of the size that belongs to its name
abbrev pub ArePersistedIn : List Resource → List ℕ → List (Option ℕ) → Type 0
ArePersistedIn rs [] [] = Unit {0}
ArePersistedIn rs [] (holder ∷ holders) = ⊥
ArePersistedIn rs (size ∷ sizes) [] = ⊥
ArePersistedIn rs (size ∷ sizes) (None ∷ holders) = ArePersistedIn rs sizes holders
ArePersistedIn rs (size ∷ sizes) (Some k ∷ holders) = IsImport rs k size × Absent k holders × ArePersistedIn rs sizes holders

-- each resource that has one of these names is an import of the size that belongs to the name
abbrev pub AreImports : List Resource → List ℕ → List (List ℕ) → Type 0
AreImports rs [] [] = Unit {0}
AreImports rs [] (name ∷ names) = ⊥
AreImports rs (size ∷ sizes) [] = ⊥
AreImports rs (size ∷ sizes) (name ∷ names) = IfSome (holder_in rs name) (λ k. IsImport rs k size) × AreImports rs sizes names

-- a frame without a fault, over these queues, whose persisting names have imports of these sizes
pub record FliesDeclared (queues : List QueueDecl) (sizes : List ℕ) (d : Declared) : Type 0 where
  pub none : first_fault d.frame ≡ None
  pub same : d.frame.queues ≡ queues
  pub persisted : ArePersistedIn d.frame.resources sizes d.holders

-- at least one frame, and for each persisting name persisted bytes of its size
pub record FlyDeclared (queues : List QueueDecl) (sizes : List ℕ) (ds : List Declared) (persisted : List (List ℕ)) : Type 0 where
  pub some : 0 < length ds
  pub each : All (FliesDeclared queues sizes) ds
  pub sized : map length persisted ≡ sizes
