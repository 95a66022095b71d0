-- Frames that fly in windows of one depth, with bytes that persist under names.
use Rattle.std.specs.Prelude.{◌≡◌, ℕ, List, [], ◌∷◌, ◌+◌, ◌-◌, ◌/◌, map, length, Option, unwrap_or}
use Rattle.std.specs.Option.{option_map}
use Rattle.base.specs.Walks.{first_in}
use Rattle.base.specs.declared.shape.Family.{Family}
use Rattle.frame.specs.declared.frame.Frame.{Frame}
use Rattle.frame.specs.declared.frame.QueueDecl.{QueueDecl}
use Rattle.law_window.specs.Declared.{Declared, declared_in, holder_in}
use Rattle.law_window.specs.NamedJoins.{size_of}
use Rattle.law_window.specs.WindowFrame.{window_frame}
use Rattle.law_window.specs.InTurn.{frames_in}

-- the queues of all frames are those of the first one
abbrev pub queues_of : List Frame → List QueueDecl
queues_of [] = []
queues_of (frame ∷ frames) = frame.queues

abbrev pub families_of : List Frame → List Family
families_of frames = map (λ q. q.family) (queues_of frames)

abbrev pub all_declared : List Frame → List (List ℕ) → List Declared
all_declared frames persist = map (declared_in persist) frames

-- HELD BYTES

abbrev pub size_at : List ℕ → ℕ → Frame → Option ℕ
size_at name i frame = option_map (size_of frame.resources) (holder_in frame.resources name)

-- the size of a persisting name: that in the first frame that has it, if one has
abbrev pub size_in : List Frame → List ℕ → Option ℕ
size_in frames name = first_in (size_at name) 0 frames

abbrev pub sizes_of : List Frame → List (List ℕ) → List ℕ
sizes_of frames persist = map (λ name. unwrap_or (size_in frames name) 0) persist

-- no bytes are persisted under a name that no frame has
abbrev pub persisted_bytes : List (Option (List ℕ)) → List (List ℕ)
persisted_bytes persisted = map (λ bytes. unwrap_or bytes []) persisted

-- WINDOWS

abbrev pub window_count : ℕ → List Frame → ℕ
window_count depth frames = (length frames + (depth - 1)) / depth

-- window w, where these bytes are persisted before it
abbrev pub window_at : List Frame → List (List ℕ) → ℕ → List (Option (List ℕ)) → ℕ → Frame
window_at frames persist depth persisted w = window_frame (queues_of frames) (frames_in depth (all_declared frames persist) w) (persisted_bytes persisted)

-- what is persisted before a window: for each persisting name bytes of its size, and none where no frame has it
abbrev pub ArePersisted : List Frame → List (List ℕ) → List (Option (List ℕ)) → Type 0
ArePersisted frames persist persisted = map (option_map length) persisted ≡ map (size_in frames) persist
