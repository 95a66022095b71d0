-- A run on one thread is one.
use Rattle.std.proofs.Common.{◌≡◌, ◌⊎◌, inl, inr, ℕ, ◌<◌, List, [], ◌∷◌, drop, length, Option, refl, sym, ◌∙◌, subst}
use Rattle.std.proofs.lemmas.Bool.{cases_order, false≢true}
use Rattle.base.specs.declared.event.Event.{Event}
use Rattle.check_order.specs.Edges.{node_at}
use Rattle.device_drive.specs.Driven.{node_events, after_events, Drives, Driven}
use Rattle.device_drive.specs.Firsts.{IsFirst, NothingReady}
use Rattle.device_drive.specs.Tended.{tended_moves}
use Rattle.device_model.specs.Devices.{Device, state_of, view_in}
use Rattle.device_model.proofs.Control.{ready_within}

module _ (d : Device) where
  abbrev queue_at : ℕ → ℕ
  queue_at n = (node_at (view_in d).nodes n).queue

  within : (n : ℕ) → IsFirst d n → n < length (view_in d).nodes
  within n first = ready_within (view_in d) (state_of d) n first.next.may

  first_ready : (n : ℕ) → IsFirst d n → NothingReady d → ⊥
  first_ready n first quiet = false≢true (sym (quiet (queue_at n) n (within n first) refl) ∙ first.next.may)

  least_one : (n m : ℕ) → IsFirst d n → IsFirst d m → queue_at n ≡ queue_at m → n ≡ m
  least_one n m a b same = by (cases_order n m)
    where
      by : (n ≡ m) ⊎ ((n < m) ⊎ (m < n)) → n ≡ m
      by (inl e) = e
      by (inr (inl lt)) = absurd (false≢true (sym (b.next.least n lt same) ∙ a.next.may))
      by (inr (inr gt)) = absurd (false≢true (sym (a.next.least m gt (sym same)) ∙ b.next.may))

  one_first : (n m : ℕ) → IsFirst d n → IsFirst d m → n ≡ m
  one_first n m a b = by (cases_order (queue_at n) (queue_at m))
    where
      by : (queue_at n ≡ queue_at m) ⊎ ((queue_at n < queue_at m) ⊎ (queue_at m < queue_at n)) → n ≡ m
      by (inl e) = least_one n m a b e
      by (inr (inl lt)) = absurd (false≢true (sym (b.first (queue_at n) lt n (within n a) refl) ∙ a.next.may))
      by (inr (inr gt)) = absurd (false≢true (sym (a.first (queue_at m) gt m (within m b) refl) ∙ b.next.may))

one_run : (ms ns : List ℕ) (d : Device) (moves : List Event) (x y : Device) → Drives ms d moves x → Drives ns d moves y → x ≡ y
one_run [] [] d moves x y s t = s.1 ∙ sym t.1
one_run [] (n ∷ ns) d moves x y s t = absurd (first_ready d n t.0 s.0)
one_run (m ∷ ms) [] d moves x y s t = absurd (first_ready d m s.0 t.0)
one_run (m ∷ ms) (n ∷ ns) d moves x y s t =
    one_run ms ns (after_events (node_events d n) d moves) (drop (length (node_events d n)) moves) x y
    (subst (λ k. Drives ms (after_events (node_events d k) d moves) (drop (length (node_events d k)) moves) x) (one_first d m n s.0 t.0) s.1)
    t.1

pub one_driven : (old x y : Device) (tend : Option ℕ) → Driven old x tend → Driven old y tend → x ≡ y
one_driven old x y tend s t = one_run s.0 t.0 old (tended_moves old.program tend old.moves) x y s.1 t.1
