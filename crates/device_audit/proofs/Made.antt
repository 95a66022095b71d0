-- What an event of a node leaves begun.
use Rattle.std.proofs.Common.{◌≡◌, ℕ, ◌<◌, ◌==◌, ◌&&◌, List, [], ◌∷◌, ◌++◌, length, slice_index_or, Bool, true, false, Some, if◌then◌else◌, refl, sym, ap, ◌∙◌, subst, ⊎_elim, arith}
use Rattle.std.specs.List.{position, swap_remove}
use Rattle.std.proofs.lemmas.Bool.{and_parts, cases_Bool, false≢true}
use Rattle.device_audit.specs.Internal.Following.{came, goes, held_of, Follows, Holds, Lands, Quiet}
use Rattle.device_audit.proofs.Holding.{ended_less, found_own, found_there, held_more, holds_less, holds_more, idle_less, one_same}
use Rattle.base.specs.declared.event.Event.{Event}
use Rattle.base.specs.declared.event.Event.TheVariants.{Begin, End, Sync, Host}
use Rattle.device_cache.specs.Lines.{Bytes}
use Rattle.device.specs.declared.job.Command.{Command}
use Rattle.check_order.specs.Edges.{is_sync, is_host}
use Rattle.device_model.specs.Devices.{Device, state_of, view_in, did, is_ready, IsComplete}
use Rattle.device_model.specs.Histories.{is_move, moved}
use Rattle.device_model.specs.Ready.{is_command, kind_at}
use Rattle.device_model.specs.Runs.{GoesOnBy}
use Rattle.device_model.specs.States.{is_begun, is_done, opened, put}
use Rattle.device_model.specs.declared.phase.Phase.{Phase}
use Rattle.device_model.specs.declared.phase.Phase.TheVariants.{Idle, Begun, Done}
use Rattle.device_model.proofs.Control.{ready_within, still_begun}

-- it cannot come
pub cannot : (d : Device) (event : Event) (made : Bool) → made ≡ goes d event → made ≡ false → Follows d d event false
cannot d event made is not = record { enabled = sym not ∙ is; effect = refl }

module _ (d e : Device) (n : ℕ) (goes : GoesOnBy d n) where
  quiet_end : view_in e ≡ view_in d → (state_of e).phase ≡ put (state_of d).phase n Done → Quiet d e
  quiet_end same phases = record { same = same; less = λ m b. still_begun (state_of d).phase n m (ap (λ (f : ℕ → Phase). is_begun (f m)) (sym phases) ∙ b) }

  pub quiet_sync : (is_sync (kind_at (view_in d) n) && is_ready d n) ≡ true → e ≡ did d (Sync n) → Quiet d e
  quiet_sync may is =
      let parts = and_parts (is_sync (kind_at (view_in d) n)) (is_ready d n) may in
      quiet_end (ap view_in is) (ap (λ (x : Device). (state_of x).phase) is ∙ ap (λ s. s.phase) (goes.syncs parts.0 parts.1))

  pub quiet_host : (is_host (kind_at (view_in d) n) && is_ready d n) ≡ true → e ≡ did d (Host n) → Quiet d e
  quiet_host may is =
      let parts = and_parts (is_host (kind_at (view_in d) n)) (is_ready d n) may in
      quiet_end (ap view_in is) (ap (λ (x : Device). (state_of x).phase) is ∙ ap (λ s. s.phase) (goes.reads parts.0 parts.1))

  pub lands : is_begun ((state_of d).phase n) ≡ true → e ≡ did d (End n) → Lands d e n
  lands begun is = record {
    same = ap view_in is;
    less = ended_less d e n (ap (λ (x : Device). (state_of x).phase) is ∙ ap (λ s. s.phase) (goes.ends begun));
  }

-- it was not
pub follows_not : (d e : Device) (n : ℕ) → is_begun ((state_of d).phase n) ≡ false → e ≡ d → Follows d e (End n) false
follows_not d e n idle is = record { enabled = sym idle; effect = is }

pub lands_not : (d e : Device) (n : ℕ) → is_begun ((state_of d).phase n) ≡ false → e ≡ d → Lands d e n
lands_not d e n idle is = record { same = ap view_in is; less = λ m b. idle_less d n idle m (ap (λ (x : Device). is_begun ((state_of x).phase m)) (sym is) ∙ b) }

-- WHAT IS HELD

-- a command begins
module _ (d e : Device) (n : ℕ) (goes : GoesOnBy d n) (may : (is_command (kind_at (view_in d) n) && is_ready d n) ≡ true) (is : e ≡ did d (Begin n)) where
  pub follows_begin : Follows d e (Begin n) true
  follows_begin = record { enabled = sym may; effect = is }

  pub begins : (commands more : List Command) (c : Command) → Holds d commands → more ≡ commands ++ c ∷ [] → c.node ≡ n → Holds e more
  begins commands more c holds grown own =
      let parts = and_parts (is_command (kind_at (view_in d) n)) (is_ready d n) may in
      subst (λ (l : List Command). Holds e l) (sym grown)
      (holds_more d e (ap view_in is) commands holds n c (ap (λ (x : Device). (state_of x).phase) is ∙ ap (λ s. s.phase) (goes.begins parts.0 parts.1)) (ready_within (view_in d) (state_of d) n parts.1) own)

-- what is not held is not begun
pub not_held : (d : Device) (commands : List Command) (n : ℕ) → Holds d commands → held_of n commands ≡ 0 → is_begun ((state_of d).phase n) ≡ false
not_held d commands n holds none = ⊎_elim (λ b. absurd (omega (arith, holds.has n b, none))) (λ b. b) (cases_Bool (is_begun ((state_of d).phase n)))

-- it is found, and ends
pub ends : (d e : Device) (commands less : List Command) (n place : ℕ) (c : Command) → Holds d commands → position (λ (x : Command). x.node == n) commands ≡ Some place → c ≡ slice_index_or commands place c → less ≡ swap_remove commands place c → Lands d e c.node → Holds e less
ends d e commands less n place c holds is got shorter lands =
    let own : c.node ≡ n = ap (λ (x : Command). x.node) got ∙ found_own n commands place is c in
    subst (λ (l : List Command). Holds e l) (sym shorter)
    (holds_less d e commands n place c (subst (λ k. Lands d e k) own lands) holds (found_there n commands place is) (found_own n commands place is))

pub found_ends : (d e : Device) (commands : List Command) (n place : ℕ) (c : Command) (made : Bool) → position (λ (x : Command). x.node == n) commands ≡ Some place → c ≡ slice_index_or commands place c → Follows d e (End c.node) made → Follows d e (End n) made
found_ends d e commands n place c made is got follows = subst (λ k. Follows d e (End k) made) (ap (λ (x : Command). x.node) got ∙ found_own n commands place is c) follows

-- WHAT IS LET GO

same_program : (d : Device) (event : Event) (b : Bool) → (if b then came d event else d).program ≡ d.program
same_program d event true = by (is_move event)
  where
    by : (b : Bool) → (if b then moved d event else did d event).program ≡ d.program
    by true = refl
    by false = refl
same_program d event false = refl

pub program_stays : (old d e : Device) (event : Event) (made : Bool) → Follows d e event made → d.program ≡ old.program → e.program ≡ old.program
program_stays old d e event made follows so_far = ap (λ (x : Device). x.program) follows.effect ∙ same_program d event made ∙ so_far

not_begun : (p : Phase) → is_done p ≡ true → is_begun p ≡ false
not_begun Idle done = absurd (false≢true done)
not_begun Begun done = absurd (false≢true done)
not_begun Done done = refl

-- where all is done, what is held is not begun, and so nothing ends
pub still_same : (old e : Device) (n : ℕ) (made : Bool) → n < length (view_in old).nodes → Follows old e (End n) made → IsComplete old → e ≡ old
still_same old e n made there follows all =
    follows.effect ∙ ap (λ (b : Bool). if b then did old (End n) else old) (follows.enabled ∙ not_begun ((state_of old).phase n) (all n there))

pub same_so_far : (old d e : Device) (n : ℕ) (made : Bool) → n < length (view_in old).nodes → Follows d e (End n) made → (IsComplete old → d ≡ old) → IsComplete old → e ≡ old
same_so_far old d e n made there follows so_far all = still_same old e n made there (subst (λ (x : Device). Follows x e (End n) made) (so_far all) follows) all

module _ (all rest : List Command) (c : Command) (is : all ≡ rest ++ c ∷ []) where
  pub last_held : 0 < held_of c.node all
  last_held = omega (arith, ap (held_of c.node) is, held_more c.node rest c, one_same c.node c.node refl)

  pub rest_held : (n : ℕ) → 0 < held_of n rest → 0 < held_of n all
  rest_held n some = omega (arith, ap (held_of n) is, held_more n rest c, some)

-- at the opening nothing is held
pub none_yet : (d : Device) (main : Bytes) → state_of d ≡ opened main → Holds d []
none_yet d main is = record { has = λ n b. absurd (false≢true (ap (λ s. is_begun (s.phase n)) (sym is) ∙ b)); within = λ n some. absurd (omega (arith, some)) }
