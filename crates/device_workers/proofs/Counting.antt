-- What a hold leaves of what is known of the device of a run.
use Rattle.std.proofs.Common.{◌≡◌, ◌<◌, ◌≤◌, ◌+◌, ℕ, zero, suc, Bool, true, false, List, [], ◌∷◌, ◌++◌, length, take, drop, if◌then◌else◌, refl, sym, ap, ◌∙◌, subst, ⊎_elim, arith}
use Rattle.std.proofs.lemmas.Bool.{cases_eq, and_parts, ltb-true}
use Rattle.std.proofs.lemmas.List.{append-nil, length-append}
use Rattle.std.proofs.lemmas.List.Elements.{filter-append}
use Rattle.std.specs.Prelude.{nat_lt}
use Rattle.base.specs.declared.cache_move.CacheMove.{CacheMove}
use Rattle.base.specs.declared.event.Event.{Event}
use Rattle.base.specs.declared.event.Event.TheVariants.{Begin, End, Sync, Move, Host}
use Rattle.device.specs.Landings.{MatchLanded}
use Rattle.device.specs.declared.job.Landed.{Landed}
use Rattle.device.specs.declared.job.Landed.TheVariants.{Done, NotBegun}
use Rattle.device_model.proofs.Control.{idle_not_done, put_at, put_other}
use Rattle.device_model.proofs.Rounds.{leaves_phases}
use Rattle.device_model.proofs.Running.{goes_on_by}
use Rattle.device_model.specs.Devices.{Device, state_of, view_in, did, is_ready, IsComplete}
use Rattle.device_model.specs.Histories.{is_move, moves_in, moved}
use Rattle.device_model.specs.States.{is_idle, is_begun, is_done, put}
use Rattle.device_model.specs.declared.phase.Phase.{Phase}
use Rattle.device_model.specs.declared.phase.Phase.TheVariants as phase
use Rattle.device_workers.proofs.Stepping.{ready}
use Rattle.device_workers.specs.Parts.{events_of, ends_of, events_of_end}
use Rattle.device_workers.specs.WorkerSteps.{WorkerSteps}
use Rattle.device_workers.specs.declared.step.WorkerStep.{WorkerStep}
use Rattle.device_workers.specs.declared.step.WorkerStep.TheVariants.{Compute, Stepped, Complete, Wait}

-- so many events of nodes have come
pub record Counted (more : ℕ) (old new : Device) : Type 0 where
  pub program : new.program ≡ old.program
  pub fill : new.fill ≡ old.fill
  pub count : length new.history ≡ length old.history + more
  pub moved : moves_in new.history ≡ moves_in old.history
  pub moves : new.moves ≡ old.moves
  pub complete : IsComplete old → IsComplete new

one_more : (events : List Event) (event : Event) → length (events ++ event ∷ []) ≡ length events + 1
one_more events event = length-append events (event ∷ [])

same_moves : (events : List Event) (event : Event) → is_move event ≡ false → moves_in (events ++ event ∷ []) ≡ moves_in events
same_moves events event other =
    filter-append is_move events (event ∷ [])
    ∙ ap (λ (b : Bool). moves_in events ++ (if b then event ∷ [] else [])) other
    ∙ append-nil (moves_in events)

pub one_move : (events : List Event) (event : Event) → is_move event ≡ true → moves_in (events ++ event ∷ []) ≡ moves_in events ++ event ∷ []
one_move events event same =
    filter-append is_move events (event ∷ []) ∙ ap (λ (b : Bool). moves_in events ++ (if b then event ∷ [] else [])) same

still : (d : Device) → Counted 0 d d
still d = record {
  program = refl;
  fill = refl;
  count = omega arith;
  moved = refl;
  moves = refl;
  complete = λ done. done;
}

event_of_node : (d : Device) (event : Event) → is_move event ≡ false → (IsComplete d → IsComplete (did d event)) → Counted 1 d (did d event)
event_of_node d event other complete = record {
  program = refl;
  fill = refl;
  count = one_more d.history event;
  moved = same_moves d.history event other;
  moves = refl;
  complete = complete;
}

-- where all nodes are done none is ready
none_ready : (d : Device) (n : ℕ) → IsComplete d → is_ready d n ≡ true → ⊥
none_ready d n done may =
    let parts = and_parts (nat_lt n (length (view_in d).nodes)) _ may in
    let idle = and_parts (is_idle ((state_of d).phase n)) _ parts.1 in
    idle_not_done ((state_of d).phase n) idle.0 (done n (ltb-true n (length (view_in d).nodes) parts.0))

-- a hold of a worker
pub step_counts : (old new : Device) (own : ℕ) (step : WorkerStep) → WorkerSteps old new own step → Counted (events_of step) old new
step_counts old new own (Compute job) is =
    let n = job.node in
    subst (λ d. Counted 1 old d) (sym is.1.event) (event_of_node old (Begin n) refl (λ done. absurd (none_ready old n done (ready old own n is.0))))
step_counts old new own Stepped is =
    let n = is.0 in
    let never : IsComplete old → ⊥ = λ done. none_ready old n done (ready old own n is.1.0) in
    ⊎_elim
    (λ sync. subst (λ d. Counted 1 old d) (sym sync.1) (event_of_node old (Sync n) refl (λ done. absurd (never done))))
    (λ host. subst (λ d. Counted 1 old d) (sym host.1) (event_of_node old (Host n) refl (λ done. absurd (never done))))
    is.1.1
step_counts old new own Complete is = subst (λ d. Counted 0 old d) (sym is.0) (still old)
step_counts old new own Wait is = subst (λ d. Counted 0 old d) (sym is.same) (still old)

-- what a hold finds
pub step_finds : (old new : Device) (own : ℕ) (step : WorkerStep) → WorkerSteps old new own step → 0 < ends_of step → IsComplete new
step_finds old new own (Compute job) is some = absurd (omega (arith, some))
step_finds old new own Stepped is some = absurd (omega (arith, some))
step_finds old new own Complete is some = subst IsComplete (sym is.0) is.1
step_finds old new own Wait is some = absurd (omega (arith, some))

-- once a worker has found it, it stays so
pub complete_after : (old new : Device) (own : ℕ) (step : WorkerStep) → WorkerSteps old new own step → (before after : ℕ) → after ≡ before + ends_of step → (0 < before → IsComplete old) → 0 < after → IsComplete new
complete_after old new own step is zero after more known some = step_finds old new own step is (omega (arith, more, some))
complete_after old new own step is (suc before) after more known some = (step_counts old new own step is).complete (known (omega arith))

put_done : (f : ℕ → Phase) (n m : ℕ) → is_done (f m) ≡ true → is_done (put f n phase.Done m) ≡ true
put_done f n m done = ⊎_elim (λ same. ap is_done (put_at f n m phase.Done same)) (λ other. ap is_done (put_other f n m phase.Done other) ∙ done) (cases_eq m n)

end_complete : (d : Device) (n : ℕ) → is_begun ((state_of d).phase n) ≡ true → IsComplete d → IsComplete (did d (End n))
end_complete d n begun done m lt = ap (λ s. is_done (s.phase m)) ((goes_on_by d n).ends begun) ∙ put_done (state_of d).phase n m (done m lt)

-- a hold in which a command ends
pub end_counts : (old new : Device) (n : ℕ) (landed : Landed)
    → MatchLanded landed (is_begun ((state_of old).phase n) ≡ true) (is_begun ((state_of old).phase n) ≡ false)
    → MatchLanded landed (new ≡ did old (End n)) (new ≡ old)
    → Counted (events_of_end landed) old new
end_counts old new n Done begun is = subst (λ d. Counted 1 old d) (sym is) (event_of_node old (End n) refl (end_complete old n begun))
end_counts old new n NotBegun begun is = subst (λ d. Counted 0 old d) (sym is) (still old)

-- a cache move
pub move_complete : (d : Device) (m : CacheMove) → IsComplete d → IsComplete (moved d (Move m))
move_complete d m done n lt = ap (λ f. is_done (f n)) (leaves_phases d (Move m) refl) ∙ done n lt

-- WHICH MOVE COMES NEXT

module _ {X : Type 0} where
  no_item : (x : X) (xs : List X) → [] ≡ x ∷ xs → ⊥
  no_item x xs e = cc

  abbrev first : X → List X → X
  first d [] = d
  first d (x ∷ xs) = x

  abbrev pub tail : List X → List X
  tail [] = []
  tail (x ∷ xs) = xs

  pub within : (k : ℕ) (xs : List X) (x : X) (rest : List X) → drop k xs ≡ x ∷ rest → k < length xs
  within zero [] x rest is = absurd (no_item x rest is)
  within (suc k) [] x rest is = absurd (no_item x rest is)
  within zero (y ∷ ys) x rest is = omega arith
  within (suc k) (y ∷ ys) x rest is = omega (arith, within k ys x rest is)

  pub take_next : (k : ℕ) (xs : List X) (x : X) (rest : List X) → drop k xs ≡ x ∷ rest → take (suc k) xs ≡ take k xs ++ x ∷ []
  take_next zero [] x rest is = absurd (no_item x rest is)
  take_next zero (y ∷ ys) x rest is = ap (λ z. z ∷ []) (ap (first x) is)
  take_next (suc k) [] x rest is = absurd (no_item x rest is)
  take_next (suc k) (y ∷ ys) x rest is = ap (λ zs. y ∷ zs) (take_next k ys x rest is)

  pub drop_next : (k : ℕ) (xs : List X) (x : X) (rest : List X) → drop k xs ≡ x ∷ rest → drop (suc k) xs ≡ rest
  drop_next zero [] x rest is = absurd (no_item x rest is)
  drop_next zero (y ∷ ys) x rest is = ap tail is
  drop_next (suc k) [] x rest is = absurd (no_item x rest is)
  drop_next (suc k) (y ∷ ys) x rest is = drop_next k ys x rest is

  pub still_owed : (k next : ℕ) (xs : List X) (x : X) (rest : List X) → drop k xs ≡ x ∷ rest → next ≡ suc k → drop k xs ≡ x ∷ drop next xs
  still_owed k next xs x rest is more = is ∙ ap (λ zs. x ∷ zs) (sym (drop_next k xs x rest is) ∙ ap (λ (n : ℕ). drop n xs) (sym more))

  pub take_all : (k : ℕ) (xs : List X) → drop k xs ≡ [] → take k xs ≡ xs
  take_all zero [] none = refl
  take_all zero (y ∷ ys) none = sym none
  take_all (suc k) [] none = refl
  take_all (suc k) (y ∷ ys) none = ap (λ zs. y ∷ zs) (take_all k ys none)

-- A CACHE MOVE OF A TENDER

-- the next of these moves has come, after so many
pub record MovedOn (all : List Event) (total : ℕ) (old new : Device) : Type 0 where
  pub program : new.program ≡ old.program
  pub fill : new.fill ≡ old.fill
  pub count : length new.history ≡ length old.history + 1
  pub moved : moves_in new.history ≡ take (suc total) all
  pub left : length all ≤ new.moves + suc total
  pub complete : IsComplete old → IsComplete new

pub move_counts : (all : List Event) (total : ℕ) (rest : List Event) (m : CacheMove) (old new : Device) → drop total all ≡ Move m ∷ rest → moves_in old.history ≡ take total all → length all ≤ old.moves + total → 0 < old.moves → new ≡ moved old (Move m) → MovedOn all total old new
move_counts all total rest m old new next so_far left some is = subst (λ d. MovedOn all total old d) (sym is) (record {
  program = refl;
  fill = refl;
  count = one_more old.history (Move m);
  moved = one_move old.history (Move m) refl ∙ ap (λ events. events ++ Move m ∷ []) so_far ∙ sym (take_next total all (Move m) rest next);
  left = omega (arith, left, some);
  complete = move_complete old m;
})
