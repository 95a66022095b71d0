-- What cache moves leave as it is, and rounds of nodes with moves between their events.
use Rattle.std.proofs.Common.{◌≡◌, ℕ, ◌+◌, Bool, true, length, refl, sym, ap, ◌∙◌}
use Rattle.base.specs.declared.event.Event.TheVariants.{Begin, End, Sync, Host}
use Rattle.device_drive.specs.Internal.Keepers.{Calm}
use Rattle.check_order.specs.Edges.{is_sync, is_host}
use Rattle.check_order.specs.declared.kind.Kind.{Kind}
use Rattle.device_model.specs.Devices.{Device, state_of, view_in, fresh, did, is_ready, NoneBegun}
use Rattle.device_model.specs.Ready.{is_command, kind_at, may_go}
use Rattle.device_model.specs.Rounds.{left, to_do, Round, MayGo}
use Rattle.device_model.specs.States.{is_begun, put}
use Rattle.device_model.specs.declared.phase.Phase.TheVariants.{Begun, Done}
use Rattle.device_model.proofs.Control.{put_at}
use Rattle.device_model.proofs.Rounds.{is_round}
use Rattle.device_model.proofs.Running.{goes_on_by, opens}
use Rattle.program.specs.declared.program.Program.{Program}
use Rattle.check_access.specs.Views.{view_of}

pub calm : (d : Device) → Calm d d
calm d = record { program = refl; phase = refl; counter = refl }

pub calm_on : (a b c : Device) → Calm a b → Calm b c → Calm a c
calm_on a b c first second = record {
  program = second.program ∙ first.program;
  phase = second.phase ∙ first.phase;
  counter = second.counter ∙ first.counter;
}

module _ (a b : Device) (same : Calm a b) where
  same_kind : (n : ℕ) → kind_at (view_in b) n ≡ kind_at (view_in a) n
  same_kind n = ap (λ program. kind_at (view_of program) n) same.program

  same_ready : (n : ℕ) → is_ready b n ≡ is_ready a n
  same_ready n =
      ap (λ program. may_go (view_of program) (state_of b).phase (state_of b).counter n) same.program
      ∙ ap (λ phase. may_go (view_in a) phase (state_of b).counter n) same.phase
      ∙ ap (λ counter. may_go (view_in a) (state_of a).phase counter n) same.counter

  same_to_do : to_do b ≡ to_do a
  same_to_do = ap (λ program. left (state_of b).phase (length (view_of program).nodes)) same.program ∙ ap (λ phase. left phase (length (view_in a).nodes)) same.phase

  pub still_may : (is : Kind → Bool) (n : ℕ) → MayGo is a n → MayGo is b n
  still_may is n may = record { kind = ap is (same_kind n) ∙ may.kind; ready = same_ready n ∙ may.ready }

  pub still_none : NoneBegun a → NoneBegun b
  still_none idle n = ap (λ phase. is_begun (phase n)) same.phase ∙ idle n

  pub still_begun : (n : ℕ) → is_begun ((state_of a).phase n) ≡ true → is_begun ((state_of b).phase n) ≡ true
  still_begun n begun = ap (λ phase. is_begun (phase n)) same.phase ∙ begun

  -- an End leaves the same of both
  ends_alike : (n : ℕ) → is_begun ((state_of a).phase n) ≡ true → Calm (did a (End n)) (did b (End n))
  ends_alike n begun =
      let one = (goes_on_by a n).ends begun in
      let other = (goes_on_by b n).ends (still_begun n begun) in
      record {
        program = same.program;
        phase = ap (λ s. s.phase) other ∙ ap (λ phase. put phase n Done) same.phase ∙ sym (ap (λ s. s.phase) one);
        counter = ap (λ s. s.counter) other ∙ same.counter ∙ sym (ap (λ s. s.counter) one);
      }

-- A ROUND, WITH MOVES BEFORE EACH OF ITS EVENTS

around : (a b c d : Device) → Calm a b → Round b c → Calm c d → Round a d
around a b c d before round after = record {
  idle = still_none c d after round.idle;
  less = ap (λ count. count + 1) (same_to_do c d after) ∙ round.less ∙ same_to_do a b before;
}

module _ (a b : Device) (n : ℕ) (idle : NoneBegun a) (before : Calm a b) where
  pub begins : MayGo is_command a n → is_begun ((state_of (did b (Begin n))).phase n) ≡ true
  begins may =
      let goes = still_may a b before is_command n may in
      ap (λ s. is_begun (s.phase n)) ((goes_on_by b n).begins goes.kind goes.ready) ∙ ap is_begun (put_at (state_of b).phase n n Begun refl)

  pub round_command : (d : Device) → MayGo is_command a n → Calm (did b (Begin n)) d → Round a (did d (End n))
  round_command d may between =
      around a b (did (did b (Begin n)) (End n)) (did d (End n)) before
      ((is_round b n (still_none a b before idle)).command (still_may a b before is_command n may))
      (ends_alike (did b (Begin n)) d between n (begins may))

  pub round_sync : MayGo is_sync a n → Round a (did b (Sync n))
  round_sync may = around a b (did b (Sync n)) (did b (Sync n)) before ((is_round b n (still_none a b before idle)).sync (still_may a b before is_sync n may)) (calm (did b (Sync n)))

  pub round_host : MayGo is_host a n → Round a (did b (Host n))
  round_host may = around a b (did b (Host n)) (did b (Host n)) before ((is_round b n (still_none a b before idle)).host (still_may a b before is_host n may)) (calm (did b (Host n)))

-- AT THE BEGINNING

pub fresh_idle : (program : Program) (fill moves : ℕ) → NoneBegun (fresh program fill moves)
fresh_idle program fill moves n = ap (λ s. is_begun (s.phase n)) (opens program fill moves)
