-- What the events of one node leave of what is to do, where they come one right after another.
use Rattle.std.specs.Prelude.{◌≡◌, ◌≤◌, ℕ, zero, suc, ◌+◌, length, Bool, true, if◌then◌else◌}
use Rattle.base.specs.declared.event.Event.{Event}
use Rattle.base.specs.declared.event.Event.TheVariants.{Begin, End, Sync, Host}
use Rattle.check_order.specs.Edges.{is_sync, is_host}
use Rattle.check_order.specs.declared.kind.Kind.{Kind}
use Rattle.device_model.specs.Devices.{Device, state_of, view_in, did, is_ready, NoneBegun, IsComplete, LoadsApart}
use Rattle.device_model.specs.Histories.{moved}
use Rattle.device_model.specs.Ready.{is_command, kind_at}
use Rattle.device_model.specs.States.{is_begun, is_done}
use Rattle.device_model.specs.declared.phase.Phase.{Phase}

abbrev pub one_if_left : Phase → ℕ
one_if_left phase = if is_done phase then 0 else 1

-- how many of the first nodes are not done
abbrev pub left : (ℕ → Phase) → ℕ → ℕ
left phase zero = 0
left phase (suc n) = one_if_left (phase n) + left phase n

-- how many nodes are not done
abbrev pub to_do : Device → ℕ
to_do d = left (state_of d).phase (length (view_in d).nodes)

-- with no command begun before and after, one node more is done
pub record Round (old new : Device) : Type 0 where
  pub idle : NoneBegun new
  pub less : to_do new + 1 ≡ to_do old

-- a node is ready, and of this kind
pub record MayGo (is : Kind → Bool) (d : Device) (n : ℕ) : Type 0 where
  pub kind : is (kind_at (view_in d) n) ≡ true
  pub ready : is_ready d n ≡ true

pub record IsRound (d : Device) (n : ℕ) : Type 0 where
  pub command : MayGo is_command d n → Round d (did (did d (Begin n)) (End n))
  pub sync : MayGo is_sync d n → Round d (did d (Sync n))
  pub host : MayGo is_host d n → Round d (did d (Host n))

-- a command that begins is begun, and where its program is sound it has loaded what it loads where the commands run one after
-- another
pub record IsJob (d : Device) (n : ℕ) : Type 0 where
  pub begun : is_begun ((state_of (did d (Begin n))).phase n) ≡ true
  pub apart : LoadsApart (did d (Begin n)) n ((state_of (did d (Begin n))).loaded n)

-- cache moves leave all phases
abbrev pub LeavesPhases : Device → Event → Type 0
LeavesPhases d event = (state_of (moved d event)).phase ≡ (state_of d).phase

-- at most all nodes are to do, and where none is, all is done
pub record CountsDown (d : Device) : Type 0 where
  pub most : to_do d ≤ length (view_in d).nodes
  pub none : to_do d ≡ 0 → IsComplete d
