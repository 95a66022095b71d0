-- Channels that are in use are put into a list.
use Rattle.std.specs.Prelude.{◌≡◌, ◌⊎◌, ℕ, ◌+◌, ◌<◌, ◌≤◌, true, List, length}
use Rattle.vk.specs.declared.stages.Stages.{Stages}
use Rattle.check_access_order.specs.Stages.{IsStage}
use Rattle.check_table.specs.Channels.{outs, ins, channel_at, stage_at}
use Rattle.check_table.specs.Joined.{Joined}
use Rattle.check_table.specs.declared.channel.Channel.{Channel}
use Rattle.check_table.specs.declared.channel.Way.{Way}
use Rattle.check_table.specs.declared.channel.Way.TheVariants.{Stage}

-- no two nodes are joined by the channel, and, where it is by a stage alone, no node has anything to do with it
pub record IsUnused (W : Joined) (channel : Channel) : Type 0 where
  pub pairs : (x y : ℕ) → outs W channel x ≡ true → ins W channel y ≡ true → ⊥
  pub outs : channel.way ≡ Stage → (x : ℕ) → outs W channel x ≡ true → ⊥
  pub ins : channel.way ≡ Stage → (y : ℕ) → ins W channel y ≡ true → ⊥

-- channels of one way are put at the end, for those of the first n stages that are in use
pub record WithUsed (W : Joined) (way : Way) (stages : List Stages) (n : ℕ) (old new : List Channel) : Type 0 where
  pub more : length old ≤ length new
  pub fewer : length new ≤ length old + n
  pub kept : (c : ℕ) → c < length old → channel_at new c ≡ channel_at old c
  pub its : (c : ℕ) → length old ≤ c → c < length new → ((channel_at new c).way ≡ way) × IsStage (channel_at new c).stage.0
  pub there : (i : ℕ) → i < n → IsUnused W (record { way = way; stage = stage_at stages i }) ⊎ ((c : ℕ) × (length old ≤ c) × (c < length new) × (channel_at new c ≡ record { way = way; stage = stage_at stages i }))
