-- The channels in which nodes hold each other back.
use Rattle.std.specs.Prelude.{◌≡◌, ℕ, ◌<◌, ◌^◌, ◌==◌, ◌&&◌, Bool, true, false, List, length, get_or}
use Rattle.vk.specs.Sets.{meets}
use Rattle.vk.specs.declared.stages.Stages.{Stages}
use Rattle.check_order.specs.Edges.{is_sync, is_signal, is_wait, node_at}
use Rattle.check_order.specs.declared.node.Node.{Node}
use Rattle.check_access_order.specs.Stages.{IsStage}
use Rattle.check_table.specs.Joined.{Joined, gives, takes, is_release, is_acquire, holds_back}
use Rattle.check_table.specs.declared.channel.Channel.{Channel}
use Rattle.check_table.specs.declared.channel.Way.{Way}
use Rattle.check_table.specs.declared.channel.Way.TheVariants.{Stage, Release, Acquire, Signal}
use Rattle.check_table.specs.declared.join.Role.{Role}

-- in a channel by these, with a stage, others wait for a node
abbrev pub outs_by : Way → ℕ → Node → Role → Bool
outs_by Stage s node role = is_sync node.kind && (gives role && meets node.dst_stages.0 s)
outs_by Release s node role = is_sync node.kind && (is_release role && meets node.dst_stages.0 s)
outs_by Acquire s node role = is_wait node.kind && (gives role && meets node.dst_stages.0 s)
outs_by Signal s node role = is_signal node.kind

-- and in it a node waits
abbrev pub ins_by : Way → ℕ → Node → Role → Bool
ins_by Stage s node role = is_sync node.kind && (takes role && meets s node.src_stages.0)
ins_by Release s node role = is_signal node.kind && (takes role && meets s node.src_stages.0)
ins_by Acquire s node role = is_sync node.kind && (is_acquire role && meets s node.src_stages.0)
ins_by Signal s node role = is_signal node.kind

abbrev pub outs_of : Channel → Node → Role → Bool
outs_of channel node role = outs_by channel.way channel.stage.0 node role

abbrev pub ins_of : Channel → Node → Role → Bool
ins_of channel node role = ins_by channel.way channel.stage.0 node role

-- others wait for node x in the channel
abbrev pub outs : Joined → Channel → ℕ → Bool
outs W channel x = outs_of channel (node_at W.nodes x) (W.role x)

-- node y waits in the channel
abbrev pub ins : Joined → Channel → ℕ → Bool
ins W channel y = ins_of channel (node_at W.nodes y) (W.role y)

abbrev pub left_way : Way → ℕ → ℕ → Bool
left_way Stage s stage = stage == s
left_way Release s stage = false
left_way Acquire s stage = false
left_way Signal s stage = false

-- others wait in the channel for what a command does in a stage
abbrev pub left_by : Channel → ℕ → Bool
left_by channel stage = left_way channel.way channel.stage.0 stage

abbrev pub channel_at : List Channel → ℕ → Channel
channel_at channels c = get_or channels c (record { way = Stage; stage = record { 0 = 0 } })

abbrev pub stage_at : List Stages → ℕ → Stages
stage_at stages i = get_or stages i (record { 0 = 0 })

-- the scopes of nodes that hold others back are made of these stages
pub record MadeOf (W : Joined) (stages : List Stages) : Type 0 where
  pub one : (i : ℕ) → i < length stages → IsStage (stage_at stages i).0
  pub src : (x bit : ℕ) → is_sync (node_at W.nodes x).kind ≡ true → meets (2 ^ bit) (node_at W.nodes x).src_stages.0 ≡ true → (i : ℕ) × (i < length stages) × ((stage_at stages i).0 ≡ 2 ^ bit)
  pub dst : (x bit : ℕ) → is_sync (node_at W.nodes x).kind ≡ true → meets (node_at W.nodes x).dst_stages.0 (2 ^ bit) ≡ true → (i : ℕ) × (i < length stages) × ((stage_at stages i).0 ≡ 2 ^ bit)

-- what holds back does so in a channel; the first ones are by each stage in use, and then comes that of signals
pub record Covers (W : Joined) (channels : List Channel) (stages : ℕ) : Type 0 where
  pub one : (c : ℕ) → c < length channels → IsStage (channel_at channels c).stage.0
  pub held : (x y : ℕ) → holds_back W x y ≡ true → (c : ℕ) × (c < length channels) × (outs W (channel_at channels c) x ≡ true) × (ins W (channel_at channels c) y ≡ true)
  pub ways : (t : ℕ) → t < stages → (channel_at channels t).way ≡ Stage
  pub left : (x s : ℕ) → IsStage s → is_sync (node_at W.nodes x).kind ≡ true → gives (W.role x) ≡ true → meets (node_at W.nodes x).dst_stages.0 s ≡ true → (t : ℕ) × (t < stages) × ((channel_at channels t).stage.0 ≡ s)
  pub entered : (x s : ℕ) → IsStage s → is_sync (node_at W.nodes x).kind ≡ true → takes (W.role x) ≡ true → meets s (node_at W.nodes x).src_stages.0 ≡ true → (t : ℕ) × (t < stages) × ((channel_at channels t).stage.0 ≡ s)
  pub known : stages < length channels
  pub its : (channel_at channels stages).way ≡ Signal
