-- What the nodes of a queue wait for, known beforehand.
use Rattle.std.specs.Prelude.{◌≡◌, ◌==◌, ℕ, ◌<◌, ◌≤◌, List, length, get_or, true, false}
use Rattle.vk.specs.Sets.{meets}
use Rattle.device_nodes.specs.Controls.{Control, is_ready}
use Rattle.device_nodes.specs.declared.needs.Need.{Need}
use Rattle.device_nodes.specs.declared.needs.Needs.{Needs}
use Rattle.check_order.specs.Edges.{node_at}
use Rattle.check_access.specs.Views.{View, queue_at}

-- the stages at which node m waits for earlier ones
abbrev pub waits_at : View → ℕ → ℕ
waits_at V m = (node_at V.nodes m).src_stages.0

abbrev pub no_need : Need
no_need = record { queue = 0; stages = record { 0 = 0 } }

-- a queue's need of these stages is listed
abbrev pub IsListed : List Need → ℕ → ℕ → Type 0
IsListed list q stages = (i : ℕ) × (i < length list) × ((get_or list i no_need).queue ≡ q) × ((get_or list i no_need).stages.0 ≡ stages)

-- these stages block each node of queue q below n that waits at some stage
abbrev pub BlockAll : View → ℕ → ℕ → ℕ → Type 0
BlockAll V q n blocked = (m : ℕ) → m < n → queue_at V m ≡ q → (waits_at V m == 0) ≡ false → meets blocked (waits_at V m) ≡ true

-- what each node below n waits for is listed
abbrev pub NeedsBelow : View → ℕ → List Need → Type 0
NeedsBelow V n list = (m : ℕ) → m < n → IsListed list (queue_at V m) (waits_at V m)

-- each node below n that waits at no stage is listed
abbrev pub LooseBelow : View → ℕ → List ℕ → Type 0
LooseBelow V n loose = (m : ℕ) → m < n → (waits_at V m == 0) ≡ true → (i : ℕ) × (i < length loose) × (get_or loose i 0 ≡ m)

abbrev pub AreNodes : View → List ℕ → Type 0
AreNodes V list = (i : ℕ) → i < length list → get_or list i 0 < length V.nodes

pub record Needed (V : View) (needs : Needs) : Type 0 where
  pub list : NeedsBelow V (length V.nodes) needs.list
  pub loose : LooseBelow V (length V.nodes) needs.loose
  pub nodes : AreNodes V needs.loose

-- no node of the queue that waits at no stage is ready
abbrev pub NoLooseReady : Control → ℕ → Type 0
NoLooseReady c queue = (m : ℕ) → m < length c.view.nodes → queue_at c.view m ≡ queue → (waits_at c.view m == 0) ≡ true → is_ready c m ≡ false

-- no node of the queue from n on is ready
abbrev pub NoneReadyFrom : Control → ℕ → ℕ → Type 0
NoneReadyFrom c queue n = (m : ℕ) → n ≤ m → m < length c.view.nodes → queue_at c.view m ≡ queue → is_ready c m ≡ false
