-- The law of runs by single accesses.
use Rattle.std.specs.Prelude.{◌≡◌, ◌⊎◌, ℕ, ◌<◌, List, Bool, true}
use Rattle.law_runs.specs.Apart.{Order, after_node, apart, bytes_before}
use Rattle.law_runs.specs.Formed.{Formed}
use Rattle.law_runs.specs.Found.{StateValid, Initialized}
use Rattle.device_cache.specs.Lines.{Lines, Bytes}
use Rattle.law_runs.specs.Orders.{Synchronized}
use Rattle.law_runs.specs.Runs.{reads, Stores, Run}
use Rattle.law_runs.specs.States.{State, Owner, opened, bytes_in, MayLoad, MayStore, MaySync}
use Rattle.law_runs.specs.Systems.{Access, System, At, Has, is_load, is_store}

-- clashing accesses are in order and changes passed on, each access finds its layout and owner, each load is initialized, and the nodes
-- have an order
pub record Sound (S : System) : Type 0 where
  pub synchronized : Synchronized S
  pub state_valid : StateValid S
  pub initialized : Initialized S
  pub order : List ℕ
  pub ordered : Order S order

-- each load that was taken is what it loads where all commands run one after another; so is each store, with which n goes on;
-- and what the host read and the outside found is there at the end, and stays in main
pub record Simulated (S : System) (main : Bytes) (order : List ℕ) (s : State) : Type 0 where
  pub loaded : (n k : ℕ) (a : Access) → At S n k a → is_load a.doing ≡ true → s.taken n k ≡ true → s.loaded n k ≡ bytes_before S main order n a.piece
  pub stored : (n : ℕ) (bytes : ℕ → List ℕ) (line : Lines) (marked : ℕ → ℕ → Bool) (owner : ℕ → Owner) → Stores S s n bytes line marked owner → (k : ℕ) (c : Access) → At S n k c → is_store c.doing ≡ true → bytes k ≡ after_node S (bytes_before S main order n) n c.piece
  pub read : (n : ℕ) (a : Access) → Has S n a → reads a.doing ≡ true → s.done n ≡ true → s.host n ≡ apart S main order a.piece
  pub stays : (n : ℕ) (a : Access) → Has S n a → reads a.doing ≡ true → s.done n ≡ true → bytes_in S s.main a.piece ≡ apart S main order a.piece

-- of a sound program, in every order, after any events with any junk
abbrev pub Simulates : Type 0
Simulates = (S : System) → Formed S → Sound S → (order : List ℕ) → Order S order → (main : Bytes) (s : State) → Run S (opened S main) s → Simulated S main order s

abbrev pub AllDone : System → State → Type 0
AllDone S s = (n : ℕ) → n < S.count → s.done n ≡ true

-- a load, the stores of a command, or a synchronizing node may go on
abbrev pub GoesOn : System → State → Type 0
GoesOn S s = ((n : ℕ) × (k : ℕ) × (a : Access) × MayLoad S s n k a) ⊎ (((n : ℕ) × MayStore S s n) ⊎ ((n : ℕ) × MaySync S s n))

-- a sound program never stands still
abbrev pub Progresses : Type 0
Progresses = (S : System) → Formed S → Sound S → (main : Bytes) (s : State) → Run S (opened S main) s → AllDone S s ⊎ GoesOn S s
