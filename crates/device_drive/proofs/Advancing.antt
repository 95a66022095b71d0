-- A run goes on, event by event.
use Rattle.std.proofs.Common.{◌≡◌, ℕ, ◌<◌, ◌^◌, Bool, false, [], ◌∷◌, ◌++◌, length, Option, if◌then◌else◌, refl, sym, ap, ◌∙◌, subst, append_assoc}
use Rattle.std.proofs.lemmas.List.{append-nil}
use Rattle.std.proofs.lemmas.List.Elements.{filter-append}
use Rattle.base.specs.declared.event.Event.{Event}
use Rattle.base.specs.declared.event.Event.TheVariants.{Begin, End}
use Rattle.device_drive.specs.Internal.Keepers.{to_come, Keeps, AsksAlike, Advanced}
use Rattle.device_drive.specs.Tended.{agents_of, sizes_of, tended_moves, Grew, Tended}
use Rattle.device_drive.specs.declared.keeper.Keeper.{Keeper}
use Rattle.device_model.specs.Devices.{Device, did}
use Rattle.device_model.specs.Histories.{is_move, moves_in}
use Rattle.device_model.proofs.Histories.{went_nowhere, went_node, joins}

pub stayed : (d : Device) (k l : Keeper) → AsksAlike k l → to_come l d.moves ≡ to_come k d.moves → Advanced d d k l
stayed d k l alike same = record { events = []; went = went_nowhere d; moves = same; asks = alike }

pub unmoved : (d : Device) (k : Keeper) → Advanced d d k k
unmoved d k = stayed d k k (record { agents = refl; sizes = refl }) refl

pub joined : (a b c : Device) (k l m : Keeper) → Advanced a b k l → Advanced b c l m → Advanced a c k m
joined a b c k l m first second = record {
  events = first.events ++ second.events;
  went = joins a b c first.events second.events first.went second.went;
  moves =
      ap (λ moves. moves ++ to_come m c.moves) (filter-append is_move first.events second.events)
      ∙ append_assoc (moves_in first.events) (moves_in second.events) (to_come m c.moves)
      ∙ ap (λ moves. moves_in first.events ++ moves) second.moves
      ∙ first.moves;
  asks = record { agents = second.asks.agents ∙ first.asks.agents; sizes = second.asks.sizes ∙ first.asks.sizes };
}

-- another event of a node
pub with_node : (a b : Device) (k l : Keeper) (event : Event) → is_move event ≡ false → Advanced a b k l → Advanced a (did b event) k l
with_node a b k l event node so_far = joined a b (did b event) k l l so_far (record {
  events = event ∷ [];
  went = went_node b b [] event (went_nowhere b) node;
  moves = ap (λ (is : Bool). (if is then event ∷ [] else []) ++ to_come l b.moves) node;
  asks = record { agents = refl; sizes = refl };
})

-- a command begins and, after some more moves, ends
pub with_command : (a b d : Device) (k l m : Keeper) (n : ℕ) → Advanced a b k l → Advanced (did b (Begin n)) d l m → Advanced a (did d (End n)) k m
with_command a b d k l m n before between =
    with_node a d k m (End n) refl (joined a (did b (Begin n)) d k l m (with_node a b k l (Begin n) refl before) between)

-- the keeper is still of the program
pub keeps_on : (a b : Device) (k l : Keeper) → Advanced a b k l → Keeps k a.program → Keeps l b.program
keeps_on a b k l so_far keeps = record {
  agents = so_far.asks.agents ∙ keeps.agents ∙ ap agents_of (sym so_far.went.program);
  sizes = so_far.asks.sizes ∙ keeps.sizes ∙ ap sizes_of (sym so_far.went.program);
  few = subst (λ sizes. length sizes < 2 ^ 32) (sym so_far.asks.sizes) keeps.few;
}

-- AT THE END

pub grew : (a b : Device) (k l : Keeper) → Advanced a b k l → Grew a b
grew a b k l so_far = record { events = so_far.events; went = so_far.went }

-- where no move is still to come, all have been made
pub all_tended : (a b : Device) (k l : Keeper) (tend : Option ℕ) → Advanced a b k l → to_come l b.moves ≡ [] → to_come k a.moves ≡ tended_moves a.program tend a.moves → Tended a b tend
all_tended a b k l tend so_far none are = record {
  events = so_far.events;
  went = so_far.went;
  moves = sym (append-nil (moves_in so_far.events)) ∙ ap (λ moves. moves_in so_far.events ++ moves) (sym none) ∙ so_far.moves ∙ are;
}
