-- A run on one thread goes on, node by node.
use Rattle.std.proofs.Common.{◌≡◌, ℕ, ◌-◌, zero, suc, List, [], ◌∷◌, drop, Option, refl, sym, ap, ◌∙◌, subst}
use Rattle.base.specs.declared.event.Event.{Event}
use Rattle.base.specs.declared.event.Event.TheVariants.{Move}
use Rattle.base.specs.declared.cache_move.CacheMove.{CacheMove}
use Rattle.device_drive.specs.Driven.{node_events, after_move, after_moves, after_events, Drives, Driven}
use Rattle.device_drive.specs.Firsts.{IsFirst, NothingReady}
use Rattle.device_drive.specs.Internal.Keepers.{to_come, Tends, Does, Leads}
use Rattle.device_drive.specs.Tended.{tended_moves}
use Rattle.device_drive.specs.declared.keeper.Keeper.{Keeper}
use Rattle.device_drive.proofs.Drawing.{none_left}
use Rattle.device_model.specs.Devices.{Device, did}
use Rattle.device_model.specs.Histories.{moved}

-- ONE MOVE

-- where none was to come
pub tends_none : (d : Device) (k l : Keeper) → to_come k d.moves ≡ [] → to_come l d.moves ≡ [] → Tends d d k l
tends_none d k l none also = record {
  device = ap (after_move d) (sym none);
  rest = also ∙ ap (drop 1) (sym none);
}

-- where none is left to make
pub tends_over : (d : Device) (k : Keeper) → d.moves ≡ 0 → Tends d d k k
tends_over d k over = let none : to_come k d.moves ≡ [] = ap (to_come k) over ∙ none_left k in tends_none d k k none none

pub tends_move : (d new : Device) (k l : Keeper) (m : CacheMove) → d.moves ≡ suc (d.moves - 1) → to_come k (suc (d.moves - 1)) ≡ Move m ∷ to_come l (d.moves - 1) → new ≡ moved d (Move m) → Tends d new k l
tends_move d new k l m some first is =
    let next : to_come k d.moves ≡ Move m ∷ to_come l (d.moves - 1) = ap (to_come k) some ∙ first in
    record {
      device = is ∙ ap (after_move d) (sym next);
      rest = ap (λ (x : Device). to_come l x.moves) is ∙ ap (drop 1) (sym next);
    }

-- EVENTS

-- one event after a move
pub does_one : (a b : Device) (k l : Keeper) (event : Event) → Tends a b k l → Does (event ∷ []) a (did b event) k l
does_one a b k l event tends = record {
  device = ap (λ (x : Device). did x event) tends.device;
  rest = tends.rest;
}

pub drop_more : (n : ℕ) (xs : List Event) → drop n (drop 1 xs) ≡ drop (suc n) xs
drop_more n [] = drop_none n
  where
    drop_none : (n : ℕ) → drop {A = Event} n [] ≡ []
    drop_none zero = refl
    drop_none (suc n) = refl
drop_more n (x ∷ xs) = refl

-- and another one after the next move
pub does_two : (a b d : Device) (k l m : Keeper) (first second : Event) → Tends a b k l → Tends (did b first) d l m → Does (first ∷ second ∷ []) a (did d second) k m
does_two a b d k l m first second one two = record {
  device =
      ap (λ (x : Device). did x second)
      (two.device
      ∙ ap (λ (moves : List Event). after_move (did b first) moves) one.rest
      ∙ ap (λ (x : Device). after_move (did x first) (drop 1 (to_come k a.moves))) one.device);
  rest = two.rest ∙ ap (drop 1) one.rest ∙ drop_more 1 (to_come k a.moves);
}

-- NODES

-- a node first, and then the others
pub leads_on : (a b new : Device) (k l : Keeper) (n : ℕ) → IsFirst a n → Does (node_events a n) a b k l → Leads b l new → Leads a k new
leads_on a b new k l n first does leads = (
  n ∷ leads.0,
  (
    first,
    subst (λ (moves : List Event). Drives leads.0 (after_events (node_events a n) a (to_come k a.moves)) moves new) does.rest
        (subst (λ (x : Device). Drives leads.0 x (to_come l b.moves) new) does.device leads.1),
  ),
)

-- where nothing is ready
pub leads_end : (d : Device) (k : Keeper) → NothingReady d → Leads d k (after_moves d (to_come k d.moves))
leads_end d k quiet = ([], (quiet, refl))

-- MOVES THAT ARE LEFT

one_first : (d : Device) (moves : List Event) → after_moves (after_move d moves) (drop 1 moves) ≡ after_moves d moves
one_first d [] = refl
one_first d (m ∷ moves) = refl

pub moves_on : (start a b : Device) (j k l : Keeper) → after_moves a (to_come k a.moves) ≡ after_moves start (to_come j start.moves) → Tends a b k l → after_moves b (to_come l b.moves) ≡ after_moves start (to_come j start.moves)
moves_on start a b j k l so_far tends =
    ap (λ (moves : List Event). after_moves b moves) tends.rest
    ∙ ap (λ (x : Device). after_moves x (drop 1 (to_come k a.moves))) tends.device
    ∙ one_first a (to_come k a.moves)
    ∙ so_far

-- where none is to come any more
pub moves_end : (start d : Device) (j k : Keeper) → after_moves d (to_come k d.moves) ≡ after_moves start (to_come j start.moves) → to_come k d.moves ≡ [] → d ≡ after_moves start (to_come j start.moves)
moves_end start d j k so_far none = ap (after_moves d) (sym none) ∙ so_far

-- ALL

pub driven : (a b new : Device) (k l : Keeper) (tend : Option ℕ) → to_come k a.moves ≡ tended_moves a.program tend a.moves → Leads a k (after_moves b (to_come l b.moves)) → new ≡ after_moves b (to_come l b.moves) → Driven a new tend
driven a b new k l tend are leads is = (
  leads.0,
  subst (λ (moves : List Event). Drives leads.0 a moves new) are (subst (λ (x : Device). Drives leads.0 a (to_come k a.moves) x) (sym is) leads.1),
)
