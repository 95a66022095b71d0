-- A tender that makes the moves that it owes.
use Rattle.std.proofs.Common.{◌≡◌, ◌<◌, ◌≤◌, ◌+◌, ◌-◌, ℕ, zero, suc, Option, Some, None, List, [], ◌∷◌, length, Bool, true, false, if◌then◌else◌, refl, sym, ap, ◌∙◌, subst, arith}
use Rattle.std.proofs.lemmas.Bool.{false≢true}
use Rattle.rand_pcg.specs.Lcg.{Lcg}
use Rattle.base.specs.declared.cache_move.CacheMove.{CacheMove}
use Rattle.base.specs.declared.event.Event.{Event}
use Rattle.base.specs.declared.event.Event.TheVariants.{Move}
use Rattle.device_cache.specs.Draws.{Moves, may_draw, drawn, after_five, seeded, moves_from}
use Rattle.device_drive.specs.Tended.{agents_of, sizes_of, tended_moves}
use Rattle.device_workers.proofs.Counting.{tail}
use Rattle.device_workers.proofs.Holding.{both_if, both_so, both_then, second_if}
use Rattle.device_workers.proofs.Moving.{Draws, next}
use Rattle.device_workers.specs.Holds.{Both}
use Rattle.device_workers.specs.Internal.Loops.{PaysOn}
use Rattle.device_workers.specs.Parts.{TenderPart, room_of, IfTold, Owes, Pays, OwesAll, PaysAll}
use Rattle.program.specs.declared.program.Program.{Program}

module _ (agents : ℕ) (sizes : List ℕ) where
  pub starts : (a : Option TenderPart) (seed : ℕ) (g : Lcg) → g ≡ seeded seed → IfTold a (OwesAll seed agents sizes) → Both a a (PaysOn 256 g agents sizes)
  starts a seed g is = both_if a (OwesAll seed agents sizes) (PaysOn 256 g agents sizes)
      (λ p owes. record {
        parts = refl;
        known = owes.known;
        long = owes.long;
        owed = owes.owed ∙ ap (λ tender. moves_from tender 256 agents sizes) (sym is);
        events = refl;
      })

  -- where no move is to come
  pub ends : (a b : Option TenderPart) (left : ℕ) (g : Lcg) → moves_from g left agents sizes ≡ [] → Both a b (PaysOn left g agents sizes) → Both a b PaysAll
  ends a b left g none = both_so a b (PaysOn left g agents sizes) PaysAll
      (λ p q on. record {
        parts = on.parts;
        none = on.owed ∙ none;
        events = omega (arith, on.events, ap length (on.owed ∙ none));
      })

  module _ (a b : Option TenderPart) (k : ℕ) (g : Lcg) (m : CacheMove) (below : k < 256) (draws : Draws agents sizes g m) where
    one_less : 256 - k ≡ suc (256 - (k + 1))
    one_less = omega (arith, below)

    comes : moves_from g (256 - k) agents sizes ≡ Move m ∷ moves_from (after_five g) (256 - (k + 1)) agents sizes
    comes = ap (λ left. moves_from g left agents sizes) one_less ∙ next (256 - (k + 1)) agents sizes g m draws

    pub owes : Both a b (PaysOn (256 - k) g agents sizes) → IfTold b (Owes m)
    owes = second_if a b (PaysOn (256 - k) g agents sizes) (Owes m)
        (λ p q on. record {
          rest = moves_from (after_five g) (256 - (k + 1)) agents sizes;
          next = on.owed ∙ comes;
          inside = subst (λ n. Moves n (sizes_of q.program) m) on.known (subst (λ xs. Moves agents xs m) on.long draws.inside);
        })

    module _ (c : Option TenderPart) (made : Bool) where
      pub goes_on : (h : Lcg) → h ≡ after_five g → Both a b (PaysOn (256 - k) g agents sizes) → Both b c (Pays m made) → Both a c (PaysOn (256 - (k + 1)) h agents sizes)
      goes_on h is = both_then a b c (PaysOn (256 - k) g agents sizes) (Pays m made) (PaysOn (256 - (k + 1)) h agents sizes)
          (λ p q r on pays. record {
            parts = pays.parts ∙ on.parts;
            known = on.known ∙ ap agents_of (sym pays.program);
            long = on.long ∙ ap sizes_of (sym pays.program);
            owed = ap tail (sym pays.owed ∙ on.owed ∙ comes) ∙ ap (λ tender. moves_from tender (256 - (k + 1)) agents sizes) (sym is);
            events = omega (arith, on.events, pays.events, ap length pays.owed);
          })

      -- it always makes it
      pub never_stops : made ≡ false → Both a b (PaysOn (256 - k) g agents sizes) → Both b c (Pays m made) → Both a c PaysAll
      never_stops not = both_then a b c (PaysOn (256 - k) g agents sizes) (Pays m made) PaysAll
          (λ p q r on pays. absurd (false≢true (sym not ∙ pays.done)))

-- HOW MANY MOVES A DEVICE HAS ROOM FOR

pub room_is : (tend : Option ℕ) (n : ℕ) → ((seed : ℕ) → tend ≡ Some seed → n ≡ 256) → (tend ≡ None → n ≡ 0) → n ≡ room_of tend
room_is None n seeded none = none refl
room_is (Some seed) n seeded none = seeded seed refl

one_more : (may : Bool) (event : Event) (rest : List Event) (count : ℕ) → length rest ≤ count → length (if may then event ∷ rest else []) ≤ suc count
one_more true event rest count few = omega (arith, few)
one_more false event rest count few = omega arith

few_from : (g : Lcg) (count agents : ℕ) (sizes : List ℕ) → length (moves_from g count agents sizes) ≤ count
few_from g zero agents sizes = omega arith
few_from g (suc count) agents sizes = one_more (may_draw agents sizes) (Move (drawn agents sizes g)) (moves_from (after_five g) count agents sizes) count (few_from (after_five g) count agents sizes)

pub few_moves : (program : Program) (tend : Option ℕ) → length (tended_moves program tend 256) ≤ room_of tend
few_moves program None = omega arith
few_moves program (Some seed) = few_from (seeded seed) 256 (agents_of program) (sizes_of program)
