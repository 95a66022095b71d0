-- A tender on its way.
use Rattle.std.proofs.Common.{◌≡◌, ◌≤◌, ◌<◌, ◌+◌, ◌-◌, ℕ, suc, Option, None, List, [], ◌∷◌, ◌++◌, Bool, true, false, if◌then◌else◌, refl, sym, ap, ◌∙◌, subst, append_assoc, arith}
use Rattle.std.specs.Prelude.{◌↔◌, IsSome, is_some}
use Rattle.std.proofs.lemmas.Bool.{false≢true}
use Rattle.std.proofs.lemmas.List.{append-nil}
use Rattle.rand_pcg.specs.Lcg.{Lcg}
use Rattle.base.specs.declared.cache_move.CacheMove.{CacheMove}
use Rattle.base.specs.declared.event.Event.{Event}
use Rattle.base.specs.declared.event.Event.TheVariants.{Move}
use Rattle.device_cache.specs.Draws.{Moves, may_draw, drawn, after_five, seeded, moves_from, moves_of}
use Rattle.device_drive.specs.Tended.{agents_of, sizes_of}
use Rattle.device_model.specs.Devices.{Device}
use Rattle.device_model.specs.Histories.{moved, Went, GoesNowhere, GoesOnByMove}
use Rattle.device_workers.specs.Internal.Loops.{Tending, TendsOn}
use Rattle.device_workers.proofs.Holding.{both, both_so, both_then}
use Rattle.device_workers.specs.Holds.{Both, MayMake, Tends, TendsTo, TendsAll}

pub opens : (d : Device) (seed agents : ℕ) (sizes : List ℕ) → GoesNowhere d → TendsOn d d seed 256 (seeded seed) agents sizes
opens d seed agents sizes nowhere known long enough = record { events = []; went = nowhere; room = enough; moves = refl }

-- a tender that gives none
pub undrawn : (result : Option CacheMove) (may : Bool) → result ≡ None → (IsSome result ↔ (may ≡ true)) → may ≡ false
undrawn result true is some = absurd (false≢true (ap is_some (sym is) ∙ some.1 refl))
undrawn result false is some = refl

-- where no move is to come
pub over : (d e : Device) (seed left agents : ℕ) (sizes : List ℕ) (g : Lcg) → moves_from g left agents sizes ≡ [] → TendsOn d e seed left g agents sizes → agents ≡ agents_of d.program → sizes ≡ sizes_of d.program → 256 ≤ d.moves → Went d e (moves_of seed 256 agents sizes)
over d e seed left agents sizes g none so_far known long enough =
    let t = so_far known long enough in
    subst (λ events. Went d e events) (sym (append-nil t.events) ∙ ap (λ moves. t.events ++ moves) (sym none) ∙ t.moves) t.went

-- a tender draws a move
pub record Draws (agents : ℕ) (sizes : List ℕ) (g : Lcg) (m : CacheMove) : Type 0 where
  pub may : may_draw agents sizes ≡ true
  pub drawn : m ≡ drawn agents sizes g
  pub inside : Moves agents sizes m

pub next : (left agents : ℕ) (sizes : List ℕ) (g : Lcg) (m : CacheMove) → Draws agents sizes g m → moves_from g (suc left) agents sizes ≡ Move m ∷ moves_from (after_five g) left agents sizes
next left agents sizes g m draws =
    ap (λ (b : Bool). if b then Move (drawn agents sizes g) ∷ moves_from (after_five g) left agents sizes else []) draws.may
    ∙ ap (λ (x : CacheMove). Move x ∷ moves_from (after_five g) left agents sizes) (sym draws.drawn)

module _ (d e f : Device) (seed left agents : ℕ) (sizes : List ℕ) (g : Lcg) (m : CacheMove) (draws : Draws agents sizes g m) where
  module _ (known : agents ≡ agents_of d.program) (long : sizes ≡ sizes_of d.program) (so_far : Tending d e seed (suc left) g agents sizes) where
    pub may : MayMake e m
    may = record {
      left = omega (arith, so_far.room);
      move = subst (λ program. Moves (agents_of program) (sizes_of program) m) (sym so_far.went.program)
          (subst (λ xs. Moves (agents_of d.program) xs m) long (subst (λ n. Moves n sizes m) known draws.inside));
    }

    goes : GoesOnByMove d e so_far.events (Move m) → f ≡ moved e (Move m) → Tending d f seed left (after_five g) agents sizes
    goes on is = record {
      events = so_far.events ++ Move m ∷ [];
      went = subst (λ x. Went d x (so_far.events ++ Move m ∷ [])) (sym is) (on so_far.went refl (omega (arith, so_far.room)));
      room = omega (arith, so_far.room, ap (λ (x : Device). x.moves) is);
      moves = append_assoc so_far.events (Move m ∷ []) (moves_from (after_five g) left agents sizes) ∙ ap (λ moves. so_far.events ++ moves) (sym (next left agents sizes g m draws)) ∙ so_far.moves;
    }

  -- a hold in which it makes the move that it has drawn
  pub tends_on : ((events : List Event) → GoesOnByMove d e events (Move m)) → (made : Bool) → made ≡ true → TendsOn d e seed (suc left) g agents sizes → Tends e f m made → TendsOn d f seed left (after_five g) agents sizes
  tends_on on made is so_far hold known long enough =
      let t = so_far known long enough in
      goes known long t (on t.events) (subst (λ b. f ≡ (if b then moved e (Move m) else e)) is hold.effect)

  -- it can always make it
  pub never_fails : (made : Bool) → made ≡ false → TendsOn d e seed (suc left) g agents sizes → Tends e f m made → agents ≡ agents_of d.program → sizes ≡ sizes_of d.program → 256 ≤ d.moves → Went d f (moves_of seed 256 agents sizes)
  never_fails made not so_far hold known long enough = absurd (false≢true (sym not ∙ hold.may.1 (may known long (so_far known long enough))))

-- OF A HOLDER

abbrev Tended : ℕ → ℕ → List ℕ → Device → Device → Type 0
Tended seed agents sizes d e = agents ≡ agents_of d.program → sizes ≡ sizes_of d.program → 256 ≤ d.moves → Went d e (moves_of seed 256 agents sizes)

module _ (seed agents : ℕ) (sizes : List ℕ) where
  pub starts : (a : Option Device) (g : Lcg) → g ≡ seeded seed → ((d : Device) → GoesNowhere d) → Both a a (λ d e. TendsOn d e seed 256 g agents sizes)
  starts a g is nowhere = both a (λ d e. TendsOn d e seed 256 g agents sizes) (λ d. subst (λ tender. TendsOn d d seed 256 tender agents sizes) (sym is) (opens d seed agents sizes (nowhere d)))

  pub ends : (a b : Option Device) (left : ℕ) (g : Lcg) → moves_from g left agents sizes ≡ [] → Both a b (λ d e. TendsOn d e seed left g agents sizes) → TendsAll a b seed agents sizes
  ends a b left g none = both_so a b (λ d e. TendsOn d e seed left g agents sizes) (Tended seed agents sizes) (λ d e so_far. over d e seed left agents sizes g none so_far)

  module _ (a b c : Option Device) (k : ℕ) (g : Lcg) (m : CacheMove) (below : k < 256) (draws : Draws agents sizes g m) where
    one_less : 256 - k ≡ suc (256 - (k + 1))
    one_less = omega (arith, below)

    pub goes_on : (h : Lcg) → h ≡ after_five g → ((d e : Device) (events : List Event) → GoesOnByMove d e events (Move m)) → (made : Bool) → made ≡ true → Both a b (λ d e. TendsOn d e seed (256 - k) g agents sizes) → TendsTo b c m made → Both a c (λ d e. TendsOn d e seed (256 - (k + 1)) h agents sizes)
    goes_on h is laws made did =
        both_then a b c (λ d e. TendsOn d e seed (256 - k) g agents sizes) (λ d e. Tends d e m made) (λ d e. TendsOn d e seed (256 - (k + 1)) h agents sizes)
        (λ d e f so_far hold.
        subst (λ tender. TendsOn d f seed (256 - (k + 1)) tender agents sizes) (sym is)
        (tends_on d e f seed (256 - (k + 1)) agents sizes g m draws (laws d e) made did (subst (λ left. TendsOn d e seed left g agents sizes) one_less so_far) hold))

    pub stops : (made : Bool) → made ≡ false → Both a b (λ d e. TendsOn d e seed (256 - k) g agents sizes) → TendsTo b c m made → TendsAll a c seed agents sizes
    stops made not =
        both_then a b c (λ d e. TendsOn d e seed (256 - k) g agents sizes) (λ d e. Tends d e m made) (Tended seed agents sizes)
        (λ d e f so_far hold. never_fails d e f seed (256 - (k + 1)) agents sizes g m draws made not (subst (λ left. TendsOn d e seed left g agents sizes) one_less so_far) hold)
