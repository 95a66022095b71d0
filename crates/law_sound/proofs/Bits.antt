-- Sets of bits inside one another: more stages meet more, and more stages and accesses are those of more agents.
use Rattle.std.proofs.Common.{◌≡◌, ◌*◌, ◌==◌, ◌&&◌, not, ℕ, Bool, true, false, List, [], ◌∷◌, if◌then◌else◌, bit_and, bit_or, refl, sym, ap, ◌∙◌, subst, ⊎_elim, eq-eqb, eqb-true, arith}
use Rattle.std.specs.Int.{bit_at}
use Rattle.std.proofs.lemmas.Bool.{and_from, cases_Bool}
use Rattle.std.proofs.lemmas.Nat.Bits.{bit_at_and, same_from_bits}
use Rattle.base.proofs.Booleans.{clash}
use Rattle.vk.specs.Accesses.{accesses, access_part, expand_accesses}
use Rattle.vk.specs.Agents.{Agent, agent_table, agents_from, agents}
use Rattle.vk.specs.Sets.{has, meets}
use Rattle.vk.specs.Stages.{expand}
use Rattle.law_valid.proofs.Bits.{Inside, inside_self, none_inside, inside_both, empty_inside, over_more, expand_more}

inside_common : (a b c d : ℕ) → Inside a b → Inside c d → Inside (bit_and a c) (bit_and b d)
inside_common a b c d h k i = omega (arith, h i, k i, bit_at_and a c i, bit_at_and b d i)

-- larger sets meet more
pub meets_more : (a b c d : ℕ) → Inside a b → Inside c d → meets a c ≡ true → meets b d ≡ true
meets_more a b c d h k m = ⊎_elim
    (λ e. absurd (clash (sym (ap not (eq-eqb (bit_and a c) 0 (empty_inside (bit_and a c) (bit_and b d) (inside_common a b c d h k) (eqb-true (bit_and b d) 0 e)))) ∙ m)))
    (λ e. ap not e)
    (cases_Bool (bit_and b d == 0))

has_more : (a b bits : ℕ) → Inside a b → has a bits ≡ true → has b bits ≡ true
has_more a b bits h e = eq-eqb (bit_and b bits) bits (same_from_bits (bit_and b bits) bits (λ i.
    let same : bit_at (bit_and a bits) i ≡ bit_at bits i = ap (λ n. bit_at n i) (eqb-true (bit_and a bits) bits e) in
    omega (arith, same, h i, bit_at_and a bits i, bit_at_and b bits i)))

-- STAGES AND ACCESSES

-- what a row adds where its bit is in the set
part_more : (a b bit adds : ℕ) → Inside a b → Inside (if has a bit then adds else 0) (if has b bit then adds else 0)
part_more a b bit adds h = go (has a bit) refl
  where
    go : (t : Bool) → has a bit ≡ t → Inside (if t then adds else 0) (if has b bit then adds else 0)
    go false e = none_inside (if has b bit then adds else 0)
    go true e = subst (λ t. Inside adds (if t then adds else 0)) (sym (has_more a b bit h e)) (inside_self adds)

expand_accesses_more : (a b : ℕ) → Inside a b → Inside (expand_accesses a) (expand_accesses b)
expand_accesses_more a b h = over_more (access_part a) (access_part b) accesses (λ access. part_more a b access.bit access.stands_for h)

-- AGENTS

-- what an agent adds where its stage and its access are in the sets
agent_more : (s t a b stage access bit : ℕ) → Inside s t → Inside a b → Inside (if has s stage && has a access then bit else 0) (if has t stage && has b access then bit else 0)
agent_more s t a b stage access bit h k = go (has s stage) (has a access) refl refl
  where
    go : (x y : Bool) → has s stage ≡ x → has a access ≡ y → Inside (if x && y then bit else 0) (if has t stage && has b access then bit else 0)
    go false y e f = none_inside (if has t stage && has b access then bit else 0)
    go true false e f = none_inside (if has t stage && has b access then bit else 0)
    go true true e f = subst (λ z. Inside bit (if z then bit else 0)) (sym (and_from (has t stage) (has b access) (has_more s t stage h e) (has_more a b access k f))) (inside_self bit)

agents_from_more : (s t a b bit : ℕ) (rows : List Agent) (found more : ℕ) → Inside s t → Inside a b → Inside found more → Inside (agents_from s a bit rows found) (agents_from t b bit rows more)
agents_from_more s t a b bit [] found more h k l = l
agents_from_more s t a b bit (agent ∷ rows) found more h k l =
    let less : ℕ = if has s agent.stage && has a agent.access then bit else 0 in
    let adds : ℕ = if has t agent.stage && has b agent.access then bit else 0 in
    agents_from_more s t a b (2 * bit) rows (bit_or found less) (bit_or more adds) h k (inside_both found more less adds l (agent_more s t a b agent.stage agent.access bit h k))

-- of more stages and more accesses
pub agents_more : (s t a b : ℕ) → Inside s t → Inside a b → Inside (agents s a) (agents t b)
agents_more s t a b h k = agents_from_more (expand s) (expand t) (expand_accesses a) (expand_accesses b) 1 agent_table 0 0 (expand_more s t h) (expand_accesses_more a b k) (none_inside 0)
