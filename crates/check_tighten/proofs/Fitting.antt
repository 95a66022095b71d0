-- What a mask that is on a family holds back, and makes visible there, its own stages do too.
use Rattle.std.proofs.Common.{◌≡◌, ◌∙◌, ◌==◌, ◌<◌, ◌*◌, ◌^◌, ℕ, zero, suc, Bool, true, false, not, ◌&&◌, ◌||◌, List, [], ◌∷◌, slice_get, Some, refl, subst, sym, ap, ap₂, bit_and, bit_or, eqb-true, eq-eqb, arith}
use Rattle.std.specs.Int.{bit_at}
use Rattle.std.specs.List.{list_all}
use Rattle.std.proofs.lemmas.Bool.{and_parts, and_from, or_parts}
use Rattle.std.proofs.lemmas.Nat.{and_comm, and_or_apart}
use Rattle.std.proofs.lemmas.Nat.Bits.{and_pow, bit_at-lt}
use Rattle.base.proofs.Booleans.{clash, kept_false}
use Rattle.base.specs.declared.shape.Family.{Family}
use Rattle.base.specs.declared.shape.Family.TheVariants.{Graphics, Compute, Transfer}
use Rattle.vk.specs.Accesses.{memory_read, memory_write, expand_accesses}
use Rattle.vk.specs.Agents.{agent_table, agents_from, host_agent}
use Rattle.vk.specs.Families.{stages_of, family_number, on_family}
use Rattle.vk.specs.Sets.{has, meets}
use Rattle.vk.specs.Stages.{expand, color_attachment_output, compute_shader, all_transfer, host, all_commands, copy, clear}
use Rattle.program.specs.Barriers.{has_stages, on_queue}
use Rattle.check_access.specs.Effects.{all_agents}
use Rattle.check_access_order.specs.Stages.{bit_stage}
use Rattle.check_tighten.specs.Own.{single_stages, own_stages}
use Rattle.check_tighten.proofs.Masks.{has_then, for_all_seven, all_seven, stands, as_stands, for_all, at_mask, owned, in_list, there}

abbrev same : Bool → Bool → Bool
same true b = b
same false b = not b

same_is : (a b : Bool) → same a b ≡ true → a ≡ b
same_is true true e = refl
same_is true false e = absurd cc
same_is false true e = absurd cc
same_is false false e = refl

is_same : (a b : Bool) → a ≡ b → same a b ≡ true
is_same true true e = refl
is_same true false e = absurd cc
is_same false true e = absurd cc
is_same false false e = refl

-- SINGLE STAGES

abbrev stage_fits : Family → ℕ → ℕ → Bool
stage_fits family stages stage = not (on_family stage (family_number family)) || same (meets stages stage) (meets (owned family stages) stage)

stages_fit : (family : Family) → for_all (λ stages. list_all (stage_fits family stages) single_stages) ≡ true
stages_fit Graphics = refl
stages_fit Compute = refl
stages_fit Transfer = refl

-- one that the family has
pub meets_single : (family : Family) (set i stage : ℕ) → slice_get single_stages i ≡ Some stage → on_family stage (family_number family) ≡ true → meets (expand set) stage ≡ meets (own_stages family set) stage
meets_single family set i stage at on =
    same_is (meets (expand set) stage) (meets (own_stages family set) stage)
    (there (on_family stage (family_number family)) (same (meets (expand set) stage) (meets (own_stages family set) stage))
    (in_list (stage_fits family (expand set)) single_stages i stage (at_mask (λ stages. list_all (stage_fits family stages) single_stages) (stages_fit family) set) at) on)

pub meets_host : (family : Family) (set : ℕ) → meets (expand set) host ≡ meets (own_stages family set) host
meets_host Graphics set = meets_single Graphics set 2 host refl refl
meets_host Compute set = meets_single Compute set 2 host refl refl
meets_host Transfer set = meets_single Transfer set 2 host refl refl

-- THEMSELVES

abbrev settles : Family → ℕ → Bool
settles family stages = (expand (owned family stages) == owned family stages) && on_family (owned family stages) (family_number family)

all_settle : (family : Family) → for_all (settles family) ≡ true
all_settle Graphics = refl
all_settle Compute = refl
all_settle Transfer = refl

settled : (family : Family) (set : ℕ) → settles family (expand set) ≡ true
settled family set = at_mask (settles family) (all_settle family) set

pub own_expanded : (family : Family) (set : ℕ) → expand (own_stages family set) ≡ own_stages family set
own_expanded family set =
    let own = own_stages family set in
    eqb-true (expand own) own (and_parts (expand own == own) (on_family own (family_number family)) (settled family set)).0

pub own_on_family : (family : Family) (set : ℕ) → on_family (own_stages family set) (family_number family) ≡ true
own_on_family family set =
    let own = own_stages family set in
    (and_parts (expand own == own) (on_family own (family_number family)) (settled family set)).1

-- AGENTS

abbrev pub bits : List ℕ
bits = 1 ∷ 2 ∷ 4 ∷ 8 ∷ 16 ∷ 32 ∷ 64 ∷ 128 ∷ 256 ∷ []

abbrev agents_in : ℕ → ℕ
agents_in stages = agents_from stages (expand_accesses (bit_or memory_read memory_write)) 1 agent_table 0

abbrev agent_fits : Family → ℕ → ℕ → Bool
agent_fits family stages bit =
    not (same (meets stages (bit_stage bit)) (meets (owned family stages) (bit_stage bit)))
    || same (meets (agents_in stages) bit) (meets (agents_in (owned family stages)) bit)

agents_fit : (family : Family) → for_all (λ stages. list_all (agent_fits family stages) bits) ≡ true
agents_fit Graphics = refl
agents_fit Compute = refl
agents_fit Transfer = refl

own_agents : (family : Family) (set : ℕ) → agents_in (own_stages family set) ≡ all_agents (own_stages family set)
own_agents family set = ap agents_in (sym (own_expanded family set))

-- an agent whose stage is met alike
pub meets_agent : (family : Family) (set i bit : ℕ) → slice_get bits i ≡ Some bit → meets (expand set) (bit_stage bit) ≡ meets (own_stages family set) (bit_stage bit) → meets (all_agents set) bit ≡ meets (all_agents (own_stages family set)) bit
meets_agent family set i bit at alike =
    let own = own_stages family set in
    same_is (meets (all_agents set) bit) (meets (agents_in own) bit)
    (there (same (meets (expand set) (bit_stage bit)) (meets own (bit_stage bit))) (same (meets (all_agents set) bit) (meets (agents_in own) bit))
    (in_list (agent_fits family (expand set)) bits i bit (at_mask (λ stages. list_all (agent_fits family stages) bits) (agents_fit family) set) at)
    (is_same (meets (expand set) (bit_stage bit)) (meets own (bit_stage bit)) alike))
    ∙ ap (λ z. meets z bit) (own_agents family set)

pub meets_host_agent : (family : Family) (set : ℕ) → meets (all_agents set) host_agent ≡ meets (all_agents (own_stages family set)) host_agent
meets_host_agent family set = meets_agent family set 8 host_agent refl (meets_host family set)

-- MASKS ON A FAMILY

-- it has no other stages, or copies too, as every family does
abbrev closed : Family → ℕ → Bool
closed family stages = (stages == owned family stages) || has stages copy

-- a shader or an output that the family lacks
abbrev lacks : Family → Bool → Bool → Bool
lacks family color shader = (not (on_family color_attachment_output (family_number family)) && color) || (not (on_family compute_shader (family_number family)) && shader)

all_closed : (family : Family) → for_all_seven (λ a b c d e f g. lacks family a b || closed family (stands a b c d e f g)) ≡ true
all_closed Graphics = refl
all_closed Compute = refl
all_closed Transfer = refl

off : (family : Family) (set stage : ℕ) → on_family set (family_number family) ≡ true → on_family stage (family_number family) ≡ false → has set stage ≡ false
off family set stage on none = kept_false (has set stage) (has (stages_of (family_number family)) stage) (has_then (stages_of (family_number family)) set stage on) none

lacks_none : (family : Family) (set : ℕ) → on_family set (family_number family) ≡ true → lacks family (has set color_attachment_output) (has set compute_shader) ≡ false
lacks_none Graphics set on = refl
lacks_none Compute set on = ap (λ a. (true && a) || (false && has set compute_shader)) (off Compute set color_attachment_output on refl)
lacks_none Transfer set on = ap₂ (λ a b. (true && a) || (true && b)) (off Transfer set color_attachment_output on refl) (off Transfer set compute_shader on refl)

or_other : (a b : Bool) → (a || b) ≡ true → a ≡ false → b ≡ true
or_other true b e none = absurd cc
or_other false b e none = e

closed_at : (family : Family) (set : ℕ) → on_family set (family_number family) ≡ true → closed family (expand set) ≡ true
closed_at family set on =
    let color = has set color_attachment_output in
    let shader = has set compute_shader in
    subst (λ s. closed family s ≡ true) (sym (as_stands set))
    (or_other (lacks family color shader) (closed family (stands color shader (has set all_transfer) (has set host) (has set all_commands) (has set copy) (has set clear)))
    (all_seven (λ a b c d e f g. lacks family a b || closed family (stands a b c d e f g)) (all_closed family) color shader (has set all_transfer) (has set host) (has set all_commands) (has set copy) (has set clear))
    (lacks_none family set on))

-- TWO MASKS

abbrev pair_fits : Family → ℕ → ℕ → Bool
pair_fits family stages others =
    not (closed family stages && closed family others)
    || (same (meets stages others) (meets (owned family stages) others) && same (meets stages (bit_or others host)) (meets (owned family stages) (bit_or others host)))

pairs_fit : (family : Family) → for_all (λ stages. for_all (pair_fits family stages)) ≡ true
pairs_fit Graphics = refl
pairs_fit Compute = refl
pairs_fit Transfer = refl

module _ (family : Family) (set other : ℕ) (on : on_family set (family_number family) ≡ true) (also : on_family other (family_number family) ≡ true) where
  abbrev own : ℕ
  own = own_stages family set

  abbrev alone : Bool
  alone = same (meets (expand set) (expand other)) (meets own (expand other))

  abbrev hosted : Bool
  hosted = same (meets (expand set) (bit_or (expand other) host)) (meets own (bit_or (expand other) host))

  fit : (alone && hosted) ≡ true
  fit = there (closed family (expand set) && closed family (expand other)) (alone && hosted)
      (at_mask (pair_fits family (expand set)) (at_mask (λ stages. for_all (pair_fits family stages)) (pairs_fit family) set) other)
      (and_from (closed family (expand set)) (closed family (expand other)) (closed_at family set on) (closed_at family other also))

  pub meets_mask : meets (expand set) (expand other) ≡ meets own (expand other)
  meets_mask = same_is (meets (expand set) (expand other)) (meets own (expand other)) (and_parts alone hosted fit).0

  pub meets_signal : meets (expand set) (bit_or (expand other) host) ≡ meets own (bit_or (expand other) host)
  meets_signal = same_is (meets (expand set) (bit_or (expand other) host)) (meets own (bit_or (expand other) host)) (and_parts alone hosted fit).1

-- THEY ARE SOME

-- a bit that is not there
gone : (set k : ℕ) → has set (2 ^ k) ≡ false → bit_and (2 ^ k) set ≡ 0
gone set k none = and_comm (2 ^ k) set ∙ and_pow set k ∙ go (bit_at set k) (and_pow set k) (bit_at-lt set k)
  where
    go : (b : ℕ) → bit_and set (2 ^ k) ≡ b * 2 ^ k → b < 2 → b * 2 ^ k ≡ 0
    go zero e lt = omega arith
    go (suc zero) e lt =
        let all : bit_and set (2 ^ k) ≡ 2 ^ k = e ∙ omega arith in
        absurd (clash (sym none ∙ eq-eqb (bit_and set (2 ^ k)) (2 ^ k) all))
    go (suc (suc b)) e lt = absurd (omega (arith, lt))

both_gone : (a b set : ℕ) → bit_and a set ≡ 0 → bit_and b set ≡ 0 → bit_and (bit_or a b) set ≡ 0
both_gone a b set e f = and_or_apart set a b f ∙ e

abbrev all_stages : ℕ
all_stages = bit_or (bit_or (bit_or (bit_or (bit_or (bit_or color_attachment_output compute_shader) all_transfer) host) all_commands) copy) clear

every_stage : (family : Family) → has all_stages (stages_of (family_number family)) ≡ true
every_stage Graphics = refl
every_stage Compute = refl
every_stage Transfer = refl

abbrev any_of : Bool → Bool → Bool → Bool → Bool → Bool → Bool → Bool
any_of a b c d e f g = a || (b || (c || (d || (e || (f || g)))))

abbrev has_any : ℕ → Bool
has_any set = any_of (has set color_attachment_output) (has set compute_shader) (has set all_transfer) (has set host) (has set all_commands) (has set copy) (has set clear)

none_at_all : (set : ℕ) → has all_stages set ≡ true → has_any set ≡ false → set ≡ 0
none_at_all set inside none =
    let color = has set color_attachment_output in
    let shader = has set compute_shader in
    let transfers = has set all_transfer in
    let hosts = has set host in
    let commands = has set all_commands in
    let copies = has set copy in
    let clears = has set clear in
    let a = or_parts color (shader || (transfers || (hosts || (commands || (copies || clears))))) none in
    let b = or_parts shader (transfers || (hosts || (commands || (copies || clears)))) a.1 in
    let c = or_parts transfers (hosts || (commands || (copies || clears))) b.1 in
    let d = or_parts hosts (commands || (copies || clears)) c.1 in
    let e = or_parts commands (copies || clears) d.1 in
    let f = or_parts copies clears e.1 in
    sym (eqb-true (bit_and all_stages set) set inside)
    ∙ both_gone (bit_or (bit_or (bit_or (bit_or (bit_or color_attachment_output compute_shader) all_transfer) host) all_commands) copy) clear set
    (both_gone (bit_or (bit_or (bit_or (bit_or color_attachment_output compute_shader) all_transfer) host) all_commands) copy set
    (both_gone (bit_or (bit_or (bit_or color_attachment_output compute_shader) all_transfer) host) all_commands set
    (both_gone (bit_or (bit_or color_attachment_output compute_shader) all_transfer) host set
    (both_gone (bit_or color_attachment_output compute_shader) all_transfer set
    (both_gone color_attachment_output compute_shader set (gone set 10 a.0) (gone set 11 b.0)) (gone set 12 c.0)) (gone set 14 d.0)) (gone set 16 e.0)) (gone set 32 f.0)) (gone set 35 f.1)

stands_some : for_all_seven (λ a b c d e f g. not (any_of a b c d e f g) || not (stands a b c d e f g == 0)) ≡ true
stands_some = refl

some_stages : (family : Family) → for_all (λ stages. not (closed family stages && not (stages == 0)) || has_stages (owned family stages)) ≡ true
some_stages Graphics = refl
some_stages Compute = refl
some_stages Transfer = refl

any_there : (b : Bool) (set : ℕ) → has_any set ≡ b → has all_stages set ≡ true → has_stages set ≡ true → has_any set ≡ true
any_there true set e inside some = e
any_there false set e inside some = absurd (clash (sym (ap not (eq-eqb set 0 (none_at_all set inside e))) ∙ some))

pub own_some : (family : Family) (set : ℕ) → on_family set (family_number family) ≡ true → has_stages set ≡ true → has_stages (own_stages family set) ≡ true
own_some family set on some =
    let inside : has all_stages set ≡ true = has_then all_stages (stages_of (family_number family)) set (every_stage family) on in
    let color = has set color_attachment_output in
    let shader = has set compute_shader in
    let transfers = has set all_transfer in
    let hosts = has set host in
    let commands = has set all_commands in
    let copies = has set copy in
    let clears = has set clear in
    let expands : not (expand set == 0) ≡ true = subst (λ s. not (s == 0) ≡ true) (sym (as_stands set))
    (there (any_of color shader transfers hosts commands copies clears) (not (stands color shader transfers hosts commands copies clears == 0))
    (all_seven (λ a b c d e f g. not (any_of a b c d e f g) || not (stands a b c d e f g == 0)) stands_some color shader transfers hosts commands copies clears)
    (any_there (has_any set) set refl inside some)) in
    there (closed family (expand set) && not (expand set == 0)) (has_stages (own_stages family set))
    (at_mask (λ stages. not (closed family stages && not (stages == 0)) || has_stages (owned family stages)) (some_stages family) set)
    (and_from (closed family (expand set)) (not (expand set == 0)) (closed_at family set on) expands)

-- ON A QUEUE

no_host : (set : ℕ) → meets set host ≡ false → has set host ≡ false
no_host set none = go (bit_and set host == 0) refl
  where
    go : (b : Bool) → (bit_and set host == 0) ≡ b → has set host ≡ false
    go true e = ap (λ z. z == host) (eqb-true (bit_and set host) 0 e)
    go false e = absurd (clash (sym none ∙ ap not e))

expands_host : for_all_seven (λ a b c d e f g. d || not (meets (stands a b c d e f g) host)) ≡ true
expands_host = refl

not_of : (b : Bool) → not b ≡ true → b ≡ false
not_of true e = absurd cc
not_of false e = refl

pub own_on_queue : (family : Family) (set : ℕ) → on_queue family set ≡ true → on_queue family (own_stages family set) ≡ true
own_on_queue family set h =
    let own = own_stages family set in
    let none : has set host ≡ false = no_host set (not_of (meets set host) (and_parts (on_family set (family_number family)) (not (meets set host)) h).1) in
    let left : not (meets (expand set) host) ≡ true = subst (λ s. not (meets s host) ≡ true) (sym (as_stands set))
    (or_other (has set host) (not (meets (stands (has set color_attachment_output) (has set compute_shader) (has set all_transfer) (has set host) (has set all_commands) (has set copy) (has set clear)) host))
    (all_seven (λ a b c d e f g. d || not (meets (stands a b c d e f g) host)) expands_host (has set color_attachment_output) (has set compute_shader) (has set all_transfer) (has set host) (has set all_commands) (has set copy) (has set clear))
    none) in
    and_from (on_family own (family_number family)) (not (meets own host)) (own_on_family family set) (ap not (sym (meets_host family set)) ∙ left)
