-- What a command does by the role of an operand, as a use of a unit says it.
use Rattle.std.proofs.Common.{◌≡◌, ℕ, ◌==◌, not, Bool, true, false, Option, Some, refl, sym, ap, ◌∙◌, subst, eq-eqb, eqb-true}
use Rattle.base.proofs.Booleans.{clash}
use Rattle.std.specs.Prelude.{unwrap_or}
use Rattle.base.specs.declared.role.Role.{Role}
use Rattle.base.specs.declared.role.Role.TheVariants.{CopyRead, CopyWrite, ClearWrite, Sampled, StorageRead, StorageWrite, Attachment}
use Rattle.vk.specs.Agents.{agents}
use Rattle.vk.specs.Roles.{role_stage, load_access, store_access}
use Rattle.vk.specs.Sets.{meets}
use Rattle.vk.specs.Stages.{expand}
use Rattle.vk.specs.declared.layout.Layout.{Layout}
use Rattle.law_sound.proofs.Bits.{meets_more, agents_more}
use Rattle.compile_groups.specs.Uses.{is_write, role_accesses, role_writes}
use Rattle.compile_groups.specs.declared.unit_use.Use.{Use}
use Rattle.law_valid.proofs.Bits.{Inside, empty_inside, inside_self, inside_then, inside_left, inside_right, expand_more}
use Rattle.check_access.specs.AccessKinds.{changes}
use Rattle.check_access.specs.Effects.{role_agent}
use Rattle.check_access.specs.declared.access.AccessKind.{AccessKind}
use Rattle.check_access.specs.declared.access.AccessKind.TheVariants.{Load, Store}

-- a load or a store by an agent of queue q, as the use says
pub data IsBy (q : ℕ) (u : Use) (kind : AccessKind) : Type 0 where
  by_load : (role : Role) (whole : Bool) (bits : ℕ) (layout : Option Layout) → load_access role whole ≡ Some bits → u.stage.0 ≡ role_stage role → Inside bits u.accesses.0 → kind ≡ Load (role_agent q role bits) layout → IsBy q u kind
  by_store : (role : Role) (bits : ℕ) (layout : Option Layout) → store_access role ≡ Some bits → u.stage.0 ≡ role_stage role → Inside bits u.accesses.0 → Inside bits u.writes.0 → kind ≡ Store (role_agent q role bits) layout → IsBy q u kind

-- STAGES

own_after : (role : Role) → meets (role_stage role) (expand (role_stage role)) ≡ true
own_after CopyRead = refl
own_after CopyWrite = refl
own_after ClearWrite = refl
own_after Sampled = refl
own_after StorageRead = refl
own_after StorageWrite = refl
own_after (Attachment load) = refl

own_before : (role : Role) → meets (expand (role_stage role)) (role_stage role) ≡ true
own_before CopyRead = refl
own_before CopyWrite = refl
own_before ClearWrite = refl
own_before Sampled = refl
own_before StorageRead = refl
own_before StorageWrite = refl
own_before (Attachment load) = refl

-- stages that have that of a role wait for it, and it waits for them
pub after_role : (role : Role) (stages : ℕ) → Inside (role_stage role) stages → meets (role_stage role) (expand stages) ≡ true
after_role role stages h = meets_more (role_stage role) (role_stage role) (expand (role_stage role)) (expand stages) (inside_self (role_stage role)) (expand_more (role_stage role) stages h) (own_after role)

pub before_role : (role : Role) (stages : ℕ) → Inside (role_stage role) stages → meets (expand stages) (role_stage role) ≡ true
before_role role stages h = meets_more (expand (role_stage role)) (expand stages) (role_stage role) (role_stage role) (expand_more (role_stage role) stages h) (inside_self (role_stage role)) (own_before role)

-- AGENTS

abbrev own : Role → ℕ → ℕ
own role bits = agents (role_stage role) bits

-- each load and store is made by some agent
load_own : (role : Role) (whole : Bool) (bits : ℕ) → load_access role whole ≡ Some bits → meets (own role bits) (own role bits) ≡ true
load_own CopyRead whole bits e = ap (λ o. meets (own CopyRead (unwrap_or o 0)) (own CopyRead (unwrap_or o 0))) (sym e)
load_own CopyWrite true bits e = absurd cc
load_own CopyWrite false bits e = ap (λ o. meets (own CopyWrite (unwrap_or o 0)) (own CopyWrite (unwrap_or o 0))) (sym e)
load_own ClearWrite true bits e = absurd cc
load_own ClearWrite false bits e = ap (λ o. meets (own ClearWrite (unwrap_or o 0)) (own ClearWrite (unwrap_or o 0))) (sym e)
load_own Sampled whole bits e = ap (λ o. meets (own Sampled (unwrap_or o 0)) (own Sampled (unwrap_or o 0))) (sym e)
load_own StorageRead whole bits e = ap (λ o. meets (own StorageRead (unwrap_or o 0)) (own StorageRead (unwrap_or o 0))) (sym e)
load_own StorageWrite whole bits e = absurd cc
load_own (Attachment true) whole bits e = ap (λ o. meets (own (Attachment true) (unwrap_or o 0)) (own (Attachment true) (unwrap_or o 0))) (sym e)
load_own (Attachment false) whole bits e = absurd cc

store_own : (role : Role) (bits : ℕ) → store_access role ≡ Some bits → meets (own role bits) (own role bits) ≡ true
store_own CopyRead bits e = absurd cc
store_own CopyWrite bits e = ap (λ o. meets (own CopyWrite (unwrap_or o 0)) (own CopyWrite (unwrap_or o 0))) (sym e)
store_own ClearWrite bits e = ap (λ o. meets (own ClearWrite (unwrap_or o 0)) (own ClearWrite (unwrap_or o 0))) (sym e)
store_own Sampled bits e = absurd cc
store_own StorageRead bits e = absurd cc
store_own StorageWrite bits e = ap (λ o. meets (own StorageWrite (unwrap_or o 0)) (own StorageWrite (unwrap_or o 0))) (sym e)
store_own (Attachment load) bits e = ap (λ o. meets (own (Attachment load) (unwrap_or o 0)) (own (Attachment load) (unwrap_or o 0))) (sym e)

more_own : (role : Role) (bits stages accesses : ℕ) → Inside (role_stage role) stages → Inside bits accesses → meets (own role bits) (own role bits) ≡ true → meets (agents stages accesses) (own role bits) ≡ true
more_own role bits stages accesses h k m = meets_more (own role bits) (agents stages accesses) (own role bits) (own role bits) (agents_more (role_stage role) stages bits accesses h k) (inside_self (own role bits)) m

-- it is an agent of masks that have the stage and the access
pub load_agent : (role : Role) (whole : Bool) (bits stages accesses : ℕ) → load_access role whole ≡ Some bits → Inside (role_stage role) stages → Inside bits accesses → meets (agents stages accesses) (agents (role_stage role) bits) ≡ true
load_agent role whole bits stages accesses e h k = more_own role bits stages accesses h k (load_own role whole bits e)

pub store_agent : (role : Role) (bits stages accesses : ℕ) → store_access role ≡ Some bits → Inside (role_stage role) stages → Inside bits accesses → meets (agents stages accesses) (agents (role_stage role) bits) ≡ true
store_agent role bits stages accesses e h k = more_own role bits stages accesses h k (store_own role bits e)

-- WHAT A USE SAYS OF ITS ROLE

pub loads_said : (role : Role) (whole : Bool) (bits : ℕ) → load_access role whole ≡ Some bits → Inside bits (role_accesses role whole)
loads_said role whole bits e = subst (λ o. Inside (unwrap_or o 0) (role_accesses role whole)) e (inside_left (unwrap_or (load_access role whole) 0) (role_writes role))

pub writes_said : (role : Role) (bits : ℕ) → store_access role ≡ Some bits → Inside bits (role_writes role)
writes_said role bits e = subst (λ o. Inside (unwrap_or o 0) (role_writes role)) e (inside_self (role_writes role))

pub stores_said : (role : Role) (whole : Bool) (bits : ℕ) → store_access role ≡ Some bits → Inside bits (role_accesses role whole)
stores_said role whole bits e = inside_then bits (role_writes role) (role_accesses role whole) (writes_said role bits e) (inside_right (unwrap_or (load_access role whole) 0) (role_writes role))

-- A CHANGE IS A WRITE

pub store_some : (role : Role) (bits : ℕ) → store_access role ≡ Some bits → (bits == 0) ≡ false
store_some CopyRead bits e = absurd cc
store_some CopyWrite bits e = ap (λ o. unwrap_or o 0 == 0) (sym e)
store_some ClearWrite bits e = ap (λ o. unwrap_or o 0 == 0) (sym e)
store_some Sampled bits e = absurd cc
store_some StorageRead bits e = absurd cc
store_some StorageWrite bits e = ap (λ o. unwrap_or o 0 == 0) (sym e)
store_some (Attachment load) bits e = ap (λ o. unwrap_or o 0 == 0) (sym e)

pub changes_write : (q : ℕ) (u : Use) (kind : AccessKind) → IsBy q u kind → changes kind ≡ true → is_write u ≡ true
changes_write q u kind (by_load role whole bits layout e stage said is) c = absurd (clash (sym (ap changes is) ∙ c))
changes_write q u kind (by_store role bits layout e stage said writes is) c = go (u.writes.0 == 0) refl
  where
    go : (b : Bool) → (u.writes.0 == 0) ≡ b → not b ≡ true
    go false h = refl
    go true h = absurd (clash (sym (store_some role bits e) ∙ eq-eqb bits 0 (empty_inside bits u.writes.0 writes (eqb-true u.writes.0 0 h))))
