-- What the view of a program without a fault gives to its device.
use Rattle.std.proofs.Common.{◌≡◌, ◌⊎◌, inl, inr, ℕ, zero, suc, ◌<◌, ◌≤◌, Bool, true, false, List, [], ◌∷◌, length, slice_get, Some, None, if◌then◌else◌, refl, sym, ap, ◌∙◌, subst, ⊎_elim, arith}
use Rattle.std.specs.List.{find}
use Rattle.std.specs.Option.{option_map_or}
use Rattle.std.proofs.lemmas.Bool.{false≢true, cases_lt}
use Rattle.base.proofs.Absence.{some_same}
use Rattle.device_model.specs.Ready.{is_command, kind_at}
use Rattle.device_model.specs.Steps.{store_of, agent_count}
use Rattle.device_model.proofs.Cases.{IsNumbered, IsPlain, of_queue_plain, command_is}
use Rattle.check_order.specs.Edges.{edge, is_host}
use Rattle.check_sync.proofs.Through.{change_plain}
use Rattle.check_access.specs.AccessKinds.{changes, sets_owner, is_acquire}
use Rattle.check_access.specs.ValidView.{ValidView, AccessAt, Has}
use Rattle.check_access.specs.Effects.{access}
use Rattle.check_access.specs.declared.access.Agent.TheVariants.{Host}
use Rattle.check_access.specs.declared.access.AccessKind.TheVariants.{Load}
use Rattle.check_access.specs.Views.{View, accesses_of, queue_at}
use Rattle.check_access.specs.declared.access.Access.{Access}

pub record Formed (V : View) : Type 0 where
  pub shaped : ValidView V
  -- a command stores, and its agents have numbers
  pub stores : (n : ℕ) → n < length V.nodes → is_command (kind_at V n) ≡ true → (a : Access) × Has V n a × (changes a.kind ≡ true)
  pub numbered : (n : ℕ) (a : Access) → Has V n a → is_command (kind_at V n) ≡ true → IsNumbered (agent_count V) a.kind
  -- an acquire is of one piece
  pub acquired : (n : ℕ) (a b : Access) → Has V n a → Has V n b → is_acquire a.kind ≡ true → b.piece ≡ a.piece
  -- a host read is one load, and nothing comes after it
  pub read : (n : ℕ) → is_host (kind_at V n) ≡ true → (a : Access) × (accesses_of V n ≡ a ∷ [])
  pub ends : (x y : ℕ) → edge V.nodes x y ≡ true → is_host (kind_at V x) ≡ true → ⊥

-- LISTS OF ACCESSES

abbrev pub At : List Access → Access → Type 0
At list a = (i : ℕ) × (slice_get list i ≡ Some a)

pub at_first : (a : Access) (rest : List Access) → At (a ∷ rest) a
at_first a rest = (0, refl)

pub at_rest : (a b : Access) (rest : List Access) → At rest a → At (b ∷ rest) a
at_rest a b rest h = (suc h.0, h.1)

pub at_cases : (a b : Access) (rest : List Access) → At (b ∷ rest) a → (a ≡ b) ⊎ At rest a
at_cases a b rest h = go h.0 h.1
  where
    go : (i : ℕ) → slice_get (b ∷ rest) i ≡ Some a → (a ≡ b) ⊎ At rest a
    go zero e = inl (sym (some_same e))
    go (suc i) e = inr (i, e)

pub at_none : (a : Access) → At [] a → ⊥
at_none a h = go h.1
  where
    go : slice_get [] h.0 ≡ Some a → ⊥
    go e = cc

-- the first that passes, where one does
found_first : (test : Access → Bool) (list : List Access) (d c : Access) → At list c → test c ≡ true → At list (option_map_or (λ a. a) (find test list) d) × (test (option_map_or (λ a. a) (find test list) d) ≡ true)
found_first test [] d c h k = absurd (at_none c h)
found_first test (a ∷ rest) d c h k = go (test a) refl (λ g. found_first test rest d c g k)
  where
    later : test a ≡ false → At rest c
    later e = ⊎_elim (λ q. absurd (false≢true (sym e ∙ ap test (sym q) ∙ k))) (λ q. q) (at_cases c a rest h)

    go : (b : Bool) → test a ≡ b → (At rest c → At rest (option_map_or (λ a. a) (find test rest) d) × (test (option_map_or (λ a. a) (find test rest) d) ≡ true)) → At (a ∷ rest) (option_map_or (λ a. a) (if b then Some a else find test rest) d) × (test (option_map_or (λ a. a) (if b then Some a else find test rest) d) ≡ true)
    go true e more = (at_first a rest, e)
    go false e more = let r = more (later e) in (at_rest _ a rest r.0, r.1)

module _ (V : View) (F : Formed V) where
  -- a node changes bytes by one access
  pub one_change : (n : ℕ) (c d : Access) → Has V n c → Has V n d → changes c.kind ≡ true → changes d.kind ≡ true → c ≡ d
  one_change n c d h k a b = go (cases_lt h.0 k.0) (cases_lt k.0 h.0)
    where
      not_after : (i j : ℕ) (x y : Access) → AccessAt V n i x → AccessAt V n j y → changes x.kind ≡ true → changes y.kind ≡ true → i < j → ⊥
      not_after i j x y p q f g lt = false≢true (sym (change_plain y.kind g) ∙ F.shaped.last n i j x y p q lt f)

      go : (h.0 < k.0) ⊎ (k.0 ≤ h.0) → (k.0 < h.0) ⊎ (h.0 ≤ k.0) → c ≡ d
      go (inl lt) r = absurd (not_after h.0 k.0 c d h.1 k.1 a b lt)
      go (inr le) (inl lt) = absurd (not_after k.0 h.0 d c k.1 h.1 b a lt)
      go (inr le) (inr ge) = let e : h.0 ≡ k.0 = omega (arith, le, ge) in some_same (sym h.1 ∙ ap (λ i. slice_get (accesses_of V n) i) e ∙ k.1)

  -- after a node has decided who owns a piece it does nothing
  pub after_owner : (n i j : ℕ) (a b : Access) → AccessAt V n i a → AccessAt V n j b → sets_owner a.kind ≡ true → j ≤ i
  after_owner n i j a b e f s = ⊎_elim (λ lt. absurd (false≢true (sym (F.shaped.final n i j a b e f lt) ∙ s))) (λ le. le) (cases_lt i j)

  pub one_owner : (n : ℕ) (c d : Access) → Has V n c → Has V n d → sets_owner c.kind ≡ true → sets_owner d.kind ≡ true → c ≡ d
  one_owner n c d h k a b =
      let ge = after_owner n h.0 k.0 c d h.1 k.1 a in
      let le = after_owner n k.0 h.0 d c k.1 h.1 b in
      let e : h.0 ≡ k.0 = omega (arith, le, ge) in
      some_same (sym h.1 ∙ ap (λ i. slice_get (accesses_of V n) i) e ∙ k.1)

  pub command_plain : (n : ℕ) (a : Access) → Has V n a → is_command (kind_at V n) ≡ true → IsPlain a.kind
  command_plain n a h cl = of_queue_plain (queue_at V n) a.kind (F.shaped.command n h.0 a h.1 (command_is (kind_at V n) cl))

  -- it is the one that `store_of` finds
  pub of_change : (n : ℕ) (c : Access) → Has V n c → changes c.kind ≡ true → c ≡ store_of V n
  of_change n c h k = let f = found_first (λ a. changes a.kind) (accesses_of V n) (access 0 (Load Host None)) c h k in one_change n c (store_of V n) h f.0 k f.1

  pub has_store : (n : ℕ) → n < length V.nodes → is_command (kind_at V n) ≡ true → Has V n (store_of V n) × (changes (store_of V n).kind ≡ true)
  has_store n lt cl = let a = F.stores n lt cl in let e = of_change n a.0 a.1 a.2 in (subst (λ z. Has V n z) e a.1, ap (λ z. changes z.kind) (sym e) ∙ a.2)
