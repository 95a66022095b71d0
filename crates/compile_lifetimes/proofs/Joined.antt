-- A unit's groups are joined by needs, from the first to the last.
use Rattle.std.proofs.Common.{◌≡◌, ◌⊎◌, inl, inr, ℕ, zero, suc, ◌<◌, ◌≤◌, ◌+◌, ◌==◌, ◌&&◌, nat_lt, length, get_or, true, refl, sym, subst, ◌∙◌, arith, Bool, List, eq-eqb, eqb-true, zero-add}
use Rattle.std.specs.List.{Any, list_any, range_with_len}
use Rattle.std.proofs.lemmas.Bool.{and_from, or_right}
use Rattle.std.proofs.lemmas.List.Folds.{Any-from_list_any, list_any_at}
use Rattle.std.proofs.lemmas.List.FromFn.{length-range_with_len, get_or-range_with_len}
use Rattle.compile_groups.specs.Laws.{IsGrouped}
use Rattle.compile_groups.specs.Needs.{group_at, has_unit, has_command, goes_on, is_member, needs, leads, queue_of}
use Rattle.compile_groups.specs.Uses.{no_use}
use Rattle.compile_groups.specs.declared.grouping.Grouping.{Grouping}
use Rattle.compile_groups.specs.declared.unit_use.Use.{Use}
use Rattle.compile_lifetimes.specs.Internal.Leading.{needs_by}
use Rattle.compile_lifetimes.specs.Internal.Lifetimes.{IsLifetime}
use Rattle.compile_lifetimes.specs.declared.lifetime.Lifetime.{Lifetime}
use Rattle.compile_lifetimes.proofs.Sides.{has_use, some_member}
use Rattle.base_reach.specs.Paths.{Path, one, then_on}

pub of_range : (p : ℕ → Bool) (n g : ℕ) → g < n → p g ≡ true → list_any p (range_with_len 0 n) ≡ true
of_range p n g lt holds = list_any_at p (range_with_len 0 n) g 0 (subst (λ m. g < m) (sym (length-range_with_len 0 n)) lt) (subst (λ z. p z ≡ true) (sym (get_or-range_with_len 0 n g 0 lt ∙ zero-add g)) holds)

-- a use by the command
pub record UseBy (uses : List Use) (c : ℕ) : Type 0 where
  pub place : ℕ
  pub use_at : Use
  pub within : place < length uses
  pub by_it : (get_or uses place use_at).command ≡ c

pub use_by : (uses : List Use) (c : ℕ) → has_command c uses ≡ true → UseBy uses c
use_by uses c e = go (Any-from_list_any (λ u. u.command == c) uses e)
  where
    go : Any (λ u. (u.command == c) ≡ true) uses → UseBy uses c
    go (k, u, lt, at, is) = record { place = k; use_at = u; within = lt; by_it = subst (λ (w : Use). w.command ≡ c) (sym at) (eqb-true u.command c is) }

pub has_by : (uses : List Use) (k : ℕ) (d : Use) → k < length uses → has_command (get_or uses k d).command uses ≡ true
has_by uses k d lt = list_any_at (λ (u : Use). u.command == (get_or uses k d).command) uses k d lt (eq-eqb (get_or uses k d).command (get_or uses k d).command refl)

module _ (G : Grouping) (L : IsGrouped G) (unit : ℕ) (life : Lifetime) (I : IsLifetime G unit life) where
  -- each use of a group leads to each of the next one
  leads_on : (g : ℕ) → life.first ≤ g → suc g ≤ life.last → (c d : ℕ) → is_member G c g ≡ true → is_member G d (suc g) ≡ true → Path (leads G) c d
  leads_on g from to c d in-this in-next =
      let within = I.within in
      let u = use_by (group_at G g) c in-this in
      let v = use_by (group_at G (suc g)) d in-next in
      let of-this = I.own g from (omega (arith, to)) u.place u.use_at u.within in
      let of-next = I.own (suc g) (omega (arith, from)) to v.place v.use_at v.within in
      let on : goes_on G g ≡ true = list_any_at (λ (w : Use). has_unit w.unit (group_at G (suc g))) (group_at G g) u.place u.use_at u.within (has_use (group_at G (suc g)) (get_or (group_at G g) u.place u.use_at).unit v.place v.use_at v.within (of-next ∙ sym of-this)) in
      let need : needs G c d ≡ true = of_range (needs_by G c d) (length G.groups) g (omega (arith, to, within)) (and_from (goes_on G g) (is_member G c g && is_member G d (suc g)) on (and_from (is_member G c g) (is_member G d (suc g)) in-this in-next)) in
      one (or_right (nat_lt c d && (nat_lt d (length G.commands) && queue_of G c == queue_of G d)) (needs G c d) need)

  joined : {a b c : ℕ} → Path (leads G) a b → (b ≡ c) ⊎ Path (leads G) b c → Path (leads G) a c
  joined p (inl e) = subst (Path (leads G) _) e p
  joined p (inr q) = then_on p q

  joined_to : {a b c : ℕ} → (a ≡ b) ⊎ Path (leads G) a b → Path (leads G) b c → Path (leads G) a c
  joined_to {c = c} (inl e) q = subst (λ x. Path (leads G) x c) (sym e) q
  joined_to (inr p) q = then_on p q

  -- a command of a group is one of the last group, or leads to one
  pub to_last : (n g c : ℕ) → life.first ≤ g → g + n ≡ life.last → is_member G c g ≡ true → (e : ℕ) × (is_member G e life.last ≡ true) × ((c ≡ e) ⊎ Path (leads G) c e)
  to_last zero g c from end in-this =
      let here : g ≡ life.last = omega (arith, end) in
      (c, subst (λ h. is_member G c h ≡ true) here in-this, inl refl)
  to_last (suc n) g c from end in-this =
      let within = I.within in
      let next : suc g < length G.groups = omega (arith, end, within) in
      let some = some_member G L (suc g) next in
      let d : ℕ = (get_or (group_at G (suc g)) 0 no_use).command in
      let in-next : is_member G d (suc g) ≡ true = has_by (group_at G (suc g)) 0 no_use some in
      let rest = to_last n (suc g) d (omega (arith, from)) (omega (arith, end)) in-next in
      (rest.0, rest.1, inr (joined (leads_on g from (omega (arith, end)) c d in-this in-next) rest.2))

  -- a command of a group is one of the first group, or one of these leads to it
  pub from_first : (n d : ℕ) → life.first + n ≤ life.last → is_member G d (life.first + n) ≡ true → (e : ℕ) × (is_member G e life.first ≡ true) × ((e ≡ d) ⊎ Path (leads G) e d)
  from_first zero d most in-this =
      let here : life.first + zero ≡ life.first = omega arith in
      (d, subst (λ h. is_member G d h ≡ true) here in-this, inl refl)
  from_first (suc n) d most in-this =
      let within = I.within in
      let after : life.first + suc n ≡ suc (life.first + n) = omega arith in
      let at : life.first + n < length G.groups = omega (arith, most, within) in
      let c : ℕ = (get_or (group_at G (life.first + n)) 0 no_use).command in
      let in-before : is_member G c (life.first + n) ≡ true = has_by (group_at G (life.first + n)) 0 no_use (some_member G L (life.first + n) at) in
      let rest = from_first n c (omega (arith, most)) in-before in
      (rest.0, rest.1, inr (joined_to rest.2 (leads_on (life.first + n) (omega arith) (omega (arith, most)) c d in-before (subst (λ h. is_member G d h ≡ true) after in-this))))
