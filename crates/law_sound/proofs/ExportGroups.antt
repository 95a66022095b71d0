-- The two groups of each export, by their numbers: that of its copy, and that of the host's read.
use Rattle.std.proofs.Common.{◌≡◌, ℕ, suc, ◌+◌, ◌-◌, ◌*◌, ◌%◌, ◌<◌, ◌≤◌, ◌==◌, ◌&&◌, nat_lt, not, true, false, length, refl, ap, eq-eqb, eqb-true, arith}
use Rattle.std.proofs.lemmas.Bool.{and_from, and_parts, le-ltb, lt-ltb, ltb-true, ltb-false, not-true}
use Rattle.law_sound.specs.Plan.{export_at, export_count, group_count, is_copy, is_of_export, is_of_unit, is_read}
use Rattle.compile_groups.specs.declared.grouping.Grouping.{Grouping}

abbrev pub copy_group : Grouping → ℕ → ℕ
copy_group G k = length G.groups + k * 2

abbrev pub read_group : Grouping → ℕ → ℕ
read_group G k = suc (copy_group G k)

-- a group of export k
pub record IsExport (G : Grouping) (g k : ℕ) : Type 0 where
  pub past : length G.groups ≤ g
  pub within : g < group_count G
  pub is : export_at G g ≡ k
  pub known : k < export_count G

module _ (G : Grouping) where
  export_there : (g : ℕ) → length G.groups ≤ g → g < group_count G → is_of_export G g ≡ true
  export_there g le lt = and_from (not (is_of_unit G g)) (nat_lt g (group_count G)) (ap not (le-ltb g (length G.groups) le)) (lt-ltb g (group_count G) lt)

  export_parts : (g : ℕ) → is_of_export G g ≡ true → IsExport G g (export_at G g)
  export_parts g e =
      let both = and_parts (not (is_of_unit G g)) (nat_lt g (group_count G)) e in
      let past : length G.groups ≤ g = ltb-false g (length G.groups) (not-true (is_of_unit G g) both.0) in
      let within : g < group_count G = ltb-true g (group_count G) both.1 in
      record { past = past; within = within; is = refl; known = omega (arith, past, within) }

  -- NUMBERS OF EXPORTS

  pub copy_export : (k : ℕ) → k < export_count G → IsExport G (copy_group G k) k
  copy_export k lt = record { past = omega arith; within = omega (arith, lt); is = omega arith; known = lt }

  pub read_export : (k : ℕ) → k < export_count G → IsExport G (read_group G k) k
  read_export k lt = record { past = omega arith; within = omega (arith, lt); is = omega arith; known = lt }

  pub copy_is : (k : ℕ) → k < export_count G → is_copy G (copy_group G k) ≡ true
  copy_is k lt =
      let X = copy_export k lt in
      let even : (copy_group G k - length G.groups) % 2 ≡ 0 = omega arith in
      and_from (is_of_export G (copy_group G k)) ((copy_group G k - length G.groups) % 2 == 0) (export_there (copy_group G k) X.past X.within) (eq-eqb ((copy_group G k - length G.groups) % 2) 0 even)

  pub read_is : (k : ℕ) → k < export_count G → is_read G (read_group G k) ≡ true
  read_is k lt =
      let X = read_export k lt in
      let odd : (read_group G k - length G.groups) % 2 ≡ 1 = omega arith in
      and_from (is_of_export G (read_group G k)) ((read_group G k - length G.groups) % 2 == 1) (export_there (read_group G k) X.past X.within) (eq-eqb ((read_group G k - length G.groups) % 2) 1 odd)

  -- AND BACK

  pub copy_parts : (g : ℕ) → is_copy G g ≡ true → IsExport G g (export_at G g)
  copy_parts g e = export_parts g (and_parts (is_of_export G g) ((g - length G.groups) % 2 == 0) e).0

  pub read_parts : (g : ℕ) → is_read G g ≡ true → IsExport G g (export_at G g)
  read_parts g e = export_parts g (and_parts (is_of_export G g) ((g - length G.groups) % 2 == 1) e).0

  pub read_number : (g : ℕ) → is_read G g ≡ true → g ≡ read_group G (export_at G g)
  read_number g e =
      let X = read_parts g e in
      let past = X.past in
      let odd = eqb-true ((g - length G.groups) % 2) 1 (and_parts (is_of_export G g) ((g - length G.groups) % 2 == 1) e).1 in
      omega (arith, past, odd)

  -- that of a copy is not that of a read
  pub not_both : (g : ℕ) → is_copy G g ≡ true → is_read G g ≡ true → ⊥
  not_both g c r =
      let even = eqb-true ((g - length G.groups) % 2) 0 (and_parts (is_of_export G g) ((g - length G.groups) % 2 == 0) c).1 in
      let odd = eqb-true ((g - length G.groups) % 2) 1 (and_parts (is_of_export G g) ((g - length G.groups) % 2 == 1) r).1 in
      omega (arith, even, odd)

  -- groups of units are of no export
  pub no_export : (g : ℕ) → g < length G.groups → is_of_export G g ≡ false
  no_export g lt = ap (λ b. not b && nat_lt g (group_count G)) (lt-ltb g (length G.groups) lt)

  pub no_read : (g : ℕ) → g < length G.groups → is_read G g ≡ false
  no_read g lt = ap (λ b. b && ((g - length G.groups) % 2 == 1)) (no_export g lt)
