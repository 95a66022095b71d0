-- Numbers that are given out one after another, and lists that grow with them.
use Rattle.std.proofs.Common.{◌≡◌, ℕ, suc, ◌+◌, ◌<◌, ◌≤◌, Bool, true, false, List, [], ◌∷◌, ◌++◌, length, map, get_or, if◌then◌else◌, sym, ap, ap₂, ◌∙◌, subst, arith}
use Rattle.std.specs.List.{count_by, filter, range_with_len}
use Rattle.std.proofs.lemmas.List.{append_assoc, append-nil, map-append}
use Rattle.std.proofs.lemmas.List.Elements.{filter-append}
use Rattle.std.proofs.lemmas.List.FromFn.{length-range_with_len, length-map-range_with_len, get_or-map-range_with_len}
use Rattle.std.proofs.lemmas.List.Sums.{count_by-le-length, sum_by_push}
use Rattle.base.proofs.Lists.{range_more}
use Rattle.compile_groups.specs.declared.grouping.Grouping.{Grouping}
use Rattle.compile_record.specs.Internal.Resources.{AreFew, resource_at, all_resources, assigned_below, next_resource, next_assigned, one_if, is_placed}
use Rattle.compile_record.specs.Pieces.{has_piece, has_memory}
use Rattle.compile_record.specs.declared.resource.Assigned.{Assigned}
use Rattle.compile_record.specs.declared.resource.Resource.{Resource}

range_next : (n : ℕ) → range_with_len 0 (n + 1) ≡ range_with_len 0 n ++ n ∷ []
range_next n =
    let s : n + 1 ≡ suc n = omega arith in
    let z : 0 + n ≡ n = omega arith in
    ap (range_with_len 0) s ∙ range_more 0 n n z

-- ONE NUMBER MORE

count_more : (p : ℕ → Bool) (n : ℕ) → count_by p (range_with_len 0 (n + 1)) ≡ count_by p (range_with_len 0 n) + one_if (p n)
count_more p n = ap (count_by p) (range_next n) ∙ sum_by_push (λ x. one_if (p x)) (range_with_len 0 n) n

pub mapped_more : {X : Type 0} (front : List X) (f : ℕ → X) (p : ℕ → Bool) (n : ℕ) (list more : List X) → list ≡ front ++ map f (filter p (range_with_len 0 n)) → more ≡ (if p n then list ++ f n ∷ [] else list) → more ≡ front ++ map f (filter p (range_with_len 0 (n + 1)))
mapped_more front f p n list more e m =
    m ∙ ap (λ l. if p n then l ++ f n ∷ [] else l) e ∙ go (p n)
    ∙ sym (ap (λ l. front ++ map f (filter p l)) (range_next n) ∙ ap (λ l. front ++ map f l) (filter-append p (range_with_len 0 n) (n ∷ [])))
  where
    go : (b : Bool) → (if b then (front ++ map f (filter p (range_with_len 0 n))) ++ f n ∷ [] else front ++ map f (filter p (range_with_len 0 n))) ≡ front ++ map f (filter p (range_with_len 0 n) ++ (if b then n ∷ [] else []))
    go true = append_assoc front (map f (filter p (range_with_len 0 n))) (f n ∷ []) ∙ ap (λ l. front ++ l) (sym (map-append f (filter p (range_with_len 0 n)) (n ∷ [])))
    go false = ap (λ l. front ++ map f l) (sym (append-nil (filter p (range_with_len 0 n))))

-- ALL NUMBERS

count-few : (p : ℕ → Bool) (n most : ℕ) → n ≤ most → count_by p (range_with_len 0 n) ≤ most
count-few p n most le = omega (arith, le, count_by-le-length p (range_with_len 0 n), length-range_with_len 0 n)

pub assigned-few : (G : Grouping) (r : ℕ) (assigned : Assigned) → r ≤ 288 → assigned ≡ assigned_below G r → AreFew assigned
assigned-few G r assigned le is = subst AreFew (sym is) (record {
  pieces = count-few (has_piece G) r 288 le;
  memories = count-few (has_memory G) r 288 le;
  places = count-few (is_placed G) r 288 le;
})

made : (m n a b p q : ℕ) → m ≡ n → a ≡ b → p ≡ q → (let assigned : Assigned = record { pieces = m; memories = a; places = p } in assigned) ≡ record { pieces = n; memories = b; places = q }
made m n a b p q e f g =
    ap₂ (λ (x y : ℕ). let assigned : Assigned = record { pieces = x; memories = y; places = p } in assigned) e f
    ∙ ap (λ (z : ℕ). let assigned : Assigned = record { pieces = n; memories = b; places = z } in assigned) g

pub assigned_more : (G : Grouping) (r : ℕ) (assigned more : Assigned) (piece memory : Bool) → assigned ≡ assigned_below G r → piece ≡ has_piece G r → memory ≡ has_memory G r → more ≡ next_assigned assigned piece memory → more ≡ assigned_below G (r + 1)
assigned_more G r assigned more piece memory is of_piece of_memory e =
    e ∙ ap₂ (next_assigned assigned) of_piece of_memory
    ∙ ap (λ (g : Assigned). next_assigned g (has_piece G r) (has_memory G r)) is
    ∙ made (count_by (has_piece G) (range_with_len 0 r) + one_if (has_piece G r)) (count_by (has_piece G) (range_with_len 0 (r + 1)))
    (count_by (has_memory G) (range_with_len 0 r) + one_if (has_memory G r)) (count_by (has_memory G) (range_with_len 0 (r + 1)))
    (count_by (is_placed G) (range_with_len 0 r) + one_if (is_placed G r)) (count_by (is_placed G) (range_with_len 0 (r + 1)))
    (sym (count_more (has_piece G) r)) (sym (count_more (has_memory G) r)) (sym (count_more (is_placed G) r))

-- RESOURCES

pub resource_more : (G : Grouping) (r : ℕ) (assigned : Assigned) (piece memory : Bool) (resource : Resource) (list more : List Resource) → assigned ≡ assigned_below G r → piece ≡ has_piece G r → memory ≡ has_memory G r → resource ≡ next_resource assigned piece memory → list ≡ map (resource_at G) (range_with_len 0 r) → more ≡ list ++ resource ∷ [] → more ≡ map (resource_at G) (range_with_len 0 (r + 1))
resource_more G r assigned piece memory resource list more is of_piece of_memory e so_far m =
    let here : resource ≡ resource_at G r = e ∙ ap₂ (next_resource assigned) of_piece of_memory ∙ ap (λ (g : Assigned). next_resource g (has_piece G r) (has_memory G r)) is in
    m ∙ ap₂ (λ l x. l ++ x ∷ []) so_far here ∙ sym (ap (map (resource_at G)) (range_next r) ∙ map-append (resource_at G) (range_with_len 0 r) (r ∷ []))

pub resource_there : (G : Grouping) (resources : List Resource) (r : ℕ) (d : Resource) → resources ≡ all_resources G → r < length G.shapes → get_or resources r d ≡ resource_at G r
resource_there G resources r d is lt =
    let zero_more : 0 + r ≡ r = omega arith in
    ap (λ l. get_or l r d) is ∙ get_or-map-range_with_len (resource_at G) 0 (length G.shapes) r r d lt zero_more

pub resources_count : (G : Grouping) (resources : List Resource) → resources ≡ all_resources G → length resources ≡ length G.shapes
resources_count G resources is = ap length is ∙ length-map-range_with_len (resource_at G) 0 (length G.shapes)
