-- Tables of nodes that grow by one entry.
use Rattle.std.proofs.Common.{◌≡◌, ℕ, ◌+◌, ◌<◌, ◌≤◌, ◌++◌, List, [], ◌∷◌, Option, length, map, get_or, sym, ap, ◌∙◌, arith}
use Rattle.std.proofs.lemmas.List.FromFn.{map-range_with_len_more, length-map-range_with_len, get_or-map-range_with_len}
use Rattle.std.proofs.lemmas.List.{length-map}
use Rattle.check_order.specs.Edges.{node_at}
use Rattle.check_order.specs.Internal.Tables.{link_of, links_until}
use Rattle.check_order.specs.declared.node.Node.{Node}

pub one_link : (nodes : List Node) (n : ℕ) (links more : List (Option ℕ)) (link : Option ℕ) → links ≡ links_until nodes n → link ≡ link_of nodes n (node_at nodes n).kind → more ≡ links ++ link ∷ [] → more ≡ links_until nodes (n + 1)
one_link nodes n links more link so_far is grows =
    grows ∙ ap (λ l. l ++ link ∷ []) so_far ∙ ap (λ x. links_until nodes n ++ x ∷ []) is ∙ sym (map-range_with_len_more (λ k. link_of nodes k (node_at nodes k).kind) 0 n n (omega arith))

pub links_length : (nodes now : List Node) (links : List (Option ℕ)) (n : ℕ) → nodes ≡ now → links ≡ links_until nodes (length nodes) → n < length now → n < length links
links_length nodes now links n same is lt =
    let e : length links ≡ length nodes = ap length is ∙ length-map-range_with_len (λ k. link_of nodes k (node_at nodes k).kind) 0 (length nodes) in
    let f : length nodes ≡ length now = ap length same in
    omega (arith, e, f, lt)

pub link_there : (nodes now : List Node) (links : List (Option ℕ)) (n : ℕ) (link : Option ℕ) → nodes ≡ now → links ≡ links_until nodes (length nodes) → n < length now → link ≡ get_or links n link → link ≡ link_of now n (node_at now n).kind
link_there nodes now links n link same is lt e =
    let f : length nodes ≡ length now = ap length same in
    e ∙ ap (λ l. get_or l n link) is ∙ get_or-map-range_with_len (λ k. link_of nodes k (node_at nodes k).kind) 0 (length nodes) n n link (omega (arith, f, lt)) (omega arith) ∙ ap (λ l. link_of l n (node_at l n).kind) same

pub as_many : {X Y : Type 0} (f : X → Y) (xs : List X) (ys : List Y) (bound : ℕ) → ys ≡ map f xs → length xs ≤ bound → length ys ≤ bound
as_many f xs ys bound is few = let e : length ys ≡ length xs = ap length is ∙ length-map xs f in omega (arith, e, few)
