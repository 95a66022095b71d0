-- Lists of nodes of the same kinds on the same queues.
use Rattle.std.proofs.Common.{◌≡◌, ℕ, zero, suc, ◌+◌, Bool, ◌||◌, ◌&&◌, ◌==◌, nat_lt, not, List, [], ◌∷◌, length, drop, map, Option, Some, None, cond, refl, ap, ◌∙◌}
use Rattle.std.specs.List.{position, position_or_len}
use Rattle.std.specs.Option.{option_map}
use Rattle.check_order.specs.Edges.{is_host, is_signal, has_value, signals, reaches, node_at, next_signal, meeting, goes_to, signalled, is_at}
use Rattle.check_order.specs.declared.kind.Kind.{Kind}
use Rattle.check_order.specs.declared.kind.Kind.TheVariants.{Command, Barrier, Wait, Signal, Host}
use Rattle.check_order.specs.declared.node.Node.{Node}

pub record Like (a b : Node) : Type 0 where
  pub kind : a.kind ≡ b.kind
  pub queue : a.queue ≡ b.queue

abbrev pub Likes : List Node → List Node → Type 0
Likes [] [] = Unit {0}
Likes [] (b ∷ ys) = ⊥
Likes (a ∷ xs) [] = ⊥
Likes (a ∷ xs) (b ∷ ys) = Like a b × Likes xs ys

pub mapped : {X : Type 0} (f g : X → Node) (xs : List X) → ((x : X) → Like (f x) (g x)) → Likes (map f xs) (map g xs)
mapped f g [] h = tt
mapped f g (x ∷ xs) h = (h x, mapped f g xs h)

pub node_like : (xs ys : List Node) (n : ℕ) → Likes xs ys → Like (node_at xs n) (node_at ys n)
node_like [] [] n h = record { kind = refl; queue = refl }
node_like [] (b ∷ ys) n h = absurd h
node_like (a ∷ xs) [] n h = absurd h
node_like (a ∷ xs) (b ∷ ys) zero h = h.0
node_like (a ∷ xs) (b ∷ ys) (suc n) h = node_like xs ys n h.1

pub length_same : (xs ys : List Node) → Likes xs ys → length xs ≡ length ys
length_same [] [] h = refl
length_same [] (b ∷ ys) h = absurd h
length_same (a ∷ xs) [] h = absurd h
length_same (a ∷ xs) (b ∷ ys) h = ap (λ n. suc n) (length_same xs ys h.1)

dropped : (xs ys : List Node) (n : ℕ) → Likes xs ys → Likes (drop n xs) (drop n ys)
dropped xs ys zero h = h
dropped [] [] (suc n) h = tt
dropped [] (b ∷ ys) (suc n) h = absurd h
dropped (a ∷ xs) [] (suc n) h = absurd h
dropped (a ∷ xs) (b ∷ ys) (suc n) h = dropped xs ys n h.1

-- tests that see the kind and the queue alone
abbrev Fair : (Node → Bool) → Type 0
Fair p = (a b : Node) → Like a b → p a ≡ p b

place : (p : Node → Bool) (xs ys : List Node) → Fair p → Likes xs ys → position_or_len p xs ≡ position_or_len p ys
place p [] [] f h = refl
place p [] (b ∷ ys) f h = absurd h
place p (a ∷ xs) [] f h = absurd h
place p (a ∷ xs) (b ∷ ys) f h = ap (λ t. cond (not t) (1 + position_or_len p xs) 0) (f a b h.0) ∙ ap (λ n. cond (not (p b)) (1 + n) 0) (place p xs ys f h.1)

same_position : (p : Node → Bool) (xs ys : List Node) → Fair p → Likes xs ys → position p xs ≡ position p ys
same_position p xs ys f h =
    ap (λ n. cond (nat_lt n (length xs)) (Some n) None) (place p xs ys f h)
    ∙ ap (λ m. cond (nat_lt (position_or_len p ys) m) (Some (position_or_len p ys)) None) (length_same xs ys h)

fair_signals : (q : ℕ) → Fair (signals q)
fair_signals q a b h = ap (λ z. (z == q) && is_signal a.kind) h.queue ∙ ap (λ k. (b.queue == q) && is_signal k) h.kind

fair_reaches : (q value : ℕ) → Fair (reaches q value)
fair_reaches q value a b h = ap (λ z. (z == q) && has_value value a.kind) h.queue ∙ ap (λ k. (b.queue == q) && has_value value k) h.kind

module _ (xs ys : List Node) (h : Likes xs ys) where
  next_same : (n : ℕ) → next_signal xs n ≡ next_signal ys n
  next_same n =
      ap (λ q. option_map (λ k. n + 1 + k) (position (signals q) (drop (n + 1) xs))) (node_like xs ys n h).queue
      ∙ ap (λ o. option_map (λ k. n + 1 + k) o) (same_position (signals (node_at ys n).queue) (drop (n + 1) xs) (drop (n + 1) ys) (fair_signals (node_at ys n).queue) (dropped xs ys (n + 1) h))

  pub meeting_of : (kind : Kind) → meeting xs kind ≡ meeting ys kind
  meeting_of (Wait queue value) = same_position (reaches queue value) xs ys (fair_reaches queue value) h
  meeting_of Command = refl
  meeting_of Barrier = refl
  meeting_of (Signal value) = refl
  meeting_of Host = refl

  goes_same : (y : ℕ) (o : Option ℕ) → goes_to xs y o ≡ goes_to ys y o
  goes_same y None = ap (λ k. is_host k) (node_like xs ys y h).kind
  goes_same y (Some n) = refl

  pub link_same : (x y : ℕ) → (signalled xs x y || is_at (meeting xs (node_at xs y).kind) x) ≡ (signalled ys x y || is_at (meeting ys (node_at ys y).kind) x)
  link_same x y =
      let s : signalled xs x y ≡ signalled ys x y =
      ap (λ k. is_signal k && goes_to xs y (next_signal xs x)) (node_like xs ys x h).kind
      ∙ ap (λ t. is_signal (node_at ys x).kind && t) (goes_same y (next_signal xs x) ∙ ap (λ o. goes_to ys y o) (next_same x)) in
      let m : is_at (meeting xs (node_at xs y).kind) x ≡ is_at (meeting ys (node_at ys y).kind) x =
      ap (λ k. is_at (meeting xs k) x) (node_like xs ys y h).kind ∙ ap (λ o. is_at o x) (meeting_of (node_at ys y).kind) in
      ap (λ t. t || is_at (meeting xs (node_at xs y).kind) x) s ∙ ap (λ t. signalled ys x y || t) m
