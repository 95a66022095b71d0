-- Commands one after another.
use Rattle.std.proofs.Common.{◌≡◌, ℕ, suc, ◌+◌, ◌<◌, List, [], ◌∷◌, ◌++◌, length, get_or, drop, sym, ap, ◌∙◌, append_assoc, add-one}
use Rattle.std.specs.Prelude.{OnOk, Result, Ok, Err}
use Rattle.std.proofs.Math.Seq.{drop-cons}
use Rattle.compile_groups.specs.declared.command.Command.{Command}
use Rattle.compile_groups.specs.declared.grouping.Grouping.{Grouping}
use Rattle.compile_record.specs.Script.{block, blocks}
use Rattle.compile_record.specs.declared.mark.Marked.{Marked}
use Rattle.compile_barriers.specs.Under.{Heap}

-- where the last call answered
pub on_ok : {E P Q : Type 0} (r : Result (Unit {0}) E) → (P → Q) → OnOk r P → OnOk r Q
on_ok (Ok x) f p = f p
on_ok (Err x) f p = p

-- five parts
pub whole : {X : Type 0} (s0 s1 s2 s3 s4 s5 a b d e : List X) (x : X) → s1 ≡ s0 ++ a → s2 ≡ s1 ++ b → s3 ≡ s2 ++ x ∷ [] → s4 ≡ s3 ++ d → s5 ≡ s4 ++ e → s5 ≡ s0 ++ (((a ++ b) ++ (x ∷ d)) ++ e)
whole s0 s1 s2 s3 s4 s5 a b d e x e1 e2 e3 e4 e5 =
    e5
    ∙ ap (λ l. l ++ e) (e4 ∙ ap (λ l. l ++ d) (e3 ∙ ap (λ l. l ++ x ∷ []) (e2 ∙ ap (λ l. l ++ b) e1)))
    ∙ simp append_assoc

pub blocks_more : (G : Grouping) (heap : Heap) (commands : List Command) (c : ℕ) (command : Command) (list more total : List Marked) → c < length commands → command ≡ get_or commands c command → list ++ blocks G heap c (drop c commands) ≡ total → more ≡ list ++ block G heap c command → more ++ blocks G heap (c + 1) (drop (c + 1) commands) ≡ total
blocks_more G heap commands c command list more total lt is so_far grows =
    let rest = blocks G heap (suc c) (drop (suc c) commands) in
    let first : blocks G heap c (drop c commands) ≡ block G heap c command ++ rest = ap (blocks G heap c) (drop-cons commands c command lt ∙ ap (λ x. x ∷ drop (suc c) commands) (sym is)) in
    ap (λ n. more ++ blocks G heap n (drop n commands)) (add-one c)
    ∙ ap (λ l. l ++ rest) grows
    ∙ append_assoc list (block G heap c command) rest
    ∙ ap (λ l. list ++ l) (sym first)
    ∙ so_far
