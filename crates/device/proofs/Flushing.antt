-- What a barrier, wait or signal does to the table is what it does in the state.
use Rattle.std.proofs.Common.{◌≡◌, ◌≢◌, ℕ, zero, suc, ◌-◌, ◌*◌, ◌/◌, ◌%◌, ◌^◌, ◌<◌, ◌≤◌, ◌==◌, ◌&&◌, nat_lt, Bool, true, false, List, [], ◌∷◌, length, get_or, if◌then◌else◌, refl, sym, ap, ap₂, ◌∙◌, ⊎_elim, lt-ltb, eq-eqb, ne_eqb, arith}
use mathlib.Core.Path.{fun_ext}
use Rattle.std.specs.Prelude.{slice_index}
use Rattle.std.proofs.lemmas.Bool.{cases_eq, cases_lt, le-ltb}
use Rattle.vk.specs.Sets.{meets}
use Rattle.device_cache.specs.Effects.{Caches, overwrite}
use Rattle.device_cache.specs.Lines.{Line, written, cleaned, dropped}
use Rattle.device.specs.Internal.Syncs.{has_agent_at, moved_line, moved_one, moved_agents, moved_by, junked, synced_caches}
use Rattle.device.specs.Internal.Tables.{HasBytes}
use Rattle.device.specs.declared.syncing.Move.{Move}
use Rattle.device.specs.declared.syncing.Move.TheVariants.{WriteBack, DropClean}
use Rattle.device.proofs.Junk.{one_junk}
use Rattle.device.proofs.SeenBytes.{in_range}
use Rattle.device_model.specs.Agents.{covers, piece_range, in_scope, flushes_at, shows_at}
use Rattle.device_model.specs.States.{State, junk_at}
use Rattle.device_model.specs.Steps.{flushed, junks, after_junk, agent_count, synced}
use Rattle.program.specs.declared.program.Program.{Program}
use Rattle.check_access.specs.Views.{View, view_of, piece_at, queue_at, effect_at, accesses_of}
use Rattle.check_access.specs.declared.access.Access.{Access}
use Rattle.check_access.specs.declared.effect.Scope.{Scope}
use Rattle.check_access.specs.declared.effect.Scope.TheVariants.{Everywhere, Piece}

-- ONE AGENT

with_true : {X : Type 0} (b : Bool) (x y : X) → (if b then x else y) ≡ (if b && true then x else y)
with_true true x y = refl
with_true false x y = refl

one_line : (V : View) (kind : Move) (k : ℕ) (scope : Scope) (c : Caches) (g m i : ℕ) → (moved_one V kind k scope c).line g m i ≡ (if (g == k) && in_scope V scope m i then moved_line kind (c.line g m i) else c.line g m i)
one_line V WriteBack k Everywhere c g m i = with_true (g == k) (cleaned (c.line g m i)) (c.line g m i)
one_line V WriteBack k (Piece p) c g m i = refl
one_line V DropClean k Everywhere c g m i = with_true (g == k) (dropped (c.line g m i)) (c.line g m i)
one_line V DropClean k (Piece p) c g m i = refl

one_main : (V : View) (k : ℕ) (scope : Scope) (c : Caches) (m i : ℕ) → (moved_one V WriteBack k scope c).main m i ≡ (if in_scope V scope m i then written (c.line k m i) (c.main m i) else c.main m i)
one_main V k Everywhere c m i = refl
one_main V k (Piece p) c m i = refl

one_drop : (V : View) (k : ℕ) (scope : Scope) (c : Caches) → (moved_one V DropClean k scope c).main ≡ c.main
one_drop V k Everywhere c = refl
one_drop V k (Piece p) c = refl

-- AGENT BY AGENT

line_of : (b : Bool) (x y : Caches) (g m i : ℕ) → (if b then x else y).line g m i ≡ (if b then x.line g m i else y.line g m i)
line_of true x y g m i = refl
line_of false x y g m i = refl

main_of : (b : Bool) (x y : Caches) (m i : ℕ) → (if b then x else y).main m i ≡ (if b then x.main m i else y.main m i)
main_of true x y m i = refl
main_of false x y m i = refl

drop_of : (b : Bool) (x y : Caches) → x.main ≡ y.main → (if b then x else y).main ≡ y.main
drop_of true x y e = e
drop_of false x y e = refl

own_step : (p a : Bool) (x y : Line) → (if p then if true && a then x else y else y) ≡ (if true && (p && a) then x else y)
own_step true true x y = refl
own_step true false x y = refl
own_step false a x y = refl

other_step : (p a : Bool) (x y : Line) → (if p then if false && a then x else y else y) ≡ y
other_step true a x y = refl
other_step false a x y = refl

main_step : (p a : Bool) (x y : ℕ) → (if p then if a then x else y else y) ≡ (if p && a then x else y)
main_step true a x y = refl
main_step false a x y = refl

-- a number that is not k is below k exactly where it is below the next
below : (g k : ℕ) → g ≢ k → nat_lt g k ≡ nat_lt g (suc k)
below g k ne = ⊎_elim
    (λ lt. lt-ltb g k lt ∙ sym (lt-ltb g (suc k) (omega (arith, lt))))
    (λ ge. le-ltb g k ge ∙ sym (le-ltb g (suc k) (omega (arith, ge, ne))))
    (cases_lt g k)

module _ (V : View) (kind : Move) (pass : ℕ → Bool) (scope : Scope) (c : Caches) where
  -- the lines of the first k agents that pass
  agents_lines : (k g m i : ℕ) → (moved_agents V kind pass k scope c).line g m i ≡ (if nat_lt g k && (pass g && in_scope V scope m i) then moved_line kind (c.line g m i) else c.line g m i)
  agents_lines zero g m i = sym (ap (λ b. if b && (pass g && in_scope V scope m i) then moved_line kind (c.line g m i) else c.line g m i) (le-ltb g 0 (omega arith)))
  agents_lines (suc k) g m i =
      let prior = moved_agents V kind pass k scope c in
      let at = in_scope V scope m i in
      let old = c.line g m i in
      let new = moved_line kind old in
      line_of (pass k) (moved_one V kind k scope prior) prior g m i
      ∙ ap (λ (l : Line). if pass k then l else prior.line g m i) (one_line V kind k scope prior g m i)
      ∙ ⊎_elim
      (λ (e : g ≡ k).
      let own : prior.line g m i ≡ old = agents_lines k g m i ∙ ap (λ b. if b && (pass g && at) then new else old) (le-ltb g k (omega (arith, e))) in
      ap (λ (l : Line). if pass k then if (g == k) && at then moved_line kind l else l else l) own
      ∙ ap (λ b. if pass k then if b && at then new else old else old) (eq-eqb g k e)
      ∙ own_step (pass k) at new old
      ∙ ap (λ p. if true && (p && at) then new else old) (ap pass (sym e))
      ∙ sym (ap (λ b. if b && (pass g && at) then new else old) (lt-ltb g (suc k) (omega (arith, e)))))
      (λ (ne : g ≢ k).
      ap (λ b. if pass k then if b && at then moved_line kind (prior.line g m i) else prior.line g m i else prior.line g m i) (ne_eqb g k ne)
      ∙ other_step (pass k) at (moved_line kind (prior.line g m i)) (prior.line g m i)
      ∙ agents_lines k g m i
      ∙ ap (λ b. if b && (pass g && at) then new else old) (below g k ne))
      (cases_eq g k)

  -- the next agent's lines are as they were
  next_line : (k m i : ℕ) → (moved_agents V kind pass k scope c).line k m i ≡ c.line k m i
  next_line k m i = agents_lines k k m i ∙ ap (λ b. if b && (pass k && in_scope V scope m i) then moved_line kind (c.line k m i) else c.line k m i) (le-ltb k k (omega arith))

module _ (V : View) (pass : ℕ → Bool) (scope : Scope) (c : Caches) where
  agents_main : (k m i : ℕ) → (moved_agents V WriteBack pass k scope c).main m i ≡ flushed k (λ g. pass g && in_scope V scope m i) (λ g. c.line g m i) (c.main m i)
  agents_main zero m i = refl
  agents_main (suc k) m i =
      let prior = moved_agents V WriteBack pass k scope c in
      let at = in_scope V scope m i in
      let before = flushed k (λ g. pass g && in_scope V scope m i) (λ g. c.line g m i) (c.main m i) in
      main_of (pass k) (moved_one V WriteBack k scope prior) prior m i
      ∙ ap (λ v. if pass k then v else prior.main m i) (one_main V k scope prior m i)
      ∙ ap₂ (λ (l : Line) v. if pass k then if at then written l v else v else v) (next_line V WriteBack pass scope c k m i) (agents_main k m i)
      ∙ main_step (pass k) at (written (c.line k m i) before) before

  agents_drop : (k : ℕ) → (moved_agents V DropClean pass k scope c).main ≡ c.main
  agents_drop zero = refl
  agents_drop (suc k) = drop_of (pass k) (moved_one V DropClean k scope (moved_agents V DropClean pass k scope c)) (moved_agents V DropClean pass k scope c) (one_drop V k scope (moved_agents V DropClean pass k scope c)) ∙ agents_drop k

-- JUNK

module _ (V : View) (s : State) (n fill : ℕ) (junk : List ℕ) (all : (k : ℕ) → k < length junk → slice_index junk k ≡ fill) where
  -- one access
  after_junk_once : (c : Caches) (a : Access) (m i : ℕ) → (piece_range V a.piece).len ≤ length junk → (if junks V s n a then overwrite (piece_range V a.piece) junk c else c).main m i ≡ (if covers V a.piece m i && junks V s n a then junk_at (fill ∷ []) (i - (piece_at V a.piece).offset) else c.main m i)
  after_junk_once c a m i long = by_tests (junks V s n a) (covers V a.piece m i) refl
    where
      by_tests : (j b : Bool) → covers V a.piece m i ≡ b → (if j then overwrite (piece_range V a.piece) junk c else c).main m i ≡ (if b && j then junk_at (fill ∷ []) (i - (piece_at V a.piece).offset) else c.main m i)
      by_tests true true e =
          let p = (in_range (piece_range V a.piece) m i e).1 in
          ap (λ z. if z then slice_index junk (i - (piece_at V a.piece).offset) else c.main m i) e
          ∙ all (i - (piece_at V a.piece).offset) (omega (arith, p.0, p.1, long)) ∙ sym (one_junk fill (i - (piece_at V a.piece).offset))
      by_tests true false e = ap (λ z. if z then slice_index junk (i - (piece_at V a.piece).offset) else c.main m i) e
      by_tests false true e = refl
      by_tests false false e = refl

  -- all accesses of a list
  pub junk_main : (list : List Access) (c : Caches) (m i : ℕ) → ((k : ℕ) (d : Access) → k < length list → (piece_range V (get_or list k d).piece).len ≤ length junk) → (junked V s n junk list c).main m i ≡ after_junk V s n (fill ∷ []) list m i (c.main m i)
  junk_main [] c m i long = refl
  junk_main (a ∷ rest) c m i long =
      junk_main rest (if junks V s n a then overwrite (piece_range V a.piece) junk c else c) m i (λ k d lt. long (suc k) d (omega (arith, lt)))
      ∙ ap (after_junk V s n (fill ∷ []) rest m i) (after_junk_once c a m i (long 0 a (omega arith)))

  pub junk_lines : (list : List Access) (c : Caches) → (junked V s n junk list c).line ≡ c.line
  junk_lines [] c = refl
  junk_lines (a ∷ rest) c = junk_lines rest (if junks V s n a then overwrite (piece_range V a.piece) junk c else c) ∙ by_test (junks V s n a)
    where
      by_test : (j : Bool) → (if j then overwrite (piece_range V a.piece) junk c else c).line ≡ c.line
      by_test true = refl
      by_test false = refl

-- NODES

-- agents past those of the queues are of no queue
no_agent : (queues queue set g : ℕ) → queue < queues → 8 * queues ≤ g → has_agent_at queue set g ≡ false
no_agent queues queue set g lt ge = ap (λ b. b && meets set (2 ^ (g % 8))) (ne_eqb (g / 8) queue (λ (e : g / 8 ≡ queue). omega (arith, e, lt, ge)))

-- an agent that there is not does not pass
known_pass : (g count : ℕ) (p b : Bool) (x y : Line) → (count ≤ g → p ≡ false) → (if nat_lt g count && (p && b) then x else y) ≡ (if p && b then x else y)
known_pass g count p b x y none = ⊎_elim
    (λ lt. ap (λ z. if z && (p && b) then x else y) (lt-ltb g count lt))
    (λ ge. ap (λ z. if z && (p && b) then x else y) (le-ltb g count ge) ∙ sym (ap (λ q. if q && b then x else y) (none ge)))
    (cases_lt g count)

lines_by : (V : View) (n : ℕ) → queue_at V n < length V.families → (kind : Move) (set : ℕ) (c : Caches) (g m i : ℕ) → (moved_by V n kind set c).line g m i ≡ (if has_agent_at (queue_at V n) set g && in_scope V (effect_at V n).scope m i then moved_line kind (c.line g m i) else c.line g m i)
lines_by V n queue kind set c g m i =
    agents_lines V kind (has_agent_at (queue_at V n) set) (effect_at V n).scope c (agent_count V) g m i
    ∙ known_pass g (agent_count V) (has_agent_at (queue_at V n) set g) (in_scope V (effect_at V n).scope m i) (moved_line kind (c.line g m i)) (c.line g m i) (no_agent (length V.families) (queue_at V n) set g queue)

module _ (program : Program) (n fill : ℕ) (junk : List ℕ) (all : (k : ℕ) → k < length junk → slice_index junk k ≡ fill) (queue : queue_at (view_of program) n < length (view_of program).families) (long : (k : ℕ) (d : Access) → k < length (accesses_of (view_of program) n) → (piece_range (view_of program) (get_or (accesses_of (view_of program) n) k d).piece).len ≤ length junk) (s : State) (c : Caches) (B : HasBytes program c s) where
  pub synced_bytes : HasBytes program (synced_caches (view_of program) s n junk c) (synced (view_of program) s n (fill ∷ []))
  synced_bytes =
      let V = view_of program in
      let list = accesses_of V n in
      let scope = (effect_at V n).scope in
      let first = moved_by V n WriteBack (effect_at V n).available c in
      let second = junked V s n junk list first in
      record {
        main = λ m i lt.
            ap (λ f. f m i) (agents_drop V (has_agent_at (queue_at V n) (effect_at V n).visible) scope second (agent_count V))
            ∙ junk_main V s n fill junk all list first m i long
            ∙ ap (after_junk V s n (fill ∷ []) list m i) (
            agents_main V (has_agent_at (queue_at V n) (effect_at V n).available) scope c (agent_count V) m i
            ∙ ap₂ (λ l v. flushed (agent_count V) (λ g. flushes_at V n g m i) l v) (fun_ext (λ g. B.line g m i)) (B.main m i lt));
        line = λ g m i.
            lines_by V n queue DropClean (effect_at V n).visible second g m i
            ∙ ap (λ l. if shows_at V n g m i then dropped l else l) (
            ap (λ f. f g m i) (junk_lines V s n fill junk all list first)
            ∙ lines_by V n queue WriteBack (effect_at V n).available c g m i
            ∙ ap (λ l. if flushes_at V n g m i then cleaned l else l) (B.line g m i));
      }
