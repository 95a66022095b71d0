-- The waits of a program that is cut from steps rise.
use Rattle.std.proofs.Common.{◌≡◌, ◌≢◌, ⊎_elim, ℕ, suc, ◌-◌, ◌<◌, nat_lt, List, ◌++◌, map, true, sym, ap, ◌∙◌, subst, arith}
use Rattle.std.proofs.lemmas.Bool.{cases_lt}
use Rattle.compile_timeline.proofs.Latest.{item_queue, latest_up, last_after}
use Rattle.compile_timeline.specs.Laws.{AreNumbered, AllThere, InOrder, AreFor, AreRising}
use Rattle.compile_timeline.specs.Parts.{wait_for}
use Rattle.compile_timeline.specs.Places.{places, entry_of, wait_number, item_number}
use Rattle.compile_timeline.specs.Signals.{value_at}
use Rattle.compile_timeline.specs.Steps.{has_item, IsScript}
use Rattle.compile_timeline.specs.Waits.{latest, last_item, waits}
use Rattle.compile_timeline.specs.declared.step.Step.{Step}
use Rattle.law_record.proofs.Nodes.{WaitNode, wait_of, wait_stood, item_stood, stood_sooner}
use Rattle.law_record.specs.Rising.{IsWait, WaitsRise}
use Rattle.program.specs.Entries.{OfHost, entries_of}
use Rattle.program.specs.declared.program.Program.{Program}
use Rattle.program.specs.declared.program.WaitFor.{WaitFor}

pub more_of : (a b : ℕ) → nat_lt a b ≡ true → a < b
more_of a b e = grind arith

-- the value of a wait is that after the latest step that is needed
pub wait_value : (script : List Step) (count q i p j : ℕ) → latest script q p i ≡ suc j → (wait_for script count q i p).value ≡ value_at script count j
wait_value script count q i p j e = let number : latest script q p i - 1 ≡ j = omega (arith, e) in ap (value_at script count) number

module _ (program : Program) (script : List Step) (count : ℕ) (E : entries_of program ≡ map entry_of (places script count) ++ map OfHost program.readbacks) (numbered : AreNumbered script count) (there : AllThere script count) (order : InOrder script count) (K : IsScript script count) (for : AreFor script count) (rising : AreRising script count) where
  abbrev Node : ℕ → ℕ → WaitFor → Type 0
  Node n q wait = WaitNode program script count n q wait

  node : (n q : ℕ) (wait : WaitFor) → IsWait program n q wait → Node n q wait
  node n q wait e = wait_of program script count E numbered n q wait e

  -- two waits of one queue by their steps
  steps_less : (m n q : ℕ) (one two : WaitFor) (A : Node m q one) (B : Node n q two) → A.step < B.step → m < n
  steps_less m n q one two A B lt =
      let a = A.number in
      let b = B.number in
      let less = stood_sooner program script count order (wait_number script count q A.step A.other) (wait_number script count q B.step B.other) q A.step B.step (wait_stood program script count there q A.step A.other A.known A.other_known A.item A.waits) (wait_stood program script count there q B.step B.other B.known B.other_known B.item B.waits) lt in
      omega (arith, a, b, less)

  -- at one step, by their queues
  queues_less : (m n q : ℕ) (one two : WaitFor) (A : Node m q one) (B : Node n q two) → A.step ≡ B.step → A.other < B.other → m < n
  queues_less m n q one two A B same lt =
      let a = A.number in
      let b = B.number in
      let less = order.waits q A.step A.other B.other lt A.waits in
      let z : wait_number script count q A.step B.other ≡ wait_number script count q B.step B.other = ap (λ i. wait_number script count q i B.other) same in
      omega (arith, a, b, less, z)

  one_node : (m n q : ℕ) (one two : WaitFor) (A : Node m q one) (B : Node n q two) → A.step ≡ B.step → A.other ≡ B.other → m ≡ n
  one_node m n q one two A B same alike = A.number ∙ ap (λ i. wait_number script count q i A.other) same ∙ ap (λ r. wait_number script count q B.step r) alike ∙ sym B.number

  other : (n q : ℕ) (wait : WaitFor) → IsWait program n q wait → wait.queue ≢ q
  other n q wait e same =
      let A = node n q wait e in
      let F = for q A.step A.other A.known A.other_known A.item A.waits in
      let queue : wait.queue ≡ A.other = ap (λ (w : WaitFor). w.queue) A.is in
      K.other F.place q F.step F.need (item_queue script A.other F.step F.item ∙ sym queue ∙ same)

  of_latest : (q i k p : ℕ) → i < k → has_item script q i ≡ true → waits script q k p ≡ true → latest script q p i < latest script q p k
  of_latest q i k p lt has w =
      let up = latest_up script q p i (last_item script q k) (let l = last_after script q i k lt has in omega (arith, l)) in
      let less = more_of (latest script q p (last_item script q k)) (latest script q p k) w in
      omega (arith, up, less)

  values : (m n q : ℕ) (one two : WaitFor) → IsWait program m q one → IsWait program n q two → one.queue ≡ two.queue → m < n → one.value < two.value
  values m n q one two e f alike lt = ⊎_elim less (λ ge. absurd (⊎_elim (λ l. let back = steps_less n m q two one B A l in omega (arith, back, lt)) (λ le. let at : A.step ≡ B.step = omega (arith, ge, le) in let same = one_node m n q one two A B at queues in omega (arith, same, lt)) (cases_lt B.step A.step))) (cases_lt A.step B.step)
    where
      A : Node m q one
      A = node m q one e

      B : Node n q two
      B = node n q two f

      queues : A.other ≡ B.other
      queues = sym (ap (λ (w : WaitFor). w.queue) A.is) ∙ alike ∙ ap (λ (w : WaitFor). w.queue) B.is

      less : A.step < B.step → one.value < two.value
      less l =
          let F = for q A.step A.other A.known A.other_known A.item A.waits in
          let H = for q B.step B.other B.known B.other_known B.item B.waits in
          let up = of_latest q A.step B.step B.other l A.item B.waits in
          let z : latest script q A.other A.step ≡ latest script q B.other A.step = ap (λ r. latest script q r A.step) queues in
          let a = F.latest in
          let b = H.latest in
          let rise = rising.rising B.other F.step H.step (subst (λ r. has_item script r F.step ≡ true) queues F.item) H.signal (omega (arith, up, z, a, b)) in
          let v : one.value ≡ value_at script count F.step = ap (λ (w : WaitFor). w.value) A.is ∙ wait_value script count q A.step A.other F.step F.latest in
          let u : two.value ≡ value_at script count H.step = ap (λ (w : WaitFor). w.value) B.is ∙ wait_value script count q B.step B.other H.step H.latest in
          omega (arith, rise, v, u)

  queues : (n q : ℕ) (one two : WaitFor) → IsWait program n q one → IsWait program (suc n) q two → one.queue < two.queue
  queues n q one two e f = ⊎_elim later (λ ge. ⊎_elim (λ l. absurd (let back = steps_less (suc n) n q two one B A l in omega (arith, back))) (λ le. at (omega (arith, ge, le))) (cases_lt B.step A.step)) (cases_lt A.step B.step)
    where
      A : Node n q one
      A = node n q one e

      B : Node (suc n) q two
      B = node (suc n) q two f

      -- the item stands between
      later : A.step < B.step → one.queue < two.queue
      later l =
          let a = A.number in
          let b = B.number in
          let own = order.wait q A.step A.other A.other_known A.waits in
          let less = stood_sooner program script count order (item_number script count q A.step) (wait_number script count q B.step B.other) q A.step B.step (item_stood program script count there q A.step A.known A.item) (wait_stood program script count there q B.step B.other B.known B.other_known B.item B.waits) l in
          absurd (omega (arith, a, b, own, less))

      at : A.step ≡ B.step → one.queue < two.queue
      at same =
          let p : one.queue ≡ A.other = ap (λ (w : WaitFor). w.queue) A.is in
          let r : two.queue ≡ B.other = ap (λ (w : WaitFor). w.queue) B.is in
          ⊎_elim (λ l. omega (arith, p, r, l)) (λ ge. ⊎_elim (λ l. absurd (let back = queues_less (suc n) n q two one B A (sym same) l in omega (arith, back))) (λ le. absurd (let z = one_node n (suc n) q one two A B same (omega (arith, ge, le)) in omega (arith, z))) (cases_lt B.other A.other)) (cases_lt A.other B.other)

  pub waits_rise : WaitsRise program
  waits_rise = record { other = other; values = values; queues = queues }
