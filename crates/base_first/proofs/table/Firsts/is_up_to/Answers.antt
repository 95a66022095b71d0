use Rattle.std.proofs.Common.{◌≡◌, inr, ◌≤◌, ◌↔◌, sym, ◌∙◌, refl, subst, ⊎_elim, Some, None}
use Rattle.std.proofs.lemmas.Bool.{false≢true, leb-true, le-leb}
use Rattle.base.proofs.Absence.{some_same}
use Rattle.base_first.specs.Points.{point_at, UpTo, here}
use Rattle.base_first.proofs.Lasts.{first_at, at_up, held_up, up_cases, signal, add}
use Rattle.base_first.proofs.table.Firsts.is_up_to.Goals as goal
use Rattle.base_first.proofs.table.Firsts.is_up_to.Goals.{then-p-y-via-then-p-y, then-p-y-via-else-p-y+then-holds_at, then-p-y-via-else-p-y+else-holds_at+then-holds}

pub returns-then-p-y : goal.returns-then-p-y
returns-then-p-y c = (
  λ e. elim c.then-p-y.branch [
    | then-p-y-via-then-p-y w ↦ here w.if-p-y.true
    | then-p-y-via-else-p-y+then-holds_at w ↦ at_up c.args.points.now c.args.channels c.args.p c.args.y c.args.start c.requires.y c.requires.start (w.holds_at.ensures.0 w.if-holds_at.true)
    | then-p-y-via-else-p-y+else-holds_at+then-holds w ↦ held_up c.args.points.now c.args.channels c.args.p c.args.y c.args.start c.requires.shown c.requires.y c.requires.start (w.holds.ensures.0 w.if-holds.true)
  ],
  λ u. refl,
)

pub bounds-points-g : goal.bounds-points-g
bounds-points-g c = (c.requires.chained.met c.args.y c.in-Some.g c.requires.y c.in-Some.is).0

pub returns-in-Some : goal.returns-in-Some
returns-in-Some c =
    let points = c.args.points.now in
    let table = c.args.self.now in
    let g = c.in-Some.g in
    let its = c.requires.chained.met c.args.y g c.requires.y c.in-Some.is in
    let F = first_at points table.queues table.channels c.args.channels table c.requires.table c.requires.channels c.args.p (point_at points g).queue c.args.signals c.first.result c.requires.p (c.requires.lined.queue g its.0) c.requires.chained.known c.first.ensures in
    let s : (c.first.result ≤ g) ↔ UpTo points c.args.channels c.args.p g = signal points c.args.channels c.args.signals c.args.p c.args.y g c.first.result c.requires.chained c.requires.y c.in-Some.is F in (
      λ e. add points c.args.channels c.args.p g c.args.y (s.0 (leb-true c.first.result g e)) (inr (record { there = c.requires.y; met = c.in-Some.is })),
      λ u. le-leb c.first.result g (⊎_elim (λ e. absurd (c.if-p-y.false e)) (λ r. ⊎_elim (λ h. absurd (false≢true (sym c.if-holds_at.false ∙ c.holds_at.ensures.1 h))) (λ t. ⊎_elim (λ h. absurd (false≢true (sym c.if-holds.false ∙ c.holds.ensures.1 h))) (λ m. s.1 (subst (λ n. UpTo points c.args.channels c.args.p n) (sym (some_same (sym c.in-Some.is ∙ m.1))) m.2)) t) r)
          (up_cases points c.args.channels c.args.p c.args.y c.args.start c.requires.shown c.requires.y c.requires.start u)),
    )

pub returns-in-None : goal.returns-in-None
returns-in-None c = (
  λ e. absurd (false≢true e),
  λ u. absurd (⊎_elim (λ e. c.if-p-y.false e) (λ s. ⊎_elim (λ h. false≢true (sym c.if-holds_at.false ∙ c.holds_at.ensures.1 h)) (λ t. ⊎_elim (λ h. false≢true (sym c.if-holds.false ∙ c.holds.ensures.1 h)) (λ m. no_some (sym c.in-None.is ∙ m.1)) t) s)
      (up_cases c.args.points.now c.args.channels c.args.p c.args.y c.args.start c.requires.shown c.requires.y c.requires.start u)),
)
  where
    no_some : {g : Prim.Native.Nat.ℕ} → None ≡ Some g → ⊥
    no_some e = cc
