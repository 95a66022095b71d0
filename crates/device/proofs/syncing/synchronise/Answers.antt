use Rattle.std.proofs.Common.{◌≡◌, ◌∙◌, ◌<◌, ℕ, List, length, sym, ap, ap₂, subst}
use Rattle.device_cache.specs.Effects.{Caches}
use Rattle.device_cache.specs.Tables.{caches_of}
use Rattle.device.proofs.Fitting.{stays_on, still_has}
use Rattle.device.proofs.syncing.synchronise.Goals as goal
use Rattle.device.specs.Internal.Syncs.{IsThere, moved_by, junked}
use Rattle.device.specs.Internal.Tables.{HasCut}
use Rattle.device.specs.declared.syncing.Move.TheVariants.{WriteBack, DropClean}
use Rattle.device_model.specs.Steps.{agent_count}
use Rattle.check_access.specs.Views.{View, accesses_of, effect_at}
use Rattle.check_access.specs.declared.effect.Effect.{Effect}

pub move_by-requires : goal.move_by-requires
move_by-requires c =
    let seen = sym c.view-view.ensures.view in
    let n = c.args.node in
    record {
      agents = c.requires.agents ∙ ap agent_count seen;
      cut = subst (HasCut c.args.table.now) seen c.requires.cut;
      node = subst (λ (v : View). n < length v.nodes) seen c.requires.node;
      effects = subst (λ (v : View). length v.effects ≡ length v.nodes) seen c.view-view.ensures.shaped.effects;
      scope = subst (λ (v : View). IsThere v (effect_at v n).scope) seen c.requires.scope;
    }

pub leave_junk-requires : goal.leave_junk-requires
leave_junk-requires c = record {
  cut = still_has c.args.table.now c.move_by.new.table c.args.control.now.view c.move_by.ensures.stays.keeps c.requires.cut;
  node = c.requires.node;
}

pub move_by-requires-2 : goal.move_by-requires-2
move_by-requires-2 c =
    let seen = sym c.view-view.ensures.view in
    let n = c.args.node in
    let V = c.view-view.result.now in
    let one = c.move_by.ensures.stays.keeps in
    let two = c.leave_junk.ensures.stays.keeps in
    record {
      agents = two.agents ∙ one.agents ∙ c.requires.agents ∙ ap agent_count seen;
      cut = still_has c.move_by.new.table c.leave_junk.new.table V two (still_has c.args.table.now c.move_by.new.table V one (subst (HasCut c.args.table.now) seen c.requires.cut));
      node = subst (λ (v : View). n < length v.nodes) seen c.requires.node;
      effects = subst (λ (v : View). length v.effects ≡ length v.nodes) seen c.view-view.ensures.shaped.effects;
      scope = subst (λ (v : View). IsThere v (effect_at v n).scope) seen c.requires.scope;
    }

pub returns-clause-bytes : goal.returns-clause-bytes
returns-clause-bytes c s agrees =
    let V = c.args.control.now.view in
    let n = c.args.node in
    let seen = c.view-view.ensures.view in
    let effect : c.effect_at-effect.result.now ≡ effect_at V n = c.effect_at-effect.ensures ∙ ap (λ (v : View). effect_at v n) seen in
    let first : caches_of c.move_by.new.table ≡ moved_by V n WriteBack (effect_at V n).available (caches_of c.args.table.now) = c.move_by.ensures.bytes ∙ ap₂ (λ (v : View) (e : Effect). moved_by v n WriteBack e.available (caches_of c.args.table.now)) seen effect in
    let second = c.leave_junk.ensures.bytes s agrees ∙ ap₂ (λ (junk : List ℕ) (b : Caches). junked V s n junk (accesses_of V n) b) c.move_by.ensures.stays.keeps.junk first in
    c.move_by-2.ensures.bytes ∙ ap₂ (λ (v : View) (e : Effect). moved_by v n DropClean e.visible (caches_of c.leave_junk.new.table)) seen effect ∙ ap (moved_by V n DropClean (effect_at V n).visible) second

pub returns-clause-stays : goal.returns-clause-stays
returns-clause-stays c = stays_on c.args.table.now c.leave_junk.new.table c.move_by-2.new.table (stays_on c.args.table.now c.move_by.new.table c.leave_junk.new.table c.move_by.ensures.stays c.leave_junk.ensures.stays) c.move_by-2.ensures.stays
