use Rattle.std.proofs.Common.{◌≡◌, ◌≤◌, ◌-◌, [], ◌∷◌, ◌++◌, length, slice_index_or, sym, ◌∙◌, ap, subst, arith}
use Rattle.fs_model.specs.Table.{is_same}
use Rattle.fs_closing.specs.Cells.{chain, no_cell}
use Rattle.fs_closing.specs.Rules.{system_of}
use Rattle.fs_closing.specs.Work.{work_of}
use Rattle.fs_closing.specs.Keeps.{Turns, StepsTo, deep_of, arc_claims}
use Rattle.fs_closing.proofs.ChainLemmas.{chain_at, chain-none}
use Rattle.fs_closing.proofs.StepLemmas.{Turns-none, turn_one, refute_one, keeps_after, keeps_none}
use Rattle.fs_closing.proofs.steps.attach_cells.Goals as goal

pub loop-place-init : goal.loop-place-init
loop-place-init c =
    let start = arc_claims c.args.n (chain c.args.nodes.now.cells c.args.first) ++ work_of c.args.system.now.rules c.args.tasks.now in
    record {
      leads = Turns-none (system_of c.args.system.now) (deep_of c.args.nodes.now) start;
      sound = c.requires.sound;
      node = c.requires.node;
      place_in = c.requires.first_in;
      kept = keeps_none c.args.nodes.now;
      stays = c.requires.stays;
    }

pub attach-requires-clause-to_in : goal.attach-requires-clause-to_in
attach-requires-clause-to_in c =
    let cells = c.loop-place.nodes.cells in
    let is : c.at-cell.result ≡ slice_index_or c.loop-place.nodes.cells (c.loop-place.place - 1) no_cell =
    c.at-cell.ensures in
    let at = chain_at cells c.loop-place.place c.at-cell.result c.loop-place-test.true c.loop-place.invariant.place_in
    c.loop-place.invariant.sound.whole.stands.places is in
    c.loop-place.invariant.sound.whole.stands.to_in c.at-cell.result at.2

pub attach-requires-clause-feat_in : goal.attach-requires-clause-feat_in
attach-requires-clause-feat_in c =
    let cells = c.loop-place.nodes.cells in
    let is : c.at-cell.result ≡ slice_index_or c.loop-place.nodes.cells (c.loop-place.place - 1) no_cell =
    c.at-cell.ensures in
    let at = chain_at cells c.loop-place.place c.at-cell.result c.loop-place-test.true c.loop-place.invariant.place_in
    c.loop-place.invariant.sound.whole.stands.places is in
    c.loop-place.invariant.sound.within.feat_in c.at-cell.result at.2

pub loop-place-preserved : goal.loop-place-preserved
loop-place-preserved c =
    let cells = c.loop-place.nodes.cells in
    let s = system_of c.args.system.now in
    let n = c.args.n in
    let is : c.at-cell.result ≡ slice_index_or c.loop-place.nodes.cells (c.loop-place.place - 1) no_cell =
    c.at-cell.ensures in
    let at = chain_at cells c.loop-place.place c.at-cell.result c.loop-place-test.true c.loop-place.invariant.place_in
    c.loop-place.invariant.sound.whole.stands.places is in
    let start = arc_claims n (chain c.args.nodes.now.cells c.args.first) ++ work_of c.args.system.now.rules c.args.tasks.now in
    let before = subst (λ l. Turns s (deep_of c.args.nodes.now) start (deep_of c.loop-place.nodes) (arc_claims n l ++ work_of c.args.system.now.rules c.loop-place.tasks))
    at.0 c.loop-place.invariant.leads in
    let arcs = c.in_ok-attach.ensures.arcs in
    let cell = c.at-cell.result in
    let work = work_of c.args.system.now.rules c.loop-place.tasks in
    let step = subst (StepsTo c.args.system.now c.loop-place.nodes (is_same n (cell.feat ∷ []) cell.to [] ∷ work) c.attach.new.nodes c.attach.new.tasks)
    c.in-true.is c.in_ok-attach.ensures.steps in
    let next_in : c.at-cell.result.next ≤ length cells = omega (arith, at.1, c.loop-place.invariant.place_in) in
    record {
      leads = subst (λ l. Turns s (deep_of c.args.nodes.now) start (deep_of c.attach.new.nodes) (arc_claims n l ++ work_of c.args.system.now.rules c.attach.new.tasks))
          (sym (arcs.chains c.at-cell.result.next next_in))
          (turn_one s (deep_of c.args.nodes.now) (deep_of c.loop-place.nodes) (deep_of c.attach.new.nodes) start _ _ _ _ before step.0);
      sound = step.1;
      node = omega (arith, arcs.size, c.loop-place.invariant.node);
      place_in = omega (arith, next_in, arcs.more);
      kept = keeps_after c.args.nodes.now c.loop-place.nodes c.attach.new.nodes c.loop-place.invariant.kept arcs;
      stays = arcs.live n ∙ c.loop-place.invariant.stays;
    }

pub loop-place-smaller : goal.loop-place-smaller
loop-place-smaller c =
    let cells = c.loop-place.nodes.cells in
    let is : c.at-cell.result ≡ slice_index_or c.loop-place.nodes.cells (c.loop-place.place - 1) no_cell =
    c.at-cell.ensures in
    let at = chain_at cells c.loop-place.place c.at-cell.result c.loop-place-test.true c.loop-place.invariant.place_in
    c.loop-place.invariant.sound.whole.stands.places is in
    at.1

pub returns-in-false-clause-arcs : goal.returns-in-false-clause-arcs
returns-in-false-clause-arcs c =
    keeps_after c.args.nodes.now c.loop-place.nodes c.attach.new.nodes c.loop-place.invariant.kept c.in_ok-attach.ensures.arcs

pub returns-in-false-clause-steps : goal.returns-in-false-clause-steps
returns-in-false-clause-steps c =
    let cells = c.loop-place.nodes.cells in
    let s = system_of c.args.system.now in
    let n = c.args.n in
    let is : c.at-cell.result ≡ slice_index_or c.loop-place.nodes.cells (c.loop-place.place - 1) no_cell =
    c.at-cell.ensures in
    let at = chain_at cells c.loop-place.place c.at-cell.result c.loop-place-test.true c.loop-place.invariant.place_in
    c.loop-place.invariant.sound.whole.stands.places is in
    let start = arc_claims n (chain c.args.nodes.now.cells c.args.first) ++ work_of c.args.system.now.rules c.args.tasks.now in
    let before = subst (λ l. Turns s (deep_of c.args.nodes.now) start (deep_of c.loop-place.nodes) (arc_claims n l ++ work_of c.args.system.now.rules c.loop-place.tasks))
    at.0 c.loop-place.invariant.leads in
    let cell = c.at-cell.result in
    let work = work_of c.args.system.now.rules c.loop-place.tasks in
    refute_one s (deep_of c.args.nodes.now) (deep_of c.loop-place.nodes) start (is_same n (cell.feat ∷ []) cell.to [])
    (arc_claims n (chain c.loop-place.nodes.cells cell.next)) work before
    (subst (StepsTo c.args.system.now c.loop-place.nodes (is_same n (cell.feat ∷ []) cell.to [] ∷ work) c.attach.new.nodes c.attach.new.tasks)
    c.in-false.is c.in_ok-attach.ensures.steps)

pub returns-clause-steps : goal.returns-clause-steps
returns-clause-steps c =
    let none : c.loop-place.place ≡ 0 = omega (arith, c.loop-place-test.false) in
    let s = system_of c.args.system.now in
    let start = arc_claims c.args.n (chain c.args.nodes.now.cells c.args.first) ++ work_of c.args.system.now.rules c.args.tasks.now in (
      subst (λ l. Turns s (deep_of c.args.nodes.now) start (deep_of c.loop-place.nodes) (arc_claims c.args.n l ++ work_of c.args.system.now.rules c.loop-place.tasks))
          (ap (chain c.loop-place.nodes.cells) none ∙ chain-none c.loop-place.nodes.cells) c.loop-place.invariant.leads,
      c.loop-place.invariant.sound,
    )
