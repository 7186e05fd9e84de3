use Rattle.std.proofs.Common.{◌≤◌, ◌<◌, ◌+◌, [], ◌∷◌, ◌++◌, length, drop, slice_index_or, refl, sym, ◌∙◌, ap, subst, arith}
use Rattle.fs_model.specs.Claims.{Has}
use Rattle.fs_model.specs.Table.{is_same}
use Rattle.fs_closing.specs.Cells.{no_cell}
use Rattle.fs_closing.specs.NodeTable.{own_row}
use Rattle.fs_closing.specs.Rules.{system_of}
use Rattle.fs_closing.specs.Work.{work_of}
use Rattle.fs_closing.specs.Keeps.{Turns, StepsTo, deep_of, arc_claims}
use Rattle.fs_closing.proofs.HasLemmas.{Has-at}
use Rattle.fs_closing.proofs.BesideLemmas.{row_size}
use Rattle.fs_closing.proofs.StepLemmas.{Turns-none, turn_one, refute_one, claims_step, claims_all, claims_none}
use Rattle.fs_closing.proofs.steps.attach_own.Goals as goal

pub own_cell-cell-requires-clause-small : goal.own_cell-cell-requires-clause-small
own_cell-cell-requires-clause-small c = λ x h.
    omega (arith, c.requires.sound.whole.stands.own_in c.args.of x (subst (Has x) c.own_arcs-own.ensures h), c.requires.sound.whole.stands.small)

pub attach-requires-clause-to_in : goal.attach-requires-clause-to_in
attach-requires-clause-to_in c =
    let i_in : c.loop-i.i < length (own_row c.args.nodes.now c.args.of) =
    omega (arith, c.loop-i-test.true, c.loop-i.auto.i-end, row_size c.own_arcs-own.result.base c.own_arcs-own.result.arcs.now _ c.own_arcs-own.ensures) in
    let row = own_row c.args.nodes.now c.args.of in
    let is = c.own_cell-cell.ensures no_cell ∙ ap (λ l. slice_index_or l c.loop-i.i no_cell) c.own_arcs-own.ensures in
    let at = subst (Has c.own_cell-cell.result) (sym c.loop-i.invariant.own) (subst (λ x. Has x row) (sym is) (Has-at row c.loop-i.i no_cell i_in)) in
    c.loop-i.invariant.sound.whole.stands.own_in c.args.of c.own_cell-cell.result at

pub attach-requires-clause-feat_in : goal.attach-requires-clause-feat_in
attach-requires-clause-feat_in c =
    let i_in : c.loop-i.i < length (own_row c.args.nodes.now c.args.of) =
    omega (arith, c.loop-i-test.true, c.loop-i.auto.i-end, row_size c.own_arcs-own.result.base c.own_arcs-own.result.arcs.now _ c.own_arcs-own.ensures) in
    let row = own_row c.args.nodes.now c.args.of in
    let is = c.own_cell-cell.ensures no_cell ∙ ap (λ l. slice_index_or l c.loop-i.i no_cell) c.own_arcs-own.ensures in
    let at = subst (Has c.own_cell-cell.result) (sym c.loop-i.invariant.own) (subst (λ x. Has x row) (sym is) (Has-at row c.loop-i.i no_cell i_in)) in
    c.loop-i.invariant.sound.within.own_feat c.args.of c.own_cell-cell.result at

pub loop-i-init : goal.loop-i-init
loop-i-init c =
    let s = system_of c.args.system.now in
    let row = own_row c.args.nodes.now c.args.of in
    let work = work_of c.args.system.now.rules c.args.tasks.now in
    record {
      leads = subst (λ l. Turns s (deep_of c.args.nodes.now) (arc_claims c.args.n row ++ work) (deep_of c.args.nodes.now) (l ++ work)) (sym (claims_all c.args.n row))
          (Turns-none s (deep_of c.args.nodes.now) (arc_claims c.args.n row ++ work));
      sound = c.requires.sound;
      size = refl;
      node = c.requires.node;
      of_in = c.requires.of_in;
      own = refl;
      stays = c.requires.stays;
    }

pub loop-i-preserved : goal.loop-i-preserved
loop-i-preserved c =
    let s = system_of c.args.system.now in
    let n = c.args.n in
    let row = own_row c.args.nodes.now c.args.of in
    let i_in : c.loop-i.i < length (own_row c.args.nodes.now c.args.of) =
    omega (arith, c.loop-i-test.true, c.loop-i.auto.i-end, row_size c.own_arcs-own.result.base c.own_arcs-own.result.arcs.now _ c.own_arcs-own.ensures) in
    let cell = c.own_cell-cell.result in
    let is = c.own_cell-cell.ensures no_cell ∙ ap (λ l. slice_index_or l c.loop-i.i no_cell) c.own_arcs-own.ensures in
    let start = arc_claims n row ++ work_of c.args.system.now.rules c.args.tasks.now in
    let work = work_of c.args.system.now.rules c.loop-i.tasks in
    let before = subst (λ l. Turns s (deep_of c.args.nodes.now) start (deep_of c.loop-i.nodes) (l ++ work))
    (claims_step n c.loop-i.i row no_cell cell i_in is) c.loop-i.invariant.leads in
    let arcs = c.in_ok-attach.ensures.arcs in
    let step = subst (StepsTo c.args.system.now c.loop-i.nodes (is_same n (cell.feat ∷ []) cell.to [] ∷ work) c.attach.new.nodes c.attach.new.tasks)
    c.in-true.is c.in_ok-attach.ensures.steps in
    record {
      leads = turn_one s (deep_of c.args.nodes.now) (deep_of c.loop-i.nodes) (deep_of c.attach.new.nodes) start _ _ _ _ before step.0;
      sound = step.1;
      size = arcs.size ∙ c.loop-i.invariant.size;
      node = omega (arith, arcs.size, c.loop-i.invariant.node);
      of_in = omega (arith, arcs.size, c.loop-i.invariant.of_in);
      own = arcs.own c.args.of ∙ c.loop-i.invariant.own;
      stays = arcs.live n ∙ c.loop-i.invariant.stays;
    }

pub returns-in-false-clause-steps : goal.returns-in-false-clause-steps
returns-in-false-clause-steps c =
    let s = system_of c.args.system.now in
    let n = c.args.n in
    let row = own_row c.args.nodes.now c.args.of in
    let i_in : c.loop-i.i < length (own_row c.args.nodes.now c.args.of) =
    omega (arith, c.loop-i-test.true, c.loop-i.auto.i-end, row_size c.own_arcs-own.result.base c.own_arcs-own.result.arcs.now _ c.own_arcs-own.ensures) in
    let cell = c.own_cell-cell.result in
    let is = c.own_cell-cell.ensures no_cell ∙ ap (λ l. slice_index_or l c.loop-i.i no_cell) c.own_arcs-own.ensures in
    let start = arc_claims n row ++ work_of c.args.system.now.rules c.args.tasks.now in
    let work = work_of c.args.system.now.rules c.loop-i.tasks in
    let before = subst (λ l. Turns s (deep_of c.args.nodes.now) start (deep_of c.loop-i.nodes) (l ++ work))
    (claims_step n c.loop-i.i row no_cell cell i_in is) c.loop-i.invariant.leads in
    refute_one s (deep_of c.args.nodes.now) (deep_of c.loop-i.nodes) start (is_same n (cell.feat ∷ []) cell.to [])
    (arc_claims n (drop (c.loop-i.i + 1) row)) work before
    (subst (StepsTo c.args.system.now c.loop-i.nodes (is_same n (cell.feat ∷ []) cell.to [] ∷ work) c.attach.new.nodes c.attach.new.tasks)
    c.in-false.is c.in_ok-attach.ensures.steps)

pub returns-clause-steps : goal.returns-clause-steps
returns-clause-steps c =
    let s = system_of c.args.system.now in
    let row = own_row c.args.nodes.now c.args.of in
    let start = arc_claims c.args.n row ++ work_of c.args.system.now.rules c.args.tasks.now in
    let past : length (own_row c.args.nodes.now c.args.of) ≤ c.loop-i.i =
    omega (arith, c.loop-i-test.false, c.loop-i.auto.i-end, row_size c.own_arcs-own.result.base c.own_arcs-own.result.arcs.now _ c.own_arcs-own.ensures) in (
      subst (λ l. Turns s (deep_of c.args.nodes.now) start (deep_of c.loop-i.nodes) (l ++ work_of c.args.system.now.rules c.loop-i.tasks))
          (claims_none c.args.n c.loop-i.i row past) c.loop-i.invariant.leads,
      c.loop-i.invariant.sound,
    )

pub returns-in-false-clause-size : goal.returns-in-false-clause-size
returns-in-false-clause-size c = c.in_ok-attach.ensures.arcs.size ∙ c.loop-i.invariant.size

pub returns-clause-size : goal.returns-clause-size
returns-clause-size c = c.loop-i.invariant.size
