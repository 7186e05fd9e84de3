use Rattle.std.proofs.Common.{[], ◌∷◌, sym, ◌∙◌}
use Rattle.fs_model.specs.Table.{is_same}
use Rattle.fs_closing.specs.Rules.{system_of}
use Rattle.fs_closing.specs.Work.{work_of}
use Rattle.fs_closing.specs.Keeps.{deep_of}
use Rattle.fs_closing.proofs.KeepsLemmas.{Turns-back, Turns-one}
use Rattle.fs_closing.proofs.StepLemmas.{steps_after}
use Rattle.fs_closing.proofs.steps.join.Goals as goal

pub returns-then-a-b-clause-steps : goal.returns-then-a-b-clause-steps
returns-then-a-b-clause-steps c =
    let a = c.live-a.ensures.value in
    let b = c.live-b.ensures.value in
    (Turns-one (system_of c.args.system.now) (deep_of c.args.nodes.now) c.args.node c.args.other _ (sym a ∙ c.if-a-b.true ∙ b), c.requires.sound)

pub returns-then-is_barer-clause-steps : goal.returns-then-is_barer-clause-steps
returns-then-is_barer-clause-steps c = c.in_ok-ok.ensures.steps c.args.node c.args.other (sym c.live-a.ensures.value) (sym c.live-b.ensures.value)

pub returns-clause-steps : goal.returns-clause-steps
returns-clause-steps c =
    let g = c.args.system.now in
    let n = c.args.node in
    let m = c.args.other in
    let work = work_of g.rules c.args.tasks.now in
    steps_after g c.args.nodes.now c.args.nodes.now c.merge-2.new.nodes (is_same n [] m [] ∷ work) (is_same m [] n [] ∷ work)
    c.merge-2.new.tasks c.in_ok-ok-2.ok (Turns-back (system_of g) (deep_of c.args.nodes.now) n m [] [] work)
    (c.in_ok-ok-2.ensures.steps m n (sym c.live-b.ensures.value) (sym c.live-a.ensures.value))
