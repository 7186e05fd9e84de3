use Rattle.std.proofs.Common.{◌≡◌, None, [], ◌∷◌, sym, subst}
use Rattle.fs_model.specs.Table.{is_same, is_under}
use Rattle.fs_closing.specs.NodeTable.{table_of}
use Rattle.fs_closing.specs.Rules.{system_of}
use Rattle.fs_closing.specs.Work.{work_of}
use Rattle.fs_closing.specs.Keeps.{Leads, deep_of}
use Rattle.fs_closing.proofs.StepLemmas.{attach_found, attach_linked, steps_after, keeps_after, keeps_none}
use Rattle.fs_closing.proofs.steps.attach.Goals as goal

pub returns-in-Some-clause-steps : goal.returns-in-Some-clause-steps
returns-in-Some-clause-steps c = (
  attach_found (system_of c.args.system.now) (deep_of c.args.nodes.now) c.args.n c.args.feat c.in-Some.found c.args.to _ _
      c.requires.stays c.in-Some.ensures.value (c.in_ok-push_pair.ensures.work c.args.system.now.rules),
  record {
    whole = c.requires.sound.whole;
    within = c.requires.sound.within;
    ready = c.in_ok-push_pair.ensures.ready _ _ _ c.in-Some.ensures.within c.requires.to_in c.requires.sound.ready;
  },
)

pub returns-clause-steps : goal.returns-clause-steps
returns-clause-steps c =
    let g = c.args.system.now in
    let work = work_of g.rules c.args.tasks.now in
    let none : None ≡ (table_of c.args.nodes.now).arc c.args.n c.args.feat = cc (c.in_default.is, c.in_default.ensures.value) in
    let leads = attach_linked (system_of g) (deep_of c.args.nodes.now) (deep_of c.add_arc.new.nodes) c.args.n c.args.feat c.args.to
    work c.requires.stays none c.in_ok-add_arc.ensures.links c.in_ok-add_arc.ensures.keeps.depths in
    steps_after g c.args.nodes.now c.add_arc.new.nodes c.bound.new.nodes (is_same c.args.n (c.args.feat ∷ []) c.args.to [] ∷ work)
    (is_under c.args.n [] c.introducer-introducer.result ∷ work) c.bound.new.tasks c.in_ok-ok.ok
    (subst (λ i. Leads g c.args.nodes.now (is_same c.args.n (c.args.feat ∷ []) c.args.to [] ∷ work) c.add_arc.new.nodes (is_under c.args.n [] i ∷ work))
    (sym c.introducer-introducer.ensures.value) leads) c.in_ok-ok.ensures.steps

pub returns-clause-arcs : goal.returns-clause-arcs
returns-clause-arcs c =
    keeps_after c.args.nodes.now c.add_arc.new.nodes c.bound.new.nodes c.in_ok-add_arc.ensures.keeps.arcs c.in_ok-ok.ensures.arcs

pub returns-in-Some-clause-arcs : goal.returns-in-Some-clause-arcs
returns-in-Some-clause-arcs c = keeps_none c.args.nodes.now
