use Rattle.std.proofs.Common.{List, ◌++◌, length, sym, subst}
use Rattle.type_hierarchy.specs.Table.{count_of}
use Rattle.fs_model.specs.Table.{NodeClaim}
use Rattle.fs_model.specs.Steps.{Lowers}
use Rattle.fs_closing.specs.NodeTable.{table_of}
use Rattle.fs_closing.specs.Rules.{system_of}
use Rattle.fs_closing.specs.Work.{work_of, AreReady}
use Rattle.fs_closing.specs.Keeps.{deep_of, PushesFacts}
use Rattle.fs_closing.proofs.KeepsLemmas.{Turns-lowers}
use Rattle.fs_closing.proofs.StepLemmas.{lowers_by}
use Rattle.fs_closing.proofs.steps.lower.Goals as goal

pub returns-clause-leads : goal.returns-clause-leads
returns-clause-leads c = λ m u e meet.
    let nodes = c.args.nodes.now in
    let s = system_of c.args.system.now in
    let work = work_of c.args.system.now.rules c.args.tasks.now in
    let work' = work_of c.args.system.now.rules c.push_rules.new.tasks in
    let pushed = subst (λ t. PushesFacts s c.args.n c.args.ty t t work work') c.requires.type_is c.in_ok-push_rules.ensures.work in
    let after = table_of c.set_type.new.nodes in
    let lowers = λ (extra : List NodeClaim).
    subst (λ k. Lowers s (table_of nodes) after (work ++ extra) (work' ++ extra) k u c.args.ty) (sym e)
    (lowers_by s (table_of nodes) after c.args.n u c.args.ty work work' extra c.set_type.ensures.retypes meet pushed) in
    Turns-lowers s c.requires.order (deep_of nodes) (deep_of c.set_type.new.nodes) m u c.args.ty work work' lowers c.set_type.ensures.keeps.depths

pub returns-clause-arcs : goal.returns-clause-arcs
returns-clause-arcs c = c.set_type.ensures.keeps.arcs

pub returns-clause-sound : goal.returns-clause-sound
returns-clause-sound c =
    let g = c.args.system.now in
    record {
      whole = c.set_type.ensures.whole;
      within = c.set_type.ensures.within (count_of g.types) (length g.introducers) c.requires.ty_in c.requires.sound.within;
      ready = subst (λ n. AreReady n (count_of g.types) (length g.rules) c.push_rules.new.tasks) (sym c.set_type.ensures.keeps.arcs.size)
          (c.in_ok-push_rules.ensures.ready c.args.nodes.now.size (count_of g.types) c.requires.node c.requires.sound.ready);
    }
