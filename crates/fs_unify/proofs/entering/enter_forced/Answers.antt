use Rattle.std.proofs.Common.{subst, arith}
use Rattle.fs_closing.specs.NodeTable.{table_of}
use Rattle.fs_closing.specs.Rules.{system_of}
use Rattle.fs_closing.specs.Work.{work_of}
use Rattle.fs_unify.specs.Owing.{OwesOnly}
use Rattle.fs_unify.specs.Placing.{owing_of}
use Rattle.fs_unify.proofs.CarryLemmas.{on_ok, on_both, carries_none, nodes_table, sound_still}
use Rattle.fs_unify.proofs.OwedLemmas.{owes_closed}
use Rattle.fs_unify.proofs.PayLemmas.{enters_paid, enters_open}
use Rattle.fs_unify.proofs.entering.enter_forced.Goals as goal

pub returns-in-Closed-clause-owed : goal.returns-in-Closed-clause-owed
returns-in-Closed-clause-owed c = λ t is enters.
    let g = c.args.system.now in
    let work = work_of g.rules c.args.tasks.now in
    record {
      alone = table_of c.args.nodes.now;
      forced = work;
      enters = enters;
      owed = owes_closed (system_of g) t.size c.args.graph.now work c.laws.ensures
          (subst (λ x. OwesOnly g c.args.graph.now (owing_of x)) c.in-Closed.is c.requires.owes);
      carries = carries_none (system_of g) (table_of c.args.nodes.now) work;
    }

pub push_nodes-requires-clause-small : goal.push_nodes-requires-clause-small
push_nodes-requires-clause-small c = omega (arith, c.requires.inside, c.requires.sound.whole.stands.small)

pub returns-in-Open-clause-owed : goal.returns-in-Open-clause-owed
returns-in-Open-clause-owed c =
    let g = c.args.system.now in
    let old = work_of g.rules c.args.tasks.now in
    let new = work_of g.rules c.push_nodes.new.tasks in
    on_ok c.push_nodes.result _ _ (λ owes t is enters. enters_open g c.args.graph.now c.args.offset old new owes t (table_of c.args.nodes.now) is enters) c.push_nodes.ensures.owes

pub returns-in-Open-clause-sound : goal.returns-in-Open-clause-sound
returns-in-Open-clause-sound c =
    on_ok c.push_nodes.result _ _ (λ ready. sound_still c.args.system.now c.args.nodes.now c.args.tasks.now c.push_nodes.new.tasks c.requires.sound
    (ready c.args.nodes.now.size c.requires.inside c.requires.sound.ready)) c.push_nodes.ensures.ready

pub enter_owed-requires-clause-owes : goal.enter_owed-requires-clause-owes
enter_owed-requires-clause-owes c = subst (λ x. OwesOnly c.args.system.now c.args.graph.now (owing_of x)) c.in-Cut.is c.requires.owes

pub returns-in-Cut-clause-owed : goal.returns-in-Cut-clause-owed
returns-in-Cut-clause-owed c =
    let g = c.args.system.now in
    let owes = subst (λ x. OwesOnly g c.args.graph.now (owing_of x)) c.in-Cut.is c.requires.owes in
    on_both c.enter_owed.result _ _ _
    (λ carries paid t is enters. enters_paid g c.args.graph.now c.laws.ensures c.in-Cut.owed.now owes t (table_of c.args.nodes.now) enters
    (nodes_table c.args.nodes.now c.requires.sound.whole) (work_of g.rules c.args.tasks.now) (table_of c.enter_owed.new.nodes) (work_of g.rules c.enter_owed.new.tasks)
    c.args.offset is carries paid)
    c.enter_owed.ensures.carries c.enter_owed.ensures.paid
