use Rattle.std.proofs.Common.{◌≤◌, ◌<◌, ◌+◌, length, sym, ◌∙◌, arith}
use Rattle.fs_closing.specs.NodeTable.{table_of}
use Rattle.fs_closing.specs.Rules.{system_of}
use Rattle.fs_closing.specs.Work.{work_of}
use Rattle.fs_unify.proofs.CarryLemmas.{carries_none, carries_on}
use Rattle.fs_unify.proofs.PayLemmas.{paid_none, paid_more, paid_all}
use Rattle.fs_unify.proofs.entering.enter_owed.Goals as goal

pub loop-k-init : goal.loop-k-init
loop-k-init c =
    let g = c.args.system.now in
    record {
      carries = carries_none (system_of g) (table_of c.args.nodes.now) (work_of g.rules c.args.tasks.now);
      sound = c.requires.sound;
      flat = λ f. f;
      paid = paid_none g c.args.graph.now c.args.offset (table_of c.args.nodes.now) (work_of g.rules c.args.tasks.now);
    }

pub overflow_add-offset : goal.overflow_add-offset
overflow_add-offset c =
    let k_in : c.loop-k.k < length c.args.graph.now.types = omega (arith, c.loop-k-test.true, c.nodes-k-end.ensures.count) in
    omega (arith, k_in, c.requires.inside, c.requires.sound.whole.stands.small)

pub enter_rules-requires-clause-node : goal.enter_rules-requires-clause-node
enter_rules-requires-clause-node c =
    let k_in : c.loop-k.k < length c.args.graph.now.types = omega (arith, c.loop-k-test.true, c.nodes-k-end.ensures.count) in
    omega (arith, k_in, c.requires.inside, c.loop-k.invariant.carries.more)

pub enter_rules-requires-clause-ty_in : goal.enter_rules-requires-clause-ty_in
enter_rules-requires-clause-ty_in c =
    let k_in : c.loop-k.k < length c.args.graph.now.types = omega (arith, c.loop-k-test.true, c.nodes-k-end.ensures.count) in
    omega (arith, c.ty.ensures, c.requires.graph.types_in c.loop-k.k 0 k_in)

pub enter_rules-requires-clause-type_is : goal.enter_rules-requires-clause-type_is
enter_rules-requires-clause-type_is c =
    let k_in : c.loop-k.k < length c.args.graph.now.types = omega (arith, c.loop-k-test.true, c.nodes-k-end.ensures.count) in
    let here : c.args.offset + c.loop-k.k < c.args.nodes.now.size = omega (arith, k_in, c.requires.inside) in
    c.loop-k.invariant.carries.type_old (c.args.offset + c.loop-k.k) here ∙ c.requires.types_are c.loop-k.k k_in ∙ sym c.ty.ensures

pub enter_rules-requires-clause-lists : goal.enter_rules-requires-clause-lists
enter_rules-requires-clause-lists c = (c.requires.owes.facts, c.requires.owes.lists)

pub loop-k-preserved : goal.loop-k-preserved
loop-k-preserved c =
    let g = c.args.system.now in
    let r = c.in_ok-enter_rules.ensures in
    let k_in : c.loop-k.k < length c.args.graph.now.types = omega (arith, c.loop-k-test.true, c.nodes-k-end.ensures.count) in
    record {
      carries = carries_on (system_of g) _ _ _ _ _ _ c.loop-k.invariant.carries r.carries;
      sound = r.sound;
      flat = λ f. r.flat (c.loop-k.invariant.flat f);
      paid = paid_more g c.args.graph.now c.nodes-k-end.ensures.graph c.args.owed.now c.requires.owes c.args.offset c.loop-k.k c.ty.result.0 (table_of c.loop-k.nodes)
          (work_of g.rules c.loop-k.tasks) (table_of c.enter_rules.new.nodes) (work_of g.rules c.enter_rules.new.tasks) k_in c.ty.ensures r.carries.follows
          (λ x d. r.paid c.requires.owes.facts x d c.requires.owes.lists) c.loop-k.invariant.paid;
    }

pub returns-clause-paid : goal.returns-clause-paid
returns-clause-paid c =
    let g = c.args.system.now in
    let all : length c.args.graph.now.types ≤ c.loop-k.k = omega (arith, c.loop-k-test.false, c.nodes-k-end.ensures.count) in
    paid_all g c.args.graph.now c.args.offset c.loop-k.k (length c.args.graph.now.types) (table_of c.loop-k.nodes) (work_of g.rules c.loop-k.tasks) all c.loop-k.invariant.paid
