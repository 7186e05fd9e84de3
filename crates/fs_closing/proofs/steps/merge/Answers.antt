use Rattle.std.proofs.Common.{◌≡◌, ◌≢◌, None, List, [], ◌∷◌, ◌++◌, length, refl, sym, ◌∙◌, ap, subst, arith}
use Rattle.type_hierarchy.specs.Table.{count_of, meet_of}
use Rattle.fs_model.specs.Table.{NodeClaim, is_same}
use Rattle.fs_model.specs.Steps.{Joins}
use Rattle.fs_closing.specs.Cells.{chain}
use Rattle.fs_closing.specs.NodeTable.{table_of, own_row, row_of}
use Rattle.fs_closing.specs.Rules.{system_of}
use Rattle.fs_closing.specs.Work.{work_of, AreReady}
use Rattle.fs_closing.specs.Keeps.{StepsTo, deep_of, arc_claims, PushesFacts}
use Rattle.fs_closing.proofs.KeepsLemmas.{Turns-joins, Refutes-meet}
use Rattle.fs_closing.proofs.OrderLemmas.{order_of_laws}
use Rattle.fs_closing.proofs.StepLemmas.{steps_after}
use Rattle.fs_closing.proofs.UniteLemmas.{joins_by}
use Rattle.fs_closing.proofs.steps.merge.Goals as goal

pub meet-requires-clause-a_in : goal.meet-requires-clause-a_in
meet-requires-clause-a_in c =
    let a_in = c.requires.a_in in
    let old = c.ty_of-old.ensures in
    omega (arith, old, c.requires.sound.within.type_in c.args.a a_in)

pub meet-requires-clause-b_in : goal.meet-requires-clause-b_in
meet-requires-clause-b_in c =
    let other = c.ty_of-other.ensures in
    omega (arith, other, c.requires.sound.within.type_in c.args.b c.requires.b_in)

-- the types of the two nodes, as code reads them, and their meet
pub push_rules-requires-clause-old_in : goal.push_rules-requires-clause-old_in
push_rules-requires-clause-old_in c =
    let a_in = c.requires.a_in in
    let old = c.ty_of-old.ensures in
    omega (arith, old, c.requires.sound.within.type_in c.args.a a_in)

pub push_rules-requires-clause-other_in : goal.push_rules-requires-clause-other_in
push_rules-requires-clause-other_in c =
    let other = c.ty_of-other.ensures in
    omega (arith, other, c.requires.sound.within.type_in c.args.b c.requires.b_in)

pub attach_all-requires-clause-sound : goal.attach_all-requires-clause-sound
attach_all-requires-clause-sound c =
    let g = c.args.system.now in
    let a_in = c.requires.a_in in
    record {
      whole = c.unite.ensures.whole;
      within = c.unite.ensures.within (count_of g.types) (length g.introducers) c.in-Some.ensures.within c.requires.sound.within;
      ready = subst (λ n. AreReady n (count_of g.types) (length g.rules) c.push_rules.new.tasks) (sym c.unite.ensures.unites.size_is)
          (c.in_ok-push_rules.ensures.ready c.args.nodes.now.size (count_of g.types) a_in c.requires.sound.ready);
    }

pub attach_all-requires-clause-first_in : goal.attach_all-requires-clause-first_in
attach_all-requires-clause-first_in c =
    omega (arith, c.first_of-first.ensures, c.requires.sound.whole.stands.first_in c.args.b c.requires.b_in, ap length c.unite.ensures.cells)

pub returns-in_default-clause-steps : goal.returns-in_default-clause-steps
returns-in_default-clause-steps c = λ n m en em.
    let g = c.args.system.now in
    let a_in = c.requires.a_in in
    let old = c.ty_of-old.ensures in
    let other = c.ty_of-other.ensures in
    let is : None ≡ meet_of g.types c.ty_of-old.result c.ty_of-other.result = cc (c.in_default.is, c.in_default.ensures.value) in
    let none = ap (λ t. meet_of g.types t ((table_of c.args.nodes.now).type_of c.args.b)) (sym old)
    ∙ ap (meet_of g.types c.ty_of-old.result) (sym other) ∙ sym is in
    Refutes-meet (system_of g) (deep_of c.args.nodes.now) n m c.args.a c.args.b (work_of g.rules c.args.tasks.now) en em none

pub returns-clause-steps : goal.returns-clause-steps
returns-clause-steps c = λ n m en em.
    let g = c.args.system.now in
    let s = system_of g in
    let nodes = c.args.nodes.now in
    let a = c.args.a in
    let b = c.args.b in
    let x = deep_of nodes in
    let y = deep_of c.unite.new.nodes in
    let work = work_of g.rules c.args.tasks.now in
    let pushed = work_of g.rules c.push_rules.new.tasks in
    let old = c.ty_of-old.ensures in
    let other = c.ty_of-other.ensures in
    let met = ap (λ t. meet_of g.types t ((table_of nodes).type_of b)) (sym old)
    ∙ ap (meet_of g.types c.ty_of-old.result) (sym other) ∙ sym c.in-Some.ensures.value in
    let pushes = subst (λ t. PushesFacts s a c.in-Some.met t ((table_of nodes).type_of b) work pushed) old
    (subst (λ t. PushesFacts s a c.in-Some.met c.ty_of-old.result t work pushed) other c.in_ok-push_rules.ensures.work) in
    let first = c.first_of-first.ensures in
    let apart : x.table.live n ≢ x.table.live m = λ e. c.requires.apart (sym en ∙ e ∙ em) in
    let row = row_of nodes b in
    let joins = λ (extra : List NodeClaim).
    subst (λ k. Joins s x.table y.table (work ++ extra) ((arc_claims a row ++ pushed) ++ extra) k (x.table.live m) c.in-Some.met) (sym en)
    (subst (λ k. Joins s x.table y.table (work ++ extra) ((arc_claims a row ++ pushed) ++ extra) a k c.in-Some.met) (sym em)
    (joins_by s x.table y.table a b c.in-Some.met row work pushed extra c.unite.ensures.unites met (λ f. refl)
    (c.requires.sound.whole.stands.once b c.requires.b_in) pushes)) in
    let order = order_of_laws g c.in-Some.ensures.laws in
    let leads = Turns-joins s order x y n m c.in-Some.met work (arc_claims a row ++ pushed) apart joins
    c.unite.ensures.depths in
    let cells = ap (λ l. arc_claims a (chain l c.first_of-first.result ++ own_row c.unite.new.nodes b) ++ pushed) c.unite.ensures.cells
    ∙ ap (λ l. arc_claims a (chain nodes.cells c.first_of-first.result ++ l) ++ pushed) (c.unite.ensures.own b)
    ∙ ap (λ p. arc_claims a (chain nodes.cells p ++ own_row nodes b) ++ pushed) first in
    steps_after g nodes c.unite.new.nodes c.attach_all.new.nodes (is_same n [] m [] ∷ work) (arc_claims a row ++ pushed) c.attach_all.new.tasks c.in_ok-ok.ok leads
    (subst (λ l. StepsTo g c.unite.new.nodes l c.attach_all.new.nodes c.attach_all.new.tasks c.in_ok-ok.ok) cells c.in_ok-ok.ensures.steps)

pub returns-clause-size : goal.returns-clause-size
returns-clause-size c = c.in_ok-ok.ensures.size ∙ c.unite.ensures.unites.size_is
