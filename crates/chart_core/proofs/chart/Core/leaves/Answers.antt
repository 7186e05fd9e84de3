use Rattle.std.proofs.Common.{◌≡◌, ◌∙◌, ◌++◌, [], sym, ap, subst, All, map, length, arith, refl, Some, None, append-nil}
use Rattle.std.specs.Prelude.{reverse, option_to_list}
use Rattle.std.proofs.lemmas.List.{reverse-reverse, length-map}
use Rattle.chart_core.specs.Leaves.{leaf_seen, leaf_rows, LeafBelongs}
use Rattle.chart_core.proofs.Reversed.{leaf_taken, leaf_room, nil_when, rows_seen, leaves_belong}
use Rattle.chart_core.proofs.chart.Core.leaves.Goals as goal

pub loop-row-init : goal.loop-row-init
loop-row-init g c =
    record {
      leaves = ap (λ xs. xs ++ leaf_rows (reverse c.reverse.new.self.items)) c.requires.1.no_leaves_yet ∙ ap (λ xs. leaf_rows (reverse xs)) c.reverse.ensures.items ∙ ap leaf_rows (reverse-reverse c.args.self.rows.items);
      room = refl;
    }

pub push_reserved-requires : goal.push_reserved-requires
push_reserved-requires g c =
    let popped = c.pop.ensures.items ∙ ap (λ o. c.pop.new.self.items ++ option_to_list o) c.in-Some.is in
    let next = leaf_taken c.loop-row.leaves.items c.loop-row.rows.items c.pop.new.self.items c.in-Some.row (Some c.in-Some-leaf_of.leaf) (leaf_rows c.args.self.rows.items) popped (sym c.in-Some-leaf_of.is ∙ c.leaf_of.ensures) c.loop-row.invariant.leaves in
    let less = leaf_room c.loop-row.leaves.items c.in-Some-leaf_of.leaf (leaf_rows (reverse c.pop.new.self.items)) (leaf_rows c.args.self.rows.items) next in
    let m = g.S.Shapes.meaning c.requires.0 in
    let same = ap length (rows_seen m c.args.self.rows.items) in
    let counted = length-map (leaf_rows c.args.self.rows.items) (leaf_seen m) in
    let room = c.requires.1.room_for_leaves in
    let cap = c.loop-row.invariant.room in
    omega (arith, less, same, counted, room, cap)

pub loop-row-preserved-in-Some-leaf_of : goal.loop-row-preserved-in-Some-leaf_of
loop-row-preserved-in-Some-leaf_of g c =
    let popped = c.pop.ensures.items ∙ ap (λ o. c.pop.new.self.items ++ option_to_list o) c.in-Some.is in
    let next = leaf_taken c.loop-row.leaves.items c.loop-row.rows.items c.pop.new.self.items c.in-Some.row (Some c.in-Some-leaf_of.leaf) (leaf_rows c.args.self.rows.items) popped (sym c.in-Some-leaf_of.is ∙ c.leaf_of.ensures) c.loop-row.invariant.leaves in
    record { leaves = ap (λ xs. xs ++ leaf_rows (reverse c.pop.new.self.items)) c.push_reserved.ensures.items ∙ next; room = c.push_reserved.ensures.capacity ∙ c.loop-row.invariant.room }

pub loop-row-preserved : goal.loop-row-preserved
loop-row-preserved g c =
    let popped = c.pop.ensures.items ∙ ap (λ o. c.pop.new.self.items ++ option_to_list o) c.in-Some.is in
    let next = leaf_taken c.loop-row.leaves.items c.loop-row.rows.items c.pop.new.self.items c.in-Some.row None (leaf_rows c.args.self.rows.items) popped (sym c.in_default-leaf_of.is ∙ c.leaf_of.ensures) c.loop-row.invariant.leaves in
    record { leaves = ap (λ xs. xs ++ leaf_rows (reverse c.pop.new.self.items)) (sym (append-nil c.loop-row.leaves.items)) ∙ next; room = c.loop-row.invariant.room }

pub returns-clause-leaves : goal.returns-clause-leaves
returns-clause-leaves g c = λ s.
    let none : c.loop-row.rows.items ≡ [] = nil_when c.loop-row.rows.items c.loop-row.rows.len c.loop-row.rows.ok.0 c.in_default.ensures.cases.0 in
    let all : c.loop-row.leaves.items ≡ leaf_rows c.args.self.rows.items = sym (append-nil c.loop-row.leaves.items) ∙ ap (λ xs. c.loop-row.leaves.items ++ leaf_rows (reverse xs)) (sym none) ∙ c.loop-row.invariant.leaves in
    ap (map (leaf_seen (g.S.Shapes.meaning s))) all ∙ rows_seen (g.S.Shapes.meaning s) c.args.self.rows.items

pub returns-clause-belongs : goal.returns-clause-belongs
returns-clause-belongs g c = λ s is.
    let none : c.loop-row.rows.items ≡ [] = nil_when c.loop-row.rows.items c.loop-row.rows.len c.loop-row.rows.ok.0 c.in_default.ensures.cases.0 in
    let all : c.loop-row.leaves.items ≡ leaf_rows c.args.self.rows.items = sym (append-nil c.loop-row.leaves.items) ∙ ap (λ xs. c.loop-row.leaves.items ++ leaf_rows (reverse xs)) (sym none) ∙ c.loop-row.invariant.leaves in
    subst (All (LeafBelongs (g.S.Shapes.calculus s) (g.S.Shapes.belongs s))) (sym all) (leaves_belong (g.S.Shapes.calculus s) (g.S.Shapes.belongs s) c.args.self.rows.items is.belongs_all)
