use Rattle.std.proofs.Common.{◌≡◌, ◌∙◌, Some, length, map, sym, ap, subst, arith, Vec, Global}
use Rattle.std.specs.List.{remove}
use Rattle.std.proofs.lemmas.Bool.{eqb-true}
use Rattle.fs_graph.specs.GraphMap.{node_at}
use Rattle.fs_graph.specs.declared.facts.Feat.{Feat}
use Rattle.fs_graph.specs.Facts.{path_of}
use Rattle.relation_fit.specs.declared.links.DaughterList.{DaughterList}
use Rattle.relation_fit.specs.Lists.{list_seen, places_seen}
use Rattle.relation_fit.specs.Inner.Links.{open_seen, BeginsAt, Linked}
use Rattle.relation_fit.proofs.Linking.{linked_none, linked_threads}
use Rattle.relation_fit.proofs.Stepping.{step_daughter, step_cell, no_items}
use Rattle.relation_fit.proofs.links.threads.Goals as goal
use Rattle.relation_fit.proofs.links.threads.Goals.{in-Some-beginning_at, in_default-beginning_at+else-is_empty+in_ok-push}

pub loop-turn-init : goal.loop-turn-init
loop-turn-init c = λ n at.
    let g = c.args.graph.now in
    let l = list_seen c.args.list.now in
    let ps = places_seen c.args.places.now in
    let e : c.in_ok-path.path.items ≡ c.args.list.now.start.items = c.in_ok-path.ensures.items ∙ c.deref.ensures.value in
    subst (λ p. Linked g l ps (map open_seen c.in_ok-left.left.items) (path_of p)) (sym e)
    (linked_none g l ps (map open_seen c.in_ok-left.left.items) c.in_ok-left.ensures n (subst (λ p. node_at g (path_of p) ≡ Some n) e at))

pub returns-then-stands_at : goal.returns-then-stands_at
returns-then-stands_at c = λ yes h rule e shows.
    let g = c.args.graph.now in
    let l = list_seen c.args.list.now in
    let ps = places_seen c.args.places.now in
    let at : node_at g (path_of c.loop-turn.path.items) ≡ Some c.in-Some.node.0 = ap (λ p. node_at g (path_of p)) (sym c.deref-in-loop-turn.ensures.value) ∙ sym c.in-Some.ensures in
    let end : node_at g (path_of c.args.list.now.end.items) ≡ Some c.in-Some.node.0 = ap (λ p. node_at g (path_of p)) (sym c.deref-then-is_empty.ensures.value) ∙ c.stands_at.ensures c.if-stands_at.true in
    let empty = eqb-true _ _ (sym c.is_empty.ensures ∙ c.if-is_empty.true) in
    let none : length c.loop-turn.left.items ≡ 0 = omega (arith, empty, c.loop-turn.left.ok.0) in
    linked_threads g l ps (path_of c.loop-turn.path.items) c.in-Some.node.0 at end
    (subst (λ ds. Linked g l ps (map open_seen ds) (path_of c.loop-turn.path.items)) (no_items c.loop-turn.left.items none) (c.loop-turn.invariant c.in-Some.node.0 at)) h rule e shows

pub loop-turn-preserved : goal.loop-turn-preserved
loop-turn-preserved c = λ n at.
    let g = c.args.graph.now in
    let l = list_seen c.args.list.now in
    let ps = places_seen c.args.places.now in
    let here : node_at g (path_of c.loop-turn.path.items) ≡ Some c.in-Some.node.0 = ap (λ p. node_at g (path_of p)) (sym c.deref-in-loop-turn.ensures.value) ∙ sym c.in-Some.ensures in
    let known = c.loop-turn.invariant c.in-Some.node.0 here in
    elim c.match-beginning_at.branch [
      | in-Some-beginning_at w ↦
          let left : c.match-beginning_at.left.items ≡ remove c.loop-turn.left.items w.in-Some-beginning_at.k = ap (λ (v : Vec DaughterList Global). v.items) w.left-is ∙ w.remove-taken.ensures.items in
          let path : c.match-beginning_at.path.items ≡ w.remove-taken.result.end.items = ap (λ (v : Vec Feat Global). v.items) w.path-is in
          let begins = subst (λ ds. BeginsAt g (map open_seen ds) c.in-Some.node.0 w.in-Some-beginning_at.k) c.deref-in-loop-turn-2.ensures.value w.in-Some-beginning_at.ensures in
          let next = step_daughter g c.args.list.now ps c.loop-turn.left.items w.in-Some-beginning_at.k w.remove-taken.result c.loop-turn.path.items c.in-Some.node.0 n w.remove-taken.ensures.value begins here
          (subst (λ p. node_at g (path_of p) ≡ Some n) path at) known in
          subst (λ ds. Linked g l ps (map open_seen ds) (path_of c.match-beginning_at.path.items)) (sym left)
          (subst (λ p. Linked g l ps (map open_seen (remove c.loop-turn.left.items w.in-Some-beginning_at.k)) (path_of p)) (sym path) next)
      | in_default-beginning_at+else-is_empty+in_ok-push w ↦
          let left : c.match-beginning_at.left.items ≡ c.loop-turn.left.items = ap (λ (v : Vec DaughterList Global). v.items) w.left-is in
          let path = ap (λ (v : Vec Feat Global). v.items) w.path-is ∙ w.in_ok-push.ensures.items in
          let next = step_cell g c.args.list.now ps c.loop-turn.left.items c.loop-turn.path.items c.in-Some.node.0 n here (subst (λ p. node_at g (path_of p) ≡ Some n) path at) known in
          subst (λ ds. Linked g l ps (map open_seen ds) (path_of c.match-beginning_at.path.items)) (sym left)
          (subst (λ p. Linked g l ps (map open_seen c.loop-turn.left.items) (path_of p)) (sym path) next)
    ]
