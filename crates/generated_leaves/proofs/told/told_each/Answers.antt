use Rattle.std.proofs.Common.{◌∙◌, [], length, map, sym, subst}
use Rattle.std.proofs.lemmas.Iterator.Adapters.{YieldsList-from_vec}
use Rattle.std.proofs.lemmas.Iterator.Consumers.{YieldsList-end, YieldsList-turn}
use Rattle.morph_analysis.proofs.Lists.{same_map}
use Rattle.mrs_places.specs.Paths.{paths_of}
use Rattle.book_signs.specs.Trees.{signs_of}
use Rattle.rule_trees.specs.Mothers.{view_in}
use Rattle.lexical_items.specs.InflectedViews.{tree_seen}
use Rattle.generated_leaves.specs.Views.{told_seen}
use Rattle.generated_leaves.specs.Inner.Telling.{AreToldOf}
use Rattle.generated_leaves.proofs.Telling.{none_told, told_next, full_at}
use Rattle.generated_leaves.proofs.told.told_each.Goals as goal

pub loop-one-init : goal.loop-one-init
loop-one-init c =
    let s = c.args.signs.now in
    subst (λ xs. AreToldOf (signs_of s) s.book.system.types (paths_of c.args.paths.now) [] (map (told_seen s) xs)) (sym c.in_ok-out.ensures.items)
    (none_told (signs_of s) s.book.system.types (paths_of c.args.paths.now))

pub told-requires-clause-full : goal.told-requires-clause-full
told-requires-clause-full c =
    let s = c.args.signs.now in
    let turn = YieldsList-turn (YieldsList-from_vec c.args.trees.items (cc) (cc)) c.loop-one.yielded _ c.loop-one.yielded_by _ c.next.new.self c.in-Some.one c.in-Some.is c.next.ensures.steps in
    full_at (tree_seen (λ full. view_in s full.graph)) (signs_of s) c.args.trees.items (length c.loop-one.yielded) c.in-Some.one c.requires.full turn.0 turn.1

pub loop-one-preserved : goal.loop-one-preserved
loop-one-preserved c =
    let s = c.args.signs.now in
    let seen = tree_seen (λ full. view_in s full.graph) in
    told_next (signs_of s) s.book.system.types (paths_of c.args.paths.now) seen (told_seen s) c.loop-one.yielded c.in-Some.one c.loop-one.out.items c.push.new.self.items c.in_ok-told.field-0
    c.loop-one.invariant c.in_ok-told.ensures.same c.in_ok-told.ensures.said c.in_ok-push.ensures.items

pub returns : goal.returns
returns c =
    let s = c.args.signs.now in
    let seen = tree_seen (λ full. view_in s full.graph) in
    let end = YieldsList-end (YieldsList-from_vec c.args.trees.items (cc) (cc)) c.loop-one.yielded _ c.loop-one.yielded_by _ c.next.new.self c.in-None.is c.next.ensures.steps in
    subst (λ xs. AreToldOf (signs_of s) s.book.system.types (paths_of c.args.paths.now) (map seen xs) (map (told_seen s) c.loop-one.out.items)) (sym (same_map c.loop-one.yielded) ∙ end.0) c.loop-one.invariant
