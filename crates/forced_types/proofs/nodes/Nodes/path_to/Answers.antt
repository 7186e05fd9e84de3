use Rattle.std.proofs.Common.{◌≡◌, ◌<◌, ◌+◌, inl, Some, [], ◌∷◌, ◌++◌, length, arith, subst, sym, ap, ◌∙◌, length-append}
use Rattle.std.proofs.lemmas.List.{map-append}
use Rattle.fs_graph.specs.declared.facts.Feat.{Feat}
use Rattle.fs_graph.specs.Facts.{path_of}
use Rattle.forced_types.specs.Inner.Sound.{most_of, size_of, entry_in}
use Rattle.forced_types.specs.Inner.Closed.{walk_in}
use Rattle.forced_types.specs.Inner.Search.{IsGoal, IsNear, mark_at}
use Rattle.forced_types.proofs.SoundLemmas.{entry_count}
use Rattle.forced_types.proofs.SearchLemmas.{IsOnTheWay, arrived, further_on, walk_more}
use Rattle.forced_types.proofs.nodes.Nodes.path_to.Goals as goal

pub loop-length-init : goal.loop-length-init
loop-length-init c =
    let t = c.args.self.now in
    let filled : 0 < size_of t = omega (arith, c.requires.sound.entries.filled, entry_count t) in
    let items = c.new-path.ensures.items in
    record {
      inside = let up = c.requires.flat.up_in 0 filled in omega (arith, c.up-at.ensures);
      walk = subst (λ x. walk_in t 0 (path_of x) ≡ Some c.up-at.result) (sym items) (ap Some (sym c.up-at.ensures));
      size = ap (λ x. length (path_of x)) items;
      way = λ _ q m l w h. inl (q, sym (ap (λ x. path_of x ++ q) items));
    }

pub returns-then-is_goal : goal.returns-then-is_goal
returns-then-is_goal c =
    let g = c.args.given in
    let t = c.args.self.now in
    let p = path_of c.loop-length.path.items in
    let size : length p ≡ c.loop-length.length = c.loop-length.invariant.size in
    arrived g t c.requires.flat c.args.aim p c.loop-length.at (c.loop-length.invariant.way c.requires.flat)
    (omega (arith, size, c.loop-length-test.true, c.most-length-end.ensures)) c.loop-length.invariant.walk
    (subst (IsGoal g t c.args.aim c.loop-length.at) (sym size) (c.is_goal.ensures.goal c.if-is_goal.true))

pub returns-then-is_goal-2 : goal.returns-then-is_goal-2
returns-then-is_goal-2 c =
    let g = c.args.given in
    let t = c.args.self.now in
    let p = path_of c.loop-length.path.items in
    let size : c.most.result ≡ length p = omega (arith, c.loop-length.invariant.size, c.loop-length-test.false, c.loop-length.auto.length-end, c.most-length-end.ensures, c.most.ensures) in
    arrived g t c.requires.flat c.args.aim p c.loop-length.at (c.loop-length.invariant.way c.requires.flat)
    (omega (arith, size, c.most.ensures)) c.loop-length.invariant.walk
    (subst (IsGoal g t c.args.aim c.loop-length.at) size (c.is_goal-2.ensures.goal c.if-is_goal-2.true))

pub loop-length-preserved : goal.loop-length-preserved
loop-length-preserved c =
    let g = c.args.given in
    let t = c.args.self.now in
    let filled : 0 < size_of t = omega (arith, c.requires.sound.entries.filled, entry_count t) in
    let p = path_of c.loop-length.path.items in
    let f = c.in-Some.arc.feat.0 in
    let to = c.in-Some.arc.to.0 in
    let size : length p ≡ c.loop-length.length = c.loop-length.invariant.size in
    let longer : path_of c.push.new.self.items ≡ p ++ f ∷ [] =
    ap path_of c.in_ok-push.ensures.items ∙ map-append (λ (x : Feat). x.0) c.loop-length.path.items (c.in-Some.arc.feat ∷ []) in
    let to_in = c.requires.flat.arc_in c.loop-length.at f to c.loop-length.invariant.inside c.in-Some.ensures.arc in
    let up_in = c.requires.flat.up_in to to_in in
    record {
      inside = omega (arith, up_in, c.up-at-in-loop-length.ensures);
      walk = ap (walk_in t 0) longer ∙ walk_more g t c.requires.flat p c.loop-length.at f to filled c.loop-length.invariant.walk c.in-Some.ensures.arc
          ∙ ap Some (sym c.up-at-in-loop-length.ensures);
      size = omega (arith, ap length longer, length-append p (f ∷ []), size);
      way = λ flat.
          subst (IsOnTheWay g t flat c.args.aim) (sym longer)
          (further_on g t flat c.args.aim c.args.marks.now c.requires.marked filled p c.loop-length.at f to (c.loop-length.invariant.way flat) c.loop-length.invariant.walk
          (λ h. c.is_goal.ensures.none c.if-is_goal.false (subst (IsGoal g t c.args.aim c.loop-length.at) size h))
          (λ h j e near. c.in-Some.ensures.least h j e
          (subst (λ x. IsNear c.args.aim (most_of g) (mark_at c.args.marks.now (entry_in t j).up) (x + 1)) size near)));
    }
