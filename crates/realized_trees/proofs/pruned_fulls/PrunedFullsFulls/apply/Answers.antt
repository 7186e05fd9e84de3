use Rattle.std.proofs.Common.{◌≡◌, ◌∙◌, true, false, map, sym}
use Rattle.std.specs.Prelude.{slice_get}
use Rattle.forest_unpack.specs.Parts.{parts_of}
use Rattle.forest_unpack.specs.Reached.{reached_phrase}
use Rattle.tree_model.specs.Signs.{rule_system}
use Rattle.mrs_model.specs.Views.{meaning_of}
use Rattle.mrs_places.specs.Paths.{paths_of}
use Rattle.book_signs.specs.Trees.{signs_of}
use Rattle.rule_trees.specs.Mothers.{view_in}
use Rattle.generated_leaves.specs.Views.{leaf_seen}
use Rattle.realized_trees.specs.Wholes.{input_of, wholes_of, IsLeafAt}
use Rattle.realized_trees.specs.Sieves.{MayDrop}
use Rattle.realized_trees.proofs.Reaching.{parts_made, reached_made}
use Rattle.realized_trees.proofs.Reached.{all_back, none_over, none_kept, kept, one_mother}
use Rattle.realized_trees.proofs.pruned_fulls.PrunedFullsFulls.apply.Goals as goal

pub apply-requires-clause-reached : goal.apply-requires-clause-reached
apply-requires-clause-reached c =
    let s = c.args.self.now in
    let fs = s.fulls.now in
    let t = fs.signs.now in
    let p = paths_of fs.paths.now in
    let w = wholes_of (signs_of t) (input_of t p (meaning_of fs.mrs.now)) fs.bound.now (map (leaf_seen t) fs.leaves.now) in
    let dropped = MayDrop t p s.sieve.now in
    all_back w dropped (IsLeafAt (signs_of t) (map (leaf_seen t) fs.leaves.now)) (λ f. view_in t f.graph) (parts_of c.args.parts.now) c.requires.reached

pub has_dropped-requires : goal.has_dropped-requires
has_dropped-requires c =
    let s = c.args.self.now in
    let fs = s.fulls.now in
    let t = fs.signs.now in
    let p = paths_of fs.paths.now in
    let input = input_of t p (meaning_of fs.mrs.now) in
    let leaves = map (leaf_seen t) fs.leaves.now in
    parts_made (signs_of t) input fs.bound.now leaves (λ f. view_in t f.graph) (parts_of c.args.parts.now)
    (all_back (wholes_of (signs_of t) input fs.bound.now leaves) (MayDrop t p s.sieve.now) (IsLeafAt (signs_of t) leaves) (λ f. view_in t f.graph) (parts_of c.args.parts.now) c.requires.reached)

pub is_dropped-requires : goal.is_dropped-requires
is_dropped-requires c =
    let fs = c.args.self.now.fulls.now in
    let t = fs.signs.now in
    let vs = map (λ f. view_in t f.graph) (parts_of c.args.parts.now) in
    reached_made (signs_of t) (input_of t (paths_of fs.paths.now) (meaning_of fs.mrs.now)) fs.bound.now (map (leaf_seen t) fs.leaves.now) (view_in t c.in-Some.full.graph)
    (reached_phrase c.args.rule vs (view_in t c.in-Some.full.graph) (rw c.in-Some.is at c.in_ok-full.ensures))

pub returns-then-branch : goal.returns-then-branch
returns-then-branch c = λ v h.
    let s = c.args.self.now in
    let fs = s.fulls.now in
    let t = fs.signs.now in
    let p = paths_of fs.paths.now in
    let w = wholes_of (signs_of t) (input_of t p (meaning_of fs.mrs.now)) fs.bound.now (map (leaf_seen t) fs.leaves.now) in
    let dropped = MayDrop t p s.sieve.now in
    none_over w dropped (IsLeafAt (signs_of t) (map (leaf_seen t) fs.leaves.now)) c.args.rule (map (λ f. view_in t f.graph) (parts_of c.args.parts.now)) (c.in_ok-has_dropped.ensures.0 c.if-branch.true) v h

pub returns-in_default : goal.returns-in_default
returns-in_default c = λ v h. (rw c.in_default.is at c.in_ok-full.ensures) v h.0

pub returns-then-branch-2 : goal.returns-then-branch-2
returns-then-branch-2 c = λ v h.
    let s = c.args.self.now in
    let fs = s.fulls.now in
    let t = fs.signs.now in
    let p = paths_of fs.paths.now in
    let w = wholes_of (signs_of t) (input_of t p (meaning_of fs.mrs.now)) fs.bound.now (map (leaf_seen t) fs.leaves.now) in
    let dropped = MayDrop t p s.sieve.now in
    let vs = map (λ f. view_in t f.graph) (parts_of c.args.parts.now) in
    let full = view_in t c.in-Some.full.graph in
    none_kept w dropped (IsLeafAt (signs_of t) (map (leaf_seen t) fs.leaves.now)) c.args.rule vs full (λ u x. one_mother (signs_of t) c.laws.ensures.order (slice_get (rule_system (signs_of t)).rules c.args.rule) vs full u (rw c.in-Some.is at c.in_ok-full.ensures) x)
    (c.in_ok-is_dropped.ensures.0 c.if-branch-2.true) v h

pub returns : goal.returns
returns c =
    let s = c.args.self.now in
    let fs = s.fulls.now in
    let t = fs.signs.now in
    let p = paths_of fs.paths.now in
    let w = wholes_of (signs_of t) (input_of t p (meaning_of fs.mrs.now)) fs.bound.now (map (leaf_seen t) fs.leaves.now) in
    let dropped = MayDrop t p s.sieve.now in
    let vs = map (λ f. view_in t f.graph) (parts_of c.args.parts.now) in
    kept w dropped (IsLeafAt (signs_of t) (map (leaf_seen t) fs.leaves.now)) c.args.rule vs (view_in t c.in-Some.full.graph) (rw c.in-Some.is at c.in_ok-full.ensures)
    (λ d. (let z : true ≡ false = sym (c.in_ok-is_dropped.ensures.1 d) ∙ c.if-branch-2.false in cc))
    (λ d. (let z : true ≡ false = sym (c.in_ok-has_dropped.ensures.1 d) ∙ c.if-branch.false in cc))
