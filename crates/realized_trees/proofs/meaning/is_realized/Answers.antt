use Rattle.std.proofs.Common.{◌↔◌, IsTrue}
use Rattle.tree_model.specs.Trees.{IsRooted}
use Rattle.mrs_model.specs.Views.{meaning_of}
use Rattle.mrs_places.specs.Paths.{paths_of}
use Rattle.book_signs.specs.Trees.{signs_of}
use Rattle.rule_trees.specs.Mothers.{view_in}
use Rattle.generate_model.specs.Contributions.{Means}
use Rattle.realized_trees.specs.Wholes.{input_of}
use Rattle.realized_trees.proofs.Telling.{if_ok}
use Rattle.realized_trees.proofs.meaning.is_realized.Goals as goal

pub returns-then-not-branch : goal.returns-then-not-branch
returns-then-not-branch c = (
  λ yes. absurd (cc),
  λ h.
      let r = c.in_ok-rooted.ensures.1 h.0 in
      let f = c.if-not-branch.true in
      absurd (cc),
)

pub returns : goal.returns
returns c =
    let t = c.args.signs.now in
    let g = signs_of t in
    let f = view_in t c.args.full.now.graph in
    let input = input_of t (paths_of c.args.paths.now) (meaning_of c.args.mrs.now) in
    let root : IsRooted g f = c.in_ok-rooted.ensures.0 c.if-not-branch.false in
    if_ok c.means.result (λ yes. IsTrue yes ↔ Means g input f) (λ yes. IsTrue yes ↔ (IsRooted g f × Means g input f)) (λ yes h. (λ y. (root, h.0 y), λ a. h.1 a.1)) c.means.ensures
