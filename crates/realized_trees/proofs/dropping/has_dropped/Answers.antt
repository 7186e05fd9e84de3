use Rattle.std.proofs.Common.{◌≡◌, ◌∙◌, true, false, sym, refl}
use Rattle.std.specs.Prelude.{◌↔◌, IsTrue, map}
use Rattle.std.proofs.lemmas.Result.{IfOk-weaker}
use Rattle.mrs_places.specs.Paths.{paths_of}
use Rattle.book_signs.specs.Trees.{signs_of}
use Rattle.rule_trees.specs.Fulls.{FullTree}
use Rattle.rule_trees.specs.Mothers.{IsMade, view_in}
use Rattle.forest_unpack.specs.Parts.{parts_of}
use Rattle.realized_trees.specs.Inner.Parts.{HasDropped, of_part}
use Rattle.realized_trees.proofs.Tested.{all_a, all_b, all_c, all_d, dropped_a, dropped_b, dropped_c, dropped_d, last_dropped}
use Rattle.realized_trees.proofs.dropping.has_dropped.Goals as goal

pub is_part_dropped-requires : goal.is_part_dropped-requires
is_part_dropped-requires c = all_a (λ (f : FullTree). IsMade (signs_of c.args.signs.now) (view_in c.args.signs.now f.graph)) c.args.parts.now c.requires

pub is_part_dropped-requires-2 : goal.is_part_dropped-requires-2
is_part_dropped-requires-2 c = all_b (λ (f : FullTree). IsMade (signs_of c.args.signs.now) (view_in c.args.signs.now f.graph)) c.args.parts.now c.requires

pub is_part_dropped-requires-3 : goal.is_part_dropped-requires-3
is_part_dropped-requires-3 c = all_c (λ (f : FullTree). IsMade (signs_of c.args.signs.now) (view_in c.args.signs.now f.graph)) c.args.parts.now c.requires

pub is_part_dropped-requires-4 : goal.is_part_dropped-requires-4
is_part_dropped-requires-4 c = all_d (λ (f : FullTree). IsMade (signs_of c.args.signs.now) (view_in c.args.signs.now f.graph)) c.args.parts.now c.requires

pub returns-then-branch : goal.returns-then-branch
returns-then-branch c =
    let t = c.args.signs.now in
    (λ y. dropped_a t (paths_of c.args.paths.now) c.args.sieve.now (λ f. view_in t f.graph) c.args.parts.now (c.in_ok-is_part_dropped.ensures.0 c.if-branch.true), λ d. refl)

pub returns-then-branch-2 : goal.returns-then-branch-2
returns-then-branch-2 c =
    let t = c.args.signs.now in
    (λ y. dropped_b t (paths_of c.args.paths.now) c.args.sieve.now (λ f. view_in t f.graph) c.args.parts.now (c.in_ok-is_part_dropped-2.ensures.0 c.if-branch-2.true), λ d. refl)

pub returns-then-branch-3 : goal.returns-then-branch-3
returns-then-branch-3 c =
    let t = c.args.signs.now in
    (λ y. dropped_c t (paths_of c.args.paths.now) c.args.sieve.now (λ f. view_in t f.graph) c.args.parts.now (c.in_ok-is_part_dropped-3.ensures.0 c.if-branch-3.true), λ d. refl)

pub returns : goal.returns
returns c =
    let t = c.args.signs.now in
    let p = paths_of c.args.paths.now in
    let o = c.args.sieve.now in
    let ps = c.args.parts.now in
    IfOk-weaker c.is_part_dropped-4.result (λ yes. IsTrue yes ↔ HasDropped t p o (map (λ f. view_in t f.graph) (of_part ps.d))) (λ yes. IsTrue yes ↔ HasDropped t p o (map (λ f. view_in t f.graph) (parts_of ps)))
    (λ yes h. (
      λ y. dropped_d t p o (λ f. view_in t f.graph) ps (h.0 y),
      λ all.
          h.1
          (last_dropped t p o (λ f. view_in t f.graph) ps (λ d. (let z : true ≡ false = sym (c.in_ok-is_part_dropped.ensures.1 d) ∙ c.if-branch.false in cc))
          (λ d. (let z : true ≡ false = sym (c.in_ok-is_part_dropped-2.ensures.1 d) ∙ c.if-branch-2.false in cc))
          (λ d. (let z : true ≡ false = sym (c.in_ok-is_part_dropped-3.ensures.1 d) ∙ c.if-branch-3.false in cc)) all),
    )) c.is_part_dropped-4.ensures
