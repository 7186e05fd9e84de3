use Rattle.std.proofs.Common.{◌∙◌, subst, sym}
use Rattle.book_signs.specs.Trees.{signs_of}
use Rattle.generate_model.specs.Covers.{IsCount}
use Rattle.generated_leaves.specs.Views.{leaf_seen}
use Rattle.grammar_shapes.specs.Systems.{meaning_of, Belongs}
use Rattle.mrs_generate.specs.Inner.Lined.{MayStand}
use Rattle.mrs_generate.proofs.Lists.{all_more}
use Rattle.mrs_generate.proofs.Lined.{leaf_lined}
use Rattle.mrs_generate.proofs.leaves.add_leaf.Goals as goal

pub returns-clause-lined : goal.returns-clause-lined
returns-clause-lined c = λ xs h.
    leaf_lined (signs_of c.args.signs.now) (meaning_of c.args.shapes.now) xs c.args.into.now.items c.push.new.self.items (leaf_seen c.args.signs.now c.args.leaf.now) c.in_ok-cover.cover c.in_ok-shape.shape c.in_ok-name.name
    c.in_ok-push.ensures.items c.in_ok-cover.ensures (c.in_ok-name.ensures ∙ c.len.ensures ∙ c.args.into.now.ok.0) (rw c.deref.ensures at c.in_ok-shape.ensures.shape) h

pub returns-clause-stand : goal.returns-clause-stand
returns-clause-stand c = λ h.
    all_more (MayStand (Belongs c.args.shapes.now) c.args._bound.now) c.args.into.now.items c.push.new.self.items (record { cover = c.in_ok-cover.cover; shape = c.in_ok-shape.shape; name = c.in_ok-name.name })
    c.in_ok-push.ensures.items (c.in_ok-shape.ensures.belongs, subst (IsCount c.args._bound.now) (sym c.in_ok-cover.ensures) c.requires.proper) h

pub shape_of-requires-clause-made : goal.shape_of-requires-clause-made
shape_of-requires-clause-made c = rw c.deref.ensures c.requires.made

pub shape_of-requires-clause-sound : goal.shape_of-requires-clause-sound
shape_of-requires-clause-sound c = rw c.deref.ensures c.requires.sound
