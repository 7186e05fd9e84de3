use Rattle.std.proofs.Common.{ℕ, subst}
use Rattle.forced_types.specs.declared.nodes.Image.{Image}
use Rattle.forced_types.specs.Inner.Sound.{IsImage, path_in}
use Rattle.forced_types.proofs.nodes.Nodes.is_image.Goals as goal

abbrev image_of : ℕ → ℕ → Image
image_of part node = record { part = part; node = node }

pub returns-in-Some-clause-image : goal.returns-in-Some-clause-image
returns-in-Some-clause-image c = λ yes.
    let both = c.is_same_image.ensures yes in
    subst (λ x. IsImage c.args.given.parts.now (path_in c.args.self.now c.args.n) (image_of c.args.image.part x)) both.1
    (subst (λ x. IsImage c.args.given.parts.now (path_in c.args.self.now c.args.n) (image_of x c.in-Some.own.node)) both.0 c.in-Some.ensures.image)
