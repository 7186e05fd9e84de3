use Rattle.std.proofs.Common.{ap, sym, subst, ◌∙◌}
use Rattle.std.specs.Prelude.{MatchOption}
use Rattle.tree_model.specs.Lists as model
use Rattle.forest_unpack.specs.Items.{AllListed}
use Rattle.forest_unpack.specs.Plans.{row_of}
use Rattle.forest_unpack.specs.Inner.Making.{daughters_in, IsLacked}
use Rattle.forest_unpack.proofs.listing.lacking.Goals as goal

pub returns-in-Leaf : goal.returns-in-Leaf
returns-in-Leaf g c = subst (λ r. AllListed c.args.table.now (daughters_in (row_of r))) (sym c.in-Leaf.is) tt

pub first_lacking-requires : goal.first_lacking-requires
first_lacking-requires g c =
    let e = c.deref.ensures.value ∙ sym (ap (λ r. daughters_in (row_of r)) c.in-Whole.is) in
    λ d has. c.requires d (subst (model.Has d) e has)

pub returns-in-Whole : goal.returns-in-Whole
returns-in-Whole g c =
    let e = c.deref.ensures.value ∙ sym (ap (λ r. daughters_in (row_of r)) c.in-Whole.is) in
    subst (λ ds. MatchOption c.first_lacking.result (AllListed c.args.table.now ds) (λ d. IsLacked c.args.table.now d ds)) e c.first_lacking.ensures
