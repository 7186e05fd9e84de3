use Rattle.std.proofs.Common.{List, subst}
use Rattle.std.specs.List.Sorted.{IsPermutation}
use Rattle.std.proofs.lemmas.List.Sorted.{IsPermutation-map}
use Rattle.mrs_model.specs.Inner.Elements.{Element}
use Rattle.mrs_model.specs.Inner.State.{element_of, elements_of}
use Rattle.mrs_model.proofs.elements.rarest_first.Goals as goal

pub returns : goal.returns
returns c =
    subst (λ (l : List Element). IsPermutation l (elements_of c.sort_unstable_by_key.new.self.items)) c.in_ok-out.ensures
    (IsPermutation-map element_of _ _ c.sort_unstable_by_key.ensures.permutation)
