use Rattle.std.proofs.Common.{take}
use Rattle.std.specs.List.{AllZip}
use Rattle.type_hierarchy.specs.Decls.{texts}
use Rattle.constraint_expand.specs.Introducers.{numbers_of, IsIntroducer}
use Rattle.constraint_expand.specs.Found.{numbers_noted}
use Rattle.constraint_expand.proofs.splits.introducers_of.Given as goal

abbrev pub invariant-loop-feat : goal.invariant-loop-feat
invariant-loop-feat l =
    AllZip (λ f t. IsIntroducer l.types (numbers_noted l.writers.entries f) t) (texts (take l.feat-index l.feats)) (numbers_of l.introducers.items)
