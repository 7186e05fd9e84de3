use Rattle.std.proofs.Common.{subst}
use Rattle.std.specs.List.Sorted.{IsPermutation}
use Rattle.std.specs.String.{string_bytes}
use Rattle.std.proofs.lemmas.List.Sorted.{IsPermutation-map}
use Rattle.type_hierarchy.specs.Decls.{texts}
use Rattle.constraint_expand.proofs.NameLemmas.{texts_sorted}
use Rattle.constraint_expand.proofs.features.in_order.Goals as goal

pub returns-clause-moved : goal.returns-clause-moved
returns-clause-moved c =
    subst (λ l. IsPermutation l (texts c.sort.new.self.items)) c.in_ok-names.ensures (IsPermutation-map string_bytes c.in_ok-names.names.items c.sort.new.self.items c.in_ok-sort.ensures.permutation)

pub returns-clause-sorted : goal.returns-clause-sorted
returns-clause-sorted c = texts_sorted c.sort.new.self.items c.in_ok-sort.ensures.sorted
