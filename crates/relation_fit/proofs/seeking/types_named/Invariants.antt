use Rattle.std.proofs.Common.{◌≡◌}
use Rattle.mrs_extract.specs.Extraction.{type_name}
use Rattle.relation_fit.proofs.Scanning.{AreFound}
use Rattle.relation_fit.proofs.seeking.types_named.Given as goal

abbrev pub invariant-loop-t : goal.invariant-loop-t
invariant-loop-t l = AreFound (λ t. type_name l.types t ≡ l.name) l.from l.t l.found.items
