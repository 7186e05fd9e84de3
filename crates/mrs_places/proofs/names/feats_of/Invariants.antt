use Rattle.std.proofs.Common.{◌≡◌, map, take, string_bytes}
use Rattle.type_hierarchy.specs.Decls.{texts}
use Rattle.mrs_places.specs.Paths.{feature_of}
use Rattle.mrs_places.specs.Settled.{feature_said}
use Rattle.mrs_places.proofs.names.feats_of.Given as goal

abbrev pub invariant-loop-name : goal.invariant-loop-name
invariant-loop-name l = map feature_of l.found.items ≡ map (λ n. feature_said (texts l.feats) (string_bytes n)) (take l.name-index l.names.items)
