use Rattle.std.proofs.Common.{◌<◌, length}
use Rattle.std.specs.Prelude.{All}
use Rattle.mrs_extract.specs.Inner.Routes.{numbers_of}
use Rattle.relation_fit.proofs.names.features_named.Given as goal

abbrev pub invariant-loop-part : goal.invariant-loop-part
invariant-loop-part l = All (λ f. f < length l.paths.feats.items) (numbers_of l.path.items)
