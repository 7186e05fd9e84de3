use Rattle.std.proofs.Common.{◌<◌, All, take}
use Rattle.structure_rows.proofs.facts.path_in.Given as goal

abbrev pub invariant-loop-feat : goal.invariant-loop-feat
invariant-loop-feat l = All (λ f. f.0 < l.feats) (take l.feat-index l.path)
