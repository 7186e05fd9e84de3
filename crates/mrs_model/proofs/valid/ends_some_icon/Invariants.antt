use Rattle.mrs_model.specs.Views.{icon_of}
use Rattle.mrs_model.specs.Valid.{IsEnd}
use Rattle.mrs_model.proofs.Rows.{NoneTo}
use Rattle.mrs_model.proofs.valid.ends_some_icon.Given as goal

abbrev pub invariant-loop-k : goal.invariant-loop-k
invariant-loop-k l = NoneTo (λ x. IsEnd l.v (icon_of x)) l.icons l.k
