use Rattle.mrs_model.specs.Views.{hcon_of}
use Rattle.mrs_model.specs.Valid.{IsEnd}
use Rattle.mrs_model.proofs.Rows.{NoneTo}
use Rattle.mrs_model.proofs.valid.ends_some_hcon.Given as goal

abbrev pub invariant-loop-k : goal.invariant-loop-k
invariant-loop-k l = NoneTo (λ x. IsEnd l.v (hcon_of x)) l.hcons l.k
