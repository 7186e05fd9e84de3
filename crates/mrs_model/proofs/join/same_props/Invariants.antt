use Rattle.std.proofs.Common.{◌≡◌, ◌<◌, ℕ, get_or}
use Rattle.mrs_model.specs.declared.Prop.{Prop}
use Rattle.mrs_model.specs.Views.{property_of}
use Rattle.mrs_model.proofs.join.same_props.Given as goal

abbrev pub invariant-loop-k : goal.invariant-loop-k
invariant-loop-k l = (j : ℕ) (d : Prop) → j < l.k → property_of (get_or l.xs j d) ≡ property_of (get_or l.ys j d)
