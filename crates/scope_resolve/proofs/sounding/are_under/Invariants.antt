use Rattle.std.proofs.Common.{take}
use Rattle.std.specs.Prelude.{Contains}
use Rattle.scope_model.specs.declared.Binding.{Binding}
use Rattle.scope_model.specs.States.{IsUnder}
use Rattle.scope_resolve.specs.Inner.Nets.{frame_in}
use Rattle.scope_resolve.specs.Inner.Filling.{state_of}
use Rattle.scope_resolve.proofs.sounding.are_under.Given as goal

abbrev pub invariant-loop-k : goal.invariant-loop-k
invariant-loop-k l = (b : Binding) → Contains (take l.k l.net.parts.bindings.items) b → IsUnder (frame_in l.net.parts) (state_of l.trail) b
