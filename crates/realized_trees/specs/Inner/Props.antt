-- What has at most one value.
use Rattle.std.specs.Prelude.{Option, Some, None, IfSome}
use Rattle.std.proofs.Common.{refl}
use Rattle.std.proofs.Props.{props}

pub if_some_prop : {T : Type 0} (P : T → Type 0) → ((x : T) → IsProp (P x)) → (o : Option T) → IsProp (IfSome o P)
if_some_prop P p None a b = refl
if_some_prop P p (Some x) a b = p x a b

pub ruleset path_props = (props, if_some_prop)
