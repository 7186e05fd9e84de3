use Rattle.std.proofs.Common.{◌≡◌, ◌++◌, ◌∷◌, take}
use Rattle.std.specs.List.{flat_map}
use Rattle.std.specs.String.{string_bytes}
use Rattle.derivation.specs.Text.{escaped}
use Rattle.derivation.proofs.text.put_joined.Given as goal

abbrev pub invariant-loop-word : goal.invariant-loop-word
invariant-loop-word l =
    l.into.items ≡ l.initial.into.items ++ flat_map (λ w. 32 ∷ flat_map escaped (string_bytes w)) (take l.word-index l.more)
