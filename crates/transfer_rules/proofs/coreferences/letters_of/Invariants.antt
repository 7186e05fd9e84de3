use Rattle.std.proofs.Common.{◌≡◌, map, take}
use Rattle.std.specs.String.{string_bytes}
use Rattle.transfer_rules.specs.Forms.{letters_in}
use Rattle.transfer_rules.proofs.coreferences.letters_of.Given as goal

abbrev pub invariant-loop-name : goal.invariant-loop-name
invariant-loop-name l = map string_bytes l.letters.items ≡ map (λ n. letters_in n.now) (take l.name-index l.names)
