use Rattle.std.proofs.Common.{map, take}
use Rattle.std.specs.List.{Contains}
use Rattle.std.specs.Str.{str_to_ascii_lowercase}
use Rattle.mrs_reading.proofs.eps.is_among.Given as goal

abbrev pub invariant-loop-role : goal.invariant-loop-role
invariant-loop-role l = Contains (map (λ r. str_to_ascii_lowercase r.now) (take l.role-index l.roles)) (str_to_ascii_lowercase l.name) → ⊥
