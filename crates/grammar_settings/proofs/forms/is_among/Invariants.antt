use Rattle.std.proofs.Common.{◌≡◌, map, drop}
use Rattle.grammar_settings.specs.Forms.{is_among}
use Rattle.grammar_settings.proofs.forms.is_among.Given as goal

abbrev pub invariant-loop-n : goal.invariant-loop-n
invariant-loop-n l = is_among (map (λ m. m.now) (drop l.n-index l.names)) l.name ≡ is_among (map (λ m. m.now) l.names) l.name
