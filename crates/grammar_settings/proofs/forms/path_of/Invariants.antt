use Rattle.std.proofs.Common.{◌≡◌, ◌++◌, map, drop, string_bytes}
use Rattle.grammar_settings.specs.Forms.{name_of}
use Rattle.grammar_settings.proofs.forms.path_of.Given as goal

abbrev pub invariant-loop-feature : goal.invariant-loop-feature
invariant-loop-feature l = map string_bytes l.out.items ++ map name_of (map (λ f. f.now) (drop l.feature-index l.feature-items)) ≡ map name_of (map (λ f. f.now) l.feature-items)
