use Rattle.std.proofs.Common.{◌≡◌, map, drop}
use Rattle.std.specs.List.{list_all}
use Rattle.grammar_settings.specs.Forms.{is_word}
use Rattle.grammar_settings.proofs.forms.is_path.Given as goal

abbrev pub invariant-loop-feature : goal.invariant-loop-feature
invariant-loop-feature l = list_all is_word (map (λ f. f.now) (drop l.feature-index l.feature-items)) ≡ list_all is_word (map (λ f. f.now) l.feature-items)
