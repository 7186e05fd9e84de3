use Rattle.std.proofs.Common.{◌∙◌, map, ap, string_bytes}
use Rattle.grammar_files.specs.Placings.{placed_of}
use Rattle.spelling_rules.specs.Views.{rule_of, line_of}
use Rattle.grammar_load.proofs.ShapeLemmas.{spelling_is}
use Rattle.grammar_load.proofs.spelling.spelling_of.Goals as goal

pub returns : goal.returns
returns c =
    spelling_is (map placed_of c.args.statements.now) c.args.irregular.now (map rule_of c.deref-2.result.now) (map line_of c.deref-3.result.now) (map string_bytes c.deref.result.now) c.in_ok-spelling.spelling c.in_ok-spelling.ensures
    (ap (map rule_of) c.deref-2.ensures.value ∙ c.in_ok-rules.ensures) (ap (map line_of) c.deref-3.ensures.value ∙ c.in_ok-lines.ensures) (ap (map string_bytes) c.deref.ensures.value ∙ c.in_ok-names.ensures)
