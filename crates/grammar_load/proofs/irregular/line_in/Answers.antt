use Rattle.std.proofs.Common.{map, string_bytes}
use Rattle.grammar_load.proofs.LineLemmas.{unnamed}
use Rattle.grammar_load.proofs.irregular.line_in.Goals as goal

pub returns-in_default : goal.returns-in_default
returns-in_default c = unnamed (λ w. w.now) (map string_bytes c.args.rules.now) c.args.fields.now _ c.in_ok-rule.field-0 c.if-fields-ne3.false c.in_ok-rule.ensures c.in_default.is
