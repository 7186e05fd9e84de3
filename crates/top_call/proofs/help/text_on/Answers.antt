use Rattle.std.proofs.Common.{◌∙◌, ap, sym}
use Rattle.top_call.specs.Help.{page_on}
use Rattle.top_call.proofs.help.text_on.Goals as goal

pub returns-in-Generate : goal.returns-in-Generate
returns-in-Generate c = c.on_generate.ensures ∙ ap page_on (sym c.in-Generate.is)
