use Rattle.command_files.proofs.TextLemmas.{lacks_late}
use Rattle.command_files.proofs.laws.late_text.Goals as goal

pub returns : goal.returns
returns c = λ part whole name verbose fault files old new asked x. lacks_late part whole files old new asked name verbose fault x
