use Rattle.self_tests.proofs.Text.{lines-text}
use Rattle.self_tests.proofs.workload_laws.lines_are_text.Goals as goal

pub returns : goal.returns
returns c = lines-text
