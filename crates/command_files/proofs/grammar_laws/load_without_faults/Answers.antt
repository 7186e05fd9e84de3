use Rattle.command_files.proofs.LoadLemmas.{grammar_still, load_still, load_there}
use Rattle.command_files.proofs.grammar_laws.load_without_faults.Goals as goal

pub returns : goal.returns
returns c =
    let laws = c.walk_without_faults.ensures in
    record { loaded = grammar_still laws.walked laws.fault laws.shelf; fault = load_still laws.walked laws.fault laws.shelf; shelf = load_there laws.walked laws.fault laws.shelf }
