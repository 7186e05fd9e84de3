use Rattle.std.proofs.Common.{Ok, Err}
use Rattle.command_files.proofs.FaultLemmas.{fault_one, calm_first}
use Rattle.command_files.proofs.grammar_laws.grammar_laws.Goals as goal

pub returns : goal.returns
returns c =
    let one = c.one_load.ensures in
    record {
      one_grammar = λ files name settings g h a b. one files name settings (Ok g) (Ok h) a b;
      one_fault = fault_one one;
      not_both = λ files name settings verbose g f a b. one files name settings (Ok g) (Err b.0) a b.2;
      calm = calm_first c.load_without_faults.ensures.fault;
    }
