use Rattle.std.proofs.Common.{Err}
use Rattle.grammar_files.proofs.WalkLemmas.{at_exit}
use Rattle.grammar_files.specs.Views.{read_of}
use Rattle.grammar_load.specs.Loads.{Makes, misshapen}
use Rattle.grammar_load.proofs.ShapeLemmas.{fault_to}
use Rattle.grammar_load.proofs.loading.grammar_of_files.Goals as goal

pub returns-in_err-entries-clause-fault : goal.returns-in_err-entries-clause-fault
returns-in_err-entries-clause-fault c =
    at_exit _ c.from_residual-in_err-entries.result c.in_err-entries.field-0.0 c.from_residual-in_err-entries.ensures.1
    (fault_to _ (λ f. Makes (read_of c.args.read) (Err f)) c.in_err-entries.field-0.0 (λ f h. misshapen c.in_ok-book.book f c.in_ok-book.ensures.book h) c.in_err-entries.ensures.fault)
