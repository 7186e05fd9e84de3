use Rattle.std.proofs.Common.{Err}
use Rattle.grammar_files.proofs.WalkLemmas.{at_exit}
use Rattle.grammar_files.specs.Views.{read_of}
use Rattle.grammar_load.specs.Loads.{Makes, untyped, unexpanded, misshapen}
use Rattle.grammar_load.proofs.ShapeLemmas.{fault_to}
use Rattle.grammar_load.proofs.loading.book_of.Goals as goal

pub returns-in_err-types-clause-fault : goal.returns-in_err-types-clause-fault
returns-in_err-types-clause-fault c =
    at_exit _ c.from_residual.result c.in_err-types.field-0.0 c.from_residual.ensures.1 (fault_to _ (λ f. Makes (read_of c.args.read.now) (Err f)) c.in_err-types.field-0.0 (λ f h. untyped f h) c.in_err-types.ensures.fault)

pub returns-in_err-book-clause-fault : goal.returns-in_err-book-clause-fault
returns-in_err-book-clause-fault c =
    at_exit _ c.from_residual-in_err-book.result c.in_err-book.field-0.0 c.from_residual-in_err-book.ensures.1
    (fault_to _ (λ f. Makes (read_of c.args.read.now) (Err f)) c.in_err-book.field-0.0 (λ f h. unexpanded f h) c.in_err-book.ensures.fault)

pub returns-in_err-check_daughters-clause-fault : goal.returns-in_err-check_daughters-clause-fault
returns-in_err-check_daughters-clause-fault c =
    at_exit _ c.from_residual-in_err-check_daughters.result c.in_err-check_daughters.field-0.0 c.from_residual-in_err-check_daughters.ensures.1
    (fault_to _ (λ f. Makes (read_of c.args.read.now) (Err f)) c.in_err-check_daughters.field-0.0 (λ f h. misshapen c.in_ok-book.book f c.in_ok-book.ensures.book h) c.in_err-check_daughters.ensures.fault)
