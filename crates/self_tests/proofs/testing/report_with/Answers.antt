use Rattle.std.proofs.Common.{◌∙◌, ap, subst, length, None}
use Rattle.packed_items.specs.Answers.{limits_in}
use Rattle.grammar_load.specs.Views.{grammar_of}
use Rattle.command_files.specs.Grammars.{never}
use Rattle.engine.proofs.Results.{if-ok}
use Rattle.engine.proofs.Speeches.{book-whole}
use Rattle.engine.specs.Speeches.{Speech, IsSpeechOf}
use Rattle.self_tests.specs.SelfTests.{workload_files, workload_name}
use Rattle.self_tests.specs.Inner.Counts.{IsToldOf, IsSummedSo}
use Rattle.self_tests.proofs.Reported.{as-many, summed}
use Rattle.self_tests.proofs.testing.report_with.Goals as goal

pub count_with-requires-clause-whole : goal.count_with-requires-clause-whole
count_with-requires-clause-whole g c κs within =
    book-whole c.whole_book.ensures workload_files workload_name None (grammar_of c.args.grammar.now) c.requires.grammar

pub count_with-requires-clause-fits : goal.count_with-requires-clause-fits
count_with-requires-clause-fits g c κs within =
    c.loaded_names.ensures workload_files never workload_name None (grammar_of c.args.grammar.now) c.requires.grammar

pub report_on-requires : goal.report_on-requires
report_on-requires g c =
    let test = c.args.test.now in
    ap length c.deref.ensures.value
    ∙ as-many (grammar_of c.args.grammar.now) (limits_in test.limits) test.limits.lexical test.number test.size c.in_ok-counts.counts.items c.in_ok-counts.ensures

pub returns : goal.returns
returns g c =
    let test = c.args.test.now in
    let tree = grammar_of c.args.grammar.now in
    let limits = limits_in test.limits in
    let most = test.limits.lexical in
    let counts = c.in_ok-counts.counts.items in
    if-ok c.report_on.result (IsToldOf test.number test.size c.deref.result.now)
    (λ r. (speech : Speech) × IsSpeechOf tree speech × IsSummedSo speech limits most test.number test.size r)
    (λ r told. summed tree limits most test.number test.size counts c.in_ok-counts.ensures r (subst (λ cs. IsToldOf test.number test.size cs r) c.deref.ensures.value told)) c.report_on.ensures
