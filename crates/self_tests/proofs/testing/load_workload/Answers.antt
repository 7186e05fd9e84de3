use Rattle.std.proofs.Common.{ap, ◌∙◌, subst, Some, None, false, map}
use Rattle.std.proofs.lemmas.Result.{IfErr-weaker}
use Rattle.lkb_io.specs.Shelves.{file_or_empty}
use Rattle.endings.specs.Meanings.{Files}
use Rattle.grammar_load.specs.Views.{grammar_of}
use Rattle.command_files.specs.Grammars.{HasGrammar, LacksGrammar}
use Rattle.engine.proofs.Results.{if-ok}
use Rattle.self_tests.specs.SelfTests.{shelved, workload_files, workload_name}
use Rattle.self_tests.specs.Inner.Counts.{IsWorkloadFault}
use Rattle.self_tests.proofs.WorkloadFaults.{still, workload-fault}
use Rattle.self_tests.proofs.testing.load_workload.Goals as goal

pub returns-clause-grammar : goal.returns-clause-grammar
returns-clause-grammar c =
    let e = ap (λ fs. Some (file_or_empty fs)) (c.in-Ok.ensures ∙ ap (map shelved) c.requires) in
    if-ok c.load_grammar.result
    (λ g. HasGrammar (Some (file_or_empty c.in-Ok.shelf)) workload_name None (grammar_of g))
    (λ g. HasGrammar workload_files workload_name None (grammar_of g))
    (λ g h. subst (λ (f : Files). HasGrammar f workload_name None (grammar_of g)) e h) c.load_grammar.ensures.grammar

pub returns-clause-fault : goal.returns-clause-fault
returns-clause-fault c =
    let e = ap (λ fs. Some (file_or_empty fs)) (c.in-Ok.ensures ∙ ap (map shelved) c.requires) in
    IfErr-weaker c.load_grammar.result (LacksGrammar (still c.in-Ok.shelf) workload_name None false) IsWorkloadFault
    (λ fault lacks. workload-fault c.grammar_laws.ensures.calm c.in-Ok.shelf e fault lacks) c.load_grammar.ensures.fault
