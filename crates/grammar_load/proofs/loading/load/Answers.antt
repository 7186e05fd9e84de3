use Rattle.std.proofs.Common.{option_map, Ok, Err}
use Rattle.grammar_files.specs.Faults.{FoundFault, IsFaultBy}
use Rattle.grammar_files.specs.Walks.{has_failed}
use Rattle.grammar_files.proofs.WalkLemmas.{at_exit, on_err}
use Rattle.grammar_files.specs.Reads.{ReadsTo}
use Rattle.grammar_files.specs.Views.{read_of}
use Rattle.grammar_load.specs.Loaded.{IsGrammarOf}
use Rattle.grammar_load.specs.Loads.{Makes, makes, Loads, unread, loads}
use Rattle.grammar_load.specs.Conditions.{IsLoaded}
use Rattle.grammar_load.specs.Views.{grammar_of}
use Rattle.grammar_load.proofs.LoadedLemmas.{loaded}
use Rattle.grammar_load.proofs.ReadBound.{rules_bound}
use Rattle.grammar_load.proofs.ShapeLemmas.{ok_to, fault_to}
use Rattle.grammar_load.proofs.loading.load.Goals as goal

pub returns-in_err-read-clause-fault : goal.returns-in_err-read-clause-fault
returns-in_err-read-clause-fault g c =
    let fails = has_failed (g.S.Shelf.faults c.args.shelf.now) (g.S.Shelf.faults c.read_files.new.shelf) (g.S.Shelf.asked c.read_files.new.shelf) in
    let lacks = λ (f : FoundFault). Loads (g.S.Shelf.files c.args.shelf.now) fails c.args.top.now (option_map (λ n. n.now) c.args.settings) (Err f) in
    at_exit (IsFaultBy lacks) c.from_residual.result c.in_err-read.field-0.0 c.from_residual.ensures.1
    (fault_to (λ f. ReadsTo (g.S.Shelf.files c.args.shelf.now) fails c.args.top.now (option_map (λ n. n.now) c.args.settings) (Err f)) lacks c.in_err-read.field-0.0 (λ f h. unread f h) c.in_err-read.ensures.fault)

pub grammar_of_files-requires-clause-bound : goal.grammar_of_files-requires-clause-bound
grammar_of_files-requires-clause-bound g c =
    let fails = has_failed (g.S.Shelf.faults c.args.shelf.now) (g.S.Shelf.faults c.read_files.new.shelf) (g.S.Shelf.asked c.read_files.new.shelf) in
    rules_bound (g.S.Shelf.files c.args.shelf.now) fails c.args.top.now (option_map (λ n. n.now) c.args.settings) (read_of c.in_ok-read.read) c.in_ok-read.ensures.read

pub returns-clause-grammar : goal.returns-clause-grammar
returns-clause-grammar g c =
    let fails = has_failed (g.S.Shelf.faults c.args.shelf.now) (g.S.Shelf.faults c.read_files.new.shelf) (g.S.Shelf.asked c.read_files.new.shelf) in
    let r = read_of c.in_ok-read.read in
    ok_to (λ x. IsGrammarOf r (grammar_of x)) (λ x. Loads (g.S.Shelf.files c.args.shelf.now) fails c.args.top.now (option_map (λ n. n.now) c.args.settings) (Ok (grammar_of x))) c.grammar_of_files.result
    (λ x h. loads r (Ok (grammar_of x)) c.in_ok-read.ensures.read (makes (grammar_of x) h)) c.grammar_of_files.ensures.grammar

pub returns-clause-fault : goal.returns-clause-fault
returns-clause-fault g c =
    let fails = has_failed (g.S.Shelf.faults c.args.shelf.now) (g.S.Shelf.faults c.read_files.new.shelf) (g.S.Shelf.asked c.read_files.new.shelf) in
    let r = read_of c.in_ok-read.read in
    on_err (λ f. Makes r (Err f)) (λ f. Loads (g.S.Shelf.files c.args.shelf.now) fails c.args.top.now (option_map (λ n. n.now) c.args.settings) (Err f)) c.grammar_of_files.result
    (λ f h. loads r (Err f) c.in_ok-read.ensures.read h) c.grammar_of_files.ensures.fault

pub returns-clause-loaded : goal.returns-clause-loaded
returns-clause-loaded g c =
    let fails = has_failed (g.S.Shelf.faults c.args.shelf.now) (g.S.Shelf.faults c.read_files.new.shelf) (g.S.Shelf.asked c.read_files.new.shelf) in
    let r = read_of c.in_ok-read.read in
    let bound = rules_bound (g.S.Shelf.files c.args.shelf.now) fails c.args.top.now (option_map (λ n. n.now) c.args.settings) r c.in_ok-read.ensures.read in
    ok_to (λ x. IsGrammarOf r (grammar_of x)) (λ x. IsLoaded (grammar_of x)) c.grammar_of_files.result (λ x h. loaded r (grammar_of x) bound h) c.grammar_of_files.ensures.grammar
