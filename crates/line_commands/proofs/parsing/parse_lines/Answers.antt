use Rattle.std.proofs.Common.{option_map, [], Err, ◌∙◌, sym, ap, subst}
use Rattle.std.proofs.lemmas.Result.{err_from_is_err_and}
use Rattle.endings.specs.Notes.{AreNoted}
use Rattle.endings.proofs.NotedClauses.{tells-nothing}
use Rattle.line_commands.specs.Parsing.{parse_meaning}
use Rattle.line_commands.specs.Views.{asked_with}
use Rattle.line_commands.proofs.Serving.{lacking-noted}
use Rattle.grammar_load.specs.Views.{grammar_of}
use Rattle.endings.specs.Meanings.{shelves}
use Rattle.command_files.specs.Grammars.{never}
use Rattle.engine.proofs.Speeches.{book-whole}
use Rattle.line_commands.proofs.parsing.parse_lines.Goals as goal

pub parse_with-requires-clause-whole : goal.parse_with-requires-clause-whole
parse_with-requires-clause-whole g c κs within =
    let files = (shelves g.S.Shelf.files g.S.Shelf.faults g.S.Shelf.asked c.args.shelf.now c.load_grammar.new.shelf).files in
    book-whole c.whole_book.ensures files c.args.command.now.grammar.now (option_map (λ s. s.now) c.args.command.now.settings) (grammar_of c.in_ok-grammar.grammar) c.in_ok-grammar.ensures.grammar

pub returns-clause-ended : goal.returns-clause-ended
returns-clause-ended g c =
    let h = shelves g.S.Shelf.files g.S.Shelf.faults g.S.Shelf.asked c.args.shelf.now c.load_grammar.new.shelf in
    c.parse_with.ensures.ended h c.in_ok-grammar.ensures.grammar

pub parse_with-requires-clause-fits : goal.parse_with-requires-clause-fits
parse_with-requires-clause-fits g c κs within =
    let files = (shelves g.S.Shelf.files g.S.Shelf.faults g.S.Shelf.asked c.args.shelf.now c.load_grammar.new.shelf).files in
    c.loaded_names.ensures files never c.args.command.now.grammar.now (option_map (λ s. s.now) c.args.command.now.settings) (grammar_of c.in_ok-grammar.grammar) c.in_ok-grammar.ensures.grammar

pub returns-clause-noted : goal.returns-clause-noted
returns-clause-noted g c =
    let h = shelves g.S.Shelf.files g.S.Shelf.faults g.S.Shelf.asked c.args.shelf.now c.load_grammar.new.shelf in
    c.parse_with.ensures.noted h c.in_ok-grammar.ensures.grammar

pub returns-in_err-grammar-clause-noted : goal.returns-in_err-grammar-clause-noted
returns-in_err-grammar-clause-noted g c =
    let h = shelves g.S.Shelf.files g.S.Shelf.faults g.S.Shelf.asked c.args.shelf.now c.load_grammar.new.shelf in
    let command = c.args.command.now in
    let settings = option_map (λ s. s.now) command.settings in
    let m = parse_meaning command.grammar.now settings command.verbose (asked_with command.limits command.lattice command.mrs) in
    let left = g.I.Source.left c.args.input.now in
    let p = err_from_is_err_and c.from_residual.result c.from_residual.ensures.1 in
    ([], subst (AreNoted m h.files left left []) (sym (p.1 ∙ ap Err p.2)) (lacking-noted m h.files left h command.grammar.now settings command.verbose c.in_err-grammar.field-0.0 c.in_err-grammar.ensures.fault), tells-nothing (g.X.Sink.written c.args.err.now) (g.X.Sink.faults c.args.err.now))
