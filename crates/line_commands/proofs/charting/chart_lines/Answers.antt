use Rattle.std.proofs.Common.{option_map}
use Rattle.grammar_load.specs.Views.{grammar_of}
use Rattle.endings.specs.Meanings.{shelves}
use Rattle.command_files.specs.Grammars.{never}
use Rattle.engine.proofs.Speeches.{book-whole}
use Rattle.line_commands.proofs.charting.chart_lines.Goals as goal

pub chart_with-requires-clause-whole : goal.chart_with-requires-clause-whole
chart_with-requires-clause-whole g c κs within =
    let files = (shelves g.S.Shelf.files g.S.Shelf.faults g.S.Shelf.asked c.args.shelf.now c.load_grammar.new.shelf).files in
    book-whole c.whole_book.ensures files c.args.command.now.grammar.now (option_map (λ s. s.now) c.args.command.now.settings) (grammar_of c.in_ok-grammar.grammar) c.in_ok-grammar.ensures.grammar

pub returns : goal.returns
returns g c =
    let h = shelves g.S.Shelf.files g.S.Shelf.faults g.S.Shelf.asked c.args.shelf.now c.load_grammar.new.shelf in
    c.chart_with.ensures h c.in_ok-grammar.ensures.grammar

pub chart_with-requires-clause-fits : goal.chart_with-requires-clause-fits
chart_with-requires-clause-fits g c κs within =
    let files = (shelves g.S.Shelf.files g.S.Shelf.faults g.S.Shelf.asked c.args.shelf.now c.load_grammar.new.shelf).files in
    c.loaded_names.ensures files never c.args.command.now.grammar.now (option_map (λ s. s.now) c.args.command.now.settings) (grammar_of c.in_ok-grammar.grammar) c.in_ok-grammar.ensures.grammar
