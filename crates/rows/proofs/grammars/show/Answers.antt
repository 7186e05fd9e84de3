use Rattle.std.proofs.Common.{None}
use Rattle.grammar_load.specs.Views.{grammar_of}
use Rattle.endings.specs.Meanings.{shelves}
use Rattle.command_files.specs.Grammars.{never}
use Rattle.engine.proofs.Speeches.{book-whole}
use Rattle.rows.proofs.grammars.show.Goals as goal

pub show_with-requires-clause-whole : goal.show_with-requires-clause-whole
show_with-requires-clause-whole g c κs within =
    let files = (shelves g.S.Shelf.files g.S.Shelf.faults g.S.Shelf.asked c.args.shelf.now c.load_grammar.new.shelf).files in
    book-whole c.whole_book.ensures files c.args.name.now None (grammar_of c.in-Ok.grammar) c.in-Ok.ensures.grammar

pub show_with-requires-clause-fits : goal.show_with-requires-clause-fits
show_with-requires-clause-fits g c κs within =
    let files = (shelves g.S.Shelf.files g.S.Shelf.faults g.S.Shelf.asked c.args.shelf.now c.load_grammar.new.shelf).files in
    c.loaded_names.ensures files never c.args.name.now None (grammar_of c.in-Ok.grammar) c.in-Ok.ensures.grammar
