use Rattle.std.proofs.Common.{◌≡◌, option_map, inl, subst}
use Rattle.grammar_load.specs.Views.{grammar_of}
use Rattle.endings.specs.Meanings.{shelves}
use Rattle.endings.specs.Reports.{streams}
use Rattle.command_files.specs.Grammars.{never}
use Rattle.engine.proofs.Speeches.{book-whole}
use Rattle.generate_commands.specs.Views.{bounds_with}
use Rattle.generate_commands.specs.Inner.Contributing.{IsServedBy}
use Rattle.generate_commands.proofs.Served.{served-ended, served-stopped}
use Rattle.generate_commands.proofs.generating.generate_lines.Goals as goal

pub with_engine-requires-clause-whole : goal.with_engine-requires-clause-whole
with_engine-requires-clause-whole g c κs within =
    let files = (shelves g.S.Shelf.files g.S.Shelf.faults g.S.Shelf.asked c.args.shelf.now c.load_grammar.new.shelf).files in
    book-whole c.whole_book.ensures files c.args.command.now.grammar.now (option_map (λ s. s.now) c.args.command.now.settings) (grammar_of c.in_ok-grammar.grammar) c.in_ok-grammar.ensures.grammar

pub with_engine-requires-clause-fits : goal.with_engine-requires-clause-fits
with_engine-requires-clause-fits g c κs within =
    let files = (shelves g.S.Shelf.files g.S.Shelf.faults g.S.Shelf.asked c.args.shelf.now c.load_grammar.new.shelf).files in
    c.loaded_names.ensures files never c.args.command.now.grammar.now (option_map (λ s. s.now) c.args.command.now.settings) (grammar_of c.in_ok-grammar.grammar) c.in_ok-grammar.ensures.grammar

pub returns-in-Ok-Ok : goal.returns-in-Ok-Ok
returns-in-Ok-Ok g c =
    let h = shelves g.S.Shelf.files g.S.Shelf.faults g.S.Shelf.asked c.args.shelf.now c.load_grammar.new.shelf in
    let settings = option_map (λ s. s.now) c.args.command.now.settings in
    let o = streams g.I.Source.left g.I.Source.faults g.O.Sink.written g.O.Sink.flushed g.O.Sink.faults c.args.input.now c.with_engine.new.a c.args.out.now c.with_engine.new.b in
    let idle = c.with_engine.new.a ≡ c.args.input.now in
    let untouched = (c.with_engine.new.a ≡ c.args.input.now) × (c.with_engine.new.b ≡ c.args.out.now) in
    let given = c.in-Ok-Ok.ensures.given in
    served-ended c.args.command.now.grammar.now settings c.args.command.now.verbose (bounds_with c.args.command.now.limits) h (grammar_of c.in_ok-grammar.grammar) c.in_ok-grammar.ensures.grammar o idle untouched given.0 given.1 c.in-Ok-Ok.refused
    (subst (IsServedBy (grammar_of c.in_ok-grammar.grammar) given.0 (bounds_with c.args.command.now.limits) o) c.in-Ok-Ok.field-0-is given.2)

pub returns-in-Ok-Err : goal.returns-in-Ok-Err
returns-in-Ok-Err g c =
    let h = shelves g.S.Shelf.files g.S.Shelf.faults g.S.Shelf.asked c.args.shelf.now c.load_grammar.new.shelf in
    let settings = option_map (λ s. s.now) c.args.command.now.settings in
    let o = streams g.I.Source.left g.I.Source.faults g.O.Sink.written g.O.Sink.flushed g.O.Sink.faults c.args.input.now c.with_engine.new.a c.args.out.now c.with_engine.new.b in
    let idle = c.with_engine.new.a ≡ c.args.input.now in
    let untouched = (c.with_engine.new.a ≡ c.args.input.now) × (c.with_engine.new.b ≡ c.args.out.now) in
    let given = c.in-Ok-Err.ensures.given in
    served-stopped c.args.command.now.grammar.now settings c.args.command.now.verbose (bounds_with c.args.command.now.limits) h (grammar_of c.in_ok-grammar.grammar) c.in_ok-grammar.ensures.grammar o idle untouched given.0 given.1 c.in-Ok-Err.stop
    (subst (IsServedBy (grammar_of c.in_ok-grammar.grammar) given.0 (bounds_with c.args.command.now.limits) o) c.in-Ok-Err.field-0-is given.2)

pub returns : goal.returns
returns g c = inl (c.in-Err.ensures.none.0, c.in-Err.ensures.none.1)
