use Rattle.std.proofs.Common.{◌<◌, ◌^◌, length, option_map, subst, sym, refl, arith}
use Rattle.packed_items.specs.Answers.{limits_in}
use Rattle.grammar_files.specs.Walks.{IsText}
use Rattle.grammar_load.specs.Views.{grammar_of}
use Rattle.endings.specs.Meanings.{Files, Shelves, shelves}
use Rattle.command_files.specs.Grammars.{never}
use Rattle.engine.proofs.Speeches.{book-whole}
use Rattle.profile_batch.specs.Batches.{batch_meaning}
use Rattle.profile_batch.proofs.NotCome.{at-fault, no-grammar, no-profile}
use Rattle.profile_batch.proofs.ToldReports.{told-report}
use Rattle.profile_batch.proofs.batching.report_of.Goals as goal

pub returns-in_err-grammar : goal.returns-in_err-grammar
returns-in_err-grammar g c =
    let b = c.args.command.now in
    let settings = option_map (λ s. s.now) b.settings in
    let h : Shelves = shelves g.S.Shelf.files g.S.Shelf.faults g.S.Shelf.asked c.args.shelf.now c.load_grammar.new.shelf in
    at-fault _ (batch_meaning b.grammar.now settings b.verbose b.profile.now (limits_in b.limits) b.limits.lexical) h c.from_residual.result c.in_err-grammar.field-0.0 c.from_residual.ensures.1
    (no-grammar b.grammar.now settings b.verbose b.profile.now (limits_in b.limits) b.limits.lexical h c.in_err-grammar.field-0.0 c.in_err-grammar.ensures.fault)

pub returns-in_err-text : goal.returns-in_err-text
returns-in_err-text g c =
    let b = c.args.command.now in
    let settings = option_map (λ s. s.now) b.settings in
    let fault = c.in_err-text.field-0.0 in
    let part : Shelves = shelves g.S.Shelf.files g.S.Shelf.faults g.S.Shelf.asked c.load_grammar.new.shelf c.load_text.new.shelf in
    let h : Shelves = shelves g.S.Shelf.files g.S.Shelf.faults g.S.Shelf.asked c.args.shelf.now c.load_text.new.shelf in
    let lacks = c.late_text.ensures part h b.profile.now b.verbose fault c.load_grammar.ensures.same c.load_grammar.ensures.no_fall refl refl c.in_err-text.ensures.fault in
    at-fault _ (batch_meaning b.grammar.now settings b.verbose b.profile.now (limits_in b.limits) b.limits.lexical) h c.from_residual-in_err-text.result fault c.from_residual-in_err-text.ensures.1
    (no-profile b.grammar.now settings b.verbose b.profile.now (limits_in b.limits) b.limits.lexical h (grammar_of c.in_ok-grammar.grammar) c.in_ok-grammar.ensures.grammar fault lacks)

pub report_with-requires-clause-whole : goal.report_with-requires-clause-whole
report_with-requires-clause-whole g c κs within =
    let b = c.args.command.now in
    book-whole c.whole_book.ensures (g.S.Shelf.files c.args.shelf.now) b.grammar.now (option_map (λ s. s.now) b.settings) (grammar_of c.in_ok-grammar.grammar) c.in_ok-grammar.ensures.grammar

pub report_with-requires-clause-fits : goal.report_with-requires-clause-fits
report_with-requires-clause-fits g c κs within =
    let b = c.args.command.now in
    c.loaded_names.ensures (g.S.Shelf.files c.args.shelf.now) never b.grammar.now (option_map (λ s. s.now) b.settings) (grammar_of c.in_ok-grammar.grammar) c.in_ok-grammar.ensures.grammar

pub report_with-requires-clause-few : goal.report_with-requires-clause-few
report_with-requires-clause-few g c κs within =
    let few = c.in_ok-text.ensures.text.1 in
    subst (λ bs. length bs < 2 ^ 31) (sym c.deref.ensures.value) (omega (arith, few))

pub returns-in-Ok : goal.returns-in-Ok
returns-in-Ok g c = λ lines.
    let b = c.args.command.now in
    let settings = option_map (λ s. s.now) b.settings in
    let h : Shelves = shelves g.S.Shelf.files g.S.Shelf.faults g.S.Shelf.asked c.args.shelf.now c.load_text.new.shelf in
    let made = c.in-Ok.ensures in
    let is = subst (λ (there : Files). IsText there b.profile.now c.in_ok-text.text.items) c.load_grammar.ensures.same c.in_ok-text.ensures.text in
    told-report b.grammar.now settings b.verbose b.profile.now (limits_in b.limits) b.limits.lexical h lines made.0 (grammar_of c.in_ok-grammar.grammar, c.in_ok-grammar.ensures.grammar, made.1)
    c.deref.result.now (subst (IsText (g.S.Shelf.files c.args.shelf.now) b.profile.now) (sym c.deref.ensures.value) is) c.in-Ok.report made.2
