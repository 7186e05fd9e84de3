use Rattle.std.proofs.Common.{List, map, true, false, ◌≡◌, ◌&&◌, ◌∙◌, sym, ap}
use Rattle.morph_analysis.specs.declared.lattice.Step.{Step}
use Rattle.morph_analysis.specs.LatticeViews.{lattice_of, step_of}
use Rattle.lexical_items.specs.Seen.{step_seen}
use Rattle.grammar_rules.specs.Views.{item_answer}
use Rattle.engine.specs.Views.{speech_of}
use Rattle.engine.proofs.Results.{if-ok}
use Rattle.line_commands.specs.Notes.{note_line, has_no_tree}
use Rattle.line_commands.specs.Inner.Parsers.{asked_of, IsNoteOf}
use Rattle.line_commands.proofs.Noting.{without-note, with-note, not-deep}
use Rattle.line_commands.proofs.answering.Parser.noted.Goals as goal

pub returns-then-not-notes : goal.returns-then-not-notes
returns-then-not-notes c =
    let p = c.args.self.now in
    without-note (speech_of p.engine) (asked_of p) c.args.number (lattice_of c.args.lattice.now) (item_answer c.args.answer.now) c.requires.answer p.verbose (sym c.notes.ensures ∙ c.if-not-notes.true) c.new.result.items c.new.ensures.items

pub returns : goal.returns
returns c =
    let p = c.args.self.now in
    let l = lattice_of c.args.lattice.now in
    let a = item_answer c.args.answer.now in
    let so : (p.verbose && has_no_tree a) ≡ true = sym c.notes.ensures ∙ c.if-not-notes.false in
    let steps = map (λ s. step_seen (step_of s)) c.in_ok-steps.steps.items in
    let unknown = c.in_ok-steps.ensures p.engine.signs.now p.engine.shapes.now (speech_of p.engine).words p.limits.lexical c.in_ok-leaves.ensures (not-deep (speech_of p.engine) (asked_of p) c.args.number l a c.requires.answer p.verbose so) in
    let same = ap (λ (ss : List Step). note_line c.args.number (map (λ s. step_seen (step_of s)) ss)) c.deref.ensures.value in
    if-ok c.note_line.result _ (λ note. IsNoteOf p c.args.number l note.items)
    (λ note e. with-note (speech_of p.engine) (asked_of p) c.args.number l a c.requires.answer p.verbose so steps unknown note.items (e ∙ same)) c.note_line.ensures
