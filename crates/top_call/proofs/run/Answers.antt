use Rattle.std.proofs.Common.{◌≡◌, [], inl, inr, sym, refl, subst, Some, Err, true, false, map, string_bytes}
use Rattle.command_line.specs.Words.{Form, IsForm}
use Rattle.command_line.specs.Commands.{form}
use Rattle.endings.specs.Meanings.{Shelves, shelves}
use Rattle.endings.specs.Reports.{Streams, streams}
use Rattle.endings.specs.Endings.{IsWhole}
use Rattle.endings.proofs.NotedClauses.{tells-alone}
use Rattle.top_call.specs.Commands.{meaning_of}
use Rattle.top_call.proofs.Words.{outside-status, told-at, memory-at, formless-at, either-at, not-done, not-grammar, not-read, not-write, not-gaps}
use Rattle.top_call.proofs.run.Goals as goal

-- ---- words of a form

pub returns-in-Ok-clause-ended : goal.returns-in-Ok-clause-ended
returns-in-Ok-clause-ended g c =
    let f = form c.in-Ok.command.command in
    let is = c.in-Ok.ensures.ok in
    let r = c.run_command.ensures in
    let e = r.ended in
    (e.0, e.3, inl (f, is, e.1, r.unopened, e.4), e.2, e.5)

pub returns-in-Ok-clause-noted : goal.returns-in-Ok-clause-noted
returns-in-Ok-clause-noted g c =
    let f = form c.in-Ok.command.command in
    let is = c.in-Ok.ensures.ok in
    let r = c.run_command.ensures in
    λ bytes d l. (let p = r.noted bytes d l in (f, p.0, is, p.1, p.2))

pub returns-in-Ok-clause-report : goal.returns-in-Ok-clause-report
returns-in-Ok-clause-report g c =
    let f = form c.in-Ok.command.command in
    let is = c.in-Ok.ensures.ok in
    let r = c.run_command.ensures in
    λ bytes before after d l w v. (let p = r.report bytes before after d l w v in (f, p.0, is, p.1, p.2, p.3))

pub returns-in-Ok-clause-usage : goal.returns-in-Ok-clause-usage
returns-in-Ok-clause-usage g c =
    let f = form c.in-Ok.command.command in
    let is = c.in-Ok.ensures.ok in
    let r = c.run_command.ensures in
    λ e. absurd (r.no_usage e)

pub returns-in-Ok-clause-no_form : goal.returns-in-Ok-clause-no_form
returns-in-Ok-clause-no_form g c =
    let f = form c.in-Ok.command.command in
    let is = c.in-Ok.ensures.ok in
    let r = c.run_command.ensures in
    λ n. absurd (n f is)

pub returns-in-Ok-clause-unopened : goal.returns-in-Ok-clause-unopened
returns-in-Ok-clause-unopened g c =
    let f = form c.in-Ok.command.command in
    let is = c.in-Ok.ensures.ok in
    let r = c.run_command.ensures in
    let same = λ (k : Form) (h : IsForm (map (λ w. string_bytes w) c.args.words.now) k). c.one_form.ensures (map (λ w. string_bytes w) c.args.words.now) f k is h in
    λ k h opens. r.unopened (subst (λ x. (meaning_of x).opens ≡ false) (sym (same k h)) opens)

pub returns-in-Ok-clause-grammar : goal.returns-in-Ok-clause-grammar
returns-in-Ok-clause-grammar g c =
    let f = form c.in-Ok.command.command in
    let is = c.in-Ok.ensures.ok in
    let r = c.run_command.ensures in
    λ e. (let p = r.grammar e in (f, p.0, is, p.1, p.2, p.3, p.4))

pub returns-in-Ok-clause-no_grammar : goal.returns-in-Ok-clause-no_grammar
returns-in-Ok-clause-no_grammar g c =
    let f = form c.in-Ok.command.command in
    let is = c.in-Ok.ensures.ok in
    let r = c.run_command.ensures in
    let same = λ (k : Form) (h : IsForm (map (λ w. string_bytes w) c.args.words.now) k). c.one_form.ensures (map (λ w. string_bytes w) c.args.words.now) f k is h in
    λ k h n. r.no_grammar (λ load. n (subst (λ x. (meaning_of x).loadable (g.S.Shelf.files c.args.shelf.now)) (same k h) load))

pub returns-in-Ok-clause-first_fault : goal.returns-in-Ok-clause-first_fault
returns-in-Ok-clause-first_fault g c =
    let f = form c.in-Ok.command.command in
    let is = c.in-Ok.ensures.ok in
    let r = c.run_command.ensures in
    let same = λ (k : Form) (h : IsForm (map (λ w. string_bytes w) c.args.words.now) k). c.one_form.ensures (map (λ w. string_bytes w) c.args.words.now) f k is h in
    λ k files fault h told first calm. elim (r.first_fault files fault told (subst (λ x. (meaning_of x).first (Some files) (λ name. false) fault) (sym (same k h)) first) calm) [
      | inl memory ↦ inl memory
      | inr t ↦ inr (t.0, t.1, subst (λ x. (meaning_of x).first (Some files) (λ name. false) t.1) (same k h) t.2, t.3, t.4)
    ]

pub returns-in-Ok-clause-read_fault : goal.returns-in-Ok-clause-read_fault
returns-in-Ok-clause-read_fault g c =
    let f = form c.in-Ok.command.command in
    let is = c.in-Ok.ensures.ok in
    let r = c.run_command.ensures in
    λ e. (f, is, r.read_fault e)

pub returns-in-Ok-clause-unreadable : goal.returns-in-Ok-clause-unreadable
returns-in-Ok-clause-unreadable g c =
    let f = form c.in-Ok.command.command in
    let is = c.in-Ok.ensures.ok in
    let r = c.run_command.ensures in
    let same = λ (k : Form) (h : IsForm (map (λ w. string_bytes w) c.args.words.now) k). c.one_form.ensures (map (λ w. string_bytes w) c.args.words.now) f k is h in
    λ k files bytes h reads told l load can calm. r.unreadable files bytes (subst (λ x. (meaning_of x).reads ≡ true) (sym (same k h)) reads) told l (subst (λ x. (meaning_of x).loadable (Some files)) (sym (same k h)) load) can calm

pub returns-in-Ok-clause-write_fault : goal.returns-in-Ok-clause-write_fault
returns-in-Ok-clause-write_fault g c =
    let f = form c.in-Ok.command.command in
    let is = c.in-Ok.ensures.ok in
    let r = c.run_command.ensures in
    λ e. (let p = r.write_fault e in (f, is, p.0, p.1))

pub returns-in-Ok-clause-gaps : goal.returns-in-Ok-clause-gaps
returns-in-Ok-clause-gaps g c =
    let f = form c.in-Ok.command.command in
    let is = c.in-Ok.ensures.ok in
    let r = c.run_command.ensures in
    λ bytes before after e l w v. (let p = r.gaps bytes before after e l w v in (f, p.0, is, p.1, p.2, p.3, p.4))

pub returns-in-Ok-clause-no_memory : goal.returns-in-Ok-clause-no_memory
returns-in-Ok-clause-no_memory g c =
    let f = form c.in-Ok.command.command in
    let is = c.in-Ok.ensures.ok in
    let r = c.run_command.ensures in
    λ e. elim (r.no_memory e) [
      | inl u ↦ inl u
      | inr p ↦ inr (f, is, p)
    ]

pub returns-in-Ok-clause-complete : goal.returns-in-Ok-clause-complete
returns-in-Ok-clause-complete g c =
    let f = form c.in-Ok.command.command in
    let is = c.in-Ok.ensures.ok in
    let r = c.run_command.ensures in
    let same = λ (k : Form) (h : IsForm (map (λ w. string_bytes w) c.args.words.now) k). c.one_form.ensures (map (λ w. string_bytes w) c.args.words.now) f k is h in
    let h : Shelves = shelves g.S.Shelf.files g.S.Shelf.faults g.S.Shelf.asked c.args.shelf.now c.run_command.new.shelf in
    let o : Streams = streams g.I.Source.left g.I.Source.faults g.O.Sink.written g.O.Sink.flushed g.O.Sink.faults c.args.input.now c.run_command.new.input c.args.out.now c.run_command.new.out in
    λ k files bytes has told l load can calm. subst (λ x. IsWhole (meaning_of x) h o bytes c.run_command.result) (same k has) (r.complete files bytes told l (subst (λ x. (meaning_of x).loadable (Some files)) (sym (same k has)) load) can calm)

pub returns-in-Ok-clause-one_report : goal.returns-in-Ok-clause-one_report
returns-in-Ok-clause-one_report g c = λ k. (c.built_lawful.ensures k).one_report

-- ---- words of none, or want of memory while they were read

pub returns-in-Err-clause-ended : goal.returns-in-Err-clause-ended
returns-in-Err-clause-ended g c =
    let words = map (λ w. string_bytes w) c.args.words.now in
    let end = c.fault_of.ensures c.in-Err.ensures.usage in
    let s = c.conclude.result in
    let st = outside-status words c.fault_of.result s c.conclude.ensures.status end in
    (Err c.fault_of.result, [], inr (end, refl, (refl, refl), refl), c.conclude.ensures.status, tells-alone _ _ _ _ _ c.conclude.ensures.tells)

pub returns-in-Err-clause-report : goal.returns-in-Err-clause-report
returns-in-Err-clause-report g c =
    let words = map (λ w. string_bytes w) c.args.words.now in
    let end = c.fault_of.ensures c.in-Err.ensures.usage in
    let s = c.conclude.result in
    let st = outside-status words c.fault_of.result s c.conclude.ensures.status end in
    λ bytes before after d. absurd (not-done words s st d)

pub returns-in-Err-clause-flushed : goal.returns-in-Err-clause-flushed
returns-in-Err-clause-flushed g c =
    let words = map (λ w. string_bytes w) c.args.words.now in
    let end = c.fault_of.ensures c.in-Err.ensures.usage in
    let s = c.conclude.result in
    let st = outside-status words c.fault_of.result s c.conclude.ensures.status end in
    λ d. absurd (not-done words s st d)

pub returns-in-Err-clause-noted : goal.returns-in-Err-clause-noted
returns-in-Err-clause-noted g c =
    let words = map (λ w. string_bytes w) c.args.words.now in
    let end = c.fault_of.ensures c.in-Err.ensures.usage in
    let s = c.conclude.result in
    let st = outside-status words c.fault_of.result s c.conclude.ensures.status end in
    λ bytes d l. absurd (not-done words s st d)

pub returns-in-Err-clause-usage : goal.returns-in-Err-clause-usage
returns-in-Err-clause-usage g c =
    let words = map (λ w. string_bytes w) c.args.words.now in
    let end = c.fault_of.ensures c.in-Err.ensures.usage in
    let s = c.conclude.result in
    let st = outside-status words c.fault_of.result s c.conclude.ensures.status end in
    λ e. (formless-at words s st e, refl, refl, refl, told-at words c.fault_of.result s _ _ _ _ c.conclude.ensures.status end c.conclude.ensures.tells e)

pub returns-in-Err-clause-no_form : goal.returns-in-Err-clause-no_form
returns-in-Err-clause-no_form g c =
    let words = map (λ w. string_bytes w) c.args.words.now in
    let end = c.fault_of.ensures c.in-Err.ensures.usage in
    let s = c.conclude.result in
    let st = outside-status words c.fault_of.result s c.conclude.ensures.status end in
    λ n. (either-at words s st, refl, refl, refl)

pub returns-in-Err-clause-grammar : goal.returns-in-Err-clause-grammar
returns-in-Err-clause-grammar g c =
    let words = map (λ w. string_bytes w) c.args.words.now in
    let end = c.fault_of.ensures c.in-Err.ensures.usage in
    let s = c.conclude.result in
    let st = outside-status words c.fault_of.result s c.conclude.ensures.status end in
    λ e. absurd (not-grammar words s st e)

pub returns-in-Err-clause-no_grammar : goal.returns-in-Err-clause-no_grammar
returns-in-Err-clause-no_grammar g c =
    let words = map (λ w. string_bytes w) c.args.words.now in
    let end = c.fault_of.ensures c.in-Err.ensures.usage in
    let s = c.conclude.result in
    let st = outside-status words c.fault_of.result s c.conclude.ensures.status end in
    λ k h n. inr (memory-at words s st k h)

pub returns-in-Err-clause-first_fault : goal.returns-in-Err-clause-first_fault
returns-in-Err-clause-first_fault g c =
    let words = map (λ w. string_bytes w) c.args.words.now in
    let end = c.fault_of.ensures c.in-Err.ensures.usage in
    let s = c.conclude.result in
    let st = outside-status words c.fault_of.result s c.conclude.ensures.status end in
    λ k files fault h told first calm. inl (memory-at words s st k h)

pub returns-in-Err-clause-read_fault : goal.returns-in-Err-clause-read_fault
returns-in-Err-clause-read_fault g c =
    let words = map (λ w. string_bytes w) c.args.words.now in
    let end = c.fault_of.ensures c.in-Err.ensures.usage in
    let s = c.conclude.result in
    let st = outside-status words c.fault_of.result s c.conclude.ensures.status end in
    λ e. absurd (not-read words s st e)

pub returns-in-Err-clause-unreadable : goal.returns-in-Err-clause-unreadable
returns-in-Err-clause-unreadable g c =
    let words = map (λ w. string_bytes w) c.args.words.now in
    let end = c.fault_of.ensures c.in-Err.ensures.usage in
    let s = c.conclude.result in
    let st = outside-status words c.fault_of.result s c.conclude.ensures.status end in
    λ k files bytes h reads told l load can calm. inr (memory-at words s st k h)

pub returns-in-Err-clause-write_fault : goal.returns-in-Err-clause-write_fault
returns-in-Err-clause-write_fault g c =
    let words = map (λ w. string_bytes w) c.args.words.now in
    let end = c.fault_of.ensures c.in-Err.ensures.usage in
    let s = c.conclude.result in
    let st = outside-status words c.fault_of.result s c.conclude.ensures.status end in
    λ e. absurd (not-write words s st e)

pub returns-in-Err-clause-gaps : goal.returns-in-Err-clause-gaps
returns-in-Err-clause-gaps g c =
    let words = map (λ w. string_bytes w) c.args.words.now in
    let end = c.fault_of.ensures c.in-Err.ensures.usage in
    let s = c.conclude.result in
    let st = outside-status words c.fault_of.result s c.conclude.ensures.status end in
    λ bytes before after e. absurd (not-gaps words s st e)

pub returns-in-Err-clause-complete : goal.returns-in-Err-clause-complete
returns-in-Err-clause-complete g c =
    let words = map (λ w. string_bytes w) c.args.words.now in
    let end = c.fault_of.ensures c.in-Err.ensures.usage in
    let s = c.conclude.result in
    let st = outside-status words c.fault_of.result s c.conclude.ensures.status end in
    λ k files bytes h told l load can calm. inl (memory-at words s st k h)

pub returns-in-Err-clause-one_report : goal.returns-in-Err-clause-one_report
returns-in-Err-clause-one_report g c = λ k. (c.built_lawful.ensures k).one_report

pub returns-in-Ok-clause-one_notes : goal.returns-in-Ok-clause-one_notes
returns-in-Ok-clause-one_notes g c = λ k. (c.built_lawful.ensures k).one_notes

pub returns-in-Err-clause-one_notes : goal.returns-in-Err-clause-one_notes
returns-in-Err-clause-one_notes g c = λ k. (c.built_lawful.ensures k).one_notes
