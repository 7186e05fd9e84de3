use Rattle.std.proofs.Common.{◌≡◌, ◌∙◌, ◌++◌, ◌⊎◌, inl, inr, sym, subst, List, ℕ, Bool, false, Result}
use Rattle.lkb_io.specs.Lines.{lines_of}
use Rattle.endings.specs.declared.Fault.{Fault}
use Rattle.endings.specs.declared.Status.{Status}
use Rattle.endings.specs.declared.Status.TheVariants.{Done, Items, Grammar, ReadFault, NoMemory}
use Rattle.endings.specs.Meanings.{Meaning, Shelves, FileFault, Fails, Lawful, shelves}
use Rattle.endings.specs.Reports.{Streams, streams}
use Rattle.endings.specs.Endings.{is_items, status_of, fault_text, IsWhole, Tells}
use Rattle.endings.specs.Notes.{AreNoted}
use Rattle.endings.proofs.NotedClauses.{tells-both, tells-quiet, is-ok, notes-so, quiet-so}
use Rattle.endings.proofs.Clauses.{report-so, grammar-so, no-grammar, first-so, complete-so, unread-so, gaps-so}
use Rattle.endings.proofs.run_command.Given.{Over}
use Rattle.endings.proofs.run_command.Goals as goal

abbrev shelves-at : (g : Over) → goal.Joined-end g → Shelves
shelves-at g c = shelves g.S.Shelf.files g.S.Shelf.faults g.S.Shelf.asked c.args.shelf.now c.perform-end.new.shelf

abbrev streams-at : (g : Over) → goal.Joined-end g → Streams
streams-at g c = streams g.I.Source.left g.I.Source.faults g.O.Sink.written g.O.Sink.flushed g.O.Sink.faults c.args.input.now c.perform-end.new.input c.args.out.now c.perform-end.new.out

abbrev idle-at : (g : Over) → goal.Joined-end g → Type 0
idle-at g c = c.perform-end.new.input ≡ c.args.input.now

abbrev untouched-at : (g : Over) → goal.Joined-end g → Type 0
untouched-at g c = (c.perform-end.new.input ≡ c.args.input.now) × (c.perform-end.new.out ≡ c.args.out.now)

abbrev lawful-at : (g : Over) (c : goal.Joined-end g) → Lawful (g.C.Command.meaning c.args.command.now)
lawful-at g c = c.lawful.ensures

as-ended : (s t : Status) → s ≡ t → (s ≡ Done) ⊎ (s ≡ Items) → (t ≡ Done) ⊎ (t ≡ Items)
as-ended s t e d = subst (λ u. (u ≡ Done) ⊎ (u ≡ Items)) e d

pub returns-clause-report : goal.returns-clause-report
returns-clause-report g c = λ bytes before after d l w v. (
    let e = c.conclude.ensures.status in
    let m = g.C.Command.meaning c.args.command.now in
    let r = report-so m (shelves-at g c) (streams-at g c) (idle-at g c) (untouched-at g c) c.perform-end.result bytes before after c.perform-end.ensures.ended (as-ended c.conclude.result (status_of c.perform-end.result) e d) l w v in
    (r.0, subst (λ s. m.report (g.S.Shelf.files c.args.shelf.now) (lines_of bytes) r.0 (is_items s)) (sym e) r.1, r.2, r.3))

pub returns-clause-no_grammar : goal.returns-clause-no_grammar
returns-clause-no_grammar g c = λ n. (
    let m = g.C.Command.meaning c.args.command.now in
    subst (λ s. (s ≡ Grammar) ⊎ (s ≡ NoMemory)) (sym c.conclude.ensures.status)
    (no-grammar m (shelves-at g c) (streams-at g c) (idle-at g c) (untouched-at g c) c.perform-end.result (lawful-at g c) c.perform-end.ensures.ended n))

pub returns-clause-first_fault : goal.returns-clause-first_fault
returns-clause-first_fault g c = λ files fault told first calm. (
    let m = g.C.Command.meaning c.args.command.now in
    let tells = λ (text : List ℕ). Tells (g.X.Sink.written c.args.err.now) (g.X.Sink.written c.conclude.new.err) (g.X.Sink.faults c.args.err.now) (g.X.Sink.faults c.conclude.new.err) text in
    elim (first-so m (shelves-at g c) (streams-at g c) (idle-at g c) (untouched-at g c) c.perform-end.result files fault (lawful-at g c) c.perform-end.ensures.ended told first calm) [
      | inl memory ↦ inl (c.conclude.ensures.status ∙ memory)
      | inr t ↦ (
          let n = c.perform-end.ensures.noted in
          let none = quiet-so m (g.S.Shelf.files c.args.shelf.now) (g.I.Source.left c.args.input.now) (g.I.Source.left c.perform-end.new.input) n.0 c.perform-end.result t.0 n.1 in
          inr (c.conclude.ensures.status ∙ t.0, t.1, subst (λ x. m.first x (λ name. false) t.1) told t.2, t.3, subst tells t.4 (tells-quiet _ _ _ _ _ _ n.0 (fault_text c.perform-end.result) none n.2.0 n.2.1 c.conclude.ensures.tells)))
    ])

pub returns-clause-complete : goal.returns-clause-complete
returns-clause-complete g c = λ files bytes told l is can calm. (
    let m = g.C.Command.meaning c.args.command.now in
    subst (IsWhole m (shelves-at g c) (streams-at g c) bytes) (sym c.conclude.ensures.status)
    (complete-so m (shelves-at g c) (streams-at g c) (idle-at g c) (untouched-at g c) c.perform-end.result files bytes (lawful-at g c) c.perform-end.ensures.ended told l is can calm))

-- what was told of the notes, and then of a fault
pub returns-clause-ended : goal.returns-clause-ended
returns-clause-ended g c =
    let n = c.perform-end.ensures.noted in
    (c.perform-end.result, c.perform-end.ensures.ended, c.conclude.ensures.status, n.0, n.1, tells-both _ _ _ _ _ _ n.0 (fault_text c.perform-end.result) n.2.0 n.2.1 c.conclude.ensures.tells c.conclude.ensures.no_fall)

pub returns-clause-noted : goal.returns-clause-noted
returns-clause-noted g c = λ bytes d l. (
    let m = g.C.Command.meaning c.args.command.now in
    let old = g.I.Source.left c.args.input.now in
    let new = g.I.Source.left c.perform-end.new.input in
    let files = g.S.Shelf.files c.args.shelf.now in
    let n = c.perform-end.ensures.noted in
    let ok = is-ok c.perform-end.result (as-ended c.conclude.result (status_of c.perform-end.result) c.conclude.ensures.status d) in
    let same = c.conclude.ensures.silent ok.0 ok.1 in
    (n.0, notes-so m files old new n.0 ok.0 bytes (subst (AreNoted m files old new n.0) ok.1 n.1) l, subst (λ e. Tells (g.X.Sink.written c.args.err.now) (g.X.Sink.written e) (g.X.Sink.faults c.args.err.now) (g.X.Sink.faults e) n.0) (sym same) n.2.1))

pub returns-clause-one_notes : goal.returns-clause-one_notes
returns-clause-one_notes g c = c.lawful.ensures.one_notes

-- what is left as it was where the files have a fault
left-so : (m : Meaning) (h : Shelves) (end : Result Bool Fault) (untouched : Type 0) → ((fault : FileFault) × Fails m h fault × (fault_text end ≡ fault.text ++ fault.details) × untouched) → untouched
left-so m h end untouched f = f.3

pub returns-clause-grammar : goal.returns-clause-grammar
returns-clause-grammar g c = λ is. (
    let m = g.C.Command.meaning c.args.command.now in
    let n = c.perform-end.ensures.noted in
    let end = c.perform-end.result in
    let at = sym c.conclude.ensures.status ∙ is in
    let f = grammar-so m (shelves-at g c) (streams-at g c) (idle-at g c) (untouched-at g c) end c.perform-end.ensures.ended at in
    let none = quiet-so m (g.S.Shelf.files c.args.shelf.now) (g.I.Source.left c.args.input.now) (g.I.Source.left c.perform-end.new.input) n.0 end at n.1 in
    let tells = tells-quiet _ _ _ _ _ _ n.0 (fault_text end) none n.2.0 n.2.1 c.conclude.ensures.tells in
    let left = left-so m (shelves-at g c) end (untouched-at g c) f in
    (f.0, f.1, subst (Tells (g.X.Sink.written c.args.err.now) (g.X.Sink.written c.conclude.new.err) (g.X.Sink.faults c.args.err.now) (g.X.Sink.faults c.conclude.new.err)) f.2 tells, left.0, left.1))

pub returns-clause-unreadable : goal.returns-clause-unreadable
returns-clause-unreadable g c = λ files bytes reads told l is can calm. (
    let m = g.C.Command.meaning c.args.command.now in
    subst (λ s. (s ≡ ReadFault) ⊎ (s ≡ NoMemory)) (sym c.conclude.ensures.status)
    (unread-so m (shelves-at g c) (streams-at g c) (idle-at g c) (untouched-at g c) c.perform-end.result files bytes (lawful-at g c) c.perform-end.ensures.ended reads told l is can calm))

pub returns-clause-one_report : goal.returns-clause-one_report
returns-clause-one_report g c = c.lawful.ensures.one_report

pub returns-clause-gaps : goal.returns-clause-gaps
returns-clause-gaps g c = λ bytes before after is l w v. (
    let m = g.C.Command.meaning c.args.command.now in
    gaps-so m (shelves-at g c) (streams-at g c) (idle-at g c) (untouched-at g c) c.perform-end.result bytes before after c.perform-end.ensures.ended (sym c.conclude.ensures.status ∙ is) l w v)
