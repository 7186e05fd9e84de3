use Rattle.std.proofs.Common.{◌≡◌, ◌∙◌, sym, get_or, refl, [], false}
use Rattle.std.specs.Str.{chars}
use Rattle.std.proofs.lemmas.Result.{IfOk-weaker, IfErr-weaker}
use Rattle.mrs_spelling.specs.Grammar.{word}
use Rattle.mrs_spelling.specs.Forms.{only}
use Rattle.mrs_spelling.specs.Scanning.{HasRead, HasStopped}
use Rattle.mrs_spelling.specs.Reading.{done, stuck, passes, head}
use Rattle.mrs_spelling.proofs.Scanned.{word_step, word_stuck, size_of_text, not_this, not_at_end, word_read, word_stops}
use Rattle.mrs_spelling.proofs.words.read_word.Goals as goal
use Rattle.mrs_spelling.proofs.words.read_word.Goals.{in_default-via-in-Some+else-c-from, in_default-via-in_default}

pub loop-byte-preserved : goal.loop-byte-preserved
loop-byte-preserved c = record {
  text = c.in-Some.ensures.utf8;
  leads_on = λ o rest old new h. c.loop-byte.invariant.leads_on o rest old new
      (word_step c.args.terminal.now (chars c.loop-byte.rest.now) (chars c.in-Some.after.now) c.loop-byte.byte-index c.in-Some.c o rest old new c.loop-byte-test.true (c.if-c-from.true ∙ c.from.ensures) c.in-Some.ensures.parts h);
}

pub returns-in_default-clause-stopped : goal.returns-in_default-clause-stopped
returns-in_default-clause-stopped c =
    let text = c.loop-byte.rest.now in
    let i = c.loop-byte.byte-index in
    let b = get_or c.args.terminal.now i 0 in
    let h : passes (only b) (head (chars text)) ≡ false = elim c.in_default.branch [
      | in_default-via-in-Some+else-c-from w ↦ not_this (chars text) (chars w.in-Some.after.now) w.in-Some.c b w.in-Some.ensures.parts (λ e. w.if-c-from.false (e ∙ sym w.from.ensures))
      | in_default-via-in_default w ↦ not_at_end (only b) (chars text) w.in_default.ensures.parts
    ] in (
      chars text,
      size_of_text text c.loop-byte.invariant.text,
      c.loop-byte.invariant.leads_on stuck (chars text) c.args.tokens.now.items c.args.tokens.now.items (word_stuck c.args.terminal.now text i b c.args.tokens.now.items c.loop-byte-test.true refl h),
    )

pub returns-clause-read : goal.returns-clause-read
returns-clause-read c =
    let ws = c.args.terminal.now in
    let cs = chars c.loop-byte.rest.now in
    let old = c.args.tokens.now.items in
    let new = c.read.new._tokens.items in
    IfOk-weaker c.read.result (λ rest. HasRead (word []) done cs (chars rest.now) old new) (λ rest. HasRead (word ws) done (chars c.args.text.now) (chars rest.now) old new)
    (λ rest h. c.loop-byte.invariant.leads_on done (chars rest.now) old new (word_read ws c.loop-byte.byte-index done cs (chars rest.now) old new c.loop-byte-test.false h)) c.read.ensures.read

pub returns-clause-stopped : goal.returns-clause-stopped
returns-clause-stopped c =
    let ws = c.args.terminal.now in
    let cs = chars c.loop-byte.rest.now in
    let old = c.args.tokens.now.items in
    let new = c.read.new._tokens.items in
    IfErr-weaker c.read.result (λ e. HasStopped (word []) cs old new e) (λ e. HasStopped (word ws) (chars c.args.text.now) old new e)
    (λ e h. word_stops (word []) (word ws) cs (chars c.args.text.now) old new e (λ rest k. c.loop-byte.invariant.leads_on stuck rest old new (word_read ws c.loop-byte.byte-index stuck cs rest old new c.loop-byte-test.false k)) h) c.read.ensures.stopped
