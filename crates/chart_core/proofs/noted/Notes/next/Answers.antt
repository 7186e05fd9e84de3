use Rattle.std.proofs.Common.{◌∙◌, Some, None, sym}
use Rattle.chart_core.specs.declared.noted.Notes.{Notes}
use Rattle.chart_core.proofs.Keyed.{same_at, same_then, unfilled, filled, is_next}
use Rattle.chart_core.proofs.noted.Notes.next.Goals as goal

pub returns-then-not-is_empty-clause-next : goal.returns-then-not-is_empty-clause-next
returns-then-not-is_empty-clause-next c =
    let list = c.in-Some.list.now in
    is_next c.loop-key.self c.in-Some.key.now list c.in-Some.ensures.value (filled list.items _ list.ok.0 (sym c.is_empty.ensures ∙ c.if-not-is_empty.true)) c.in-Some.ensures.least

pub loop-key-preserved-else-not-is_empty : goal.loop-key-preserved-else-not-is_empty
loop-key-preserved-else-not-is_empty c =
    let key = c.in-Some.key.now in
    let list = c.in-Some.list.now in
    let rest : Notes = record { lists = c.remove.new.self } in
    same_then c.args.self.now c.loop-key.self rest c.loop-key.invariant
    (same_at c.loop-key.self rest key.0 key.1 (Some list) None c.in-Some.ensures.value c.remove.ensures.updates.0 (sym (unfilled list.items _ list.ok.0 (sym c.is_empty.ensures ∙ c.if-not-is_empty.false))))
