use Rattle.std.proofs.Common.{◌++◌, ◌∙◌, ap}
use Rattle.endings.specs.Reports.{output}
use Rattle.endings.specs.Endings.{fault_text}
use Rattle.endings.proofs.PieceLemmas.{put-both}
use Rattle.endings.proofs.tell.Goals as goal

pub returns : goal.returns
returns g c =
    let w = g.X.Sink.written in
    let second = c.put_all-2.ensures in
    put-both _ _ c.text_of.result.now c.word_text_of.result.now (fault_text c.args.end.now) (output w g.X.Sink.flushed g.X.Sink.faults c.args.err.now c.put_all-2.new.sink) (w c.put_all.new.sink) (g.X.Sink.faults c.put_all.new.sink) c.put_all-2.result
    (ap (λ t. c.text_of.result.now ++ t) c.word_text_of.ensures ∙ c.text_of.ensures) c.in_ok-put_all.ensures.ok c.in_ok-put_all.ensures.no_fall second.ok second.front second.no_fall second.failed
