use Rattle.std.proofs.Common.{◌≡◌, ap}
use Rattle.command_line.specs.Commands.{form, task, options_in}
use Rattle.command_line.specs.declared.tasks.Command.{Command}
use Rattle.command_line.specs.declared.tasks.Command.TheVariants.{Run}
use Rattle.endings.specs.Meanings.{Shelves, shelves}
use Rattle.endings.specs.Reports.{Streams, streams, Output, output}
use Rattle.top_call.proofs.Arms.{as-asked, as-noted}
use Rattle.top_call.proofs.asked.AskedCommand.perform.Goals as goal

pub do_task-requires-clause-within : goal.do_task-requires-clause-within
do_task-requires-clause-within g c κs bound = (c.args.self.now.within (task c.in-Run.task) (options_in c.in-Run.options) (ap form c.in-Run.is)).0

pub do_task-requires-clause-sized : goal.do_task-requires-clause-sized
do_task-requires-clause-sized g c κs bound = (c.args.self.now.within (task c.in-Run.task) (options_in c.in-Run.options) (ap form c.in-Run.is)).1

pub returns-in-Run-clause-ended : goal.returns-in-Run-clause-ended
returns-in-Run-clause-ended g c =
    let asked = c.in-Run in
    let run : Command = Run asked.task asked.options in
    let done = c.do_task in
    let h : Shelves = shelves g.S.Shelf.files g.S.Shelf.faults g.S.Shelf.asked c.args.shelf.now done.new.shelf in
    let o : Streams = streams g.I.Source.left g.I.Source.faults g.O.Sink.written g.O.Sink.flushed g.O.Sink.faults c.args.input.now done.new.input c.args.out.now done.new.out in
    as-asked c.args.self.now.command run h o (done.new.input ≡ c.args.input.now) ((done.new.input ≡ c.args.input.now) × (done.new.out ≡ c.args.out.now)) done.result asked.is done.ensures.ended

pub returns-in-Run-clause-noted : goal.returns-in-Run-clause-noted
returns-in-Run-clause-noted g c =
    let asked = c.in-Run in
    let run : Command = Run asked.task asked.options in
    let done = c.do_task in
    let e : Output = output g.X.Sink.written g.X.Sink.flushed g.X.Sink.faults c.args.err.now done.new.err in
    as-noted c.args.self.now.command run (g.S.Shelf.files c.args.shelf.now) (g.I.Source.left c.args.input.now) (g.I.Source.left done.new.input) e done.result asked.is done.ensures.noted
