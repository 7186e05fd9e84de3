use Rattle.std.proofs.Common.{◌≡◌, ap, refl, subst, option_map}
use Rattle.command_line.specs.declared.tasks.Command.TheVariants.{Run}
use Rattle.command_line.specs.Commands.{task}
use Rattle.command_line.specs.declared.tasks.Task.{Task}
use Rattle.command_line.specs.declared.tasks.Task.TheVariants.{Parse, Chart, Explain, Generate, Types, Expand, Check, SelfTest, Scope, Batch, Transfer}
use Rattle.endings.specs.Meanings.{Shelves, shelves}
use Rattle.endings.specs.Reports.{Streams, streams, Output, output}
use Rattle.endings.specs.Endings.{Ended}
use Rattle.endings.specs.Notes.{IsNoted}
use Rattle.packed_items.specs.Answers.{limits_in}
use Rattle.line_commands.specs.Parsing.{parse_meaning}
use Rattle.line_commands.specs.Charting.{chart_meaning}
use Rattle.generate_commands.specs.Generating.{generate_meaning}
use Rattle.scope_commands.specs.Scoping.{scope_meaning}
use Rattle.self_tests.specs.SelfTests.{self_test_meaning}
use Rattle.profile_batch.specs.Batches.{batch_meaning}
use Rattle.top_call.proofs.Arms.{as-asked, as-noted, quiet-asked}
use Rattle.top_call.proofs.asked.do_task.Goals as goal

pub returns-in-Parse-clause-ended : goal.returns-in-Parse-clause-ended
returns-in-Parse-clause-ended g c =
    let run = λ (t : Task). Run t c.args.order.now.options in
    let done = c.parse_lines in
    let h : Shelves = shelves g.S.Shelf.files g.S.Shelf.faults g.S.Shelf.asked c.args.shelf.now done.new.shelf in
    let o : Streams = streams g.I.Source.left g.I.Source.faults g.O.Sink.written g.O.Sink.flushed g.O.Sink.faults c.args.input.now done.new.input c.args.out.now done.new.out in
    let idle = done.new.input ≡ c.args.input.now in
    let untouched = (done.new.input ≡ c.args.input.now) × (done.new.out ≡ c.args.out.now) in
    let ended = subst (λ a. Ended (parse_meaning c.in-Parse.grammar.now (option_map (λ s. s.now) c.args.order.now.options.settings) c.args.order.now.options.verbose a) h o idle untouched done.result) c.limits_of.ensures.asked done.ensures.ended in
    as-asked (run c.args.order.now.task) (run (Parse c.in-Parse.grammar)) h o idle untouched done.result (ap run c.in-Parse.is) ended

pub returns-in-Chart-clause-ended : goal.returns-in-Chart-clause-ended
returns-in-Chart-clause-ended g c =
    let run = λ (t : Task). Run t c.args.order.now.options in
    let done = c.chart_lines in
    let h : Shelves = shelves g.S.Shelf.files g.S.Shelf.faults g.S.Shelf.asked c.args.shelf.now done.new.shelf in
    let o : Streams = streams g.I.Source.left g.I.Source.faults g.O.Sink.written g.O.Sink.flushed g.O.Sink.faults c.args.input.now done.new.input c.args.out.now done.new.out in
    let idle = done.new.input ≡ c.args.input.now in
    let untouched = (done.new.input ≡ c.args.input.now) × (done.new.out ≡ c.args.out.now) in
    let ended = subst (λ a. Ended (chart_meaning c.in-Chart.grammar.now (option_map (λ s. s.now) c.args.order.now.options.settings) c.args.order.now.options.verbose a.limits a.lexical c.args.order.now.options.lattice) h o idle untouched done.result) c.limits_of-in-Chart.ensures.asked done.ensures in
    as-asked (run c.args.order.now.task) (run (Chart c.in-Chart.grammar)) h o idle untouched done.result (ap run c.in-Chart.is) ended

pub returns-in-Explain-clause-ended : goal.returns-in-Explain-clause-ended
returns-in-Explain-clause-ended g c =
    let run = λ (t : Task). Run t c.args.order.now.options in
    let done = c.explain_lines in
    let h : Shelves = shelves g.S.Shelf.files g.S.Shelf.faults g.S.Shelf.asked c.args.shelf.now done.new.shelf in
    let o : Streams = streams g.I.Source.left g.I.Source.faults g.O.Sink.written g.O.Sink.flushed g.O.Sink.faults c.args.input.now done.new.input c.args.out.now done.new.out in
    let idle = done.new.input ≡ c.args.input.now in
    let untouched = (done.new.input ≡ c.args.input.now) × (done.new.out ≡ c.args.out.now) in
    as-asked (run c.args.order.now.task) (run (Explain c.in-Explain.grammar)) h o idle untouched done.result (ap run c.in-Explain.is) done.ensures

pub returns-in-Generate-clause-ended : goal.returns-in-Generate-clause-ended
returns-in-Generate-clause-ended g c =
    let run = λ (t : Task). Run t c.args.order.now.options in
    let done = c.generate_lines in
    let h : Shelves = shelves g.S.Shelf.files g.S.Shelf.faults g.S.Shelf.asked c.args.shelf.now done.new.shelf in
    let o : Streams = streams g.I.Source.left g.I.Source.faults g.O.Sink.written g.O.Sink.flushed g.O.Sink.faults c.args.input.now done.new.input c.args.out.now done.new.out in
    let idle = done.new.input ≡ c.args.input.now in
    let untouched = (done.new.input ≡ c.args.input.now) × (done.new.out ≡ c.args.out.now) in
    let ended = subst (λ b. Ended (generate_meaning c.in-Generate.grammar.now (option_map (λ s. s.now) c.args.order.now.options.settings) c.args.order.now.options.verbose b) h o idle untouched done.result) c.limits_of-in-Generate.ensures.bounds done.ensures in
    as-asked (run c.args.order.now.task) (run (Generate c.in-Generate.grammar)) h o idle untouched done.result (ap run c.in-Generate.is) ended

pub returns-in-Types-clause-ended : goal.returns-in-Types-clause-ended
returns-in-Types-clause-ended g c =
    let run = λ (t : Task). Run t c.args.order.now.options in
    let done = c.write_whole in
    let h : Shelves = shelves g.S.Shelf.files g.S.Shelf.faults g.S.Shelf.asked c.args.shelf.now done.new.shelf in
    let o : Streams = streams g.I.Source.left g.I.Source.faults g.O.Sink.written g.O.Sink.flushed g.O.Sink.faults c.args.input.now done.new.input c.args.out.now done.new.out in
    as-asked (run c.args.order.now.task) (run (Types c.in-Types.grammar)) h o (done.new.input ≡ c.args.input.now) ((done.new.input ≡ c.args.input.now) × (done.new.out ≡ c.args.out.now)) done.result (ap run c.in-Types.is) done.ensures.ended

pub returns-in-Expand-clause-ended : goal.returns-in-Expand-clause-ended
returns-in-Expand-clause-ended g c =
    let run = λ (t : Task). Run t c.args.order.now.options in
    let done = c.write_whole-in-Expand in
    let h : Shelves = shelves g.S.Shelf.files g.S.Shelf.faults g.S.Shelf.asked c.args.shelf.now done.new.shelf in
    let o : Streams = streams g.I.Source.left g.I.Source.faults g.O.Sink.written g.O.Sink.flushed g.O.Sink.faults c.args.input.now done.new.input c.args.out.now done.new.out in
    as-asked (run c.args.order.now.task) (run (Expand c.in-Expand.grammar c.in-Expand.entry)) h o (done.new.input ≡ c.args.input.now) ((done.new.input ≡ c.args.input.now) × (done.new.out ≡ c.args.out.now)) done.result (ap run c.in-Expand.is) done.ensures.ended

pub returns-in-Check-clause-ended : goal.returns-in-Check-clause-ended
returns-in-Check-clause-ended g c =
    let run = λ (t : Task). Run t c.args.order.now.options in
    let done = c.write_whole-in-Check in
    let h : Shelves = shelves g.S.Shelf.files g.S.Shelf.faults g.S.Shelf.asked c.args.shelf.now done.new.shelf in
    let o : Streams = streams g.I.Source.left g.I.Source.faults g.O.Sink.written g.O.Sink.flushed g.O.Sink.faults c.args.input.now done.new.input c.args.out.now done.new.out in
    as-asked (run c.args.order.now.task) (run (Check c.in-Check.grammar)) h o (done.new.input ≡ c.args.input.now) ((done.new.input ≡ c.args.input.now) × (done.new.out ≡ c.args.out.now)) done.result (ap run c.in-Check.is) done.ensures.ended

pub size_of-requires : goal.size_of-requires
size_of-requires g c = c.requires.sized c.in-SelfTest.number c.in-SelfTest.size (ap task c.in-SelfTest.is)

pub returns-in-SelfTest-clause-ended : goal.returns-in-SelfTest-clause-ended
returns-in-SelfTest-clause-ended g c =
    let run = λ (t : Task). Run t c.args.order.now.options in
    let done = c.write_items in
    let h : Shelves = shelves g.S.Shelf.files g.S.Shelf.faults g.S.Shelf.asked c.args.shelf.now done.new.shelf in
    let o : Streams = streams g.I.Source.left g.I.Source.faults g.O.Sink.written g.O.Sink.flushed g.O.Sink.faults c.args.input.now done.new.input c.args.out.now done.new.out in
    let idle = done.new.input ≡ c.args.input.now in
    let untouched = (done.new.input ≡ c.args.input.now) × (done.new.out ≡ c.args.out.now) in
    let sized = subst (λ size. Ended (self_test_meaning c.in-SelfTest.number size (limits_in c.limits_of-in-SelfTest.result) c.limits_of-in-SelfTest.result.lexical) h o idle untouched done.result) c.size_of.ensures done.ensures.ended in
    let ended = subst (λ a. Ended (self_test_meaning c.in-SelfTest.number c.in-SelfTest.size a.limits a.lexical) h o idle untouched done.result) c.limits_of-in-SelfTest.ensures.asked sized in
    as-asked (run c.args.order.now.task) (run (SelfTest c.in-SelfTest.number c.in-SelfTest.size)) h o idle untouched done.result (ap run c.in-SelfTest.is) ended

pub returns-in-Scope-clause-ended : goal.returns-in-Scope-clause-ended
returns-in-Scope-clause-ended g c =
    let run = λ (t : Task). Run t c.args.order.now.options in
    let done = c.scope_lines in
    let h : Shelves = shelves g.S.Shelf.files g.S.Shelf.faults g.S.Shelf.asked c.args.shelf.now c.args.shelf.now in
    let o : Streams = streams g.I.Source.left g.I.Source.faults g.O.Sink.written g.O.Sink.flushed g.O.Sink.faults c.args.input.now done.new.input c.args.out.now done.new.out in
    let idle = done.new.input ≡ c.args.input.now in
    let untouched = (done.new.input ≡ c.args.input.now) × (done.new.out ≡ c.args.out.now) in
    let ended = subst (λ max. Ended (scope_meaning max) h o idle untouched done.result) c.readings_of.ensures (done.ensures h) in
    as-asked (run c.args.order.now.task) (run Scope) h o idle untouched done.result (ap run c.in-Scope.is) ended

pub returns-in-Batch-clause-ended : goal.returns-in-Batch-clause-ended
returns-in-Batch-clause-ended g c =
    let run = λ (t : Task). Run t c.args.order.now.options in
    let done = c.write_items-in-Batch in
    let h : Shelves = shelves g.S.Shelf.files g.S.Shelf.faults g.S.Shelf.asked c.args.shelf.now done.new.shelf in
    let o : Streams = streams g.I.Source.left g.I.Source.faults g.O.Sink.written g.O.Sink.flushed g.O.Sink.faults c.args.input.now done.new.input c.args.out.now done.new.out in
    let idle = done.new.input ≡ c.args.input.now in
    let untouched = (done.new.input ≡ c.args.input.now) × (done.new.out ≡ c.args.out.now) in
    let ended = subst (λ a. Ended (batch_meaning c.in-Batch.grammar.now (option_map (λ s. s.now) c.args.order.now.options.settings) c.args.order.now.options.verbose c.in-Batch.profile.now a.limits a.lexical) h o idle untouched done.result) c.limits_of-in-Batch.ensures.asked done.ensures.ended in
    as-asked (run c.args.order.now.task) (run (Batch c.in-Batch.grammar c.in-Batch.profile)) h o idle untouched done.result (ap run c.in-Batch.is) ended

pub returns-in-Transfer-clause-ended : goal.returns-in-Transfer-clause-ended
returns-in-Transfer-clause-ended g c =
    let run = λ (t : Task). Run t c.args.order.now.options in
    let done = c.transfer_lines in
    let h : Shelves = shelves g.S.Shelf.files g.S.Shelf.faults g.S.Shelf.asked c.args.shelf.now done.new.shelf in
    let o : Streams = streams g.I.Source.left g.I.Source.faults g.O.Sink.written g.O.Sink.flushed g.O.Sink.faults c.args.input.now done.new.input c.args.out.now done.new.out in
    let idle = done.new.input ≡ c.args.input.now in
    let untouched = (done.new.input ≡ c.args.input.now) × (done.new.out ≡ c.args.out.now) in
    as-asked (run c.args.order.now.task) (run (Transfer c.in-Transfer.rules)) h o idle untouched done.result (ap run c.in-Transfer.is) done.ensures

-- ---- the notes

pub returns-in-Parse-clause-noted : goal.returns-in-Parse-clause-noted
returns-in-Parse-clause-noted g c =
    let run = λ (t : Task). Run t c.args.order.now.options in
    let done = c.parse_lines in
    let h : Shelves = shelves g.S.Shelf.files g.S.Shelf.faults g.S.Shelf.asked c.args.shelf.now done.new.shelf in
    let o : Streams = streams g.I.Source.left g.I.Source.faults g.O.Sink.written g.O.Sink.flushed g.O.Sink.faults c.args.input.now done.new.input c.args.out.now done.new.out in
    let e : Output = output g.X.Sink.written g.X.Sink.flushed g.X.Sink.faults c.args.err.now done.new.err in
    let noted = subst (λ a. IsNoted (parse_meaning c.in-Parse.grammar.now (option_map (λ s. s.now) c.args.order.now.options.settings) c.args.order.now.options.verbose a) h.files o.left_old o.left_new e done.result) c.limits_of.ensures.asked done.ensures.noted in
    as-noted (run c.args.order.now.task) (run (Parse c.in-Parse.grammar)) h.files o.left_old o.left_new e done.result (ap run c.in-Parse.is) noted

pub returns-in-Chart-clause-noted : goal.returns-in-Chart-clause-noted
returns-in-Chart-clause-noted g c =
    let run = λ (t : Task). Run t c.args.order.now.options in
    let done = c.chart_lines in
    let h : Shelves = shelves g.S.Shelf.files g.S.Shelf.faults g.S.Shelf.asked c.args.shelf.now done.new.shelf in
    let o : Streams = streams g.I.Source.left g.I.Source.faults g.O.Sink.written g.O.Sink.flushed g.O.Sink.faults c.args.input.now done.new.input c.args.out.now done.new.out in
    quiet-asked (run c.args.order.now.task) (run (Chart c.in-Chart.grammar)) h o (done.new.input ≡ c.args.input.now) ((done.new.input ≡ c.args.input.now) × (done.new.out ≡ c.args.out.now)) done.result (ap run c.in-Chart.is) (λ gaps lines. refl)
    (g.X.Sink.written c.args.err.now) (g.X.Sink.flushed c.args.err.now) (g.X.Sink.faults c.args.err.now) (returns-in-Chart-clause-ended g c)

pub returns-in-Explain-clause-noted : goal.returns-in-Explain-clause-noted
returns-in-Explain-clause-noted g c =
    let run = λ (t : Task). Run t c.args.order.now.options in
    let done = c.explain_lines in
    let h : Shelves = shelves g.S.Shelf.files g.S.Shelf.faults g.S.Shelf.asked c.args.shelf.now done.new.shelf in
    let o : Streams = streams g.I.Source.left g.I.Source.faults g.O.Sink.written g.O.Sink.flushed g.O.Sink.faults c.args.input.now done.new.input c.args.out.now done.new.out in
    quiet-asked (run c.args.order.now.task) (run (Explain c.in-Explain.grammar)) h o (done.new.input ≡ c.args.input.now) ((done.new.input ≡ c.args.input.now) × (done.new.out ≡ c.args.out.now)) done.result (ap run c.in-Explain.is) (λ gaps lines. refl)
    (g.X.Sink.written c.args.err.now) (g.X.Sink.flushed c.args.err.now) (g.X.Sink.faults c.args.err.now) (returns-in-Explain-clause-ended g c)

pub returns-in-Generate-clause-noted : goal.returns-in-Generate-clause-noted
returns-in-Generate-clause-noted g c =
    let run = λ (t : Task). Run t c.args.order.now.options in
    let done = c.generate_lines in
    let h : Shelves = shelves g.S.Shelf.files g.S.Shelf.faults g.S.Shelf.asked c.args.shelf.now done.new.shelf in
    let o : Streams = streams g.I.Source.left g.I.Source.faults g.O.Sink.written g.O.Sink.flushed g.O.Sink.faults c.args.input.now done.new.input c.args.out.now done.new.out in
    quiet-asked (run c.args.order.now.task) (run (Generate c.in-Generate.grammar)) h o (done.new.input ≡ c.args.input.now) ((done.new.input ≡ c.args.input.now) × (done.new.out ≡ c.args.out.now)) done.result (ap run c.in-Generate.is) (λ gaps lines. refl)
    (g.X.Sink.written c.args.err.now) (g.X.Sink.flushed c.args.err.now) (g.X.Sink.faults c.args.err.now) (returns-in-Generate-clause-ended g c)

pub returns-in-Types-clause-noted : goal.returns-in-Types-clause-noted
returns-in-Types-clause-noted g c =
    let run = λ (t : Task). Run t c.args.order.now.options in
    let done = c.write_whole in
    let h : Shelves = shelves g.S.Shelf.files g.S.Shelf.faults g.S.Shelf.asked c.args.shelf.now done.new.shelf in
    let o : Streams = streams g.I.Source.left g.I.Source.faults g.O.Sink.written g.O.Sink.flushed g.O.Sink.faults c.args.input.now done.new.input c.args.out.now done.new.out in
    quiet-asked (run c.args.order.now.task) (run (Types c.in-Types.grammar)) h o (done.new.input ≡ c.args.input.now) ((done.new.input ≡ c.args.input.now) × (done.new.out ≡ c.args.out.now)) done.result (ap run c.in-Types.is) (λ gaps lines. refl)
    (g.X.Sink.written c.args.err.now) (g.X.Sink.flushed c.args.err.now) (g.X.Sink.faults c.args.err.now) (returns-in-Types-clause-ended g c)

pub returns-in-Expand-clause-noted : goal.returns-in-Expand-clause-noted
returns-in-Expand-clause-noted g c =
    let run = λ (t : Task). Run t c.args.order.now.options in
    let done = c.write_whole-in-Expand in
    let h : Shelves = shelves g.S.Shelf.files g.S.Shelf.faults g.S.Shelf.asked c.args.shelf.now done.new.shelf in
    let o : Streams = streams g.I.Source.left g.I.Source.faults g.O.Sink.written g.O.Sink.flushed g.O.Sink.faults c.args.input.now done.new.input c.args.out.now done.new.out in
    quiet-asked (run c.args.order.now.task) (run (Expand c.in-Expand.grammar c.in-Expand.entry)) h o (done.new.input ≡ c.args.input.now) ((done.new.input ≡ c.args.input.now) × (done.new.out ≡ c.args.out.now)) done.result (ap run c.in-Expand.is) (λ gaps lines. refl)
    (g.X.Sink.written c.args.err.now) (g.X.Sink.flushed c.args.err.now) (g.X.Sink.faults c.args.err.now) (returns-in-Expand-clause-ended g c)

pub returns-in-Check-clause-noted : goal.returns-in-Check-clause-noted
returns-in-Check-clause-noted g c =
    let run = λ (t : Task). Run t c.args.order.now.options in
    let done = c.write_whole-in-Check in
    let h : Shelves = shelves g.S.Shelf.files g.S.Shelf.faults g.S.Shelf.asked c.args.shelf.now done.new.shelf in
    let o : Streams = streams g.I.Source.left g.I.Source.faults g.O.Sink.written g.O.Sink.flushed g.O.Sink.faults c.args.input.now done.new.input c.args.out.now done.new.out in
    quiet-asked (run c.args.order.now.task) (run (Check c.in-Check.grammar)) h o (done.new.input ≡ c.args.input.now) ((done.new.input ≡ c.args.input.now) × (done.new.out ≡ c.args.out.now)) done.result (ap run c.in-Check.is) (λ gaps lines. refl)
    (g.X.Sink.written c.args.err.now) (g.X.Sink.flushed c.args.err.now) (g.X.Sink.faults c.args.err.now) (returns-in-Check-clause-ended g c)

pub returns-in-SelfTest-clause-noted : goal.returns-in-SelfTest-clause-noted
returns-in-SelfTest-clause-noted g c =
    let run = λ (t : Task). Run t c.args.order.now.options in
    let done = c.write_items in
    let h : Shelves = shelves g.S.Shelf.files g.S.Shelf.faults g.S.Shelf.asked c.args.shelf.now done.new.shelf in
    let o : Streams = streams g.I.Source.left g.I.Source.faults g.O.Sink.written g.O.Sink.flushed g.O.Sink.faults c.args.input.now done.new.input c.args.out.now done.new.out in
    quiet-asked (run c.args.order.now.task) (run (SelfTest c.in-SelfTest.number c.in-SelfTest.size)) h o (done.new.input ≡ c.args.input.now) ((done.new.input ≡ c.args.input.now) × (done.new.out ≡ c.args.out.now)) done.result (ap run c.in-SelfTest.is) (λ gaps lines. refl)
    (g.X.Sink.written c.args.err.now) (g.X.Sink.flushed c.args.err.now) (g.X.Sink.faults c.args.err.now) (returns-in-SelfTest-clause-ended g c)

pub returns-in-Scope-clause-noted : goal.returns-in-Scope-clause-noted
returns-in-Scope-clause-noted g c =
    let run = λ (t : Task). Run t c.args.order.now.options in
    let done = c.scope_lines in
    let h : Shelves = shelves g.S.Shelf.files g.S.Shelf.faults g.S.Shelf.asked c.args.shelf.now c.args.shelf.now in
    let o : Streams = streams g.I.Source.left g.I.Source.faults g.O.Sink.written g.O.Sink.flushed g.O.Sink.faults c.args.input.now done.new.input c.args.out.now done.new.out in
    quiet-asked (run c.args.order.now.task) (run Scope) h o (done.new.input ≡ c.args.input.now) ((done.new.input ≡ c.args.input.now) × (done.new.out ≡ c.args.out.now)) done.result (ap run c.in-Scope.is) (λ gaps lines. refl)
    (g.X.Sink.written c.args.err.now) (g.X.Sink.flushed c.args.err.now) (g.X.Sink.faults c.args.err.now) (returns-in-Scope-clause-ended g c)

pub returns-in-Batch-clause-noted : goal.returns-in-Batch-clause-noted
returns-in-Batch-clause-noted g c =
    let run = λ (t : Task). Run t c.args.order.now.options in
    let done = c.write_items-in-Batch in
    let h : Shelves = shelves g.S.Shelf.files g.S.Shelf.faults g.S.Shelf.asked c.args.shelf.now done.new.shelf in
    let o : Streams = streams g.I.Source.left g.I.Source.faults g.O.Sink.written g.O.Sink.flushed g.O.Sink.faults c.args.input.now done.new.input c.args.out.now done.new.out in
    quiet-asked (run c.args.order.now.task) (run (Batch c.in-Batch.grammar c.in-Batch.profile)) h o (done.new.input ≡ c.args.input.now) ((done.new.input ≡ c.args.input.now) × (done.new.out ≡ c.args.out.now)) done.result (ap run c.in-Batch.is) (λ gaps lines. refl)
    (g.X.Sink.written c.args.err.now) (g.X.Sink.flushed c.args.err.now) (g.X.Sink.faults c.args.err.now) (returns-in-Batch-clause-ended g c)

pub returns-in-Transfer-clause-noted : goal.returns-in-Transfer-clause-noted
returns-in-Transfer-clause-noted g c =
    let run = λ (t : Task). Run t c.args.order.now.options in
    let done = c.transfer_lines in
    let h : Shelves = shelves g.S.Shelf.files g.S.Shelf.faults g.S.Shelf.asked c.args.shelf.now done.new.shelf in
    let o : Streams = streams g.I.Source.left g.I.Source.faults g.O.Sink.written g.O.Sink.flushed g.O.Sink.faults c.args.input.now done.new.input c.args.out.now done.new.out in
    quiet-asked (run c.args.order.now.task) (run (Transfer c.in-Transfer.rules)) h o (done.new.input ≡ c.args.input.now) ((done.new.input ≡ c.args.input.now) × (done.new.out ≡ c.args.out.now)) done.result (ap run c.in-Transfer.is) (λ gaps lines. refl)
    (g.X.Sink.written c.args.err.now) (g.X.Sink.flushed c.args.err.now) (g.X.Sink.faults c.args.err.now) (returns-in-Transfer-clause-ended g c)
