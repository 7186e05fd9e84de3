use Rattle.std.proofs.Common.{true, option_map}
use Rattle.command_files.proofs.FaultLemmas.{more_from}
use Rattle.command_files.proofs.grammars.with_further.Goals as goal

pub returns-in-Ok-clause-more : goal.returns-in-Ok-clause-more
returns-in-Ok-clause-more g c =
    more_from (g.S.Shelf.files c.args.shelf.now) c.args.name.now (option_map (λ s. s.now) c.args.settings) true c.args.why.now c.args.lines.items c.in-Ok.more.items c.deref.result.now
    c.with_more.result.items c.deref.ensures.value c.in-Ok.ensures.further c.with_more.ensures
