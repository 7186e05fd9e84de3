use Rattle.std.proofs.Common.{ap, option_map}
use Rattle.grammar_files.proofs.TextLemmas.{settles_default}
use Rattle.grammar_files.proofs.reading.read_settings.Goals as goal

pub returns-in_ok-default_names-in-None-clause-settled : goal.returns-in_ok-default_names-in-None-clause-settled
returns-in_ok-default_names-in-None-clause-settled g c =
    settles_default (g.S.Shelf.files c.args.shelf.now) c.in_ok-default_names-in-None.field-0 (option_map (λ n. n.now) c.args.settings) (ap (option_map (λ n. n.now)) c.in-None.is) c.in_ok-default_names-in-None.ensures
