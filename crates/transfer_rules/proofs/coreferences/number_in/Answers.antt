use Rattle.std.proofs.Common.{◌∙◌, sym, []}
use Rattle.std.proofs.lemmas.Slice.Eq.{bytes_eq-Decides}
use Rattle.transfer_rules.proofs.Naming.{get_seen}
use Rattle.transfer_rules.proofs.coreferences.number_in.Goals as goal

pub returns-then-eq-clause-some : goal.returns-then-eq-clause-some
returns-then-eq-clause-some c =
    get_seen c.args.names.now c.loop-at.at (record { ref_ptr = (0, 0); now = [] }) c.args.name.now c.loop-at-test.true ((bytes_eq-Decides _ _).0 (sym c.eq.ensures ∙ c.if-eq.true))
