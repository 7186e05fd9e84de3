use Rattle.std.proofs.Common.{[], refl, arith}
use Rattle.forced_types.specs.declared.given.Given.{Given}
use Rattle.forced_types.specs.Inner.Sound.{place_at}
use Rattle.forced_types.proofs.LoadLemmas.{place_fronts}
use Rattle.forced_types.proofs.verdict.verdict_on.Goals as goal

pub closed_nodes-requires-clause-there : goal.closed_nodes-requires-clause-there
closed_nodes-requires-clause-there c =
    let g : Given = record { system = c.args.system; parts = c.args.parts; facts = record { ref_ptr = (0, 0); now = [] } } in
    place_fronts g 0 c.requires.some [] (place_at c.args.parts.now 0) refl (omega arith)
