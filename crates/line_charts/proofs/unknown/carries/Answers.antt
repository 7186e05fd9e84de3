use Rattle.std.proofs.Common.{map, string_bytes, sym, subst}
use Rattle.morph_analysis.specs.Lattices.{AreFronts}
use Rattle.line_charts.proofs.UnknownSteps.{carries_decided}
use Rattle.line_charts.proofs.unknown.carries.Goals as goal

pub returns : goal.returns
returns c =
    carries_decided c.args.arrivals.now (map string_bytes c.args.words.now) c.args.to c.args.from c.deref.result.now c.contains.result
    (subst (AreFronts c.args.arrivals.now (map string_bytes c.args.words.now) c.args.to) (sym c.deref.ensures.value) c.in_ok-fronts.ensures)
    c.contains.ensures.cases
