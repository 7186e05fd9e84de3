use Rattle.std.proofs.Common.{◌∙◌, sym, subst}
use Rattle.morph_analysis.specs.Spelled.{IsSpelled}
use Rattle.std.proofs.lemmas.Slice.Eq.{bytes_eq-Decides}
use Rattle.morph_analysis.proofs.analysis.graph_for.Goals as goal

pub returns-then-eq : goal.returns-then-eq
returns-then-eq c =
    subst (λ w. IsSpelled c.args.spelling.now w c.args.depth c.args.graph) (sym c.word.ensures ∙ (bytes_eq-Decides c.word.result.now c.args.word.now).0 (sym c.eq.ensures ∙ c.if-eq.true)) c.requires
