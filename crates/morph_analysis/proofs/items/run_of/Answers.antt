use Rattle.std.proofs.Common.{◌≡◌, ◌∙◌, sym, ap}
use Rattle.morph_analysis.proofs.LineLemmas.{same_kind, each_next}
use Rattle.std.specs.Char.{is_whitespace}
use Rattle.morph_analysis.proofs.items.run_of.Goals as goal

pub loop-i-preserved : goal.loop-i-preserved
loop-i-preserved c =
    each_next (λ x. is_whitespace x ≡ c.args.blank) c.args.letters.now c.loop-i.i c.index-letters-i.result c.loop-i-test.true c.loop-i.invariant (ap is_whitespace (sym c.index-letters-i.is) ∙ sym c.is_whitespace.ensures ∙ same_kind c.is_whitespace.result c.args.blank c.if-is_whitespace-blank.false)
