use Rattle.std.proofs.Common.{ap, refl}
use Rattle.lkb_io.specs.Lines.{cut}
use Rattle.lkb_io.proofs.Texts.{cut-parts, cut-whole, lines-text}
use Rattle.lkb_io.proofs.laws.lines_law.Goals as goal

pub returns-clause-cut : goal.returns-clause-cut
returns-clause-cut c = λ bytes. let p = cut-parts bytes in ((cut bytes).1, p.0, p.1, p.2, refl)

pub returns-clause-only : goal.returns-clause-only
returns-clause-only c = λ lines rest h k. (ap (λ p. p.0) (cut-whole lines rest h k), lines-text lines rest h k)
