-- The grammar of SimpleMRS is told by the next character.
use Rattle.std.proofs.Common.{None, refl}
use Rattle.mrs_spelling.specs.Grammar.{mrs}
use Rattle.mrs_spelling.specs.Inner.Fitting.{Fits}
use Rattle.mrs_spelling.proofs.Tested.{fits_told}

pub mrs_fits : Fits mrs None
mrs_fits = fits_told mrs None refl
