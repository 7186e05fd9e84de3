use Rattle.std.proofs.Common.{rules}
use Rattle.std.proofs.lemmas.Str.{chars_from_encodes}
use Rattle.morph_analysis.proofs.lattice.letters_of.Goals as goal

pub returns-clause-letters : goal.returns-clause-letters
returns-clause-letters c = search (rules, chars_from_encodes)
