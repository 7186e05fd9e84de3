use Rattle.std.proofs.Common.{◌∙◌}
use Rattle.std.specs.String.{string_bytes}
use Rattle.std.specs.Cmp.Lexicographic.{slice_cmp}
use Rattle.std.specs.Ordering.{nat_cmp}
use Rattle.derivation.proofs.Lists.{slice_cmp-on}
use Rattle.derivation.proofs.order.compare_words.Goals as goal

pub returns : goal.returns
returns c = c.cmp.ensures ∙ slice_cmp-on (slice_cmp nat_cmp) string_bytes c.args.words.now c.args.others.now
