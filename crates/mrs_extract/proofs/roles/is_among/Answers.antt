use Rattle.std.proofs.Common.{◌∙◌, sym}
use Rattle.mrs_extract.proofs.Numbering.{among_found}
use Rattle.mrs_extract.proofs.roles.is_among.Goals as goal

pub returns-then-has_number : goal.returns-then-has_number
returns-then-has_number c = sym (among_found c.args.feats.now c.loop-feat.feat-index c.args.f.0 c.feat-item.result c.loop-feat-test.true c.feat-item.is (sym c.has_number.ensures ∙ c.if-has_number.true))
