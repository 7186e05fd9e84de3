use Rattle.std.proofs.Common.{◌∙◌, ap}
use Rattle.std.specs.String.{string_bytes}
use Rattle.derivation.specs.Views.{derivation_of}
use Rattle.generate_model.specs.Sentences.{yield}
use Rattle.realized_trees.proofs.Words.{line_is}
use Rattle.realized_trees.proofs.text.text.Goals as goal

pub returns : goal.returns
returns c = ap string_bytes c.unwrap_or-text.ensures ∙ line_is c.put_tree.new.line (yield (derivation_of c.args.tree.now)) c.new.result c.in_ok-put_tree.ensures c.new.ensures.bytes
