use Rattle.std.proofs.Common.{◌∙◌, ap}
use Rattle.std.specs.Prelude.{◌++◌}
use Rattle.std.specs.Char.{encode_utf8}
use Rattle.tdl_reader.proofs.GroupLemmas.{folded_is}
use Rattle.tdl_reader.proofs.groups.folded.Goals as goal

pub returns-clause-found : goal.returns-clause-found
returns-clause-found c =
    c.only.ensures ∙ folded_is c.args.c c.as_str.result.now c.as_str-2.result.now c.as_str.utf8 c.as_str-2.utf8
    (c.as_str.ensures.value ∙ (c.in_ok-push.ensures.bytes ∙ ap (λ l. l ++ encode_utf8 c.args.c) c.new-one.ensures.bytes))
    (c.as_str-2.ensures.value ∙ c.in_ok-folds.ensures)
