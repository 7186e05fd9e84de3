use Rattle.std.proofs.Common.{◌++◌, ◌∷◌, [], length, map, reverse, ap, ◌∙◌, append_assoc}
use Rattle.std.proofs.lemmas.List.{length_push}
use Rattle.std.proofs.lemmas.Iterator.Adapters.{YieldsList-from_rev_slice}
use Rattle.std.proofs.lemmas.Iterator.Consumers.{YieldsList-turn}
use Rattle.std.specs.String.{string_bytes}
use Rattle.derivation.specs.Text.{name_of, opening}
use Rattle.derivation.proofs.Texts.{piece_more}
use Rattle.derivation.proofs.text.put_rules.Goals as goal

pub loop-rule-preserved : goal.loop-rule-preserved
loop-rule-preserved c =
    let turn = YieldsList-turn (YieldsList-from_rev_slice c.args.rules.now (cc)) c.loop-rule.yielded _ c.loop-rule.yielded_by _ _ c.in-Some.rule c.in-Some.is c.next.ensures.steps in
    let name = 40 ∷ name_of (map string_bytes c.args.names.now) c.in-Some.rule.now in (
      tt,
      tt,
      piece_more (opening (map string_bytes c.args.names.now)) (reverse c.args.rules.now) (length c.loop-rule.yielded) _ c.in-Some.rule.now _ _ _ turn.0 turn.1 (length_push c.loop-rule.yielded c.in-Some.rule)
          c.loop-rule.invariant.2
          (c.in_ok-push.ensures.items ∙ ap (λ zs. zs ++ 32 ∷ []) c.in_ok-put_name.ensures.ok ∙ append_assoc c.loop-rule.into.items name (32 ∷ [])),
    )
