use Rattle.std.proofs.Common.{◌∙◌, ◌++◌, [], ◌∷◌, map, sym, ap}
use Rattle.std.proofs.lemmas.List.{map-append}
use Rattle.std.proofs.lemmas.Iterator.Adapters.{YieldsList-from_vec}
use Rattle.std.proofs.lemmas.Iterator.Consumers.{YieldsList-end}
use Rattle.morph_analysis.proofs.Lists.{same_map}
use Rattle.morph_analysis.proofs.allowed.without_made.Goals as goal

pub loop-one-preserved : goal.loop-one-preserved
loop-one-preserved c =
    c.in_ok-push.ensures.items ∙ ap (λ l. l ++ c.in-Some.one.chain ∷ []) c.loop-one.invariant ∙ sym (map-append (λ x. x.chain) c.loop-one.yielded (c.in-Some.one ∷ []))

pub returns : goal.returns
returns c =
    let end = YieldsList-end (YieldsList-from_vec c.args.made.items (cc) (cc)) c.loop-one.yielded _ c.loop-one.yielded_by _ c.next.new.self c.in-None.is c.next.ensures.steps in
    c.loop-one.invariant ∙ ap (map (λ x. x.chain)) (sym (same_map c.loop-one.yielded) ∙ end.0)
