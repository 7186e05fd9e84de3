use Rattle.std.proofs.Common.{◌∙◌, ◌++◌, [], ◌∷◌, map, sym, ap}
use Rattle.std.proofs.lemmas.List.{map-append}
use Rattle.std.proofs.lemmas.Iterator.Adapters.{YieldsList-from_vec}
use Rattle.std.proofs.lemmas.Iterator.Consumers.{YieldsList-end}
use Rattle.derivation.specs.Views.{derivation_of}
use Rattle.forest_unpack.specs.Counted.{derivation_in}
use Rattle.forest_unpack.proofs.Counting.{same_map}
use Rattle.forest_unpack.proofs.keeping.trees_of.Goals as goal

pub loop-one-preserved : goal.loop-one-preserved
loop-one-preserved c =
    ap (map derivation_of) c.in_ok-push.ensures.items ∙ map-append derivation_of c.loop-one.trees.items (c.in-Some.one.tree ∷ []) ∙ ap (λ l. l ++ derivation_in c.in-Some.one ∷ []) c.loop-one.invariant ∙ sym (map-append derivation_in c.loop-one.yielded (c.in-Some.one ∷ []))

pub returns : goal.returns
returns c =
    let end = YieldsList-end (YieldsList-from_vec c.args.counted.items (cc) (cc)) c.loop-one.yielded _ c.loop-one.yielded_by _ c.next.new.self c.in-None.is c.next.ensures.steps in
    c.loop-one.invariant ∙ ap (map derivation_in) (sym (same_map c.loop-one.yielded) ∙ end.0)
