use Rattle.std.proofs.Common.{◌<◌, ◌≡◌, ◌∙◌, ◌++◌, ◌+◌, ap, length, map, arith}
use Rattle.std.specs.List.{range_with_len}
use Rattle.std.proofs.lemmas.List.{take_all}
use Rattle.type_hierarchy.specs.Decls.{texts}
use Rattle.type_hierarchy.specs.Table.{glb_name}
use Rattle.type_hierarchy.proofs.FamilyLemmas.{glb_push, texts_push}
use Rattle.type_hierarchy.proofs.types.with_names.Goals as goal

pub loop-i-preserved : goal.loop-i-preserved
loop-i-preserved c =
    glb_push (texts c.args.names.items) c.loop-i.names.items _ c.loop-i.i (c.loop-i.i + 1) c.in_ok-glb_name.field-0 (omega arith) (c.in_ok-glb_name.ensures ∙ ap (λ n. glb_name (n + 1)) c.from.ensures) c.loop-i.invariant c.in_ok-push.ensures.items

pub loop-string-preserved : goal.loop-string-preserved
loop-string-preserved c =
    let within : c.loop-string.string-index < length c.args.strings.now = omega arith in
    texts_push (texts c.loop-i.names.items) c.loop-string.names.items _ c.args.strings.now c.loop-string.string-index c.string-item.result c.in_ok-clone.field-0 within c.string-item.is
    c.in_ok-clone.ensures.cases c.loop-string.invariant c.in_ok-push-2.ensures.items

pub returns : goal.returns
returns c =
    let all : c.loop-i.i ≡ c.args.added = omega arith in
    c.loop-string.invariant ∙ ap (λ l. texts c.loop-i.names.items ++ texts l) (take_all _ _ (omega arith)) ∙ ap (λ l. l ++ texts c.args.strings.now) c.loop-i.invariant
    ∙ ap (λ n. texts c.args.names.items ++ map glb_name (range_with_len 1 n) ++ texts c.args.strings.now) all
