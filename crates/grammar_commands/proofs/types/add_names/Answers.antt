use Rattle.std.proofs.Common.{◌≡◌, ◌∙◌, ◌+◌, ◌++◌, ◌∷◌, sym, ap, subst, arith, map, take, append_assoc, add-one}
use Rattle.type_hierarchy.specs.declared.types.Ty.{Ty}
use Rattle.grammar_commands.specs.TypeReports.{name_at}
use Rattle.command_files.specs.FaultTexts.{spaced}
use Rattle.command_files.proofs.Spaced.{word-more, take-whole}
use Rattle.grammar_commands.proofs.TypeLines.{names-of}
use Rattle.grammar_commands.proofs.types.add_names.Goals as goal

pub loop-t-preserved : goal.loop-t-preserved
loop-t-preserved c =
    let i = c.loop-t.t-index in
    let f = λ (t : Ty). name_at c.args.table.now t.0 in
    let e = word-more f c.args.types.now i _ c.name.result.now c.loop-t-test.true c.name.ensures in
    let before = spaced (map f (take i c.args.types.now)) in
    c.in_ok-add_name.ensures ∙ ap (λ t. t ++ 32 ∷ c.name.result.now) c.loop-t.invariant ∙ append_assoc c.args.line.now.items before (32 ∷ c.name.result.now)
    ∙ ap (λ t. c.args.line.now.items ++ t) (sym e) ∙ ap (λ k. c.args.line.now.items ++ spaced (map f (take k c.args.types.now))) (sym (add-one i))

pub returns : goal.returns
returns c =
    let f = λ (t : Ty). name_at c.args.table.now t.0 in
    c.loop-t.invariant ∙ ap (λ ts. c.args.line.now.items ++ spaced (map f ts)) (take-whole c.args.types.now c.loop-t.t-index c.loop-t-test.false)
    ∙ ap (λ ns. c.args.line.now.items ++ spaced ns) (sym (names-of c.args.table.now c.args.types.now))
