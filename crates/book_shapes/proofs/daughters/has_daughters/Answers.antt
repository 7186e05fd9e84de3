use Rattle.std.proofs.Common.{arith, ◌≡◌, ◌∙◌, true, false, length, map, None, Some, refl, sym, ap, subst}
use Rattle.std.specs.Prelude.{◌↔◌, IsTrue}
use Rattle.std.specs.Option.{option_map}
use Rattle.std.proofs.lemmas.List.{length-map}
use Rattle.closed_lists.specs.Names.{names_of}
use Rattle.closed_lists.specs.Lists.{IsListAt}
use Rattle.book_shapes.specs.Daughters.{MayHave, HasDaughters, of_rule}
use Rattle.book_shapes.proofs.CountLemmas.{no_daughters, daughters_many}
use Rattle.book_shapes.proofs.daughters.has_daughters.Goals as goal

pub returns-in-None : goal.returns-in-None
returns-in-None c =
    no_daughters c.args.types.now (names_of c.args.names.now) (map (option_map (λ f. f.0)) c.args.args_path.now) c.args.status c.args.structure.now (sym c.is_rule.ensures ∙ c.if-not-is_rule.false) (rw c.in-None.is at c.in_ok-list_at.ensures)

pub returns-in-Some : goal.returns-in-Some
returns-in-Some c =
    let daughters = map (λ n. n.0) c.in-Some.daughters.items in
    let size : length daughters ≡ c.len.result = omega (arith, length-map c.in-Some.daughters.items (λ n. n.0), c.len.ensures, c.in-Some.daughters.ok.0) in
    daughters_many c.args.types.now (names_of c.args.names.now) (map (option_map (λ f. f.0)) c.args.args_path.now) c.args.status c.args.structure.now daughters c.len.result c.may_have.result (sym c.is_rule.ensures ∙ c.if-not-is_rule.false)
    (rw c.in-Some.is at c.in_ok-list_at.ensures) size c.may_have.ensures
