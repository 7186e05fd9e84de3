use Rattle.std.proofs.Common.{map, string_bytes, sym, ◌∙◌, ap, subst}
use Rattle.std.proofs.lemmas.Result.{IfOk-weaker}
use Rattle.type_hierarchy.specs.Table.{TypeTable}
use Rattle.fs_unify.specs.Rules.{Grammar}
use Rattle.mrs_places.specs.Paths.{feature_of, paths_of}
use Rattle.mrs_places.specs.Asked.{IsTyped}
use Rattle.generate_model.specs.Contributing.{Predicates}
use Rattle.generated_leaves.specs.Given.{IsGivenAt}
use Rattle.book_signs.specs.Trees.{signs_of}
use Rattle.generated_leaves.proofs.StructureLemmas.{own_typed, is_given}
use Rattle.generated_leaves.proofs.rules.given_at.Goals as goal

pub predicates-requires : goal.predicates-requires
predicates-requires c =
    let types = c.types.ensures ∙ ap (λ (s : Grammar). s.types) c.system.ensures in
    subst (λ (t : TypeTable). IsTyped t (paths_of c.args.paths.now) c.structure-structure.result.now) (sym types)
    (own_typed c.args.signs.now c.structure-structure.result.now c.structure-structure.ensures.closed c.structure-structure.ensures.short (paths_of c.args.paths.now) c.requires.cons c.requires.null)

pub returns : goal.returns
returns c =
    let t = c.args.signs.now in
    let types = c.types.ensures ∙ ap (λ (s : Grammar). s.types) c.system.ensures in
    let paths = paths_of c.args.paths.now in
    let base = map feature_of c.args.c_cont.now in
    IfOk-weaker c.predicates.result (λ v. Predicates c.structure-structure.result.now c.types.result.now paths base (map string_bytes v.items)) (λ v. IsGivenAt (signs_of t) t.book.system.types paths base c.args.place (map string_bytes v.items))
    (λ v says. is_given t t.book.system.types paths base c.args.place c.structure-structure.result.now (map string_bytes v.items) c.structure-structure.ensures.facts c.structure-structure.ensures.closed c.structure-structure.ensures.short c.laws.ensures
    (subst (λ (u : TypeTable). Predicates c.structure-structure.result.now u paths base (map string_bytes v.items)) types says)) c.predicates.ensures
