use Rattle.std.proofs.Common.{ℕ, ◌≡◌, ◌∙◌, None, length, refl, ap, arith}
use Rattle.std.specs.Prelude.{slice_index_or}
use Rattle.type_hierarchy.specs.Table.{TypeTable, count_of, meet_of}
use Rattle.fs_unify.specs.Rules.{Grammar}
use Rattle.constraint_expand.specs.declared.books.Book.{Book}
use Rattle.mrs_places.specs.Paths.{paths_of}
use Rattle.book_signs.specs.Trees.{signs_of}
use Rattle.rule_trees.proofs.WithinLemmas.{feats_long}
use Rattle.realized_trees.proofs.Listed.{apart_none, apart_some, null_below, none_met}
use Rattle.realized_trees.proofs.threading.is_null_apart.Goals as goal

pub introducer-requires : goal.introducer-requires
introducer-requires c =
    let feats = feats_long c.book.result.now c.len.result c.len.ensures ∙ ap (λ (b : Book). length b.feats.items) c.book.ensures ∙ c.laws.ensures.whole.features in
    let n = ap (λ (g : Grammar). length g.introducers) c.system.ensures in
    let low = c.if-rest-len.false in
    omega (arith, low, feats, n)

pub meet-requires-clause-a_in : goal.meet-requires-clause-a_in
meet-requires-clause-a_in c =
    let t = c.args.signs.now in
    let low = null_below (signs_of t).system (paths_of c.args.paths.now) c.args.rest.0 c.args.paths.now.null refl (count_of t.book.system.types) c.in-Some.null c.in-Some.is c.requires in
    let n = ap (λ (types : TypeTable). count_of types) (c.types.ensures ∙ ap (λ (g : Grammar). g.types) c.system-2.ensures) in
    omega (arith, low, n)

pub meet-requires-clause-b_in : goal.meet-requires-clause-b_in
meet-requires-clause-b_in c =
    let low = c.introducer.ensures.within in
    let n = ap (λ (types : TypeTable). count_of types) (c.types.ensures ∙ ap (λ (g : Grammar). g.types) c.system-2.ensures) in
    let m = ap (λ (g : Grammar). count_of g.types) c.system.ensures in
    omega (arith, low, n, m)

pub returns-in_default : goal.returns-in_default
returns-in_default c = λ told. apart_none (signs_of c.args.signs.now).system (paths_of c.args.paths.now) c.args.rest.0 c.args.paths.now.null refl c.in_default.is

pub returns : goal.returns
returns c = λ told.
    let t = c.args.signs.now in
    let types = c.types.ensures ∙ ap (λ (g : Grammar). g.types) c.system-2.ensures in
    let by : ℕ = c.introducer.result in
    let is : by ≡ slice_index_or t.book.system.introducers c.args.rest.0 0 = c.introducer.ensures.value ∙ ap (λ (g : Grammar). slice_index_or g.introducers c.args.rest.0 0) c.system.ensures in
    let met : meet_of t.book.system.types c.in-Some.null.0 (slice_index_or t.book.system.introducers c.args.rest.0 0) ≡ None =
    none_met c.meet.result c.is_none.result _ c.is_none.ensures (c.meet.ensures ∙ ap (λ (ty : TypeTable). meet_of ty c.in-Some.null.0 by) types ∙ ap (meet_of t.book.system.types c.in-Some.null.0) is) told in
    apart_some (signs_of t).system (paths_of c.args.paths.now) c.args.rest.0 c.args.paths.now.null refl c.in-Some.null c.in-Some.is met
