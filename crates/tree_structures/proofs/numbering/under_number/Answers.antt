use Rattle.std.proofs.Common.{◌≡◌, ◌∙◌, ◌∷◌, ◌++◌, [], refl, sym, ap, subst, arith}
use Rattle.std.specs.Arc.{arc_value}
use Rattle.tree_model.specs.Lexical.{IsUnderRule}
use Rattle.book_signs.specs.Trees.{signs_of}
use Rattle.lexical_items.specs.Fulls.{IsLexicalFull}
use Rattle.rule_trees.specs.Fulls.{FullTree}
use Rattle.rule_trees.specs.Mothers.{view_in, IsMother}
use Rattle.tree_structures.specs.declared.question.Question.TheVariants.{Mother}
use Rattle.tree_structures.specs.Known.{kept, numbers_of, view_of, AreAt, none_at, more_at}
use Rattle.tree_structures.proofs.Climbs.{under_mother, mother_under}
use Rattle.tree_structures.proofs.Keeping.{kept_below, kept_full, stays_same}
use Rattle.tree_structures.proofs.Asking.{mother_found, kept_stays, kept_numbered}
use Rattle.tree_structures.proofs.numbering.under_number.Goals as goal

pub returns-in-Some-clause-stays : goal.returns-in-Some-clause-stays
returns-in-Some-clause-stays c = stays_same c.args.fulls.now c.args.memo.now c.requires.right

pub returns-in-Some-clause-number : goal.returns-in-Some-clause-number
returns-in-Some-clause-number c = λ d at.
    let t = c.args.fulls.now in
    let none = c.none.ensures.count in
    let is : numbers_of c.with-over.result ≡ c.args.below ∷ [] = c.with-over.ensures.numbers (omega (arith, none)) ∙ ap (λ ns. ns ++ c.args.below ∷ []) c.none.ensures.numbers in
    mother_found t c.args.memo.now c.args.place c.with-over.result c.in-Some.number (d ∷ []) c.requires.right c.in-Some.ensures
    (subst (λ ns. AreAt (kept t c.args.memo.now.known.items) ns (d ∷ [])) (sym is) (more_at at none_at))

pub full-requires : goal.full-requires
full-requires c = kept_below c.args.fulls.now c.args.memo.now.known.items c.args.below c.requires.known.0 c.requires.known.1

pub under-requires-clause-lexical : goal.under-requires-clause-lexical
under-requires-clause-lexical c =
    let t = c.args.fulls.now in
    let daughter = c.in_ok-daughter.daughter in
    let same : view_of t daughter ≡ c.requires.known.0 = kept_full t c.args.memo.now c.args.below (arc_value daughter) c.requires.known.0 c.in_ok-daughter.ensures c.requires.known.1 daughter refl in
    let lexical : IsLexicalFull (signs_of t) (view_of t daughter) = subst (IsLexicalFull (signs_of t)) (sym same) c.requires.known.2 in
    subst (λ (f : FullTree). IsLexicalFull (signs_of t) (view_in t f.graph)) (sym c.deref.ensures) lexical

pub returns-in_default-2-clause-stays : goal.returns-in_default-2-clause-stays
returns-in_default-2-clause-stays c = stays_same c.args.fulls.now c.args.memo.now c.requires.right

pub returns-in_default-2-clause-number : goal.returns-in_default-2-clause-number
returns-in_default-2-clause-number c = λ d at f m.
    let t = c.args.fulls.now in
    let daughter = c.in_ok-daughter.daughter in
    let same : view_of t daughter ≡ d = kept_full t c.args.memo.now c.args.below (arc_value daughter) d c.in_ok-daughter.ensures at daughter refl in
    let seen : view_in t c.deref.result.now.graph ≡ d = ap (λ (f : FullTree). view_in t f.graph) c.deref.ensures ∙ same in
    let never = rw c.in_default-2.is at c.in_ok-full.ensures in
    never f (subst (λ e. IsUnderRule (signs_of t) c.args.place e f) (sym seen) (mother_under (signs_of t) c.args.place d f c.laws.ensures.arities c.requires.rule m))

pub returns-clause-stays : goal.returns-clause-stays
returns-clause-stays c =
    let t = c.args.fulls.now in
    let daughter = c.in_ok-daughter.daughter in
    let d = c.requires.known.0 in
    let same : view_of t daughter ≡ d = kept_full t c.args.memo.now c.args.below (arc_value daughter) d c.in_ok-daughter.ensures c.requires.known.1 daughter refl in
    let seen : view_in t c.deref.result.now.graph ≡ d = ap (λ (f : FullTree). view_in t f.graph) c.deref.ensures ∙ same in
    let f = view_in t c.in-Some-2.full.graph in
    let under : IsUnderRule (signs_of t) c.args.place (view_in t c.deref.result.now.graph) f = rw c.in-Some-2.is at c.in_ok-full.ensures in
    let mother : IsMother (signs_of t) c.args.place (d ∷ []) f = under_mother (signs_of t) c.args.place d f (subst (λ e. IsUnderRule (signs_of t) c.args.place e f) seen under) in
    let none = c.none.ensures.count in
    let is : numbers_of c.with-over.result ≡ c.args.below ∷ [] = c.with-over.ensures.numbers (omega (arith, none)) ∙ ap (λ ns. ns ++ c.args.below ∷ []) c.none.ensures.numbers in
    kept_stays t c.args.memo.now c.keep.new.self (Mother c.args.place c.with-over.result) c.in-Some-2.full c.requires.right c.in_ok-number.ensures.known
    (d ∷ [], subst (λ ns. AreAt (kept t c.args.memo.now.known.items) ns (d ∷ [])) (sym is) (more_at c.requires.known.1 none_at), mother)

pub returns-clause-number : goal.returns-clause-number
returns-clause-number c = λ d at.
    let t = c.args.fulls.now in
    let daughter = c.in_ok-daughter.daughter in
    let same : view_of t daughter ≡ d = kept_full t c.args.memo.now c.args.below (arc_value daughter) d c.in_ok-daughter.ensures at daughter refl in
    let seen : view_in t c.deref.result.now.graph ≡ d = ap (λ (f : FullTree). view_in t f.graph) c.deref.ensures ∙ same in
    let f = view_in t c.in-Some-2.full.graph in
    let under : IsUnderRule (signs_of t) c.args.place (view_in t c.deref.result.now.graph) f = rw c.in-Some-2.is at c.in_ok-full.ensures in
    let mother : IsMother (signs_of t) c.args.place (d ∷ []) f = under_mother (signs_of t) c.args.place d f (subst (λ e. IsUnderRule (signs_of t) c.args.place e f) seen under) in
    kept_numbered t c.args.memo.now c.keep.new.self (Mother c.args.place c.with-over.result) c.in-Some-2.full c.requires.right c.in_ok-number.ensures.known (IsMother (signs_of t) c.args.place (d ∷ [])) c.in_ok-number.number c.in_ok-number.ensures.number mother
