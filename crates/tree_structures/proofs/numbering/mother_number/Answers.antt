use Rattle.std.proofs.Common.{◌≡◌, ◌∙◌, map, sym, ap, subst, arith}
use Rattle.std.specs.Prelude.{All}
use Rattle.std.specs.Arc.{arc_value}
use Rattle.std.proofs.lemmas.List.{length-map}
use Rattle.std.proofs.lemmas.Simd.{map-map}
use Rattle.book_signs.specs.Trees.{signs_of}
use Rattle.forest_unpack.specs.Parts.{parts_of}
use Rattle.rule_trees.specs.Mothers.{view_in, IsMade, IsMother, HasDaughters}
use Rattle.rule_trees.specs.Fulls.{FullTree}
use Rattle.tree_structures.specs.declared.question.Question.TheVariants.{Mother}
use Rattle.tree_structures.specs.Known.{kept, numbers_of, view_of}
use Rattle.tree_structures.proofs.Making.{made_of}
use Rattle.tree_structures.proofs.Keeping.{at_one, at_long, at_all, kept_made, stays_same}
use Rattle.tree_structures.proofs.Asking.{mother_found, kept_stays, kept_numbered, numbers_long}
use Rattle.tree_structures.proofs.numbering.mother_number.Goals as goal

pub returns-in-Some-clause-stays : goal.returns-in-Some-clause-stays
returns-in-Some-clause-stays c = stays_same c.args.fulls.now c.args.memo.now c.requires.right

pub returns-in-Some-clause-number : goal.returns-in-Some-clause-number
returns-in-Some-clause-number c = λ fs are. mother_found c.args.fulls.now c.args.memo.now c.args.place c.args.over c.in-Some.number fs c.requires.right c.in-Some.ensures are

pub in_parts-requires : goal.in_parts-requires
in_parts-requires c =
    let t = c.args.fulls.now in
    let fulls = c.in_ok-daughters.daughters.items in
    let long = at_long (kept t c.args.memo.now.known.items) (numbers_of c.args.over) (map (view_of t) fulls) c.in_ok-daughters.ensures in
    let count = numbers_long c.args.over c.requires.count in
    let most = c.requires.count in
    let same = length-map fulls (view_of t) in
    omega (arith, long, count, most, same)

pub mother-requires-clause-made : goal.mother-requires-clause-made
mother-requires-clause-made c =
    let t = c.args.fulls.now in
    let g = signs_of t in
    let ss = kept t c.args.memo.now.known.items in
    let fulls = c.in_ok-daughters.daughters.items in
    let viewer = λ (full : FullTree). view_in t full.graph in
    let same : map viewer (parts_of c.in_parts.result) ≡ map (view_of t) fulls = ap (map viewer) c.in_parts.ensures.are ∙ map-map viewer arc_value fulls in
    let made = at_all ss (IsMade g) (numbers_of c.args.over) (map (view_of t) fulls) (kept_made t c.args.memo.now c.requires.right) c.in_ok-daughters.ensures in
    made_of g viewer (parts_of c.in_parts.result) (subst (All (IsMade g)) (sym same) made)

pub mother-requires-clause-rule : goal.mother-requires-clause-rule
mother-requires-clause-rule c =
    let t = c.args.fulls.now in
    let fulls = c.in_ok-daughters.daughters.items in
    let long = at_long (kept t c.args.memo.now.known.items) (numbers_of c.args.over) (map (view_of t) fulls) c.in_ok-daughters.ensures in
    let count = numbers_long c.args.over c.requires.count in
    let same = length-map fulls (view_of t) in
    let is : c.args.over.count ≡ c.in_parts.result.count = sym count ∙ sym long ∙ same ∙ sym c.in_parts.ensures.count in
    subst (HasDaughters (signs_of t) c.args.place) is c.requires.rule

pub returns-in_default-2-clause-stays : goal.returns-in_default-2-clause-stays
returns-in_default-2-clause-stays c = stays_same c.args.fulls.now c.args.memo.now c.requires.right

pub returns-in_default-2-clause-number : goal.returns-in_default-2-clause-number
returns-in_default-2-clause-number c = λ fs are f m.
    let t = c.args.fulls.now in
    let fulls = c.in_ok-daughters.daughters.items in
    let viewer = λ (full : FullTree). view_in t full.graph in
    let same : map viewer (parts_of c.in_parts.result) ≡ map (view_of t) fulls = ap (map viewer) c.in_parts.ensures.are ∙ map-map viewer arc_value fulls in
    let one : fs ≡ map (view_of t) fulls = at_one (kept t c.args.memo.now.known.items) (numbers_of c.args.over) fs (map (view_of t) fulls) are c.in_ok-daughters.ensures in
    let never = rw c.in_default-2.is at c.in_ok-full.ensures in
    never f (subst (λ hs. IsMother (signs_of t) c.args.place hs f) (one ∙ sym same) m)

pub returns-clause-stays : goal.returns-clause-stays
returns-clause-stays c =
    let t = c.args.fulls.now in
    let fulls = c.in_ok-daughters.daughters.items in
    let viewer = λ (full : FullTree). view_in t full.graph in
    let same : map viewer (parts_of c.in_parts.result) ≡ map (view_of t) fulls = ap (map viewer) c.in_parts.ensures.are ∙ map-map viewer arc_value fulls in
    let mother : IsMother (signs_of t) c.args.place (map viewer (parts_of c.in_parts.result)) (viewer c.in-Some-2.full) = rw c.in-Some-2.is at c.in_ok-full.ensures in
    kept_stays t c.args.memo.now c.keep.new.self (Mother c.args.place c.args.over) c.in-Some-2.full c.requires.right c.in_ok-number.ensures.known
    (map (view_of t) fulls, c.in_ok-daughters.ensures, subst (λ hs. IsMother (signs_of t) c.args.place hs (viewer c.in-Some-2.full)) same mother)

pub returns-clause-number : goal.returns-clause-number
returns-clause-number c = λ fs are.
    let t = c.args.fulls.now in
    let fulls = c.in_ok-daughters.daughters.items in
    let viewer = λ (full : FullTree). view_in t full.graph in
    let same : map viewer (parts_of c.in_parts.result) ≡ map (view_of t) fulls = ap (map viewer) c.in_parts.ensures.are ∙ map-map viewer arc_value fulls in
    let one : fs ≡ map (view_of t) fulls = at_one (kept t c.args.memo.now.known.items) (numbers_of c.args.over) fs (map (view_of t) fulls) are c.in_ok-daughters.ensures in
    let mother : IsMother (signs_of t) c.args.place (map viewer (parts_of c.in_parts.result)) (viewer c.in-Some-2.full) = rw c.in-Some-2.is at c.in_ok-full.ensures in
    kept_numbered t c.args.memo.now c.keep.new.self (Mother c.args.place c.args.over) c.in-Some-2.full c.requires.right c.in_ok-number.ensures.known (IsMother (signs_of t) c.args.place fs) c.in_ok-number.number c.in_ok-number.ensures.number
    (subst (λ hs. IsMother (signs_of t) c.args.place hs (viewer c.in-Some-2.full)) (same ∙ sym one) mother)
