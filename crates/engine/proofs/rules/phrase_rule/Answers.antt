use Rattle.std.proofs.Common.{◌∙◌, Some, sym, ap, subst}
use Rattle.book_signs.specs.Trees.{signs_of, paths_of, ArePathsIn}
use Rattle.engine.proofs.RuleLemmas.{few-daughters}
use Rattle.engine.proofs.rules.phrase_rule.Goals as goal

pub returns-clause-within : goal.returns-clause-within
returns-clause-within c =
    let t = c.args.signs.now in
    let same = c.in_ok-places.ensures in
    let at = c.places.ensures.places ∙ ap Some (sym same) in
    let few = few-daughters (signs_of t) c.args.place c.requires.0 (paths_of c.in_ok-places.places.items) c.requires.1 c.requires.2 at c.laws.ensures.arities in
    record {
      structure_in = c.structure-structure.ensures.short;
      places_in = subst (ArePathsIn t.book.system) (sym same) c.places.ensures.within;
      some = few.0;
      few = few.1;
    }
