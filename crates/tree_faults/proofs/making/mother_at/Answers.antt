use Rattle.std.proofs.Common.{◌≡◌, Some, refl, ap}
use Rattle.std.specs.Prelude.{option_map}
use Rattle.tree_model.specs.Signs.{Instance}
use Rattle.tree_model.specs.Structures.{Structure}
use Rattle.book_signs.specs.Trees.{signs_of, rule_at}
use Rattle.rule_trees.specs.Mothers.{IsMother}
use Rattle.forced_types.specs.Views.{verdict_of}
use Rattle.tree_faults.specs.Inner.Structures.{views_of}
use Rattle.tree_faults.proofs.Refusing.{refuses}
use Rattle.tree_faults.proofs.making.mother_at.Goals as goal

pub returns-in_ok-verdict-in-None : goal.returns-in_ok-verdict-in-None
returns-in_ok-verdict-in-None c =
    let t = c.args.signs.now in
    let g = signs_of t in
    let fs = views_of t c.args.known.now in
    let v = verdict_of c.in_ok-verdict-in-None.verdict in
    let rule = c.requires.rule.instance.rule in
    let at : rule_at g c.args.place ≡ Some rule = ap (option_map (λ (i : Instance). i.rule)) c.requires.rule.at in
    let none : (f : Structure) → IsMother g c.args.place fs f → ⊥ = rw c.in-None.is at c.in_ok-full.ensures.full in
    let never = c.in_ok-full.ensures.never c.in-None.is in (
      refl,
      refl,
      record {
        never = none;
        forced = c.in_ok-verdict-in-None.ensures.forced;
        refusal = refuses t c.args.place fs rule v at never c.in_ok-verdict-in-None.ensures.forced c.in_ok-verdict-in-None.ensures.named;
      },
    )
