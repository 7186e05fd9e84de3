use Rattle.std.proofs.Common.{ℕ, ◌<◌, ◌^◌, All, map, length, string_bytes, sym, subst}
use Rattle.derivation.specs.Text.{IsNamed}
use Rattle.derivation.specs.Views.{derivation_of}
use Rattle.tree_model.specs.Items.{Trees}
use Rattle.grammar_rules.specs.Views.{item_answer}
use Rattle.profile_reports.specs.Views.{Keeps}
use Rattle.engine.proofs.Results.{if-ok}
use Rattle.profile_batch.specs.Results.{outcome_of}
use Rattle.profile_batch.proofs.Judged.{trees-named, trees-few}
use Rattle.profile_batch.proofs.judging.came_of.Goals as goal

pub came_of_trees-requires-clause-named : goal.came_of_trees-requires-clause-named
came_of_trees-requires-clause-named c =
    subst (λ ts. All (λ t. IsNamed (length c.args.names.now) (derivation_of t)) ts) (sym c.deref.ensures.value)
    (trees-named (length c.args.names.now) c.in-Trees.classes c.in-Trees.trees c.args.answer.now c.in-Trees.is c.requires.named)

pub came_of_trees-requires-clause-few : goal.came_of_trees-requires-clause-few
came_of_trees-requires-clause-few c = subst (λ ts. length ts < 2 ^ 32) (sym c.deref.ensures.value) (trees-few c.in-Trees.classes c.in-Trees.trees c.args.answer.now c.in-Trees.is c.requires.few)

pub returns-in-Trees-clause-kept : goal.returns-in-Trees-clause-kept
returns-in-Trees-clause-kept c =
    let names = map string_bytes c.args.names.now in
    if-ok c.came_of_trees.result
    (λ came. (classes : ℕ) → Keeps came (outcome_of names (Trees classes (map derivation_of c.deref.result.now))))
    (λ came. Keeps came (outcome_of names (item_answer c.args.answer.now)))
    (λ came kept. subst (λ a. Keeps came (outcome_of names (item_answer a))) (sym c.in-Trees.is)
    (subst (λ ts. Keeps came (outcome_of names (Trees c.in-Trees.classes (map derivation_of ts)))) c.deref.ensures.value (kept c.in-Trees.classes))) c.came_of_trees.ensures.kept
