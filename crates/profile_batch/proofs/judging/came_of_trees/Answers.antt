use Rattle.std.proofs.Common.{◌∙◌, map, false, string_bytes, ap, sym, refl}
use Rattle.std.proofs.lemmas.List.{length-map}
use Rattle.derivation.specs.Views.{derivation_of}
use Rattle.derivation.specs.Text.{text_of}
use Rattle.profile_reports.specs.Outcomes.{found}
use Rattle.profile_batch.proofs.Judged.{texts-few}
use Rattle.profile_batch.proofs.judging.came_of_trees.Goals as goal

pub returns-then-not-wanted-clause-kept : goal.returns-then-not-wanted-clause-kept
returns-then-not-wanted-clause-kept c = λ classes.
    let text = text_of (map string_bytes c.args.names.now) false in
    let trees = c.args.trees.now in
    (map text (map derivation_of trees), refl, length-map (map derivation_of trees) text ∙ length-map trees derivation_of)

pub returns-clause-kept : goal.returns-clause-kept
returns-clause-kept c = λ classes. ap found (sym c.in_ok-texts.ensures)

pub returns-clause-few : goal.returns-clause-few
returns-clause-few c = texts-few (map string_bytes c.args.names.now) c.args.trees.now c.in_ok-texts.texts.items c.in_ok-texts.ensures c.requires.few
