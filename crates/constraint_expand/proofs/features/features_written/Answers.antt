use Rattle.std.proofs.Common.{map, ap}
use Rattle.body_facts.specs.Writing.{list_names}
use Rattle.type_hierarchy.specs.Decls.{texts}
use Rattle.grammar_files.specs.Placings.{placed_of}
use Rattle.constraint_expand.proofs.FeatureLemmas.{features_both}
use Rattle.constraint_expand.proofs.features.features_written.Goals as goal

pub returns : goal.returns
returns c =
    features_both (list_names c.args.names.now) (map placed_of c.args.statements.now) (texts c.new-features.result.keys) (texts c.add_kind.new.features.keys) _
    (ap texts c.new-features.ensures.empty) c.in_ok-add_kind.ensures c.in_ok-add_kind-2.ensures
