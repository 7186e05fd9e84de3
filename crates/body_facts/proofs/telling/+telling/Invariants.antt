use Rattle.std.proofs.Common.{◌≡◌, map, take}
use Rattle.std.specs.List.{flat_map}
use Rattle.type_hierarchy.specs.Decls.{number_of}
use Rattle.tdl_reader.specs.Trees.{items_of}
use Rattle.tdl_reader.specs.Views.{term_of, body_in}
use Rattle.fs_graph.specs.Facts.{path_of}
use Rattle.body_facts.specs.Sayings.{term_says}
use Rattle.body_facts.specs.Running.{running_of, told_all, items_told}
use Rattle.body_facts.specs.WordTables.{table_of}
use Rattle.body_facts.proofs.RunningLemmas.{attr_says}
use Rattle.body_facts.proofs.telling.+telling.Given as goal

abbrev pub invariant-add_attrs-loop-attr : goal.invariant-add_attrs-loop-attr
invariant-add_attrs-loop-attr l =
    let w = table_of l.words in
    running_of l.told ≡ told_all w.types (running_of l.initial.told) (flat_map (attr_says (number_of w.feats) w.names (path_of l.initial.told.path.items)) (take l.attr-index l.attrs.items))

abbrev pub invariant-add_body-loop-term : goal.invariant-add_body-loop-term
invariant-add_body-loop-term l =
    let w = table_of l.words in
    running_of l.told ≡ told_all w.types (running_of l.initial.told) (flat_map (λ t. term_says (number_of w.feats) w.names (path_of l.initial.told.path.items) (term_of t)) (take l.term-index l.body.terms.items))

abbrev pub invariant-add_items-loop-item : goal.invariant-add_items-loop-item
invariant-add_items-loop-item l =
    running_of l.told ≡ items_told (table_of l.words) (running_of l.initial.told) (items_of (map body_in (take l.item-index l.items.items)))
