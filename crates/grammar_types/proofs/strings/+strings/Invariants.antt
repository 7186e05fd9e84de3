use Rattle.std.proofs.Common.{◌≡◌, take}
use Rattle.std.specs.List.{flat_map}
use Rattle.type_hierarchy.specs.Decls.{texts}
use Rattle.grammar_types.specs.SettleViews.{with_each}
use Rattle.grammar_types.proofs.SettleBodies.{term_strings, attr_strings, item_strings}
use Rattle.grammar_types.proofs.strings.+strings.Given as goal

abbrev pub invariant-add_attrs-loop-attr : goal.invariant-add_attrs-loop-attr
invariant-add_attrs-loop-attr l = texts l.found.keys ≡ with_each (texts l.initial.found.keys) (flat_map attr_strings (take l.attr-index l.attrs.items))

abbrev pub invariant-add_body-loop-term : goal.invariant-add_body-loop-term
invariant-add_body-loop-term l = texts l.found.keys ≡ with_each (texts l.initial.found.keys) (flat_map term_strings (take l.term-index l.body.terms.items))

abbrev pub invariant-add_items-loop-item : goal.invariant-add_items-loop-item
invariant-add_items-loop-item l = texts l.found.keys ≡ with_each (texts l.initial.found.keys) (flat_map item_strings (take l.item-index l.items.items))
