use Rattle.std.proofs.Common.{◌≡◌, ◌++◌, false, map, take}
use Rattle.std.specs.List.{flat_map}
use Rattle.tdl_reader.specs.Views.{term_of, body_in}
use Rattle.body_facts.specs.Writing.{list_names}
use Rattle.body_facts.specs.BracketUses.{used_of, term_uses, body_uses}
use Rattle.body_facts.proofs.BracketLemmas.{attr_uses}
use Rattle.body_facts.proofs.brackets.+brackets.Given as goal

abbrev pub invariant-add_attrs-loop-attr : goal.invariant-add_attrs-loop-attr
invariant-add_attrs-loop-attr l =
    map used_of l.found.items ≡ map used_of l.initial.found.items
    ++ flat_map (attr_uses (list_names l.names) l.own l.at) (take l.attr-index l.attrs.items)

abbrev pub invariant-add_body-loop-term : goal.invariant-add_body-loop-term
invariant-add_body-loop-term l =
    map used_of l.found.items ≡ map used_of l.initial.found.items ++ flat_map (λ t. term_uses (list_names l.names) l.own (term_of t)) (take l.term-index l.body.terms.items)

abbrev pub invariant-add_items-loop-item : goal.invariant-add_items-loop-item
invariant-add_items-loop-item l =
    map used_of l.found.items ≡ map used_of l.initial.found.items ++ flat_map (λ b. body_uses (list_names l.names) false (body_in b)) (take l.item-index l.items.items)
