use Rattle.std.proofs.Common.{◌≡◌, None, take}
use Rattle.std.specs.List.{flat_map, find}
use Rattle.tdl_reader.specs.Views.{term_of, attr_of, body_in}
use Rattle.body_facts.specs.Writing.{list_names}
use Rattle.body_facts.specs.Mentions.{is_unknown, term_mentions, body_mentions}
use Rattle.body_facts.proofs.mentioned.+mentions.Given as goal

abbrev pub invariant-in_attrs-loop-attr : goal.invariant-in_attrs-loop-attr
invariant-in_attrs-loop-attr l =
    find (is_unknown l.types) (flat_map (λ a. body_mentions (list_names l.names) (attr_of a).body) (take l.attr-index l.attrs.items)) ≡ None

abbrev pub invariant-in_body-loop-term : goal.invariant-in_body-loop-term
invariant-in_body-loop-term l =
    find (is_unknown l.types) (flat_map (λ t. term_mentions (list_names l.names) (term_of t)) (take l.term-index l.body.terms.items)) ≡ None

abbrev pub invariant-in_items-loop-item : goal.invariant-in_items-loop-item
invariant-in_items-loop-item l =
    find (is_unknown l.types) (flat_map (λ b. body_mentions (list_names l.names) (body_in b)) (take l.item-index l.items.items)) ≡ None
