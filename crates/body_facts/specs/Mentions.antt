-- The types that a body names, in order of writing (DELPH-IN TDL).
use Rattle.std.specs.Prelude.{ℕ, Bool, not, Option, List, [], ◌∷◌, ◌++◌, find}
use Rattle.std.specs.Option.{is_some}
use Rattle.type_hierarchy.specs.Decls.{Name}
use Rattle.type_hierarchy.specs.Named.{type_named}
use Rattle.type_hierarchy.specs.Table.{TypeTable}
use Rattle.tdl_reader.specs.Trees.{TermTree, of_name, of_text, of_coref, of_avm, of_list, of_diff, BodyTree, no_terms, and_term, AttrTrees, no_attrs, more_attrs, ItemTrees, no_items, more_items, RestTree, closed, open_end, tail_of}
use Rattle.body_facts.specs.Writing.{ListNames}
use Rattle.body_facts.specs.declared.mentioned.Unknown.{Unknown}

-- a type's name, and the place of the term that names it
pub record Mention : Type 0 where
  pub name : Name
  pub at : ℕ

abbrev pub mention : ℕ → Name → Mention
mention at name = record { name = name; at = at }

abbrev pub mention_of : Unknown → Mention
mention_of u = record { name = u.name.now; at = u.at }

-- a list with an item is a cons
abbrev pub cell_mentions : ListNames → ℕ → ItemTrees → List Mention
cell_mentions n at no_items = []
cell_mentions n at (more_items body more) = mention at n.cons ∷ []

-- a list without a tail names the type of its end
abbrev pub end_mentions : ListNames → ℕ → RestTree → List Mention
end_mentions n at closed = mention at n.null ∷ []
end_mentions n at open_end = mention at n.list ∷ []
end_mentions n at (tail_of body) = []

-- a list names its own types at its own place, before its items and its tail
abbrev mutual
  pub term_mentions : ListNames → TermTree → List Mention
  term_mentions n (of_name name at) = mention at name ∷ []
  term_mentions n (of_text text at) = []
  term_mentions n (of_coref name at) = []
  term_mentions n (of_avm attrs at) = attrs_mention n attrs
  term_mentions n (of_list items rest at) =
      cell_mentions n at items ++ end_mentions n at rest ++ items_mention n items ++ tail_mentions n rest
  term_mentions n (of_diff items at) = cell_mentions n at items ++ items_mention n items

  pub body_mentions : ListNames → BodyTree → List Mention
  body_mentions n no_terms = []
  body_mentions n (and_term term more) = term_mentions n term ++ body_mentions n more

  pub attrs_mention : ListNames → AttrTrees → List Mention
  attrs_mention n no_attrs = []
  attrs_mention n (more_attrs path body more) = body_mentions n body ++ attrs_mention n more

  pub items_mention : ListNames → ItemTrees → List Mention
  items_mention n no_items = []
  items_mention n (more_items body more) = body_mentions n body ++ items_mention n more

  pub tail_mentions : ListNames → RestTree → List Mention
  tail_mentions n closed = []
  tail_mentions n open_end = []
  tail_mentions n (tail_of body) = body_mentions n body

abbrev pub is_unknown : TypeTable → Mention → Bool
is_unknown types m = not (is_some (type_named types m.name))

-- the first type that a body names and that is no completed type
abbrev pub unknown_in : TypeTable → ListNames → BodyTree → Option Mention
unknown_in types n body = find (is_unknown types) (body_mentions n body)
