-- The strings of bodies (DELPH-IN TDL).
use Rattle.std.specs.Prelude.{ℕ, List, [], ◌∷◌, ◌++◌}
use Rattle.tdl_reader.specs.Trees.{TermTree, of_name, of_text, of_coref, of_avm, of_list, of_diff, BodyTree, no_terms, and_term, AttrTrees, no_attrs, more_attrs, ItemTrees, no_items, more_items, RestTree, closed, open_end, tail_of}

-- each string as often as it stands there, at any depth, in order of writing
abbrev mutual
  pub strings_of_term : TermTree → List (List ℕ)
  strings_of_term (of_name name at) = []
  strings_of_term (of_text text at) = text ∷ []
  strings_of_term (of_coref name at) = []
  strings_of_term (of_avm attrs at) = strings_of_attrs attrs
  strings_of_term (of_list items rest at) = strings_of_items items ++ strings_of_rest rest
  strings_of_term (of_diff items at) = strings_of_items items

  pub strings_of_body : BodyTree → List (List ℕ)
  strings_of_body no_terms = []
  strings_of_body (and_term t more) = strings_of_term t ++ strings_of_body more

  pub strings_of_attrs : AttrTrees → List (List ℕ)
  strings_of_attrs no_attrs = []
  strings_of_attrs (more_attrs path body more) = strings_of_body body ++ strings_of_attrs more

  pub strings_of_items : ItemTrees → List (List ℕ)
  strings_of_items no_items = []
  strings_of_items (more_items body more) = strings_of_body body ++ strings_of_items more

  pub strings_of_rest : RestTree → List (List ℕ)
  strings_of_rest closed = []
  strings_of_rest open_end = []
  strings_of_rest (tail_of body) = strings_of_body body
