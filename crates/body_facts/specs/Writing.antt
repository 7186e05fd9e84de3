-- The names that lists have without naming them (DELPH-IN TDL, abbreviations of lists).
use Rattle.std.specs.Prelude.{List, [], ◌∷◌, ◌++◌}
use Rattle.std.specs.String.{string_bytes}
use Rattle.type_hierarchy.specs.Decls.{Name}
use Rattle.tdl_reader.specs.Trees.{ItemTrees, no_items, more_items}
use Rattle.body_facts.specs.declared.settled_names.Names.{Names}

-- the types and the features of lists and difference lists
pub record ListNames : Type 0 where
  pub list : Name
  pub cons : Name
  pub null : Name
  pub first : Name
  pub rest : Name
  pub diff_list : Name
  pub diff_last : Name

abbrev pub list_names : Names → ListNames
list_names n =
    record {
      list = string_bytes n.list;
      cons = string_bytes n.cons;
      null = string_bytes n.null;
      first = string_bytes n.first;
      rest = string_bytes n.rest;
      diff_list = string_bytes n.diff_list;
      diff_last = string_bytes n.diff_last;
    }

-- the path of what follows a list's items: one more `rest` for each
abbrev pub past_items : {F : Type 0} → F → List F → ItemTrees → List F
past_items rest p no_items = p
past_items rest p (more_items body more) = past_items rest (p ++ rest ∷ []) more
