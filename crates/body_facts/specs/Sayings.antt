-- What a body says at a path (DELPH-IN TDL; Copestake 2002).
use Rattle.std.specs.Prelude.{List, [], ◌∷◌, ◌++◌, map}
use Rattle.type_hierarchy.specs.Decls.{Name}
use Rattle.tdl_reader.specs.Trees.{TermTree, of_name, of_text, of_coref, of_avm, of_list, of_diff, BodyTree, no_terms, and_term, AttrTrees, no_attrs, more_attrs, ItemTrees, no_items, more_items, RestTree, closed, open_end, tail_of}
use Rattle.body_facts.specs.Writing.{ListNames, past_items}

-- A saying at paths, where a feature is its name or whatever else stands for it: the path's type is at or below the type
-- of a name, or that of a string; the path carries a coreference; the path exists; two paths are equal.
pub data Saying (F : Type 0) : Type 0 where
  has_type : List F → Name → Saying F
  has_text : List F → Name → Saying F
  carries : List F → Name → Saying F
  is_there : List F → Saying F
  are_equal : List F → List F → Saying F

-- what each part of a body says at the path at which it stands
abbrev mutual
  -- A list's end stands at what follows its items. The items of a difference list stand in a list whose tail is equal to
  -- the last element, and nothing is said of that tail's type.
  pub term_says : {F : Type 0} → (Name → F) → ListNames → List F → TermTree → List (Saying F)
  term_says f n p (of_name name at) = has_type p name ∷ []
  term_says f n p (of_text text at) = has_text p text ∷ []
  term_says f n p (of_coref name at) = carries p name ∷ []
  term_says f n p (of_avm attrs at) = attrs_say f n p attrs
  term_says f n p (of_list items rest at) = items_say f n p items ++ end_says f n (past_items (f n.rest) p items) rest
  term_says f n p (of_diff items at) =
      items_say f n (p ++ f n.diff_list ∷ []) items
      ++ are_equal (past_items (f n.rest) (p ++ f n.diff_list ∷ []) items) (p ++ f n.diff_last ∷ []) ∷ []

  -- each term holds at the path
  pub body_says : {F : Type 0} → (Name → F) → ListNames → List F → BodyTree → List (Saying F)
  body_says f n p no_terms = []
  body_says f n p (and_term term more) = term_says f n p term ++ body_says f n p more

  -- each attribute's path exists from there, and its value holds at its end
  pub attrs_say : {F : Type 0} → (Name → F) → ListNames → List F → AttrTrees → List (Saying F)
  attrs_say f n p no_attrs = []
  attrs_say f n p (more_attrs path body more) =
      is_there (p ++ map f path) ∷ body_says f n (p ++ map f path) body ++ attrs_say f n p more

  -- an item stands at `first` of a cons, and what follows it at its `rest`; both exist, whatever stands there
  pub items_say : {F : Type 0} → (Name → F) → ListNames → List F → ItemTrees → List (Saying F)
  items_say f n p no_items = []
  items_say f n p (more_items body more) =
      has_type p n.cons ∷ is_there (p ++ f n.first ∷ []) ∷ body_says f n (p ++ f n.first ∷ []) body
      ++ is_there (p ++ f n.rest ∷ []) ∷ items_say f n (p ++ f n.rest ∷ []) more

  -- a list ends as the null list, as any list, or as its tail says
  pub end_says : {F : Type 0} → (Name → F) → ListNames → List F → RestTree → List (Saying F)
  end_says f n p closed = has_type p n.null ∷ []
  end_says f n p open_end = has_type p n.list ∷ []
  end_says f n p (tail_of body) = body_says f n p body
