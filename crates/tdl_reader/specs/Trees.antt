-- What statements say, as trees (DELPH-IN TDL). Names and texts are their bytes, places are bytes of the file.
use Rattle.std.specs.Prelude.{ℕ, Bool, List, [], ◌∷◌, Option}
use Rattle.tdl_reader.specs.declared.Status.{Status}

-- terms and bodies; each list of the grammar is a family of its own
mutual
  pub data TermTree : Type 0 where
    of_name : List ℕ → ℕ → TermTree
    of_text : List ℕ → ℕ → TermTree
    of_coref : List ℕ → ℕ → TermTree
    of_avm : AttrTrees → ℕ → TermTree
    of_list : ItemTrees → RestTree → ℕ → TermTree
    of_diff : ItemTrees → ℕ → TermTree

  pub data BodyTree : Type 0 where
    no_terms : BodyTree
    and_term : TermTree → BodyTree → BodyTree

  pub data AttrTrees : Type 0 where
    no_attrs : AttrTrees
    more_attrs : List (List ℕ) → BodyTree → AttrTrees → AttrTrees

  pub data ItemTrees : Type 0 where
    no_items : ItemTrees
    more_items : BodyTree → ItemTrees → ItemTrees

  pub data RestTree : Type 0 where
    closed : RestTree
    open_end : RestTree
    tail_of : BodyTree → RestTree

abbrev pub last_term : TermTree → BodyTree
last_term x = and_term x no_terms

-- an attribute's path and value
pub record AttrTree : Type 0 where
  pub path : List (List ℕ)
  pub body : BodyTree

abbrev pub body_tree : List TermTree → BodyTree
body_tree [] = no_terms
body_tree (t ∷ more) = and_term t (body_tree more)

-- the terms of a body but the last, and the last
abbrev pub body_of : List TermTree → TermTree → BodyTree
body_of [] x = last_term x
body_of (y ∷ ys) x = and_term y (body_of ys x)

abbrev pub attrs_of : List AttrTree → AttrTrees
attrs_of [] = no_attrs
attrs_of (a ∷ more) = more_attrs a.path a.body (attrs_of more)

abbrev pub items_of : List BodyTree → ItemTrees
items_of [] = no_items
items_of (b ∷ more) = more_items b (items_of more)

-- a letter set: its name and its members
pub record SetTree : Type 0 where
  pub name : ℕ
  pub members : List ℕ

-- a character of a pattern, or a variable of a letter set
pub data SignTree : Type 0 where
  one_char : ℕ → SignTree
  one_of : SetTree → SignTree

pub record GroupTree : Type 0 where
  pub pattern : List SignTree
  pub with : List SignTree

pub record AffixTree : Type 0 where
  pub suffix : Bool
  pub groups : List GroupTree

pub data StatementTree : Type 0 where
  defines : List ℕ → ℕ → Option AffixTree → BodyTree → StatementTree
  adds : List ℕ → ℕ → BodyTree → StatementTree
  begins : Status → ℕ → StatementTree
  ends : Bool → ℕ → StatementTree
  includes : List ℕ → ℕ → StatementTree
  letters : SetTree → ℕ → StatementTree
