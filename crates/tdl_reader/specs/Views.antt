-- The trees of terms, bodies and statements that the library gives.
use Rattle.std.specs.Prelude.{map}
use Rattle.std.specs.Option.{option_map}
use Rattle.std.specs.String.{string_bytes}
use Rattle.tdl_reader.specs.declared.Body.{Body}
use Rattle.tdl_reader.specs.declared.Attr.{Attr}
use Rattle.tdl_reader.specs.declared.Rest.{Rest, Closed, Open, Tail'}
use Rattle.tdl_reader.specs.declared.Term.{Term, Name, Text, Coref, Avm', List', Diff', Row_of-Term, end_of-Term, more_of-Term, Row_of-Attr, end_of-Attr, more_of-Attr, Row_of-Body, end_of-Body, more_of-Body}
use Rattle.tdl_reader.specs.declared.LetterSet.{LetterSet}
use Rattle.tdl_reader.specs.declared.Sign.{Sign}
use Rattle.tdl_reader.specs.declared.Sign.TheVariants.{Char, Set}
use Rattle.tdl_reader.specs.declared.AffixGroup.{AffixGroup}
use Rattle.tdl_reader.specs.declared.Affix.{Affix}
use Rattle.tdl_reader.specs.declared.Statement.{Statement}
use Rattle.tdl_reader.specs.declared.Statement.TheVariants.{Define, Adds, Begin, End, Include, Letters}
use Rattle.tdl_reader.specs.Trees.{TermTree, of_name, of_text, of_coref, of_avm, of_list, of_diff, BodyTree, no_terms, and_term, AttrTrees, no_attrs, more_attrs, ItemTrees, no_items, more_items, RestTree, closed, open_end, tail_of, AttrTree, body_tree, SetTree, SignTree, one_char, one_of, GroupTree, AffixTree, StatementTree, defines, adds, begins, ends, includes, letters}

unfoldable mutual
  pub term_of : Term → TermTree
  term_of (Name name at) = of_name (string_bytes name) at
  term_of (Text text at) = of_text (string_bytes text) at
  term_of (Coref name at) = of_coref (string_bytes name) at
  term_of (Avm' shape all at) = of_avm (attrs_tree all) at
  term_of (List' shape all rest at) = of_list (items_tree all) (rest_of rest) at
  term_of (Diff' shape all at) = of_diff (items_tree all) at

  pub attrs_tree : {m : _} → Row_of-Attr m → AttrTrees
  attrs_tree end_of-Attr = no_attrs
  attrs_tree (more_of-Attr path shape all rest) = more_attrs (map string_bytes path.items) (terms_tree all) (attrs_tree rest)

  pub terms_tree : {m : _} → Row_of-Term m → BodyTree
  terms_tree end_of-Term = no_terms
  terms_tree (more_of-Term t rest) = and_term (term_of t) (terms_tree rest)

  pub items_tree : {m : _} → Row_of-Body m → ItemTrees
  items_tree end_of-Body = no_items
  items_tree (more_of-Body shape all rest) = more_items (terms_tree all) (items_tree rest)

  pub rest_of : Rest → RestTree
  rest_of Closed = closed
  rest_of Open = open_end
  rest_of (Tail' shape all) = tail_of (terms_tree all)

abbrev pub body_in : Body → BodyTree
body_in b = body_tree (map term_of b.terms.items)

abbrev pub attr_of : Attr → AttrTree
attr_of a = record { path = map string_bytes a.path.items; body = body_in a.body }

abbrev pub set_of : LetterSet → SetTree
set_of s = record { name = s.name; members = s.members.items }

abbrev pub sign_of : Sign → SignTree
sign_of (Char c) = one_char c
sign_of (Set name members) = one_of (record { name = name; members = members.items })

abbrev pub group_in : AffixGroup → GroupTree
group_in g = record { pattern = map sign_of g.pattern.items; with = map sign_of g.with.items }

abbrev pub affix_of : Affix → AffixTree
affix_of a = record { suffix = a.suffix; groups = map group_in a.groups.items }

abbrev pub statement_of : Statement → StatementTree
statement_of (Define name at affix body) = defines (string_bytes name) at (option_map affix_of affix) (body_in body)
statement_of (Adds name at body) = adds (string_bytes name) at (body_in body)
statement_of (Begin status at) = begins status at
statement_of (End instance at) = ends instance at
statement_of (Include file at) = includes (string_bytes file) at
statement_of (Letters set at) = letters (set_of set) at
