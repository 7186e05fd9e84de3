-- The names that statements define, and the features of their bodies.
use Rattle.std.proofs.Common.{ℕ, List, [], ◌∷◌, ◌++◌}
use Rattle.tdl_reader.specs.Grammar.{SpellsPath, one_name, more_names, SpellsTerm, name, text, symbol, coref, empty_avm, avm, empty_list, open_list, list, empty_diff, diff, SpellsBody, one_term, more_terms, SpellsAttrs, one_attr, and_attr, SpellsItems, one_item, and_item, SpellsEnd, nothing_more, and_open, and_tail, SpellsStatement, define, add, begin_types, begin_instances, end_types, end_instances, include_file, letter_set, dotted_letter_set, SpellsFile, no_statements, more_statements}
use Rattle.tdl_reader.specs.Toks.{Tok}
use Rattle.tdl_reader.specs.Trees.{TermTree, of_name, of_text, of_coref, of_avm, of_list, of_diff, BodyTree, no_terms, and_term, AttrTrees, no_attrs, more_attrs, ItemTrees, no_items, more_items, RestTree, closed, open_end, tail_of, SetTree, StatementTree, defines, adds}
use Rattle.mrs_lines.proofs.Names.{IsTdlName}
use Rattle.mrs_lines.proofs.Tokens.{AllGood, good_parts, value_named}

abbrev pub AllNames : List (List ℕ) → Type 0
AllNames [] = Unit {0}
AllNames (n ∷ ns) = IsTdlName n × AllNames ns

-- the features of brackets are names
abbrev mutual
  pub TermNamed : TermTree → Type 0
  TermNamed (of_name n at) = Unit {0}
  TermNamed (of_text t at) = Unit {0}
  TermNamed (of_coref n at) = Unit {0}
  TermNamed (of_avm attrs at) = AttrsNamed attrs
  TermNamed (of_list items rest at) = ItemsNamed items × RestNamed rest
  TermNamed (of_diff items at) = ItemsNamed items

  pub BodyNamed : BodyTree → Type 0
  BodyNamed no_terms = Unit {0}
  BodyNamed (and_term t b) = TermNamed t × BodyNamed b

  pub AttrsNamed : AttrTrees → Type 0
  AttrsNamed no_attrs = Unit {0}
  AttrsNamed (more_attrs path b more) = AllNames path × (BodyNamed b × AttrsNamed more)

  pub ItemsNamed : ItemTrees → Type 0
  ItemsNamed no_items = Unit {0}
  ItemsNamed (more_items b more) = BodyNamed b × ItemsNamed more

  pub RestNamed : RestTree → Type 0
  RestNamed closed = Unit {0}
  RestNamed open_end = Unit {0}
  RestNamed (tail_of b) = BodyNamed b

-- and so is what a statement defines or adds to
abbrev pub StatementNamed : StatementTree → Type 0
StatementNamed (defines n at affix b) = IsTdlName n × BodyNamed b
StatementNamed (adds n at b) = IsTdlName n × BodyNamed b
StatementNamed _ = Unit {0}

path_named : (ts : List Tok) (path : List (List ℕ)) → SpellsPath ts path → AllGood ts → AllNames path
path_named _ _ (one_name n k) g = (value_named n k g.0, tt)
path_named _ _ (more_names n d ts path k _ more) g = (value_named n k g.0, path_named ts path more g.1.1)

mutual
  term_named : (ts : List Tok) (x : TermTree) → SpellsTerm ts x → AllGood ts → TermNamed x
  term_named _ _ (name t k) g = tt
  term_named _ _ (text t k) g = tt
  term_named _ _ (symbol t k) g = tt
  term_named _ _ (coref t k) g = tt
  term_named _ _ (empty_avm o c _ _) g = tt
  term_named _ _ (avm o c ts attrs _ _ more) g = attrs_named ts attrs more (good_parts ts (c ∷ []) g.1).0
  term_named _ _ (empty_list o c _ _) g = (tt, tt)
  term_named _ _ (open_list o d c _ _ _) g = (tt, tt)
  term_named _ _ (list o c ts es items end _ _ more rest) g =
      let p = good_parts ts (es ++ c ∷ []) g.1 in
      (items_named ts items more p.0, end_named es end rest (good_parts es (c ∷ []) p.1).0)
  term_named _ _ (empty_diff o c _ _) g = tt
  term_named _ _ (diff o c ts items _ _ more) g = items_named ts items more (good_parts ts (c ∷ []) g.1).0

  body_named : (ts : List Tok) (b : BodyTree) → SpellsBody ts b → AllGood ts → BodyNamed b
  body_named ts _ (one_term _ x t) g = (term_named ts x t g, tt)
  body_named _ _ (more_terms ts us a x b t _ more) g = let p = good_parts ts (a ∷ us) g in (term_named ts x t p.0, body_named us b more p.1.1)

  attrs_named : (ts : List Tok) (attrs : AttrTrees) → SpellsAttrs ts attrs → AllGood ts → AttrsNamed attrs
  attrs_named _ _ (one_attr ps bs path b p body) g = let q = good_parts ps bs g in (path_named ps path p q.0, (body_named bs b body q.1, tt))
  attrs_named _ _ (and_attr ps bs ts c path b attrs p body _ more) g =
      let q = good_parts ps (bs ++ c ∷ ts) g in
      let r = good_parts bs (c ∷ ts) q.1 in
      (path_named ps path p q.0, (body_named bs b body r.0, attrs_named ts attrs more r.1.1))

  items_named : (ts : List Tok) (items : ItemTrees) → SpellsItems ts items → AllGood ts → ItemsNamed items
  items_named ts _ (one_item _ b body) g = (body_named ts b body g, tt)
  items_named _ _ (and_item bs ts c b items body _ more) g = let p = good_parts bs (c ∷ ts) g in (body_named bs b body p.0, items_named ts items more p.1.1)

  end_named : (ts : List Tok) (end : RestTree) → SpellsEnd ts end → AllGood ts → RestNamed end
  end_named _ _ nothing_more g = tt
  end_named _ _ (and_open c d _ _) g = tt
  end_named _ _ (and_tail d bs b _ body) g = body_named bs b body g.1

statement_named : (sets after : List SetTree) (ts : List Tok) (s : StatementTree) → SpellsStatement sets ts s after → AllGood ts → StatementNamed s
statement_named sets after _ _ (define n d e gs bs affix b k _ _ body _) g =
    (value_named n k g.0, body_named bs b body (good_parts bs (e ∷ []) (good_parts gs (bs ++ e ∷ []) g.1.1).1).0)
statement_named sets after _ _ (add n d e bs b k _ body _) g = (value_named n k g.0, body_named bs b body (good_parts bs (e ∷ []) g.1.1).0)
statement_named sets after ts s (begin_types b t e kb kt ke) g = tt
statement_named sets after ts s (begin_instances b i t n e kb ki kt kn ke) g = tt
statement_named sets after ts s (end_types b t e kb kt ke) g = tt
statement_named sets after ts s (end_instances b i e kb ki ke) g = tt
statement_named sets after ts s (include_file i t e ki kt ke) g = tt
statement_named sets after ts s (letter_set p q x kp kg h) g = tt
statement_named sets after ts s (dotted_letter_set p q e x kp kg h ke) g = tt

abbrev pub AllStatementsNamed : List StatementTree → Type 0
AllStatementsNamed [] = Unit {0}
AllStatementsNamed (s ∷ ss) = StatementNamed s × AllStatementsNamed ss

pub file_named : (sets : List SetTree) (ts : List Tok) (ss : List StatementTree) → SpellsFile sets ts ss → AllGood ts → AllStatementsNamed ss
file_named sets _ _ (no_statements _) g = tt
file_named sets _ _ (more_statements _ after ts us s ss h rest) g = let p = good_parts ts us g in (statement_named sets after ts s h p.0, file_named after us ss rest p.1)
