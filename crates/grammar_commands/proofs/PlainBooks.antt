-- A book in plain words meets what the program asks of a book, so a grammar in plain words is one that files load to, and each of these is one.
use Rattle.std.specs.Prelude.{ℕ, ◌≡◌, ◌<◌, ◌≤◌, ◌+◌, ◌↔◌, zero, suc, true, List, [], ◌∷◌, length, Option, Some, Ok}
use Rattle.std.proofs.Common.{sym, subst, arith}
use Rattle.std.proofs.lemmas.List.Elements.{All-nil}
use Rattle.std.specs.List.{AllZip, range_with_len}
use Rattle.type_hierarchy.specs.Decls.{texts}
use Rattle.type_hierarchy.specs.Table.{TypeTable, count_of, completed_count}
use Rattle.type_hierarchy.specs.Laws.{IsOrder, IsClosed, HasTypeLaws}
use Rattle.type_hierarchy.proofs.LawLemmas.{type_laws}
use Rattle.type_hierarchy.proofs.FamilyLemmas.{completed_order, completed_closed}
use Rattle.fs_model.specs.Claims.{Claim, Has, here, there}
use Rattle.fs_model.specs.Sources.{Told, told_claim, told_part, IsUnified}
use Rattle.fs_graph.specs.GraphMap.{GraphMap, IsGraph, reader_of}
use Rattle.fs_unify.specs.Rules.{Grammar, system_of, IsGrammar, IsClaimIn}
use Rattle.fs_unify.specs.Given.{facts_source}
use Rattle.fs_unify.specs.Placing.{IsAnswerIn}
use Rattle.fs_unify.proofs.GivenLemmas.{well_formed}
use Rattle.grammar_files.specs.Placings.{PlacedTree}
use Rattle.grammar_files.specs.Statements.{instances_in, defines_instance, no_statement}
use Rattle.body_facts.specs.Claimed.{WordTable}
use Rattle.constraint_expand.specs.declared.books.Book.{Book}
use Rattle.constraint_expand.specs.Systems.{Settled, constraint_claims, instance_claims, words_of}
use Rattle.constraint_expand.specs.Shaped.{HaveClaimsIn}
use Rattle.constraint_expand.specs.Conditions.{AreTypesFor}
use Rattle.constraint_expand.specs.Books.{InstanceMap, IsInstanceOf, IsConstraintOf, IsBookOf}
use Rattle.type_facts.proofs.ListLemmas.{Has-place}
use Rattle.constraint_expand.proofs.SplitLemmas.{Has-of_filter}
use Rattle.constraint_expand.proofs.ExpandLemmas.{grammar_in_range, grammar_bare, instance_in_range}
use Rattle.lexicon.specs.Words.{Each}
use Rattle.book_shapes.specs.Shapes.{instances_of}
use Rattle.grammar_types.specs.Typings.{AreTypesOf, strings_in}
use Rattle.grammar_files.specs.Walks.{WalkedTree}
use Rattle.grammar_load.specs.Expanding.{IsBook, names_by}
use Rattle.grammar_load.proofs.ExpandFits.{fit_types}
use Rattle.grammar_files.specs.Reads.{ReadTree}
use Rattle.grammar_load.specs.Loaded.{GrammarTree, IsGrammarOf}
use Rattle.grammar_load.specs.Loads.{makes, loads}
use Rattle.command_files.specs.Grammars.{HasGrammar}
use Rattle.endings.specs.Meanings.{Files}
use Rattle.grammar_commands.specs.Accepted.{IsPlainConstraint, IsPlainInstance, IsPlainBookOf, IsPlainBook, IsPlainGrammarOf, AreGraphs, IsAccepted}
use Rattle.grammar_commands.proofs.PlainRanges.{graph_in}

-- completed types are in order, and have names
module _ (w : WalkedTree) (types : TypeTable) (settled : AreTypesOf w types) where
  types_order : IsOrder types
  types_order = subst IsOrder (sym settled.2.table_is) (completed_order settled.0 settled.1.rising settled.2.added (strings_in w.statements) settled.2.family)

  laws_of : HasTypeLaws types
  laws_of = type_laws types types_order (subst IsClosed (sym settled.2.table_is) (completed_closed settled.0 settled.1.rising settled.2.added (strings_in w.statements) settled.2.family))

-- each item of a list
of_each : {A : Type 0} (P : A → Type 0) (xs : List A) (x : A) → Each P xs → Has x xs → P x
of_each P [] x e h = elim h [ ]
of_each P (y ∷ xs) _ e here = e.0
of_each P (y ∷ xs) x e (there h) = of_each P xs x e.1 h

-- items of two lists that go together
zip_with : {A B : Type 0} (R S : A → B → Type 0) (xs : List A) (ys : List B) → ((x : A) (y : B) → Has x xs → Has y ys → R x y → S x y) → AllZip R xs ys → AllZip S xs ys
zip_with R S [] [] to h = tt
zip_with R S [] (y ∷ ys) to h = absurd h
zip_with R S (x ∷ xs) [] to h = absurd h
zip_with R S (x ∷ xs) (y ∷ ys) to h = (to x y here here h.0, zip_with R S xs ys (λ a b i k. to a b (there i) (there k)) h.1)

-- the numbers of a range
in_range : (from count x : ℕ) → Has x (range_with_len from count) → x < from + count
in_range from zero x h = elim h [ ]
in_range from (suc count) _ here = omega arith
in_range from (suc count) x (there h) = let z = in_range (from + 1) count x h in omega (arith, z)

-- what a list of claims tells
told_in : (g : Grammar) (claims : List Claim) → HaveClaimsIn g claims → (c : Claim) → Told (facts_source claims) c → IsClaimIn (count_of g.types) (length g.introducers) c
told_in g claims all _ (told_claim c h) = all c h
told_in g claims all _ (told_part part c h t) = elim h [ ]

module _ (types : TypeTable) (s : Settled) (ps : List PlacedTree) (b : Book) (types_for : AreTypesFor types ps) (laws : HasTypeLaws types)
    (le : completed_count types ≤ count_of types) (is : IsPlainBookOf types s ps b) (graphs : AreGraphs b) where
  in_range_of : IsGrammar b.system
  in_range_of = grammar_in_range types s ps (texts b.feats.items) b.system types_for le is.system

  own_laws : HasTypeLaws b.system.types
  own_laws = subst HasTypeLaws (sym is.system.types_are) laws

  own_le : completed_count b.system.types ≤ count_of b.system.types
  own_le = subst (λ t. completed_count t ≤ count_of t) (sym is.system.types_are) le

  -- the structure of claims in range
  plain_answer : (claims : List Claim) (graph : GraphMap) → HaveClaimsIn b.system claims → IsGraph graph → IsUnified (system_of b.system) (facts_source claims) (Some (reader_of graph)) → IsAnswerIn b.system graph
  plain_answer claims graph all shape unified = record {
    graph_in = graph_in b.system in_range_of own_laws own_le (told_in b.system claims all) graph shape unified.1;
    well_formed = well_formed (system_of b.system) (Told (facts_source claims)) (reader_of graph) unified.1;
  }

  plain_constraint : (t : ℕ) (graph : GraphMap) → Has t (range_with_len 0 (completed_count b.system.types)) → Has graph b.constraints.items → IsPlainConstraint b.system t graph → IsConstraintOf b.system t graph
  plain_constraint t graph has one plain =
      record { structure = plain; answer = plain_answer (constraint_claims t) graph claims_in (of_each IsGraph b.constraints.items graph graphs.constraints one) plain }
    where
      small : t < count_of b.system.types
      small = let z = in_range 0 (completed_count b.system.types) t has in let y = own_le in omega (arith, z, y)

      claims_in : HaveClaimsIn b.system (constraint_claims t)
      claims_in _ here = (All-nil (λ f. f < length b.system.introducers), small)
      claims_in c (there h) = elim h [ ]

  abbrev words : WordTable
  words = words_of b.system.types s.lists (texts b.feats.items)

  plain_instance : (p : PlacedTree) (i : InstanceMap) → Has p (instances_in ps) → Has i (instances_of b) → IsPlainInstance b.system words p i → IsInstanceOf b.system s (texts b.feats.items) p i
  plain_instance p i has one plain = record {
    status = plain.status;
    structure = plain.structure;
    answer = plain_answer (instance_claims words p) i.structure claims_in (of_each (λ j. IsGraph j.structure) (instances_of b) i graphs.instances one) plain.structure;
  }
    where
      claims_in : HaveClaimsIn b.system (instance_claims words p)
      claims_in =
          let f = Has-of_filter defines_instance p ps has in
          let r = Has-place p no_statement ps f.0 in
          subst (λ y. HaveClaimsIn b.system (instance_claims (words_of y s.lists (texts b.feats.items)) p)) (sym is.system.types_are)
          (subst (λ q. HaveClaimsIn b.system (instance_claims (words_of types s.lists (texts b.feats.items)) q)) r.2
          (instance_in_range types s ps (texts b.feats.items) b.system types_for le is.system r.0 r.1 (subst (λ q. defines_instance q ≡ true) (sym r.2) f.1)))

  book_of : IsBookOf types s ps b
  book_of = record {
    known = is.known;
    system = is.system;
    in_range = in_range_of;
    bare = grammar_bare types s ps (texts b.feats.items) b.system types_for laws is.system;
    shaped = is.shaped;
    constraints = zip_with (IsPlainConstraint b.system) (IsConstraintOf b.system) (range_with_len 0 (completed_count b.system.types)) b.constraints.items plain_constraint is.constraints;
    instances = zip_with (IsPlainInstance b.system words) (IsInstanceOf b.system s (texts b.feats.items)) (instances_in ps) (instances_of b) plain_instance is.instances;
    names = is.names;
  }

plain_book : (w : WalkedTree) (b : Book) → IsPlainBook w b → AreGraphs b → IsBook w b
plain_book w b is graphs = record {
  types = is.types;
  settled = is.settled;
  expanded = book_of is.types (names_by w.settings) w.statements b (fit_types w is.types is.settled) (laws_of w is.types is.settled) (types_order w is.types is.settled).named is.expanded graphs;
}

-- the names that settings give to lists, with a book's types and features
abbrev words_in : WalkedTree → Book → WordTable
words_in w b = words_of b.system.types (names_by w.settings).lists (texts b.feats.items)

-- a book that files load to, without what the program asks of it
book_plain : (w : WalkedTree) (b : Book) → IsBook w b → IsPlainBook w b
book_plain w b is = record {
  types = is.types;
  settled = is.settled;
  expanded = record {
    known = is.expanded.known;
    system = is.expanded.system;
    shaped = is.expanded.shaped;
    constraints = zip_with (IsConstraintOf b.system) (IsPlainConstraint b.system) (range_with_len 0 (completed_count b.system.types)) b.constraints.items (λ t graph i k c. c.structure) is.expanded.constraints;
    instances = zip_with (IsInstanceOf b.system (names_by w.settings) (texts b.feats.items)) (IsPlainInstance b.system (words_in w b)) (instances_in w.statements) (instances_of b)
        (λ p i h k c. record { status = c.status; structure = c.structure }) is.expanded.instances;
    names = is.expanded.names;
  };
}

plain_grammar : (r : ReadTree) (g : GrammarTree) → IsPlainGrammarOf r g → AreGraphs g.book → IsGrammarOf r g
plain_grammar r g is graphs = record {
  book = plain_book r.walked g.book is.book graphs;
  daughters = is.daughters;
  given = is.given;
  entries = is.entries;
  lexicon = is.lexicon;
  spelling = is.spelling;
  settings = is.settings;
  names = is.names;
}

grammar_plain : (r : ReadTree) (g : GrammarTree) → IsGrammarOf r g → IsPlainGrammarOf r g
grammar_plain r g is = record {
  book = book_plain r.walked g.book is.book;
  daughters = is.daughters;
  given = is.given;
  entries = is.entries;
  lexicon = is.lexicon;
  spelling = is.spelling;
  settings = is.settings;
  names = is.names;
}

pub accepted : (files : Files) (name : List ℕ) (settings : Option (List ℕ)) (g : GrammarTree) → IsAccepted files name settings g ↔ (HasGrammar files name settings g × AreGraphs g.book)
accepted files name settings g = (to, back)
  where
    to : IsAccepted files name settings g → HasGrammar files name settings g × AreGraphs g.book
    to is = (loads is.read (Ok g) is.reads (makes g (plain_grammar is.read g is.grammar is.graphs)), is.graphs)

    back : HasGrammar files name settings g × AreGraphs g.book → IsAccepted files name settings g
    back (loads r _ found (makes _ is), graphs) = record { read = r; reads = found; grammar = grammar_plain r g is; graphs = graphs }
