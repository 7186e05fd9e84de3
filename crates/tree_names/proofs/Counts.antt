-- As many entries and lexical rules in signs as in the book.
use Rattle.std.proofs.Common.{ℕ, suc, ◌≡◌, ◌+◌, List, [], ◌∷◌, length, map, Bool, true, false, cond, if◌then◌else◌, refl, sym, ◌∙◌, ap}
use Rattle.std.specs.Prelude.{filter}
use Rattle.std.specs.List.{AllZip, range_with_len}
use Rattle.tdl_reader.specs.declared.Status.{Status}
use Rattle.tdl_reader.specs.declared.Status.TheVariants.{TypeDef, Entry, LexRule, Rule, Root, Other}
use Rattle.grammar_files.specs.Statements.{is_status}
use Rattle.constraint_expand.specs.declared.books.Book.{Book}
use Rattle.constraint_expand.specs.Books.{InstanceMap}
use Rattle.book_shapes.specs.Shapes.{instances_of, entries_in}
use Rattle.book_shapes.specs.Shapes as shapes
use Rattle.tree_model.specs.Signs.{Kind, Instance, Signs}
use Rattle.book_signs.specs.Signed.{kind_of, IsSignOf, IsSignsOf}
use Rattle.book_signs.specs.Trees.{is_entry, is_lexical_rule, places_where, entries_of, lexical_rules_of}
use Rattle.lexical_items.specs.Said.{AreNumbered}
use Rattle.grammar_load.specs.Loaded.{GrammarTree}
use Rattle.grammar_load.specs.Conditions.{IsLoaded, lexical_rules_in}

entry-kind : (s : Status) → is_entry (kind_of s) ≡ shapes.is_entry s
entry-kind TypeDef = refl
entry-kind Entry = refl
entry-kind LexRule = refl
entry-kind Rule = refl
entry-kind Root = refl
entry-kind Other = refl

lexical-kind : (s : Status) → is_lexical_rule (kind_of s) ≡ is_status s LexRule
lexical-kind TypeDef = refl
lexical-kind Entry = refl
lexical-kind LexRule = refl
lexical-kind Rule = refl
lexical-kind Root = refl
lexical-kind Other = refl

module _ (b : Book) (test : Kind → Bool) (own : Status → Bool) (same : (s : Status) → test (kind_of s) ≡ own s) where
  counted : (p : ℕ) (is : List InstanceMap) (ss : List Instance) → AllZip (IsSignOf b) is ss → length (places_where test p (map (λ i. i.kind) ss)) ≡ length (filter (λ i. own i.status) is)
  counted p [] [] z = refl
  counted p [] (s ∷ ss) z = absurd z
  counted p (i ∷ is) [] z = absurd z
  counted p (i ∷ is) (s ∷ ss) z = by_kind (test s.kind) (own i.status) (ap test z.0.kind ∙ same i.status) (counted (p + 1) is ss z.1)
    where
      by_kind : (x y : Bool) → x ≡ y → length (places_where test (p + 1) (map (λ i. i.kind) ss)) ≡ length (filter (λ i. own i.status) is)
          → length (if x then p ∷ places_where test (p + 1) (map (λ i. i.kind) ss) else places_where test (p + 1) (map (λ i. i.kind) ss)) ≡ length (cond y (i ∷ filter (λ i. own i.status) is) (filter (λ i. own i.status) is))
      by_kind true true e h = ap suc h
      by_kind false false e h = h
      by_kind true false e h = cc
      by_kind false true e h = cc

-- the lexicon and the spelling of a loaded grammar have the entries and the lexical rules of its signs
pub numbered : (g : GrammarTree) (s : Signs) → IsLoaded g → IsSignsOf g.book s → AreNumbered (entries_of s) (lexical_rules_of s) g.lexicon g.spelling
numbered g s l is =
    let entries : length (entries_of s) ≡ length (entries_in (instances_of g.book)) = counted g.book is_entry shapes.is_entry entry-kind 0 (instances_of g.book) s.instances is.instances in
    let rules : length (lexical_rules_of s) ≡ length (lexical_rules_in (instances_of g.book)) = counted g.book is_lexical_rule (λ t. is_status t LexRule) lexical-kind 0 (instances_of g.book) s.instances is.instances in
    record { entries_are = l.entries ∙ ap (range_with_len 0) (sym entries); rules_are = l.lexical_rules ∙ sym rules; have_words = l.words }
