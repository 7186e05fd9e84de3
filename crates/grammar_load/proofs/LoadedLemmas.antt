-- The grammar of what was read meets the condition on grammars.
use Rattle.std.proofs.Common.{◌≡◌, ◌<◌, List, length, sym, ◌∙◌, ap, subst}
use Rattle.std.specs.List.{range_with_len}
use Rattle.std.proofs.lemmas.List.{length-map}
use Rattle.std.proofs.lemmas.List.Sorted.{All-permutation}
use Rattle.std.proofs.lemmas.Slice.Zip.{AllZip-long}
use Rattle.tdl_reader.specs.declared.Status.TheVariants.{LexRule}
use Rattle.type_hierarchy.specs.Decls.{Name, texts}
use Rattle.fs_model.specs.Claims.{Claim, System}
use Rattle.fs_model.specs.Closure.{Closure}
use Rattle.fs_model.specs.Sources.{Reader, Told, Tells, tells_exists, tells_same, tells_below, IsGraphOf}
use Rattle.fs_model.proofs.ClosureLemmas.{consistency_falls}
use Rattle.fs_graph.specs.GraphMap.{reader_of}
use Rattle.fs_unify.specs.Rules.{system_of}
use Rattle.fs_unify.specs.Given.{facts_source}
use Rattle.grammar_files.specs.Placings.{PlacedTree}
use Rattle.grammar_files.specs.Statements.{is_status, defines_instance, instances_in, name_of}
use Rattle.constraint_expand.specs.declared.books.Book.{Book}
use Rattle.constraint_expand.specs.Books.{InstanceMap, IsInstanceOf, IsBookOf}
use Rattle.constraint_expand.specs.Systems.{Settled, instance_claims, words_of}
use Rattle.lexicon.specs.Words.{Each}
use Rattle.lexicon.specs.Entries.{EntryTree, IsLexiconOf}
use Rattle.spelling_rules.specs.Trees.{AreBound}
use Rattle.grammar_load.specs.Spellings.{rule_written, lexical_rules, spellings_of}
use Rattle.grammar_load.specs.Expanding.{names_by}
use Rattle.grammar_files.specs.Reads.{ReadTree}
use Rattle.book_shapes.specs.Shapes.{instances_of, entries_in, HasWordsAt, AreEntriesOf}
use Rattle.grammar_load.specs.Loaded.{GrammarTree, orth_path, IsGrammarOf}
use Rattle.grammar_load.specs.Conditions.{IsClosedIn, AreNumbered, IsLoaded}
use Rattle.grammar_load.proofs.ListLemmas.{all_each, each_all, each_beside, filter_both, count_beside}
use Rattle.grammar_load.proofs.NumberLemmas.{numbers_are}

-- what a structure says follows from what it is the structure of
told_within : (s : System) (given : Claim → Type 0) (r : Reader) → IsGraphOf s given r → (c : Claim) → Tells r c → Closure s given c
told_within s given r h c (tells_exists p n e) = (h.paths p).1 (n, e)
told_within s given r h c (tells_same p q n e f) = (h.equalities p q).1 (n, e, f)
told_within s given r h c (tells_below p n e) = h.types_there p n e

closed_each : (s : Settled) (ps : List PlacedTree) (b : Book) (feats : List Name) → ((p : PlacedTree) (i : InstanceMap) → IsInstanceOf b.system s feats p i → IsClosedIn b.system i.structure)
closed_each s ps b feats p i h =
    let given = Told (facts_source (instance_claims (words_of b.system.types s.lists feats) p)) in
    record { consistent = consistency_falls (system_of b.system) (Tells (reader_of i.structure)) given (told_within (system_of b.system) given (reader_of i.structure) h.structure.1) h.structure.0; answer = h.answer }

entries_numbered : (b : Book) (orth : List _) (given lexicon : List EntryTree) → AreEntriesOf b orth (instances_of b) given → IsLexiconOf given lexicon → AreNumbered (length (entries_in (instances_of b))) lexicon
entries_numbered b orth given lexicon h l =
    let many : length given ≡ length (entries_in (instances_of b)) = AllZip-long (λ i (e : EntryTree). HasWordsAt b orth i e.words) (entries_in (instances_of b)) given h.words in
    numbers_are (λ (e : EntryTree). e.number) (length (entries_in (instances_of b))) given lexicon (h.numbered ∙ ap (range_with_len 0) many) l.same l.rising

entries_spoken : (b : Book) (orth : List _) (given lexicon : List EntryTree) → AreEntriesOf b orth (instances_of b) given → IsLexiconOf given lexicon → Each (λ (e : EntryTree). 0 < length e.words) lexicon
entries_spoken b orth given lexicon h l =
    let P = λ (e : EntryTree). 0 < length e.words in
    let each : Each P given = each_beside (λ i (e : EntryTree). HasWordsAt b orth i e.words) P (λ i e w. w.some) (entries_in (instances_of b)) given h.words in
    all_each P lexicon (All-permutation P given lexicon l.same (each_all P given each))

-- each instance stands beside its definition
pub instances_even : (r : ReadTree) (g : GrammarTree) → IsGrammarOf r g → length (instances_of g.book) ≡ length (instances_in r.walked.statements)
instances_even r g h =
    AllZip-long (IsInstanceOf g.book.system (names_by r.walked.settings) (texts g.book.feats.items)) (instances_in r.walked.statements) (instances_of g.book) h.book.expanded.instances

rules_even : (s : Settled) (feats : List Name) (ps : List PlacedTree) (b : Book) → ((p : PlacedTree) (i : InstanceMap) → IsInstanceOf b.system s feats p i → is_status i.status LexRule ≡ is_status p.status LexRule)
rules_even s feats ps b p i h = ap (λ k. is_status k LexRule) h.status

pub loaded : (r : ReadTree) (g : GrammarTree) → AreBound (spellings_of (lexical_rules r.walked.statements)) → IsGrammarOf r g → IsLoaded g
loaded r g bound h =
    let b = g.book in
    let s = names_by r.walked.settings in
    let ps = r.walked.statements in
    let feats = texts b.feats.items in
    let x : IsBookOf h.book.types s ps b = h.book.expanded in
    record {
      in_range = x.in_range;
      bare = x.bare;
      closed = each_beside (IsInstanceOf b.system s feats) (λ i. IsClosedIn b.system i.structure) (closed_each s ps b feats) (instances_in ps) (instances_of b) x.instances;
      daughters = h.daughters;
      entries = entries_numbered b (orth_path b r.walked.settings) h.given g.lexicon h.entries h.lexicon;
      words = entries_spoken b (orth_path b r.walked.settings) h.given g.lexicon h.entries h.lexicon;
      lexical_rules = ap (λ t. length t.rules) h.spelling ∙ length-map (lexical_rules ps) (λ p. rule_written p.statement)
          ∙ ap length (filter_both defines_instance (λ p. is_status p.status LexRule) ps)
          ∙ sym (count_beside (IsInstanceOf b.system s feats) (λ p. is_status p.status LexRule) (λ i. is_status i.status LexRule) (rules_even s feats ps b) (instances_in ps) (instances_of b) x.instances);
      spelled = subst (λ t. AreBound t.rules) (sym h.spelling) bound;
      named = ap length h.names ∙ length-map (instances_in ps) name_of ∙ sym (instances_even r g h);
    }
