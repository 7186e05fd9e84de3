-- Where MRSs stand by the settings of a grammar that is loaded.
use Rattle.std.proofs.Common.{ℕ, ◌≡◌, ◌<◌, ◌≤◌, Bool, List, [], ◌∷◌, length, map, slice_index_or, Option, Some, None, Ok, sym, subst, arith}
use Rattle.std.specs.Prelude.{All, Contains, IfSome}
use Rattle.std.specs.List.{AllZip}
use Rattle.std.proofs.lemmas.List.Elements.{All-nil, All-cons, All-map}
use Rattle.fs_model.specs.Claims.{Has, here, there}
use Rattle.type_hierarchy.specs.Decls.{Name, texts}
use Rattle.type_hierarchy.specs.Named.{type_named}
use Rattle.type_hierarchy.specs.Table.{TypeTable, IsDistinct, completed_count, count_of}
use Rattle.grammar_settings.specs.Settled.{SortTree}
use Rattle.grammar_files.specs.Walks.{Files}
use Rattle.grammar_load.specs.Expanding.{names_by}
use Rattle.grammar_files.specs.Reads.{ReadTree}
use Rattle.grammar_load.specs.Loaded.{GrammarTree, IsGrammarOf}
use Rattle.grammar_load.specs.Loads.{Loads, loads, Makes, makes}
use Rattle.grammar_load.proofs.OneBook.{type-there}
use Rattle.mrs_model.specs.Texts.{IsName, IsSort}
use Rattle.mrs_places.specs.Settled.{paths_said, sort_said}
use Rattle.mrs_extract.specs.Asked.{ArePaths}
use Rattle.mrs_lines.proofs.Names.{IsTdlName, named, undotted}
use Rattle.mrs_lines.proofs.Walked.{WalkedNamed, read_named}
use Rattle.mrs_lines.proofs.Features.{ListsNamed, features_named}
use Rattle.mrs_lines.proofs.Types.{types_named, completed_within}

all_have : {X : Type 0} (P : X → Type 0) (xs : List X) → ((x : X) → Has x xs → P x) → All P xs
all_have P [] h = All-nil P
all_have P (x ∷ xs) h = All-cons P x xs (h x here) (all_have P xs (λ y k. h y (there k)))

-- numbers that are apart where the names are
one_number : (feats : List Name) → IsDistinct feats → (f g : ℕ) → f < length feats → g < length feats → slice_index_or feats f [] ≡ slice_index_or feats g [] → f ≡ g
one_number feats apart f g lf lg e = grind (arith, apart f g, apart g f, sym e)

type_in : (w : TypeTable) (name : Name) → completed_count w ≤ count_of w → IfSome (type_named w name) (λ t. t < count_of w)
type_in w name within = go (type_named w name) (λ t e. (let l = type-there w name t e in omega (arith, l, within)))
  where
    go : (o : Option ℕ) → ((t : ℕ) → o ≡ Some t → t < count_of w) → IfSome o (λ t. t < count_of w)
    go None h = tt
    go (Some t) h = h t (λ i. Some t)

sorts_in : (w : TypeTable) (ss : List SortTree) → completed_count w ≤ count_of w → All (λ s. IfSome s.ty (λ t. t < count_of w)) (map (sort_said w) ss)
sorts_in w [] within = All-nil (λ s. IfSome s.ty (λ t. t < count_of w))
sorts_in w (s ∷ ss) within = All-cons (λ s. IfSome s.ty (λ t. t < count_of w)) (sort_said w s) (map (sort_said w) ss) (type_in w s.ty within) (sorts_in w ss within)

zip_even : {A B : Type 0} (R : A → B → Type 0) (xs : List A) (ys : List B) → AllZip R xs ys → length xs ≡ length ys
zip_even R [] [] h = λ i. 0
zip_even R [] (y ∷ ys) h = absurd h
zip_even R (x ∷ xs) [] h = absurd h
zip_even R (x ∷ xs) (y ∷ ys) h = let e = zip_even R xs ys h.1 in omega (arith, e)

module _ (r : ReadTree) (g : GrammarTree) (walked : WalkedNamed r.walked) (of : IsGrammarOf r g) where
  types : TypeTable
  types = of.book.types

  feats : List Name
  feats = texts g.book.feats.items

  lists : ListsNamed (names_by r.walked.settings).lists
  lists = record { first = walked.settings.first; rest = walked.settings.rest; diff_list = walked.settings.diff_list; diff_last = walked.settings.diff_last }

  feature : (f : Name) → Has f (texts g.book.feats.items) → IsTdlName f
  feature f h = features_named (names_by r.walked.settings).lists lists r.walked.statements (texts g.book.feats.items) walked.statements of.book.expanded.system.features f h

  -- by the types of the table and the settings that were read
  of_read : ArePaths of.book.types (paths_said of.book.types (texts g.book.feats.items) r.walked.settings)
  of_read =
      let within = completed_within r.walked of.book.types of.book.settled in
      record {
        type_names = λ t l. named _ (types_named r.walked of.book.types walked of.book.settled t l);
        string_type = named r.walked.settings.string_type walked.settings.string_type;
        feature_names = all_have IsName (texts g.book.feats.items) (λ f h. named f (feature f h));
        no_dots = all_have (λ n. Contains n 46 → ⊥) (texts g.book.feats.items) (λ f h. undotted f (feature f h));
        differ = one_number (texts g.book.feats.items) of.book.expanded.system.features.once;
        letters = All-map (λ s. IsSort s.letters) (sort_said of.book.types) r.walked.settings.sort walked.settings.sorts;
        sorts_in = sorts_in of.book.types r.walked.settings.sort within;
        cons_in = type_in of.book.types r.walked.settings.cons_type within;
        null_in = type_in of.book.types r.walked.settings.null_type within;
      }

  pub paths_of_grammar : ArePaths g.book.system.types (paths_said g.book.system.types (texts g.book.feats.items) g.settings)
  paths_of_grammar =
      subst (λ (u : TypeTable). ArePaths u (paths_said u (texts g.book.feats.items) g.settings)) (sym of.book.expanded.system.types_are)
      (subst (λ s. ArePaths of.book.types (paths_said of.book.types (texts g.book.feats.items) s)) (sym of.settings) of_read)

  pub feats_of_grammar : length (texts g.book.feats.items) ≡ length g.book.system.introducers
  feats_of_grammar = zip_even _ (texts g.book.feats.items) g.book.system.introducers of.book.expanded.system.introducers

made : (r : ReadTree) (g : GrammarTree) → Makes r (Ok g) → IsGrammarOf r g
made r _ (makes g is) = is

module _ (files : Files) (fails : Name → Bool) (top : Name) (settings : Option Name) where
  pub loaded_paths_are : (g : GrammarTree) → Loads files fails top settings (Ok g) → ArePaths g.book.system.types (paths_said g.book.system.types (texts g.book.feats.items) g.settings)
  loaded_paths_are g (loads r _ read m) = paths_of_grammar r g (read_named files fails top settings r read) (made r g m)

  pub loaded_feats_are : (g : GrammarTree) → Loads files fails top settings (Ok g) → length (texts g.book.feats.items) ≡ length g.book.system.introducers
  loaded_feats_are g (loads r _ read m) = feats_of_grammar r g (read_named files fails top settings r read) (made r g m)
