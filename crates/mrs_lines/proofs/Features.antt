-- The features that statements use.
use Rattle.std.proofs.Common.{ℕ, Bool, true, false, cond, ◌&&◌, List, [], ◌∷◌, ◌++◌, map}
use Rattle.std.specs.Prelude.{filter}
use Rattle.std.specs.List.{flat_map}
use Rattle.fs_model.specs.Claims.{Has, here, there}
use Rattle.type_hierarchy.specs.Decls.{Name}
use Rattle.tdl_reader.specs.Trees.{TermTree, of_name, of_text, of_coref, of_avm, of_list, of_diff, BodyTree, no_terms, and_term, AttrTrees, no_attrs, more_attrs, ItemTrees, no_items, more_items, RestTree, closed, open_end, tail_of, StatementTree, defines, adds, begins, ends, includes, letters}
use Rattle.grammar_files.specs.Placings.{PlacedTree}
use Rattle.grammar_files.specs.Statements.{body_written, speaks_of_type, defines_instance}
use Rattle.body_facts.specs.Writing.{ListNames}
use Rattle.body_facts.specs.BracketUses.{Used, used, path_uses, is_empty_path, is_empty_list, cell_uses, term_uses, body_uses, attrs_use, items_use, end_uses}
use Rattle.constraint_expand.specs.Features.{AreFeatures, uses_in}
use Rattle.mrs_lines.proofs.Names.{IsTdlName}
use Rattle.mrs_lines.proofs.Statements.{AllNames, TermNamed, BodyNamed, AttrsNamed, ItemsNamed, RestNamed, StatementNamed}
use Rattle.mrs_lines.proofs.Walked.{AllPlaced}

-- the features of lists
pub record ListsNamed (n : ListNames) : Type 0 where
  pub first : IsTdlName n.first
  pub rest : IsTdlName n.rest
  pub diff_list : IsTdlName n.diff_list
  pub diff_last : IsTdlName n.diff_last

abbrev UsesNamed : List Used → Type 0
UsesNamed [] = Unit {0}
UsesNamed (u ∷ us) = IsTdlName u.feature × UsesNamed us

both : (us vs : List Used) → UsesNamed us → UsesNamed vs → UsesNamed (us ++ vs)
both [] vs h k = k
both (u ∷ us) vs h k = (h.0, both us vs h.1 k)

inner_uses : (at : ℕ) (path : List Name) → AllNames path → UsesNamed (map (used at false) path)
inner_uses at [] h = tt
inner_uses at (f ∷ path) h = (h.0, inner_uses at path h.1)

path_named : (at : ℕ) (own : Bool) (path : List Name) → AllNames path → UsesNamed (path_uses at own path)
path_named at own [] h = tt
path_named at own (f ∷ path) h = (h.0, inner_uses at path h.1)

module _ (n : ListNames) (lists : ListsNamed n) where
  cells : (at : ℕ) (own : Bool) (items : ItemTrees) → UsesNamed (cell_uses n at own items)
  cells at own no_items = tt
  cells at own (more_items body more) = (lists.first, (lists.rest, tt))

  mutual
    term : (own : Bool) (x : TermTree) → TermNamed x → UsesNamed (term_uses n own x)
    term own (of_name name at) h = tt
    term own (of_text text at) h = tt
    term own (of_coref name at) h = tt
    term own (of_avm all at) h = attrs own at all h
    term own (of_list is rest at) h =
        both (cell_uses n at own is ++ items_use n is) (end_uses n (own && is_empty_list is) rest)
        (both (cell_uses n at own is) (items_use n is) (cells at own is) (items is h.0)) (end (own && is_empty_list is) rest h.1)
    term own (of_diff is at) h =
        (lists.diff_list, (lists.diff_last, both (cell_uses n at false is) (items_use n is) (cells at false is) (items is h)))

    body : (own : Bool) (b : BodyTree) → BodyNamed b → UsesNamed (body_uses n own b)
    body own no_terms h = tt
    body own (and_term t more) h = both (term_uses n own t) (body_uses n own more) (term own t h.0) (body own more h.1)

    attrs : (own : Bool) (at : ℕ) (all : AttrTrees) → AttrsNamed all → UsesNamed (attrs_use n own at all)
    attrs own at no_attrs h = tt
    attrs own at (more_attrs path b more) h =
        both (path_uses at own path ++ body_uses n (own && is_empty_path path) b) (attrs_use n own at more)
        (both (path_uses at own path) (body_uses n (own && is_empty_path path) b) (path_named at own path h.0) (body (own && is_empty_path path) b h.1.0)) (attrs own at more h.1.1)

    items : (is : ItemTrees) → ItemsNamed is → UsesNamed (items_use n is)
    items no_items h = tt
    items (more_items b more) h = both (body_uses n false b) (items_use n more) (body false b h.0) (items more h.1)

    end : (own : Bool) (rest : RestTree) → RestNamed rest → UsesNamed (end_uses n own rest)
    end own closed h = tt
    end own open_end h = tt
    end own (tail_of b) h = body own b h

  written : (s : StatementTree) → StatementNamed s → BodyNamed (body_written s)
  written (defines name at affix b) h = h.1
  written (adds name at b) h = h.1
  written (begins status at) h = tt
  written (ends instance at) h = tt
  written (includes file at) h = tt
  written (letters set at) h = tt

  picked : (test : PlacedTree → Bool) (ps : List PlacedTree) → AllPlaced ps → UsesNamed (flat_map (uses_in n) (filter test ps))
  picked test [] h = tt
  picked test (p ∷ ps) h = go (test p) (picked test ps h.1)
    where
      go : (b : Bool) → UsesNamed (flat_map (uses_in n) (filter test ps)) → UsesNamed (flat_map (uses_in n) (cond b (p ∷ filter test ps) (filter test ps)))
      go true more = both (uses_in n p) (flat_map (uses_in n) (filter test ps)) (body true (body_written p.statement) (written p.statement h.0)) more
      go false more = more

  feature_of : (us : List Used) (f : Name) → UsesNamed us → Has f (map (λ u. u.feature) us) → IsTdlName f
  feature_of [] f h k = elim k [ ]
  feature_of (u ∷ us) _ h here = h.0
  feature_of (u ∷ us) f h (there k) = feature_of us f h.1 k

  -- each feature has a name
  pub features_named : (ps : List PlacedTree) (feats : List Name) → AllPlaced ps → AreFeatures n ps feats → (f : Name) → Has f feats → IsTdlName f
  features_named ps feats h are f k =
      feature_of (flat_map (uses_in n) (filter speaks_of_type ps) ++ flat_map (uses_in n) (filter defines_instance ps)) f
      (both (flat_map (uses_in n) (filter speaks_of_type ps)) (flat_map (uses_in n) (filter defines_instance ps)) (picked speaks_of_type ps h) (picked defines_instance ps h))
      (are.used f k)
