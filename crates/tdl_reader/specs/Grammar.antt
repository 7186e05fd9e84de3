-- The grammar of files (DELPH-IN TDL): which tokens spell which bodies and statements. Each list of the grammar is a family of its own.
use Rattle.std.specs.Prelude.{◌≡◌, ℕ, true, false, if◌then◌else◌, List, [], ◌∷◌, ◌++◌, Option, Some, None, codes}
use Rattle.std.specs.Str.{bytes_eq}
use Rattle.tdl_lexer.specs.declared.TokenKind.TheVariants.{Name, Text, Symbol, Coref, Directive, LetterSet, Prefix, Suffix, Group, Defined, Added, And, AvmOpens, AvmCloses, ListOpens, ListCloses, DiffOpens, DiffCloses, Comma, Dot, Dots}
use Rattle.tdl_reader.specs.declared.Status.{Status}
use Rattle.tdl_reader.specs.declared.Status.TheVariants.{TypeDef, Entry, LexRule, Rule, Root, Other}
use Rattle.tdl_reader.specs.Groups.{Says, SaysSet}
use Rattle.tdl_reader.specs.Toks.{Tok, value, IsKind}
use Rattle.tdl_reader.specs.Trees.{TermTree, of_name, of_text, of_coref, of_avm, of_list, of_diff, BodyTree, and_term, last_term, AttrTrees, no_attrs, more_attrs, ItemTrees, no_items, more_items, RestTree, closed, open_end, tail_of, SetTree, GroupTree, AffixTree, StatementTree, defines, adds, begins, ends, includes, letters}

-- what spells a feature path: names with dots between
pub data SpellsPath : List Tok → List (List ℕ) → Type 0 where
  one_name : (n : Tok) → IsKind Name n → SpellsPath (n ∷ []) ((value n) ∷ [])
  more_names : (n d : Tok) (ts : List Tok) (path : List (List ℕ)) → IsKind Name n → IsKind Dot d → SpellsPath ts path → SpellsPath (n ∷ d ∷ ts) ((value n) ∷ path)

mutual
  pub data SpellsTerm : List Tok → TermTree → Type 0 where
    name : (t : Tok) → IsKind Name t → SpellsTerm (t ∷ []) (of_name (value t) t.at)
    text : (t : Tok) → IsKind Text t → SpellsTerm (t ∷ []) (of_text (value t) t.at)
    symbol : (t : Tok) → IsKind Symbol t → SpellsTerm (t ∷ []) (of_text (value t) t.at)
    coref : (t : Tok) → IsKind Coref t → SpellsTerm (t ∷ []) (of_coref (value t) t.at)
    empty_avm : (o c : Tok) → IsKind AvmOpens o → IsKind AvmCloses c → SpellsTerm (o ∷ c ∷ []) (of_avm no_attrs o.at)
    avm : (o c : Tok) (ts : List Tok) (attrs : AttrTrees) → IsKind AvmOpens o → IsKind AvmCloses c → SpellsAttrs ts attrs → SpellsTerm (o ∷ (ts ++ c ∷ [])) (of_avm attrs o.at)
    empty_list : (o c : Tok) → IsKind ListOpens o → IsKind ListCloses c → SpellsTerm (o ∷ c ∷ []) (of_list no_items closed o.at)
    open_list : (o d c : Tok) → IsKind ListOpens o → IsKind Dots d → IsKind ListCloses c → SpellsTerm (o ∷ d ∷ c ∷ []) (of_list no_items open_end o.at)
    list : (o c : Tok) (ts es : List Tok) (items : ItemTrees) (end : RestTree) → IsKind ListOpens o → IsKind ListCloses c → SpellsItems ts items → SpellsEnd es end → SpellsTerm (o ∷ (ts ++ (es ++ c ∷ []))) (of_list items end o.at)
    empty_diff : (o c : Tok) → IsKind DiffOpens o → IsKind DiffCloses c → SpellsTerm (o ∷ c ∷ []) (of_diff no_items o.at)
    diff : (o c : Tok) (ts : List Tok) (items : ItemTrees) → IsKind DiffOpens o → IsKind DiffCloses c → SpellsItems ts items → SpellsTerm (o ∷ (ts ++ c ∷ [])) (of_diff items o.at)

  -- body = term { "&" term }
  pub data SpellsBody : List Tok → BodyTree → Type 0 where
    one_term : (ts : List Tok) (x : TermTree) → SpellsTerm ts x → SpellsBody ts (last_term x)
    more_terms : (ts us : List Tok) (a : Tok) (x : TermTree) (b : BodyTree) → SpellsTerm ts x → IsKind And a → SpellsBody us b → SpellsBody (ts ++ a ∷ us) (and_term x b)

  pub data SpellsAttrs : List Tok → AttrTrees → Type 0 where
    one_attr : (ps bs : List Tok) (path : List (List ℕ)) (b : BodyTree) → SpellsPath ps path → SpellsBody bs b → SpellsAttrs (ps ++ bs) (more_attrs path b no_attrs)
    and_attr : (ps bs ts : List Tok) (c : Tok) (path : List (List ℕ)) (b : BodyTree) (attrs : AttrTrees) → SpellsPath ps path → SpellsBody bs b → IsKind Comma c → SpellsAttrs ts attrs → SpellsAttrs (ps ++ (bs ++ c ∷ ts)) (more_attrs path b attrs)

  pub data SpellsItems : List Tok → ItemTrees → Type 0 where
    one_item : (bs : List Tok) (b : BodyTree) → SpellsBody bs b → SpellsItems bs (more_items b no_items)
    and_item : (bs ts : List Tok) (c : Tok) (b : BodyTree) (items : ItemTrees) → SpellsBody bs b → IsKind Comma c → SpellsItems ts items → SpellsItems (bs ++ c ∷ ts) (more_items b items)

  pub data SpellsEnd : List Tok → RestTree → Type 0 where
    nothing_more : SpellsEnd [] closed
    and_open : (c d : Tok) → IsKind Comma c → IsKind Dots d → SpellsEnd (c ∷ d ∷ []) open_end
    and_tail : (d : Tok) (bs : List Tok) (b : BodyTree) → IsKind Dot d → SpellsBody bs b → SpellsEnd (d ∷ bs) (tail_of b)

-- the groups of a spelling rule, by the letter sets before it
pub data SpellsGroups (sets : List SetTree) : List Tok → List GroupTree → Type 0 where
  one_group : (g : Tok) (x : GroupTree) → IsKind Group g → Says sets g.spelled x → SpellsGroups sets (g ∷ []) (x ∷ [])
  more_groups : (g : Tok) (x : GroupTree) (ts : List Tok) (gs : List GroupTree) → IsKind Group g → Says sets g.spelled x → SpellsGroups sets ts gs → SpellsGroups sets (g ∷ ts) (x ∷ gs)

-- what stands before a definition's body
pub data SpellsAffix (sets : List SetTree) : List Tok → Option AffixTree → Type 0 where
  no_affix : SpellsAffix sets [] None
  prefix : (p : Tok) (ts : List Tok) (gs : List GroupTree) → IsKind Prefix p → SpellsGroups sets ts gs → SpellsAffix sets (p ∷ ts) (Some (record { suffix = false; groups = gs }))
  suffix : (p : Tok) (ts : List Tok) (gs : List GroupTree) → IsKind Suffix p → SpellsGroups sets ts gs → SpellsAffix sets (p ∷ ts) (Some (record { suffix = true; groups = gs }))

-- a directive with this name
abbrev pub IsWord : List ℕ → Tok → Type 0
IsWord word t = IsKind Directive t × (value t ≡ word)

-- what the instances of an environment are, by the name of its status
abbrev pub status_of : List ℕ → Status
status_of word =
    if bytes_eq word (codes "lex-entry") then Entry
    else (if bytes_eq word (codes "lex-rule") then LexRule
    else (if bytes_eq word (codes "rule") then Rule
    else (if bytes_eq word (codes "root") then Root else Other)))

-- a statement, by the letter sets before it, and those after it
pub data SpellsStatement (sets : List SetTree) : List Tok → StatementTree → List SetTree → Type 0 where
  define : (n d e : Tok) (gs bs : List Tok) (affix : Option AffixTree) (b : BodyTree) → IsKind Name n → IsKind Defined d → SpellsAffix sets gs affix → SpellsBody bs b → IsKind Dot e → SpellsStatement sets (n ∷ d ∷ (gs ++ (bs ++ e ∷ []))) (defines (value n) n.at affix b) sets
  add : (n d e : Tok) (bs : List Tok) (b : BodyTree) → IsKind Name n → IsKind Added d → SpellsBody bs b → IsKind Dot e → SpellsStatement sets (n ∷ d ∷ (bs ++ e ∷ [])) (adds (value n) n.at b) sets
  begin_types : (b t e : Tok) → IsWord (codes "begin") b → IsWord (codes "type") t → IsKind Dot e → SpellsStatement sets (b ∷ t ∷ e ∷ []) (begins TypeDef b.at) sets
  begin_instances : (b i s n e : Tok) → IsWord (codes "begin") b → IsWord (codes "instance") i → IsWord (codes "status") s → IsKind Name n → IsKind Dot e → SpellsStatement sets (b ∷ i ∷ s ∷ n ∷ e ∷ []) (begins (status_of (value n)) b.at) sets
  end_types : (b t e : Tok) → IsWord (codes "end") b → IsWord (codes "type") t → IsKind Dot e → SpellsStatement sets (b ∷ t ∷ e ∷ []) (ends false b.at) sets
  end_instances : (b i e : Tok) → IsWord (codes "end") b → IsWord (codes "instance") i → IsKind Dot e → SpellsStatement sets (b ∷ i ∷ e ∷ []) (ends true b.at) sets
  include_file : (i t e : Tok) → IsWord (codes "include") i → IsKind Text t → IsKind Dot e → SpellsStatement sets (i ∷ t ∷ e ∷ []) (includes (value t) i.at) sets
  letter_set : (p g : Tok) (x : SetTree) → IsKind LetterSet p → IsKind Group g → SaysSet g.spelled x → SpellsStatement sets (p ∷ g ∷ []) (letters x p.at) (sets ++ x ∷ [])
  dotted_letter_set : (p g e : Tok) (x : SetTree) → IsKind LetterSet p → IsKind Group g → SaysSet g.spelled x → IsKind Dot e → SpellsStatement sets (p ∷ g ∷ e ∷ []) (letters x p.at) (sets ++ x ∷ [])

-- file = { statement }
pub data SpellsFile : List SetTree → List Tok → List StatementTree → Type 0 where
  no_statements : (sets : List SetTree) → SpellsFile sets [] []
  more_statements : (sets after : List SetTree) (ts us : List Tok) (s : StatementTree) (ss : List StatementTree) → SpellsStatement sets ts s after → SpellsFile after us ss → SpellsFile sets (ts ++ us) (s ∷ ss)
