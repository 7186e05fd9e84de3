-- What the tokens of a body are, at each point of the machine.
use Rattle.std.proofs.Common.{◌≡◌, ℕ, List, [], ◌∷◌, ◌++◌, sym, ◌∙◌, refl, ap, subst, append_assoc}
use Rattle.std.proofs.lemmas.List.{append-nil}
use Rattle.std.specs.Prelude.{Option, Some, None}
use Rattle.tdl_lexer.specs.declared.TokenKind.{TokenKind}
use Rattle.tdl_lexer.specs.declared.TokenKind.TheVariants.{Name, Text, Symbol, Coref, And, AvmOpens, AvmCloses, ListOpens, ListCloses, DiffOpens, DiffCloses, Comma, Dot, Dots}
use Rattle.tdl_reader.specs.Grammar.{SpellsPath, one_name, more_names, SpellsTerm, SpellsBody, SpellsAttrs, SpellsItems, SpellsEnd, name, text, symbol, coref, empty_avm, avm, empty_list, open_list, list, empty_diff, diff, one_term, more_terms, one_attr, and_attr, one_item, and_item, nothing_more, and_open, and_tail}
use Rattle.tdl_reader.specs.Machine.{FrameTree, in_avm, in_list, in_tail, in_diff, PointTree, want_term, got_term, avm_begins, want_attr, got_feature, want_feature, list_begins, list_goes_on, want_close, diff_begins, diff_goes_on, BodyState, term_step, after_body, point_step}
use Rattle.tdl_reader.specs.Toks.{Tok, value, IsKind}
use Rattle.tdl_reader.specs.Trees.{TermTree, of_name, of_text, of_coref, of_avm, of_list, of_diff, BodyTree, last_term, and_term, AttrTrees, no_attrs, more_attrs, ItemTrees, no_items, more_items, RestTree, closed, open_end, tail_of, AttrTree, body_of, attrs_of, items_of}
use Rattle.tdl_reader.proofs.Reached.{after_terms, after_terms-last, after_terms-more, after_attrs, after_attrs-last, after_attrs-more, after_items, after_items-last, after_items-more}

term_moved : (ts us : List Tok) (x y : TermTree) → SpellsTerm ts x → ts ≡ us → x ≡ y → SpellsTerm us y
term_moved ts us x y h e f = subst (λ l. SpellsTerm l y) e (subst (λ z. SpellsTerm ts z) f h)

body_moved : (ts us : List Tok) (b c : BodyTree) → SpellsBody ts b → ts ≡ us → b ≡ c → SpellsBody us c
body_moved ts us b c h e f = subst (λ l. SpellsBody l c) e (subst (λ z. SpellsBody ts z) f h)

abbrev pub IsNothing : List Tok → Type 0
IsNothing ts = ts ≡ []

-- terms, each with `&` after it: before a body they spell a longer one
pub record Terms (xs : List TermTree) (ts : List Tok) : Type 0 where
  pub on : (us : List Tok) (b : BodyTree) → SpellsBody us b → SpellsBody (ts ++ us) (after_terms xs b)

pub no_terms_yet : Terms [] []
no_terms_yet = record { on = λ us b h. h }

one_term_more : (xs : List TermTree) (x : TermTree) (ts vs : List Tok) (a : Tok) → Terms xs ts → SpellsTerm vs x → IsKind And a → Terms (xs ++ x ∷ []) (ts ++ (vs ++ a ∷ []))
one_term_more xs x ts vs a f h k = record { on = λ us b j. body_moved _ _ _ _ (f.on (vs ++ a ∷ us) (and_term x b) (more_terms vs us a x b h k j)) (simp append_assoc) (sym (after_terms-more xs x b)) }

whole_body : (xs : List TermTree) (x : TermTree) (ts vs : List Tok) → Terms xs ts → SpellsTerm vs x → SpellsBody (ts ++ vs) (body_of xs x)
whole_body xs x ts vs f h = body_moved _ _ _ _ (f.on vs (last_term x) (one_term vs x h)) refl (after_terms-last xs x)

-- features, each with a dot after it
pub record Dotted (path : List (List ℕ)) (ts : List Tok) : Type 0 where
  pub on : (us : List Tok) (rest : List (List ℕ)) → SpellsPath us rest → SpellsPath (ts ++ us) (path ++ rest)

path_on : (ts : List Tok) (path : List (List ℕ)) → SpellsPath ts path → (d : Tok) → IsKind Dot d → (us : List Tok) (rest : List (List ℕ)) → SpellsPath us rest → SpellsPath (ts ++ d ∷ us) (path ++ rest)
path_on _ _ (one_name n k) d e us rest h = more_names n d us rest k e h
path_on _ _ (more_names n c ts path k l j) d e us rest h = more_names n c (ts ++ d ∷ us) (path ++ rest) k l (path_on ts path j d e us rest h)

dotted : (ts : List Tok) (path : List (List ℕ)) → SpellsPath ts path → (d : Tok) → IsKind Dot d → Dotted path (ts ++ d ∷ [])
dotted ts path h d e = record { on = λ us rest j. subst (λ l. SpellsPath l (path ++ rest)) (simp append_assoc) (path_on ts path h d e us rest j) }

-- an open `[` and its attributes, each with a comma after it
pub record Attrs (at : ℕ) (attrs : List AttrTree) (ts : List Tok) : Type 0 where
  pub on : (us : List Tok) (rest : AttrTrees) (c : Tok) → SpellsAttrs us rest → IsKind AvmCloses c → SpellsTerm (ts ++ (us ++ c ∷ [])) (of_avm (after_attrs attrs rest) at)

-- an open `<` and its items, each with a comma after it
pub record Items (at : ℕ) (items : List BodyTree) (ts : List Tok) : Type 0 where
  pub on : (us es : List Tok) (rest : ItemTrees) (end : RestTree) (c : Tok) → SpellsItems us rest → SpellsEnd es end → IsKind ListCloses c → SpellsTerm (ts ++ (us ++ (es ++ c ∷ []))) (of_list (after_items items rest) end at)

-- an open `<!` and its items, each with a comma after it
pub record Diffs (at : ℕ) (items : List BodyTree) (ts : List Tok) : Type 0 where
  pub on : (us : List Tok) (rest : ItemTrees) (c : Tok) → SpellsItems us rest → IsKind DiffCloses c → SpellsTerm (ts ++ (us ++ c ∷ [])) (of_diff (after_items items rest) at)

-- a list up to the dot before its rest
pub record Tail (at : ℕ) (items : List BodyTree) (ts : List Tok) : Type 0 where
  pub on : (us : List Tok) (b : BodyTree) (c : Tok) → SpellsBody us b → IsKind ListCloses c → SpellsTerm (ts ++ (us ++ c ∷ [])) (of_list (items_of items) (tail_of b) at)

-- a list up to its `...`
pub record EndOpen (at : ℕ) (items : List BodyTree) (ts : List Tok) : Type 0 where
  pub on : (c : Tok) → IsKind ListCloses c → SpellsTerm (ts ++ c ∷ []) (of_list (items_of items) open_end at)

-- a list up to a comma, which an item or `...` follows
pub record NextItem (at : ℕ) (items : List BodyTree) (ts : List Tok) : Type 0 where
  pub item : Items at items ts
  pub dots : (d : Tok) → IsKind Dots d → EndOpen at items (ts ++ d ∷ [])

-- the tokens that open a bracket
pub data Opener : TokenKind → ℕ → List Tok → Type 0 where
  opener : (k : TokenKind) (o : Tok) → IsKind k o → Opener k o.at (o ∷ [])

-- attributes and the path of the next
pub data Feature : ℕ → List AttrTree → List (List ℕ) → List Tok → Type 0 where
  feature : (at : ℕ) (attrs : List AttrTree) (path : List (List ℕ)) (front back : List Tok) → Attrs at attrs front → SpellsPath back path → Feature at attrs path (front ++ back)

-- attributes and the path of the next, up to a dot
pub data NextFeature : ℕ → List AttrTree → List (List ℕ) → List Tok → Type 0 where
  next_feature : (at : ℕ) (attrs : List AttrTree) (path : List (List ℕ)) (front back : List Tok) → Attrs at attrs front → Dotted path back → NextFeature at attrs path (front ++ back)

abbrev pub out_of : FrameTree → List TermTree
out_of (in_avm at attrs path out) = out
out_of (in_list at items out) = out
out_of (in_tail at items out) = out
out_of (in_diff at items out) = out

-- the tokens of an open bracket up to the body within it
abbrev pub Within : FrameTree → List Tok → Type 0
Within (in_avm at attrs path out) ts = Feature at attrs path ts
Within (in_list at items out) ts = Items at items ts
Within (in_tail at items out) ts = Tail at items ts
Within (in_diff at items out) ts = Diffs at items ts

-- the tokens of the open brackets, up to the body within the innermost
pub data Opened : List FrameTree → List Tok → Type 0 where
  none_open : Opened [] []
  one_open : (stack : List FrameTree) (f : FrameTree) (outer inner piece : List Tok) → Opened stack outer → Terms (out_of f) inner → Within f piece → Opened (f ∷ stack) (outer ++ (inner ++ piece))

-- the open brackets, the terms so far of the body within them, and what has begun of the next
pub record Standing (stack : List FrameTree) (out : List TermTree) (P : List Tok → Type 0) (ts : List Tok) : Type 0 where
  pub outer : List Tok
  pub inner : List Tok
  pub piece : List Tok
  pub split : ts ≡ outer ++ (inner ++ piece)
  pub opened : Opened stack outer
  pub terms : Terms out inner
  pub holds : P piece

-- what the tokens are at a point
abbrev pub Holds : List FrameTree → PointTree → List Tok → Type 0
Holds stack (want_term xs) ts = Standing stack xs IsNothing ts
Holds stack (got_term xs x) ts = Standing stack xs (λ p. SpellsTerm p x) ts
Holds stack (avm_begins at out) ts = Standing stack out (Opener AvmOpens at) ts
Holds stack (want_attr at attrs out) ts = Standing stack out (Attrs at attrs) ts
Holds stack (got_feature at attrs path out) ts = Standing stack out (Feature at attrs path) ts
Holds stack (want_feature at attrs path out) ts = Standing stack out (NextFeature at attrs path) ts
Holds stack (list_begins at out) ts = Standing stack out (Opener ListOpens at) ts
Holds stack (list_goes_on at items out) ts = Standing stack out (NextItem at items) ts
Holds stack (want_close at items out) ts = Standing stack out (EndOpen at items) ts
Holds stack (diff_begins at out) ts = Standing stack out (Opener DiffOpens at) ts
Holds stack (diff_goes_on at items out) ts = Standing stack out (Diffs at items) ts

abbrev pub After : Option BodyState → List Tok → Type 0
After None ts = Unit {0}
After (Some s) ts = Holds s.stack s.point ts

-- the piece grows
grown : (stack : List FrameTree) (out : List TermTree) (P Q : List Tok → Type 0) (ts ws : List Tok) → Standing stack out P ts → ((p : List Tok) → P p → Q (p ++ ws)) → Standing stack out Q (ts ++ ws)
grown stack out P Q ts ws a f = record {
  outer = a.outer;
  inner = a.inner;
  piece = a.piece ++ ws;
  split = ap (λ l. l ++ ws) a.split ∙ (append_assoc a.outer (a.inner ++ a.piece) ws ∙ ap (λ l. a.outer ++ l) (append_assoc a.inner a.piece ws));
  opened = a.opened;
  terms = a.terms;
  holds = f a.piece a.holds;
}

-- what has begun is known otherwise
known : (stack : List FrameTree) (out : List TermTree) (P Q : List Tok → Type 0) (ts : List Tok) → Standing stack out P ts → ((p : List Tok) → P p → Q p) → Standing stack out Q ts
known stack out P Q ts a f = record { outer = a.outer; inner = a.inner; piece = a.piece; split = a.split; opened = a.opened; terms = a.terms; holds = f a.piece a.holds }

-- a body begins within the innermost bracket
entered : (stack : List FrameTree) (f : FrameTree) (ts : List Tok) → Standing stack (out_of f) (Within f) ts → Standing (f ∷ stack) [] IsNothing ts
entered stack f ts a = record {
  outer = a.outer ++ (a.inner ++ a.piece);
  inner = [];
  piece = [];
  split = a.split ∙ sym (append-nil (a.outer ++ (a.inner ++ a.piece)));
  opened = one_open stack f a.outer a.inner a.piece a.opened a.terms a.holds;
  terms = no_terms_yet;
  holds = refl;
}

-- the innermost bracket is looked at again
left : (stack : List FrameTree) (f : FrameTree) (ts : List Tok) → Opened (f ∷ stack) ts → Standing stack (out_of f) (Within f) ts
left _ _ _ (one_open stack f outer inner piece a b h) = record { outer = outer; inner = inner; piece = piece; split = refl; opened = a; terms = b; holds = h }

-- a term's first token, where a term may begin
pub one_token : (P : List Tok → Type 0) (t : Tok) → P (t ∷ []) → (p : List Tok) → IsNothing p → P (p ++ t ∷ [])
one_token P t h p e = subst (λ l. P (l ++ t ∷ [])) (sym e) h

pub term_holds : (stack : List FrameTree) (xs : List TermTree) (k : TokenKind) (t : Tok) → IsKind k t → (ts : List Tok) → Standing stack xs IsNothing ts → After (term_step stack xs k t) (ts ++ t ∷ [])
term_holds stack xs Name t k ts a = grown stack xs IsNothing (λ p. SpellsTerm p (of_name (value t) t.at)) ts (t ∷ []) a (one_token (λ p. SpellsTerm p (of_name (value t) t.at)) t (name t k))
term_holds stack xs Text t k ts a = grown stack xs IsNothing (λ p. SpellsTerm p (of_text (value t) t.at)) ts (t ∷ []) a (one_token (λ p. SpellsTerm p (of_text (value t) t.at)) t (text t k))
term_holds stack xs Symbol t k ts a = grown stack xs IsNothing (λ p. SpellsTerm p (of_text (value t) t.at)) ts (t ∷ []) a (one_token (λ p. SpellsTerm p (of_text (value t) t.at)) t (symbol t k))
term_holds stack xs Coref t k ts a = grown stack xs IsNothing (λ p. SpellsTerm p (of_coref (value t) t.at)) ts (t ∷ []) a (one_token (λ p. SpellsTerm p (of_coref (value t) t.at)) t (coref t k))
term_holds stack xs AvmOpens t k ts a = grown stack xs IsNothing (Opener AvmOpens t.at) ts (t ∷ []) a (one_token (Opener AvmOpens t.at) t (opener AvmOpens t k))
term_holds stack xs ListOpens t k ts a = grown stack xs IsNothing (Opener ListOpens t.at) ts (t ∷ []) a (one_token (Opener ListOpens t.at) t (opener ListOpens t k))
term_holds stack xs DiffOpens t k ts a = grown stack xs IsNothing (Opener DiffOpens t.at) ts (t ∷ []) a (one_token (Opener DiffOpens t.at) t (opener DiffOpens t k))
term_holds stack xs _ t k ts a = tt

-- brackets that were opened and closed, and what may stand first within them
avm_empty : (at : ℕ) (p : List Tok) → Opener AvmOpens at p → (c : Tok) → IsKind AvmCloses c → SpellsTerm (p ++ c ∷ []) (of_avm no_attrs at)
avm_empty _ _ (opener _ o k) c l = empty_avm o c k l

avm_first : (at : ℕ) (p : List Tok) → Opener AvmOpens at p → Attrs at [] p
avm_first _ _ (opener _ o k) = record { on = λ us rest c h l. avm o c us rest k l h }

list_empty : (at : ℕ) (p : List Tok) → Opener ListOpens at p → (c : Tok) → IsKind ListCloses c → SpellsTerm (p ++ c ∷ []) (of_list no_items closed at)
list_empty _ _ (opener _ o k) c l = empty_list o c k l

list_dots : (at : ℕ) (p : List Tok) → Opener ListOpens at p → (d : Tok) → IsKind Dots d → EndOpen at [] (p ++ d ∷ [])
list_dots _ _ (opener _ o k) d m = record { on = λ c l. open_list o d c k m l }

list_first : (at : ℕ) (p : List Tok) → Opener ListOpens at p → Items at [] p
list_first _ _ (opener _ o k) = record { on = λ us es rest end c h e l. list o c us es rest end k l h e }

diff_empty : (at : ℕ) (p : List Tok) → Opener DiffOpens at p → (c : Tok) → IsKind DiffCloses c → SpellsTerm (p ++ c ∷ []) (of_diff no_items at)
diff_empty _ _ (opener _ o k) c l = empty_diff o c k l

diff_first : (at : ℕ) (p : List Tok) → Opener DiffOpens at p → Diffs at [] p
diff_first _ _ (opener _ o k) = record { on = λ us rest c h l. diff o c us rest k l h }

-- the first feature of a path, and a further one
path_begun : (at : ℕ) (attrs : List AttrTree) (p : List Tok) → Attrs at attrs p → (n : Tok) → IsKind Name n → Feature at attrs (value n ∷ []) (p ++ n ∷ [])
path_begun at attrs p h n k = feature at attrs (value n ∷ []) p (n ∷ []) h (one_name n k)

feature_more : (at : ℕ) (attrs : List AttrTree) (path : List (List ℕ)) (p : List Tok) → NextFeature at attrs path p → (n : Tok) → IsKind Name n → Feature at attrs (path ++ value n ∷ []) (p ++ n ∷ [])
feature_more _ _ _ _ (next_feature at attrs path front back h d) n k = subst (Feature at attrs (path ++ value n ∷ [])) (sym (append_assoc front back (n ∷ []))) (feature at attrs (path ++ value n ∷ []) front (back ++ n ∷ []) h (d.on (n ∷ []) (value n ∷ []) (one_name n k)))

path_dotted : (at : ℕ) (attrs : List AttrTree) (path : List (List ℕ)) (p : List Tok) → Feature at attrs path p → (d : Tok) → IsKind Dot d → NextFeature at attrs path (p ++ d ∷ [])
path_dotted _ _ _ _ (feature at attrs path front back h j) d k = subst (NextFeature at attrs path) (sym (append_assoc front back (d ∷ []))) (next_feature at attrs path front (back ++ d ∷ []) h (dotted back path j d k))

-- a body ws stands within a bracket, and t after it
attr_more : (at : ℕ) (attrs : List AttrTree) (path : List (List ℕ)) (p : List Tok) → Feature at attrs path p → (ws : List Tok) (b : BodyTree) → SpellsBody ws b → (t : Tok) → IsKind Comma t → Attrs at (attrs ++ record { path = path; body = b } ∷ []) (p ++ (ws ++ t ∷ []))
attr_more _ _ _ _ (feature at attrs path front back h j) ws b w t k = record {
  on = λ us rest c g l.
      term_moved _ _ _ _ (h.on (back ++ (ws ++ t ∷ us)) (more_attrs path b rest) c (and_attr back ws us t path b rest j w k g) l) (simp append_assoc) (ap (λ x. of_avm x at) (sym (after_attrs-more attrs path b rest)));
}

avm_closed : (at : ℕ) (attrs : List AttrTree) (path : List (List ℕ)) (p : List Tok) → Feature at attrs path p → (ws : List Tok) (b : BodyTree) → SpellsBody ws b → (t : Tok) → IsKind AvmCloses t → SpellsTerm (p ++ (ws ++ t ∷ [])) (of_avm (attrs_of (attrs ++ record { path = path; body = b } ∷ [])) at)
avm_closed _ _ _ _ (feature at attrs path front back h j) ws b w t k =
    term_moved _ _ _ _ (h.on (back ++ ws) (more_attrs path b no_attrs) t (one_attr back ws path b j w) k) (simp append_assoc) (ap (λ x. of_avm x at) (sym (after_attrs-last attrs path b)))

item_more : (at : ℕ) (items : List BodyTree) (p : List Tok) → Items at items p → (ws : List Tok) (b : BodyTree) → SpellsBody ws b → (t : Tok) → IsKind Comma t → NextItem at (items ++ b ∷ []) (p ++ (ws ++ t ∷ []))
item_more at items p h ws b w t k = record {
  item = record { on = λ us es rest end c g e l. term_moved _ _ _ _ (h.on (ws ++ t ∷ us) es (more_items b rest) end c (and_item ws us t b rest w k g) e l) (simp append_assoc) (ap (λ x. of_list x end at) (sym (after_items-more items b rest))) };
  dots = λ d m. record { on = λ c l. term_moved _ _ _ _ (h.on ws (t ∷ d ∷ []) (more_items b no_items) open_end c (one_item ws b w) (and_open t d k m) l) (simp append_assoc) (ap (λ x. of_list x open_end at) (sym (after_items-last items b))) };
}

tail_begun : (at : ℕ) (items : List BodyTree) (p : List Tok) → Items at items p → (ws : List Tok) (b : BodyTree) → SpellsBody ws b → (t : Tok) → IsKind Dot t → Tail at (items ++ b ∷ []) (p ++ (ws ++ t ∷ []))
tail_begun at items p h ws b w t k = record {
  on = λ us d c g l.
      term_moved _ _ _ _ (h.on ws (t ∷ us) (more_items b no_items) (tail_of d) c (one_item ws b w) (and_tail t us d k g) l) (simp append_assoc) (ap (λ x. of_list x (tail_of d) at) (sym (after_items-last items b)));
}

list_closed : (at : ℕ) (items : List BodyTree) (p : List Tok) → Items at items p → (ws : List Tok) (b : BodyTree) → SpellsBody ws b → (t : Tok) → IsKind ListCloses t → SpellsTerm (p ++ (ws ++ t ∷ [])) (of_list (items_of (items ++ b ∷ [])) closed at)
list_closed at items p h ws b w t k = term_moved _ _ _ _ (h.on ws [] (more_items b no_items) closed t (one_item ws b w) nothing_more k) refl (ap (λ x. of_list x closed at) (sym (after_items-last items b)))

diff_more : (at : ℕ) (items : List BodyTree) (p : List Tok) → Diffs at items p → (ws : List Tok) (b : BodyTree) → SpellsBody ws b → (t : Tok) → IsKind Comma t → Diffs at (items ++ b ∷ []) (p ++ (ws ++ t ∷ []))
diff_more at items p h ws b w t k = record {
  on = λ us rest c g l.
      term_moved _ _ _ _ (h.on (ws ++ t ∷ us) (more_items b rest) c (and_item ws us t b rest w k g) l) (simp append_assoc) (ap (λ x. of_diff x at) (sym (after_items-more items b rest)));
}

diff_closed : (at : ℕ) (items : List BodyTree) (p : List Tok) → Diffs at items p → (ws : List Tok) (b : BodyTree) → SpellsBody ws b → (t : Tok) → IsKind DiffCloses t → SpellsTerm (p ++ (ws ++ t ∷ [])) (of_diff (items_of (items ++ b ∷ [])) at)
diff_closed at items p h ws b w t k = term_moved _ _ _ _ (h.on ws (more_items b no_items) t (one_item ws b w) k) refl (ap (λ x. of_diff x at) (sym (after_items-last items b)))

-- after a body within the innermost bracket
after_holds : (stack : List FrameTree) (b : BodyTree) (k : TokenKind) (t : Tok) → IsKind k t → (outer ws : List Tok) → Opened stack outer → SpellsBody ws b → After (after_body stack b k) (outer ++ (ws ++ t ∷ []))
after_holds [] b k t l outer ws o w = tt
after_holds (in_avm at attrs path out ∷ stack) b Comma t l outer ws o w = grown stack out (Feature at attrs path) (Attrs at (attrs ++ record { path = path; body = b } ∷ [])) outer (ws ++ t ∷ []) (left stack (in_avm at attrs path out) outer o) (λ p h. attr_more at attrs path p h ws b w t l)
after_holds (in_avm at attrs path out ∷ stack) b AvmCloses t l outer ws o w = grown stack out (Feature at attrs path) (λ p. SpellsTerm p (of_avm (attrs_of (attrs ++ record { path = path; body = b } ∷ [])) at)) outer (ws ++ t ∷ []) (left stack (in_avm at attrs path out) outer o) (λ p h. avm_closed at attrs path p h ws b w t l)
after_holds (in_avm at attrs path out ∷ stack) b _ t l outer ws o w = tt
after_holds (in_list at items out ∷ stack) b Comma t l outer ws o w = grown stack out (Items at items) (NextItem at (items ++ b ∷ [])) outer (ws ++ t ∷ []) (left stack (in_list at items out) outer o) (λ p h. item_more at items p h ws b w t l)
after_holds (in_list at items out ∷ stack) b Dot t l outer ws o w = entered stack (in_tail at (items ++ b ∷ []) out) (outer ++ (ws ++ t ∷ [])) (grown stack out (Items at items) (Tail at (items ++ b ∷ [])) outer (ws ++ t ∷ []) (left stack (in_list at items out) outer o) (λ p h. tail_begun at items p h ws b w t l))
after_holds (in_list at items out ∷ stack) b ListCloses t l outer ws o w = grown stack out (Items at items) (λ p. SpellsTerm p (of_list (items_of (items ++ b ∷ [])) closed at)) outer (ws ++ t ∷ []) (left stack (in_list at items out) outer o) (λ p h. list_closed at items p h ws b w t l)
after_holds (in_list at items out ∷ stack) b _ t l outer ws o w = tt
after_holds (in_tail at items out ∷ stack) b ListCloses t l outer ws o w = grown stack out (Tail at items) (λ p. SpellsTerm p (of_list (items_of items) (tail_of b) at)) outer (ws ++ t ∷ []) (left stack (in_tail at items out) outer o) (λ p h. h.on ws b t w l)
after_holds (in_tail at items out ∷ stack) b _ t l outer ws o w = tt
after_holds (in_diff at items out ∷ stack) b Comma t l outer ws o w = grown stack out (Diffs at items) (Diffs at (items ++ b ∷ [])) outer (ws ++ t ∷ []) (left stack (in_diff at items out) outer o) (λ p h. diff_more at items p h ws b w t l)
after_holds (in_diff at items out ∷ stack) b DiffCloses t l outer ws o w = grown stack out (Diffs at items) (λ p. SpellsTerm p (of_diff (items_of (items ++ b ∷ [])) at)) outer (ws ++ t ∷ []) (left stack (in_diff at items out) outer o) (λ p h. diff_closed at items p h ws b w t l)
after_holds (in_diff at items out ∷ stack) b _ t l outer ws o w = tt

-- a term stands whole, and another follows
and_holds : (stack : List FrameTree) (xs : List TermTree) (x : TermTree) (t : Tok) → IsKind And t → (ts : List Tok) → Standing stack xs (λ p. SpellsTerm p x) ts → Standing stack (xs ++ x ∷ []) IsNothing (ts ++ t ∷ [])
and_holds stack xs x t k ts a = record {
  outer = a.outer;
  inner = a.inner ++ (a.piece ++ t ∷ []);
  piece = [];
  split = ap (λ l. l ++ t ∷ []) a.split ∙ (append_assoc a.outer (a.inner ++ a.piece) (t ∷ []) ∙ ap (λ l. a.outer ++ l) (append_assoc a.inner a.piece (t ∷ []) ∙ sym (append-nil (a.inner ++ (a.piece ++ t ∷ [])))));
  opened = a.opened;
  terms = one_term_more xs x a.inner a.piece t a.terms a.holds k;
  holds = refl;
}

-- the body within the innermost bracket
pub record BodyAt (stack : List FrameTree) (b : BodyTree) (ts : List Tok) : Type 0 where
  pub outer : List Tok
  pub words : List Tok
  pub split : ts ≡ outer ++ words
  pub opened : Opened stack outer
  pub body : SpellsBody words b

pub body_at : (stack : List FrameTree) (xs : List TermTree) (x : TermTree) (ts : List Tok) → Standing stack xs (λ p. SpellsTerm p x) ts → BodyAt stack (body_of xs x) ts
body_at stack xs x ts a = record { outer = a.outer; words = a.inner ++ a.piece; split = a.split; opened = a.opened; body = whole_body xs x a.inner a.piece a.terms a.holds }

whole_holds : (stack : List FrameTree) (b : BodyTree) (k : TokenKind) (t : Tok) → IsKind k t → (ts : List Tok) → BodyAt stack b ts → After (after_body stack b k) (ts ++ t ∷ [])
whole_holds stack b k t l ts a = subst (After (after_body stack b k)) (sym (ap (λ w. w ++ t ∷ []) a.split ∙ append_assoc a.outer a.words (t ∷ []))) (after_holds stack b k t l a.outer a.words a.opened a.body)

-- a step keeps what the tokens are
pub point_holds : (stack : List FrameTree) (point : PointTree) (k : TokenKind) (t : Tok) → IsKind k t → (ts : List Tok) → Holds stack point ts → After (point_step stack point k t) (ts ++ t ∷ [])
point_holds stack (want_term xs) k t l ts a = term_holds stack xs k t l ts a
point_holds stack (got_term xs x) And t l ts a = and_holds stack xs x t l ts a
point_holds stack (got_term xs x) k t l ts a = whole_holds stack (body_of xs x) k t l ts (body_at stack xs x ts a)
point_holds stack (avm_begins at out) Name t l ts a = grown stack out (Opener AvmOpens at) (Feature at [] (value t ∷ [])) ts (t ∷ []) a (λ p h. path_begun at [] p (avm_first at p h) t l)
point_holds stack (avm_begins at out) AvmCloses t l ts a = grown stack out (Opener AvmOpens at) (λ p. SpellsTerm p (of_avm no_attrs at)) ts (t ∷ []) a (λ p h. avm_empty at p h t l)
point_holds stack (want_attr at attrs out) Name t l ts a = grown stack out (Attrs at attrs) (Feature at attrs (value t ∷ [])) ts (t ∷ []) a (λ p h. path_begun at attrs p h t l)
point_holds stack (got_feature at attrs path out) Dot t l ts a = grown stack out (Feature at attrs path) (NextFeature at attrs path) ts (t ∷ []) a (λ p h. path_dotted at attrs path p h t l)
point_holds stack (got_feature at attrs path out) k t l ts a = term_holds (in_avm at attrs path out ∷ stack) [] k t l ts (entered stack (in_avm at attrs path out) ts a)
point_holds stack (want_feature at attrs path out) Name t l ts a = grown stack out (NextFeature at attrs path) (Feature at attrs (path ++ value t ∷ [])) ts (t ∷ []) a (λ p h. feature_more at attrs path p h t l)
point_holds stack (list_begins at out) ListCloses t l ts a = grown stack out (Opener ListOpens at) (λ p. SpellsTerm p (of_list no_items closed at)) ts (t ∷ []) a (λ p h. list_empty at p h t l)
point_holds stack (list_begins at out) Dots t l ts a = grown stack out (Opener ListOpens at) (EndOpen at []) ts (t ∷ []) a (λ p h. list_dots at p h t l)
point_holds stack (list_begins at out) k t l ts a = term_holds (in_list at [] out ∷ stack) [] k t l ts (entered stack (in_list at [] out) ts (known stack out (Opener ListOpens at) (Items at []) ts a (λ p h. list_first at p h)))
point_holds stack (list_goes_on at items out) Dots t l ts a = grown stack out (NextItem at items) (EndOpen at items) ts (t ∷ []) a (λ p h. h.dots t l)
point_holds stack (list_goes_on at items out) k t l ts a = term_holds (in_list at items out ∷ stack) [] k t l ts (entered stack (in_list at items out) ts (known stack out (NextItem at items) (Items at items) ts a (λ p h. h.item)))
point_holds stack (want_close at items out) ListCloses t l ts a = grown stack out (EndOpen at items) (λ p. SpellsTerm p (of_list (items_of items) open_end at)) ts (t ∷ []) a (λ p h. h.on t l)
point_holds stack (diff_begins at out) DiffCloses t l ts a = grown stack out (Opener DiffOpens at) (λ p. SpellsTerm p (of_diff no_items at)) ts (t ∷ []) a (λ p h. diff_empty at p h t l)
point_holds stack (diff_begins at out) k t l ts a = term_holds (in_diff at [] out ∷ stack) [] k t l ts (entered stack (in_diff at [] out) ts (known stack out (Opener DiffOpens at) (Diffs at []) ts a (λ p h. diff_first at p h)))
point_holds stack (diff_goes_on at items out) k t l ts a = term_holds (in_diff at items out ∷ stack) [] k t l ts (entered stack (in_diff at items out) ts a)
point_holds _ _ _ t l ts a = tt
