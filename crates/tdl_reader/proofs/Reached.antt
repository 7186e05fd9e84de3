-- What the grammar spells, the machine reads: bodies.
use Rattle.std.proofs.Common.{◌≡◌, ℕ, List, [], ◌∷◌, ◌++◌, Option, Some, None, sym, ◌∙◌, refl, ap, append_assoc}
use Rattle.std.specs.Prelude.{Bool, true, false}
use Rattle.std.proofs.lemmas.Bool.{false≢true}
use Rattle.tdl_lexer.specs.declared.TokenKind.{TokenKind}
use Rattle.tdl_lexer.specs.declared.TokenKind.TheVariants.{Name, Text, Symbol, Coref, AvmOpens, ListOpens, ListCloses, DiffOpens, DiffCloses, Comma, Dot, Dots}
use Rattle.tdl_reader.specs.Grammar.{SpellsPath, one_name, more_names, SpellsTerm, SpellsBody, SpellsAttrs, SpellsItems, SpellsEnd, name, text, symbol, coref, empty_avm, avm, empty_list, open_list, list, empty_diff, diff, one_term, more_terms, one_attr, and_attr, one_item, and_item, nothing_more, and_open, and_tail}
use Rattle.tdl_reader.specs.Machine.{FrameTree, in_avm, in_list, in_tail, in_diff, PointTree, want_term, got_term, avm_begins, want_attr, got_feature, want_feature, list_begins, list_goes_on, diff_begins, diff_goes_on, BodyState, at_point, term_step, after_body, point_step}
use Rattle.tdl_reader.specs.Toks.{Tok, value, IsKind}
use Rattle.tdl_reader.specs.Trees.{TermTree, of_avm, of_list, of_diff, BodyTree, last_term, and_term, AttrTrees, no_attrs, more_attrs, ItemTrees, no_items, more_items, RestTree, tail_of, AttrTree, body_of, attrs_of, items_of}

abbrev pub run_body : Option BodyState → List Tok → Option BodyState
run_body None ts = None
run_body (Some s) [] = Some s
run_body (Some s) (t ∷ ts) = run_body (point_step s.stack s.point t.kind t) ts

pub run_append : (o : Option BodyState) (ts us : List Tok) → run_body o (ts ++ us) ≡ run_body (run_body o ts) us
run_append None ts us = refl
run_append (Some s) [] us = refl
run_append (Some s) (t ∷ ts) us = run_append (point_step s.stack s.point t.kind t) ts us

-- a body with terms before it
abbrev pub after_terms : List TermTree → BodyTree → BodyTree
after_terms [] b = b
after_terms (x ∷ xs) b = and_term x (after_terms xs b)

pub after_terms-last : (xs : List TermTree) (x : TermTree) → after_terms xs (last_term x) ≡ body_of xs x
after_terms-last [] x = refl
after_terms-last (y ∷ xs) x = ap (and_term y) (after_terms-last xs x)

pub after_terms-more : (xs : List TermTree) (x : TermTree) (b : BodyTree) → after_terms (xs ++ x ∷ []) b ≡ after_terms xs (and_term x b)
after_terms-more [] x b = refl
after_terms-more (y ∷ xs) x b = ap (and_term y) (after_terms-more xs x b)

-- the machine has read a body, and stands after its last term
pub record Reads (o : Option BodyState) (stack : List FrameTree) (b : BodyTree) : Type 0 where
  pub front : List TermTree
  pub last : TermTree
  pub reached : o ≡ at_point stack (got_term front last)
  pub body : body_of front last ≡ b

abbrev pub begins_term : TokenKind → Bool
begins_term Name = true
begins_term Text = true
begins_term Symbol = true
begins_term Coref = true
begins_term AvmOpens = true
begins_term ListOpens = true
begins_term DiffOpens = true
begins_term _ = false

-- the first token of a term begins one
pub record First (ts : List Tok) : Type 0 where
  pub token : Tok
  pub others : List Tok
  pub split : ts ≡ token ∷ others
  pub holds : begins_term token.kind ≡ true

first_of_term : (ts : List Tok) (x : TermTree) → SpellsTerm ts x → First ts
first_of_term _ _ (name t k) = record { token = t; others = _; split = refl; holds = rw k refl }
first_of_term _ _ (text t k) = record { token = t; others = _; split = refl; holds = rw k refl }
first_of_term _ _ (symbol t k) = record { token = t; others = _; split = refl; holds = rw k refl }
first_of_term _ _ (coref t k) = record { token = t; others = _; split = refl; holds = rw k refl }
first_of_term _ _ (empty_avm o c k l) = record { token = o; others = _; split = refl; holds = rw k refl }
first_of_term _ _ (avm o c ts attrs k l h) = record { token = o; others = _; split = refl; holds = rw k refl }
first_of_term _ _ (empty_list o c k l) = record { token = o; others = _; split = refl; holds = rw k refl }
first_of_term _ _ (open_list o d c k m l) = record { token = o; others = _; split = refl; holds = rw k refl }
first_of_term _ _ (list o c ts es items end k l h e) = record { token = o; others = _; split = refl; holds = rw k refl }
first_of_term _ _ (empty_diff o c k l) = record { token = o; others = _; split = refl; holds = rw k refl }
first_of_term _ _ (diff o c ts items k l h) = record { token = o; others = _; split = refl; holds = rw k refl }

pub first_of_body : (ts : List Tok) (b : BodyTree) → SpellsBody ts b → First ts
first_of_body _ _ (one_term ts x h) = first_of_term ts x h
first_of_body _ _ (more_terms ts us a x b h k j) = let f = first_of_term ts x h in record { token = f.token; others = f.others ++ a ∷ us; split = ap (λ l. l ++ a ∷ us) f.split; holds = f.holds }

-- where a point takes a term's first token as the beginning of a body does
abbrev Takes : List FrameTree → PointTree → List FrameTree → Type 0
Takes stack p inner = (k : TokenKind) (t : Tok) → begins_term k ≡ true → point_step stack p k t ≡ term_step inner [] k t

begins_at : (stack inner : List FrameTree) (p : PointTree) (ts : List Tok) → Takes stack p inner → First ts → run_body (at_point stack p) ts ≡ run_body (at_point inner (want_term [])) ts
begins_at stack inner p ts f a = rw a.split (ap (λ o. run_body o a.others) (f a.token.kind a.token a.holds))

path_on : (ts : List Tok) (path : List (List ℕ)) → SpellsPath ts path → (stack : List FrameTree) (at : ℕ) (done : List AttrTree) (pre : List (List ℕ)) (out : List TermTree) → run_body (at_point stack (want_feature at done pre out)) ts ≡ at_point stack (got_feature at done (pre ++ path) out)
path_on _ _ (one_name n k) stack at done pre out = ap (λ q. run_body (point_step stack (want_feature at done pre out) q n) []) k
path_on _ _ (more_names n d ts path k l h) stack at done pre out = ap (λ q. run_body (point_step stack (want_feature at done pre out) q n) (d ∷ ts)) k ∙ (ap (λ q. run_body (point_step stack (got_feature at done (pre ++ value n ∷ []) out) q d) ts) l ∙ (path_on ts path h stack at done (pre ++ value n ∷ []) out ∙ ap (λ p. at_point stack (got_feature at done p out)) (append_assoc pre (value n ∷ []) path)))

takes_feature : (stack : List FrameTree) (at : ℕ) (done : List AttrTree) (path : List (List ℕ)) (out : List TermTree) → Takes stack (got_feature at done path out) (in_avm at done path out ∷ stack)
takes_feature stack at done path out Name t e = refl
takes_feature stack at done path out Text t e = refl
takes_feature stack at done path out Symbol t e = refl
takes_feature stack at done path out Coref t e = refl
takes_feature stack at done path out AvmOpens t e = refl
takes_feature stack at done path out ListOpens t e = refl
takes_feature stack at done path out DiffOpens t e = refl
takes_feature stack at done path out Dot t e = absurd (false≢true e)
takes_feature stack at done path out _ t e = refl

abbrev pub after_attrs : List AttrTree → AttrTrees → AttrTrees
after_attrs [] attrs = attrs
after_attrs (a ∷ done) attrs = more_attrs a.path a.body (after_attrs done attrs)

pub after_attrs-last : (done : List AttrTree) (path : List (List ℕ)) (b : BodyTree) → attrs_of (done ++ record { path = path; body = b } ∷ []) ≡ after_attrs done (more_attrs path b no_attrs)
after_attrs-last [] path b = refl
after_attrs-last (a ∷ done) path b = ap (more_attrs a.path a.body) (after_attrs-last done path b)

pub after_attrs-more : (done : List AttrTree) (path : List (List ℕ)) (b : BodyTree) (attrs : AttrTrees) → after_attrs (done ++ record { path = path; body = b } ∷ []) attrs ≡ after_attrs done (more_attrs path b attrs)
after_attrs-more [] path b attrs = refl
after_attrs-more (a ∷ done) path b attrs = ap (more_attrs a.path a.body) (after_attrs-more done path b attrs)

-- attributes were read, and the bracket is open still
record AttrsRead (o : Option BodyState) (stack : List FrameTree) (at : ℕ) (out : List TermTree) (attrs : AttrTrees) : Type 0 where
  done : List AttrTree
  path : List (List ℕ)
  front : List TermTree
  last : TermTree
  reached : o ≡ at_point (in_avm at done path out ∷ stack) (got_term front last)
  whole : attrs_of (done ++ record { path = path; body = body_of front last } ∷ []) ≡ attrs

-- a point that takes a name as the first of a path
abbrev TakesName : List FrameTree → PointTree → ℕ → List AttrTree → List TermTree → Type 0
TakesName stack p at done out = (t : Tok) → point_step stack p Name t ≡ at_point stack (got_feature at done ((value t) ∷ []) out)

path_begins : (ps us : List Tok) (path : List (List ℕ)) → SpellsPath ps path → (stack : List FrameTree) (p : PointTree) (at : ℕ) (done : List AttrTree) (out : List TermTree) → TakesName stack p at done out → run_body (at_point stack p) (ps ++ us) ≡ run_body (at_point stack (got_feature at done path out)) us
path_begins _ us _ (one_name n k) stack p at done out f = ap (λ q. run_body (point_step stack p q n) us) k ∙ ap (λ o. run_body o us) (f n)
path_begins _ us _ (more_names n d ts path k l h) stack p at done out f =
    ap (λ q. run_body (point_step stack p q n) (d ∷ (ts ++ us))) k ∙ (ap (λ o. run_body o (d ∷ (ts ++ us))) (f n)) ∙ (rw l (run_append (at_point stack (want_feature at done ((value n) ∷ []) out)) ts us ∙ ap (λ o. run_body o us) (path_on ts path h stack at done ((value n) ∷ []) out)))

abbrev pub after_items : List BodyTree → ItemTrees → ItemTrees
after_items [] items = items
after_items (b ∷ done) items = more_items b (after_items done items)

pub after_items-last : (done : List BodyTree) (b : BodyTree) → items_of (done ++ b ∷ []) ≡ after_items done (more_items b no_items)
after_items-last [] b = refl
after_items-last (a ∷ done) b = ap (more_items a) (after_items-last done b)

pub after_items-more : (done : List BodyTree) (b : BodyTree) (items : ItemTrees) → after_items (done ++ b ∷ []) items ≡ after_items done (more_items b items)
after_items-more [] b items = refl
after_items-more (a ∷ done) b items = ap (more_items a) (after_items-more done b items)

-- items were read, and the bracket is open still
record ItemsRead (frame : List BodyTree → FrameTree) (o : Option BodyState) (stack : List FrameTree) (items : ItemTrees) : Type 0 where
  done : List BodyTree
  front : List TermTree
  last : TermTree
  reached : o ≡ at_point (frame done ∷ stack) (got_term front last)
  whole : items_of (done ++ body_of front last ∷ []) ≡ items

-- a bracket of items: after a comma the point takes the next one
record Bracket (stack : List FrameTree) (frame : List BodyTree → FrameTree) (go : List BodyTree → PointTree) : Type 0 where
  next : (done : List BodyTree) (b : BodyTree) → after_body (frame done ∷ stack) b Comma ≡ at_point stack (go (done ++ b ∷ []))
  takes : (done : List BodyTree) → Takes stack (go done) (frame done ∷ stack)

takes_list : (stack : List FrameTree) (at : ℕ) (done : List BodyTree) (out : List TermTree) → Takes stack (list_goes_on at done out) (in_list at done out ∷ stack)
takes_list stack at done out Dots t e = absurd (false≢true e)
takes_list stack at done out _ t e = refl

takes_first : (stack : List FrameTree) (at : ℕ) (out : List TermTree) → Takes stack (list_begins at out) (in_list at [] out ∷ stack)
takes_first stack at out Dots t e = absurd (false≢true e)
takes_first stack at out ListCloses t e = absurd (false≢true e)
takes_first stack at out _ t e = refl

takes_diff : (stack : List FrameTree) (at : ℕ) (out : List TermTree) → Takes stack (diff_begins at out) (in_diff at [] out ∷ stack)
takes_diff stack at out DiffCloses t e = absurd (false≢true e)
takes_diff stack at out _ t e = refl

mutual
  term_met : (ts : List Tok) (x : TermTree) → SpellsTerm ts x → (stack : List FrameTree) (xs : List TermTree) → run_body (at_point stack (want_term xs)) ts ≡ at_point stack (got_term xs x)
  term_met _ _ (name t k) stack xs = rw k refl
  term_met _ _ (text t k) stack xs = rw k refl
  term_met _ _ (symbol t k) stack xs = rw k refl
  term_met _ _ (coref t k) stack xs = rw k refl
  term_met _ _ (empty_avm o c k l) stack xs = rw (k, l) refl
  term_met _ _ (avm o c ts attrs k l h) stack xs =
      let r = attrs_met ts attrs h stack (avm_begins o.at xs) o.at [] xs (λ t. refl) in
      rw k (run_append (at_point stack (avm_begins o.at xs)) ts (c ∷ []) ∙ (ap (λ a. run_body a (c ∷ [])) r.reached ∙ (rw l (ap (λ a. at_point stack (got_term xs (of_avm a o.at))) r.whole))))
  term_met _ _ (empty_list o c k l) stack xs = rw (k, l) refl
  term_met _ _ (open_list o d c k m l) stack xs = rw (k, m, l) refl
  term_met _ _ (list o c ts es items end k l h e) stack xs =
      let r = items_met ts items h stack (λ d. in_list o.at d xs) (λ d. list_goes_on o.at d xs) (record { next = λ d b. refl; takes = λ d. takes_list stack o.at d xs }) (list_begins o.at xs) [] (takes_first stack o.at xs) in
      let first : run_body (at_point stack (want_term xs)) (o ∷ (ts ++ (es ++ c ∷ []))) ≡ run_body (at_point stack (list_begins o.at xs)) (ts ++ (es ++ c ∷ [])) = ap (λ q. run_body (term_step stack xs q o) (ts ++ (es ++ c ∷ []))) k in
      first ∙ (run_append (at_point stack (list_begins o.at xs)) ts (es ++ c ∷ []) ∙ (ap (λ a. run_body a (es ++ c ∷ [])) r.reached ∙ (end_met es end e c l stack o.at r.done xs r.front r.last ∙ ap (λ a. at_point stack (got_term xs (of_list a end o.at))) r.whole)))
  term_met _ _ (empty_diff o c k l) stack xs = rw (k, l) refl
  term_met _ _ (diff o c ts items k l h) stack xs =
      let r = items_met ts items h stack (λ d. in_diff o.at d xs) (λ d. diff_goes_on o.at d xs) (record { next = λ d b. refl; takes = λ d k t e. refl }) (diff_begins o.at xs) [] (takes_diff stack o.at xs) in
      let first : run_body (at_point stack (want_term xs)) (o ∷ (ts ++ c ∷ [])) ≡ run_body (at_point stack (diff_begins o.at xs)) (ts ++ c ∷ []) = ap (λ q. run_body (term_step stack xs q o) (ts ++ c ∷ [])) k in
      first ∙ (run_append (at_point stack (diff_begins o.at xs)) ts (c ∷ []) ∙ (ap (λ a. run_body a (c ∷ [])) r.reached ∙ (rw l (ap (λ a. at_point stack (got_term xs (of_diff a o.at))) r.whole))))

  pub body_met : (ts : List Tok) (b : BodyTree) → SpellsBody ts b → (stack : List FrameTree) (xs : List TermTree) → Reads (run_body (at_point stack (want_term xs)) ts) stack (after_terms xs b)
  body_met _ _ (one_term ts x h) stack xs = record { front = xs; last = x; reached = term_met ts x h stack xs; body = sym (after_terms-last xs x) }
  body_met _ _ (more_terms ts us a x b h k j) stack xs =
      let r = body_met us b j stack (xs ++ x ∷ []) in
      let at_and : run_body (at_point stack (want_term xs)) (ts ++ a ∷ us) ≡ run_body (at_point stack (want_term (xs ++ x ∷ []))) us = run_append (at_point stack (want_term xs)) ts (a ∷ us) ∙ (ap (λ o. run_body o (a ∷ us)) (term_met ts x h stack xs) ∙ (rw k refl)) in
      record { front = r.front; last = r.last; reached = at_and ∙ r.reached; body = r.body ∙ after_terms-more xs x b }

  attrs_met : (ts : List Tok) (attrs : AttrTrees) → SpellsAttrs ts attrs → (stack : List FrameTree) (p : PointTree) (at : ℕ) (done : List AttrTree) (out : List TermTree) → TakesName stack p at done out → AttrsRead (run_body (at_point stack p) ts) stack at out (after_attrs done attrs)
  attrs_met _ _ (one_attr ps bs path b h k) stack p at done out f =
      let r = body_met bs b k (in_avm at done path out ∷ stack) [] in
      record {
        done = done;
        path = path;
        front = r.front;
        last = r.last;
        reached = path_begins ps bs path h stack p at done out f ∙ (begins_at stack (in_avm at done path out ∷ stack) (got_feature at done path out) bs (takes_feature stack at done path out) (first_of_body bs b k) ∙ r.reached);
        whole = ap (λ x. attrs_of (done ++ record { path = path; body = x } ∷ [])) r.body ∙ after_attrs-last done path b;
      }
  attrs_met _ _ (and_attr ps bs ts c path b attrs h k l j) stack p at done out f =
      let r = body_met bs b k (in_avm at done path out ∷ stack) [] in
      let n = attrs_met ts attrs j stack (want_attr at (done ++ record { path = path; body = b } ∷ []) out) at (done ++ record { path = path; body = b } ∷ []) out (λ t. refl) in
      let first : run_body (at_point stack p) (ps ++ (bs ++ c ∷ ts)) ≡ run_body (at_point stack (got_feature at done path out)) (bs ++ c ∷ ts) = path_begins ps (bs ++ c ∷ ts) path h stack p at done out f in
      let second : run_body (at_point stack (got_feature at done path out)) (bs ++ c ∷ ts) ≡ run_body (run_body (at_point stack (got_feature at done path out)) bs) (c ∷ ts) = run_append (at_point stack (got_feature at done path out)) bs (c ∷ ts) in
      let third : run_body (at_point stack (got_feature at done path out)) bs ≡ at_point (in_avm at done path out ∷ stack) (got_term r.front r.last) = begins_at stack (in_avm at done path out ∷ stack) (got_feature at done path out) bs (takes_feature stack at done path out) (first_of_body bs b k) ∙ r.reached in
      let fourth : run_body (at_point (in_avm at done path out ∷ stack) (got_term r.front r.last)) (c ∷ ts) ≡ run_body (at_point stack (want_attr at (done ++ record { path = path; body = b } ∷ []) out)) ts = rw l (ap (λ x. run_body (at_point stack (want_attr at (done ++ record { path = path; body = x } ∷ []) out)) ts) r.body) in
      record {
        done = n.done;
        path = n.path;
        front = n.front;
        last = n.last;
        reached = first ∙ (second ∙ (ap (λ o. run_body o (c ∷ ts)) third ∙ (fourth ∙ n.reached)));
        whole = n.whole ∙ after_attrs-more done path b attrs;
      }

  items_met : (ts : List Tok) (items : ItemTrees) → SpellsItems ts items → (stack : List FrameTree) (frame : List BodyTree → FrameTree) (go : List BodyTree → PointTree) → Bracket stack frame go → (p : PointTree) (done : List BodyTree) → Takes stack p (frame done ∷ stack) → ItemsRead frame (run_body (at_point stack p) ts) stack (after_items done items)
  items_met _ _ (one_item bs b k) stack frame go br p done f =
      let r = body_met bs b k (frame done ∷ stack) [] in
      record {
        done = done;
        front = r.front;
        last = r.last;
        reached = begins_at stack (frame done ∷ stack) p bs f (first_of_body bs b k) ∙ r.reached;
        whole = ap (λ x. items_of (done ++ x ∷ [])) r.body ∙ after_items-last done b;
      }
  items_met _ _ (and_item bs ts c b items k l j) stack frame go br p done f =
      let r = body_met bs b k (frame done ∷ stack) [] in
      let n = items_met ts items j stack frame go br (go (done ++ b ∷ [])) (done ++ b ∷ []) (br.takes (done ++ b ∷ [])) in
      let first : run_body (at_point stack p) (bs ++ c ∷ ts) ≡ run_body (run_body (at_point stack p) bs) (c ∷ ts) = run_append (at_point stack p) bs (c ∷ ts) in
      let second : run_body (at_point stack p) bs ≡ at_point (frame done ∷ stack) (got_term r.front r.last) = begins_at stack (frame done ∷ stack) p bs f (first_of_body bs b k) ∙ r.reached in
      let third : run_body (at_point (frame done ∷ stack) (got_term r.front r.last)) (c ∷ ts) ≡ run_body (after_body (frame done ∷ stack) (body_of r.front r.last) Comma) ts = ap (λ q. run_body (point_step (frame done ∷ stack) (got_term r.front r.last) q c) ts) l in
      let fourth : run_body (after_body (frame done ∷ stack) (body_of r.front r.last) Comma) ts ≡ run_body (at_point stack (go (done ++ b ∷ []))) ts = ap (λ o. run_body o ts) (br.next done (body_of r.front r.last) ∙ ap (λ x. at_point stack (go (done ++ x ∷ []))) r.body) in
      record {
        done = n.done;
        front = n.front;
        last = n.last;
        reached = first ∙ (ap (λ o. run_body o (c ∷ ts)) second ∙ (third ∙ (fourth ∙ n.reached)));
        whole = n.whole ∙ after_items-more done b items;
      }

  end_met : (es : List Tok) (end : RestTree) → SpellsEnd es end → (c : Tok) → IsKind ListCloses c → (stack : List FrameTree) (at : ℕ) (done : List BodyTree) (out front : List TermTree) (last : TermTree)
      → run_body (at_point (in_list at done out ∷ stack) (got_term front last)) (es ++ c ∷ []) ≡ at_point stack (got_term out (of_list (items_of (done ++ body_of front last ∷ [])) end at))
  end_met _ _ nothing_more c l stack at done out front last = rw l refl
  end_met _ _ (and_open m d k j) c l stack at done out front last = rw (k, j, l) refl
  end_met _ _ (and_tail d bs b k j) c l stack at done out front last =
      let items = done ++ body_of front last ∷ [] in
      let r = body_met bs b j (in_tail at items out ∷ stack) [] in
      let first : run_body (at_point (in_list at done out ∷ stack) (got_term front last)) (d ∷ (bs ++ c ∷ [])) ≡ run_body (at_point (in_tail at items out ∷ stack) (want_term [])) (bs ++ c ∷ []) = ap (λ q. run_body (point_step (in_list at done out ∷ stack) (got_term front last) q d) (bs ++ c ∷ [])) k in
      first ∙ (run_append (at_point (in_tail at items out ∷ stack) (want_term [])) bs (c ∷ []) ∙ (ap (λ o. run_body o (c ∷ [])) r.reached ∙ (rw l (ap (λ x. at_point stack (got_term out (of_list (items_of items) (tail_of x) at))) r.body))))
