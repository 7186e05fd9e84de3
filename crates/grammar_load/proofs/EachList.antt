-- At a path of a structure stands a closed list, or none; so with daughters and words.
use Rattle.std.proofs.Common.{ℕ, zero, suc, ◌≡◌, ◌<◌, ◌≤◌, ◌+◌, ◌⊎◌, inl, inr, Bool, true, false, List, [], ◌∷◌, ◌++◌, length, map, Option, None, Some, refl, sym, ◌∙◌, ap, subst, arith, length-append}
use Rattle.std.specs.List.{AllZip, flat_map}
use Rattle.std.proofs.lemmas.Bool.{cases_lt, cases_order}
use Rattle.tdl_reader.specs.declared.Status.{Status}
use Rattle.tdl_reader.specs.declared.Status.TheVariants.{TypeDef, Entry, LexRule, Rule, Root, Other}
use Rattle.type_hierarchy.specs.Decls.{Name}
use Rattle.type_hierarchy.specs.Table.{TypeTable, is_below}
use Rattle.fs_model.specs.Claims.{Path}
use Rattle.fs_graph.specs.GraphMap.{GraphMap, type_at, node_at}
use Rattle.lexicon.specs.Words.{Word}
use Rattle.closed_lists.specs.Names.{ListTree, IsReadable}
use Rattle.closed_lists.specs.Lists.{IsAtOrBelow, arc_named, ends, goes_on, HasList, IsListAt}
use Rattle.closed_lists.specs.Strings.{string_of, words_of_string, AreSpoken, HasWords}
use Rattle.closed_lists.specs.Inner.Walked.{AreElements}
use Rattle.closed_lists.proofs.ListLemmas.{at_cell, no_cell, no_first, no_rest, list_one, list_found, no_list, unknown_list}
use Rattle.closed_lists.proofs.WordLemmas.{none_spoken, none_some}
use Rattle.book_shapes.specs.Daughters.{is_rule, MayHave, HasDaughters, of_rule, no_rule}
use Rattle.grammar_load.proofs.SameLists.{walk_on}

-- something, or its contrary
abbrev pub Or : Type 0 → Type 0
Or P = P ⊎ (P → ⊥)

bool_or : (b : Bool) → Or (b ≡ true)
bool_or true = inl refl
bool_or false = inr (λ e. let z : false ≡ true = e in cc)

below_or : (types : TypeTable) (t : ℕ) (o : Option ℕ) → Or (IsAtOrBelow types t o)
below_or types t None = inr (λ e. e)
below_or types t (Some s) = bool_or (is_below types t s)

-- a list of elements, or none
abbrev ListOr : TypeTable → ListTree → GraphMap → ℕ → Type 0
ListOr types names g n = (o : Option (List ℕ)) × AreElements types names g n o

next_at : (g : GraphMap) (p : Path) (n m : ℕ) (f : Option ℕ) → node_at g p ≡ Some n → arc_named g n f ≡ Some m → (q : Path) × (node_at g q ≡ Some m) × (length q ≡ length p + 1)
next_at g p n m None at e = absurd (let z : None ≡ Some m = e in cc)
next_at g p n m (Some f) at e = (p ++ f ∷ [], walk_on g p 0 n f at ∙ e, length-append p (f ∷ []))

cell_or : (types : TypeTable) (names : ListTree) (g : GraphMap) (n first rest : ℕ) → (IsAtOrBelow types (type_at g n) names.null → ⊥) → IsAtOrBelow types (type_at g n) names.cons
    → arc_named g n names.first ≡ Some first → arc_named g n names.rest ≡ Some rest → ListOr types names g rest → ListOr types names g n
cell_or types names g n first rest nn c f r (None, none) = (None, λ es e. let b = at_cell types names g n first rest es nn f r e in none b.more b.others)
cell_or types names g n first rest nn c f r (Some more, e) = (Some (first ∷ more), goes_on n first rest more nn c f r e)

-- what is known of the nodes one feature on
abbrev Next : TypeTable → ListTree → ℕ → GraphMap → ℕ → Type 0
Next types names limit g left = (m : ℕ) (q : Path) → node_at g q ≡ Some m → limit < length q + left → ListOr types names g m

-- by a number above what is left of the limit
list_or : (types : TypeTable) (names : ListTree) (limit : ℕ) (g : GraphMap) → IsReadable types names limit g → (left n : ℕ) (p : Path) → node_at g p ≡ Some n → limit < length p + left → ListOr types names g n
list_or types names limit g r zero n p at l = absurd (omega (arith, l, r.bounded p n at))
list_or types names limit g r (suc left) n p at l = by_null (below_or types (type_at g n) names.null) (λ m q a k. list_or types names limit g r left m q a k)
  where
    by_rest : (IsAtOrBelow types (type_at g n) names.null → ⊥) → IsAtOrBelow types (type_at g n) names.cons → (first : ℕ) → arc_named g n names.first ≡ Some first → (o : Option ℕ) → arc_named g n names.rest ≡ o → Next types names limit g left → ListOr types names g n
    by_rest nn c first f None e next = (None, λ es x. no_rest types names g n es nn e x)
    by_rest nn c first f (Some rest) e next = let q = next_at g p n rest names.rest at e in cell_or types names g n first rest nn c f e (next rest q.0 q.1 (omega (arith, l, q.2)))

    by_first : (IsAtOrBelow types (type_at g n) names.null → ⊥) → IsAtOrBelow types (type_at g n) names.cons → (o : Option ℕ) → arc_named g n names.first ≡ o → Next types names limit g left → ListOr types names g n
    by_first nn c None e next = (None, λ es x. no_first types names g n es nn e x)
    by_first nn c (Some first) e next = by_rest nn c first e (arc_named g n names.rest) refl next

    by_cons : (IsAtOrBelow types (type_at g n) names.null → ⊥) → Or (IsAtOrBelow types (type_at g n) names.cons) → Next types names limit g left → ListOr types names g n
    by_cons nn (inl c) next = by_first nn c (arc_named g n names.first) refl next
    by_cons nn (inr c) next = (None, λ es x. no_cell types names g n es nn c x)

    by_null : Or (IsAtOrBelow types (type_at g n) names.null) → Next types names limit g left → ListOr types names g n
    by_null (inl e) next = (Some [], ends n e)
    by_null (inr nn) next = by_cons nn (below_or types (type_at g n) names.cons) next

-- a path of features that are known, or not
known_or : (path : List (Option ℕ)) → Or ((known : Path) × (path ≡ map (λ f. Some f) known))
known_or [] = inl ([], refl)
known_or (None ∷ path) = inr (λ k. no k.0 k.1)
  where
    no : (known : Path) → None ∷ path ≡ map (λ f. Some f) known → ⊥
    no [] e = let z : None ∷ path ≡ [] = e in cc
    no (f ∷ fs) e = let z : None ∷ path ≡ Some f ∷ map (λ f. Some f) fs = e in cc
known_or (Some f ∷ path) = go (known_or path)
  where
    no : ((k : Path) × (path ≡ map (λ f. Some f) k) → ⊥) → (known : Path) → Some f ∷ path ≡ map (λ f. Some f) known → ⊥
    no none [] e = let z : Some f ∷ path ≡ [] = e in cc
    no none (h ∷ hs) e = let z : Some f ∷ path ≡ Some h ∷ map (λ f. Some f) hs = e in let q : path ≡ map (λ f. Some f) hs = cc in none (hs, q)

    go : Or ((k : Path) × (path ≡ map (λ f. Some f) k)) → Or ((k : Path) × (Some f ∷ path ≡ map (λ f. Some f) k))
    go (inl k) = inl (f ∷ k.0, ap (λ l. Some f ∷ l) k.1)
    go (inr none) = inr (λ k. no none k.0 k.1)

-- nodes have strings
abbrev HaveStrings : TypeTable → GraphMap → List ℕ → Type 0
HaveStrings types g es = (ss : List Name) × AllZip (λ e t. string_of types (type_at g e) ≡ Some t) es ss

module _ (types : TypeTable) (names : ListTree) (limit : ℕ) (g : GraphMap) (r : IsReadable types names limit g) where
  -- the closed list at a path
  at_path : (path : List (Option ℕ)) → (o : Option (List ℕ)) × IsListAt types names g path o
  at_path path = go (known_or path)
    where
      there : (known : Path) → path ≡ map (λ f. Some f) known → (o : Option ℕ) → node_at g known ≡ o → (x : Option (List ℕ)) × IsListAt types names g path x
      there known e None at = (None, no_list types names g path known e at)
      there known e (Some node) at = let l = list_or types names limit g r (limit + 1) node known at (omega arith) in (l.0, list_found types names g path known node l.0 e at l.1)

      go : Or ((known : Path) × (path ≡ map (λ f. Some f) known)) → (x : Option (List ℕ)) × IsListAt types names g path x
      go (inl k) = there k.0 k.1 (node_at g k.0) refl
      go (inr none) = (None, unknown_list types names g path (λ known e. none (known, e)))

  may_or : (status : Status) (n : ℕ) → Or (MayHave status n)
  may_or Rule n = go (cases_lt 0 n) (cases_lt 4 n)
    where
      go : (0 < n) ⊎ (n ≤ 0) → (4 < n) ⊎ (n ≤ 4) → Or ((1 ≤ n) × (n ≤ 4))
      go (inl l) (inr m) = inl (omega (arith, l), m)
      go (inl l) (inl m) = inr (λ x. omega (arith, m, x.1))
      go (inr l) m = inr (λ x. omega (arith, l, x.0))
  may_or LexRule n = go (cases_order n 1)
    where
      go : (n ≡ 1) ⊎ ((n < 1) ⊎ (1 < n)) → Or (n ≡ 1)
      go (inl e) = inl e
      go (inr (inl l)) = inr (λ e. omega (arith, l, e))
      go (inr (inr l)) = inr (λ e. omega (arith, l, e))
  may_or TypeDef n = inl tt
  may_or Entry n = inl tt
  may_or Root n = inl tt
  may_or Other n = inl tt

  rule_lacks : (args : List (Option ℕ)) (status : Status) → is_rule status ≡ true → ((es : List ℕ) → HasList types names g args es → MayHave status (length es) → ⊥) → HasDaughters types names args status g → ⊥
  rule_lacks args status t none (of_rule es l may) = none es l may
  rule_lacks args status t none (no_rule e) = let z : true ≡ false = sym t ∙ e in cc

  -- the daughters of an instance
  pub daughters_or : (args : List (Option ℕ)) (status : Status) → Or (HasDaughters types names args status g)
  daughters_or args status = go (is_rule status) refl (at_path args)
    where
      counted : is_rule status ≡ true → (es : List ℕ) → HasList types names g args es → Or (MayHave status (length es)) → Or (HasDaughters types names args status g)
      counted t es l (inl may) = inl (of_rule es l may)
      counted t es l (inr never) = inr (rule_lacks args status t (λ xs m may. never (subst (λ k. MayHave status (length k)) (list_one types names g args xs es m l) may)))

      go : (b : Bool) → is_rule status ≡ b → (o : Option (List ℕ)) × IsListAt types names g args o → Or (HasDaughters types names args status g)
      go false e x = inl (no_rule e)
      go true e (None, none) = inr (rule_lacks args status e (λ es l may. none es l))
      go true e (Some es, l) = counted e es l (may_or status (length es))

  -- nodes have strings, or not
  strings_or : (es : List ℕ) → Or ((ss : List Name) × AllZip (λ e t. string_of types (type_at g e) ≡ Some t) es ss)
  strings_or [] = inl ([], tt)
  strings_or (e ∷ es) = go (string_of types (type_at g e)) refl (strings_or es)
    where
      no_string : string_of types (type_at g e) ≡ None → (ss : List Name) → AllZip (λ e t. string_of types (type_at g e) ≡ Some t) (e ∷ es) ss → ⊥
      no_string n [] z = z
      no_string n (s ∷ ss) z = let q : None ≡ Some s = sym n ∙ z.0 in cc

      no_others : (HaveStrings types g es → ⊥) → (ss : List Name) → AllZip (λ e t. string_of types (type_at g e) ≡ Some t) (e ∷ es) ss → ⊥
      no_others n [] z = z
      no_others n (s ∷ ss) z = n (ss, z.1)

      go : (o : Option Name) → string_of types (type_at g e) ≡ o → Or (HaveStrings types g es) → Or (HaveStrings types g (e ∷ es))
      go None n x = inr (λ k. no_string n k.0 k.1)
      go (Some s) is (inl k) = inl (s ∷ k.0, (is, k.1))
      go (Some s) is (inr n) = inr (λ k. no_others n k.0 k.1)

  -- the words at a path
  pub words_or : (path : List (Option ℕ)) → Or ((ws : List Word) × HasWords types names g path ws)
  words_or path = go (at_path path)
    where
      some_or : (es : List ℕ) → HasList types names g path es → (ws : List Word) → AreSpoken types g es ws → Or ((vs : List Word) × HasWords types names g path vs)
      some_or es l [] s = inr (λ k. none_some types names g path es k.0 [] l s refl k.1)
      some_or es l (w ∷ ws) s = inl (w ∷ ws, record { elements = es; list = l; spoken = s; some = omega arith })

      spoken : (es : List ℕ) → HasList types names g path es → Or ((ss : List Name) × AllZip (λ e t. string_of types (type_at g e) ≡ Some t) es ss) → Or ((vs : List Word) × HasWords types names g path vs)
      spoken es l (inl k) = some_or es l (flat_map words_of_string k.0) (record { strings = k.0; texts = k.1; is = refl })
      spoken es l (inr n) = inr (λ k. none_spoken types names g path es k.0 l (λ vs s. n (s.strings, s.texts)) k.1)

      go : (o : Option (List ℕ)) × IsListAt types names g path o → Or ((vs : List Word) × HasWords types names g path vs)
      go (None, none) = inr (λ k. none k.1.elements k.1.list)
      go (Some es, l) = spoken es l (strings_or es)
