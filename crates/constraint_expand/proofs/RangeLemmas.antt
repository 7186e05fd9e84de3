-- What bodies say speaks of types and features that are there.
use Rattle.std.proofs.Common.{ℕ, ◌<◌, ◌⊎◌, inl, inr, ◌&&◌, Bool, true, false, cond, List, [], ◌∷◌, ◌++◌, length, map, Some, unwrap_or, sym, subst}
use Rattle.std.specs.List.{All}
use Rattle.std.specs.Str.{bytes_eq}
use Rattle.std.proofs.lemmas.List.Elements.{All-nil, All-cons, All-append, All-push}
use Rattle.fs_model.specs.Claims.{Path, Has, here, there}
use Rattle.type_hierarchy.specs.Decls.{Name, number_of}
use Rattle.type_hierarchy.specs.Table.{TypeTable}
use Rattle.fs_unify.specs.Rules.{IsClaimIn}
use Rattle.tdl_reader.specs.Trees.{TermTree, of_name, of_text, of_coref, of_avm, of_list, of_diff, BodyTree, no_terms, and_term, AttrTrees, no_attrs, more_attrs, ItemTrees, no_items, more_items, RestTree, closed, open_end, tail_of}
use Rattle.body_facts.specs.Writing.{ListNames, past_items}
use Rattle.body_facts.specs.BracketUses.{Used, used, path_uses, is_empty_path, is_empty_list, cell_uses, term_uses, body_uses, attrs_use, items_use, end_uses}
use Rattle.body_facts.specs.Mentions.{Mention, mention, cell_mentions, end_mentions, term_mentions, body_mentions, attrs_mention, items_mention, tail_mentions}
use Rattle.body_facts.specs.Numbers.{type_number, text_number}
use Rattle.body_facts.specs.Sayings.{Saying, has_type, has_text, carries, is_there, are_equal, term_says, body_says, attrs_say, items_say, end_says}
use Rattle.body_facts.specs.Claimed.{first_carrier, claim_said, claims_of_sayings, claims_said}
use Rattle.grammar_files.specs.BodyStrings.{strings_of_term, strings_of_body, strings_of_attrs, strings_of_items, strings_of_rest}
use Rattle.type_facts.proofs.ListLemmas.{Has-left, Has-right, Has-either, Has-of_map}

abbrev pub Each : {X : Type 0} → (X → Type 0) → List X → Type 0
Each {X} P xs = (x : X) → Has x xs → P x

pub each_left : {X : Type 0} (P : X → Type 0) (xs ys : List X) → Each P (xs ++ ys) → Each P xs
each_left P xs ys k x h = k x (Has-left x xs ys h)

pub each_right : {X : Type 0} (P : X → Type 0) (xs ys : List X) → Each P (xs ++ ys) → Each P ys
each_right P xs ys k x h = k x (Has-right x xs ys h)

pub each_both : {X : Type 0} (P : X → Type 0) (xs ys : List X) → Each P xs → Each P ys → Each P (xs ++ ys)
each_both P xs ys a b x h = go (Has-either x xs ys h)
  where
    go : Has x xs ⊎ Has x ys → P x
    go (inl k) = a x k
    go (inr k) = b x k

pub each_cons : {X : Type 0} (P : X → Type 0) (y : X) (xs : List X) → P y → Each P xs → Each P (y ∷ xs)
each_cons P y xs a b _ here = a
each_cons P y xs a b x (there h) = b x h

pub each_nil : {X : Type 0} (P : X → Type 0) → Each P []
each_nil P x h = elim h [ ]

pub each_one : {X : Type 0} (P : X → Type 0) (y : X) → P y → Each P (y ∷ [])
each_one P y a = each_cons P y [] a (each_nil P)

abbrev pub PathIn : ℕ → Path → Type 0
PathIn feats p = All (λ f. f < feats) p

-- a saying of types and features that are there
abbrev pub IsSayingIn : TypeTable → ℕ → ℕ → Saying ℕ → Type 0
IsSayingIn types count feats (has_type p name) = PathIn feats p × (type_number types name < count)
IsSayingIn types count feats (has_text p text) = PathIn feats p × (text_number types text < count)
IsSayingIn types count feats (carries p name) = PathIn feats p
IsSayingIn types count feats (is_there p) = PathIn feats p
IsSayingIn types count feats (are_equal p q) = PathIn feats p × PathIn feats q

carrier_in : (types : TypeTable) (count feats : ℕ) (name : Name) (p : Path) → PathIn feats p → (all : List (Saying ℕ)) → Each (IsSayingIn types count feats) all →
    PathIn feats (unwrap_or (first_carrier name all) p)
carrier_in types count feats name p pin [] k = pin
carrier_in types count feats name p pin (has_type q other ∷ more) k = carrier_in types count feats name p pin more (λ s h. k s (there h))
carrier_in types count feats name p pin (has_text q other ∷ more) k = carrier_in types count feats name p pin more (λ s h. k s (there h))
carrier_in types count feats name p pin (is_there q ∷ more) k = carrier_in types count feats name p pin more (λ s h. k s (there h))
carrier_in types count feats name p pin (are_equal q r ∷ more) k = carrier_in types count feats name p pin more (λ s h. k s (there h))
carrier_in types count feats name p pin (carries q other ∷ more) k =
    go (bytes_eq name other) (k (carries q other) here) (carrier_in types count feats name p pin more (λ s h. k s (there h)))
  where
    go : (b : Bool) → PathIn feats q → PathIn feats (unwrap_or (first_carrier name more) p) → PathIn feats (unwrap_or (cond b (Some q) (first_carrier name more)) p)
    go true a r = a
    go false a r = r

claim_in : (types : TypeTable) (count feats : ℕ) (all : List (Saying ℕ)) → Each (IsSayingIn types count feats) all → (s : Saying ℕ) → IsSayingIn types count feats s →
    IsClaimIn count feats (claim_said types all s)
claim_in types count feats all k (has_type p name) h = h
claim_in types count feats all k (has_text p text) h = h
claim_in types count feats all k (carries p name) h = (carrier_in types count feats name p h all k, h)
claim_in types count feats all k (is_there p) h = h
claim_in types count feats all k (are_equal p q) h = h

pub claims_in : (types : TypeTable) (count feats : ℕ) (all : List (Saying ℕ)) → Each (IsSayingIn types count feats) all →
    Each (IsClaimIn count feats) (claims_of_sayings types all)
claims_in types count feats all k c h =
    let r = Has-of_map (claim_said types all) c all h in
    subst (IsClaimIn count feats) (sym r.2) (claim_in types count feats all k r.0 (k r.0 r.1))

-- what is known of the names of a body
module _ (types : TypeTable) (count : ℕ) (feats : List Name) (n : ListNames) where
  abbrev pub MentionIn : Mention → Type 0
  MentionIn m = type_number types m.name < count

  abbrev pub UseIn : Used → Type 0
  UseIn u = number_of feats u.feature < length feats

  abbrev pub TextIn : Name → Type 0
  TextIn t = text_number types t < count

  abbrev pub SayingIn : Saying ℕ → Type 0
  SayingIn s = IsSayingIn types count (length feats) s

  path_in : (at : ℕ) (own : Bool) (path : List Name) → Each UseIn (path_uses at own path) → PathIn (length feats) (map (number_of feats) path)
  path_in at own [] k = All-nil (λ f. f < length feats)
  path_in at own (feature ∷ more) k = All-cons (λ f. f < length feats) (number_of feats feature) (map (number_of feats) more) (k (used at own feature) here) (rest more (λ u h. k u (there h)))
    where
      rest : (fs : List Name) → Each UseIn (map (used at false) fs) → PathIn (length feats) (map (number_of feats) fs)
      rest [] r = All-nil (λ f. f < length feats)
      rest (f ∷ fs) r = All-cons (λ g. g < length feats) (number_of feats f) (map (number_of feats) fs) (r (used at false f) here) (rest fs (λ u h. r u (there h)))

  cells_next : (at : ℕ) (body : BodyTree) (more : ItemTrees) → Each MentionIn (cell_mentions n at (more_items body more)) → Each MentionIn (cell_mentions n at more)
  cells_next at body no_items k = each_nil MentionIn
  cells_next at body (more_items b more) k = k

  uses_next : (at : ℕ) (own : Bool) (body : BodyTree) (more : ItemTrees) → Each UseIn (cell_uses n at own (more_items body more)) → Each UseIn (cell_uses n at own more)
  uses_next at own body no_items k = each_nil UseIn
  uses_next at own body (more_items b more) k = k

  past_in : (at : ℕ) (own : Bool) (p : Path) (items : ItemTrees) → PathIn (length feats) p → Each UseIn (cell_uses n at own items) →
      PathIn (length feats) (past_items (number_of feats n.rest) p items)
  past_in at own p no_items pin k = pin
  past_in at own p (more_items body more) pin k =
      past_in at own (p ++ number_of feats n.rest ∷ []) more (All-push (λ f. f < length feats) p (number_of feats n.rest) pin (k (used at own n.rest) (there here))) (uses_next at own body more k)

  mutual
    term_in : (own : Bool) (p : Path) (t : TermTree) → PathIn (length feats) p → Each MentionIn (term_mentions n t) → Each UseIn (term_uses n own t) → Each TextIn (strings_of_term t) →
        Each SayingIn (term_says (number_of feats) n p t)
    term_in own p (of_name name at) pin km ku kt = each_one SayingIn (has_type p name) (pin, km (mention at name) here)
    term_in own p (of_text text at) pin km ku kt = each_one SayingIn (has_text p text) (pin, kt text here)
    term_in own p (of_coref name at) pin km ku kt = each_one SayingIn (carries p name) pin
    term_in own p (of_avm attrs at) pin km ku kt = attrs_in own p at attrs pin km ku kt
    term_in own p (of_list items rest at) pin km ku kt =
        let m3 = each_left MentionIn (cell_mentions n at items ++ end_mentions n at rest ++ items_mention n items) (tail_mentions n rest) km in
        let m2 = each_left MentionIn (cell_mentions n at items ++ end_mentions n at rest) (items_mention n items) m3 in
        let u2 = each_left UseIn (cell_uses n at own items ++ items_use n items) (end_uses n (own && is_empty_list items) rest) ku in
        let cu = each_left UseIn (cell_uses n at own items) (items_use n items) u2 in
        each_both SayingIn (items_say (number_of feats) n p items) (end_says (number_of feats) n (past_items (number_of feats n.rest) p items) rest)
        (items_in at own p items pin (each_left MentionIn (cell_mentions n at items) (end_mentions n at rest) m2) cu
        (each_right MentionIn (cell_mentions n at items ++ end_mentions n at rest) (items_mention n items) m3)
        (each_right UseIn (cell_uses n at own items) (items_use n items) u2) (each_left TextIn (strings_of_items items) (strings_of_rest rest) kt))
        (end_in at (own && is_empty_list items) (past_items (number_of feats n.rest) p items) rest (past_in at own p items pin cu)
        (each_right MentionIn (cell_mentions n at items) (end_mentions n at rest) m2)
        (each_right MentionIn (cell_mentions n at items ++ end_mentions n at rest ++ items_mention n items) (tail_mentions n rest) km)
        (each_right UseIn (cell_uses n at own items ++ items_use n items) (end_uses n (own && is_empty_list items) rest) ku)
        (each_right TextIn (strings_of_items items) (strings_of_rest rest) kt))
    term_in own p (of_diff items at) pin km ku kt =
        let two = used at own n.diff_list ∷ used at own n.diff_last ∷ [] in
        let u2 = each_left UseIn (two ++ cell_uses n at false items) (items_use n items) ku in
        let ends = each_left UseIn two (cell_uses n at false items) u2 in
        let cu = each_right UseIn two (cell_uses n at false items) u2 in
        let q = p ++ number_of feats n.diff_list ∷ [] in
        let qin = All-push (λ f. f < length feats) p (number_of feats n.diff_list) pin (ends (used at own n.diff_list) here) in
        let lin = All-push (λ f. f < length feats) p (number_of feats n.diff_last) pin (ends (used at own n.diff_last) (there here)) in
        each_both SayingIn (items_say (number_of feats) n q items) (are_equal (past_items (number_of feats n.rest) q items) (p ++ number_of feats n.diff_last ∷ []) ∷ [])
        (items_in at false q items qin (each_left MentionIn (cell_mentions n at items) (items_mention n items) km) cu
        (each_right MentionIn (cell_mentions n at items) (items_mention n items) km) (each_right UseIn (two ++ cell_uses n at false items) (items_use n items) ku) kt)
        (each_one SayingIn (are_equal (past_items (number_of feats n.rest) q items) (p ++ number_of feats n.diff_last ∷ [])) (past_in at false q items qin cu, lin))

    body_in_range : (own : Bool) (p : Path) (b : BodyTree) → PathIn (length feats) p → Each MentionIn (body_mentions n b) → Each UseIn (body_uses n own b) → Each TextIn (strings_of_body b) →
        Each SayingIn (body_says (number_of feats) n p b)
    body_in_range own p no_terms pin km ku kt = each_nil SayingIn
    body_in_range own p (and_term t more) pin km ku kt =
        each_both SayingIn (term_says (number_of feats) n p t) (body_says (number_of feats) n p more)
        (term_in own p t pin (each_left MentionIn (term_mentions n t) (body_mentions n more) km) (each_left UseIn (term_uses n own t) (body_uses n own more) ku)
        (each_left TextIn (strings_of_term t) (strings_of_body more) kt))
        (body_in_range own p more pin (each_right MentionIn (term_mentions n t) (body_mentions n more) km) (each_right UseIn (term_uses n own t) (body_uses n own more) ku)
        (each_right TextIn (strings_of_term t) (strings_of_body more) kt))

    attrs_in : (own : Bool) (p : Path) (at : ℕ) (attrs : AttrTrees) → PathIn (length feats) p → Each MentionIn (attrs_mention n attrs) → Each UseIn (attrs_use n own at attrs) →
        Each TextIn (strings_of_attrs attrs) → Each SayingIn (attrs_say (number_of feats) n p attrs)
    attrs_in own p at no_attrs pin km ku kt = each_nil SayingIn
    attrs_in own p at (more_attrs path body more) pin km ku kt =
        let q = p ++ map (number_of feats) path in
        let inner = own && is_empty_path path in
        let u2 = each_left UseIn (path_uses at own path ++ body_uses n inner body) (attrs_use n own at more) ku in
        let qin = All-append (λ f. f < length feats) p (map (number_of feats) path) pin (path_in at own path (each_left UseIn (path_uses at own path) (body_uses n inner body) u2)) in
        each_cons SayingIn (is_there q) (body_says (number_of feats) n q body ++ attrs_say (number_of feats) n p more) qin
        (each_both SayingIn (body_says (number_of feats) n q body) (attrs_say (number_of feats) n p more)
        (body_in_range inner q body qin (each_left MentionIn (body_mentions n body) (attrs_mention n more) km) (each_right UseIn (path_uses at own path) (body_uses n inner body) u2)
        (each_left TextIn (strings_of_body body) (strings_of_attrs more) kt))
        (attrs_in own p at more pin (each_right MentionIn (body_mentions n body) (attrs_mention n more) km) (each_right UseIn (path_uses at own path ++ body_uses n inner body) (attrs_use n own at more) ku)
        (each_right TextIn (strings_of_body body) (strings_of_attrs more) kt)))

    items_in : (at : ℕ) (own : Bool) (p : Path) (items : ItemTrees) → PathIn (length feats) p → Each MentionIn (cell_mentions n at items) → Each UseIn (cell_uses n at own items) →
        Each MentionIn (items_mention n items) → Each UseIn (items_use n items) → Each TextIn (strings_of_items items) → Each SayingIn (items_say (number_of feats) n p items)
    items_in at own p no_items pin cm cu km ku kt = each_nil SayingIn
    items_in at own p (more_items body more) pin cm cu km ku kt =
        let first = p ++ number_of feats n.first ∷ [] in
        let rest = p ++ number_of feats n.rest ∷ [] in
        let fin = All-push (λ f. f < length feats) p (number_of feats n.first) pin (cu (used at own n.first) here) in
        let rin = All-push (λ f. f < length feats) p (number_of feats n.rest) pin (cu (used at own n.rest) (there here)) in
        let within = body_says (number_of feats) n first body in
        let after = items_say (number_of feats) n rest more in
        each_cons SayingIn (has_type p n.cons) (is_there first ∷ within ++ is_there rest ∷ after) (pin, cm (mention at n.cons) here)
        (each_cons SayingIn (is_there first) (within ++ is_there rest ∷ after) fin
        (each_both SayingIn within (is_there rest ∷ after)
        (body_in_range false first body fin (each_left MentionIn (body_mentions n body) (items_mention n more) km) (each_left UseIn (body_uses n false body) (items_use n more) ku)
        (each_left TextIn (strings_of_body body) (strings_of_items more) kt))
        (each_cons SayingIn (is_there rest) after rin
        (items_in at own rest more rin (cells_next at body more cm) (uses_next at own body more cu)
        (each_right MentionIn (body_mentions n body) (items_mention n more) km) (each_right UseIn (body_uses n false body) (items_use n more) ku)
        (each_right TextIn (strings_of_body body) (strings_of_items more) kt)))))

    end_in : (at : ℕ) (own : Bool) (p : Path) (rest : RestTree) → PathIn (length feats) p → Each MentionIn (end_mentions n at rest) → Each MentionIn (tail_mentions n rest) →
        Each UseIn (end_uses n own rest) → Each TextIn (strings_of_rest rest) → Each SayingIn (end_says (number_of feats) n p rest)
    end_in at own p closed pin em km ku kt = each_one SayingIn (has_type p n.null) (pin, em (mention at n.null) here)
    end_in at own p open_end pin em km ku kt = each_one SayingIn (has_type p n.list) (pin, em (mention at n.list) here)
    end_in at own p (tail_of body) pin em km ku kt = body_in_range own p body pin km ku kt

  -- what a body says, where its names are known
  pub said_in : (b : BodyTree) → Each MentionIn (body_mentions n b) → Each UseIn (body_uses n true b) → Each TextIn (strings_of_body b) →
      Each (IsClaimIn count (length feats)) (claims_said (record { types = types; names = n; feats = feats }) b)
  said_in b km ku kt =
      claims_in types count (length feats) (body_says (number_of feats) n [] b) (body_in_range true [] b (All-nil (λ f. f < length feats)) km ku kt)
