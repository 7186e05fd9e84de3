-- The tokens of the text mean the MRS.
use Rattle.std.proofs.Common.{◌≡◌, ℕ, ◌∙◌, ◌<◌, ◌^◌, ◌↔◌, inl, inr, Bool, true, false, ◌==◌, eqb-true, if◌then◌else◌, List, [], ◌∷◌, ◌++◌, map, refl, ap, sym, subst, append-nil, length, get_or, codes, Option, Some, None, decimal, arith}
use Rattle.std.specs.List.{Contains, All, AllZip, slice_get, flat_map}
use Rattle.std.specs.Str.{chars, str_to_ascii_lowercase}
use Rattle.std.proofs.lemmas.Option.{same_Some, slice_get-get_or}
use Rattle.std.proofs.lemmas.List.Elements.{All-get_or, Contains-append_left, Contains-append_right, Contains-append_cases}
use Rattle.mrs_model.specs.Meanings.{Property, Variable, Constraint, Meaning}
use Rattle.mrs_model.specs.Valid.{IsVariable, IsConstraint, IsValid}
use Rattle.mrs_spelling.specs.declared.kinds.Kind.{Kind}
use Rattle.mrs_spelling.specs.declared.kinds.Kind.TheVariants.{Top, Index, PropName, PropValue, High, HandleRel, Low, Left, VariableRel, Right}
use Rattle.mrs_spelling.specs.Reading.{Tok}
use Rattle.mrs_spelling.specs.Conditions.{Given, given, nothing_before, word_of, AllKeep}
use Rattle.mrs_reading.specs.Meaning.{Known, Linked, Piece, piece_of, is_variable, Is, IsWritten, IsVariableOf, IsMark, is_top, is_index, emitted, ends_after, link_at, no_ends, links, known_after, ended_at, nothing_known, predications, is_high, is_handle_rel, is_low, is_left, is_variable_rel, is_right, IsConstraintOf, IsPredicationOf, IsMeaningOf}
use Rattle.mrs_reading.specs.Places.{Says}
use Rattle.mrs_reading.proofs.Predicated.{nothing_in, contains_map, map_contains}
use Rattle.mrs_reading.proofs.Moves.{first_or_other, is_first, is_other}
use Rattle.mrs_text.specs.Written.{upper, variable_at, place_of, option_suc, seen_after, text_of}
use Rattle.mrs_text.specs.Stored.{IsStoredProperty, IsStoredConstraint, IsStored}
use Rattle.mrs_text.proofs.Steps.{Step, say, at, number_of, property_pieces, given_pieces, pieces, eps_then, icons_then, last_step, ending_steps, steps}
use Rattle.mrs_text.proofs.SeenLemmas.{Fit, fit_none, fit_few, not_placed, placed_below}
use Rattle.mrs_text.proofs.Spelling.{is_spelt}
use Rattle.mrs_text.proofs.Variables.{one_digit}
use Rattle.mrs_text.proofs.Ranks.{seen_end, rank, key, bare, same_bare, Longer, ends_longer, number_is}
use Rattle.mrs_text.proofs.Knowing.{known_of, eps_told, predications_are}
use Rattle.mrs_text.proofs.Linked.{Ignores, past_eps, past_constraints, links_told, constraints_are}
use Rattle.mrs_text.proofs.Keys.{key_sort, key_one, low_key, keys_at, keys_get, keys_back, keys_length, place_one}
use Rattle.mrs_text.proofs.Giving.{Calm, Sure, sure_steps, fit_end, words, gifts, gifts_of, given_of, given_is}
use Rattle.mrs_text.proofs.Standing.{Writes, all_written, writes_seen}
use Rattle.mrs_text.proofs.Keeping.{all_keep, free_steps}

placed_there : (v : ℕ) (ws : List ℕ) (i : ℕ) → place_of v ws ≡ Some i → Contains ws v
placed_there v [] i e = absurd (cc)
placed_there v (w ∷ ws) i e = by (v == w) refl (place_of v ws) refl (placed_there v ws)
  where
    by : (b : Bool) → (v == w) ≡ b → (o : Option ℕ) → place_of v ws ≡ o → ((j : ℕ) → place_of v ws ≡ Some j → Contains ws v) → Contains (w ∷ ws) v
    by true f o g k = subst (λ (z : ℕ). Contains (z ∷ ws) v) (eqb-true v w f) (is_first v ws)
    by false f (Some j) g k = is_other w ws v (k j g)
    by false f None g k = absurd (let h : place_of v (w ∷ ws) ≡ None = ap (λ (b : Bool). if b then Some 0 else option_suc (place_of v ws)) f ∙ ap option_suc g in cc)

-- a variable stands where it was put
seen_has : (v : ℕ) (s : List ℕ) → Contains (seen_after (place_of v s) s v) v
seen_has v s = by (place_of v s) refl
  where
    by : (o : Option ℕ) → place_of v s ≡ o → Contains (seen_after o s v) v
    by None e = Contains-append_right s (v ∷ []) v (is_first v [])
    by (Some i) e = placed_there v s i e

-- what a variable of these steps gives
module _ (vars : List Variable) (order : List ℕ) (n : ℕ) where
  record Written (ps : List Piece) (i : ℕ) : Type 0 where
    kind : Kind
    is : is_variable kind ≡ true
    there : Contains ps (record { kind = kind; text = key vars order i })

  pub text_is : (v : ℕ) (seen : List ℕ) (ss : List Step) → seen_end (seen_after (place_of v seen) seen v) ss ≡ order → (variable_at vars v).sort ++ decimal (number_of (place_of v seen) (length seen)) ≡ key vars order v
  text_is v seen ss e = let u = seen_after (place_of v seen) seen v in ap (λ z. (variable_at vars v).sort ++ decimal z) (number_is seen order v (subst (Longer u) e (ends_longer u ss)))

  written_on : (ps qs : List Piece) (i : ℕ) → Written qs i → Written (ps ++ qs) i
  written_on ps qs i w = record { kind = w.kind; is = w.is; there = Contains-append_right ps qs (record { kind = w.kind; text = key vars order i }) w.there }

  piece_in : (i : ℕ) (ss : List Step) (seen : List ℕ) → Sure n ss → seen_end seen ss ≡ order → Writes i ss → Written (pieces vars seen ss) i
  piece_in i [] seen s e w = absurd w
  piece_in i (say bs ps ∷ ss) seen s e w = written_on ps (pieces vars seen ss) i (piece_in i ss seen s.1 e w)
  piece_in i (at k v ∷ ss) seen s e w =
      let u = seen_after (place_of v seen) seen v in
      let t = (variable_at vars v).sort ++ decimal (number_of (place_of v seen) (length seen)) in
      let rest = given_pieces (place_of v seen) (variable_at vars v).props ++ pieces vars u ss in
      elim w [
        | inl q ↦ record { kind = k; is = s.0; there = subst (λ (z : List ℕ). Contains (record { kind = k; text = t } ∷ rest) (record { kind = k; text = z })) (text_is v seen ss e ∙ ap (key vars order) q) (is_first (record { kind = k; text = t }) rest) }
        | inr q ↦ written_on (record { kind = k; text = t } ∷ given_pieces (place_of v seen) (variable_at vars v).props) (pieces vars u ss) i (piece_in i ss u s.2 e q)
      ]

  -- and each token of a variable is of one
  record From (p : Piece) : Type 0 where
    by : ℕ
    small : by < n
    text : p.text ≡ key vars order by

  no_calm : (ps : List Piece) (p : Piece) → Calm ps → Contains ps p → is_variable p.kind ≡ true → ⊥
  no_calm [] p c h q = nothing_in p h
  no_calm (x ∷ ps) p c h q = elim (first_or_other x ps p h) [
    | inl e ↦ (let a : is_variable x.kind ≡ true = ap (λ (z : Piece). is_variable z.kind) e ∙ q in let b = c.1 in cc)
    | inr d ↦ no_calm ps p c.2 d q
  ]

  no_props : (ps : List Property) (p : Piece) → Contains (flat_map property_pieces ps) p → is_variable p.kind ≡ true → ⊥
  no_props [] p h q = nothing_in p h
  no_props (x ∷ ps) p h q =
      let a : Piece = record { kind = PropName; text = upper x.name } in
      let b : Piece = record { kind = PropValue; text = x.value } in
      elim (first_or_other a (b ∷ flat_map property_pieces ps) p h) [
        | inl e ↦ (let w : false ≡ true = ap (λ (z : Piece). is_variable z.kind) e ∙ q in cc)
        | inr d ↦ (elim (first_or_other b (flat_map property_pieces ps) p d) [
          | inl e ↦ (let w : false ≡ true = ap (λ (z : Piece). is_variable z.kind) e ∙ q in cc)
          | inr k ↦ no_props ps p k q
        ])
      ]

  no_given : (o : Option ℕ) (ps : List Property) (p : Piece) → Contains (given_pieces o ps) p → is_variable p.kind ≡ true → ⊥
  no_given (Some i) ps p h q = nothing_in p h
  no_given None ps p h q = no_props ps p h q

  piece_from : (p : Piece) (ss : List Step) (seen : List ℕ) → Sure n ss → seen_end seen ss ≡ order → Contains (pieces vars seen ss) p → is_variable p.kind ≡ true → From p
  piece_from p [] seen s e h q = absurd (nothing_in p h)
  piece_from p (say bs ps ∷ ss) seen s e h q = elim (Contains-append_cases ps (pieces vars seen ss) p h) [
    | inl c ↦ absurd (no_calm ps p s.0 c q)
    | inr c ↦ piece_from p ss seen s.1 e c q
  ]
  piece_from p (at k v ∷ ss) seen s e h q =
      let u = seen_after (place_of v seen) seen v in
      let t = (variable_at vars v).sort ++ decimal (number_of (place_of v seen) (length seen)) in
      let ps = given_pieces (place_of v seen) (variable_at vars v).props in
      elim (first_or_other (record { kind = k; text = t }) (ps ++ pieces vars u ss) p h) [
        | inl c ↦ record { by = v; small = s.1; text = sym (ap (λ (z : Piece). z.text) c) ∙ text_is v seen ss e }
        | inr c ↦ (elim (Contains-append_cases ps (pieces vars u ss) p c) [
          | inl d ↦ absurd (no_given (place_of v seen) (variable_at vars v).props p d q)
          | inr d ↦ piece_from p ss u s.2 e d q
        ])
      ]

  -- the properties that are given
  given_has : (i : ℕ) (p : Property) (ss : List Step) (seen : List ℕ) → Writes i ss → place_of i seen ≡ None → Contains (variable_at vars i).props p → Contains (given_of vars order seen ss) (record { key = key vars order i; name = p.name; value = p.value })
  given_has i p [] seen w e c = absurd w
  given_has i p (say bs ps ∷ ss) seen w e c = given_has i p ss seen w e c
  given_has i p (at k v ∷ ss) seen w e c = by (place_of v seen) (place_of i (seen_after (place_of v seen) seen v)) refl refl (given_has i p ss (seen_after (place_of v seen) seen v))
    where
      by : (o q : Option ℕ) → place_of v seen ≡ o → place_of i (seen_after (place_of v seen) seen v) ≡ q → (Writes i ss → place_of i (seen_after (place_of v seen) seen v) ≡ None → Contains (variable_at vars i).props p → Contains (given_of vars order (seen_after (place_of v seen) seen v) ss) (record { key = key vars order i; name = p.name; value = p.value }))
          → Contains (gifts_of (place_of v seen) (key vars order v) (variable_at vars v).props ++ given_of vars order (seen_after (place_of v seen) seen v) ss) (record { key = key vars order i; name = p.name; value = p.value })
      by o None a b on = elim w [
        | inl d ↦ absurd (not_placed i (seen_after (place_of v seen) seen v) b (subst (Contains (seen_after (place_of v seen) seen v)) d (seen_has v seen)))
        | inr d ↦ Contains-append_right (gifts_of (place_of v seen) (key vars order v) (variable_at vars v).props) (given_of vars order (seen_after (place_of v seen) seen v) ss) (record { key = key vars order i; name = p.name; value = p.value }) (on d b c)
      ]
      by (Some x) (Some j) a b on = absurd (let z : place_of i seen ≡ Some j = subst (λ (o : Option ℕ). place_of i (seen_after o seen v) ≡ Some j) a b in let y = e in cc)
      by None (Some j) a b on =
          let z : place_of i (seen ++ v ∷ []) ≡ Some j = subst (λ (o : Option ℕ). place_of i (seen_after o seen v) ≡ Some j) a b in
          elim (Contains-append_cases seen (v ∷ []) i (placed_there i (seen ++ v ∷ []) j z)) [
            | inl d ↦ absurd (not_placed i seen e d)
            | inr d ↦ (elim (first_or_other v [] i d) [
              | inl q ↦ Contains-append_left (gifts_of (place_of v seen) (key vars order v) (variable_at vars v).props) (given_of vars order (seen_after (place_of v seen) seen v) ss) (record { key = key vars order i; name = p.name; value = p.value })
                  (subst (λ (o : Option ℕ). Contains (gifts_of o (key vars order v) (variable_at vars v).props) (record { key = key vars order i; name = p.name; value = p.value })) (sym a)
                  (subst (λ (x : ℕ). Contains (gifts (key vars order x) (variable_at vars x).props) (record { key = key vars order i; name = p.name; value = p.value })) (sym q)
                  (contains_map (λ (r : Property). record { key = key vars order i; name = r.name; value = r.value }) (variable_at vars i).props p c)))
              | inr q ↦ absurd (nothing_in i q)
            ])
          ]

  record Gives (g : Given) : Type 0 where
    by : ℕ
    small : by < n
    property : Property
    there : Contains (variable_at vars by).props property
    key_is : key vars order by ≡ g.key
    name_is : property.name ≡ g.name
    value_is : property.value ≡ g.value

  gift_from : (o : Option ℕ) (v : ℕ) (g : Given) → v < n → Contains (gifts_of o (key vars order v) (variable_at vars v).props) g → Gives g
  gift_from (Some i) v g l h = absurd (nothing_in g h)
  gift_from None v g l h =
      let w = map_contains (λ (r : Property). record { key = key vars order v; name = r.name; value = r.value }) (variable_at vars v).props g h in
      record { by = v; small = l; property = w.0; there = w.1; key_is = ap (λ (z : Given). z.key) w.2; name_is = ap (λ (z : Given). z.name) w.2; value_is = ap (λ (z : Given). z.value) w.2 }

  given_from : (g : Given) (ss : List Step) (seen : List ℕ) → Sure n ss → Contains (given_of vars order seen ss) g → Gives g
  given_from g [] seen s h = absurd (nothing_in g h)
  given_from g (say bs ps ∷ ss) seen s h = given_from g ss seen s.1 h
  given_from g (at k v ∷ ss) seen s h = elim (Contains-append_cases (gifts_of (place_of v seen) (key vars order v) (variable_at vars v).props) (given_of vars order (seen_after (place_of v seen) seen v) ss) g h) [
    | inl c ↦ gift_from (place_of v seen) v g s.1 c
    | inr c ↦ given_from g ss (seen_after (place_of v seen) seen v) s.2 c
  ]

words_of : (es : List Tok) → words (map piece_of es) ≡ map word_of es
words_of [] = refl
words_of (e ∷ es) = ap (λ z. word_of e ∷ z) (words_of es)

module _ (m : Meaning) (v : IsValid m) (s : IsStored m) where
  abbrev size : ℕ
  size = length m.vars

  abbrev order : List ℕ
  order = seen_end [] (steps m)

  abbrev ps : List Piece
  ps = pieces m.vars [] (steps m)

  abbrev keys : List (List ℕ)
  keys = keys_at m.vars order 0 m.vars

  sure : Sure size (steps m)
  sure = sure_steps m v

  fit : Fit size order
  fit = fit_end size [] (steps m) sure (fit_none size)

  writes : (i : ℕ) → i < size → Writes i (steps m)
  writes i l = all_written m i (v.standing i l)

  in_order : (i : ℕ) → i < size → Contains order i
  in_order i l = writes_seen i [] (steps m) (λ w u. seen_has w u) (writes i l)

  record Place (i : ℕ) : Type 0 where
    at_place : ℕ
    is : place_of i order ≡ Some at_place

  place : (i : ℕ) → i < size → Place i
  place i l = by (place_of i order) refl
    where
      by : (o : Option ℕ) → place_of i order ≡ o → Place i
      by None e = absurd (not_placed i order e (in_order i l))
      by (Some j) e = record { at_place = j; is = e }

  rank_small : (i : ℕ) → i < size → rank order i < 2 ^ 64
  rank_small i l =
      let w = place i l in
      let a = placed_below i order w.at_place w.is in
      let b = fit_few size order fit in
      let f = s.few in
      let e : rank order i ≡ w.at_place = ap (λ o. number_of o 0) w.is in
      omega (arith, a, b, f, e)

  variable_ok : (i : ℕ) → i < size → IsVariable (variable_at m.vars i)
  variable_ok i l = All-get_or IsVariable m.vars i (record { sort = []; props = [] }) l v.vars

  low_is : (i : ℕ) → i < size → str_to_ascii_lowercase (key m.vars order i) ≡ key m.vars order i
  low_is i l = low_key (variable_at m.vars i).sort (rank order i) (variable_ok i l).sort (rank_small i l)

  one_key : (i j : ℕ) → i < size → j < size → key m.vars order i ≡ key m.vars order j → i ≡ j
  one_key i j k l e =
      let a = place i k in
      let b = place j l in
      let r = key_one (variable_at m.vars i).sort (variable_at m.vars j).sort (rank order i) (rank order j) (variable_ok i k).sort (variable_ok j l).sort (rank_small i k) (rank_small j l) e in
      let p : a.at_place ≡ b.at_place = sym (ap (λ o. number_of o 0) a.is) ∙ r ∙ ap (λ o. number_of o 0) b.is in
      place_one i j order a.at_place a.is (b.is ∙ ap Some (sym p))

  stored_props : (i : ℕ) → i < size → All IsStoredProperty (variable_at m.vars i).props
  stored_props i l = All-get_or (λ (x : Variable). All IsStoredProperty x.props) m.vars i (record { sort = []; props = [] }) l s.vars

  there : (k : Kind) (i : ℕ) → i < size → Is keys (record { kind = k; text = key m.vars order i }) i
  there k i l = keys_get m.vars order 0 m.vars i l ∙ ap (λ z. Some (key m.vars order z)) (omega arith) ∙ ap Some (sym (low_is i l))

  keep : AllKeep (words ps)
  keep = all_keep (words ps) (free_steps m.vars order size low_is (λ i l. ((variable_ok i l).props, stored_props i l, (variable_ok i l).order)) one_key m v.top v.index v.eps s.eps v.hcons v.icons [] refl nothing_before [] refl (λ g c. absurd (nothing_in g c)))

  -- the numbering
  record At (i : ℕ) (k : List ℕ) : Type 0 where
    small : i < size
    is : key m.vars order i ≡ k

  back : (i : ℕ) (k : List ℕ) → slice_get keys i ≡ Some k → At i k
  back i k e = let w = keys_back m.vars order 0 m.vars i k e in record { small = w.0; is = ap (key m.vars order) (omega arith) ∙ w.1 }

  distinct : (i j : ℕ) (k : List ℕ) → slice_get keys i ≡ Some k → slice_get keys j ≡ Some k → i ≡ j
  distinct i j k e f = let a = back i k e in let b = back j k f in one_key i j a.small b.small (a.is ∙ sym b.is)

  key_in : (i : ℕ) → i < size → Contains keys (key m.vars order i)
  key_in i l =
      let n = keys_length m.vars order 0 m.vars in
      let k = key m.vars order i in
      let h : i < length keys = omega (arith, l, n) in
      let e : slice_get keys i ≡ Some k = keys_get m.vars order 0 m.vars i l ∙ ap (λ z. Some (key m.vars order z)) (omega arith) in
      (i, h, same_Some (get_or keys i k) k (sym (slice_get-get_or keys i k h) ∙ e))

  all_keys : (k : List ℕ) → Contains keys k ↔ IsWritten ps k
  all_keys k = (to, from)
    where
      to : Contains keys k → IsWritten ps k
      to c =
          let a = back c.0 k (slice_get-get_or keys c.0 k c.1 ∙ ap Some c.2) in
          let w = piece_in m.vars order size c.0 (steps m) [] sure refl (writes c.0 a.small) in
          record { piece = record { kind = w.kind; text = key m.vars order c.0 }; there = w.there; kind = w.is; same = low_is c.0 a.small ∙ a.is }

      from : IsWritten ps k → Contains keys k
      from w =
          let p = piece_from m.vars order size w.piece (steps m) [] sure refl w.there w.kind in
          subst (Contains keys) (sym (low_is p.by p.small) ∙ ap str_to_ascii_lowercase (sym p.text) ∙ w.same) (key_in p.by p.small)

  given_all : given (words ps) ≡ given_of m.vars order [] (steps m)
  given_all = given_is m.vars order size low_is (λ i l. ((variable_ok i l).props, stored_props i l)) (steps m) [] nothing_before sure refl

  same_property : (p q : Property) → p.name ≡ q.name → p.value ≡ q.value → p ≡ q
  same_property p q a b = rw (a, b) refl

  are_variables : (i : ℕ) (k : List ℕ) (x : Variable) → slice_get keys i ≡ Some k → slice_get m.vars i ≡ Some x → IsVariableOf (given (words ps)) k x
  are_variables i k x e f =
      let a = back i k e in
      let y = variable_at m.vars i in
      let g : y ≡ x = same_Some y x (sym (slice_get-get_or m.vars i (record { sort = []; props = [] }) a.small) ∙ f) in
      subst (λ (z : Variable). IsVariableOf (given (words ps)) k z) g (subst (λ (z : List ℕ). IsVariableOf (given (words ps)) z y) a.is
      (subst (λ (z : List Given). IsVariableOf z (key m.vars order i) y) (sym given_all) (record {
        sort = sym (key_sort y.sort (rank order i) (variable_ok i a.small).sort (rank_small i a.small));
        order = (variable_ok i a.small).order;
        props = λ p. (
          (λ c. given_has m.vars order size i p (steps m) [] (writes i a.small) refl c),
          λ c. (let w = given_from m.vars order size (record { key = key m.vars order i; name = p.name; value = p.value }) (steps m) [] sure c in
              let j : w.by ≡ i = one_key w.by i w.small a.small w.key_is in
              subst (Contains y.props) (same_property w.property p w.name_is w.value_is) (subst (λ (z : ℕ). Contains (variable_at m.vars z).props w.property) j w.there)),
        );
      })))

  at_variable : (k : Kind) (i : ℕ) (seen : List ℕ) (ss : List Step) → seen_end (seen_after (place_of i seen) seen i) ss ≡ order → i < size → Is keys (record { kind = k; text = (variable_at m.vars i).sort ++ decimal (number_of (place_of i seen) (length seen)) }) i
  at_variable k i seen ss e l = subst (λ (z : List ℕ). Is keys (record { kind = k; text = z }) i) (sym (text_is m.vars order size i seen ss e)) (there k i l)

  abbrev seen_top : List ℕ
  seen_top = seen_after (place_of m.top []) [] m.top

  abbrev top_piece : Piece
  top_piece = record { kind = Top; text = (variable_at m.vars m.top).sort ++ decimal (number_of (place_of m.top []) 0) }

  abbrev index_piece : Piece
  index_piece = record { kind = Index; text = (variable_at m.vars m.index).sort ++ decimal (number_of (place_of m.index seen_top) (length seen_top)) }

  abbrev from_rels : List Step
  from_rels = say (codes " RELS: <") [] ∷ eps_then m.eps (say (codes " >") [] ∷ ending_steps m)

  abbrev from_index : List Step
  from_index = say (codes " INDEX: ") [] ∷ at Index m.index ∷ from_rels

  is_top_of : IsMark is_top keys ps m.top
  is_top_of = record { piece = top_piece; there = is_first top_piece (given_pieces (place_of m.top []) (variable_at m.vars m.top).props ++ pieces m.vars seen_top from_index); kind_is = refl; same = at_variable Top m.top [] from_index refl v.top }

  is_index_of : IsMark is_index keys ps m.index
  is_index_of =
      let rest = given_pieces (place_of m.index seen_top) (variable_at m.vars m.index).props ++ pieces m.vars (seen_after (place_of m.index seen_top) seen_top m.index) from_rels in
      let given_top = given_pieces (place_of m.top []) (variable_at m.vars m.top).props in
      record {
        piece = index_piece;
        there = is_other top_piece (given_top ++ (index_piece ∷ rest)) index_piece (Contains-append_right given_top (index_piece ∷ rest) index_piece (is_first index_piece rest));
        kind_is = refl;
        same = at_variable Index m.index seen_top from_rels refl v.index;
      }

  -- elementary predications
  icons_pass : {C A : Type 0} (next : C → Piece → C) (gives : C → Piece → List A) → Ignores next gives m.vars order Left → Ignores next gives m.vars order VariableRel → Ignores next gives m.vars order Right → (c : C) → emitted next gives c (bare m.vars order (icons_then m.icons last_step)) ≡ []
  icons_pass next gives i j k c = by m.icons
    where
      by : (cs : List Constraint) → emitted next gives c (bare m.vars order (icons_then cs last_step)) ≡ []
      by [] = refl
      by (x ∷ cs) = past_constraints next gives m.vars order Left VariableRel Right i j k c (x ∷ cs) (say (codes " >") [] ∷ last_step)

  are_predications : AllZip (IsPredicationOf keys) (predications ps) m.eps
  are_predications =
      let e = same_bare known_after ended_at (λ c t. (refl, refl)) (λ c t. (refl, refl)) m.vars order nothing_known [] (steps m) refl in
      let f = eps_told m.vars order m.eps (say (codes " >") [] ∷ ending_steps m) in
      let g = past_constraints known_after ended_at m.vars order High HandleRel Low (λ c t. (refl, refl)) (λ c t. (refl, refl)) (λ c t. (refl, refl)) nothing_known m.hcons (say (codes " >") [] ∷ icons_then m.icons last_step) in
      let h = icons_pass known_after ended_at (λ c t. (refl, refl)) (λ c t. (refl, refl)) (λ c t. (refl, refl)) nothing_known in
      let known = map (known_of m.vars order) m.eps in
      let i : predications ps ≡ known = e ∙ f ∙ ap (λ z. known ++ z) (g ∙ h) ∙ append-nil known in
      subst (λ (z : List Known). AllZip (IsPredicationOf keys) z m.eps) (sym i) (predications_are m.vars order one_digit keys there m.eps v.eps s.eps)

  are_hcons : AllZip (IsConstraintOf keys) (links is_high is_handle_rel is_low ps) m.hcons
  are_hcons =
      let next = ends_after is_high is_handle_rel in
      let gives = link_at is_low in
      let e = same_bare next gives (λ c t. (refl, refl)) (λ c t. (refl, refl)) m.vars order no_ends [] (steps m) refl in
      let f = past_eps next gives m.vars order (record { at_run = λ c t. (refl, refl); at_quoted = λ c t. (refl, refl); at_link = λ c t. (refl, refl); at_role = λ c t. (refl, refl); at_filler = λ c t. (refl, refl); at_open = λ c t. (refl, refl); at_text = λ c t. (refl, refl); at_end = λ c t. (refl, refl) }) m.eps no_ends (say (codes " >") [] ∷ ending_steps m) in
      let g = links_told m.vars order is_high is_handle_rel is_low High HandleRel Low refl refl refl refl refl refl refl refl no_ends m.hcons (say (codes " >") [] ∷ icons_then m.icons last_step) (icons_pass next gives (λ c t. (refl, refl)) (λ c t. (refl, refl)) (λ c t. (refl, refl))) in
      subst (λ (z : List Linked). AllZip (IsConstraintOf keys) z m.hcons) (sym (e ∙ f ∙ g)) (constraints_are m.vars order is_high is_handle_rel is_low High HandleRel Low refl refl refl refl refl refl refl refl keys there m.hcons v.hcons s.hcons)

  are_icons : AllZip (IsConstraintOf keys) (links is_left is_variable_rel is_right ps) m.icons
  are_icons =
      let next = ends_after is_left is_variable_rel in
      let gives = link_at is_right in
      let e = same_bare next gives (λ c t. (refl, refl)) (λ c t. (refl, refl)) m.vars order no_ends [] (steps m) refl in
      let f = past_eps next gives m.vars order (record { at_run = λ c t. (refl, refl); at_quoted = λ c t. (refl, refl); at_link = λ c t. (refl, refl); at_role = λ c t. (refl, refl); at_filler = λ c t. (refl, refl); at_open = λ c t. (refl, refl); at_text = λ c t. (refl, refl); at_end = λ c t. (refl, refl) }) m.eps no_ends (say (codes " >") [] ∷ ending_steps m) in
      let g = past_constraints next gives m.vars order High HandleRel Low (λ c t. (refl, refl)) (λ c t. (refl, refl)) (λ c t. (refl, refl)) no_ends m.hcons (say (codes " >") [] ∷ icons_then m.icons last_step) in
      subst (λ (z : List Linked). AllZip (IsConstraintOf keys) z m.icons) (sym (e ∙ f ∙ g)) (by m.icons v.icons s.icons)
    where
      by : (cs : List Constraint) → All (IsConstraint (length m.vars)) cs → All IsStoredConstraint cs → AllZip (IsConstraintOf keys) (emitted (ends_after is_left is_variable_rel) (link_at is_right) no_ends (bare m.vars order (icons_then cs last_step))) cs
      by [] h k = tt
      by (c ∷ cs) h k =
          let g = links_told m.vars order is_left is_variable_rel is_right Left VariableRel Right refl refl refl refl refl refl refl refl no_ends (c ∷ cs) (say (codes " >") [] ∷ last_step) (λ e. refl) in
          subst (λ (z : List Linked). AllZip (IsConstraintOf keys) z (c ∷ cs)) (sym g) (constraints_are m.vars order is_left is_variable_rel is_right Left VariableRel Right refl refl refl refl refl refl refl refl keys there (c ∷ cs) h k)

  is_meaning : IsMeaningOf ps m
  is_meaning = record {
    keys = keys;
    distinct = distinct;
    all = all_keys;
    even = sym (keys_length m.vars order 0 m.vars);
    vars = are_variables;
    top = is_top_of;
    index = is_index_of;
    eps = are_predications;
    hcons = are_hcons;
    icons = are_icons;
  }

  pub says : Says m (chars (text_of m))
  says =
      let w = is_spelt m v s in
      let k : AllKeep (words (map piece_of w.toks)) = subst (λ (z : List Piece). AllKeep (words z)) (sym w.pieces) keep in
      record {
        toks = w.toks;
        spelled = w.spelled;
        keeps = subst AllKeep (words_of w.toks) k;
        meaning = subst (λ (z : List Piece). IsMeaningOf z m) (sym w.pieces) is_meaning;
      }
