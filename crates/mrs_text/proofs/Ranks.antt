-- The number of a variable is its place among all that are written, at each step alike.
use Rattle.std.proofs.Common.{◌≡◌, ℕ, ◌∙◌, Bool, true, false, ◌==◌, if◌then◌else◌, List, [], ◌∷◌, ◌++◌, refl, ap, sym, subst, append_assoc, append-nil, length, Option, Some, None, decimal, arith}
use Rattle.std.specs.List.{flat_map}
use Rattle.mrs_model.specs.Meanings.{Property, Variable}
use Rattle.mrs_spelling.specs.declared.kinds.Kind.TheVariants.{PropName, PropValue}
use Rattle.mrs_text.specs.Written.{upper, variable_at, place_of, option_suc, seen_after}
use Rattle.mrs_reading.specs.Meaning.{Piece, emitted}
use Rattle.mrs_text.proofs.Eating.{same_number}
use Rattle.mrs_text.proofs.Steps.{Step, say, at, number_of, property_pieces, given_pieces, pieces}

-- the variables that are written after these steps
abbrev pub seen_end : List ℕ → List Step → List ℕ
seen_end seen [] = seen
seen_end seen (say bs ps ∷ ss) = seen_end seen ss
seen_end seen (at k v ∷ ss) = seen_end (seen_after (place_of v seen) seen v) ss

abbrev pub rank : List ℕ → ℕ → ℕ
rank order v = number_of (place_of v order) 0

abbrev pub key : List Variable → List ℕ → ℕ → List ℕ
key vars order v = (variable_at vars v).sort ++ decimal (rank order v)

-- the tokens without property lists
abbrev pub bare : List Variable → List ℕ → List Step → List Piece
bare vars order [] = []
bare vars order (say bs ps ∷ ss) = ps ++ bare vars order ss
bare vars order (at k v ∷ ss) = record { kind = k; text = key vars order v } ∷ bare vars order ss

-- more variables come to the end
pub record Longer (seen order : List ℕ) : Type 0 where
  pub more : List ℕ
  pub is : order ≡ seen ++ more

by_test : (v w : ℕ) (o : Option ℕ) (b : Bool) → (v == w) ≡ b → (if v == w then Some 0 else option_suc o) ≡ (if b then Some 0 else option_suc o)
by_test v w o b e = ap (λ (z : Bool). if z then Some 0 else option_suc o) e

place_stays : (v : ℕ) (seen more : List ℕ) (i : ℕ) → place_of v seen ≡ Some i → place_of v (seen ++ more) ≡ Some i
place_stays v [] more i e = absurd (cc)
place_stays v (w ∷ seen) more i e = by (v == w) refl (place_of v seen) refl (place_stays v seen more)
  where
    by : (b : Bool) → (v == w) ≡ b → (o : Option ℕ) → place_of v seen ≡ o → ((j : ℕ) → place_of v seen ≡ Some j → place_of v (seen ++ more) ≡ Some j) → place_of v (w ∷ (seen ++ more)) ≡ Some i
    by true f o g k = by_test v w (place_of v (seen ++ more)) true f ∙ sym (by_test v w (place_of v seen) true f) ∙ e
    by false f None g k = absurd (let h = sym e ∙ by_test v w (place_of v seen) false f ∙ ap option_suc g in cc)
    by false f (Some j) g k = by_test v w (place_of v (seen ++ more)) false f ∙ ap option_suc (k j g) ∙ sym (by_test v w (place_of v seen) false f ∙ ap option_suc g) ∙ e

place_new : (v : ℕ) (seen more : List ℕ) → place_of v seen ≡ None → place_of v ((seen ++ v ∷ []) ++ more) ≡ Some (length seen)
place_new v [] more e = by_test v v (place_of v more) true (same_number v)
place_new v (w ∷ seen) more e = by (v == w) refl (place_of v seen) refl (place_new v seen more)
  where
    by : (b : Bool) → (v == w) ≡ b → (o : Option ℕ) → place_of v seen ≡ o → (place_of v seen ≡ None → place_of v ((seen ++ v ∷ []) ++ more) ≡ Some (length seen)) → place_of v (w ∷ ((seen ++ v ∷ []) ++ more)) ≡ Some (length (w ∷ seen))
    by true f o g k = absurd (let h = sym e ∙ by_test v w (place_of v seen) true f in cc)
    by false f (Some j) g k = absurd (let h = sym e ∙ by_test v w (place_of v seen) false f ∙ ap option_suc g in cc)
    by false f None g k = by_test v w (place_of v ((seen ++ v ∷ []) ++ more)) false f ∙ ap option_suc (k g) ∙ ap Some (omega arith)

longer_next : (seen order : List ℕ) (v : ℕ) → Longer (seen_after (place_of v seen) seen v) order → Longer seen order
longer_next seen order v h = by (place_of v seen) h
  where
    by : (o : Option ℕ) → Longer (seen_after o seen v) order → Longer seen order
    by (Some i) k = k
    by None k = record { more = v ∷ k.more; is = k.is ∙ append_assoc seen (v ∷ []) k.more }

pub ends_longer : (seen : List ℕ) (ss : List Step) → Longer seen (seen_end seen ss)
ends_longer seen [] = record { more = []; is = sym (append-nil seen) }
ends_longer seen (say bs ps ∷ ss) = ends_longer seen ss
ends_longer seen (at k v ∷ ss) = longer_next seen (seen_end (seen_after (place_of v seen) seen v) ss) v (ends_longer (seen_after (place_of v seen) seen v) ss)

pub place_at : (seen order : List ℕ) (v : ℕ) → Longer (seen_after (place_of v seen) seen v) order → place_of v order ≡ Some (number_of (place_of v seen) (length seen))
place_at seen order v h = by (place_of v seen) refl h
  where
    by : (o : Option ℕ) → place_of v seen ≡ o → Longer (seen_after o seen v) order → place_of v order ≡ Some (number_of o (length seen))
    by (Some i) e k = ap (place_of v) k.is ∙ place_stays v seen k.more i e
    by None e k = ap (place_of v) k.is ∙ place_new v seen k.more e

pub number_is : (seen order : List ℕ) (v : ℕ) → Longer (seen_after (place_of v seen) seen v) order → number_of (place_of v seen) (length seen) ≡ rank order v
number_is seen order v h = sym (ap (λ o. number_of o 0) (place_at seen order v h))

-- What passes over property lists finds the same in the bare tokens.
module _ {C A : Type 0} (next : C → Piece → C) (gives : C → Piece → List A) (stays : (c : C) (t : List ℕ) → (next c (record { kind = PropName; text = t }) ≡ c) × (next c (record { kind = PropValue; text = t }) ≡ c))
    (silent : (c : C) (t : List ℕ) → (gives c (record { kind = PropName; text = t }) ≡ []) × (gives c (record { kind = PropValue; text = t }) ≡ [])) where
  past_props : (c : C) (ps : List Property) (rest : List Piece) → emitted next gives c (flat_map property_pieces ps ++ rest) ≡ emitted next gives c rest
  past_props c [] rest = refl
  past_props c (p ∷ ps) rest =
      let n : Piece = record { kind = PropName; text = upper p.name } in
      let v : Piece = record { kind = PropValue; text = p.value } in
      let more = flat_map property_pieces ps ++ rest in
      ap (λ z. z ++ emitted next gives (next c n) (v ∷ more)) (silent c (upper p.name)).0 ∙ ap (λ d. emitted next gives d (v ∷ more)) (stays c (upper p.name)).0
      ∙ ap (λ z. z ++ emitted next gives (next c v) more) (silent c p.value).1 ∙ ap (λ d. emitted next gives d more) (stays c p.value).1 ∙ past_props c ps rest

  past_given : (c : C) (o : Option ℕ) (ps : List Property) (rest : List Piece) → emitted next gives c (given_pieces o ps ++ rest) ≡ emitted next gives c rest
  past_given c (Some i) ps rest = refl
  past_given c None ps rest = past_props c ps rest

  emitted_on : (c : C) (ps qs rs : List Piece) → ((d : C) → emitted next gives d qs ≡ emitted next gives d rs) → emitted next gives c (ps ++ qs) ≡ emitted next gives c (ps ++ rs)
  emitted_on c [] qs rs h = h c
  emitted_on c (p ∷ ps) qs rs h = ap (λ z. gives c p ++ z) (emitted_on (next c p) ps qs rs h)

  pub same_bare : (vars : List Variable) (order : List ℕ) (c : C) (seen : List ℕ) (ss : List Step) → seen_end seen ss ≡ order → emitted next gives c (pieces vars seen ss) ≡ emitted next gives c (bare vars order ss)
  same_bare vars order c seen [] e = refl
  same_bare vars order c seen (say bs ps ∷ ss) e = emitted_on c ps (pieces vars seen ss) (bare vars order ss) (λ d. same_bare vars order d seen ss e)
  same_bare vars order c seen (at k v ∷ ss) e =
      let s = seen_after (place_of v seen) seen v in
      let n = number_is seen order v (subst (Longer s) e (ends_longer s ss)) in
      let p : Piece = record { kind = k; text = (variable_at vars v).sort ++ decimal (number_of (place_of v seen) (length seen)) } in
      let q : Piece = record { kind = k; text = key vars order v } in
      let i : p ≡ q = ap (λ (z : ℕ). record { kind = k; text = (variable_at vars v).sort ++ decimal z }) n in
      ap (λ z. gives c p ++ z) (past_given (next c p) (place_of v seen) (variable_at vars v).props (pieces vars s ss) ∙ same_bare vars order (next c p) s ss e)
      ∙ ap (λ (z : Piece). gives c z ++ emitted next gives (next c z) (bare vars order ss)) i
