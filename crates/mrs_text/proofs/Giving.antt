-- The properties that the tokens give.
use Rattle.std.proofs.Common.{◌≡◌, ℕ, ◌∙◌, ◌<◌, Bool, true, false, List, [], ◌∷◌, ◌++◌, map, refl, ap, subst, length, nat_lt, ◌&&◌, if◌then◌else◌, codes, Option, Some, None, decimal}
use Rattle.std.specs.List.{All, flat_map, list_all}
use Rattle.std.specs.Str.{chars, str_to_ascii_lowercase}
use Rattle.std.proofs.lemmas.List.Elements.{All-head, All-tail}
use Rattle.mrs_model.specs.declared.Extent.{Extent}
use Rattle.mrs_model.specs.Meanings.{Property, Variable, Filler as Filled, of_var, of_text, Argument, Predication, Constraint, Meaning}
use Rattle.mrs_model.specs.Valid.{IsProperty, IsFiller, IsArgument, IsPredication, IsConstraint, IsValid}
use Rattle.mrs_spelling.specs.declared.kinds.Kind.{Kind}
use Rattle.mrs_spelling.specs.declared.kinds.Kind.TheVariants.{Top, Index, PropName, PropValue, PredRun, PredText, Filler, EpEnd, High, HandleRel, Low, Left, VariableRel, Right}
use Rattle.mrs_spelling.specs.Conditions.{Word, Given, Context, after_kind, gives, given_after}
use Rattle.mrs_reading.specs.Meaning.{Piece, low, as_word, is_variable}
use Rattle.mrs_text.specs.Signs.{in_pred as is_in_pred}
use Rattle.mrs_text.specs.Written.{upper, escaped, variable_at, place_of, seen_after}
use Rattle.mrs_text.specs.Stored.{IsStoredProperty}
use Rattle.mrs_text.proofs.Taking.{map_join}
use Rattle.mrs_text.proofs.Uppers.{lower_upper, lower_name}
use Rattle.mrs_text.proofs.Steps.{Step, say, at, number_of, property_pieces, given_pieces, pieces, filler_step, args_then, pred_piece, link_pieces, eps_then, constraints_then, icons_then, last_step, ending_steps, steps}
use Rattle.mrs_text.proofs.SeenLemmas.{Fit, fit_next}
use Rattle.mrs_text.proofs.Ranks.{seen_end, key, Longer, ends_longer, number_is}

abbrev pub is_value : Kind → Bool
is_value PropName = true
is_value PropValue = true
is_value _ = false

abbrev pub Calm : List Piece → Type 0
Calm [] = Unit {0}
Calm (p ∷ ps) = (is_value p.kind ≡ false) × (is_variable p.kind ≡ false) × Calm ps

-- no step has properties of its own, and each variable is one of the first n and of a kind of variables
abbrev pub Sure : ℕ → List Step → Type 0
Sure n [] = Unit {0}
Sure n (say bs ps ∷ ss) = Calm ps × Sure n ss
Sure n (at k v ∷ ss) = (is_variable k ≡ true) × (v < n) × Sure n ss

sure_filler : (n : ℕ) (f : Filled) (tail : List Step) → IsFiller n f → Sure n tail → Sure n (filler_step f ∷ tail)
sure_filler n (of_var v) tail l s = (refl, l, s)
sure_filler n (of_text t) tail l s = ((refl, refl, (refl, refl, tt)), s)

sure_args : (n : ℕ) (xs : List Argument) (tail : List Step) → All (IsArgument n) xs → Sure n tail → Sure n (args_then xs tail)
sure_args n [] tail h s = s
sure_args n (a ∷ xs) tail h s = ((refl, refl, tt), sure_filler n a.filler (args_then xs tail) (All-head (IsArgument n) a xs h).filler (sure_args n xs tail (All-tail (IsArgument n) a xs h) s))

calm_pred : (p : List ℕ) (o : Option Extent) → Calm (pred_piece p ∷ link_pieces o)
calm_pred p o = (by (nat_lt 0 (length p) && list_all is_in_pred (chars p)), by_two (nat_lt 0 (length p) && list_all is_in_pred (chars p)), by_link o)
  where
    by : (b : Bool) → (let q : Piece = if b then record { kind = PredRun; text = p } else record { kind = PredText; text = flat_map escaped p } in is_value q.kind ≡ false)
    by true = refl
    by false = refl

    by_two : (b : Bool) → (let q : Piece = if b then record { kind = PredRun; text = p } else record { kind = PredText; text = flat_map escaped p } in is_variable q.kind ≡ false)
    by_two true = refl
    by_two false = refl

    by_link : (o : Option Extent) → Calm (link_pieces o)
    by_link None = tt
    by_link (Some e) = (refl, refl, tt)

sure_eps : (n : ℕ) (es : List Predication) (tail : List Step) → All (IsPredication n) es → Sure n tail → Sure n (eps_then es tail)
sure_eps n [] tail h s = s
sure_eps n (e ∷ es) tail h s =
    let a = All-head (IsPredication n) e es h in
    (calm_pred e.pred e.span, ((refl, refl, tt), (refl, a.label, sure_args n e.args (say (codes " ]") (record { kind = EpEnd; text = 93 ∷ [] } ∷ []) ∷ eps_then es tail) a.args ((refl, refl, tt), sure_eps n es tail (All-tail (IsPredication n) e es h) s))))

sure_constraints : (n : ℕ) (one rel_kind two : Kind) → is_variable one ≡ true → (is_value rel_kind ≡ false) × (is_variable rel_kind ≡ false) → is_variable two ≡ true → (cs : List Constraint) (tail : List Step) → All (IsConstraint n) cs → Sure n tail → Sure n (constraints_then one rel_kind two cs tail)
sure_constraints n one rel_kind two i j k [] tail h s = s
sure_constraints n one rel_kind two i j k (c ∷ cs) tail h s =
    let a = All-head (IsConstraint n) c cs h in
    (tt, (i, a.left, ((j.0, j.1, tt), (k, a.right, sure_constraints n one rel_kind two i j k cs tail (All-tail (IsConstraint n) c cs h) s))))

sure_icons : (n : ℕ) (cs : List Constraint) → All (IsConstraint n) cs → Sure n (icons_then cs last_step)
sure_icons n [] h = (tt, tt)
sure_icons n (c ∷ cs) h = (tt, sure_constraints n Left VariableRel Right refl (refl, refl) refl (c ∷ cs) (say (codes " >") [] ∷ last_step) h (tt, (tt, tt)))

pub sure_steps : (m : Meaning) → IsValid m → Sure (length m.vars) (steps m)
sure_steps m v =
    let n = length m.vars in (
      tt,
      (
        refl,
        v.top,
        (
          tt,
          (
            refl,
            v.index,
            (
              tt,
              sure_eps n m.eps (say (codes " >") [] ∷ ending_steps m) v.eps
                  (tt, (tt, sure_constraints n High HandleRel Low refl (refl, refl) refl m.hcons (say (codes " >") [] ∷ icons_then m.icons last_step) v.hcons (tt, sure_icons n m.icons v.icons))),
            ),
          ),
        ),
      ),
    )

pub fit_end : (n : ℕ) (seen : List ℕ) (ss : List Step) → Sure n ss → Fit n seen → Fit n (seen_end seen ss)
fit_end n seen [] s f = f
fit_end n seen (say bs ps ∷ ss) s f = fit_end n seen ss s.1 f
fit_end n seen (at k v ∷ ss) s f = fit_end n (seen_after (place_of v seen) seen v) ss s.2 (fit_next n seen v f s.1)

-- what tokens do to the context
pub variable_does : (k : Kind) (c : Context) (t : List ℕ) → is_variable k ≡ true → (gives c k t ≡ []) × (after_kind c k t ≡ record c { key = t })
variable_does Top c t e = (refl, refl)
variable_does Index c t e = (refl, refl)
variable_does Filler c t e = (refl, refl)
variable_does High c t e = (refl, refl)
variable_does Low c t e = (refl, refl)
variable_does Left c t e = (refl, refl)
variable_does Right c t e = (refl, refl)
variable_does _ c t e = absurd (cc)

pub calm_gives : (k : Kind) (c : Context) (t : List ℕ) → is_value k ≡ false → gives c k t ≡ []
calm_gives PropName c t e = absurd (cc)
calm_gives PropValue c t e = absurd (cc)
calm_gives _ c t e = refl

abbrev pub words : List Piece → List Word
words ps = map as_word ps

abbrev pub gifts : List ℕ → List Property → List Given
gifts k ps = map (λ p. record { key = k; name = p.name; value = p.value }) ps

abbrev pub gifts_of : Option ℕ → List ℕ → List Property → List Given
gifts_of (Some i) k ps = []
gifts_of None k ps = gifts k ps

given_same : (k l n o v w : List ℕ) → k ≡ l → n ≡ o → v ≡ w → (let a : Given = record { key = k; name = n; value = v } in let b : Given = record { key = l; name = o; value = w } in a ≡ b)
given_same k l n o v w e f g = λ i. record { key = e i; name = f i; value = g i }

props_given : (ps : List Property) (c : Context) (k : List ℕ) (rest : List Word) (out : List Given) → c.key ≡ k → All IsProperty ps → All IsStoredProperty ps → ((d : Context) → given_after d rest ≡ out)
    → given_after c (words (flat_map property_pieces ps) ++ rest) ≡ gifts k ps ++ out
props_given [] c k rest out e h s r = r c
props_given (p ∷ ps) c k rest out e h s r =
    let a = All-head IsProperty p ps h in
    let b = All-head IsStoredProperty p ps s in
    let n = lower_upper p.name a.name b.name in
    let w = lower_name p.value a.value b.value in
    let d : Context = record c { name = str_to_ascii_lowercase (upper p.name) } in
    let q = props_given ps d k rest out e (All-tail IsProperty p ps h) (All-tail IsStoredProperty p ps s) r in
    let g = given_same c.key k (str_to_ascii_lowercase (upper p.name)) p.name (str_to_ascii_lowercase p.value) p.value e n w in
    ap (λ (z : Given). z ∷ given_after d (words (flat_map property_pieces ps) ++ rest)) g ∙ ap (λ z. record { key = k; name = p.name; value = p.value } ∷ z) q

calm_given : (ps : List Piece) (c : Context) (rest : List Word) (out : List Given) → Calm ps → ((d : Context) → given_after d rest ≡ out) → given_after c (words ps ++ rest) ≡ out
calm_given [] c rest out h r = r c
calm_given (p ∷ ps) c rest out h r =
    let d = after_kind c p.kind (low p) in
    ap (λ z. z ++ given_after d (words ps ++ rest)) (calm_gives p.kind c (low p) h.0) ∙ calm_given ps d rest out h.2 r

module _ (vars : List Variable) (order : List ℕ) where
  abbrev pub given_of : List ℕ → List Step → List Given
  given_of seen [] = []
  given_of seen (say bs ps ∷ ss) = given_of seen ss
  given_of seen (at k v ∷ ss) = gifts_of (place_of v seen) (key vars order v) (variable_at vars v).props ++ given_of (seen_after (place_of v seen) seen v) ss

  module _ (n : ℕ) (low_is : (v : ℕ) → v < n → str_to_ascii_lowercase (key vars order v) ≡ key vars order v) (good : (v : ℕ) → v < n → All IsProperty (variable_at vars v).props × All IsStoredProperty (variable_at vars v).props) where
    list_given : (o : Option ℕ) (v : ℕ) (c : Context) (rest : List Word) (out : List Given) → c.key ≡ key vars order v → v < n → ((d : Context) → given_after d rest ≡ out)
        → given_after c (words (given_pieces o (variable_at vars v).props) ++ rest) ≡ gifts_of o (key vars order v) (variable_at vars v).props ++ out
    list_given (Some i) v c rest out e l r = r c
    list_given None v c rest out e l r = let g = good v l in props_given (variable_at vars v).props c (key vars order v) rest out e g.0 g.1 r

    pub given_is : (ss : List Step) (seen : List ℕ) (c : Context) → Sure n ss → seen_end seen ss ≡ order → given_after c (words (pieces vars seen ss)) ≡ given_of seen ss
    given_is [] seen c s e = refl
    given_is (say bs ps ∷ ss) seen c s e = ap (given_after c) (map_join as_word ps (pieces vars seen ss)) ∙ calm_given ps c (words (pieces vars seen ss)) (given_of seen ss) s.0 (λ d. given_is ss seen d s.1 e)
    given_is (at k v ∷ ss) seen c s e =
        let u = seen_after (place_of v seen) seen v in
        let a = number_is seen order v (subst (Longer u) e (ends_longer u ss)) in
        let t = (variable_at vars v).sort ++ decimal (number_of (place_of v seen) (length seen)) in
        let i : t ≡ key vars order v = ap (λ z. (variable_at vars v).sort ++ decimal z) a in
        let j : str_to_ascii_lowercase t ≡ key vars order v = ap str_to_ascii_lowercase i ∙ low_is v s.1 in
        let f = variable_does k c (str_to_ascii_lowercase t) s.0 in
        let ps = given_pieces (place_of v seen) (variable_at vars v).props in
        let rest = words (ps ++ pieces vars u ss) in
        let d : Context = record c { key = str_to_ascii_lowercase t } in
        ap (λ z. z ++ given_after (after_kind c k (str_to_ascii_lowercase t)) rest) f.0 ∙ ap (λ z. given_after z rest) f.1 ∙ ap (given_after d) (map_join as_word ps (pieces vars u ss))
        ∙ list_given (place_of v seen) v d (words (pieces vars u ss)) (given_of u ss) j s.1 (λ b. given_is ss u b s.2 e)
