-- What is read goes on to a tree.
use Rattle.std.proofs.Common.{◌≡◌, ℕ, suc, zero, Bool, false, List, [], ◌∷◌, ◌++◌, Option, Some, None, is_some, refl, sym, ap, subst, ◌∙◌, append_assoc, append-nil, ◌<◌, ◌-◌, inl, inr, arith, eqb}
use Rattle.std.proofs.lemmas.List.Elements.{All-cons, All-nil}
use Rattle.derivation.specs.Text.{name_of}
use Rattle.tree_reading.specs.declared.uses.Phrase.{Phrase}
use Rattle.tree_reading.specs.Grammars.{TreeGrammar, HasEntry, IsWord, AreWords}
use Rattle.tree_reading.specs.Inner.Shapes.{Shape, Shapes, leaf, node, none, more, joined, count, text, texts, IsShape, AreShapes, IsLexical, IsPhraseRule}
use Rattle.tree_reading.specs.Inner.Frames.{Frame, AreFrames, AreRules, HasRoom, IsAllowed, front, is_wide}
use Rattle.tree_reading.proofs.Decoding.{texts_joined}
use Rattle.tree_reading.proofs.Framing.{front_step, lexical_allowed, count_joined}

-- some tree's text begins with these bytes
pub record Goes (g : TreeGrammar) (bytes : List ℕ) : Type 0 where
  pub rest : List ℕ
  pub shape : Shape
  pub is_shape : IsShape g shape
  pub is : bytes ++ rest ≡ text shape

pub goes_front : (g : TreeGrammar) (a b : List ℕ) → Goes g (a ++ b) → Goes g a
goes_front g a b h = record { rest = b ++ h.rest; shape = h.shape; is_shape = h.is_shape; is = sym (append_assoc a b h.rest) ∙ h.is }

pub goes_along : (g : TreeGrammar) (a b c : List ℕ) → a ++ b ≡ c → Goes g c → Goes g a
goes_along g a b c e h = goes_front g a b (subst (Goes g) (sym e) h)

pub one_word : AreWords ((97 ∷ []) ∷ [])
one_word = (omega arith, All-cons IsWord (97 ∷ []) [] (omega arith, All-cons (λ b. eqb b 32 ≡ false) 97 [] refl (All-nil (λ b. eqb b 32 ≡ false))) (All-nil IsWord))

abbrev pub some_leaf : TreeGrammar → ℕ → Shape
some_leaf g e = leaf (name_of g.names e) ((97 ∷ []) ∷ []) None

pub some_lexical : (g : TreeGrammar) (h : HasEntry g) → IsLexical g (some_leaf g h.0)
some_lexical g h = ((h.0, h.1, refl), one_word, tt)

abbrev pub pads : ℕ → Shape → Shapes
pads zero s = none
pads (suc n) s = more s (pads n s)

pub pads_count : (n : ℕ) (s : Shape) → count (pads n s) ≡ n
pads_count zero s = refl
pads_count (suc n) s = ap suc (pads_count n s)

pub pads_shapes : (g : TreeGrammar) (n : ℕ) (s : Shape) → IsShape g s → AreShapes g (pads n s)
pads_shapes g zero s h = tt
pads_shapes g (suc n) s h = (h, pads_shapes g n s h)

pub joined_shapes : (g : TreeGrammar) (done : Shapes) (sub : Shape) (later : Shapes) → AreShapes g done → IsShape g sub → AreShapes g later → AreShapes g (joined done (more sub later))
joined_shapes g none sub later a b c = (b, c)
joined_shapes g (more d ds) sub later a b c = (a.0, joined_shapes g ds sub later a.1 b c)

-- a rule with such daughters
record Mother (g : TreeGrammar) (wide : Bool) (f : Frame) (s : Shape) : Type 0 where
  later : Shapes
  allowed : IsAllowed g wide (node f.name (joined f.done (more s later)))

mother_phrase : (g : TreeGrammar) → HasEntry g → (wide : Bool) (f : Frame) (s : Shape) (p : Phrase) → AreRules g wide f.name f.rules → AreShapes g f.done →
    f.rules.phrase ≡ Some p → count f.done < p.daughters → IsShape g s → Mother g wide f s
mother_phrase g entry wide f s p are done e room is =
    let more_needed = p.daughters - suc (count f.done) in
    let later = pads more_needed (some_leaf g entry.0) in
    let r = are.phrase p e in
    let n : count (joined f.done (more s later)) ≡ p.daughters = omega (arith, count_joined f.done s later, pads_count more_needed (some_leaf g entry.0)) in
    let rule : IsPhraseRule g f.name (count (joined f.done (more s later))) = subst (IsPhraseRule g f.name) (sym n) (p.rule, r.2, r.3) in
    let whole : IsShape g (node f.name (joined f.done (more s later))) =
    inr (rule, omega (arith, n, r.1), joined_shapes g f.done s later done is (pads_shapes g more_needed (some_leaf g entry.0) (some_lexical g entry))) in
    record { later = later; allowed = subst (λ w. IsAllowed g w (node f.name (joined f.done (more s later)))) (sym r.0) whole }

mother_lexical : (g : TreeGrammar) (wide : Bool) (f : Frame) (s : Shape) (r : ℕ) → AreRules g wide f.name f.rules → f.done ≡ none → f.rules.lexical ≡ Some r → IsLexical g s → Mother g wide f s
mother_lexical g wide f s r are e h is =
    let rule = are.lexical r h in
    let whole : IsLexical g (node f.name (more s none)) = ((r, rule.0, rule.1), is) in
    record { later = none; allowed = subst (λ d. IsAllowed g wide (node f.name (joined d (more s none)))) (sym e) (lexical_allowed g wide (node f.name (more s none)) whole) }

mother_by : (g : TreeGrammar) → HasEntry g → (wide : Bool) (f : Frame) (s : Shape) (o : Option Phrase) → AreRules g wide f.name f.rules → AreShapes g f.done → HasRoom f →
    f.rules.phrase ≡ o → IsAllowed g (is_some o) s → Mother g wide f s
mother_by g entry wide f s None are done (inl h) e is = mother_lexical g wide f s h.1.0 are h.0 h.1.1 is
mother_by g entry wide f s None are done (inr h) e is = let clash : None ≡ Some h.0 = sym e ∙ h.1 in cc
mother_by g entry wide f s (Some p) are done (inl h) e is =
    mother_phrase g entry wide f s p are done e (omega (arith, (are.phrase p e).1, ap count h.0)) is
mother_by g entry wide f s (Some p) are done (inr h) e is =
    let same : Some h.0 ≡ Some p = sym h.1 ∙ e in
    let q : h.0 ≡ p = cc in
    mother_phrase g entry wide f s p are done e (subst (λ k. count f.done < k.daughters) q h.2) is

mother_text : (f : Frame) (fs : List Frame) (s : Shape) (later : Shapes) →
    front (f ∷ fs) ++ (text s ++ (texts later ++ 41 ∷ [])) ≡ front fs ++ text (node f.name (joined f.done (more s later)))
mother_text f fs s later =
    let row : texts f.done ++ 32 ∷ (text s ++ (texts later ++ 41 ∷ [])) ≡ texts (joined f.done (more s later)) ++ 41 ∷ [] =
    sym (append_assoc (texts f.done) (texts (more s later)) (41 ∷ []) ∙ ap (λ t. texts f.done ++ 32 ∷ t) (append_assoc (text s) (texts later) (41 ∷ [])))
    ∙ sym (ap (λ t. t ++ 41 ∷ []) (texts_joined f.done (more s later))) in
    front_step f fs (text s ++ (texts later ++ 41 ∷ []))
    ∙ ap (λ t. front fs ++ (40 ∷ (f.name ++ t))) row
    ∙ ap (λ t. front fs ++ t) (sym (append_assoc (40 ∷ f.name) (texts (joined f.done (more s later))) (41 ∷ [])))

pub complete : (g : TreeGrammar) → HasEntry g → (fs : List Frame) (s : Shape) → AreFrames g fs → IsAllowed g (is_wide fs) s → Goes g (front fs ++ text s)
complete g entry [] s frames is = record { rest = []; shape = s; is_shape = is; is = append-nil (text s) }
complete g entry (f ∷ fs) s frames is =
    let m = mother_by g entry (is_wide fs) f s f.rules.phrase frames.0 frames.2 frames.1 refl is in
    goes_along g (front (f ∷ fs) ++ text s) (texts m.later ++ 41 ∷ []) (front fs ++ text (node f.name (joined f.done (more s m.later))))
    (append_assoc (front (f ∷ fs)) (text s) (texts m.later ++ 41 ∷ []) ∙ mother_text f fs s m.later)
    (complete g entry fs (node f.name (joined f.done (more s m.later))) frames.3 m.allowed)

-- before a daughter
pub complete_front : (g : TreeGrammar) → HasEntry g → (fs : List Frame) → AreFrames g fs → Goes g (front fs)
complete_front g entry fs frames =
    goes_front g (front fs) (text (some_leaf g entry.0)) (complete g entry fs (some_leaf g entry.0) frames (lexical_allowed g (is_wide fs) (some_leaf g entry.0) (some_lexical g entry)))
