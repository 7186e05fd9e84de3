-- A tree's text falls along the rules that have begun.
use Rattle.std.proofs.Common.{◌≡◌, ℕ, suc, Bool, true, false, List, [], ◌∷◌, ◌++◌, length, Option, Some, None, is_some, refl, sym, ap, subst, ◌∙◌, append_assoc, append-nil, ◌<◌, ◌+◌, inl, inr, arith}
use Rattle.std.specs.List.{slice_get}
use Rattle.std.proofs.lemmas.Option.{slice_get_within, unwrap_or-slice_get}
use Rattle.derivation.specs.Text.{name_of}
use Rattle.tree_reading.specs.declared.Part.{Part}
use Rattle.tree_reading.specs.declared.Part.TheVariants.{Entry, LexicalRule, PhraseRule}
use Rattle.tree_reading.specs.declared.uses.Rules.{Rules}
use Rattle.tree_reading.specs.declared.uses.Phrase.{Phrase}
use Rattle.tree_reading.specs.Grammars.{TreeGrammar, IsName, IsNamedWell}
use Rattle.tree_reading.specs.Inner.Shapes.{Shape, Shapes, leaf, node, none, more, joined, count, text, texts, IsShape, AreShapes, IsLexical, IsPlain, ArePlain, Begins}
use Rattle.tree_reading.specs.Inner.Frames.{Frame, AreFrames, AreRules, HasRoom, IsAllowed, IsReady, IsBehind, front, is_wide}
use Rattle.tree_reading.proofs.Decoding.{split_node}

pub named : (g : TreeGrammar) → IsNamedWell g → (e : ℕ) (p : Part) → slice_get g.parts e ≡ Some p → IsName (name_of g.names e)
named g well e p h =
    let lt : e < length g.names = omega (arith, well.0, slice_get_within g.parts e p h) in
    subst IsName (sym (unwrap_or-slice_get g.names e [])) (well.1 e [] lt)

pub lexical_plain : (g : TreeGrammar) → IsNamedWell g → (s : Shape) → IsLexical g s → IsPlain s
lexical_plain g well (leaf n ws ns) h = (subst IsName h.0.2 (named g well h.0.0 Entry h.0.1), h.1, h.2)
lexical_plain g well (node n none) h = absurd h
lexical_plain g well (node n (more s none)) h = (subst IsName h.0.2 (named g well h.0.0 LexicalRule h.0.1), (lexical_plain g well s h.1, tt))
lexical_plain g well (node n (more s (more t ss))) h = absurd h

mutual
  pub shape_plain : (g : TreeGrammar) → IsNamedWell g → (s : Shape) → IsShape g s → IsPlain s
  shape_plain g well (leaf n ws ns) h = lexical_plain g well (leaf n ws ns) h
  shape_plain g well (node n ss) (inl h) = lexical_plain g well (node n ss) h
  shape_plain g well (node n ss) (inr h) = (subst IsName h.0.2 (named g well h.0.0 (PhraseRule (count ss)) h.0.1), shapes_plain g well ss h.2)

  pub shapes_plain : (g : TreeGrammar) → IsNamedWell g → (ss : Shapes) → AreShapes g ss → ArePlain ss
  shapes_plain g well none h = tt
  shapes_plain g well (more s ss) h = (shape_plain g well s h.0, shapes_plain g well ss h.1)

pub lexical_shape : (g : TreeGrammar) (s : Shape) → IsLexical g s → IsShape g s
lexical_shape g (leaf n ws ns) h = h
lexical_shape g (node n ss) h = inl h

pub allowed_shape : (g : TreeGrammar) (wide : Bool) (s : Shape) → IsAllowed g wide s → IsShape g s
allowed_shape g true s h = h
allowed_shape g false s h = lexical_shape g s h

pub lexical_allowed : (g : TreeGrammar) (wide : Bool) (s : Shape) → IsLexical g s → IsAllowed g wide s
lexical_allowed g true s h = lexical_shape g s h
lexical_allowed g false s h = h

pub frame_name : (g : TreeGrammar) → IsNamedWell g → (wide : Bool) (f : Frame) → AreRules g wide f.name f.rules → HasRoom f → IsName f.name
frame_name g well wide f rules (inl h) =
    let r = rules.lexical h.1.0 h.1.1 in subst IsName r.1 (named g well h.1.0 LexicalRule r.0)
frame_name g well wide f rules (inr h) =
    let r = rules.phrase h.0 h.1 in subst IsName r.3 (named g well h.0.rule (PhraseRule h.0.daughters) r.2)

pub below_lexical : (g : TreeGrammar) (name : List ℕ) (done : Shapes) (sub : Shape) (later : Shapes) → IsLexical g (node name (joined done (more sub later))) →
    (done ≡ none) × (later ≡ none) × IsLexical g sub
below_lexical g name none sub none h = (refl, refl, h.1)
below_lexical g name none sub (more t ts) h = absurd h
below_lexical g name (more d none) sub later h = absurd h
below_lexical g name (more d (more e es)) sub later h = absurd h

pub below_shapes : (g : TreeGrammar) (done : Shapes) (sub : Shape) (later : Shapes) → AreShapes g (joined done (more sub later)) → IsShape g sub
below_shapes g none sub later h = h.0
below_shapes g (more d ds) sub later h = below_shapes g ds sub later h.1

pub count_joined : (done : Shapes) (sub : Shape) (later : Shapes) → count (joined done (more sub later)) ≡ count done + suc (count later)
count_joined none sub later = omega arith
count_joined (more d ds) sub later = omega (arith, count_joined ds sub later)

below_by : (g : TreeGrammar) (wide : Bool) (name : List ℕ) (rules : Rules) (done : Shapes) (sub : Shape) (later : Shapes) (o : Option Phrase) →
    AreRules g wide name rules → rules.phrase ≡ o → IsAllowed g wide (node name (joined done (more sub later))) → IsAllowed g (is_some o) sub
below_by g true name rules done sub later None are e (inl h) = (below_lexical g name done sub later h).2
below_by g true name rules done sub later None are e (inr h) =
    let p = are.each_phrase refl (count (joined done (more sub later))) h.1 h.0 in
    let clash : None ≡ Some p.0 = sym e ∙ p.1 in cc
below_by g true name rules done sub later (Some p) are e (inl h) = lexical_shape g sub (below_lexical g name done sub later h).2
below_by g true name rules done sub later (Some p) are e (inr h) = below_shapes g done sub later h.2
below_by g false name rules done sub later o are e h = lexical_allowed g (is_some o) sub (below_lexical g name done sub later h).2

pub below_allowed : (g : TreeGrammar) (wide : Bool) (name : List ℕ) (rules : Rules) (done : Shapes) (sub : Shape) (later : Shapes) →
    AreRules g wide name rules → IsAllowed g wide (node name (joined done (more sub later))) → IsAllowed g (is_some rules.phrase) sub
below_allowed g wide name rules done sub later are h = below_by g wide name rules done sub later rules.phrase are refl h

pub front_step : (f : Frame) (fs : List Frame) (r : List ℕ) → front (f ∷ fs) ++ r ≡ front fs ++ (40 ∷ (f.name ++ (texts f.done ++ 32 ∷ r)))
front_step f fs r =
    append_assoc (front fs) ((40 ∷ f.name) ++ texts f.done ++ 32 ∷ []) r
    ∙ ap (λ t. front fs ++ t) (append_assoc ((40 ∷ f.name) ++ texts f.done) (32 ∷ []) r ∙ append_assoc (40 ∷ f.name) (texts f.done) (32 ∷ r))

-- the daughter that stands behind what is read
pub record Daughter (g : TreeGrammar) (fs : List Frame) (r : List ℕ) : Type 0 where
  pub sub : Shape
  pub rest : List ℕ
  pub allowed : IsAllowed g (is_wide fs) sub
  pub is : r ≡ text sub ++ rest
  pub behind : IsBehind g fs sub rest

ready_after : (fs : List Frame) (x : List ℕ) → IsReady fs (40 ∷ x)
ready_after [] x = tt
ready_after (f ∷ fs) x = λ e. refl

daughter_by : (g : TreeGrammar) → IsNamedWell g → (f : Frame) (fs : List Frame) (r : List ℕ) → AreFrames g (f ∷ fs) → (f.done ≡ none → Begins 40 r) →
    Daughter g fs (40 ∷ (f.name ++ (texts f.done ++ 32 ∷ r))) → Daughter g (f ∷ fs) r
daughter_by g well f fs r frames ready d =
    let k = split_node d.sub f.name f.done r d.rest (shape_plain g well d.sub (allowed_shape g (is_wide fs) d.sub d.allowed)) (frame_name g well (is_wide fs) f frames.0 frames.1)
    (shapes_plain g well f.done frames.2) ready d.is in
    let mother : IsAllowed g (is_wide fs) (node f.name (joined f.done (more k.0 k.1))) = subst (IsAllowed g (is_wide fs)) k.2 d.allowed in
    record {
      sub = k.0;
      rest = texts k.1 ++ 41 ∷ d.rest;
      allowed = below_allowed g (is_wide fs) f.name f.rules f.done k.0 k.1 frames.0 mother;
      is = k.3;
      behind = (k.1, d.rest, refl, mother);
    }

pub daughter : (g : TreeGrammar) → IsNamedWell g → (fs : List Frame) (s : Shape) (r : List ℕ) → IsShape g s → AreFrames g fs → IsReady fs r → front fs ++ r ≡ text s → Daughter g fs r
daughter g well [] s r is frames ready e = record { sub = s; rest = []; allowed = is; is = e ∙ sym (append-nil (text s)); behind = refl }
daughter g well (f ∷ fs) s r is frames ready e =
    daughter_by g well f fs r frames ready
    (daughter g well fs s (40 ∷ (f.name ++ (texts f.done ++ 32 ∷ r))) is frames.3 (ready_after fs _) (sym (front_step f fs r) ∙ e))
