-- The tree that a rule makes of its daughters.
use Rattle.std.proofs.Common.{◌≡◌, ℕ, Bool, true, false, ◌==◌, if◌then◌else◌, List, [], ◌∷◌, ◌++◌, Option, Some, None, refl, sym, ap, subst, ◌∙◌, ◌<◌, inl, inr, arith, eqb-true, eq-eqb}
use Rattle.std.specs.List.{slice_get}
use Rattle.std.proofs.lemmas.List.Elements.{All-push}
use Rattle.derivation.specs.Trees.{Derivation, Daughters, lexical, phrase, no_more, first}
use Rattle.derivation.specs.Text.{name_of}
use Rattle.tree_reading.specs.declared.Part.TheVariants.{LexicalRule, PhraseRule}
use Rattle.tree_reading.specs.declared.uses.Rules.{Rules}
use Rattle.tree_reading.specs.declared.uses.Phrase.{Phrase}
use Rattle.tree_reading.specs.Grammars.{TreeGrammar, IsOver, AreOver, count_daughters}
use Rattle.tree_reading.specs.Texts.{IsPreferred, ArePreferred, IsPreferredOver, IsNoLexicalRule}
use Rattle.tree_reading.specs.Inner.Shapes.{Shapes, leaf, node, none, more, joined, count, shape, shapes, IsLexical}
use Rattle.tree_reading.specs.Inner.Frames.{AreRules, IsAllowed}
use Rattle.tree_reading.specs.Inner.Closed.{closed, as_phrase, as_lexical, with_last}
use Rattle.tree_reading.proofs.Framing.{lexical_allowed}
use Rattle.tree_reading.proofs.Overs.{over_shape, lexical_over, count_shapes, wrapped_last}

-- it is over the grammar, preferred, and stands where it may
pub record Made (g : TreeGrammar) (wide : Bool) (name : List ℕ) (below : Shapes) (m : Derivation) : Type 0 where
  pub over : IsOver g m
  pub preferred : IsPreferred g m
  pub allowed : IsAllowed g wide (shape g.names m)
  pub is : shape g.names m ≡ node name below

pub shapes_last : (names : List (List ℕ)) (ds : Daughters) (d : Derivation) → shapes names (with_last ds d) ≡ joined (shapes names ds) (more (shape names d) none)
shapes_last names no_more d = refl
shapes_last names (first e es) d = ap (λ t. more (shape names e) t) (shapes_last names es d)

pub over_last : (g : TreeGrammar) (ds : Daughters) (d : Derivation) → AreOver g ds → IsOver g d → AreOver g (with_last ds d)
over_last g no_more d a b = (b, tt)
over_last g (first e es) d a b = (a.0, over_last g es d a.1 b)

pub preferred_last : (g : TreeGrammar) (ds : Daughters) (d : Derivation) → ArePreferred g ds → IsPreferred g d → ArePreferred g (with_last ds d)
preferred_last g no_more d a b = (b, tt)
preferred_last g (first e es) d a b = (a.0, preferred_last g es d a.1 b)

some_count : (ds : Daughters) (e : Derivation) → 0 < count_daughters (first e ds)
some_count ds e = omega arith

made_phrase : (g : TreeGrammar) (wide : Bool) (name : List ℕ) (rules : Rules) (e : Derivation) (es : Daughters) (m : Derivation) (p : Phrase) (b : Bool) → AreRules g wide name rules → rules.phrase ≡ Some p →
    AreOver g (first e es) → ArePreferred g (first e es) → IsPreferredOver g p.rule (first e es) → (p.daughters == count_daughters (first e es)) ≡ b →
    (if b then Some (phrase p.rule (first e es)) else None) ≡ Some m → Made g wide name (shapes g.names (first e es)) m
made_phrase g wide name rules e es m p false are at over preferred here size is = cc
made_phrase g wide name rules e es m p true are at over preferred here size is =
    let ds = first e es in
    let made : phrase p.rule ds ≡ m = cc in
    let rule = are.phrase p at in
    let whole : IsOver g (phrase p.rule ds) = (rule.2 ∙ ap (λ n. Some (PhraseRule n)) (eqb-true p.daughters (count_daughters ds) size), some_count es e, over) in
    subst (Made g wide name (shapes g.names ds)) made (record {
      over = whole;
      preferred = (here, preferred);
      allowed = subst (λ w. IsAllowed g w (shape g.names (phrase p.rule ds))) (sym rule.0) (over_shape g (phrase p.rule ds) whole);
      is = ap (λ n. node n (shapes g.names ds)) rule.3;
    })

made_by : (g : TreeGrammar) (wide : Bool) (name : List ℕ) (rules : Rules) (e : Derivation) (es : Daughters) (m : Derivation) (o : Option Phrase) → AreRules g wide name rules → rules.phrase ≡ o →
    AreOver g (first e es) → ArePreferred g (first e es) → ((p : Phrase) → rules.phrase ≡ Some p → IsPreferredOver g p.rule (first e es)) → as_phrase o (first e es) ≡ Some m → Made g wide name (shapes g.names (first e es)) m
made_by g wide name rules e es m None are at over preferred here is = cc
made_by g wide name rules e es m (Some p) are at over preferred here is =
    made_phrase g wide name rules e es m p (p.daughters == count_daughters (first e es)) are at over preferred (here p at) refl is

made_lexical : (g : TreeGrammar) (wide : Bool) (name : List ℕ) (rules : Rules) (r e : ℕ) (rs : List ℕ) (ws : List (List ℕ)) (ns : Option (ℕ × ℕ)) (m : Derivation) → AreRules g wide name rules → rules.lexical ≡ Some r →
    IsOver g (lexical e rs ws ns) → Some (lexical e (rs ++ r ∷ []) ws ns) ≡ Some m → Made g wide name (more (shape g.names (lexical e rs ws ns)) none) m
made_lexical g wide name rules r e rs ws ns m are at over is =
    let made : lexical e (rs ++ r ∷ []) ws ns ≡ m = cc in
    let rule = are.lexical r at in
    let whole : IsOver g (lexical e (rs ++ r ∷ []) ws ns) = (over.0, All-push (λ r. slice_get g.parts r ≡ Some LexicalRule) rs r over.1 rule.0, over.2, over.3) in
    subst (Made g wide name (more (shape g.names (lexical e rs ws ns)) none)) made (record {
      over = whole;
      preferred = tt;
      allowed = lexical_allowed g wide (shape g.names (lexical e (rs ++ r ∷ []) ws ns)) (lexical_over g e (rs ++ r ∷ []) ws ns whole);
      is = wrapped_last g.names rs r (leaf (name_of g.names e) ws ns) ∙ ap (λ n. node n (more (shape g.names (lexical e rs ws ns)) none)) rule.1;
    })

-- over one daughter, a phrase rule with no lexical rule of its name is preferred
no_lexical_name : (g : TreeGrammar) (wide : Bool) (name : List ℕ) (rules : Rules) → AreRules g wide name rules → rules.lexical ≡ None → (p : Phrase) → rules.phrase ≡ Some p → IsNoLexicalRule g p.rule
no_lexical_name g wide name rules are at p has s is same = are.no_lexical at s is (same ∙ (are.phrase p has).3)

made_one : (g : TreeGrammar) (wide : Bool) (name : List ℕ) (rules : Rules) (d m : Derivation) (o : Option ℕ) → AreRules g wide name rules → rules.lexical ≡ o → IsOver g d → IsPreferred g d →
    as_lexical o rules.phrase d ≡ Some m → Made g wide name (more (shape g.names d) none) m
made_one g wide name rules (lexical e rs ws ns) m (Some r) are at over preferred is = made_lexical g wide name rules r e rs ws ns m are at over is
made_one g wide name rules (lexical e rs ws ns) m None are at over preferred is =
    made_by g wide name rules (lexical e rs ws ns) no_more m rules.phrase are refl (over, tt) (preferred, tt) (no_lexical_name g wide name rules are at) is
made_one g wide name rules (phrase r ds) m (Some q) are at over preferred is =
    made_by g wide name rules (phrase r ds) no_more m rules.phrase are refl (over, tt) (preferred, tt) (λ p h. tt) is
made_one g wide name rules (phrase r ds) m None are at over preferred is =
    made_by g wide name rules (phrase r ds) no_more m rules.phrase are refl (over, tt) (preferred, tt) (λ p h. tt) is

over_two : (g : TreeGrammar) (r : ℕ) (e : Derivation) (es : Daughters) (d : Derivation) → IsPreferredOver g r (first e (with_last es d))
over_two g r (lexical f rs ws ns) no_more d = tt
over_two g r (lexical f rs ws ns) (first a as') d = tt
over_two g r (phrase q ds) es d = tt

pub made : (g : TreeGrammar) (wide : Bool) (name : List ℕ) (rules : Rules) (ds : Daughters) (d m : Derivation) → AreRules g wide name rules → AreOver g ds → ArePreferred g ds → IsOver g d → IsPreferred g d →
    closed rules ds d ≡ Some m → Made g wide name (joined (shapes g.names ds) (more (shape g.names d) none)) m
made g wide name rules no_more d m are overs preferreds over preferred is = made_one g wide name rules d m rules.lexical are refl over preferred is
made g wide name rules (first e es) d m are overs preferreds over preferred is =
    subst (λ t. Made g wide name t m) (shapes_last g.names (first e es) d)
    (made_by g wide name rules e (with_last es d) m rules.phrase are refl (over_last g (first e es) d overs over) (preferred_last g (first e es) d preferreds preferred) (λ p h. over_two g p.rule e es d) is)

-- a preferred tree of a lexical tree's shape is one
pub record AsLexical (d : Derivation) : Type 0 where
  pub entry : ℕ
  pub rules : List ℕ
  pub words : List (List ℕ)
  pub nodes : Option (ℕ × ℕ)
  pub is : d ≡ lexical entry rules words nodes

not_preferred : (g : TreeGrammar) (r : ℕ) (d : Derivation) → AsLexical d → IsPreferredOver g r (first d no_more) → IsNoLexicalRule g r
not_preferred g r d l h =
    let k : IsPreferredOver g r (first (lexical l.entry l.rules l.words l.nodes) no_more) = subst (λ t. IsPreferredOver g r (first t no_more)) l.is h in k

pub lexical_only : (g : TreeGrammar) (d : Derivation) → IsPreferred g d → IsLexical g (shape g.names d) → AsLexical d
lexical_only g (lexical e rs ws ns) preferred is = record { entry = e; rules = rs; words = ws; nodes = ns; is = refl }
lexical_only g (phrase r no_more) preferred is = absurd is
lexical_only g (phrase r (first d no_more)) preferred is =
    let l = lexical_only g d preferred.1.0 is.1 in
    absurd (not_preferred g r d l preferred.0 is.0.0 is.0.1 is.0.2)
lexical_only g (phrase r (first d (first e es))) preferred is = absurd is

-- where no tree is made, none may stand
none_phrase : (g : TreeGrammar) (name : List ℕ) (rules : Rules) (ds : Daughters) (p : Phrase) → rules.phrase ≡ Some p → p.daughters ≡ count_daughters ds → as_phrase rules.phrase ds ≡ None → ⊥
none_phrase g name rules ds p at size is =
    let whole : (if p.daughters == count_daughters ds then Some (phrase p.rule ds) else None) ≡ None = ap (λ o. as_phrase o ds) (sym at) ∙ is in
    let yes' : (p.daughters == count_daughters ds) ≡ true = eq-eqb p.daughters (count_daughters ds) size in
    let made : Some (phrase p.rule ds) ≡ None = sym (ap (λ b. if b then Some (phrase p.rule ds) else None) yes') ∙ whole in
    cc

none_one : (g : TreeGrammar) (wide : Bool) (name : List ℕ) (rules : Rules) (d : Derivation) (o : Option ℕ) → AreRules g wide name rules → rules.lexical ≡ o → AsLexical d → ((r : ℕ) × (slice_get g.parts r ≡ Some LexicalRule) × (name_of g.names r ≡ name)) →
    as_lexical o rules.phrase d ≡ None → ⊥
none_one g wide name rules d None are at l rule is = are.no_lexical at rule.0 rule.1 rule.2
none_one g wide name rules d (Some r) are at l rule is =
    let made : Some (lexical l.entry (l.rules ++ r ∷ []) l.words l.nodes) ≡ None = ap (λ t. as_lexical (Some r) rules.phrase t) (sym l.is) ∙ is in cc

none_lexical : (g : TreeGrammar) (wide : Bool) (name : List ℕ) (rules : Rules) (ds : Daughters) (d : Derivation) → AreRules g wide name rules → IsPreferred g d → closed rules ds d ≡ None →
    IsLexical g (node name (joined (shapes g.names ds) (more (shape g.names d) none))) → ⊥
none_lexical g wide name rules no_more d are preferred is h = none_one g wide name rules d rules.lexical are refl (lexical_only g d preferred h.1) (h.0.0, h.0.1, h.0.2) is
none_lexical g wide name rules (first e no_more) d are preferred is h = h
none_lexical g wide name rules (first e (first f fs)) d are preferred is h = h

-- over the phrase alone
no_phrase : (o : Option ℕ) (p : Option Phrase) (d : Derivation) → as_lexical o p d ≡ None → as_phrase p (first d no_more) ≡ None
no_phrase None p (lexical e rs ws ns) is = is
no_phrase None p (phrase r ds) is = is
no_phrase (Some r) p (lexical e rs ws ns) is = cc
no_phrase (Some r) p (phrase q ds) is = is

closed_phrase : (rules : Rules) (ds : Daughters) (d : Derivation) → closed rules ds d ≡ None → as_phrase rules.phrase (with_last ds d) ≡ None
closed_phrase rules no_more d is = no_phrase rules.lexical rules.phrase d is
closed_phrase rules (first e es) d is = is

pub none_made : (g : TreeGrammar) (wide : Bool) (name : List ℕ) (rules : Rules) (ds : Daughters) (d : Derivation) → AreRules g wide name rules → IsPreferred g d → closed rules ds d ≡ None →
    IsAllowed g wide (node name (joined (shapes g.names ds) (more (shape g.names d) none))) → ⊥
none_made g false name rules ds d are preferred is h = none_lexical g false name rules ds d are preferred is h
none_made g true name rules ds d are preferred is (inl h) = none_lexical g true name rules ds d are preferred is h
none_made g true name rules ds d are preferred is (inr h) =
    let below = joined (shapes g.names ds) (more (shape g.names d) none) in
    let p = are.each_phrase refl (count below) h.1 h.0 in
    none_phrase g name rules (with_last ds d) p.0 p.1 (p.2 ∙ ap count (sym (shapes_last g.names ds d)) ∙ count_shapes g.names (with_last ds d)) (closed_phrase rules ds d is)
