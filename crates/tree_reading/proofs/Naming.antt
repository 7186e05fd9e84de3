-- What stands at the beginning of a tree's text: a parenthesis, a name and a blank.
use Rattle.std.proofs.Common.{◌≡◌, ℕ, suc, zero, Bool, true, false, List, [], ◌∷◌, ◌++◌, Option, Some, None, refl, sym, ap, subst, ◌∙◌, append_assoc, append-nil, ◌<◌, ◌⊎◌, inl, inr, arith, ltb, ltb-true, lt-ltb, ◌&&◌}
use Rattle.std.specs.List.{slice_get}
use Rattle.derivation.specs.Text.{name_of}
use Rattle.tree_reading.specs.declared.Part.{Part}
use Rattle.tree_reading.specs.declared.Part.TheVariants.{Entry, LexicalRule, PhraseRule, Other}
use Rattle.tree_reading.specs.declared.uses.Uses.{Uses}
use Rattle.tree_reading.specs.declared.uses.Rules.{Rules}
use Rattle.tree_reading.specs.declared.uses.Phrase.{Phrase}
use Rattle.tree_reading.specs.Grammars.{TreeGrammar, IsName, IsNamedWell, HasEntry}
use Rattle.tree_reading.specs.Inner.Shapes.{Shape, Shapes, leaf, node, none, more, count, text, texts, IsShape, IsLexical, IsPlain, IsPhraseRule, Begins}
use Rattle.tree_reading.specs.Inner.Frames.{Frame, AreFrames, AreRules, IsAllowed, front, is_wide}
use Rattle.tree_reading.specs.Inner.Uses.{AreUses}
use Rattle.tree_reading.specs.Inner.Near.{IsUsable, is_usable}
use Rattle.tree_reading.specs.Inner.Stops.{BeginsLeafEnd, body, ending}
use Rattle.tree_reading.proofs.Decoding.{leaf_text, node_text, more_texts, begins_text}
use Rattle.tree_reading.proofs.Framing.{lexical_shape, lexical_allowed, shape_plain}
use Rattle.tree_reading.proofs.Going.{Goes, complete, goes_along, some_leaf, some_lexical, one_word, pads, pads_count, pads_shapes}

abbrev pub IsEntryOf : TreeGrammar → List ℕ → Type 0
IsEntryOf g name = (e : ℕ) × (slice_get g.parts e ≡ Some Entry) × (name_of g.names e ≡ name)

abbrev pub IsLexicalRuleOf : TreeGrammar → List ℕ → Type 0
IsLexicalRuleOf g name = (r : ℕ) × (slice_get g.parts r ≡ Some LexicalRule) × (name_of g.names r ≡ name)

abbrev pub IsPhraseRuleOf : TreeGrammar → Bool → List ℕ → Type 0
IsPhraseRuleOf g wide name = (wide ≡ true) × ((n : ℕ) × (0 < n) × IsPhraseRule g name n)

abbrev pub IsRuleOf : TreeGrammar → Bool → List ℕ → Type 0
IsRuleOf g wide name = IsLexicalRuleOf g name ⊎ IsPhraseRuleOf g wide name

-- an entry with a quote behind it, or a rule with a parenthesis
abbrev pub IsUse : TreeGrammar → Bool → List ℕ → List ℕ → Type 0
IsUse g wide name after = (IsEntryOf g name × ((v : List ℕ) × (after ≡ 34 ∷ v) × BeginsLeafEnd v)) ⊎ (IsRuleOf g wide name × Begins 40 after)

pub record Naming (g : TreeGrammar) (wide : Bool) (s : Shape) (rest : List ℕ) : Type 0 where
  pub name : List ℕ
  pub after : List ℕ
  pub is_name : IsName name
  pub is : text s ++ rest ≡ 40 ∷ (name ++ 32 ∷ after)
  pub using : IsUse g wide name after

naming_node : (g : TreeGrammar) (wide : Bool) (n : List ℕ) (s : Shape) (ss : Shapes) (rest : List ℕ) → IsName n → IsRuleOf g wide n → Naming g wide (node n (more s ss)) rest
naming_node g wide n s ss rest is rule =
    record {
      name = n;
      after = text s ++ (texts ss ++ 41 ∷ rest);
      is_name = is;
      is = node_text n (more s ss) rest ∙ ap (λ t. 40 ∷ (n ++ t)) (more_texts s ss (41 ∷ rest));
      using = inr (rule, begins_text s (texts ss ++ 41 ∷ rest));
    }

naming_lexical : (g : TreeGrammar) (wide : Bool) (s : Shape) (rest : List ℕ) → IsPlain s → IsLexical g s → Naming g wide s rest
naming_lexical g wide (leaf n ws ns) rest plain h =
    record {
      name = n;
      after = 34 ∷ (body ws ++ (ending ns ++ rest));
      is_name = plain.0;
      is = leaf_text n ws ns rest;
      using = inl ((h.0.0, h.0.1, h.0.2), (body ws ++ (ending ns ++ rest), refl, (ws, ns, rest, plain.1, plain.2, sym (append_assoc (body ws) (ending ns) rest))));
    }
naming_lexical g wide (node n none) rest plain h = absurd h
naming_lexical g wide (node n (more s none)) rest plain h = naming_node g wide n s none rest plain.0 (inl (h.0.0, h.0.1, h.0.2))
naming_lexical g wide (node n (more s (more t ss))) rest plain h = absurd h

naming_shape : (g : TreeGrammar) (s : Shape) (rest : List ℕ) → IsPlain s → IsShape g s → Naming g true s rest
naming_shape g (leaf n ws ns) rest plain h = naming_lexical g true (leaf n ws ns) rest plain h
naming_shape g (node n ss) rest plain (inl h) = naming_lexical g true (node n ss) rest plain h
naming_shape g (node n none) rest plain (inr h) = absurd (omega (arith, h.1))
naming_shape g (node n (more s ss)) rest plain (inr h) = naming_node g true n s ss rest plain.0 (inr (refl, (suc (count ss), h.1, h.0)))

pub naming : (g : TreeGrammar) → IsNamedWell g → (wide : Bool) (s : Shape) (rest : List ℕ) → IsAllowed g wide s → Naming g wide s rest
naming g well true s rest h = naming_shape g s rest (shape_plain g well s h) h
naming g well false s rest h = naming_lexical g false s rest (shape_plain g well s (lexical_shape g s h)) h

-- a name that may stand somewhere goes on to a tree there
goes_shape : (g : TreeGrammar) → HasEntry g → (fs : List Frame) → AreFrames g fs → (s : Shape) (name u : List ℕ) → IsAllowed g (is_wide fs) s → text s ++ [] ≡ 40 ∷ (name ++ 32 ∷ u) →
    Goes g (front fs ++ (40 ∷ (name ++ 32 ∷ [])))
goes_shape g entry fs frames s name u is e =
    goes_along g (front fs ++ (40 ∷ (name ++ 32 ∷ []))) u (front fs ++ text s)
    (append_assoc (front fs) (40 ∷ (name ++ 32 ∷ [])) u ∙ ap (λ t. front fs ++ (40 ∷ t)) (append_assoc name (32 ∷ []) u) ∙ ap (λ t. front fs ++ t) (sym e ∙ append-nil (text s)))
    (complete g entry fs s frames is)

pub goes_entry : (g : TreeGrammar) → HasEntry g → (fs : List Frame) → AreFrames g fs → (name : List ℕ) → IsEntryOf g name → Goes g (front fs ++ (40 ∷ (name ++ 32 ∷ [])))
goes_entry g entry fs frames name h =
    goes_shape g entry fs frames (leaf name ((97 ∷ []) ∷ []) None) name _ (lexical_allowed g (is_wide fs) (leaf name ((97 ∷ []) ∷ []) None) ((h.0, h.1, h.2), one_word, tt)) (leaf_text name ((97 ∷ []) ∷ []) None [])

pub goes_lexical : (g : TreeGrammar) → HasEntry g → (fs : List Frame) → AreFrames g fs → (name : List ℕ) → IsLexicalRuleOf g name → Goes g (front fs ++ (40 ∷ (name ++ 32 ∷ [])))
goes_lexical g entry fs frames name h =
    let e = some_leaf g entry.0 in
    goes_shape g entry fs frames (node name (more e none)) name _ (lexical_allowed g (is_wide fs) (node name (more e none)) ((h.0, h.1, h.2), some_lexical g entry))
    (node_text name (more e none) [] ∙ ap (λ t. 40 ∷ (name ++ t)) (more_texts e none (41 ∷ [])))

goes_pads : (g : TreeGrammar) → HasEntry g → (fs : List Frame) → AreFrames g fs → (name : List ℕ) (n : ℕ) → is_wide fs ≡ true → 0 < n → IsPhraseRule g name n → Goes g (front fs ++ (40 ∷ (name ++ 32 ∷ [])))
goes_pads g entry fs frames name zero wide lt h = absurd (omega (arith, lt))
goes_pads g entry fs frames name (suc n) wide lt h =
    let e = some_leaf g entry.0 in
    let ss = pads n e in
    let rule : IsPhraseRule g name (count (more e ss)) = subst (λ k. IsPhraseRule g name (suc k)) (sym (pads_count n e)) h in
    let is : IsShape g (node name (more e ss)) = inr (rule, omega arith, (some_lexical g entry, pads_shapes g n e (some_lexical g entry))) in
    goes_shape g entry fs frames (node name (more e ss)) name _ (subst (λ w. IsAllowed g w (node name (more e ss))) (sym wide) is)
    (node_text name (more e ss) [] ∙ ap (λ t. 40 ∷ (name ++ t)) (more_texts e ss (41 ∷ [])))

pub goes_phrase : (g : TreeGrammar) → HasEntry g → (fs : List Frame) → AreFrames g fs → (name : List ℕ) → IsPhraseRuleOf g (is_wide fs) name → Goes g (front fs ++ (40 ∷ (name ++ 32 ∷ [])))
goes_phrase g entry fs frames name h = goes_pads g entry fs frames name h.1.0 h.0 h.1.1 h.1.2

goes_part : (g : TreeGrammar) → HasEntry g → (fs : List Frame) → AreFrames g fs → (place : ℕ) (part : Part) (wide : Bool) → is_wide fs ≡ wide → slice_get g.parts place ≡ Some part → is_usable part wide ≡ true →
    Goes g (front fs ++ (40 ∷ (name_of g.names place ++ 32 ∷ [])))
goes_part g entry fs frames place Entry wide w at h = goes_entry g entry fs frames (name_of g.names place) (place, at, refl)
goes_part g entry fs frames place LexicalRule wide w at h = goes_lexical g entry fs frames (name_of g.names place) (place, at, refl)
goes_part g entry fs frames place (PhraseRule n) true w at h = goes_pads g entry fs frames (name_of g.names place) n w (ltb-true 0 n h) (place, at, refl)
goes_part g entry fs frames place (PhraseRule n) false w at h = cc
goes_part g entry fs frames place Other wide w at h = cc

pub goes_usable : (g : TreeGrammar) → HasEntry g → (fs : List Frame) → AreFrames g fs → (place : ℕ) → IsUsable g (is_wide fs) place → Goes g (front fs ++ (40 ∷ (name_of g.names place ++ 32 ∷ [])))
goes_usable g entry fs frames place h = goes_part g entry fs frames place h.0 (is_wide fs) refl h.1 h.2

-- what uses say
pub entry_used : (g : TreeGrammar) (wide : Bool) (name : List ℕ) (uses : Uses) → AreUses g wide name uses → (e : ℕ) → uses.entry ≡ Some e → IsEntryOf g name
entry_used g wide name uses are e h = let k = are.entry e h in (e, k.0, k.1)

pub no_rule : (g : TreeGrammar) (wide : Bool) (name : List ℕ) (rules : Rules) → AreRules g wide name rules → rules.lexical ≡ None → rules.phrase ≡ None → IsRuleOf g wide name → ⊥
no_rule g wide name rules are l p (inl k) = are.no_lexical l k.0 k.1 k.2
no_rule g wide name rules are l p (inr k) =
    let q = are.each_phrase k.0 k.1.0 k.1.1 k.1.2 in
    let clash : None ≡ Some q.0 = sym p ∙ q.1 in cc

pub no_use : (g : TreeGrammar) (wide : Bool) (name after : List ℕ) (uses : Uses) → AreUses g wide name uses → uses.entry ≡ None → uses.rules.lexical ≡ None → uses.rules.phrase ≡ None → IsUse g wide name after → ⊥
no_use g wide name after uses are e l p (inl h) = are.no_entry e h.0.0 h.0.1 h.0.2
no_use g wide name after uses are e l p (inr h) = no_rule g wide name uses.rules are.rules l p h.0

-- a name that has uses goes on to a tree
goes_by : (g : TreeGrammar) → HasEntry g → (fs : List Frame) → AreFrames g fs → (name : List ℕ) (uses : Uses) (e l : Option ℕ) (p : Option Phrase) → AreUses g (is_wide fs) name uses →
    uses.entry ≡ e → uses.rules.lexical ≡ l → uses.rules.phrase ≡ p → ((e ≡ None) × (l ≡ None) × (p ≡ None) → ⊥) → Goes g (front fs ++ (40 ∷ (name ++ 32 ∷ [])))
goes_by g entry fs frames name uses (Some e) l p are he hl hp some = let k = are.entry e he in goes_entry g entry fs frames name (e, k.0, k.1)
goes_by g entry fs frames name uses None (Some l) p are he hl hp some = let k = are.rules.lexical l hl in goes_lexical g entry fs frames name (l, k.0, k.1)
goes_by g entry fs frames name uses None None (Some p) are he hl hp some =
    let k = are.rules.phrase p hp in goes_phrase g entry fs frames name (k.0, (p.daughters, k.1, (p.rule, k.2, k.3)))
goes_by g entry fs frames name uses None None None are he hl hp some = absurd (some (refl, refl, refl))

pub goes_uses : (g : TreeGrammar) → HasEntry g → (fs : List Frame) → AreFrames g fs → (name : List ℕ) (uses : Uses) → AreUses g (is_wide fs) name uses →
    ((uses.entry ≡ None) × (uses.rules.lexical ≡ None) × (uses.rules.phrase ≡ None) → ⊥) → Goes g (front fs ++ (40 ∷ (name ++ 32 ∷ [])))
goes_uses g entry fs frames name uses are some = goes_by g entry fs frames name uses uses.entry uses.rules.lexical uses.rules.phrase are refl refl refl some

-- the place of a name that has a use
usable_rule : (g : TreeGrammar) (wide : Bool) (name : List ℕ) → IsRuleOf g wide name → (place : ℕ) × IsUsable g wide place × (name_of g.names place ≡ name)
usable_rule g wide name (inl k) = (k.0, (LexicalRule, k.1, refl), k.2)
usable_rule g wide name (inr k) = (k.1.2.0, (PhraseRule k.1.0, k.1.2.1, ap (λ w. w && ltb 0 k.1.0) k.0 ∙ lt-ltb 0 k.1.0 k.1.1), k.1.2.2)

pub usable_of : (g : TreeGrammar) (wide : Bool) (name after : List ℕ) → IsUse g wide name after → (place : ℕ) × IsUsable g wide place × (name_of g.names place ≡ name)
usable_of g wide name after (inl h) = (h.0.0, (Entry, h.0.1, refl), h.0.2)
usable_of g wide name after (inr h) = usable_rule g wide name h.0
