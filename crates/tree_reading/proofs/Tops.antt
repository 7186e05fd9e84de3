-- Where reading stops at a leaf, and after a tree.
use Rattle.std.proofs.Common.{◌≡◌, ℕ, Bool, true, false, List, [], ◌∷◌, ◌++◌, Option, Some, refl, sym, ap, subst, ◌∙◌, append_assoc, ◌<◌, ◌≤◌, ◌+◌, inl, inr, arith}
use Rattle.std.specs.List.{slice_get}
use Rattle.derivation.specs.Text.{name_of}
use Rattle.tree_reading.specs.declared.Part.TheVariants.{Entry}
use Rattle.tree_reading.specs.declared.uses.Phrase.{Phrase}
use Rattle.tree_reading.specs.declared.stops.Stop.{Stop}
use Rattle.tree_reading.specs.Grammars.{TreeGrammar, IsName, IsNamedWell, HasEntry, ends_name, AreWords, AreNodes}
use Rattle.tree_reading.specs.Inner.Shapes.{Shape, Shapes, leaf, node, none, more, joined, count, text, texts, IsShape, IsPhraseRule, Begins}
use Rattle.tree_reading.specs.Inner.Frames.{Frame, AreFrames, AreRules, IsReady, IsAllowed, IsBehind, front, is_wide}
use Rattle.tree_reading.specs.Inner.Stops.{IsStop, IsAlike, IsText, IsLeafEnd, BeginsLeafEnd, body, ending}
use Rattle.tree_reading.proofs.Runs.{rests, run_splits}
use Rattle.tree_reading.proofs.Decoding.{begins_text, leaf_text, more_texts, decode}
use Rattle.tree_reading.proofs.Framing.{daughter, lexical_allowed, allowed_shape, shape_plain, named, count_joined, below_lexical}
use Rattle.tree_reading.proofs.Going.{complete}
use Rattle.tree_reading.proofs.Naming.{IsUse, IsEntryOf}
use Rattle.tree_reading.proofs.Lifting.{lift}
use Rattle.tree_reading.proofs.Faults.{Stands, name_there}

leaf_row : (fs : List Frame) (name v : List ℕ) → (front fs ++ (40 ∷ (name ++ 32 ∷ 34 ∷ []))) ++ v ≡ front fs ++ (40 ∷ (name ++ 32 ∷ 34 ∷ v))
leaf_row fs name v = append_assoc (front fs) (40 ∷ (name ++ 32 ∷ 34 ∷ [])) v ∙ ap (λ t. front fs ++ (40 ∷ t)) (append_assoc name (32 ∷ 34 ∷ []) v)

leaf_goes : (g : TreeGrammar) → HasEntry g → (fs : List Frame) (name w : List ℕ) (ws : List (List ℕ)) (ns : Option (ℕ × ℕ)) → AreFrames g fs → IsEntryOf g name → AreWords ws → AreNodes ns → w ≡ body ws ++ ending ns →
    (m : List ℕ) × IsText g ((front fs ++ (40 ∷ (name ++ 32 ∷ 34 ∷ []))) ++ (w ++ m))
leaf_goes g entry fs name w ws ns frames e are nodes is =
    let h = complete g entry fs (leaf name ws ns) frames (lexical_allowed g (is_wide fs) (leaf name ws ns) ((e.0, e.1, e.2), are, nodes)) in
    let row : w ++ h.rest ≡ body ws ++ (ending ns ++ h.rest) = ap (λ t. t ++ h.rest) is ∙ append_assoc (body ws) (ending ns) h.rest in (
      h.rest,
      (
        h.shape,
        h.is_shape,
        leaf_row fs name (w ++ h.rest) ∙ ap (λ t. front fs ++ (40 ∷ (name ++ 32 ∷ 34 ∷ t))) row ∙ ap (λ t. front fs ++ t) (sym (leaf_text name ws ns h.rest))
            ∙ sym (append_assoc (front fs) (text (leaf name ws ns)) h.rest) ∙ h.is,
      ),
    )

leaf_there : (g : TreeGrammar) (wide : Bool) (name after w : List ℕ) → 34 ∷ w ≡ after → IsUse g wide name after → BeginsLeafEnd w
leaf_there g wide name after w e (inl h) = subst BeginsLeafEnd (sym (rests _ _ _ _ (e ∙ h.1.1))) h.1.2
leaf_there g wide name after w e (inr h) = let k : Begins 40 (34 ∷ w) = subst (Begins 40) (sym e) h.1 in absurd (omega (arith, k))

leaf_stops : (g : TreeGrammar) → IsNamedWell g → (fs : List Frame) (name w : List ℕ) → AreFrames g fs → IsName name → IsText g ((front fs ++ (40 ∷ (name ++ 32 ∷ 34 ∷ []))) ++ w) → BeginsLeafEnd w
leaf_stops g well fs name w frames is_name h =
    let n = name_there g well fs h.0 (name ++ 32 ∷ 34 ∷ w) h.1 frames (sym (leaf_row fs name w) ∙ h.2) in
    let k = run_splits ends_name name n.name 32 32 (34 ∷ w) n.after is_name.1 n.is_name.1 refl refl n.is in
    leaf_there g (is_wide fs) n.name n.after w k.2 n.using

pub stop_leaf : (g : TreeGrammar) → IsNamedWell g → HasEntry g → (fs : List Frame) (e : ℕ) (rest whole : List ℕ) (stop : Stop) → AreFrames g fs → slice_get g.parts e ≡ Some Entry →
    whole ≡ front fs ++ (40 ∷ (name_of g.names e ++ 32 ∷ 34 ∷ rest)) → IsStop IsLeafEnd BeginsLeafEnd rest stop → IsStop (IsText g) (IsText g) whole stop
stop_leaf g well entry fs e rest whole stop frames at is h =
    let name = name_of g.names e in
    lift IsLeafEnd BeginsLeafEnd (IsText g) (IsText g) (front fs ++ (40 ∷ (name ++ 32 ∷ 34 ∷ []))) rest whole stop (is ∙ sym (leaf_row fs name rest))
    (λ w k. leaf_goes g entry fs name w k.0 k.1 frames (e, at, refl) k.2 k.3 k.4) (λ w k. leaf_stops g well fs name w frames (named g well e Entry at) k) h

-- after a tree
ready_text : (fs : List Frame) (s : Shape) (r : List ℕ) → IsReady fs (text s ++ r)
ready_text [] s r = tt
ready_text (f ∷ fs) s r = λ e. begins_text s r

behind_there : (g : TreeGrammar) → IsNamedWell g → (fs : List Frame) (s t : Shape) (r : List ℕ) → AreFrames g fs → IsShape g s → IsShape g t → (front fs ++ text s) ++ r ≡ text t → IsBehind g fs s r
behind_there g well fs s t r frames is whole e =
    let d = daughter g well fs t (text s ++ r) whole frames (ready_text fs s r) (sym (append_assoc (front fs) (text s) r) ∙ e) in
    let k = decode s d.sub r d.rest (shape_plain g well s is) (shape_plain g well d.sub (allowed_shape g (is_wide fs) d.sub d.allowed)) d.is in
    subst (λ a. IsBehind g fs a r) (sym k.0) (subst (λ a. IsBehind g fs d.sub a) (sym k.1) d.behind)

pub stop_after : (g : TreeGrammar) → IsNamedWell g → HasEntry g → (fs : List Frame) (s : Shape) (rest : List ℕ) → AreFrames g fs → IsAllowed g (is_wide fs) s →
    ((r : List ℕ) → IsAlike rest r → IsBehind g fs s r → ⊥) → Stands g (front fs ++ text s) rest
stop_after g well entry fs s rest frames is nothing =
    record {
      goes = complete g entry fs s frames is;
      stops = λ r alike t whole e. nothing r alike (behind_there g well fs s t r frames (allowed_shape g (is_wide fs) s is) whole e);
    }

-- at the end of the whole tree
pub nothing_behind : (g : TreeGrammar) (s : Shape) (rest r : List ℕ) → (rest ≡ [] → ⊥) → IsAlike rest r → IsBehind g [] s r → ⊥
nothing_behind g s [] r some alike h = some refl
nothing_behind g s (x ∷ rest) r some alike h = subst (IsAlike (x ∷ rest)) h alike

begins_as : (x y : ℕ) (rest u : List ℕ) → Begins x rest → IsAlike rest (y ∷ u) → x ≡ y
begins_as x y [] u h alike = absurd h
begins_as x y (z ∷ rest) u h alike = sym h ∙ alike

as_begins : (y : ℕ) (rest u : List ℕ) → IsAlike rest (y ∷ u) → Begins y rest
as_begins y [] u alike = absurd alike
as_begins y (z ∷ rest) u alike = alike

not_closed_by : (g : TreeGrammar) (f : Frame) (fs : List Frame) (s : Shape) (rest r : List ℕ) (later : Shapes) (after : List ℕ) → Begins 41 rest → (IsAllowed g (is_wide fs) (node f.name (joined f.done (more s none))) → ⊥) → IsAlike rest r →
    r ≡ texts later ++ 41 ∷ after → IsAllowed g (is_wide fs) (node f.name (joined f.done (more s later))) → ⊥
not_closed_by g f fs s rest r none after begins shut alike e h = shut h
not_closed_by g f fs s rest r (more t ts) after begins shut alike e h =
    let k = begins_as 41 32 rest (text t ++ (texts ts ++ 41 ∷ after)) begins (subst (IsAlike rest) (e ∙ more_texts t ts (41 ∷ after)) alike) in omega (arith, k)

-- at a parenthesis where the rule can't end
pub not_closed : (g : TreeGrammar) (f : Frame) (fs : List Frame) (s : Shape) (rest r : List ℕ) → Begins 41 rest → (IsAllowed g (is_wide fs) (node f.name (joined f.done (more s none))) → ⊥) → IsAlike rest r → IsBehind g (f ∷ fs) s r → ⊥
not_closed g f fs s rest r begins shut alike h = not_closed_by g f fs s rest r h.0 h.1 begins shut alike h.2 h.3

-- where neither the rule ends nor another daughter may stand
two_lexical : (g : TreeGrammar) (name : List ℕ) (done : Shapes) (s t : Shape) (ts : Shapes) (w : Bool) → IsAllowed g w (node name (joined done (more s (more t ts)))) → (w ≡ true) × ((c : ℕ) × (0 < c) × (c ≡ count (joined done (more s (more t ts)))) × IsPhraseRule g name c)
two_lexical g name done s t ts false h = let k = below_lexical g name done s (more t ts) h in let e : more t ts ≡ none = k.1 in absurd (omega (arith, ap count e))
two_lexical g name done s t ts true (inl h) = let k = below_lexical g name done s (more t ts) h in let e : more t ts ≡ none = k.1 in absurd (omega (arith, ap count e))
two_lexical g name done s t ts true (inr h) = (refl, (count (joined done (more s (more t ts))), h.1, refl, h.0))

not_gone_by : (g : TreeGrammar) (f : Frame) (fs : List Frame) (s : Shape) (rest r : List ℕ) (later : Shapes) (after : List ℕ) → AreRules g (is_wide fs) f.name f.rules → (Begins 41 rest → ⊥) →
    (Begins 32 rest → (p : Phrase) → f.rules.phrase ≡ Some p → p.daughters ≤ count f.done + 1) → IsAlike rest r → r ≡ texts later ++ 41 ∷ after → IsAllowed g (is_wide fs) (node f.name (joined f.done (more s later))) → ⊥
not_gone_by g f fs s rest r none after are shut full alike e h = shut (as_begins 41 rest after (subst (IsAlike rest) e alike))
not_gone_by g f fs s rest r (more t ts) after are shut full alike e h =
    let begins = as_begins 32 rest (text t ++ (texts ts ++ 41 ∷ after)) (subst (IsAlike rest) (e ∙ more_texts t ts (41 ∷ after)) alike) in
    let k = two_lexical g f.name f.done s t ts (is_wide fs) h in
    let p = are.each_phrase k.0 k.1.0 k.1.1 k.1.3 in
    omega (arith, full begins p.0 p.1, p.2, k.1.2, count_joined f.done s (more t ts))

pub not_gone : (g : TreeGrammar) (f : Frame) (fs : List Frame) (s : Shape) (rest r : List ℕ) → AreRules g (is_wide fs) f.name f.rules → (Begins 41 rest → ⊥) →
    (Begins 32 rest → (p : Phrase) → f.rules.phrase ≡ Some p → p.daughters ≤ count f.done + 1) → IsAlike rest r → IsBehind g (f ∷ fs) s r → ⊥
not_gone g f fs s rest r are shut full alike h = not_gone_by g f fs s rest r h.0 h.1 are shut full alike h.2 h.3
