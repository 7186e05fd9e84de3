-- What begins before a daughter.
use Rattle.std.proofs.Common.{◌≡◌, ℕ, Bool, List, [], ◌∷◌, ◌++◌, length, map, take, drop, Option, Some, None, unwrap_or, option_map, refl, sym, ap, subst, ◌∙◌, append_assoc, ◌<◌, ◌≤◌, ◌-◌, ◌⊎◌, inl, inr, arith, length-append, length-drop}
use Rattle.std.specs.List.{slice_get, All}
use Rattle.std.specs.String.{string_bytes}
use Rattle.std.proofs.lemmas.List.{take-append-drop}
use Rattle.std.proofs.lemmas.List.Elements.{All-push, All-nil}
use Rattle.derivation.specs.Trees.{lexical}
use Rattle.derivation.specs.Text.{name_of}
use Rattle.derivation.specs.Views.{derivation_of, in_order}
use Rattle.derivation.specs.Counted.{AreCounted}
use Rattle.derivation.specs.declared.Tree.{Tree}
use Rattle.tree_reading.specs.declared.Part.TheVariants.{Entry, LexicalRule, PhraseRule}
use Rattle.tree_reading.specs.declared.uses.Uses.{Uses}
use Rattle.tree_reading.specs.declared.uses.Rules.{Rules}
use Rattle.tree_reading.specs.declared.uses.Phrase.{Phrase}
use Rattle.tree_reading.specs.declared.opening.Open.{Open}
use Rattle.tree_reading.specs.declared.leaves.Leaf.{Leaf}
use Rattle.tree_reading.specs.declared.closing.Child.TheVariants.{Lexical}
use Rattle.tree_reading.specs.declared.stops.Stop.{Stop}
use Rattle.tree_reading.specs.Grammars.{TreeGrammar, IsNamedWell, HasEntry, IsName, AreOver}
use Rattle.tree_reading.specs.Texts.{ArePreferred}
use Rattle.tree_reading.specs.Inner.Shapes.{leaf, none, text, shape, shapes, Begins}
use Rattle.tree_reading.specs.Inner.Frames.{Frame, AreFrames, AreRules, IsAllowed, IsReady, front, is_wide, frame_of, frames_of, place_of, AreRead}
use Rattle.tree_reading.specs.Inner.Uses.{AreUses}
use Rattle.tree_reading.specs.Inner.Closed.{HasLeaf, leaf_of}
use Rattle.tree_reading.specs.Inner.Begun.{IsBefore, IsAfter, HasRule, IsNamed}
use Rattle.tree_reading.specs.Inner.Stops.{IsText, IsStop, IsLeafEnd, BeginsLeafEnd, body, ending}
use Rattle.tree_reading.proofs.Decoding.{leaf_text}
use Rattle.tree_reading.proofs.Framing.{named, lexical_allowed, front_step}
use Rattle.tree_reading.proofs.Pushing.{frames_push}
use Rattle.tree_reading.proofs.Tops.{stop_leaf}

pub near_row : (fs : List Frame) (bytes text' name rest : List ℕ) (n : ℕ) → bytes ≡ 40 ∷ text' → text' ≡ name ++ rest → front fs ++ bytes ≡ (front fs ++ (40 ∷ take n name)) ++ (drop n name ++ rest)
near_row fs bytes text' name rest n e q =
    ap (λ t. front fs ++ t) (e ∙ ap (λ t. 40 ∷ t) (q ∙ ap (λ t. t ++ rest) (sym (take-append-drop n name)) ∙ append_assoc (take n name) (drop n name) rest))
    ∙ sym (append_assoc (front fs) (40 ∷ take n name) (drop n name ++ rest))

pub near_size : (text' name rest : List ℕ) (n : ℕ) → text' ≡ name ++ rest → n ≤ length name → length (drop n name ++ rest) ≡ length text' - n
near_size text' name rest n q le = omega (arith, ap length q, length-append name rest, length-append (drop n name) rest, length-drop n name)

pub name_row : (fs : List Frame) (bytes text' name rest : List ℕ) → bytes ≡ 40 ∷ text' → text' ≡ name ++ rest → front fs ++ bytes ≡ (front fs ++ (40 ∷ name)) ++ rest
name_row fs bytes text' name rest e q = ap (λ t. front fs ++ t) (e ∙ ap (λ t. 40 ∷ t) q) ∙ sym (append_assoc (front fs) (40 ∷ name) rest)

pub begun_row : (fs : List Frame) (bytes name rest : List ℕ) → bytes ≡ (40 ∷ name) ++ 32 ∷ rest → front fs ++ bytes ≡ (front fs ++ (40 ∷ (name ++ 32 ∷ []))) ++ rest
begun_row fs bytes name rest e =
    ap (λ t. front fs ++ t) (e ∙ ap (λ t. 40 ∷ t) (sym (append_assoc name (32 ∷ []) rest))) ∙ sym (append_assoc (front fs) (40 ∷ (name ++ 32 ∷ [])) rest)

-- a name that has uses is one
name_by : (g : TreeGrammar) → IsNamedWell g → (wide : Bool) (name : List ℕ) (uses : Uses) (e l : Option ℕ) (p : Option Phrase) → AreUses g wide name uses → uses.entry ≡ e → uses.rules.lexical ≡ l → uses.rules.phrase ≡ p →
    ((e ≡ None) × (l ≡ None) × (p ≡ None) → ⊥) → IsName name
name_by g well wide name uses (Some e) l p are he hl hp some = let k = are.entry e he in subst IsName k.1 (named g well e Entry k.0)
name_by g well wide name uses None (Some l) p are he hl hp some = let k = are.rules.lexical l hl in subst IsName k.1 (named g well l LexicalRule k.0)
name_by g well wide name uses None None (Some p) are he hl hp some = let k = are.rules.phrase p hp in subst IsName k.3 (named g well p.rule (PhraseRule p.daughters) k.2)
name_by g well wide name uses None None None are he hl hp some = absurd (some (refl, refl, refl))

pub some_name : (g : TreeGrammar) → IsNamedWell g → (wide : Bool) (name : List ℕ) (uses : Uses) → AreUses g wide name uses → ((uses.entry ≡ None) × (uses.rules.lexical ≡ None) × (uses.rules.phrase ≡ None) → ⊥) → IsName name
some_name g well wide name uses are some = name_by g well wide name uses uses.entry uses.rules.lexical uses.rules.phrase are refl refl refl some

pub named_read : (g : TreeGrammar) → IsNamedWell g → (wide : Bool) (bytes text' name after rest : List ℕ) (uses : Uses) → bytes ≡ 40 ∷ text' → text' ≡ name ++ after → after ≡ 32 ∷ rest → AreUses g wide name uses →
    ((uses.entry ≡ None) × (uses.rules.lexical ≡ None) × (uses.rules.phrase ≡ None) → ⊥) → IsNamed g wide bytes uses rest
named_read g well wide bytes text' name after rest uses e q r are some =
    record { name = name; is_name = some_name g well wide name uses are some; uses_are = are; some = some; is = e ∙ ap (λ t. 40 ∷ t) (q ∙ ap (λ t. name ++ t) r) }

-- a leaf is read
pub leaf_after : (g : TreeGrammar) (os : List Open) (lf : Leaf) (e : ℕ) (whole bytes words after : List ℕ) → IsBefore g os whole bytes → slice_get g.parts e ≡ Some Entry → bytes ≡ (40 ∷ name_of g.names e) ++ 32 ∷ 34 ∷ words →
    HasLeaf e words lf after → IsAfter g os (Lexical lf) whole after
leaf_after g os lf e whole bytes words after h at is facts =
    let ws = map string_bytes lf.words.items in
    let same : shape g.names (leaf_of lf) ≡ leaf (name_of g.names e) ws lf.nodes =
    ap (λ rs. shape g.names (lexical lf.entry rs ws lf.nodes)) facts.no_rules ∙ ap (λ k. leaf (name_of g.names k) ws lf.nodes) facts.entry in
    record {
      frames = h.frames;
      good = record {
        over = (ap (λ k. slice_get g.parts k) facts.entry ∙ at, subst (All (λ r. slice_get g.parts r ≡ Some LexicalRule)) (sym facts.no_rules) (All-nil (λ r. slice_get g.parts r ≡ Some LexicalRule)), facts.words, facts.nodes);
        preferred = tt;
        counted = tt;
      };
      allowed = subst (λ s. IsAllowed g (is_wide (frames_of g.names os)) s) (sym same)
          (lexical_allowed g (is_wide (frames_of g.names os)) (leaf (name_of g.names e) ws lf.nodes) ((e, at, refl), facts.words, facts.nodes));
      is = ap (λ t. front (frames_of g.names os) ++ (text t ++ after)) same
          ∙ ap (λ t. front (frames_of g.names os) ++ t) (leaf_text (name_of g.names e) ws lf.nodes after ∙ ap (λ t. 40 ∷ (name_of g.names e ++ 32 ∷ 34 ∷ t)) (sym (facts.is ∙ append_assoc (body ws) (ending lf.nodes) after)) ∙ sym is)
          ∙ h.is;
    }

-- where a leaf stops
pub leaf_stop : (g : TreeGrammar) → IsNamedWell g → HasEntry g → (os : List Open) (e : ℕ) (whole bytes words : List ℕ) (stop : Stop) → IsBefore g os whole bytes → slice_get g.parts e ≡ Some Entry →
    bytes ≡ (40 ∷ name_of g.names e) ++ 32 ∷ 34 ∷ words → IsStop IsLeafEnd BeginsLeafEnd words stop → IsStop (IsText g) (IsText g) whole stop
leaf_stop g well entry os e whole bytes words stop h at is k =
    stop_leaf g well entry (frames_of g.names os) e words whole stop h.frames.frames at (sym h.is ∙ ap (λ t. front (frames_of g.names os) ++ t) is) k

-- a rule's text has begun
named_by : (g : TreeGrammar) (wide : Bool) (name : List ℕ) (rules : Rules) (l : Option ℕ) (p : Option Phrase) → AreRules g wide name rules → rules.lexical ≡ l → rules.phrase ≡ p → ((l ≡ None) × (p ≡ None) → ⊥) →
    (name_of g.names (unwrap_or l (unwrap_or (option_map (λ (q : Phrase). q.rule) p) 0)) ≡ name) × (((none ≡ none) × ((r : ℕ) × (rules.lexical ≡ Some r))) ⊎ ((q : Phrase) × (rules.phrase ≡ Some q) × (0 < q.daughters)))
named_by g wide name rules (Some l) p are hl hp some = ((are.lexical l hl).1, inl (refl, (l, hl)))
named_by g wide name rules None (Some p) are hl hp some = let k = are.phrase p hp in (k.3, inr (p, hp, k.1))
named_by g wide name rules None None are hl hp some = absurd (some (refl, refl))

pub rule_begun : (g : TreeGrammar) (os : List Open) (o : Open) (rules : Rules) (name whole bytes after : List ℕ) → IsBefore g os whole bytes → o.rules ≡ rules → o.daughters.items ≡ [] →
    AreRules g (is_wide (frames_of g.names os)) name rules → HasRule rules → bytes ≡ (40 ∷ name) ++ 32 ∷ after → Begins 40 after → IsBefore g (os ++ o ∷ []) whole after
rule_begun g os o rules name whole bytes after h same empty are some is begins =
    let fs = frames_of g.names os in
    let k = named_by g (is_wide fs) name rules rules.lexical rules.phrase are refl refl some in
    let f : Frame = record { name = name; rules = rules; done = none } in
    let as' : frame_of g.names o ≡ f =
    ap (λ (ts : List Tree). record { name = name_of g.names (place_of o.rules); rules = o.rules; done = shapes g.names (in_order (map derivation_of ts)) }) empty
    ∙ ap (λ (r : Rules). record { name = name_of g.names (place_of r); rules = r; done = none }) same
    ∙ ap (λ (n : List ℕ). record { name = n; rules = rules; done = none }) k.0 in
    let row : frames_of g.names (os ++ o ∷ []) ≡ f ∷ fs = frames_push g.names os o ∙ ap (λ t. t ∷ fs) as' in
    let read : AreRead g o = record {
      over = subst (λ ts. AreOver g (in_order (map derivation_of ts))) (sym empty) tt;
      preferred = subst (λ ts. ArePreferred g (in_order (map derivation_of ts))) (sym empty) tt;
      counted = subst AreCounted (sym empty) tt;
    } in
    record {
      frames = record { frames = subst (AreFrames g) (sym row) (are, k.1, tt, h.frames.frames); read = All-push (AreRead g) os o h.frames.read read };
      ready = subst (λ t. IsReady t after) (sym row) (λ q. begins);
      is = ap (λ t. front t ++ after) row ∙ front_step f fs after ∙ ap (λ t. front fs ++ t) (sym is) ∙ h.is;
    }
