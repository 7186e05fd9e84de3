-- Words have one form.
use Rattle.std.proofs.Common.{◌≡◌, ◌∙◌, sym, ap, ap₂, refl, subst, ℕ, List, [], ◌∷◌, ◌++◌, Some, true, false, inl, inr}
use Rattle.std.proofs.lemmas.Slice.Eq.{bytes_eq-Decides}
use Rattle.command_line.specs.Words.{OptionName, Value, in_range, name, nothing, is_name, option_id, word_of, value_of, number_of, IsValue, Item, positional, option as an_option, words_of, AreItems, positionals, options_of, Options, AreArguments, Task, parse, chart, explain, generate, types, expand, check, self_test, scope, batch, transfer, command_word, places_of, HasNames, Form, help, help_on, version, run, IsForm}
use Rattle.command_line.specs.Inner.Reading.{command_named, told_form}
use Rattle.command_line.proofs.Uses.{ids-apart}
use Rattle.command_line.proofs.Telling.{head-same, tail-same, some-same, help-told, help-on-told, version-told, help-apart, help-on-apart, version-apart}

pub same-option : (p o : OptionName) → word_of p ≡ word_of o → p ≡ o
same-option p o e = elim (ids-apart p o) [
  | inl same ↦ same
  | inr apart ↦ (let bad : true ≡ false = sym ((bytes_eq-Decides (option_id p) (option_id o)).1 (tail-same 45 45 _ _ (tail-same 45 45 _ _ e))) ∙ apart in cc)
]

pub not-name : (o : OptionName) → is_name (word_of o) ≡ false
not-name o = refl

-- the values of one option, and what follows them
pub same-value : (v : Value) (vs us ws xs : List (List ℕ)) → IsValue v vs → IsValue v us → vs ++ ws ≡ us ++ xs → (vs ≡ us) × (ws ≡ xs)
same-value (in_range l g) (a ∷ []) (b ∷ []) ws xs h k e = (ap (λ x. x ∷ []) (head-same a b ws xs e), tail-same a b ws xs e)
same-value name (a ∷ []) (b ∷ []) ws xs h k e = (ap (λ x. x ∷ []) (head-same a b ws xs e), tail-same a b ws xs e)
same-value nothing [] [] ws xs h k e = (refl, e)
same-value (in_range l g) [] us ws xs h k e = absurd h
same-value (in_range l g) (a ∷ b ∷ vs) us ws xs h k e = absurd h
same-value name [] us ws xs h k e = absurd h
same-value name (a ∷ b ∷ vs) us ws xs h k e = absurd h
same-value nothing (a ∷ vs) us ws xs h k e = absurd h
same-value v vs us ws xs h k e = absurd k

pub same-items : (items others : List Item) → AreItems items → AreItems others → words_of items ≡ words_of others → items ≡ others
same-items [] [] h k e = refl
same-items [] (positional w ∷ others) h k e = cc
same-items [] (an_option o vs ∷ others) h k e = cc
same-items (positional w ∷ items) [] h k e = cc
same-items (an_option o vs ∷ items) [] h k e = cc
same-items (positional w ∷ items) (positional u ∷ others) h k e =
    ap₂ (λ x (ys : List Item). positional x ∷ ys) (head-same w u _ _ e) (same-items items others h.1 k.1 (tail-same w u _ _ e))
same-items (positional w ∷ items) (an_option o vs ∷ others) h k e =
    let bad : true ≡ false = sym h.0 ∙ ap is_name (head-same w (word_of o) _ _ e) ∙ not-name o in cc
same-items (an_option o vs ∷ items) (positional w ∷ others) h k e =
    let bad : true ≡ false = sym k.0 ∙ ap is_name (sym (head-same (word_of o) w _ _ e)) ∙ not-name o in cc
same-items (an_option o vs ∷ items) (an_option p us ∷ others) h k e =
    let same : o ≡ p = same-option o p (head-same (word_of o) (word_of p) _ _ e) in
    let parts = same-value (value_of o) vs us (words_of items) (words_of others) h.0 (subst (λ q. IsValue (value_of q) us) (sym same) k.0) (tail-same (word_of o) (word_of p) _ _ e) in
    let rest = same-items items others h.1 k.1 parts.1 in
    λ i. an_option (same i) (parts.0 i) ∷ rest i

pub same-arguments : (ps qs : List Value) (words names others : List (List ℕ)) (o p : Options) → AreArguments ps words names o → AreArguments qs words others p → (names ≡ others) × (o ≡ p)
same-arguments ps qs words names others o p h k =
    let same = same-items h.0 k.0 h.2 k.2 (sym h.1 ∙ k.1) in
    (sym h.5 ∙ ap positionals same ∙ k.5, h.6 ∙ ap options_of same ∙ sym k.6)

one-name : (a b : List ℕ) (names : List (List ℕ)) → names ≡ a ∷ [] → names ≡ b ∷ [] → a ≡ b
one-name a b names h k = head-same a b [] [] (sym h ∙ k)

second-name : (a b x y : List ℕ) (names : List (List ℕ)) → names ≡ a ∷ x ∷ [] → names ≡ b ∷ y ∷ [] → (a ≡ b) × (x ≡ y)
second-name a b x y names h k = let e : a ∷ x ∷ [] ≡ b ∷ y ∷ [] = sym h ∙ k in (head-same a b _ _ e, head-same x y [] [] (tail-same a b _ _ e))

same-task : (t u : Task) (names : List (List ℕ)) → command_named (command_word t) ≡ command_named (command_word u) → HasNames t names → HasNames u names → t ≡ u
same-task (parse a) (parse b) names e h k = ap parse (one-name a b names h k)
same-task (chart a) (chart b) names e h k = ap chart (one-name a b names h k)
same-task (explain a) (explain b) names e h k = ap explain (one-name a b names h k)
same-task (generate a) (generate b) names e h k = ap generate (one-name a b names h k)
same-task (types a) (types b) names e h k = ap types (one-name a b names h k)
same-task (expand a x) (expand b y) names e h k = let s = second-name a b x y names h k in λ i. expand (s.0 i) (s.1 i)
same-task (check a) (check b) names e h k = ap check (one-name a b names h k)
same-task (self_test a x) (self_test b y) names e h k =
    let s = second-name h.0 k.0 h.1 k.1 names h.2 k.2 in
    let number : a ≡ b = h.3 ∙ ap number_of s.0 ∙ sym k.3 in
    let size : x ≡ y = h.4 ∙ ap number_of s.1 ∙ sym k.4 in λ i. self_test (number i) (size i)
same-task scope scope names e h k = refl
same-task (batch a x) (batch b y) names e h k = let s = second-name a b x y names h k in λ i. batch (s.0 i) (s.1 i)
same-task (transfer a) (transfer b) names e h k = ap transfer (one-name a b names h k)
same-task t u names e h k = cc

both-told : (words : List (List ℕ)) (f g : Form) → told_form words ≡ Some f → told_form words ≡ Some g → f ≡ g
both-told words f g h k = some-same f g (sym h ∙ k)

pub same-form : (words : List (List ℕ)) (f g : Form) → IsForm words f → IsForm words g → f ≡ g
same-form words help help h k = refl
same-form words help (help_on d) h k = both-told words _ _ (help-told words h) (help-on-told words d k)
same-form words help version h k = both-told words _ _ (help-told words h) (version-told words k)
same-form words help (run t o) h k = absurd (help-apart words t o h k)
same-form words (help_on c) help h k = both-told words _ _ (help-on-told words c h) (help-told words k)
same-form words (help_on c) (help_on d) h k = both-told words _ _ (help-on-told words c h) (help-on-told words d k)
same-form words (help_on c) version h k = both-told words _ _ (help-on-told words c h) (version-told words k)
same-form words (help_on c) (run t o) h k = absurd (help-on-apart words c t o h k)
same-form words version help h k = both-told words _ _ (version-told words h) (help-told words k)
same-form words version (help_on d) h k = both-told words _ _ (version-told words h) (help-on-told words d k)
same-form words version version h k = refl
same-form words version (run t o) h k = absurd (version-apart words t o h k)
same-form words (run t o) help h k = absurd (help-apart words t o k h)
same-form words (run t o) (help_on d) h k = absurd (help-on-apart words d t o k h)
same-form words (run t o) version h k = absurd (version-apart words t o k h)
same-form words (run t o) (run u p) h k =
    let all : command_word t ∷ h.0 ≡ command_word u ∷ k.0 = sym h.2 ∙ k.2 in
    let rest = tail-same (command_word t) (command_word u) h.0 k.0 all in
    let s = same-arguments (places_of t) (places_of u) h.0 h.1 k.1 o p h.3 (subst (λ ws. AreArguments (places_of u) ws k.1 p) (sym rest) k.3) in
    let task = same-task t u h.1 (ap command_named (head-same (command_word t) (command_word u) h.0 k.0 all)) h.4 (subst (HasNames u) (sym s.0) k.4) in
    λ i. run (task i) (s.1 i)
