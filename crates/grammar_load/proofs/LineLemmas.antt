-- What lines say.
use Rattle.std.proofs.Common.{ℕ, ◌≡◌, ◌<◌, ◌≤◌, ◌+◌, ◌⊎◌, inl, inr, Bool, true, false, cond, List, [], ◌∷◌, ◌++◌, length, map, filter_map, get_or, Option, Some, None, refl, sym, ◌∙◌, ap, subst, arith}
use Rattle.std.specs.Option.{option_map}
use Rattle.std.specs.List.{cons_option}
use Rattle.std.specs.Str.{chars, is_utf8, IsUtf8}
use Rattle.std.proofs.lemmas.Str.{is_utf8-from_IsUtf8, IsUtf8-from_is_utf8}
use Rattle.std.proofs.lemmas.List.{append-nil, append_assoc}
use Rattle.lexicon.specs.Words.{Word}
use Rattle.lkb_io.specs.Lines.{lines_of}
use Rattle.grammar_settings.specs.SettingsFiles.{words, is_comment}
use Rattle.spelling_rules.specs.Trees.{LineTree}
use Rattle.grammar_load.specs.IrregularLines.{line_in, line_by, line_says, lines_said, rule_named}

if_true : {A : Type 0} (b : Bool) (x y : A) → b ≡ true → cond b x y ≡ x
if_true b x y e = ap (λ c. cond c x y) e

if_false : {A : Type 0} (b : Bool) (x y : A) → b ≡ false → cond b x y ≡ y
if_false b x y e = ap (λ c. cond c x y) e

not_utf8 : (line : List ℕ) (b : Bool) → is_utf8 line ≡ b → (IsUtf8 line → ⊥) → b ≡ false
not_utf8 line true e bad = absurd (bad (IsUtf8-from_is_utf8 line e))
not_utf8 line false e bad = refl

pub no_line : (rules : List Word) (line : List ℕ) → (IsUtf8 line → ⊥) → None ≡ line_says rules line
no_line rules line bad =
    let e = not_utf8 line (is_utf8 line) refl bad in
    sym (if_false (is_utf8 line) (cond (is_comment line) None (line_in rules (words (chars line)))) None e)

pub fields_line : (rules : List Word) (line : List ℕ) (cs : List ℕ) (ws : List (List ℕ)) → IsUtf8 line → is_comment line ≡ false → cs ≡ chars line → ws ≡ words cs → line_in rules ws ≡ line_says rules line
fields_line rules line cs ws utf8 e f g =
    let u = is_utf8-from_IsUtf8 line utf8 in
    ap (line_in rules) g ∙ ap (λ t. line_in rules (words t)) f
    ∙ sym (if_true (is_utf8 line) (cond (is_comment line) None (line_in rules (words (chars line)))) None u ∙ if_false (is_comment line) None (line_in rules (words (chars line))) e)

-- three fields that name no lexical rule
pub unnamed : {X : Type 0} (see : X → List ℕ) (rules : List Word) (fields : List X) (d : X) (o : Option ℕ) → length fields ≡ 3 → o ≡ rule_named rules (see (get_or fields 1 d)) → o ≡ None → None ≡ line_in rules (map see fields)
unnamed see rules [] d o n e none = absurd (omega (arith, n))
unnamed see rules (a ∷ []) d o n e none = absurd (omega (arith, n))
unnamed see rules (a ∷ b ∷ []) d o n e none = absurd (omega (arith, n))
unnamed see rules (a ∷ b ∷ c ∷ []) d o n e none = ap (option_map (line_by (see a) (see c))) (sym none ∙ e)
unnamed see rules (a ∷ b ∷ c ∷ f ∷ more) d o n e none = absurd (omega (arith, n))
