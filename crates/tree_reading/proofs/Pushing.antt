-- Daughters that are read, and the rules that stand over them.
use Rattle.std.proofs.Common.{◌≡◌, ℕ, suc, Bool, true, false, ◌==◌, if◌then◌else◌, List, [], ◌∷◌, ◌++◌, length, map, reverse, Option, Some, None, refl, sym, ap, subst, ◌∙◌, eq-eqb, eqb-true, Result, MatchOption}
use Rattle.std.specs.Result.{IfOk}
use Rattle.std.proofs.lemmas.List.{map-append, reverse-append}
use Rattle.derivation.specs.Trees.{Derivation, Daughters, lexical, phrase, no_more, first}
use Rattle.derivation.specs.Views.{derivation_of, in_order}
use Rattle.derivation.specs.Counted.{IsCounted, AreCounted}
use Rattle.derivation.specs.declared.Tree.{Tree}
use Rattle.tree_reading.specs.declared.uses.Phrase.{Phrase}
use Rattle.tree_reading.specs.declared.opening.Open.{Open}
use Rattle.tree_reading.specs.Grammars.{count_daughters}
use Rattle.tree_reading.specs.Inner.Frames.{frame_of, frames_of}
use Rattle.tree_reading.specs.Inner.Closed.{as_phrase, as_lexical, closed, lexical_here, with_last, tree_of, IsPhrase, IsChildCounted}
use Rattle.tree_reading.specs.declared.uses.Rules.{Rules}
use Rattle.tree_reading.specs.declared.closing.Child.{Child}
use Rattle.tree_reading.specs.declared.stops.Stop.{Stop}

pub count_trees : (ts : List Tree) → count_daughters (in_order (map derivation_of ts)) ≡ length ts
count_trees [] = refl
count_trees (t ∷ ts) = ap suc (count_trees ts)

pub trees_push : (ts : List Tree) (t : Tree) → in_order (map derivation_of (ts ++ t ∷ [])) ≡ with_last (in_order (map derivation_of ts)) (derivation_of t)
trees_push [] t = refl
trees_push (u ∷ ts) t = ap (λ d. first (derivation_of u) d) (trees_push ts t)

pub trees_more : (ts new : List Tree) (t : Tree) (d : Derivation) → new ≡ ts ++ t ∷ [] → derivation_of t ≡ d → in_order (map derivation_of new) ≡ with_last (in_order (map derivation_of ts)) d
trees_more ts new t d e is = ap (λ us. in_order (map derivation_of us)) e ∙ trees_push ts t ∙ ap (λ k. with_last (in_order (map derivation_of ts)) k) is

counted_push : (ts : List Tree) (t : Tree) → AreCounted ts → IsCounted t → AreCounted (ts ++ t ∷ [])
counted_push [] t a b = (b, tt)
counted_push (u ∷ ts) t a b = (a.0, counted_push ts t a.1 b)

pub counted_more : (ts new : List Tree) (t : Tree) → new ≡ ts ++ t ∷ [] → AreCounted ts → IsCounted t → AreCounted new
counted_more ts new t e a b = subst AreCounted (sym e) (counted_push ts t a b)

pub frames_push : (names : List (List ℕ)) (os : List Open) (o : Open) → frames_of names (os ++ o ∷ []) ≡ frame_of names o ∷ frames_of names os
frames_push names os o = ap reverse (map-append (frame_of names) os (o ∷ [])) ∙ reverse-append (map (frame_of names) os) (frame_of names o ∷ [])

pub phrase_made : (o : Option Phrase) (p : Phrase) (ts : List Tree) (d : Derivation) → o ≡ Some p → p.daughters ≡ length ts → d ≡ phrase p.rule (in_order (map derivation_of ts)) → as_phrase o (in_order (map derivation_of ts)) ≡ Some d
phrase_made o p ts d at size is =
    let ds = in_order (map derivation_of ts) in
    ap (λ k. as_phrase k ds) at
    ∙ ap (λ b. if b then Some (phrase p.rule ds) else None) (eq-eqb p.daughters (count_daughters ds) (size ∙ sym (count_trees ts)))
    ∙ ap Some (sym is)

pub is_phrase : (d : Derivation) (r : ℕ) (ds : Daughters) → d ≡ phrase r ds → IsPhrase d
is_phrase d r ds e = subst IsPhrase (sym e) tt

not_by : (p : Phrase) (ds : Daughters) (b : Bool) → (p.daughters == count_daughters ds) ≡ b → (p.daughters ≡ count_daughters ds → ⊥) → as_phrase (Some p) ds ≡ None
not_by p ds true e size = absurd (size (eqb-true p.daughters (count_daughters ds) e))
not_by p ds false e size = ap (λ b. if b then Some (phrase p.rule ds) else None) e

pub not_made : (o : Option Phrase) (p : Phrase) (ts : List Tree) → o ≡ Some p → (p.daughters ≡ length ts → ⊥) → as_phrase o (in_order (map derivation_of ts)) ≡ None
not_made o p ts at size = ap (λ k. as_phrase k (in_order (map derivation_of ts))) at ∙ not_by p (in_order (map derivation_of ts)) (p.daughters == count_daughters (in_order (map derivation_of ts))) refl (λ e. size (e ∙ count_trees ts))

pub closed_lexical : (rules : Rules) (ds : Daughters) (e r : ℕ) (rs : List ℕ) (ws : List (List ℕ)) (ns : Option (ℕ × ℕ)) → lexical_here rules ds ≡ Some r → closed rules ds (lexical e rs ws ns) ≡ Some (lexical e (rs ++ r ∷ []) ws ns)
closed_lexical rules no_more e r rs ws ns at = ap (λ o. as_lexical o rules.phrase (lexical e rs ws ns)) at
closed_lexical rules (first d ds) e r rs ws ns at = cc

none_lexical : (p : Option Phrase) (d : Derivation) → as_lexical None p d ≡ as_phrase p (first d no_more)
none_lexical p (lexical e rs ws ns) = refl
none_lexical p (phrase r ds) = refl

pub closed_other : (rules : Rules) (ds : Daughters) (d : Derivation) → lexical_here rules ds ≡ None → closed rules ds d ≡ as_phrase rules.phrase (with_last ds d)
closed_other rules no_more d at = ap (λ o. as_lexical o rules.phrase d) at ∙ none_lexical rules.phrase d
closed_other rules (first e es) d at = refl

whole_lexical : (o : Option ℕ) (p : Option Phrase) (d : Derivation) → IsPhrase d → as_lexical o p d ≡ as_phrase p (first d no_more)
whole_lexical o p (lexical e rs ws ns) h = absurd h
whole_lexical None p (phrase r ds) h = refl
whole_lexical (Some q) p (phrase r ds) h = refl

pub closed_whole : (rules : Rules) (ds : Daughters) (d : Derivation) → IsPhrase d → closed rules ds d ≡ as_phrase rules.phrase (with_last ds d)
closed_whole rules no_more d h = whole_lexical rules.lexical rules.phrase d h
closed_whole rules (first e es) d h = refl

-- what is said of an answer is said of an equal one
pub as_closed : (r : Result (Option Child) Stop) (a b : Option Derivation) → b ≡ a → IfOk r (λ o. MatchOption o (a ≡ None) (λ c. (a ≡ Some (tree_of c)) × IsChildCounted c)) → IfOk r (λ o. MatchOption o (b ≡ None) (λ c. (b ≡ Some (tree_of c)) × IsChildCounted c))
as_closed r a b e h = subst (λ t. IfOk r (λ o. MatchOption o (t ≡ None) (λ c. (t ≡ Some (tree_of c)) × IsChildCounted c))) (sym e) h
