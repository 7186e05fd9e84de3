-- The structure of an entry under lexical rules, rule by rule, or the rule that makes nothing.
use Rattle.std.specs.Prelude.{ℕ, ◌≡◌, ◌<◌, ◌+◌, All, Option, None, List, [], ◌∷◌, ◌++◌, length, map, take, drop, get_or, replicate}
use Rattle.std.specs.Global.{Global}
use Rattle.std.specs.Arc.{arc_value}
use Rattle.std.specs.declared.sync.Arc.{Arc}
use Rattle.std.proofs.Common.{sym, ap, subst, ◌∙◌, arith, length-append}
use Rattle.std.proofs.lemmas.List.{take-append-drop, length-take-le, get_or_default}
use Rattle.std.proofs.lemmas.List.Elements.{All-nil, All-cons}
use Rattle.morph_analysis.proofs.Lists.{take_next, drop_nat}
use Rattle.fs_model.specs.Claims.{IsOrder}
use Rattle.derivation.specs.Trees.{lexical}
use Rattle.tree_model.specs.Structures.{Structure}
use Rattle.tree_model.specs.Signs.{Signs}
use Rattle.tree_model.specs.Lexical.{Word, IsEntry, IsUnderRule, FullUnder, under_none, under_next, FullLexical}
use Rattle.tree_model.specs.Trees.{full_lexical}
use Rattle.forest_unpack.specs.declared.fulls.FullParts.{FullParts}
use Rattle.forest_unpack.specs.Parts.{AreParts, parts_of}
use Rattle.book_signs.specs.Trees.{SignTree, signs_of, HaveArities}
use Rattle.rule_trees.specs.Fulls.{FullTree}
use Rattle.rule_trees.specs.Mothers.{view_in, IsMade, IsMother, HasDaughters}
use Rattle.tree_structures.specs.Formed.{IsLexicalRuleAt}
use Rattle.tree_structures.specs.Known.{view_of}
use Rattle.tree_structures.proofs.Climbs.{has_one, mother_under}
use Rattle.tree_structures.proofs.Making.{full_made}
use Rattle.forced_types.specs.Views.{verdict_of}
use Rattle.tree_faults.specs.declared.making.Lack.{Lack}
use Rattle.tree_faults.specs.Inner.Structures.{views_of, IsRefusal, IsRefused, LacksAt}
use Rattle.tree_faults.specs.Explained.{IsFirstWithout}
use Rattle.tree_faults.proofs.Lacking.{lexical_lacks}

under_push : {g : Signs} {d e f : Structure} {rules : List ℕ} {rule : ℕ} → FullUnder g d rules e → IsUnderRule g rule e f → FullUnder g d (rules ++ rule ∷ []) f
under_push under_none y = under_next y under_none
under_push (under_next x xs) y = under_next x (under_push xs y)

-- one daughter's structure where none was known
pub one_part : (none below : FullParts FullTree) (full : Arc FullTree Global) → AreParts none → none.count ≡ 0 → parts_of none ≡ [] →
    (AreParts none → none.count < 4 → AreParts below × (below.count ≡ none.count + 1) × (parts_of below ≡ parts_of none ++ arc_value full ∷ [])) →
    AreParts below × (below.count ≡ 1) × (parts_of below ≡ arc_value full ∷ [])
one_part none below full parts count nothing more =
    let is = more parts (omega (arith, count)) in
    let one = is.1 in
    (is.0, omega (arith, one, count), is.2 ∙ ap (λ (xs : List FullTree). xs ++ arc_value full ∷ []) nothing)

module _ (t : SignTree) (entry : ℕ) (rules : List ℕ) where
  abbrev g : Signs
  g = signs_of t

  pub climb_first : (d : Structure) → IsEntry g entry d → FullLexical g entry [] d
  climb_first d x = (d, x, under_none)

  -- the one daughter
  pub one_view : (below : FullParts FullTree) (full : Arc FullTree Global) → parts_of below ≡ arc_value full ∷ [] → views_of t below ≡ view_of t full ∷ []
  one_view below full is = ap (map (λ (f : FullTree). view_in t f.graph)) is

  pub climb_made : (some : List ℕ) (below : FullParts FullTree) (full : Arc FullTree Global) → parts_of below ≡ arc_value full ∷ [] → FullLexical g entry some (view_of t full) → All (λ (f : FullTree). IsMade g (view_in t f.graph)) (parts_of below)
  climb_made some below full is x =
      let made = full_made g (lexical entry some [] None) (view_of t full) (full_lexical x) in
      subst (All (λ (f : FullTree). IsMade g (view_in t f.graph))) (sym is) (All-cons (λ (f : FullTree). IsMade g (view_in t f.graph)) (arc_value full) [] made (All-nil (λ (f : FullTree). IsMade g (view_in t f.graph))))

  module _ (arities : HaveArities g) (i : ℕ) (lt : i < length rules) (all : All (IsLexicalRuleAt g) rules) (full : Arc FullTree Global) (here : FullLexical g entry (take i rules) (view_of t full)) where
    abbrev pub rule : ℕ
    rule = get_or rules i 0

    is_rule : IsLexicalRuleAt g rule
    is_rule = all i 0 lt

    pub climb_has : (count : ℕ) → count ≡ 1 → HasDaughters g rule count
    climb_has count one = subst (HasDaughters g rule) (sym one) (has_one g rule arities is_rule)

    pub climb_next : (below : FullParts FullTree) (above : Arc FullTree Global) → parts_of below ≡ arc_value full ∷ [] → IsMother g rule (views_of t below) (view_of t above) → FullLexical g entry (take (i + 1) rules) (view_of t above)
    climb_next below above is m =
        let under = mother_under g rule (view_of t full) (view_of t above) arities is_rule (subst (λ fs. IsMother g rule fs (view_of t above)) (one_view below full is) m) in
        subst (λ rs. FullLexical g entry rs (view_of t above)) (sym (take_next rules i rule lt (get_or_default rules i 0 rule lt))) (here.0, here.1, under_push here.2 under)

    pub climb_lacks : IsOrder g.system → (below : FullParts FullTree) (lack lost : Lack) → parts_of below ≡ arc_value full ∷ [] → lack.instance ≡ rule → IsRefused t rule (views_of t below) (verdict_of lack.verdict) →
        lost.instance ≡ lack.instance → lost.verdict ≡ lack.verdict → lost.depth + 1 + i ≡ length rules → (words : List Word) (nodes : Option (ℕ × ℕ)) → LacksAt t (lexical entry rules words nodes) (replicate lost.depth 1) lost
    climb_lacks order below lack lost is at refused same_instance same_verdict deep words nodes =
        let after = drop (i + 1) rules in
        let split : rules ≡ take i rules ++ rule ∷ after = sym (take-append-drop i rules) ∙ ap (λ l. take i rules ++ l) (drop_nat rules i lt) in
        let total : length rules ≡ length (take i rules ++ rule ∷ after) = ap length split in
        let parts = length-append (take i rules) (rule ∷ after) in
        let low = length-take-le i rules (omega (arith, lt)) in
        let depth : lost.depth ≡ length after = omega (arith, total, parts, low, deep) in
        let v = verdict_of lack.verdict in
        let first = lexical_lacks t order {words = words} {nodes = nodes} (take i rules) rule after (view_of t full) is_rule here (subst (λ fs. IsRefused t rule fs v) (one_view below full is) refused) in
        let here' : IsFirstWithout g (lexical entry rules words nodes) (replicate (length after) 1) rule v = subst (λ rs. IsFirstWithout g (lexical entry rs words nodes) (replicate (length after) 1) rule v) (sym split) first in
        let deeper : IsFirstWithout g (lexical entry rules words nodes) (replicate lost.depth 1) rule v = subst (λ k. IsFirstWithout g (lexical entry rules words nodes) (replicate k 1) rule v) (sym depth) here' in
        let named : IsFirstWithout g (lexical entry rules words nodes) (replicate lost.depth 1) lost.instance v = subst (λ n. IsFirstWithout g (lexical entry rules words nodes) (replicate lost.depth 1) n v) (sym (same_instance ∙ at)) deeper in
        let verdict : v ≡ verdict_of lost.verdict = ap verdict_of (sym same_verdict) in
        record {
          first = subst (IsFirstWithout g (lexical entry rules words nodes) (replicate lost.depth 1) lost.instance) verdict named;
          refusal = subst (IsRefusal t.book.system) verdict refused.refusal;
        }
