-- Full structures of daughters from left to right, and of the phrase over them.
use Rattle.std.proofs.Common.{ℕ, zero, suc, ◌≡◌, ◌<◌, ◌≤◌, List, [], ◌∷◌, length, map, get_or, Vec, Global, refl, sym, ap, subst, ◌∙◌, arith}
use Rattle.std.specs.Prelude.{Option, Some, String, All, option_map}
use Rattle.std.specs.Arc.{arc_value}
use Rattle.std.specs.declared.sync.Arc.{Arc}
use Rattle.fs_model.specs.Claims.{IsOrder}
use Rattle.derivation.specs.Trees.{Daughters, lexical, phrase, no_more, first}
use Rattle.derivation.specs.Views.{derivation_of, in_order}
use Rattle.derivation.specs.declared.Tree.{Tree}
use Rattle.derivation.specs.declared.Tree.TheVariants.{Lexical, Phrase}
use Rattle.derivation.proofs.Rows.{derivation_of-Lexical, derivation_of-Phrase}
use Rattle.std.specs.String.{string_bytes}
use Rattle.tree_model.specs.Structures.{Structure}
use Rattle.tree_model.specs.Mothers.{IsFullAt}
use Rattle.tree_model.specs.Signs.{Signs, Instance, rule_system}
use Rattle.tree_model.specs.Lexical.{FullLexical}
use Rattle.tree_model.specs.Trees.{Full, Fulls, no_fulls, more_fulls, full_lexical, full_phrase, IsPhrase}
use Rattle.tree_model.proofs.Once.{one}
use Rattle.book_signs.specs.Trees.{rule_at, HaveArities, HasArity}
use Rattle.rule_trees.specs.Mothers.{IsMother, HasDaughters}
use Rattle.tree_structures.specs.Formed.{IsFormed, AreFormed, IsPhraseRuleOf, IsEntryAt, IsLexicalRuleAt, count_of}
use Rattle.tree_structures.proofs.Forming.{fulls_long}

module _ (g : Signs) where
  pub formed_at : (ts : List Tree) (k : ℕ) (d : Tree) → AreFormed g (in_order (map derivation_of ts)) → k < length ts → IsFormed g (derivation_of (get_or ts k d))
  formed_at [] k d h lt = absurd (omega (arith, lt))
  formed_at (t ∷ ts) zero d h lt = h.0
  formed_at (t ∷ ts) (suc k) d h lt = formed_at ts k d h.1 (omega (arith, lt))

  pub formed-Phrase : (rule words : ℕ) (daughters : Arc (Vec Tree Global) Global) → IsFormed g (derivation_of (Phrase rule words daughters)) →
      IsPhraseRuleOf g rule (count_of (in_order (map derivation_of (arc_value daughters).items))) × AreFormed g (in_order (map derivation_of (arc_value daughters).items))
  formed-Phrase rule words daughters h = subst (IsFormed g) (derivation_of-Phrase rule words daughters) h

  pub formed-Lexical : (entry : ℕ) (rules : Arc (Vec ℕ Global) Global) (words : Arc (Vec (String Global) Global) Global) (nodes : Option (ℕ × ℕ)) → IsFormed g (derivation_of (Lexical entry rules words nodes)) →
      IsEntryAt g entry × All (IsLexicalRuleAt g) (arc_value rules).items
  formed-Lexical entry rules words nodes h = subst (IsFormed g) (derivation_of-Lexical entry rules words nodes) h

  -- where one has no structure, they have none
  pub none_among : (ts : List Tree) (k : ℕ) (t d : Tree) → k < length ts → t ≡ get_or ts k d → ((f : Structure) → Full g (derivation_of t) f → ⊥) → (fs : List Structure) → Fulls g (in_order (map derivation_of ts)) fs → ⊥
  none_among [] k t d lt at never fs all = absurd (omega (arith, lt))
  none_among (u ∷ ts) zero t d lt at never _ (more_fulls {f = f} a all) = never f (subst (λ x. Full g (derivation_of x) f) (sym at) a)
  none_among (u ∷ ts) (suc k) t d lt at never _ (more_fulls {fs = fs} a all) = none_among ts k t d (omega (arith, lt)) at never fs all

  -- the phrase over them
  rule_there : (rule count : ℕ) (r : IsPhraseRuleOf g rule count) → rule_at g rule ≡ Some r.rule.instance.rule
  rule_there rule count r = ap (option_map (λ (i : Instance). i.rule)) r.rule.at

  pub has_daughters : (rule count : ℕ) → IsPhraseRuleOf g rule count → HasDaughters g rule count
  has_daughters rule count r = record { instance = r.rule.instance; at = r.rule.at; arity = r.arity }

  pub few : (rule count : ℕ) → HaveArities g → IsPhraseRuleOf g rule count → count ≤ 4
  few rule count arities r =
      let n = subst (λ k. HasArity k (length r.rule.instance.rule.places)) r.rule.kind_is (arities rule r.rule.instance r.rule.at) in
      let m = n.1 in let e = r.arity in omega (arith, m, e)

  pub phrase_full : (rule : ℕ) (ds : Daughters) (fs : List Structure) (f : Structure) → IsPhraseRuleOf g rule (count_of ds) → Fulls g ds fs → IsMother g rule fs f → Full g (phrase rule ds) f
  phrase_full rule ds fs f r all m =
      full_phrase fs all (record {
        instance = r.rule.instance;
        at = r.rule.at;
        kind = r.rule.kind_is;
        arity = fulls_long g ds fs all ∙ sym r.arity;
        full = subst (λ q. IsFullAt (rule_system g) q fs f) (rule_there rule (count_of ds) r) m;
      })

  mother_back : (rule : ℕ) (fs : List Structure) (f : Structure) → IsPhrase g rule fs f → IsMother g rule fs f
  mother_back rule fs f p = subst (λ q. IsFullAt (rule_system g) q fs f) (sym (ap (option_map (λ (i : Instance). i.rule)) p.at)) p.full

  module _ (o : IsOrder g.system) where
    all_one : (ds : Daughters) (fs hs : List Structure) → Fulls g ds fs → Fulls g ds hs → fs ≡ hs
    all_one no_more _ _ no_fulls no_fulls = refl
    all_one (first d ds) _ _ (more_fulls {f = f} {fs = fs} x xs) (more_fulls {f = h} {fs = hs} y ys) =
        let e = one g o x y in let r = all_one ds fs hs xs ys in λ i. e i ∷ r i

    pub no_phrase : (rule : ℕ) (ds : Daughters) (fs : List Structure) → Fulls g ds fs → ((f : Structure) → IsMother g rule fs f → ⊥) → (f : Structure) → Full g (phrase rule ds) f → ⊥
    no_phrase rule ds fs all never f (full_phrase hs others p) =
        never f (subst (λ xs. IsMother g rule xs f) (sym (all_one ds fs hs all others)) (mother_back rule hs f p))

  pub no_daughters : (rule : ℕ) (ds : Daughters) → ((fs : List Structure) → Fulls g ds fs → ⊥) → (f : Structure) → Full g (phrase rule ds) f → ⊥
  no_daughters rule ds never f (full_phrase hs others p) = never hs others

  -- lexical trees as the program has them
  module _ (entry : ℕ) (rules : Arc (Vec ℕ Global) Global) (words : Arc (Vec (String Global) Global) Global) (nodes : Option (ℕ × ℕ)) (tree : Tree) (read : List ℕ)
      (is : tree ≡ Lexical entry rules words nodes) (same : read ≡ (arc_value rules).items) where
    lexical_tree : derivation_of tree ≡ lexical entry (arc_value rules).items (map string_bytes (arc_value words).items) nodes
    lexical_tree = ap derivation_of is ∙ derivation_of-Lexical entry rules words nodes

    pub lexical_is : (f : Structure) → FullLexical g entry read f → Full g (derivation_of tree) f
    lexical_is f h = subst (λ d. Full g d f) (sym lexical_tree) (full_lexical (subst (λ rs. FullLexical g entry rs f) same h))

    pub lexical_never : ((f : Structure) → FullLexical g entry read f → ⊥) → (f : Structure) → Full g (derivation_of tree) f → ⊥
    lexical_never never f h = told (subst (λ d. Full g d f) lexical_tree h)
      where
        told : Full g (lexical entry (arc_value rules).items (map string_bytes (arc_value words).items) nodes) f → ⊥
        told (full_lexical x) = never f (subst (λ rs. FullLexical g entry rs f) (sym same) x)
