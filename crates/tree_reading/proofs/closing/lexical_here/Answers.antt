use Rattle.std.proofs.Common.{◌≡◌, ◌∙◌, List, [], ◌∷◌, None, refl, sym, map, length, arith, eq-eqb}
use Rattle.std.proofs.lemmas.Bool.{false≢true}
use Rattle.derivation.specs.Views.{derivation_of, in_order}
use Rattle.derivation.specs.declared.Tree.{Tree}
use Rattle.tree_reading.specs.declared.uses.Rules.{Rules}
use Rattle.tree_reading.specs.Inner.Closed.{lexical_here}
use Rattle.tree_reading.proofs.closing.lexical_here.Goals as goal

none_here : (rules : Rules) (ts : List Tree) → (length ts ≡ 0 → ⊥) → None ≡ lexical_here rules (in_order (map derivation_of ts))
none_here rules [] some = absurd (some refl)
none_here rules (t ∷ ts) some = refl

pub returns-else-is_empty : goal.returns-else-is_empty
returns-else-is_empty c =
    let rule = c.args.rule.now in
    none_here rule.rules rule.daughters.items (λ e. false≢true (sym (sym c.is_empty.ensures ∙ c.if-is_empty.false) ∙ eq-eqb _ 0 (omega (arith, e, rule.daughters.ok.0))))
