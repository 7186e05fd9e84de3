-- What trees stand for, variant by variant.
use Rattle.std.proofs.Common.{◌≡◌, ℕ, Option, map, Vec, String, Global, sym, ap, ◌∙◌}
use Rattle.std.specs.Arc.{arc_value}
use Rattle.std.specs.String.{string_bytes}
use Rattle.std.specs.declared.sync.Arc.{Arc}
use Rattle.derivation.specs.Trees.{Derivation, lexical, phrase}
use Rattle.derivation.specs.Views.{derivation_of, in_order, node_of}
use Rattle.derivation.specs.declared.Tree.{Tree}
use Rattle.derivation.specs.declared.Tree.TheVariants.{Lexical, Phrase, rolls-Lexical, rolls-Phrase}
use Rattle.derivation.specs.declared.Tree.TheOpen.{Tree-F}
use Rattle.derivation.specs.declared.Tree.TheFolds.{fold-roll-Tree}

pub derivation_of-Phrase : (rule words : ℕ) (daughters : Arc (Vec Tree Global) Global) →
    derivation_of (Phrase rule words daughters) ≡ phrase rule (in_order (map derivation_of (arc_value daughters).items))
derivation_of-Phrase rule words daughters =
    ap derivation_of (sym (rolls-Phrase rule words daughters)) ∙ fold-roll-Tree Derivation node_of (Tree-F.Phrase rule words daughters)

pub derivation_of-Lexical : (entry : ℕ) (rules : Arc (Vec ℕ Global) Global) (words : Arc (Vec (String Global) Global) Global) (nodes : Option (ℕ × ℕ)) →
    derivation_of (Lexical entry rules words nodes) ≡ lexical entry (arc_value rules).items (map string_bytes (arc_value words).items) nodes
derivation_of-Lexical entry rules words nodes =
    ap derivation_of (sym (rolls-Lexical entry rules words nodes)) ∙ fold-roll-Tree Derivation node_of (Tree-F.Lexical entry rules words nodes)
