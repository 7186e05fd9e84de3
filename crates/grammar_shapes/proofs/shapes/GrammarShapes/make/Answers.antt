use Rattle.std.proofs.Common.{sym, ◌∙◌, subst, arith}
use Rattle.std.specs.Prelude.{◌<◌, ◌^◌, All, length}
use Rattle.fs_model.specs.Claims.{IsBare}
use Rattle.fs_closing.specs.Rules.{system_of}
use Rattle.tree_model.specs.Structures.{IsPartialOrder}
use Rattle.grammar_shapes.specs.Ruled.{IsRuleIn}
use Rattle.fs_trim.specs.Cutting.{cut_of}
use Rattle.grammar_shapes.specs.Cutting.{CutsNoMore}
use Rattle.grammar_shapes.proofs.CutLemmas.{keeps}
use Rattle.grammar_shapes.proofs.TableLemmas.{ordered}
use Rattle.grammar_shapes.proofs.shapes.GrammarShapes.make.Goals as goal

pub invariant_of-result : goal.invariant_of-result
invariant_of-result c =
    let e = sym c.in_ok-rules.ensures in
    record {
      bare = subst (λ t. IsBare (system_of t.grammar)) e c.requires.bare;
      order = subst (λ t. IsPartialOrder (system_of t.grammar)) e (ordered c.args.system.now c.types.result.now c.types.ensures c.laws.ensures);
      rules_in = subst (λ t. All (IsRuleIn t.grammar) t.rules) e c.requires.rules_in;
      few = subst (λ t. length t.rules < 2 ^ 32) e (omega (arith, c.if-len.false, c.len.ensures));
      no_more = λ q. subst (λ t. CutsNoMore t.daughters t.restrictors) e
          (keeps (cut_of c.args.daughters) (cut_of c.args.restrictors) (sym c.cuts_no_more-one_cut.ensures ∙ q));
    }
