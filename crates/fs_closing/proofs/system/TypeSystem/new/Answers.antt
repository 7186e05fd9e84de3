use Rattle.std.proofs.Common.{ℕ, length, map, slice_index_or, refl, sym, ◌∙◌, ap, subst, arith}
use Rattle.std.proofs.lemmas.List.{length-map, length-replicate}
use Rattle.type_hierarchy.specs.Table.{count_of}
use Rattle.fs_closing.specs.Systems.{grammar_of, rule_of, rules_of}
use Rattle.fs_closing.proofs.HomeLemmas.{at_zeros}
use Rattle.fs_closing.proofs.KnownLemmas.{knows_none}
use Rattle.fs_closing.specs.Inner.Known.{AreKnown}
use Rattle.fs_closing.specs.Inner.RuleRows.{HaveRows}
use Rattle.fs_closing.proofs.system.TypeSystem.new.Goals as goal

pub invariant_of-result : goal.invariant_of-result
invariant_of-result c =
    let g = grammar_of c.args.types c.args.introducers.items c.args.constraints.items c.args.path_limit in
    let starts = c.in_ok-starts.ensures.items_if_clones_equal (λ y e. e) in
    record {
      grammar = c.requires;
      few = omega (arith, length-map c.args.constraints.items rule_of, c.if-len.false, c.len.ensures, c.args.constraints.ok);
      above = subst (λ l. HaveRows c.args.types (rules_of l) (map (λ row. row.items) c.in_ok-above.above.rows.items) c.in_ok-above.above.row_of.items (count_of c.args.types))
          c.deref.ensures.value c.in_ok-above.ensures;
      known = subst (λ l. AreKnown g l c.in_ok-starts.starts.items) (sym c.new.ensures.items)
          (knows_none g c.in_ok-starts.starts.items (ap length starts ∙ length-replicate {A = ℕ} _ _ ∙ c.counts.ensures.all)
          (λ t. ap (λ l. slice_index_or l t 0) starts ∙ at_zeros _ t 0 refl));
    }
