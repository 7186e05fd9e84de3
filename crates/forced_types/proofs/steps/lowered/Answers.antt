use Rattle.std.proofs.Common.{◌≡◌, arith, ap, ◌∙◌, sym, Some, slice_index_or}
use Rattle.std.specs.Option.{option_map}
use Rattle.fs_closing.proofs.HasLemmas.{Has-at}
use Rattle.type_hierarchy.specs.Table.{meet_of}
use Rattle.type_hierarchy.specs.declared.types.Ty.{Ty}
use Rattle.forced_types.proofs.steps.lowered.Goals as goal

pub meet-requires-clause-a_in : goal.meet-requires-clause-a_in
meet-requires-clause-a_in c = c.requires.list _ (Has-at c.args.list.now 0 0 (omega (arith, c.if-list-ne1.false)))

pub returns : goal.returns
returns c =
    let has = Has-at c.args.list.now 0 0 (omega (arith, c.if-list-ne1.false)) in
    let was : c.meet.result ≡ Some c.in_ok-both.both = c.in_ok-both.was in
    let is : meet_of c.args.types.now (slice_index_or c.args.list.now 0 0) c.args.ty ≡ Some c.in_ok-both.both.0 = sym c.meet.ensures ∙ ap (option_map (λ (t : Ty). t.0)) was in
    record {
      common = (slice_index_or c.args.list.now 0 0, has, is);
      within = c.laws.ensures.meet_in _ _ _ (c.requires.list _ has) c.requires.ty is;
    }
