use Rattle.std.proofs.Common.{◌+◌, ◌∷◌, ◌++◌, [], ◌∙◌, ap}
use Rattle.type_hierarchy.proofs.BitLemmas.{members_skip, filter_push}
use Rattle.type_hierarchy.specs.Bits.{has_bit}
use Rattle.type_hierarchy.proofs.bits.members.Goals as goal

pub loop-x-init : goal.loop-x-init
loop-x-init c = record {
  found = members_skip c.args.words.now c.new-found.result.items 0 c.next-x.result c.next-x.ensures.low c.next-x.ensures.none_before c.new-found.ensures.items;
  within = c.next-x.ensures.high;
  member = c.next-x.ensures.member;
}

pub loop-x-preserved : goal.loop-x-preserved
loop-x-preserved c = record {
  found = members_skip c.args.words.now c.push.new.self.items (c.loop-x.x + 1) c.next-x-in-loop-x.result c.next-x-in-loop-x.ensures.low c.next-x-in-loop-x.ensures.none_before
      (c.in_ok-push.ensures.items ∙ ap (λ l. l ++ c.loop-x.x ∷ []) c.loop-x.invariant.found ∙ filter_push (has_bit c.args.words.now) c.loop-x.x (c.loop-x.invariant.member c.loop-x-test.true));
  within = c.next-x-in-loop-x.ensures.high;
  member = c.next-x-in-loop-x.ensures.member;
}
