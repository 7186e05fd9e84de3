use Rattle.type_hierarchy.proofs.SquareLemmas.{mask_32, mask_16, mask_8, mask_4, mask_2, mask_1, turned_all}
use Rattle.type_hierarchy.proofs.columns.turn.Goals as goal

pub turn_once-requires-clause-mask : goal.turn_once-requires-clause-mask
turn_once-requires-clause-mask c = mask_32

pub turn_once-requires-2-clause-mask : goal.turn_once-requires-2-clause-mask
turn_once-requires-2-clause-mask c = mask_16

pub turn_once-requires-3-clause-mask : goal.turn_once-requires-3-clause-mask
turn_once-requires-3-clause-mask c = mask_8

pub turn_once-requires-4-clause-mask : goal.turn_once-requires-4-clause-mask
turn_once-requires-4-clause-mask c = mask_4

pub turn_once-requires-5-clause-mask : goal.turn_once-requires-5-clause-mask
turn_once-requires-5-clause-mask c = mask_2

pub turn_once-requires-6-clause-mask : goal.turn_once-requires-6-clause-mask
turn_once-requires-6-clause-mask c = mask_1

pub returns-clause-turned : goal.returns-clause-turned
returns-clause-turned c =
    turned_all c.args.block.now c.turn_once.new.to c.turn_once-2.new.to c.turn_once-3.new.to c.turn_once-4.new.to c.turn_once-5.new.to c.turn_once-6.new.to c.turn_once.ensures.turned
    c.turn_once-2.ensures.turned c.turn_once-3.ensures.turned c.turn_once-4.ensures.turned c.turn_once-5.ensures.turned c.turn_once-6.ensures.turned
