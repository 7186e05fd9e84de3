use Rattle.tdl_reader.proofs.GroupLemmas.{closed_word, open_word}
use Rattle.tdl_reader.proofs.groups.unclosed.Goals as goal

pub returns-then-last-eq41 : goal.returns-then-last-eq41
returns-then-last-eq41 c = closed_word c.pop.new.self.items c.args.word.items c.in-Some.last c.in-Some.ensures.items c.if-last-eq41.true

pub returns-else-last-eq41 : goal.returns-else-last-eq41
returns-else-last-eq41 c = open_word c.pop.new.self.items c.args.word.items c.in-Some.last c.in-Some.ensures.items c.if-last-eq41.false
