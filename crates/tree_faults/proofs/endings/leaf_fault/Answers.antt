use Rattle.std.proofs.Common.{◌<◌, ◌-◌, length, map, string_bytes, ap, arith}
use Rattle.std.proofs.lemmas.List.{length-map}
use Rattle.tree_faults.specs.WordBooks.{said_by}
use Rattle.tree_faults.proofs.Ends.{fails_at, other_at, said_front}
use Rattle.tree_faults.proofs.endings.leaf_fault.Goals as goal

pub returns-in-NoForm : goal.returns-in-NoForm
returns-in-NoForm c =
    let led = rw c.in-NoForm.is at c.in_ok-place.ensures in
    let low = led.0 in
    fails_at (said_by c.args.book.now) c.args.entry c.args.rules.now (map string_bytes c.args.said.now) c.in-NoForm.place (length c.args.rules.now - 1 - c.in-NoForm.place) led.0 led.1 led.2 (omega (arith, low))

pub returns-else-are_said : goal.returns-else-are_said
returns-else-are_said c =
    let led = rw c.in-LastWords.is at c.in_ok-place.ensures in
    let words = said_by c.args.book.now in
    let some : 0 < length (map string_bytes c.in-LastWords.ends.items) = (let s = led.1 in let m = length-map c.in-LastWords.ends.items (string_bytes {Z = _}) in omega (arith, s, m)) in
    other_at words c.args.entry c.args.rules.now (map string_bytes c.args.said.now) _ (map string_bytes c.in-LastWords.ends.items) _ c.are_said.result c.outermost.result led.0 some
    (said_front words c.args.entry string_bytes c.words_of.result.now c.words_of.ensures.words) (ap (map string_bytes) c.deref.ensures.value) c.are_said.ensures c.if-are_said.false c.outermost.ensures
