use Rattle.std.proofs.Common.{◌≡◌, ◌<◌, ◌+◌, length, map, take, string_bytes, subst, arith, get_or}
use Rattle.std.proofs.lemmas.List.{length-map}
use Rattle.lexical_items.specs.Forms.{AreFormsOf}
use Rattle.tree_faults.specs.WordBooks.{said_by}
use Rattle.tree_faults.specs.Inner.Ends.{front_of}
use Rattle.tree_faults.proofs.Ends.{ends_step, has_forms, no_forms}
use Rattle.tree_faults.proofs.endings.ends_of.Goals as goal

pub returns-then-is_empty : goal.returns-then-is_empty
returns-then-is_empty c =
    let words = said_by c.args.book.now in
    let rules = c.args.rules.now in
    let i = c.loop-i.i in
    let front = front_of words c.args.entry in
    let ends = map string_bytes c.loop-i.ends.items in
    let forms = map string_bytes c.in_ok-forms.forms.items in
    let made : AreFormsOf words.spelling (words.number_of (get_or rules i 0)) ends forms =
    subst (λ l. AreFormsOf words.spelling (words.number_of (get_or rules i 0)) (map string_bytes l) forms) c.deref.ensures.value c.in_ok-forms.ensures in
    let some : 0 < length ends = (let s = c.loop-i.invariant.1 in let m = length-map c.loop-i.ends.items (string_bytes {Z = _}) in omega (arith, s, m)) in
    let none : length forms ≡ 0 = (let m = length-map c.in_ok-forms.forms.items (string_bytes {Z = _}) in grind (arith, m)) in (
      c.loop-i-test.true,
      has_forms words c.args.entry (take i rules) front ends c.loop-i.invariant.0 some,
      no_forms words c.args.entry (take (i + 1) rules) front forms (ends_step words c.args.entry rules i front ends forms c.loop-i-test.true c.loop-i.invariant.0 made) none,
    )

pub loop-i-preserved : goal.loop-i-preserved
loop-i-preserved c =
    let words = said_by c.args.book.now in
    let rules = c.args.rules.now in
    let i = c.loop-i.i in
    let front = front_of words c.args.entry in
    let ends = map string_bytes c.loop-i.ends.items in
    let forms = map string_bytes c.in_ok-forms.forms.items in
    let made : AreFormsOf words.spelling (words.number_of (get_or rules i 0)) ends forms =
    subst (λ l. AreFormsOf words.spelling (words.number_of (get_or rules i 0)) (map string_bytes l) forms) c.deref.ensures.value c.in_ok-forms.ensures in
    (ends_step words c.args.entry rules i front ends forms c.loop-i-test.true c.loop-i.invariant.0 made, grind arith)
