use Rattle.transfer_rules.proofs.Naming.{coref_decided, no_letters, no_digits}
use Rattle.transfer_rules.proofs.coreferences.is_coref_name.Goals as goal

pub returns-then-letters-eq0 : goal.returns-then-letters-eq0
returns-then-letters-eq0 c =
    let l = c.letters_before-letters in
    no_letters c.args.name.now c.as_bytes-bytes.result.now l.result c.as_bytes-bytes.ensures.value l.ensures.within l.ensures.letters c.if-letters-eq0.true

pub returns-then-letters-bytes : goal.returns-then-letters-bytes
returns-then-letters-bytes c =
    let l = c.letters_before-letters in
    no_digits c.args.name.now c.as_bytes-bytes.result.now l.result c.as_bytes-bytes.ensures.value l.ensures.within l.ensures.letters c.if-letters-bytes.true

pub returns : goal.returns
returns c =
    let l = c.letters_before-letters in
    coref_decided c.args.name.now c.as_bytes-bytes.result.now l.result c.are_digits.result c.as_bytes-bytes.ensures.value l.ensures.within l.ensures.letters c.if-letters-eq0.false c.if-letters-bytes.false c.are_digits.ensures
