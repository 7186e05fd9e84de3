use Rattle.std.proofs.Common.{◌∙◌, ap, sym, subst, ◌≡◌}
use Rattle.std.specs.Str.{chars, IsUtf8}
use Rattle.tdl_reader.specs.GroupScan.{but_last}
use Rattle.tdl_reader.proofs.GroupLemmas.{but_last_of}
use Rattle.tdl_reader.proofs.groups.but_last.Goals as goal

pub returns : goal.returns
returns c =
    let e : chars c.chars-rest.result.rest.now ≡ chars c.args.text.now = ap chars c.chars-rest.ensures.rest in
    let h = but_last_of c.next_back.result c.chars-rest.result c.next_back.new.self (subst IsUtf8 (sym c.chars-rest.ensures.rest) c.utf8.text) (subst IsUtf8 c.as_str.ensures c.as_str.utf8) c.next_back.ensures.steps in
    ap chars c.as_str.ensures ∙ (h ∙ ap but_last e)
