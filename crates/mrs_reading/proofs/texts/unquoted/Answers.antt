use Rattle.std.proofs.Common.{rules}
use Rattle.std.specs.String.{string_bytes}
use Rattle.std.specs.Str.{chars}
use Rattle.mrs_reading.specs.Meaning.{plain}
use Rattle.mrs_reading.proofs.Unquoting.{escape_more, escape_end}
use Rattle.mrs_reading.proofs.texts.unquoted.Goals as goal

pub loop-c-preserved : goal.loop-c-preserved
loop-c-preserved c = record {
  text = search rules;
  same = escape_more c.in_ok-escaped.escaped c.loop-c.escaped c.in-Some.c (chars c.loop-c.rest.now) (chars c.in-Some.after.now) (string_bytes c.loop-c.plain) (string_bytes c.unescape.new.plain) (plain c.args.text.now)
      c.in-Some.ensures.parts (c.in_ok-escaped.ensures (chars c.in-Some.after.now)) c.loop-c.invariant.same;
}

pub returns : goal.returns
returns c = escape_end c.loop-c.escaped (chars c.loop-c.rest.now) (string_bytes c.loop-c.plain) (plain c.args.text.now) c.in_default.ensures.parts c.loop-c.invariant.same
