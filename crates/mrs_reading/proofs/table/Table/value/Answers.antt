use Rattle.std.proofs.Common.{◌<◌, ◌∙◌, length, arith, map}
use Rattle.std.specs.Str.{str_to_ascii_lowercase}
use Rattle.std.specs.String.{string_bytes}
use Rattle.std.proofs.lemmas.List.{length-map}
use Rattle.mrs_model.specs.Views.{variable_of}
use Rattle.mrs_reading.specs.Inner.Tables.{keys_in, vars_in}
use Rattle.mrs_reading.proofs.Agreeing.{yes_weaker, no_weaker, value_table, value_keeps, value_breaks}
use Rattle.mrs_reading.proofs.table.Table.value.Goals as goal

pub returns-clause-given : goal.returns-clause-given
returns-clause-given c =
    let t = c.args.self.now in
    let l : t.last < length (vars_in t) = omega (arith, c.requires, t.vars.ok.0, length-map t.vars.items variable_of) in
    yes_weaker c.give_at.result (λ g d gs h. value_table d gs (keys_in t) (vars_in t) t.last (string_bytes t.name) c.as_str.result.now c.as_str-2.result.now (str_to_ascii_lowercase c.args.text.now) (map variable_of c.give_at.new.vars.items)
    c.as_str.ensures.value (c.as_str-2.ensures.value ∙ c.in_ok-lower_into.ensures) l g h) c.give_at.ensures.given

pub returns-clause-keeps : goal.returns-clause-keeps
returns-clause-keeps c =
    let t = c.args.self.now in
    let l : t.last < length (vars_in t) = omega (arith, c.requires, t.vars.ok.0, length-map t.vars.items variable_of) in
    yes_weaker c.give_at.result (λ g d gs h. value_keeps d gs (keys_in t) (vars_in t) t.last (string_bytes t.name) c.as_str.result.now c.as_str-2.result.now (str_to_ascii_lowercase c.args.text.now) (map variable_of c.give_at.new.vars.items)
    c.as_str.ensures.value (c.as_str-2.ensures.value ∙ c.in_ok-lower_into.ensures) l g h) c.give_at.ensures.given

pub returns-clause-other : goal.returns-clause-other
returns-clause-other c =
    let t = c.args.self.now in
    let l : t.last < length (vars_in t) = omega (arith, c.requires, t.vars.ok.0, length-map t.vars.items variable_of) in
    no_weaker c.give_at.result (λ g d gs h. value_breaks d gs (keys_in t) (vars_in t) t.last (string_bytes t.name) c.as_str.result.now c.as_str-2.result.now (str_to_ascii_lowercase c.args.text.now)
    c.as_str.ensures.value (c.as_str-2.ensures.value ∙ c.in_ok-lower_into.ensures) l g h) c.give_at.ensures.other
