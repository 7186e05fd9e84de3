use Rattle.std.proofs.Common.{◌≡◌, ◌∙◌, ap, ap₂, true}
use Rattle.std.proofs.lemmas.Result.{IfOk-weaker}
use Rattle.clap.specs.Words.{App, app_of, with_rule}
use Rattle.clap.specs.Simple.{app_of_fields}
use Rattle.command_line.specs.Inner.Rules.{bare}
use Rattle.command_line.proofs.definition.with_options.Goals as goal

abbrev no_binary : App → App
no_binary a = record a { top = record a.top { no_binary_name = true } }

abbrev no_help : App → App
no_help a = record a { top = record a.top { disable_help_flag = true } }

pub returns : goal.returns
returns c =
    let bare_is : app_of c.disable_help_flag.result ≡ bare = ap app_of_fields c.disable_help_flag.ensures
    ∙ ap no_help (ap app_of_fields c.no_binary_name.ensures ∙ ap no_binary c.new.ensures.app) in
    let is-1 = c.in_ok-arg.ensures.shape c.number_option.ensures.local ∙ ap₂ with_rule bare_is c.number_option.ensures.rule in
    let is-2 = c.in_ok-arg-2.ensures.shape c.number_option-2.ensures.local ∙ ap₂ with_rule is-1 c.number_option-2.ensures.rule in
    let is-3 = c.in_ok-arg-3.ensures.shape c.number_option-3.ensures.local ∙ ap₂ with_rule is-2 c.number_option-3.ensures.rule in
    let is-4 = c.in_ok-arg-4.ensures.shape c.number_option-4.ensures.local ∙ ap₂ with_rule is-3 c.number_option-4.ensures.rule in
    let is-5 = c.in_ok-arg-5.ensures.shape c.number_option-5.ensures.local ∙ ap₂ with_rule is-4 c.number_option-5.ensures.rule in
    let is-6 = c.in_ok-arg-6.ensures.shape c.number_option-6.ensures.local ∙ ap₂ with_rule is-5 c.number_option-6.ensures.rule in
    let is-7 = c.in_ok-arg-7.ensures.shape c.name_option.ensures.local ∙ ap₂ with_rule is-6 c.name_option.ensures.rule in
    let is-8 = c.in_ok-arg-8.ensures.shape c.flag.ensures.local ∙ ap₂ with_rule is-7 c.flag.ensures.rule in
    let is-9 = c.in_ok-arg-9.ensures.shape c.flag-2.ensures.local ∙ ap₂ with_rule is-8 c.flag-2.ensures.rule in
    IfOk-weaker c.arg-10.result _ _ (λ r h. h.shape c.flag-3.ensures.local ∙ ap₂ with_rule is-9 c.flag-3.ensures.rule) c.arg-10.ensures
