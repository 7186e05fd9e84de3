use Rattle.std.proofs.Common.{◌≡◌, ◌∙◌, ap, subst, [], map, string_bytes, inl, inr, ◌⊎◌}
use Rattle.clap.specs.Words.{App, app_of, kind_of, is_simple, matches_of, fault_of, is_simple_and_free, Kinds}
use Rattle.clap.specs.Kinds.{IsAmong}
use Rattle.clap.specs.declared.error.kind.ErrorKind.TheVariants as kind
use Rattle.command_line.specs.Inner.Reading.{places_in}
use Rattle.command_line.specs.Inner.Rules.{app_with}
use Rattle.command_line.proofs.Built.{is-simple, is-plain}
use Rattle.command_line.proofs.Accepting.{accepted, no-fault}
use Rattle.command_line.proofs.Keeping.{places-are}
use Rattle.command_line.proofs.reading.read.Goals as goal

pub returns-in-Ok-clause-ok : goal.returns-in-Ok-clause-ok
returns-in-Ok-clause-ok c =
    let places = places_in c.args.places in
    let are = places-are c.args.places in
    let words = map (λ w. string_bytes w) c.args.words.now in
    let is : app_of c.in_ok-command.command ≡ app_with places = c.in_ok-command.ensures in
    let passes = subst (λ (a : App). fault_of a words ≡ []) is (c.in-Ok.ensures.kinds (ap is_simple_and_free is ∙ is-simple places are)) in
    let rows = (c.in-Ok.ensures.matches (ap is_simple is ∙ is-plain places are)).0 ∙ ap (λ (a : App). matches_of a words) is in
    let a = accepted places are words c.requires passes in
    record { items = a.items; written = a.written; items_are = a.items_are; once = a.once; filled = a.filled; rows = rows ∙ a.rows }

pub returns-in-Err-clause-usage : goal.returns-in-Err-clause-usage
returns-in-Err-clause-usage c = λ usage items written items_are once filled. (
    let places = places_in c.args.places in
    let are = places-are c.args.places in
    let words = map (λ w. string_bytes w) c.args.words.now in
    let is : app_of c.in_ok-command.command ≡ app_with places = c.in_ok-command.ensures in
    let none_is : fault_of (app_of c.in_ok-command.command) words ≡ [] = ap (λ (a : App). fault_of a words) is ∙ ap (fault_of (app_with places)) written ∙ no-fault places are items items_are once filled in
    let has = c.in-Err.ensures.kinds (ap is_simple_and_free is ∙ is-simple places are) in
    elim (subst (λ (ks : Kinds). (kind_of c.in-Err.error ≡ kind.OutOfMemory) ⊎ IsAmong (kind_of c.in-Err.error) ks) none_is has) [
      | inl memory ↦ c.fault_of.ensures usage memory
      | inr among ↦ among
    ])
