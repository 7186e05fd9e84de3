use Rattle.std.proofs.Common.{◌≡◌, Some, refl, sym, subst}
use Rattle.std.specs.Option.{option_to_list}
use Rattle.fs_model.specs.Claims.{Has, here}
use Rattle.fs_closing.proofs.HasLemmas.{Has-left, Has-right}
use Rattle.forced_types.proofs.SoundLemmas.{same_sound}
use Rattle.forced_types.proofs.nodes.Nodes.next_pair.Goals as goal

pub returns-clause-sound : goal.returns-clause-sound
returns-clause-sound c =
    same_sound c.args.given c.args.self.now _ refl
    (λ x m. c.requires.pairs x (subst (Has x) (sym c.pop.ensures.items) (Has-left x c.pop.new.self.items (option_to_list c.pop.result) m))) c.requires

pub returns-clause-pair : goal.returns-clause-pair
returns-clause-pair c =
    let x = c.in_ok-pair.pair in
    let was : c.pop.result ≡ Some x = c.in_ok-pair.was in
    c.requires.pairs x (subst (Has x) (sym c.pop.ensures.items)
    (Has-right x c.pop.new.self.items (option_to_list c.pop.result) (subst (λ o. Has x (option_to_list o)) (sym was) here)))
