use Rattle.std.proofs.Common.{◌∙◌, Some, ap, sym}
use Rattle.std.specs.Option.{option_map}
use Rattle.fs_graph.specs.Facts.{path_of}
use Rattle.body_facts.proofs.CarrierLemmas.{entry_in}
use Rattle.body_facts.proofs.telling.Told.carrier.Goals as goal

pub returns-in_ok-from_slice-in-Some : goal.returns-in_ok-from_slice-in-Some
returns-in_ok-from_slice-in-Some c =
    ap (λ l. Some (path_of l)) (c.in_ok-from_slice-in-Some.ensures.items ∙ c.deref.ensures.value)
    ∙ ap (option_map (λ v. path_of v.items)) c.in-Some.ensures.value ∙ sym (entry_in c.args.self.now.carriers.entries c.args.name.now)

pub returns-in-None : goal.returns-in-None
returns-in-None c = ap (option_map (λ v. path_of v.items)) c.in-None.ensures.value ∙ sym (entry_in c.args.self.now.carriers.entries c.args.name.now)
