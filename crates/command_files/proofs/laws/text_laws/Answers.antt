use Rattle.command_files.proofs.TextLemmas.{same_text, fault_same, text_or_fault, calm_text}
use Rattle.command_files.proofs.laws.text_laws.Goals as goal

pub returns : goal.returns
returns c = record { one_text = same_text; one_fault = fault_same; not_both = text_or_fault; calm = calm_text }
