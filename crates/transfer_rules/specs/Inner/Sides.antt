-- INPUT and CONTEXT, as they are read.
use Rattle.std.specs.Prelude.{ℕ, ◌≤◌, false, List, length, take, drop}
use Rattle.transfer_model.specs.Rules.{Element}
use Rattle.transfer_rules.specs.Features.{IsElementOf}
use Rattle.transfer_rules.specs.Forms.{Parts}
use Rattle.transfer_rules.specs.Inner.Drafts.{AreSaid}

-- INPUT says so many of these elements, and CONTEXT the others; their coreferences got numbers in this order.
pub record AreSides (before after : List (List ℕ)) (p : Parts) (xs : List Element) (inputs : ℕ) : Type 0 where
  pub between : List (List ℕ)
  pub input : AreSaid IsElementOf false before between p.input (take inputs xs)
  pub context : AreSaid IsElementOf false between after p.context (drop inputs xs)
  pub within : inputs ≤ length xs
