-- Why nothing comes of the files of `batch`.
use Rattle.std.proofs.Common.{◌≡◌, ℕ, List, Bool, Option, Result, Ok, Err, sym, subst}
use Rattle.std.specs.Result.{IsErrAnd}
use Rattle.tree_model.specs.Items.{Limits}
use Rattle.endings.specs.Meanings.{Meaning, Shelves}
use Rattle.endings.specs.Endings.{NotCome, Comes}
use Rattle.endings.specs.declared.Fault.{Fault}
use Rattle.grammar_load.specs.Loaded.{GrammarTree}
use Rattle.command_files.specs.Texts.{LacksText}
use Rattle.command_files.proofs.TextLemmas.{Lacks}
use Rattle.command_files.proofs.ToldLemmas as told
use Rattle.command_files.specs.Grammars.{HasGrammar, LacksGrammar}
use Rattle.command_files.proofs.FaultLemmas as grammars
use Rattle.profile_batch.specs.Batches.{batch_meaning, of_grammar, of_profile}

-- the exit of a `?`
pub at-fault : {X : Type 0} (good : X → Type 0) (m : Meaning) (h : Shelves) (r : Result X Fault) (e : Fault) → IsErrAnd r (λ y. y ≡ e) → NotCome m h e → Comes good m h r
at-fault good m h (Ok x) e is none = absurd is
at-fault good m h (Err y) e is none = subst (NotCome m h) (sym is) none

module _ (grammar : List ℕ) (settings : Option (List ℕ)) (verbose : Bool) (profile : List ℕ) (limits : Limits) (most : ℕ) (h : Shelves) where
  -- the grammar's files have a fault
  pub no-grammar : (end : Fault) → LacksGrammar h grammar settings verbose end → NotCome (batch_meaning grammar settings verbose profile limits most) h end
  no-grammar end lacks = grammars.not_come (batch_meaning grammar settings verbose profile limits most) h grammar settings verbose (λ fault first. of_grammar fault first) end lacks

  -- they have none, and the profile's file has
  pub no-profile : (g : GrammarTree) → HasGrammar h.files grammar settings g → (end : Fault) → LacksText h profile verbose end → NotCome (batch_meaning grammar settings verbose profile limits most) h end
  no-profile g has end lacks = told.not_come (batch_meaning grammar settings verbose profile limits most) h (Lacks h profile verbose) (λ f details x. (of_profile g f details has x.0 x.2, x.1)) end lacks
