-- The settings of what was walked may name a top type and a string type.
use Rattle.std.proofs.Common.{Ok, Option}
use Rattle.grammar_settings.specs.Forms.{Name}
use Rattle.grammar_settings.specs.Settled.{SettingsTree}
use Rattle.grammar_settings.proofs.SettingsLemmas.{MayName, said_name, defaults_name}
use Rattle.grammar_files.specs.Walks.{Files, IsSettled, by_default, in_form, WalkedTree}
use Rattle.grammar_files.specs.WalkViews.{CanSettle}
use Rattle.std.proofs.Common.{Bool}

pub settled_names : (files : Files) (fails : Name → Bool) (name : Option Name) (t : SettingsTree) → IsSettled files fails name (Ok t) → MayName t
settled_names files fails name t by_default = defaults_name
settled_names files fails name t (in_form file text _ is e) = said_name text t e

pub can_settle : (w : WalkedTree) → MayName w.settings → CanSettle w
can_settle w m = record { apart = m.differ; top_unreserved = m.top_free; string_unreserved = m.string_free }
