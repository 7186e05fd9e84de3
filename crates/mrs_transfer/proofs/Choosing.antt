-- Which sites are taken.
use Rattle.std.proofs.Common.{String, Global, ◌≡◌, ℕ, ◌∙◌, Bool, true, false, List, ap, sym, Some, None, Option, Result, Ok, Err}
use Rattle.std.specs.Prelude.{IfSome, IfOk, not, map, string_bytes}
use Rattle.std.specs.Option.{option_map}
use Rattle.std.specs.Bool.{OnTrue, OnFalse}
use Rattle.std.proofs.lemmas.Option.{none-some}
use Rattle.mrs_model.specs.declared.Ep.{Ep}
use Rattle.mrs_model.specs.declared.Var.{Var}
use Rattle.mrs_model.specs.Views.{variable_of, predication_of}
use Rattle.transfer_model.specs.declared.Element.{Element as DeclaredElement}
use Rattle.transfer_model.specs.declared.Filter.{Filter}
use Rattle.transfer_model.specs.Rules.{Element}
use Rattle.transfer_model.specs.Sites.{Site}
use Rattle.transfer_model.specs.Views.{element_of}
use Rattle.mrs_transfer.specs.declared.bound.Pair.{Pair}
use Rattle.mrs_transfer.specs.declared.matching.Sides.{Sides}
use Rattle.mrs_transfer.specs.Inner.Matching.{Task, task_of}

-- what answers say
pub on_yes : (P Q : Type 0) (b : Bool) → (P → Q) → OnTrue b P → OnTrue b Q
on_yes P Q true f h = f h
on_yes P Q false f h = tt

pub on_no : (P Q : Type 0) (b : Bool) → (P → Q) → OnFalse b P → OnFalse b Q
on_no P Q true f h = tt
on_no P Q false f h = f h

pub ok_yes : {E : Type 0} (P Q : Type 0) (r : Result Bool E) → (P → Q) → IfOk r (λ b. OnTrue b P) → IfOk r (λ b. OnTrue b Q)
ok_yes P Q (Ok b) f h = on_yes P Q b f h
ok_yes P Q (Err e) f h = tt

pub ok_no : {E : Type 0} (P Q : Type 0) (r : Result Bool E) → (P → Q) → IfOk r (λ b. OnFalse b P) → IfOk r (λ b. OnFalse b Q)
ok_no P Q (Ok b) f h = on_no P Q b f h
ok_no P Q (Err e) f h = tt

pub not_yes : (P Q : Type 0) (b : Bool) → (P → Q) → OnFalse b P → OnTrue (not b) Q
not_yes P Q true f h = tt
not_yes P Q false f h = f h

pub not_no : (P Q : Type 0) (b : Bool) → (P → Q) → OnTrue b P → OnFalse (not b) Q
not_no P Q true f h = f h
not_no P Q false f h = tt

-- no FILTER
pub no_filter : (o : Option Filter) (P : List Element → Type 0) → o ≡ None → IfSome (option_map (λ f. map element_of f.elements.items) o) P
no_filter None P e = tt
no_filter (Some f) P e = absurd (none-some f (sym e))

-- a site that was made of copies
pub site_as : (s : Site) (ps vs qs ws : List ℕ) → s ≡ record { places = ps; vars = vs } → ps ≡ qs → vs ≡ ws → s ≡ record { places = qs; vars = ws }
site_as s ps vs qs ws a b c = a ∙ (ap (λ (z : List ℕ). let y : Site = record { places = z; vars = vs } in y) b ∙ ap (λ (z : List ℕ). let y : Site = record { places = qs; vars = z } in y) c)

-- what is looked for, by its parts
abbrev pub task_by : List Ep → List Var → List (String Global) → List DeclaredElement → List Pair → Task
task_by eps all letters elements given = record { eps = map predication_of eps; all = map variable_of all; letters = map string_bytes letters; elements = map element_of elements; given = given }

pub sides_task : (s : Sides) (eps : List Ep) (all : List Var) (letters : List (String Global)) (elements : List DeclaredElement) (given : List Pair) → s.eps.now ≡ eps → s.all.now ≡ all → s.letters.now ≡ letters → s.elements.now ≡ elements → s.given.now ≡ given → task_of s ≡ task_by eps all letters elements given
sides_task s eps all letters elements given a b c d e =
    ap (λ (z : List Ep). task_by z s.all.now s.letters.now s.elements.now s.given.now) a
    ∙ (ap (λ (z : List Var). task_by eps z s.letters.now s.elements.now s.given.now) b
    ∙ (ap (λ (z : List (String Global)). task_by eps all z s.elements.now s.given.now) c
    ∙ (ap (λ (z : List DeclaredElement). task_by eps all letters z s.given.now) d
    ∙ ap (λ (z : List Pair). task_by eps all letters elements z) e)))
