-- The list by which structures may be dropped.
use Rattle.std.specs.Prelude.{ℕ, ◌≡◌, ◌<◌, not, true, false, Bool, Option, Some, None, IfSome, List, [], option_map}
use Rattle.std.specs.Option.{is_some}
use Rattle.std.proofs.Common.{sym, ◌∙◌, ap, subst}
use Rattle.type_hierarchy.specs.declared.types.Ty.{Ty}
use Rattle.fs_graph.specs.declared.facts.Feat.{Feat}
use Rattle.fs_graph.specs.Facts.{path_of}
use Rattle.fs_model.specs.Claims.{System}
use Rattle.fs_trim.specs.Cutting.{cut_of}
use Rattle.fs_trim.specs.declared.Cut.{Cut}
use Rattle.tree_model.specs.Cuts as model
use Rattle.tree_model.specs.Mothers.{daughters_cut}
use Rattle.tree_model.specs.Signs.{Signs, rule_system}
use Rattle.mrs_places.specs.Paths.{Paths}
use Rattle.relation_fit.specs.Fits.{NullApart}

-- what daughters stand on, by the code's list of it
pub cut_is : (g : Signs) (c : Cut) (fs : List Feat) → cut_of c ≡ daughters_cut (rule_system g) → fs ≡ c.at_root.items → daughters_cut (rule_system g) ≡ record { at_root = path_of fs; anywhere = [] }
cut_is g c fs e f =
    let front : record { at_root = g.daughter_features; anywhere = [] } ≡ record { at_root = path_of c.at_root.items; anywhere = [] } =
    ap (λ (k : model.Cut). let z : model.Cut = record { at_root = k.at_root; anywhere = [] } in z) (sym e) in
    front ∙ ap (λ xs. let z : model.Cut = record { at_root = path_of xs; anywhere = [] } in z) (sym f)

-- the null type of the paths
abbrev pub number_of : Option Ty → Option ℕ
number_of o = option_map (λ t. t.0) o

module _ (s : System) (p : Paths) (rest : ℕ) (o : Option Ty) (is : p.null ≡ number_of o) where
  pub apart_none : o ≡ None → NullApart s p rest
  apart_none n t h = absurd (let z : None ≡ Some t = sym (ap number_of n) ∙ sym is ∙ h in cc)

  pub apart_some : (null : Ty) → o ≡ Some null → s.meet null.0 (s.introducer rest) ≡ None → NullApart s p rest
  apart_some null n m t h =
      let z : Some null.0 ≡ Some t = sym (ap number_of n) ∙ sym is ∙ h in
      let q : null.0 ≡ t = cc in
      subst (λ u. s.meet u (s.introducer rest) ≡ None) q m

  pub null_below : (n : ℕ) (null : Ty) → o ≡ Some null → IfSome p.null (λ t. t < n) → null.0 < n
  null_below n null e h = subst (λ q. IfSome q (λ t. t < n)) (is ∙ ap number_of e) h

-- where there is no meet
pub none_met : (r : Option Ty) (b : Bool) (m : Option ℕ) → is_some r ≡ not b → number_of r ≡ m → b ≡ true → m ≡ None
none_met None b m e h y = sym h
none_met (Some t) b m e h y = absurd (let z : true ≡ false = e ∙ ap not y in cc)
