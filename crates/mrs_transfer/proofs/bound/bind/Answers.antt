use Rattle.std.proofs.Common.{ℕ, List, length, ◌≡◌, sym, subst, arith}
use Rattle.std.specs.Prelude.{map, string_bytes}
use Rattle.std.proofs.lemmas.List.{length-map}
use Rattle.mrs_model.specs.Views.{variable_of}
use Rattle.transfer_model.specs.Sites.{HasLetters}
use Rattle.mrs_transfer.specs.declared.bound.Pair.{Pair}
use Rattle.mrs_transfer.specs.Inner.Matching.{IsBound}
use Rattle.mrs_transfer.proofs.Binding.{bind_unfit, bind_new, no_letters, has_letters}
use Rattle.mrs_transfer.proofs.bound.bind.Goals as goal

pub returns-then-not-has_letters-clause-no : goal.returns-then-not-has_letters-clause-no
returns-then-not-has_letters-clause-no c =
    let n : length (map string_bytes c.args.letters.now) ≡ length c.args.letters.now = length-map c.args.letters.now string_bytes in
    bind_unfit (map variable_of c.args.all.now) (map string_bytes c.args.letters.now) c.args.pairs.now.items c.args.coref c.args.var (omega (arith, n, c.requires.coref))
    (no_letters c.args.all.now c.args.letters.now c.args.coref c.args.var c.index-letters-coref.result c.index-all-var.result c.requires.coref c.requires.var c.index-letters-coref.is c.index-all-var.is
    (λ h. let t = c.has_letters.ensures.1 (subst (λ (z : List ℕ). HasLetters z (variable_of c.index-all-var.result)) (sym c.as_str.ensures.value) h) in let f = c.if-not-has_letters.true in cc))

pub returns-clause-yes : goal.returns-clause-yes
returns-clause-yes c =
    rw c.in_ok-push.ensures.items
    (bind_new (map variable_of c.args.all.now) (map string_bytes c.args.letters.now) c.args.pairs.now.items c.args.coref c.args.var c.requires.pairs (subst (λ (z : List Pair). IsBound z c.args.coref → ⊥) c.deref.ensures.value c.in_default.ensures)
    (has_letters c.args.all.now c.args.letters.now c.args.coref c.args.var c.index-letters-coref.result c.index-all-var.result c.requires.coref c.requires.var c.index-letters-coref.is c.index-all-var.is
    (subst (λ (z : List ℕ). HasLetters z (variable_of c.index-all-var.result)) c.as_str.ensures.value (c.has_letters.ensures.0 c.if-not-has_letters.false))))
