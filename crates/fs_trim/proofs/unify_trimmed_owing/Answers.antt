use Rattle.std.proofs.Common.{subst, refl, [], ◌∷◌, ◌≡◌, ap, Some}
use Rattle.std.specs.Prelude.{IfSome, option_map}
use Rattle.fs_model.specs.Claims.{Has}
use Rattle.fs_graph.specs.GraphMap.{reader_of}
use Rattle.fs_closing.specs.Rules.{system_of}
use Rattle.fs_unify.specs.Owing.{IsWellFormedBut, owes_rules}
use Rattle.fs_unify.specs.Placing.{source_of}
use Rattle.tree_model.specs.Views.{IsTrimmed}
use Rattle.fs_trim.specs.Cutting.{cut_of, owed_of, IsShort}
use Rattle.fs_trim.proofs.TrimLemmas.{again_answer, again_known, without_owes, cut_in}
use Rattle.fs_trim.proofs.unify_trimmed_owing.Goals as goal

pub unify_and_keep-requires-clause-parts : goal.unify_and_keep-requires-clause-parts
unify_and_keep-requires-clause-parts c p h =
    let alone : c.add_cut.new.self ≡ record { place = []; graph = c.in-Some.bare; owes = owes_rules c.args.owed.now } ∷ [] = rw (c.in_ok-add_cut.ensures.ok, c.new-alone.ensures, c.new.ensures.items) refl in
    let known : IsShort c.args.system.now c.in-Some.bare = subst (λ o. IfSome o (IsShort c.args.system.now)) c.in-Some.is c.in_ok-bare.ensures.known in
    let owes = subst (λ o. IfSome o (λ k. IsWellFormedBut (system_of c.args.system.now) (reader_of k) (owed_of (cut_of c.args.cut.now)))) c.in-Some.is c.in_ok-bare.ensures.owes in
    cut_in c.args.system.now c.in-Some.bare c.args.owed.now (cut_of c.args.cut.now) known.graph_in owes c.requires.owed p (subst (Has p) alone h)

pub returns-clause-answer : goal.returns-clause-answer
returns-clause-answer c =
    let alone : c.add_cut.new.self ≡ record { place = []; graph = c.in-Some.bare; owes = owes_rules c.args.owed.now } ∷ [] = rw (c.in_ok-add_cut.ensures.ok, c.new-alone.ensures, c.new.ensures.items) refl in
    let made : IsTrimmed (system_of c.args.system.now) (source_of c.args.parts.now) [] (cut_of c.args.cut.now) (Some (reader_of c.in-Some.bare)) =
    subst (λ o. IsTrimmed (system_of c.args.system.now) (source_of c.args.parts.now) [] (cut_of c.args.cut.now) (option_map reader_of o)) c.in-Some.is c.in_ok-bare.ensures.answer in
    again_answer c.args.system.now (source_of c.args.parts.now) (source_of c.add_cut.new.self) (cut_of c.args.cut.now) (cut_of c.args.last.now) c.in-Some.bare c.in_ok-kept.kept
    (ap source_of alone) made c.in_ok-kept.ensures.keeps

pub returns-clause-known : goal.returns-clause-known
returns-clause-known c =
    let alone : c.add_cut.new.self ≡ record { place = []; graph = c.in-Some.bare; owes = owes_rules c.args.owed.now } ∷ [] = rw (c.in_ok-add_cut.ensures.ok, c.new-alone.ensures, c.new.ensures.items) refl in
    let made : IsTrimmed (system_of c.args.system.now) (source_of c.args.parts.now) [] (cut_of c.args.cut.now) (Some (reader_of c.in-Some.bare)) =
    subst (λ o. IsTrimmed (system_of c.args.system.now) (source_of c.args.parts.now) [] (cut_of c.args.cut.now) (option_map reader_of o)) c.in-Some.is c.in_ok-bare.ensures.answer in
    again_known c.args.system.now (source_of c.args.parts.now) (source_of c.add_cut.new.self) (cut_of c.args.cut.now) (cut_of c.args.last.now) c.in-Some.bare c.in_ok-kept.kept
    (ap source_of alone) made c.in_ok-kept.ensures.keeps

pub returns-clause-owes : goal.returns-clause-owes
returns-clause-owes c = without_owes c.args.system.now (source_of c.add_cut.new.self) (cut_of c.args.last.now) c.in_ok-kept.kept c.in_ok-kept.ensures.keeps
