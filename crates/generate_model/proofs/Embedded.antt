-- What a daughter says at her place her mother says.
use Rattle.std.specs.Prelude.{ℕ, ◌≡◌, ◌+◌, true, List, ◌++◌}
use Rattle.std.proofs.Common.{sym, ◌∙◌, ap, subst, append_assoc}
use Rattle.fs_model.specs.Claims.{Path, Claim, exists_at, same, below, at}
use Rattle.fs_model.specs.Closure.{given_claim}
use Rattle.tree_model.specs.Structures.{Structure, Beside}
use Rattle.tree_model.specs.Cuts.{is_kept, Kept, kept_exists, kept_same, kept_below}
use Rattle.tree_model.specs.Mothers.{Rule, RuleSystem, IsFull, Whole, Meant, Parts, of_daughter, daughters_cut}
use Rattle.tree_model.proofs.Closures.{moved}
use Rattle.tree_model.proofs.MotherLaws.{full_meant}
use Rattle.generate_model.specs.Threads.{times, Open, Reaches, Threads, Stands, total}
use Rattle.generate_model.specs.Embedding.{Embeds, moved_to, IsOutside, DaughtersEmbed}
use Rattle.generate_model.proofs.Threaded.{threads_reach, elements_stay}

module _ (g : RuleSystem) (rest : ℕ) (l : Open) (out : IsOutside g l) (rule : Rule) (fs : List Structure) (f : Structure) (is : IsFull g rule fs f) (ls : List (Open × ℕ)) (t : Threads (Whole g rule fs) rest l.start ls l.end) where
  up : {c : Claim} → Kept (daughters_cut g) (Whole g rule fs) c → Meant g f c
  up k = full_meant g rule fs f is (given_claim _ k)

  outside : (j : ℕ) (q : Path) → is_kept (daughters_cut g) ((l.start ++ times rest j) ++ q) ≡ true
  outside j q = subst (λ p. is_kept (daughters_cut g) p ≡ true) (sym (append_assoc l.start (times rest j) q)) (out.start (times rest j ++ q))

  reaches : Reaches (Meant g f) rest l (total ls)
  reaches = up (kept_same (l.start ++ times rest (total ls)) l.end (out.start (times rest (total ls))) out.end (threads_reach g.system (Parts g.paths rule fs) rest l.start l.end ls t).0)

  module _ (place : Path) (d : Structure) (n before : ℕ) (b : Beside place d rule.places fs) (st : Stands (moved_to place l) n before ls) where
    down : {c : Claim} → Meant g d c → Whole g rule fs (at place c)
    down h = moved g.system place (λ c x. given_claim (at place c) (of_daughter place d c b x)) h

    placed : (j : ℕ) (q : Path) → place ++ ((l.start ++ times rest j) ++ q) ≡ ((place ++ l.start) ++ times rest j) ++ q
    placed j q = sym (append_assoc place (l.start ++ times rest j) q) ∙ ap (λ p. p ++ q) (sym (append_assoc place l.start (times rest j)))

    embeds : Embeds g rest l n before d f
    embeds = let stays = elements_stay g.system (Parts g.paths rule fs) rest l.start l.end ls t (moved_to place l) n before st in record {
      exists = λ j q le h. up (kept_exists ((l.start ++ times rest (before + j)) ++ q) (outside (before + j) q)
          (stays.0 j q le (subst (λ p. Whole g rule fs (exists_at p)) (placed j q) (down h))));
      equal = λ i j p q li lj h. up (kept_same ((l.start ++ times rest (before + i)) ++ p) ((l.start ++ times rest (before + j)) ++ q) (outside (before + i) p) (outside (before + j) q)
          (stays.1 i j p q li lj (subst (λ x. Whole g rule fs (same x (((place ++ l.start) ++ times rest j) ++ q))) (placed i p) (subst (λ x. Whole g rule fs (same (place ++ ((l.start ++ times rest i) ++ p)) x)) (placed j q) (down h)))));
      typed = λ j q u le h. up (kept_below ((l.start ++ times rest (before + j)) ++ q) u (outside (before + j) q)
          (stays.2 j q u le (subst (λ p. Whole g rule fs (below p u)) (placed j q) (down h))));
    }

pub daughters_embed : DaughtersEmbed
daughters_embed g rest l out rule fs f is ls t =
    (reaches g rest l out rule fs f is ls t, λ place d n before b st. embeds g rest l out rule fs f is ls t place d n before b st)
