-- A chart whose pending tasks have whole tuples with large covers is complete below them.
use Rattle.std.specs.Prelude.{◌≡◌, ℕ, ◌+◌, ◌<◌, Option, Some, None, List, [], ◌∷◌, ◌++◌, length, refl}
use Rattle.std.proofs.Common.{ap, subst, sym, ◌∙◌, arith, length-append, append-nil}
use Rattle.chart_model.specs.Calculus.{Calculus, Laws}
use Rattle.chart_model.specs.At.{At, at_below, at_found, to_get}
use Rattle.chart_model.specs.Chart.{Task, Chart, Leaf, Limits, daughters, covers_at}
use Rattle.chart_model.specs.Classes.{Class, Member, class_covers}
use Rattle.chart_model.specs.Limits.{AreProper}
use Rattle.chart_model.specs.Below.{PendingFrom, IsWholeFrom, HasHost, IsCompleteBelow}
use Rattle.chart_model.proofs.Complete.{Facts, Hosts, hosts_length, hosts_covers, Closed, complete, sound_in, found_in, host_once}
use Rattle.chart_model.proofs.Sizes.{daughter_size}
use Rattle.chart_model.proofs.Gather

nothing_left : (n : ℕ) (xs : List ℕ) → n + length xs ≡ n → xs ≡ []
nothing_left n [] e = refl
nothing_left n (x ∷ xs) e = absurd (omega arith)

module _ {M C : Type 0} (k : Calculus M C) (limits : Limits) (leaves : List (Leaf M C)) (laws : Laws k) (proper : AreProper k limits leaves) (ch : Chart M C) (facts : Facts k limits leaves ch) (n : ℕ) (pending : PendingFrom k limits ch n) where
  abbrev pub IsBelow : Class M C → Type 0
  IsBelow c = k.size c.cover < n

  -- a pending task can't begin the tuple of a smaller mother
  not_pending : (rule : ℕ) (ds : List (Class M C)) (c : C) (hs : List ℕ) → length ds ≡ k.arity rule → k.covers rule (class_covers ds) ≡ Some c → k.size c < n → Hosts k limits leaves ch.rows ch.into hs ds → (task : Task) (rest : List ℕ) → IsWholeFrom k limits ch n task → task.rule ≡ rule → daughters ch.rows task ++ rest ≡ hs → ⊥
  not_pending rule ds c hs len cov small hosts task rest whole rule_is front =
      let full : length (daughters ch.rows task) ≡ k.arity rule = whole.whole ∙ ap k.arity rule_is in
      let none : rest ≡ [] = nothing_left (length (daughters ch.rows task)) rest (omega (arith, length-append (daughters ch.rows task) rest, ap length front, full, hosts_length k limits leaves ch.rows ch.into hosts, len)) in
      let all : daughters ch.rows task ≡ hs = sym (append-nil (daughters ch.rows task)) ∙ ap (λ xs. daughters ch.rows task ++ xs) (sym none) ∙ front in
      let covers : k.covers task.rule (covers_at ch.rows (daughters ch.rows task)) ≡ Some c = subst (λ xs. k.covers task.rule (covers_at ch.rows xs) ≡ Some c) (sym all) (subst (λ r. k.covers r (covers_at ch.rows hs) ≡ Some c) (sym rule_is) (ap (k.covers rule) (hosts_covers k limits leaves ch.rows ch.into hosts) ∙ cov)) in
      let least = whole.size c covers in
      omega arith

  done_by : (rule : ℕ) (ds : List (Class M C)) (c : C) (hs : List ℕ) → length ds ≡ k.arity rule → k.covers rule (class_covers ds) ≡ Some c → k.size c < n → Hosts k limits leaves ch.rows ch.into hs ds → (t : ℕ) (task : Task) (rest : List ℕ) → At ch.tasks t task → task.rule ≡ rule → daughters ch.rows task ++ rest ≡ hs → (v : Option ℕ) → At ch.done t v → (place : ℕ) × At ch.done t (Some place)
  done_by rule ds c hs len cov small hosts t task rest a rule_is front (Some p) d = (p, d)
  done_by rule ds c hs len cov small hosts t task rest a rule_is front None d = absurd (not_pending rule ds c hs len cov small hosts task rest (pending t task a d) rule_is front)

  pub below_closed : Closed k limits leaves laws ch facts IsBelow
  below_closed =
      record {
        daughters_too = λ rule ds c m r_ok len ms cov is i d a. let l = daughter_size k limits leaves laws proper rule ds c len ms cov i d a in omega arith;
        due = λ rule ds c m hs r_ok len cov is hosts t task rest a rule_is front.
            let v = at_found ch.done t (let l : t < length ch.tasks = at_below a in omega (arith, facts.same_done)) in
            done_by rule ds c hs len cov is hosts t task rest a rule_is front v.0 v.1;
      }

  has_host : (c : Class M C) → k.size c.cover < n → Member k limits leaves c → HasHost k limits leaves ch c
  has_host c is member =
      let f = complete k limits leaves laws ch facts IsBelow below_closed c is member in
      record {
        number = f.host;
        shape = f.live.shape;
        host = record { row = f.live.row; at = to_get f.live.at; free = Gather.at_free ch.into f.host f.live.free; shape = f.live.shape_is; cover = f.live.cover_is; level = f.live.level_is };
        over = f.live.over;
      }

  -- the live hosts of smaller sizes are the packed classes of these sizes
  pub complete_below : IsCompleteBelow k limits leaves ch n
  complete_below =
      record {
        sound = λ c i is h. sound_in k limits leaves laws ch facts IsBelow below_closed (λ c m is. is) c i is h;
        found = λ c is p. found_in k limits leaves laws ch facts IsBelow below_closed c is p;
        once = host_once k limits leaves laws ch facts;
        covered = has_host;
      }
