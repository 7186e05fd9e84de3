-- The seats as they are made.
use Rattle.std.proofs.Common.{◌≡◌, ℕ, ◌+◌, ◌-◌, ◌<◌, [], ◌∷◌, refl, sym, ap, ◌∙◌, subst, Some, arith}
use Rattle.shared_chart.specs.Turns.{newcomer}
use Rattle.shared_chart.specs.Plays.{Sat, left_seat}
use Rattle.shared_chart.specs.TurnSeats.{own_calls, Sits, Knows, IsFresh, Makes}

module _ {B M E : Type 0} where
  -- a seat that has made no call yet
  pub record Fresh (k : ℕ) (b : B) (x : M) (me : Sat B M E) : Type 0 where
    pub sits : Sits k me
    pub knows : Knows b x me
    pub fresh : IsFresh me

  pub made_one : (seats k : ℕ) (b : B) (x : M) (m m' : Sat B M E) → m' ≡ (left_seat m.0, m.1) → Makes seats k b x m → k < seats → Makes seats (k + 1) b x m'
  made_one seats k b x m m' is h lt = subst (λ (y : Sat B M E). Makes seats (k + 1) b x y) (sym is) (record {
    idle = record { turn = h.idle.turn; holds = h.idle.holds; empty = h.idle.empty; numbered = h.idle.numbered };
    claims = h.claims;
    knows = record { begun = h.knows.begun; seen = h.knows.seen };
    unmade = (let u = h.unmade in omega arith);
    next = ap (λ (y : ℕ). y + 1) h.next;
    saw = h.saw;
    set = h.set;
  })

  pub made_all : (seats k : ℕ) (b : B) (x : M) (m : Sat B M E) → Makes seats k b x m → k ≡ seats → Fresh 0 b x m
  made_all seats k b x m h is = record {
    sits = record { idle = h.idle; makes_none = (let u = h.unmade in omega arith); claims = h.claims ∙ ap (λ l. (0, own_calls l) ∷ []) (sym h.claims) };
    knows = h.knows;
    fresh = record { calls = ap own_calls h.claims; saw = h.saw; set = h.set };
  }

  pub fresh_seat : (next k : ℕ) (b : B) (x : M) (v m : Sat B M E) → m ≡ (newcomer v.0.base v.0.seen next 0, []) → Knows b x v → next ≡ k → Fresh k b x m
  fresh_seat next k b x v m is knows same = subst (λ (y : Sat B M E). Fresh k b x y) (sym (is ∙ ap (λ (j : ℕ). (newcomer v.0.base v.0.seen j 0, [])) same)) (record {
    sits = record { idle = record { turn = refl; holds = refl; empty = refl; numbered = omega arith }; makes_none = refl; claims = refl };
    knows = record { begun = knows.begun; seen = knows.seen };
    fresh = record { calls = refl; saw = refl; set = refl };
  })

  pub first_seat : (seats : ℕ) (b : B) (x : M) (m : Sat B M E) → 0 < seats → m ≡ (newcomer (Some b) (x ∷ []) 0 (seats - 1), []) → Makes seats 1 b x m
  first_seat seats b x m some_seat is = subst (λ (y : Sat B M E). Makes seats 1 b x y) (sym is) (record {
    idle = record { turn = refl; holds = refl; empty = refl; numbered = omega arith };
    claims = refl;
    knows = record { begun = refl; seen = refl };
    unmade = omega arith;
    next = refl;
    saw = refl;
    set = refl;
  })
