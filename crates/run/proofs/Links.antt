-- How the visits of a run follow each other. Assumes nothing.
use Prim.Native.Nat.{ℕ, ◌+◌, ◌-◌, ◌≤◌, ◌<◌, zero-le}
use mathlib.Core.Path.{◌≡◌, refl, sym, ap, ◌∙◌}
use mathlib.Core.Bool.{Bool, true, false, cond}
use mathlib.Core.List.{List, [], ◌∷◌}
use mathlib.Core.Logic.{◌⊎◌, inl, inr, ◌≢◌}
use native.Mathlib.Nat.{mul_comm, le-max_left}
use native.Mathlib.Omega.{arith}
use Rattle.std.specs.Prelude.{Option, Some, None, is_none}
use lib.Dec.{T, leb, eqb, leb→le, ltb→lt, eqb→eq}
use lib.Ieee.Fits.{and_l, and_r}
use Rattle.numbers.specs.Every.{Every}
use Rattle.numbers.specs.Quotient.{rounded_of}
use Rattle.run.specs.Plan.{RunPlan}
use Rattle.run.specs.Machine.{Machine, Request, refusal, leaving, changed, Leave, stays, leaves, Visit, visit, Run, begin, answer, run}
use Rattle.run.specs.Firing.{is_open, total, open_in}
use Rattle.run.specs.Demand.{EveryRun}
use Rattle.run.proofs.Sound.{Sound}
use Rattle.run.proofs.Tallies.{split, if_le, if_none}
use Rattle.run.proofs.Delay.{accepted, leaving_is}
use Rattle.run.proofs.Tokens.{Whole}

none_is : {A : Type 0} (o : Option A) → T (is_none o) → o ≡ None
none_is None h = refl
none_is (Some x) h = absurd h

-- machine b was left at f, and machine c came after it
pub record Link (p : RunPlan) (b : Machine) (f : ℕ) (c : Machine) : Type 0 where
  pub new : T (p.listed c.mode)
  pub other : c.mode ≢ b.mode
  pub iterations : Whole (leaves f) b.started (p.iteration b.mode)
  pub settled : b.ended ≤ f
  pub started : c.started ≡ f + p.offset b.mode c.mode
  pub ended : f + p.startup b.mode ≤ c.ended

-- a machine and the visits before it
pub data Linked (p : RunPlan) : Machine → List Visit → Type 0 where
  first : {b : Machine} → T (p.listed b.mode) → Linked p b []
  later : {b c : Machine} {vs : List Visit} {f : ℕ} → Linked p b vs → Link p b f c → Linked p c (visit b (leaves f) ∷ vs)

-- a visit of a listed mode, left after whole iterations
abbrev pub Good : RunPlan → Visit → Type 0
Good p v = T (p.listed v.mode) × Whole v.leave v.start (p.iteration v.mode)

module _ (p : RunPlan) where
  is_listed_law : {c : Machine} {vs : List Visit} → Linked p c vs → T (p.listed c.mode)
  is_listed_law (first h) = h
  is_listed_law (later lk k) = k.new

  past_good : {c : Machine} {vs : List Visit} → Linked p c vs → Every (Good p) vs
  past_good (first h) = tt
  past_good (later lk k) = ((is_listed_law lk, k.iterations), past_good lk)

  pub all_good : {c : Machine} {vs : List Visit} → Linked p c vs → Every (Good p) (visit c stays ∷ vs)
  all_good lk = ((is_listed_law lk, tt), past_good lk)

module _ (p : RunPlan) (ok : Sound p) where
  -- every run is linked
  link : (m : Machine) (r : Request) → refusal p m r ≡ None → Link p m (leaving p m r) (changed p m r)
  link m r h =
      let a = accepted p m r h in
      record {
        new = a.new;
        other = a.other;
        iterations = (
          rounded_of (r.tick - m.started) (p.iteration m.mode),
          ap (λ (x : ℕ). m.started + x) (mul_comm (p.iteration m.mode) (rounded_of (r.tick - m.started) (p.iteration m.mode))),
        );
        settled = omega (arith, a.settled, leaving_is p ok m r h);
        started = refl;
        ended = le-max_left _ _;
      }

  abbrev LinkedRun : Run → Type 0
  LinkedRun s = Linked p s.now s.past

  answer_linked : (s : Run) (r : Request) → LinkedRun s → LinkedRun (answer p s r)
  unfolding answer
  answer_linked s r h = choose (is_none (refusal p s.now r)) _ s (λ t. later h (link s.now r (none_is (refusal p s.now r) t))) h
    where
      choose : (b : Bool) (x y : Run) → (T b → LinkedRun x) → LinkedRun y → LinkedRun (cond b x y)
      choose true x y h k = h tt
      choose false x y h k = k

  run_linked : (s : Run) (rs : List Request) → LinkedRun s → LinkedRun (run p s rs)
  unfolding run
  run_linked s [] h = h
  run_linked s (r ∷ rs) h = run_linked (answer p s r) rs (answer_linked s r h)

  pub linked : EveryRun p (λ s. Linked p s.now s.past)
  linked m start rs = run_linked (begin p m) rs (first start)

module _ (p : RunPlan) (t : ℕ) where
  -- the visits before a change are over when it has ended
  abbrev Closed : Visit → Type 0
  Closed v = T (is_open p t v) → ⊥

  past_closed : {c : Machine} {vs : List Visit} → Linked p c vs → c.ended ≤ t → Every Closed vs
  past_closed (first h) le = tt
  past_closed (later {b = b} {f = f} lk k) le = (
    (λ u. omega (arith, ltb→lt t (f + p.startup b.mode) (and_r (leb b.started t) _ u), k.ended)),
    past_closed lk (omega (arith, k.settled, k.ended)),
  )

  total_none : (G : Visit → Type 0) (g : Visit → ℕ) (vs : List Visit) → ((v : Visit) → G v → Closed v → g v ≡ 0) → Every G vs → Every Closed vs → total vs g ≡ 0
  unfolding total
  total_none G g [] h good over = refl
  total_none G g (v ∷ vs) h good over = omega (arith, h v good.0 over.0, total_none G g vs h good.1 over.1)

  -- A count of visits that is 0 where the visit is not under way, at most n in each, and at most n in two that follow each other: it is at most n in all.
  module _ (G : Visit → Type 0) (g : Visit → ℕ) (n : ℕ)
      (none : (v : Visit) → G v → Closed v → g v ≡ 0)
      (one : (v : Visit) → G v → g v ≤ n)
      (two : (b c : Machine) (f : ℕ) (l : Leave) → G (visit c l) → G (visit b (leaves f)) → Link p b f c → c.started ≤ t
      → g (visit c l) + g (visit b (leaves f)) ≤ n) where
    pub at_most : {c : Machine} {vs : List Visit} → Linked p c vs → (l : Leave) → Every G (visit c l ∷ vs) → total (visit c l ∷ vs) g ≤ n
    unfolding total
    at_most (first {b = b} h) l good = omega (arith, one (visit b l) good.0)
    at_most (later {b = b} {c = c} {vs = vs} {f = f} lk k) l (new, (old, past)) = go (split c.started t) (at_most lk (leaves f) (old, past))
      where
        go : (c.started ≤ t) ⊎ (t < c.started) → g (visit b (leaves f)) + total vs g ≤ n → g (visit c l) + (g (visit b (leaves f)) + total vs g) ≤ n
        go (inl x) ih = omega (arith, two b c f l new old k x, total_none G g vs none past (past_closed lk (omega (arith, k.settled, k.started))))
        go (inr x) ih = omega (arith, none (visit c l) new (λ u. omega (arith, leb→le c.started t (and_l (leb c.started t) _ u))))

  -- once a change has ended, so has every mode but the one that runs
  pub others_closed : {c : Machine} {vs : List Visit} (m : ℕ) → Linked p c vs → m ≢ c.mode → c.ended ≤ t → open_in p (visit c stays ∷ vs) m t ≡ 0
  unfolding total
  others_closed {c} {vs} m lk other le = omega (
    arith,
    if_none (eqb c.mode m) (cond (is_open p t (visit c stays)) 1 0) (λ u. absurd (other (sym (eqb→eq c.mode m u)))),
    total_none (Good p) (λ v. cond (eqb v.mode m) (cond (is_open p t v) 1 0) 0) vs
        (λ v _ h. if_none (eqb v.mode m) (cond (is_open p t v) 1 0) (λ _. if_none (is_open p t v) 1 (λ u. absurd (h u)))) (past_good p lk) (past_closed lk le),
  )

  -- At any tick at most two visits are under way, and at most one of each mode.
  open_one : (v : Visit) → cond (is_open p t v) 1 0 ≤ 1
  open_one v = if_le (is_open p t v) true 1 1 (λ _. tt) (λ _. omega arith)

  pub two_open : {c : Machine} {vs : List Visit} → Linked p c vs → total (visit c stays ∷ vs) (λ v. cond (is_open p t v) 1 0) ≤ 2
  two_open lk = at_most (Good p) (λ v. cond (is_open p t v) 1 0) 2
      (λ v _ h. if_none (is_open p t v) 1 (λ u. absurd (h u)))
      (λ v _. omega (arith, open_one v))
      (λ b c f l _ _ _ _. omega (arith, open_one (visit c l), open_one (visit b (leaves f))))
      lk stays (all_good p lk)

-- where each of two numbers counts only in its own mode, and these differ, one of them is 0
pub in_one : (m a b x y n : ℕ) → a ≢ b → (a ≡ m → x ≤ n) → (b ≡ m → y ≤ n) → cond (eqb a m) x 0 + cond (eqb b m) y 0 ≤ n
in_one m a b x y n d hx hy = go (eqb a m) (eqb b m) (λ u. eqb→eq a m u) (λ u. eqb→eq b m u)
  where
    go : (u v : Bool) → (T u → a ≡ m) → (T v → b ≡ m) → cond u x 0 + cond v y 0 ≤ n
    go true true f g = absurd (d (f tt ∙ sym (g tt)))
    go true false f g = omega (arith, hx (f tt))
    go false true f g = omega (arith, hy (g tt))
    go false false f g = zero-le

module _ (p : RunPlan) (m t : ℕ) where
  pub one_open : {c : Machine} {vs : List Visit} → Linked p c vs → open_in p (visit c stays ∷ vs) m t ≤ 1
  one_open lk = at_most p t (Good p) (λ v. cond (eqb v.mode m) (cond (is_open p t v) 1 0) 0) 1
      (λ v _ h. if_none (eqb v.mode m) _ (λ _. if_none (is_open p t v) 1 (λ u. absurd (h u))))
      (λ v _. if_le (eqb v.mode m) true _ 1 (λ _. tt) (λ _. open_one p t v))
      (λ b c f l _ _ k _. in_one m c.mode b.mode _ _ 1 k.other (λ _. open_one p t (visit c l)) (λ _. open_one p t (visit b (leaves f))))
      lk stays (all_good p lk)
