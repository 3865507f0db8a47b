-- The delay of an accepted request. Assumes nothing.
use Prim.Native.Nat.{ℕ, zero, suc, ◌+◌, ◌-◌, ◌*◌, ◌/◌, ◌%◌, ◌≤◌, ◌<◌}
use mathlib.Core.Path.{◌≡◌, refl, sym, ◌∙◌}
use mathlib.Core.Logic.{◌≢◌}
use mathlib.Core.Bool.{Bool, true, false, not, ◌||◌, cond}
use native.Mathlib.Nat.{div-add-mod, mod-lt, mod_self, mod-eq_of_lt, mul-add, sub-zero, zero-mul, lt_of_not-le, mul-le-mul_right}
use native.Mathlib.Omega.{arith}
use borrow.Author.Tests.{eq-eqb, ne_eqb}
use Rattle.std.specs.Prelude.{Option, Some, None}
use Rattle.std.proofs.lemmas.Option.{none-some}
use lib.Dec.{T, ltb, eqb, nltb→le, eqb→eq, eqb_refl, T_not, not_T}
use lib.Arith.{le→nltb}
use Rattle.numbers.specs.Extreme.{least_unique}
use Rattle.numbers.specs.Quotient.{rounded_of, rounded_of_law}
use Rattle.units.specs.Limits.{CLOCK_LIMIT}
use Rattle.terms.specs.declared.refusal.Reason.{Reason}
use Rattle.run.specs.Plan.{RunPlan, sink_start}
use Rattle.run.specs.Machine.{Machine, Request, refusal, leaving, changed, delay, worst}
use Rattle.run.specs.Demand.{place, sink_set}
use Rattle.run.proofs.Sound.{Sound}

-- from x up to the next multiple of h it is (h - x % h) % h
gap : (h x : ℕ) → 0 < h → h * rounded_of x h ≡ x + (h - x % h) % h
gap h x pos = go (x % h) refl
  where
    go : (r : ℕ) → x % h ≡ r → h * rounded_of x h ≡ x + (h - x % h) % h
    go zero e =
        let b : (h - x % h) % h ≡ 0 = rw (e, sub-zero) (mod_self h) in
        rw (eq-eqb (x % h) 0 e, b) (omega (arith, div-add-mod x h))
    go (suc r) e =
        let b : (h - x % h) % h ≡ h - x % h = mod-eq_of_lt (omega (arith, mod-lt x pos)) in
        rw (ne_eqb (x % h) 0 (λ z. omega arith), b) (omega (arith, div-add-mod x h, mod-lt x pos, mul-add h (x / h) 1))

-- what an accepted request says
pub record Accepted (p : RunPlan) (m : Machine) (r : Request) : Type 0 where
  pub old : T (p.listed m.mode)
  pub new : T (p.listed r.mode)
  pub other : r.mode ≢ m.mode
  pub ordered : m.started ≤ m.ended
  pub clock : r.tick ≤ CLOCK_LIMIT.0
  pub settled : m.ended ≤ r.tick

cond_none : (b : Bool) (k : Reason) (x : Option Reason) → cond b (Some k) x ≡ None → T (not b) × (x ≡ None)
cond_none true k x h = absurd (none-some _ (sym h))
cond_none false k x h = (tt, h)

cond_pass : (b : Bool) (k x : Option Reason) → T (not b) → x ≡ None → cond b k x ≡ None
cond_pass true k x h e = absurd h
cond_pass false k x h e = e

not_not : (b : Bool) → T (not (not b)) → T b
not_not true h = tt
not_not false h = h

not_not_i : (b : Bool) → T b → T (not (not b))
not_not_i true h = tt
not_not_i false h = h

not_or : (a b : Bool) → T (not (a || b)) → T (not a) × T (not b)
not_or true b h = absurd h
not_or false b h = (tt, h)

not_or_i : (a b : Bool) → T (not a) → T (not b) → T (not (a || b))
not_or_i true b h k = h
not_or_i false b h k = k

module _ (p : RunPlan) (m : Machine) (r : Request) where
  pub accepted : refusal p m r ≡ None → Accepted p m r
  unfolding refusal
  accepted h =
      let (a, h₁) = cond_none (not (p.listed m.mode) || ltb m.ended m.started) _ _ h in
      let (b, h₂) = cond_none (not (p.listed r.mode)) _ _ h₁ in
      let (c, h₃) = cond_none (eqb r.mode m.mode) _ _ h₂ in
      let (d, h₄) = cond_none (ltb CLOCK_LIMIT.0 r.tick) _ _ h₃ in
      let (e, h₅) = cond_none (ltb r.tick m.ended) _ _ h₄ in
      let (f, g) = not_or (not (p.listed m.mode)) (ltb m.ended m.started) a in
      record {
        old = not_not (p.listed m.mode) f;
        new = not_not (p.listed r.mode) b;
        other = λ q. T_not (eqb r.mode m.mode) c (rw q (eqb_refl m.mode));
        ordered = nltb→le m.ended m.started g;
        clock = nltb→le CLOCK_LIMIT.0 r.tick d;
        settled = nltb→le r.tick m.ended e;
      }

  pub accepts : Accepted p m r → refusal p m r ≡ None
  unfolding refusal
  accepts a =
      cond_pass (not (p.listed m.mode) || ltb m.ended m.started) _ _
      (not_or_i (not (p.listed m.mode)) (ltb m.ended m.started) (not_not_i (p.listed m.mode) a.old) (le→nltb m.ended m.started a.ordered))
      (cond_pass (not (p.listed r.mode)) _ _ (not_not_i (p.listed r.mode) a.new)
      (cond_pass (eqb r.mode m.mode) _ _ (not_T (eqb r.mode m.mode) (λ t. a.other (eqb→eq r.mode m.mode t)))
      (cond_pass (ltb CLOCK_LIMIT.0 r.tick) _ _ (le→nltb CLOCK_LIMIT.0 r.tick a.clock)
      (cond_pass (ltb r.tick m.ended) _ _ (le→nltb r.tick m.ended a.settled) refl))))

-- the delay as a function of the two modes and the place
abbrev pub delay_at : RunPlan → ℕ → ℕ → ℕ → ℕ
delay_at p o l x = p.offset o l + sink_start p l + (p.iteration o - x) % p.iteration o

module _ (p : RunPlan) (ok : Sound p) where
  module _ (m : Machine) (r : Request) (h : refusal p m r ≡ None) where
    pub leaving_is : leaving p m r ≡ r.tick + (p.iteration m.mode - place p m r) % p.iteration m.mode
    leaving_is =
        let a = accepted p m r h in
        omega (arith, gap (p.iteration m.mode) (r.tick - m.started) (ok.some_tick m.mode a.old), a.ordered, a.settled)

    pub delay_is : delay p m r ≡ delay_at p m.mode r.mode (place p m r)
    delay_is = omega (arith, leaving_is)

    pub delay_worst : delay p m r ≤ worst p m.mode r.mode
    delay_worst = omega (arith, delay_is, mod-lt (p.iteration m.mode - place p m r) (ok.some_tick m.mode (accepted p m r h).old))

    pub delay_set : sink_set p (changed p m r) ≡ r.tick + delay p m r
    delay_set = omega (arith, leaving_is, zero-mul (p.period r.mode (p.sink r.mode)))

  pub delay_same : (m n : Machine) (r q : Request) → refusal p m r ≡ None → refusal p n q ≡ None
      → m.mode ≡ n.mode → r.mode ≡ q.mode → place p m r ≡ place p n q → delay p m r ≡ delay p n q
  delay_same m n r q h k e f g = delay_is m r h ∙ rw (g, e, f) (sym (delay_is n q k))

  -- of any machine with room, a request soon after its change has ended
  reaching : Machine → ℕ → Request
  reaching m l = record { mode = l; tick = m.started + (p.iteration m.mode * rounded_of (m.ended - m.started) (p.iteration m.mode) + 1) }

  pub delay_reached : (m : Machine) (l : ℕ) → T (p.listed m.mode) → T (p.listed l) → l ≢ m.mode → m.started ≤ m.ended
      → m.ended + p.iteration m.mode ≤ CLOCK_LIMIT.0
      → (r : Request) × (r.mode ≡ l) × (refusal p m r ≡ None) × (delay p m r ≡ worst p m.mode l)
  unfolding reaching
  delay_reached m l o n other ordered room =
      let h = p.iteration m.mode in
      let pos : 0 < h = ok.some_tick m.mode o in
      let x = m.ended - m.started in
      let k = rounded_of x h in
      let g : h * k ≡ x + (h - x % h) % h = gap h x pos in
      let g₂ : (h - x % h) % h < h = mod-lt (h - x % h) pos in
      let up : rounded_of (h * k + 1) h ≡ k + 1 =
      least_unique (λ (j : ℕ). h * k + 1 ≤ j * h) (rounded_of_law (h * k + 1) h pos) (record {
        holds = omega arith;
        least = λ j le. omega (arith, lt_of_not-le (λ (c : j ≤ k). omega (arith, mul-le-mul_right h c)));
      }) in
      let e : m.started + (h * k + 1) - m.started ≡ h * k + 1 = omega arith in
      let acc : Accepted p m (reaching m l) = record { old = o; new = n; other = other; ordered = ordered; clock = omega arith; settled = omega arith } in
      (reaching m l, refl, accepts p m (reaching m l) acc, rw (e, up) (omega (arith, mul-add h k 1)))
