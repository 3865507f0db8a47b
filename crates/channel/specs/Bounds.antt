-- How great the numbers of one channel become: all fit.
use Rattle.std.specs.Prelude.{refl, ◌≡◌, List, length, get_or}
use Rattle.std.specs.List.{All}
use Rattle.std.proofs.Common.{sym, ap, ap₂, ◌∙◌, div-le_self, mul-le-mul, mul-le-mul_right, div-mul-le_self, le_refl, le_of_lt, add-zero, sub-le, get_or-take, arith}
use Prim.Native.Nat.{ℕ, ◌+◌, ◌*◌, ◌/◌, ◌^◌, ◌≤◌, ◌<◌, zero-le}
use Rattle.std.proofs.Math.Nat.{le_trans, le_of_dvd, zero-max, max-le}
use Rattle.numbers.specs.Extreme.{most_within}
use Rattle.numbers.specs.Sum.{sum_next}
use Rattle.numbers.specs.Reckoned.{gcd_of_law}
use Rattle.units.specs.declared.Tick.{Tick}
use Rattle.units.specs.declared.Token.{Token}
use Rattle.units.specs.Ticks.{tick, plus_ticks, times_ticks}
use Rattle.units.specs.Tokens.{token, plus_tokens}
use Rattle.units.specs.Bounds.{MOST_TOKENS, MOST_START, MOST_SIZE}
use Rattle.units.specs.Products.{MOST_LASTING, MOST_MOVING}
use Rattle.units.specs.Limits.{MOST_RATE, ITERATION_LIMIT}
use Rattle.units.specs.Firings.{firing}
use Rattle.period.specs.Period.{begins_at, ends_at}
use Rattle.rate.specs.declared.pace.Step.{Step}
use Rattle.rate.specs.Pace.{IsStep, step_unique}
use Rattle.rate.specs.Rate.{rate_of, tokens_of}
use Rattle.channel.specs.declared.End.{End}
use Rattle.channel.specs.declared.pace.Pace.{Pace}
use Rattle.channel.specs.declared.pair.Phase.{Phase}
use Rattle.channel.specs.Flow.{rates_of, Proper, Paced, cycle_tokens, cycle_ticks}
use Rattle.channel.specs.Phases.{Mark, Hold, step_of, pace_of, give_of, give_at, take_of, latest_of, start_of, claiming_at, back_at, greatest_of, present, size_of, claiming_of, back_of, cycles_of, listed, listed_all}
use Rattle.channel.specs.Laws.{rate_at, rates_long, tokens_most, cycle_p, cycle_c, in_step, size_is}

-- the cycles of the producer that are added
abbrev pub MOST_ADDED : ℕ
MOST_ADDED = MOST_START.0 + 2

abbrev pub MOST_SPAN : Tick
MOST_SPAN = tick (MOST_START.0 + 2 * ITERATION_LIMIT.0)

pub record Adds (p : End) (cycles : ℕ) : Type 0 where
  pub few : cycles ≤ MOST_ADDED
  pub span : (times_ticks cycles (cycle_ticks p)).0 ≤ MOST_SPAN.0

-- an end within the limits, whose cycle is not longer than an iteration
pub record Brief (e : End) : Type 0 where
  pub proper : Proper e
  pub cycle : (cycle_ticks e).0 ≤ ITERATION_LIMIT.0

module _ (p c : End) (w : Paced p c) where
  pub brief_p : Brief p
  brief_p = record { proper = w.producer; cycle = cycle_p p c w }

  pub brief_c : Brief c
  brief_c = record { proper = w.consumer; cycle = cycle_c p c w }

-- what a start is reckoned with: a pace with one cycle of the producer, and a phase not long after the start
pub record Short (w : Pace) : Type 0 where
  pub some : 0 < w.step.tokens.0
  pub step : w.step.ticks.0 ≤ ITERATION_LIMIT.0
  pub tokens : w.tokens.0 ≤ MOST_TOKENS.0
  pub ticks : w.ticks.0 ≤ ITERATION_LIMIT.0

pub record Early (t : Tick) (n : Token) : Type 0 where
  pub at : t.0 ≤ MOST_START.0 + ITERATION_LIMIT.0 + 1
  pub tokens : n.0 ≤ MOST_TOKENS.0 + 1

-- a mark whose ticks are no more than tokens last
pub record Near (m : Mark) : Type 0 where
  pub more : m.more.0 ≤ MOST_LASTING.0
  pub less : m.less.0 ≤ MOST_LASTING.0

-- what a size is reckoned with: a pace with some cycles of the producer
pub record Long (w : Pace) : Type 0 where
  pub some : 0 < w.step.ticks.0
  pub common : w.step.tokens.0 ≤ MOST_TOKENS.0
  pub tokens : w.tokens.0 ≤ MOST_ADDED * MOST_TOKENS.0
  pub ticks : w.ticks.0 ≤ MOST_SPAN.0

-- and a hold whose tokens are no more than are moved
pub record Few (h : Hold) : Type 0 where
  pub more : h.more.0 ≤ MOST_MOVING.0
  pub less : h.less.0 ≤ MOST_MOVING.0

-- a phase with which a pair can be reckoned: marks that are near are such, and holds that are few
pub record Small {A B : Type 0} (number : A → ℕ) (p : Phase A B) : Type 0 where
  pub more : number p.more < 2 ^ 62
  pub less : number p.less < 2 ^ 62

pub near_small : (m : Mark) → Near m → Small (λ t. t.0) m
near_small m h = record { more = omega (arith, h.more); less = omega (arith, h.less) }

pub few_small : (h : Hold) → Few h → Small (λ k. k.0) h
few_small h f = record { more = omega (arith, f.more); less = omega (arith, f.less) }

pub cycle_most : (e : End) → Proper e → (cycle_tokens e).0 ≤ MOST_TOKENS.0
cycle_most e h = le_trans (tokens_most e h e.phases (le_refl e.phases)) (mul-le-mul_right MOST_RATE.0 h.phases)

module _ (p c : End) where
  -- the step and the pace, from what they are made of
  pub step_is : {made taken : Token} {cycle : Tick} {w : Step} → made ≡ cycle_tokens p → cycle ≡ cycle_ticks p → taken ≡ cycle_tokens c → IsStep made cycle taken w → w ≡ step_of p c
  step_is {made} {taken} {cycle} {w} em ec et is =
      step_unique (cycle_tokens p) (cycle_ticks p) (cycle_tokens c) (rw (em, ec, et) at is) (record { tokens = gcd_of_law (cycle_tokens p).0 (cycle_tokens c).0; ticks = refl })

  pub common_pos : Paced p c → 0 < (step_of p c).tokens.0
  common_pos w = (in_step p c w 1).some_g

module _ (w : Pace) (t : Tick) (n : Token) (h : Short w) (e : Early t n) where
  pub give_near : Near (give_of w t n)
  give_near =
      record {
        more = omega (arith, e.at);
        less = omega (arith, mul-le-mul (le_trans (div-le_self n.0 w.step.tokens.0) e.tokens) h.step);
      }

  pub take_near : Near (take_of w t n)
  take_near =
      let few : (n.0 + w.tokens.0) / w.step.tokens.0 ≤ MOST_TOKENS.0 + 1 + MOST_TOKENS.0 =
      le_trans (div-le_self (n.0 + w.tokens.0) w.step.tokens.0) (omega (arith, e.tokens, h.tokens)) in
      record { more = omega (arith, mul-le-mul few h.step); less = omega (arith, e.at, h.ticks) }

-- the phases of an end: what they move, and when they begin and end
module _ (e : End) (h : Proper e) where
  pub tokens_by : (k : ℕ) → k ≤ e.phases → (tokens_of (rates_of e) (firing k)).0 ≤ MOST_TOKENS.0
  tokens_by k l = le_trans (tokens_most e h k l) (mul-le-mul_right MOST_RATE.0 (le_trans l h.phases))

  pub rate_by : (k : ℕ) → k < e.phases → get_or e.rates k 0 ≤ MOST_RATE.0
  rate_by k l = h.rates k (omega (arith, h.phases))

  -- one phase more: its tokens fit, and are those of so many phases
  pub tokens_fit : (k : ℕ) {made m : Token} → k < e.phases → made ≡ tokens_of (rates_of e) (firing k) → m ≡ token (get_or e.rates k 0) → (plus_tokens made m).0 < 2 ^ 64
  tokens_fit k l em er = omega (arith, tokens_by k (le_of_lt l), ap (λ (x : Token). x.0) em, rate_by k l, ap (λ (x : Token). x.0) er)

  pub tokens_next : (k : ℕ) {made m r : Token} → k < e.phases → made ≡ tokens_of (rates_of e) (firing k) → m ≡ token (get_or e.rates k 0) → r ≡ plus_tokens made m
      → r ≡ tokens_of (rates_of e) (firing (k + 1))
  tokens_next k l em er eq =
      eq ∙ ap₂ plus_tokens em (er ∙ (λ i. token (sym (rate_at e h k l) i))) ∙ (λ i. token (sym (sum_next (rate_of (rates_of e)) k) i))

  -- the same as a loop goes over the end's rates r, of which one more is a phase of the end
  module _ {r : List ℕ} (er : r ≡ rates_of e) (k : ℕ) (l : k < length r) where
    pub is_phase : k < e.phases
    is_phase = omega (arith, ap (λ (x : List ℕ). length x) er, rates_long e h)

    rate_is : get_or r k 0 ≡ get_or e.rates k 0
    rate_is = ap (λ (x : List ℕ). get_or x k 0) er ∙ get_or-take e.phases e.rates k 0 is_phase

    pub rate_here : rate_of (rates_of e) k ≡ get_or r k 0
    rate_here = rate_at e h k is_phase ∙ sym rate_is

    pub fit_here : {made m : Token} → made ≡ tokens_of (rates_of e) (firing k) → m ≡ token (get_or r k 0) → (plus_tokens made m).0 < 2 ^ 64
    fit_here em et = tokens_fit k is_phase em (et ∙ (λ i. token (rate_is i)))

    pub next_here : {made m n : Token} → made ≡ tokens_of (rates_of e) (firing k) → m ≡ token (get_or r k 0) → n ≡ plus_tokens made m → n ≡ tokens_of (rates_of e) (firing (k + 1))
    next_here em et = tokens_next k is_phase em (et ∙ (λ i. token (rate_is i)))

pub ends_by : (e : End) (s : ℕ) → Brief e → s < e.phases → (s + 1) * e.period.0 ≤ ITERATION_LIMIT.0
ends_by e s h l = omega (arith, h.cycle, mul-le-mul_right e.period.0 l)

-- phases are early
module _ (e : End) (s : ℕ) (h : Brief e) (l : s < e.phases) where
  pub give_early : (sp : Tick) → sp.0 ≤ MOST_START.0 → Early (ends_at sp e.period (firing s)) (plus_tokens (tokens_of (rates_of e) (firing s)) (token 1))
  give_early sp b = record { at = omega (arith, b, ends_by e s h l); tokens = omega (arith, tokens_by e h.proper s (le_of_lt l)) }

  pub take_early : Early (begins_at (tick 0) e.period (firing s)) (tokens_of (rates_of e) (firing (s + 1)))
  take_early = record { at = omega (arith, ends_by e s h l); tokens = omega (arith, tokens_by e h.proper (s + 1) (omega arith)) }

-- the marks of the producer's phases are near
pub gives_ready : (p : End) (sp : Tick) (w : Pace) → Brief p → sp.0 ≤ MOST_START.0 → Short w → All Near (listed p.phases (give_at 0 w p sp))
gives_ready p sp w h b q = listed_all _ Near p.phases (λ s r. give_near w _ _ q (give_early p s h r sp b))

pub pace_short : (p c : End) → Paced p c → Short (pace_of p c 1)
pace_short p c w =
    record {
      some = common_pos p c w;
      step = le_trans (div-le_self (cycle_ticks p).0 ((cycle_tokens p).0 / (step_of p c).tokens.0)) (cycle_p p c w);
      tokens = omega (arith, cycle_most p w.producer);
      ticks = omega (arith, cycle_p p c w);
    }

-- the start from the marks
pub start_from : (p : End) (sp : Tick) (c : End) (w : Pace) {l : List Mark} → w ≡ pace_of p c 1
    → l ≡ listed p.phases (give_at 0 w p sp) → latest_of l w c ≡ start_of 0 p sp c
unfolding start_of
start_from p sp c w e g = rw (g, e)

module _ (w : Pace) (t : Tick) (n : Token) (h : Long w) (e : Early t n) where
  pub claiming_few : Few (claiming_of w t n)
  claiming_few =
      record {
        more = omega (arith, e.tokens);
        less = omega (arith, mul-le-mul (le_trans (div-le_self t.0 w.step.ticks.0) e.at) h.common);
      }

  pub back_few : Few (back_of w t n)
  back_few =
      let less : (t.0 + w.ticks.0) / w.step.ticks.0 ≤ MOST_START.0 + ITERATION_LIMIT.0 + 1 + MOST_SPAN.0 =
      le_trans (div-le_self (t.0 + w.ticks.0) w.step.ticks.0) (omega (arith, e.at, h.ticks)) in
      record { more = omega (arith, mul-le-mul less h.common); less = omega (arith, e.tokens, h.tokens) }

module _ (e : End) (s : ℕ) (h : Brief e) (l : s < e.phases) (start : Tick) (b : start.0 ≤ MOST_START.0) where
  pub claiming_early : Early (plus_ticks (begins_at start e.period (firing s)) (tick 1)) (tokens_of (rates_of e) (firing (s + 1)))
  claiming_early = record { at = omega (arith, b, ends_by e s h l); tokens = omega (arith, tokens_by e h.proper (s + 1) (omega arith)) }

  pub back_early : Early (ends_at start e.period (firing s)) (tokens_of (rates_of e) (firing s))
  back_early = record { at = omega (arith, b, ends_by e s h l); tokens = omega (arith, tokens_by e h.proper s (le_of_lt l)) }

-- the holds of the producer's phases are few
pub claims_ready : (p : End) (sp : Tick) (w : Pace) → Brief p → sp.0 ≤ MOST_START.0 → Long w → All Few (listed p.phases (claiming_at w p sp))
claims_ready p sp w h b q = listed_all _ Few p.phases (λ s r. claiming_few w _ _ q (claiming_early p s h r sp b))

module _ (p : End) (sp : Tick) (c : End) (w : Paced p c) (b : sp.0 ≤ MOST_START.0) where
  pub cycles_add : Adds p (cycles_of p sp)
  cycles_add =
      record {
        few = omega (arith, b, div-le_self sp.0 (cycle_ticks p).0);
        span = omega (arith, b, div-mul-le_self sp.0 (cycle_ticks p).0, cycle_p p c w);
      }

  pub pace_long : Long (pace_of p c (cycles_of p sp))
  pace_long =
      record {
        some = (in_step p c w 1).some_G;
        common = le_trans (le_of_dvd w.producer.moves (gcd_of_law (cycle_tokens p).0 (cycle_tokens c).0).left) (cycle_most p w.producer);
        tokens = mul-le-mul cycles_add.few (cycle_most p w.producer);
        ticks = cycles_add.span;
      }

-- the size from the holds
present_none : (h : Hold) → present 0 h ≡ h
present_none h = λ i. record { more = token (add-zero h.more.0 i); less = h.less; rest = h.rest }

pub size_from : (p : End) (sp : Tick) (c : End) (sc : Tick) (w : Pace) {l : List Hold} → w ≡ pace_of p c (cycles_of p sp)
    → l ≡ listed p.phases (claiming_at w p sp) → greatest_of l w c sc ≡ size_of 0 p sp c sc
unfolding size_of
size_from p sp c sc w e g =
    rw (g, e) (let v : Pace = pace_of p c (cycles_of p sp) in
    (λ i. greatest_of (listed p.phases (λ s. sym (present_none (claiming_at v p sp s)) i)) v c sc) ∙ (λ i. token (sym (zero-max (greatest_of (listed p.phases (λ s. present 0 (claiming_at v p sp s))) v c sc).0) i)))

-- sizes are no greater
module _ (p : End) (sp : Tick) (c : End) (sc : Tick) (w : Paced p c) (b : sp.0 ≤ MOST_START.0) (b' : sc.0 ≤ MOST_START.0) where
  pub size_few : (size_of 0 p sp c sc).0 ≤ MOST_SIZE.0
  size_few = rw (size_is p c w 0 sp sc) (max-le zero-le (most_within _ _ c.phases (λ f hf. most_within _ _ p.phases (λ s hs. le_trans (sub-le _ _) (few f s hf hs)))))
    where
      pace : Pace
      pace = pace_of p c (cycles_of p sp)

      few : (f s : ℕ) → f < c.phases → s < p.phases → (claiming_at pace p sp s).more.0 + 0 + (back_at pace c sc f).more.0 ≤ MOST_SIZE.0
      few f s hf hs =
          omega (
            arith,
            (claiming_early p s (brief_p p c w) hs sp b).tokens,
            (back_few pace _ _ (pace_long p sp c w b) (back_early c f (brief_c p c w) hf sc b')).more,
          )
