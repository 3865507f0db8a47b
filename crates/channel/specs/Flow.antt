-- The rules of one channel: no firing takes a token not yet there, and the size is the greatest number of places claimed at any time, for ever.
use Rattle.std.specs.Prelude.{◌≡◌, List, ℕ, ◌+◌, ◌≤◌, ◌<◌, length, get_or, take}
use Rattle.numbers.specs.Extreme.{Greatest}
use Rattle.units.specs.declared.Tick.{Tick}
use Rattle.units.specs.declared.Firing.{Firing}
use Rattle.units.specs.declared.Token.{Token}
use Rattle.units.specs.Ticks.{times_ticks}
use Rattle.units.specs.Tokens.{token, times_tokens}
use Rattle.units.specs.Limits.{PHASES, MOST_RATE, ITERATION_LIMIT}
use Rattle.units.specs.Firings.{firing}
use Rattle.period.specs.Period.{next, begins_at, HaveBegun, HaveEnded}
use Rattle.rate.specs.Rate.{rate_of, tokens_of}
use Rattle.channel.specs.declared.End.{End}

-- the rates of an end, one for each phase
abbrev pub rates_of : End → List ℕ
rates_of e = take e.phases e.rates

-- the tokens and the ticks of a cycle of an end: all its phases once
abbrev pub cycle_tokens : End → Token
cycle_tokens e = tokens_of (rates_of e) (firing e.phases)

abbrev pub cycle_ticks : End → Tick
cycle_ticks e = times_ticks e.phases e.period

-- v tokens are made by tick t: v is what those firings of the producer p, which starts at sp, make that have ended by t
abbrev pub Made : End → Tick → Tick → Token → Type 0
Made p sp t v = (e : Firing) × HaveEnded sp p.period t e × (tokens_of (rates_of p) e ≡ v)

-- No firing of the consumer c, which starts at sc, ever takes a token not yet there: what its firings up to firing n take is at most what is made by the
-- tick at which firing n begins. A firing that takes nothing waits for nothing.
abbrev pub Fed : End → Tick → End → Tick → Type 0
Fed p sp c sc =
    (n : ℕ) → 0 < rate_of (rates_of c) n → (made : Token) → Made p sp (begins_at sc c.period (firing n)) made
    → (tokens_of (rates_of c) (next (firing n))).0 ≤ made.0

-- v places are claimed at tick t: room for output is claimed at the producer's beginning, room for input is given back at the end of the consumer's
-- period, and at one tick giving back comes first
abbrev pub Claimed : End → Tick → End → Tick → Tick → Token → Type 0
Claimed p sp c sc t v =
    (b : Firing) × (e : Firing) × HaveBegun sp p.period t b × HaveEnded sc c.period t e
    × ((tokens_of (rates_of p) b).0 ≡ (tokens_of (rates_of c) e).0 + v.0)

-- the size: the greatest number of places claimed at any tick
abbrev pub IsSize : End → Tick → End → Tick → Token → Type 0
IsSize p sp c sc r = Greatest (λ v. (t : Tick) × Claimed p sp c sc t (token v)) r.0

-- an end within the limits of a table, whose rates are not all 0
pub record Proper (e : End) : Type 0 where
  pub some : 0 < e.phases
  pub phases : e.phases ≤ PHASES
  pub long : length e.rates ≡ PHASES
  pub rates : (k : ℕ) → k < PHASES → get_or e.rates k 0 ≤ MOST_RATE.0
  pub moves : 0 < (cycle_tokens e).0

-- two such ends that are balanced: in one iteration so many cycles of the producer make what so many of the consumer take, in the same ticks
pub record Paced (p c : End) : Type 0 where
  pub producer : Proper p
  pub consumer : Proper c
  pub makers : ℕ
  pub takers : ℕ
  pub iteration : Tick
  pub even : times_tokens makers (cycle_tokens p) ≡ times_tokens takers (cycle_tokens c)
  pub made_in : iteration ≡ times_ticks makers (cycle_ticks p)
  pub taken_in : iteration ≡ times_ticks takers (cycle_ticks c)
  pub some_ticks : 0 < iteration.0
  pub within : iteration.0 ≤ ITERATION_LIMIT.0
