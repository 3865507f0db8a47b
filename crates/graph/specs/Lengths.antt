-- Model of iteration.rt and load.rt: firings, works, the iteration's length, periods and shares.
use Rattle.std.specs.Prelude.{◌≡◌, Bool, cond, not, List, Option, Some, option_and_then, ℕ, zero, suc, ◌≤◌, ◌<◌, eqb, length, get_or, position}
use Rattle.numbers.specs.Bits.{Has, hasb}
use Rattle.numbers.specs.Tab.{tab}
use Rattle.numbers.specs.Fraction.{at_mostb}
use Rattle.units.specs.declared.Tick.{Tick}
use Rattle.units.specs.declared.Firing.{Firing}
use Rattle.units.specs.Ticks.{tick, greater_tick, plus_ticks}
use Rattle.units.specs.Bounds.{MOST_FIRINGS}
use Rattle.units.specs.Products.{MOST_COUNTED, MOST_WORK}
use Rattle.units.specs.Limits.{ACTORS, PHASES, MOST_WCET, PROCESSORS, ITERATION_LIMIT, LOAD_LIMIT}
use Rattle.units.specs.Firings.{firing}
use Rattle.period.specs.Period.{work_of, period_of, share_of}
use Rattle.period.specs.Reckoned.{common_of, iteration_of}
use Rattle.rate.specs.Rate.{cycles_of}
use Rattle.terms.specs.Place.{number_of}
use Rattle.tables.specs.declared.Actor.{Actor}
use Rattle.tables.specs.Shape.{no_actor}

-- actors within their ranges
pub record Fitting (acts : List Actor) : Type 0 where
  pub long : length acts ≡ ACTORS
  pub phases : (i : ℕ) → (get_or acts i no_actor).phases ≤ PHASES
  pub wcet : (i : ℕ) → (get_or acts i no_actor).wcet.0 ≤ MOST_WCET.0
  pub processor : (i : ℕ) → (get_or acts i no_actor).processor ≤ PROCESSORS

-- firings of cycle counts within the limit
pub record Few (qs : List Firing) : Type 0 where
  pub long : length qs ≡ ACTORS
  pub few : (i : ℕ) → (get_or qs i (firing 0)).0 ≤ MOST_COUNTED.0

-- and works of such firings
pub record Light (ws : List Tick) : Type 0 where
  pub long : length ws ≡ ACTORS
  pub light : (i : ℕ) → (get_or ws i (tick 0)).0 ≤ MOST_WORK.0

-- every active actor fires
pub record Fires (qs : List Firing) (active : ℕ) : Type 0 where
  pub long : length qs ≡ ACTORS
  pub fires : (i : ℕ) → i < ACTORS → Has active i → 0 < (get_or qs i (firing 0)).0

-- the firings of each actor, by its cycle count
abbrev pub firings_in : List Actor → List ℕ → List Firing
firings_in acts x = tab ACTORS (λ i. cycles_of (get_or acts i no_actor).phases (get_or x i 0))

-- the work of each actor, by its firings
abbrev pub works_in : List Actor → List Firing → List Tick
works_in acts qs = tab ACTORS (λ i. work_of (get_or acts i no_actor).wcet (get_or qs i (firing 0)))

-- the greatest of the first n
unfoldable pub most_from : List Tick → ℕ → Tick
most_from ws zero = tick 0
most_from ws (suc n) = greater_tick (most_from ws n) (get_or ws n (tick 0))

-- the least common multiple of the firings of the active actors below n; none once it is above the limit
unfoldable pub common_from : List Firing → ℕ → ℕ → Option Firing
common_from qs active zero = Some (firing 1)
common_from qs active (suc n) =
    cond (hasb active n) (option_and_then (λ l. common_of l (get_or qs n (firing 0)) MOST_FIRINGS) (common_from qs active n)) (common_from qs active n)

-- the iteration's length; none where it is above the limit
abbrev pub length_of : List Tick → List Firing → ℕ → Option Tick
length_of ws qs active = option_and_then (λ l. iteration_of l (most_from ws ACTORS) ITERATION_LIMIT) (common_from qs active ACTORS)

-- the period of each active actor; 0 for one that is not active
abbrev pub periods_in : Tick → List Firing → ℕ → List Tick
periods_in h qs active = tab ACTORS (λ i. cond (hasb active i) (period_of h (get_or qs i (firing 0))) (tick 0))

-- the works of the actors below n on processor p
unfoldable pub share_from : List Actor → List Tick → ℕ → ℕ → Tick
share_from acts ws p zero = tick 0
share_from acts ws p (suc n) = cond (eqb (get_or acts n no_actor).processor p) (plus_ticks (share_from acts ws p n) (get_or ws n (tick 0))) (share_from acts ws p n)

-- the works of all actors on each processor
abbrev pub shares_in : List Actor → List Tick → List Tick
shares_in acts ws = tab PROCESSORS (λ p. share_from acts ws (number_of p) ACTORS)

-- so many ticks of an iteration are more than the limit of a load
abbrev pub overb : Tick → Tick → Bool
overb h w = not (at_mostb (share_of w h) LOAD_LIMIT)

-- the place of the lowest processor that works more than the limit
abbrev pub overloaded_of : List Tick → Tick → Option ℕ
overloaded_of shares h = position (overb h) shares
