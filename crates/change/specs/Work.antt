-- The work of a mode's actors in an iteration, summed over those of a processor that start no earlier or no later than one of them.
use Rattle.std.specs.Prelude.{Bool, cond, ◌&&◌, List, ℕ, eqb, leb, get_or}
use Rattle.numbers.specs.Sum.{sum}
use Rattle.units.specs.Limits.{ACTORS}
use Rattle.units.specs.Firings.{firing}
use Rattle.units.specs.Ticks.{tick}
use Rattle.units.specs.declared.Tick.{Tick}
use Rattle.units.specs.declared.Firing.{Firing}
use Rattle.period.specs.Period.{work_of}
use Rattle.tables.specs.declared.Actor.{Actor}
use Rattle.tables.specs.Shape.{no_actor}
use Rattle.change.specs.declared.Works.{Works}

-- an actor, its firings and its start
abbrev pub actor_of : List Actor → ℕ → Actor
actor_of actors i = get_or actors i no_actor

abbrev pub firings_at : List Firing → ℕ → Firing
firings_at firings i = get_or firings i (firing 0)

abbrev pub tick_at : List Tick → ℕ → Tick
tick_at ticks i = get_or ticks i (tick 0)

-- no work
abbrev pub no_works : Works
no_works = record { since = tick 0; until = tick 0 }

-- the work of actor k where it is on processor p and counts, and none otherwise
abbrev pub counted_of : List Actor → List Firing → ℕ → (ℕ → Bool) → ℕ → Tick
counted_of actors firings p counts k =
    cond (eqb (actor_of actors k).processor p && counts k) (work_of (actor_of actors k).wcet (firings_at firings k)) (tick 0)

-- the work on processor p of the actors that start no earlier than a tick, and of those that start no later
abbrev pub works_of : List Actor → List Firing → List Tick → ℕ → Tick → Works
works_of actors firings starts p start =
    record {
      since = tick (sum (λ k. (counted_of actors firings p (λ k. leb start.0 (tick_at starts k).0) k).0) ACTORS);
      until = tick (sum (λ k. (counted_of actors firings p (λ k. leb (tick_at starts k).0 start.0) k).0) ACTORS);
    }

-- the same of actor i's processor and its start
abbrev pub works_at : List Actor → List Firing → List Tick → ℕ → Works
works_at actors firings starts i = works_of actors firings starts (actor_of actors i).processor (tick_at starts i)
