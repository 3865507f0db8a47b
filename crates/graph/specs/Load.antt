-- The load of a processor: the sum of wcet / T over its actors, as exact fractions.
use Rattle.std.specs.Prelude.{Bool, cond, ◌&&◌, ℕ, ◌<◌, eqb}
use Rattle.numbers.specs.Bits.{hasb}
use Rattle.numbers.specs.Fraction.{sum_of, AtMost, nothing}
use Rattle.numbers.specs.declared.fraction.Fraction.{Fraction}
use Rattle.units.specs.declared.Tick.{Tick}
use Rattle.units.specs.Limits.{ACTORS, PROCESSORS, limit_of}
use Rattle.period.specs.Period.{period_of, share_of}
use Rattle.terms.specs.Place.{number_of}
use Rattle.tables.specs.Shape.{Mode, actor_at}
use Rattle.graph.specs.Balance.{firings_of}

-- actor i is active on processor p
abbrev pub is_on : Mode → ℕ → ℕ → Bool
is_on m p i = hasb m.active i && eqb (actor_at m i).processor p

-- what an actor asks of its processor: wcet / T, by the periods of the mode's actors
abbrev pub asked_by : Mode → (ℕ → Tick) → ℕ → Fraction
asked_by m periods i = share_of (actor_at m i).wcet (periods i)

-- what those actors of a mode that count ask together
abbrev pub asked_of : Mode → (ℕ → Tick) → (ℕ → Bool) → Fraction
asked_of m periods counts = sum_of (λ i. cond (counts i) (asked_by m periods i) nothing) ACTORS

-- the load of processor p: what the actors on it ask together
abbrev pub load_of : Mode → (ℕ → ℕ) → Tick → ℕ → Fraction
load_of m x h p = asked_of m (λ i. period_of h (firings_of m x i)) (is_on m p)

-- Refusal 9: the load of the processor at place p is above its limit.
pub record Overloaded (m : Mode) (x : ℕ → ℕ) (h : Tick) (p : ℕ) : Type 0 where
  pub processor : p < PROCESSORS
  pub above : AtMost (load_of m x h (number_of p)) (limit_of (number_of p)) → ⊥
