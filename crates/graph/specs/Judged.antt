-- What is judged of a mode: the first of the refusals 6 to 9 that applies, or its firings, periods and iteration.
use Rattle.std.specs.Prelude.{◌≡◌, cond, List, Result, Ok, Err, ℕ, ◌≤◌}
use Rattle.numbers.specs.Bits.{hasb}
use Rattle.numbers.specs.Extreme.{Least}
use Rattle.numbers.specs.Tab.{tab}
use Rattle.units.specs.declared.Tick.{Tick}
use Rattle.units.specs.Ticks.{tick}
use Rattle.units.specs.Limits.{ACTORS, ITERATION_LIMIT}
use Rattle.units.specs.Firings.{firing}
use Rattle.period.specs.Period.{period_of}
use Rattle.tables.specs.Shape.{Mode}
use Rattle.graph.specs.declared.Fault.{Fault}
use Rattle.graph.specs.declared.Fault.TheVariants.{Cyclic as IsCyclic, Ends as HasNoEnds, Unbalanced as IsUnbalanced, Overloaded as IsOverloaded}
use Rattle.graph.specs.declared.Judgement.{Judgement}
use Rattle.graph.specs.Order.{Cyclic, Ranked}
use Rattle.graph.specs.Ends.{Ends, NoEnds}
use Rattle.graph.specs.Balance.{Smallest, Iteration, Unbalanced, firings_of}
use Rattle.graph.specs.Load.{Overloaded}

-- for each place what f gives to an active actor, and z where there is none
abbrev pub of_actors : {A : Type 0} → Mode → (ℕ → A) → A → List A
of_actors m f z = tab ACTORS (λ i. cond (hasb m.active i) (f i) z)

-- the numbers of a mode that is not refused; 0 for an actor that is not active
pub record Numbers (m : Mode) (x : ℕ → ℕ) (j : Judgement) : Type 0 where
  pub ends : Ends m j.source j.sink
  pub smallest : Smallest m x
  pub iteration : Iteration m x j.iteration
  pub within : j.iteration.0 ≤ ITERATION_LIMIT.0
  pub ranked : Ranked m j.depths
  pub firings : j.firings ≡ of_actors m (firings_of m x) (firing 0)
  pub periods : j.periods ≡ of_actors m (λ i. period_of j.iteration (firings_of m x i)) (tick 0)

-- the judgement: refusals 6 to 9 in order, each only where no earlier one applies
pub data Judged (m : Mode) : Result Judgement Fault → Type 0 where
  cyclic : Cyclic m → Judged m (Err IsCyclic)
  no_ends : (Cyclic m → ⊥) → NoEnds m → Judged m (Err HasNoEnds)
  unbalanced : {s t : ℕ} → (Cyclic m → ⊥) → Ends m s t → Unbalanced m → Judged m (Err IsUnbalanced)
  overloaded : {s t p : ℕ} {h : Tick} (x : ℕ → ℕ) → (Cyclic m → ⊥) → Ends m s t → Smallest m x → Iteration m x h → h.0 ≤ ITERATION_LIMIT.0
      → Least (Overloaded m x h) p → Judged m (Err (IsOverloaded p))
  sound : {j : Judgement} (x : ℕ → ℕ) → (Cyclic m → ⊥) → Numbers m x j → ((p : ℕ) → Overloaded m x j.iteration p → ⊥) → Judged m (Ok j)
