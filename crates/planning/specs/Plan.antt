-- The plan of a table: what is planned of each mode and of each change, or the refusal of the lowest mode that is refused.
use Rattle.std.specs.Prelude.{◌≡◌, List, ℕ, ◌+◌, ◌*◌, ◌≤◌, ◌<◌, length, get_or, Result, Ok, Err}
use Rattle.numbers.specs.Extreme.{Least}
use Rattle.units.specs.declared.Tick.{Tick}
use Rattle.units.specs.Ticks.{tick}
use Rattle.units.specs.Firings.{firing}
use Rattle.units.specs.Tokens.{token}
use Rattle.units.specs.Limits.{MODES, ITERATION_LIMIT}
use Rattle.period.specs.Period.{period_of}
use Rattle.terms.specs.Refusal.{refusal_at}
use Rattle.terms.specs.declared.refusal.Reason.TheVariants.{Cycle, NoEnds as BadEnds, NoBalance, Overload, Late as TooLate}
use Rattle.terms.specs.declared.refusal.Place.TheVariants.{Mode as AtMode, Actor as AtActor, Processor as AtProcessor}
use Rattle.terms.specs.declared.refusal.Refusal.{Refusal}
use Rattle.terms.specs.Place.{number_of}
use Rattle.tables.specs.Shape.{Mode, Table, mode_at, Active}
use Rattle.graph.specs.Order.{Cyclic}
use Rattle.graph.specs.Ends.{Ends, NoEnds}
use Rattle.graph.specs.Balance.{Smallest, Iteration, Unbalanced, firings_of}
use Rattle.graph.specs.Load.{Overloaded}
use Rattle.graph.specs.Judged.{of_actors}
use Rattle.schedule.specs.Starts.{Starts, startup_of, Late}
use Rattle.schedule.specs.Scheduled.{Sizes, of_channels, tokens_on}
use Rattle.change.specs.declared.Timing.{Timing}
use Rattle.change.specs.Change.{ModeTimes, Changes}
use Rattle.planning.specs.declared.ModePlan.{ModePlan}
use Rattle.planning.specs.Shape.{Plan}
use Rattle.planning.specs.Nothing.{no_part, empty_part, no_timing}

-- what is planned of mode k
abbrev pub part_at : Plan → ℕ → ModePlan
part_at w k = get_or w.parts k no_part

-- and of the change from mode k to mode l
abbrev pub change_at : Plan → ℕ → ℕ → Timing
change_at w k l = get_or w.changes (MODES * k + l) no_timing

-- a mode is in the plan when it has an actor
abbrev pub Listed : Table → ℕ → Type 0
Listed t k = (k < MODES) × ((i : ℕ) × Active (mode_at t k) i)

-- the periods of a mode's actors, by their cycle counts and the iteration; 0 for an actor that is not active
abbrev pub periods_of : Mode → (ℕ → ℕ) → Tick → List Tick
periods_of m x h = of_actors m (λ i. period_of h (firings_of m x i)) (tick 0)

-- None of 6 to 8 applies to a mode: s is its source, t its sink, x are its smallest cycle counts and h is its iteration, within the limit.
pub record Balanced (m : Mode) (s t : ℕ) (x : ℕ → ℕ) (h : Tick) : Type 0 where
  pub acyclic : Cyclic m → ⊥
  pub ends : Ends m s t
  pub smallest : Smallest m x
  pub iteration : Iteration m x h
  pub within : h.0 ≤ ITERATION_LIMIT.0

-- The mode with number n is refused: by the first of 6 to 10 that applies, with the place that it names. 9 names the lowest processor above the load limit, and 10,
-- with b the least starts of the mode's actors, the lowest actor that starts later than the sink.
pub data ModeRefused (m : Mode) (n : ℕ) : Refusal → Type 0 where
  by_6 : Cyclic m → ModeRefused m n (refusal_at Cycle (AtMode n))
  by_7 : (Cyclic m → ⊥) → NoEnds m → ModeRefused m n (refusal_at BadEnds (AtMode n))
  by_8 : {s t : ℕ} → (Cyclic m → ⊥) → Ends m s t → Unbalanced m → ModeRefused m n (refusal_at NoBalance (AtMode n))
  by_9 : {s t p : ℕ} {x : ℕ → ℕ} {h : Tick} → Balanced m s t x h → Least (Overloaded m x h) p
      → ModeRefused m n (refusal_at Overload (AtProcessor n (number_of p)))
  by_10 : {s t a : ℕ} {x : ℕ → ℕ} {h : Tick} {b : ℕ → Tick} → Balanced m s t x h → ((p : ℕ) → Overloaded m x h p → ⊥) → Starts m (periods_of m x h) b
      → Least (Late m b t) a → ModeRefused m n (refusal_at TooLate (AtActor n (number_of a)))

-- No refusal applies to a mode, and p is what is planned of it. Of an actor that is not active, and of a channel that is not there, all is 0.
pub record ModePlanned (m : Mode) (p : ModePlan) : Type 0 where
  pub counts : ℕ → ℕ
  pub balanced : Balanced m p.source p.sink counts p.iteration
  pub bearable : (q : ℕ) → Overloaded m counts p.iteration q → ⊥
  pub firings : p.firings ≡ of_actors m (firings_of m counts) (firing 0)
  pub periods : p.periods ≡ periods_of m counts p.iteration
  pub begin : ℕ → Tick
  pub least : Starts m p.periods begin
  pub prompt : (i : ℕ) → Late m begin p.sink i → ⊥
  pub starts : p.starts ≡ of_actors m begin (tick 0)
  pub startup : p.startup ≡ startup_of begin p.sink
  pub sizes : Sizes m p.periods begin p.sizes
  pub tokens : p.tokens ≡ of_channels m (tokens_on m p.firings) (token 0)

-- what is planned of mode k of a table: nothing where it is not listed
pub record IsPart (t : Table) (k : ℕ) (p : ModePlan) : Type 0 where
  pub listed : Listed t k → ModePlanned (mode_at t k) p
  pub unlisted : (Listed t k → ⊥) → p ≡ empty_part

-- a mode and what is planned of it, as a change sees them
abbrev pub times_of : Mode → ModePlan → ModeTimes
times_of m p = record { mode = m; iteration = p.iteration; periods = p.periods; starts = p.starts; sink_start = get_or p.starts p.sink (tick 0); startup = p.startup }

-- a change leads from a listed mode to another
abbrev pub Leads : Table → ℕ → ℕ → Type 0
Leads t k l = Listed t k × Listed t l × (k ≡ l → ⊥)

-- c is the change from mode k to mode l: all 0 where there is none
pub record IsChange (t : Table) (w : Plan) (k l : ℕ) (c : Timing) : Type 0 where
  pub leads : Leads t k l → Changes (times_of (mode_at t k) (part_at w k)) (times_of (mode_at t l) (part_at w l)) c
  pub leads_not : (Leads t k l → ⊥) → c ≡ no_timing

-- w is the plan of a table of which no mode is refused
pub record Planned (t : Table) (w : Plan) : Type 0 where
  pub parts_long : length w.parts ≡ MODES
  pub part : (k : ℕ) → k < MODES → IsPart t k (part_at w k)
  pub changes_long : length w.changes ≡ MODES * MODES
  pub change : (k l : ℕ) → k < MODES → l < MODES → IsChange t w k l (change_at w k l)

-- The lowest mode that is refused, of those that are listed, refuses the table, and there is no plan; or there is one.
pub data Planning (t : Table) : Result Plan Refusal → Type 0 where
  refused : {k : ℕ} {r : Refusal} → Listed t k → ((l : ℕ) → l < k → Listed t l → (p : ModePlan) × ModePlanned (mode_at t l) p)
      → ModeRefused (mode_at t k) (number_of k) r → Planning t (Err r)
  planned : {w : Plan} → Planned t w → Planning t (Ok w)
