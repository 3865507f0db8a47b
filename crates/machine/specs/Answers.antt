-- What a machine answers, for every buffer, every machine, every mode number and every clock.
use Rattle.std.specs.Prelude.{◌≡◌, Some, None, Result, Ok, Err, List, [], ◌∷◌, ℕ, T}
use Rattle.numbers.specs.Extreme.{Least}
use Rattle.units.specs.declared.Tick.{Tick}
use Rattle.units.specs.Ticks.{tick}
use Rattle.terms.specs.Refusal.{nowhere_for}
use Rattle.terms.specs.declared.refusal.Reason.{Reason}
use Rattle.terms.specs.declared.refusal.Reason.TheVariants.{NoMode, NoPlan}
use Rattle.terms.specs.declared.refusal.Refusal.{Refusal}
use Rattle.tables.specs.Shape.{Table}
use Rattle.planning.specs.Shape.{Plan}
use Rattle.run.specs.Plan.{RunPlan}
use Rattle.run.specs.Machine as Run
use Rattle.machine.specs.Plan.{is_listed, plan_of}
use Rattle.planner.specs.Plans.{Stored, Leaves}
use Rattle.machine.specs.declared.Machine.{Machine}

-- a machine and a request as the run sees them, and back
abbrev pub seen : Machine → Run.Machine
seen m = record { mode = m.mode; started = m.started.0; ended = m.ended.0 }

abbrev pub asking : ℕ → Tick → Run.Request
asking mode clock = record { mode = mode; tick = clock.0 }

abbrev pub machine : Run.Machine → Machine
machine m = record { mode = m.mode; started = tick m.started; ended = tick m.ended }

-- the mode that is meant by a number: the lowest listed mode where it is 0, and otherwise the mode with that number
pub record Meant (t : Table) (mode k : ℕ) : Type 0 where
  pub lowest : mode ≡ 0 → Least (λ n. T (is_listed t n)) k
  pub named : (mode ≡ 0 → ⊥) → k ≡ mode

-- The answer to a start: 15 where no accepted table leaves the words, then 11 where the mode is not in the plan, and otherwise a machine at tick 0 whose
-- first change counts as ended at the end of the mode's start-up.
pub data Begins (words : List ℕ) (mode : ℕ) : Result Machine Refusal → Type 0 where
  not_stored : (Stored words → ⊥) → Begins words mode (Err (nowhere_for NoPlan))
  not_listed : {t : Table} {w : Plan} {k : ℕ} → Leaves t w words → Meant t mode k → (T (is_listed t k) → ⊥) → Begins words mode (Err (nowhere_for NoMode))
  begun : {t : Table} {w : Plan} {k : ℕ} → Leaves t w words → Meant t mode k → T (is_listed t k)
      → Begins words mode (Ok (machine (Run.begin (plan_of t w) k).now))

-- the delay of a request that a machine accepts, and the machine after the change
abbrev pub delay_of : RunPlan → Machine → ℕ → Tick → Tick
delay_of p m mode clock = tick (Run.delay p (seen m) (asking mode clock))

abbrev pub changed_of : RunPlan → Machine → ℕ → Tick → Machine
changed_of p m mode clock = machine (Run.changed p (seen m) (asking mode clock))

-- The answer to a request, and the machine after it: 15 where no accepted table leaves the words, then the first of 16 and 11 to 14 that applies, each with the
-- machine as it stood; and otherwise the delay, with the machine in the new mode, which starts at F + d.
pub data Answers (words : List ℕ) (m : Machine) (mode : ℕ) (clock : Tick) : Result Tick Refusal → Machine → Type 0 where
  not_stored : (Stored words → ⊥) → Answers words m mode clock (Err (nowhere_for NoPlan)) m
  refused : {t : Table} {w : Plan} {r : Reason} → Leaves t w words → Run.refusal (plan_of t w) (seen m) (asking mode clock) ≡ Some r
      → Answers words m mode clock (Err (nowhere_for r)) m
  accepted : {t : Table} {w : Plan} → Leaves t w words → Run.refusal (plan_of t w) (seen m) (asking mode clock) ≡ None
      → Answers words m mode clock (Ok (delay_of (plan_of t w) m mode clock)) (changed_of (plan_of t w) m mode clock)

-- Requests answered one after the other, by the machine that the answer before leaves: from machine m they lead to the last one.
pub data Follows (words : List ℕ) : Machine → List Run.Request → Machine → Type 0 where
  none : {m : Machine} → Follows words m [] m
  first : {m k n : Machine} {r : Run.Request} {rs : List Run.Request} {a : Result Tick Refusal} → Answers words m r.mode (tick r.tick) a k
      → Follows words k rs n → Follows words m (r ∷ rs) n
