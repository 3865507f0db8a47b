-- Model of the machine's code: what it reads of a mode, the course of a request, and the change of a machine.
use Rattle.std.specs.Prelude.{◌≡◌, Option, Some, None, Result, Ok, Err, cond, List, ℕ, ◌+◌, ◌-◌, ◌*◌, ◌/◌, ◌≤◌, ◌<◌, eqb, get_or}
use Rattle.units.specs.Bounds.{MOST_START}
use Rattle.units.specs.Limits.{ITERATION_LIMIT, CLOCK_LIMIT}
use Rattle.units.specs.declared.Tick.{Tick}
use Rattle.units.specs.Ticks.{tick, greater_tick}
use Rattle.terms.specs.Place.{place_of}
use Rattle.terms.specs.Refusal.{nowhere_for}
use Rattle.terms.specs.declared.refusal.Reason.{Reason}
use Rattle.tables.specs.Shape.{Table, mode_at}
use Rattle.planning.specs.declared.ModePlan.{ModePlan}
use Rattle.planning.specs.Shape.{Plan}
use Rattle.planning.specs.Plan.{part_at, change_at}
use Rattle.layout.specs.declared.load.Pace.{Pace}
use Rattle.planner.specs.Plans.{Leaves}
use Rattle.run.specs.Machine as Run
use Rattle.machine.specs.Plan.{is_listed, part_of, plan_of}
use Rattle.machine.specs.Answers.{seen, asking, Answers}
use Rattle.machine.specs.declared.Machine.{Machine}
use Rattle.machine.specs.declared.Course.{Course}
use Rattle.machine.specs.declared.Answer.{Answer}

-- of every table and plan that leave the words
abbrev pub Tells : List ℕ → (Table → Plan → Type 0) → Type 0
Tells words P = (t : Table) (w : Plan) → Leaves t w words → P t w

-- the pace of a mode of which this is planned
abbrev pub pace_by : ModePlan → Pace
pace_by p = record { iteration = p.iteration; sink_start = get_or p.starts p.sink (tick 0) }

-- the pace of the mode at place k; none where no mode is listed there
abbrev pub pace_at : Table → Plan → ℕ → Option Pace
pace_at t w k = cond (eqb (mode_at t k).active 0) None (Some (pace_by (part_at w k)))

-- the pace of mode m; none where it is not in the plan
abbrev pub pace_of : Table → Plan → ℕ → Option Pace
pace_of t w m = cond (is_listed t m) (Some (pace_by (part_of w m))) None

-- the course of the change from mode o to mode l
abbrev pub course_of : Plan → ℕ → ℕ → Course
course_of w o l = record { old = pace_by (part_of w o); new = pace_by (part_of w l); offset = (change_at w (place_of o) (place_of l)).offset }

-- what a request leads to: the course of its change where it is accepted, and otherwise why it is refused
abbrev pub Leads : List ℕ → Machine → ℕ → Tick → Result Course Reason → Type 0
Leads words m mode clock (Ok c) =
    (t : Table) × (w : Plan) × Leaves t w words × (Run.refusal (plan_of t w) (seen m) (asking mode clock) ≡ None) × (c ≡ course_of w m.mode mode)
Leads words m mode clock (Err r) = Answers words m mode clock (Err (nowhere_for r)) m

-- ticks so small that every sum fits
pub record Near (m : Machine) (c : Course) (t : Tick) : Type 0 where
  pub some : 0 < c.old.iteration.0
  pub iteration : c.old.iteration.0 ≤ ITERATION_LIMIT.0
  pub old : c.old.sink_start.0 ≤ MOST_START.0
  pub new : c.new.sink_start.0 ≤ MOST_START.0
  pub offset : c.offset.0 ≤ MOST_START.0
  pub clock : t.0 ≤ CLOCK_LIMIT.0
  pub started : m.started.0 ≤ t.0

-- the tick at which the old mode is left
abbrev pub left_of : Machine → Course → Tick → Tick
left_of m c clock = tick (m.started.0 + (clock.0 - m.started.0 + c.old.iteration.0 - 1) / c.old.iteration.0 * c.old.iteration.0)

-- the delay of a change, and the machine after it
abbrev pub delay_by : Machine → Course → Tick → Tick
delay_by m c clock = tick ((left_of m c clock).0 + c.offset.0 + c.new.sink_start.0 - clock.0)

abbrev pub changed_by : Machine → Course → ℕ → Tick → Machine
changed_by m c mode clock =
    record {
      mode = mode;
      started = tick ((left_of m c clock).0 + c.offset.0);
      ended = greater_tick (tick ((left_of m c clock).0 + c.old.sink_start.0)) (tick ((left_of m c clock).0 + c.offset.0 + c.new.sink_start.0));
    }

-- the answer of a change
abbrev pub answer_by : Machine → Course → ℕ → Tick → Answer
answer_by m c mode clock = record { reply = Ok (delay_by m c clock); machine = changed_by m c mode clock }
