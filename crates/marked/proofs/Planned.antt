-- The printed table's plan has the plain numbers, and its run the worked ones. Assumes nothing.
use mathlib.Core.Path.{refl}
use mathlib.Core.List.{List, ◌++◌}
use Prim.Native.Nat.{ℕ}
use Rattle.numbers.specs.Bits.{bit}
use Rattle.numbers.specs.Extreme.{most_of}
use Rattle.numbers.specs.Fraction.{sum_of}
use Rattle.numbers.specs.Padded.{padded}
use Rattle.numbers.specs.Sum.{sum}
use Rattle.numbers.specs.Tab.{tab}
use Rattle.numbers.specs.Lowest.{lowest_or}
use Rattle.numbers.specs.Reckoned.{gcd_from}
use Rattle.rfc4180.specs.Writing.{joined}
use Rattle.reader.specs.Rows.{channels}
use Rattle.reader.specs.Told.{table_of}
use Rattle.reader.proofs.Computed.{rows_in, readsb}
use Rattle.graph.specs.Rounds.{preds_from, round_from, order_from, chosen, givers_from}
use Rattle.graph.specs.Counts.{entries_from, stays, fed_of, counts_from, balancesb}
use Rattle.graph.specs.Lengths.{most_from, common_from, share_from}
use Rattle.graph.specs.Judge.{timed_of, balanced_of, judge_of}
use Rattle.channel.specs.Phases.{start_of, size_of}
use Rattle.schedule.specs.Model.{depth_from, starts_from, schedule_of}
use Rattle.run.specs.Machine.{refusal, answer, run}
use Rattle.run.specs.Firing.{tally, begun, done, total, asks, asked}
use Rattle.tables.specs.Shape.{Table}
use Rattle.planning.specs.Shape.{Plan}
use Rattle.planning.specs.Plan.{Planned}
use Rattle.planner.specs.Plans.{Reads}
use Rattle.machine.specs.Plan.{plan_of}
use Rattle.marked.specs.Lines.{one, two, text_of}
use Rattle.marked.specs.Planned.{PrintedPlan, PrintedRun}
use Rattle.planning.proofs.Reckoned.{answer_of}
use Rattle.marked.proofs.Reckoned.{plan_for}
use Rattle.marked.proofs.Claims.{table_in, Passes, reads, planned, any_plan}

abbrev text : List ℕ
text = text_of (one ++ two)

-- what is to be said of the table and its plan
abbrev Agrees : Table → Plan → Type 0
Agrees t w = PrintedPlan (plan_of t w) × PrintedRun (plan_of t w)

reckoned : Passes text × Agrees (table_in text) (plan_for (table_in text))
unfolding joined bit sum sum_of tab lowest_or gcd_from most_of rows_in readsb channels table_of padded preds_from round_from order_from chosen givers_from entries_from stays fed_of counts_from balancesb most_from common_from share_from timed_of balanced_of judge_of start_of size_of depth_from starts_from schedule_of answer_of refusal run answer total tally begun done asks asked
reckoned = (
  (tt, refl),
  (
    record {
      listed = refl;
      active = (refl, refl);
      processors = (refl, refl);
      wcets = (refl, refl);
      firings = (refl, refl);
      periods = (refl, refl);
      starts = (refl, refl);
      iterations = (refl, refl);
      startups = (refl, refl);
      sinks = (refl, refl);
      channels = (refl, refl);
      from = (refl, refl);
      to = (refl, refl);
      production = (refl, refl);
      consumption = (refl, refl);
      sizes = (refl, refl);
      offsets = (refl, refl);
      worsts = (refl, refl);
    },
    record { three_visits = refl; load = refl; claimed_at_32 = (refl, refl); claimed_at_44 = (refl, refl) },
  ),
)

pub printed_plan : (t : Table) (w : Plan) → Reads text t → Planned t w → PrintedPlan (plan_of t w) × PrintedRun (plan_of t w)
printed_plan = let (passes, agrees) = reckoned in any_plan (reads text passes.0) (planned text passes) Agrees agrees
