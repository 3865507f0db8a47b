-- The plan of a table as the run sees it: modes by their numbers from 1, actors and channels by their places from 0, ticks, firings and tokens as plain numbers.
use Rattle.std.specs.Prelude.{ℕ, Bool, not, ◌&&◌, eqb, leb, get_or, take}
use Rattle.numbers.specs.Bits.{hasb}
use Rattle.units.specs.Limits.{MODES, ACTORS}
use Rattle.units.specs.Firings.{firing}
use Rattle.units.specs.Ticks.{tick}
use Rattle.units.specs.Tokens.{token}
use Rattle.rate.specs.Rate.{rate_of}
use Rattle.terms.specs.Place.{place_of}
use Rattle.tables.specs.Shape.{Mode, Table, actor_at, channel_at, mode_at}
use Rattle.planning.specs.declared.ModePlan.{ModePlan}
use Rattle.planning.specs.Shape.{Plan}
use Rattle.planning.specs.Plan.{part_at, change_at}
use Rattle.run.specs.Plan.{RunPlan}

-- mode m, and what is planned of it
abbrev pub mode_of : Table → ℕ → Mode
mode_of t m = mode_at t (place_of m)

abbrev pub part_of : Plan → ℕ → ModePlan
part_of w m = part_at w (place_of m)

-- whether there is such a mode, with an actor
abbrev pub is_listed : Table → ℕ → Bool
is_listed t m = leb 1 m && (leb m MODES && not (eqb (mode_of t m).active 0))

abbrev pub plan_of : Table → Plan → RunPlan
plan_of t w =
    record {
      listed = is_listed t;
      actors = ACTORS;
      active = λ m i. hasb (mode_of t m).active i;
      processor = λ m i. (actor_at (mode_of t m) i).processor;
      wcet = λ m i. (actor_at (mode_of t m) i).wcet.0;
      firings = λ m i. (get_or (part_of w m).firings i (firing 0)).0;
      period = λ m i. (get_or (part_of w m).periods i (tick 0)).0;
      start = λ m i. (get_or (part_of w m).starts i (tick 0)).0;
      iteration = λ m. (part_of w m).iteration.0;
      startup = λ m. (part_of w m).startup.0;
      sink = λ m. (part_of w m).sink;
      channels = λ m. (mode_of t m).count;
      from = λ m c. (channel_at (mode_of t m) c).from;
      to = λ m c. (channel_at (mode_of t m) c).to;
      production = λ m c. rate_of (take (actor_at (mode_of t m) (channel_at (mode_of t m) c).from).phases (channel_at (mode_of t m) c).production);
      consumption = λ m c. rate_of (take (actor_at (mode_of t m) (channel_at (mode_of t m) c).to).phases (channel_at (mode_of t m) c).consumption);
      size = λ m c. (get_or (part_of w m).sizes c (token 0)).0;
      offset = λ o l. (change_at w (place_of o) (place_of l)).offset.0;
    }
