-- Model of the code: the starts, the sizes and the answer, as they are reckoned.
use Rattle.std.specs.Prelude.{Bool, cond, ◌&&◌, List, ℕ, zero, suc, ◌-◌, eqb, ltb, set, replicate, Result, Ok, Err, Option, Some, None}
use Rattle.numbers.specs.Bits.{hasb}
use Rattle.numbers.specs.Lowest.{lowest_or}
use Rattle.units.specs.Limits.{ACTORS}
use Rattle.units.specs.declared.Tick.{Tick}
use Rattle.units.specs.declared.Token.{Token}
use Rattle.units.specs.Ticks.{tick, greater_tick}
use Rattle.units.specs.Tokens.{token}
use Rattle.tables.specs.Shape.{Mode, channel_at}
use Rattle.graph.specs.declared.Judgement.{Judgement}
use Rattle.channel.specs.Phases.{start_of, size_of}
use Rattle.schedule.specs.declared.Late.{Late}
use Rattle.schedule.specs.declared.Timetable.{Timetable}
use Rattle.schedule.specs.Starts.{producer_of, consumer_of}
use Rattle.schedule.specs.Scheduled.{of_channels, tokens_on, late_by}
use Rattle.schedule.specs.Reached.{start_at, to_depth}

-- channel k asks of its consumer
abbrev pub asked_of : Mode → List Tick → ℕ → List Tick → Tick
asked_of m ps k l = start_of 0 (producer_of m ps k) (start_at l (channel_at m k).from) (consumer_of m ps k)

-- the starts with that of channel k's consumer, which is no earlier than the channel asks
abbrev pub with_start : Mode → List Tick → ℕ → List Tick → List Tick
with_start m ps k l = set l (channel_at m k).to (greater_tick (start_at l (channel_at m k).to) (asked_of m ps k l))

-- the first k channels, at depth d
unfoldable pub depth_from : Mode → List Tick → List ℕ → ℕ → List Tick → ℕ → List Tick
depth_from m ps ds d l zero = l
depth_from m ps ds d l (suc k) = cond (eqb (to_depth m ds k) d) (with_start m ps k (depth_from m ps ds d l k)) (depth_from m ps ds d l k)

-- the depths up to n
unfoldable pub starts_from : Mode → List Tick → List ℕ → ℕ → List Tick
starts_from m ps ds zero = replicate ACTORS (tick 0)
starts_from m ps ds (suc d) = depth_from m ps ds (suc d) (starts_from m ps ds d) m.count

-- the starts of a mode, all depths gone through
abbrev pub starts_of : Mode → List Tick → List ℕ → List Tick
starts_of m ps ds = starts_from m ps ds (ACTORS - 1)

-- the size of each channel's buffer, by these starts
abbrev pub sizes_of : Mode → List Tick → List Tick → List Token
sizes_of m ps l =
    of_channels m (λ k. size_of 0 (producer_of m ps k) (start_at l (channel_at m k).from) (consumer_of m ps k) (start_at l (channel_at m k).to)) (token 0)

-- actor i of the set starts later than the tick t
abbrev pub laterb : List Tick → ℕ → Tick → ℕ → Bool
laterb l active t i = hasb active i && ltb t.0 (start_at l i).0

-- a number that is an actor's place; none where it is past them
abbrev pub actor_place : ℕ → Option ℕ
actor_place a = cond (ltb a ACTORS) (Some a) None

-- the lowest that does, or none
abbrev pub lowest_late : List Tick → ℕ → Tick → Option ℕ
lowest_late l active t = actor_place (lowest_or (laterb l active t) ACTORS ACTORS 0)

-- the answer, by the lowest late actor
abbrev pub timed_by : Mode → Judgement → List Tick → Option ℕ → Result Timetable Late
timed_by m j l (Some a) = Err (late_by a)
timed_by m j l None =
    Ok (record {
      startup = start_at l j.sink;
      starts = l;
      sizes = sizes_of m j.periods l;
      tokens = of_channels m (tokens_on m j.firings) (token 0);
    })

-- the answer, by the starts
abbrev pub answer_of : Mode → Judgement → List Tick → Result Timetable Late
answer_of m j l = timed_by m j l (lowest_late l m.active (start_at l j.sink))

-- the answer to a mode that its judgement does not refuse
unfoldable pub schedule_of : Mode → Judgement → Result Timetable Late
schedule_of m j = answer_of m j (starts_of m j.periods j.depths)
