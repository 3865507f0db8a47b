-- A plan, as functions of mode, actor, channel and firing.
use Rattle.std.specs.Prelude.{ℕ, ◌<◌, Bool, ◌&&◌, T, eqb}
use Rattle.numbers.specs.declared.fraction.Fraction.{Fraction}

-- Modes, actors, channels and processors are numbers, and a mode comes first among the arguments. Times are in ticks.
pub record RunPlan : Type 0 where
  -- the modes that can be run
  pub listed : ℕ → Bool
  -- each actor is below this; those that are active in a mode, and their processors
  pub actors : ℕ
  pub active : ℕ → ℕ → Bool
  pub processor : ℕ → ℕ → ℕ
  -- of an actor of a mode: the longest time of a firing, the firings of an iteration, the period T, the start S
  pub wcet : ℕ → ℕ → ℕ
  pub firings : ℕ → ℕ → ℕ
  pub period : ℕ → ℕ → ℕ
  pub start : ℕ → ℕ → ℕ
  -- of a mode: the iteration H, the end of its start-up, the actor that is its sink, and its channels, which are those below this
  pub iteration : ℕ → ℕ
  pub startup : ℕ → ℕ
  pub sink : ℕ → ℕ
  pub channels : ℕ → ℕ
  -- of a channel of a mode: its two actors, the tokens that firing n of the one makes and firing n of the other takes, the size of its buffer
  pub from : ℕ → ℕ → ℕ
  pub to : ℕ → ℕ → ℕ
  pub production : ℕ → ℕ → ℕ → ℕ
  pub consumption : ℕ → ℕ → ℕ → ℕ
  pub size : ℕ → ℕ → ℕ
  -- the offset d of a change from one mode to another
  pub offset : ℕ → ℕ → ℕ

-- the tick set for the first firing of a mode's sink
abbrev pub sink_start : RunPlan → ℕ → ℕ
sink_start p m = p.start m (p.sink m)

-- actor i is active in mode m
abbrev pub Acts : RunPlan → ℕ → ℕ → Type 0
Acts p m i = (i < p.actors) × T (p.active m i)

-- and works on the processor
abbrev pub works_on : RunPlan → ℕ → ℕ → ℕ → Bool
works_on p m proc i = p.active m i && eqb (p.processor m i) proc

-- what an actor asks of its processor: wcet / T
abbrev pub wcet_over_period : RunPlan → ℕ → ℕ → Fraction
wcet_over_period p m i = record { over = p.wcet m i; under = p.period m i }
