-- What follows from the limits: how great the numbers of a plan can become. That they are no greater is shown where they are found.
use Rattle.std.specs.Prelude.{ℕ, ◌+◌, ◌*◌, ◌-◌}
use Rattle.units.specs.declared.Tick.{Tick}
use Rattle.units.specs.declared.Firing.{Firing}
use Rattle.units.specs.declared.Token.{Token}
use Rattle.units.specs.Ticks.{tick, times_ticks}
use Rattle.units.specs.Firings.{firing}
use Rattle.units.specs.Tokens.{times_tokens}
use Rattle.units.specs.Limits.{ACTORS, PHASES, MOST_RATE, ITERATION_LIMIT}

-- an actor fires at most once a tick, so an iteration has no more firings of it, and no more cycles, than ticks
abbrev pub MOST_FIRINGS : Firing
MOST_FIRINGS = firing ITERATION_LIMIT.0

abbrev pub MOST_CYCLES : ℕ
MOST_CYCLES = ITERATION_LIMIT.0

-- the tokens of a cycle, and of an iteration
abbrev pub MOST_TOKENS : Token
MOST_TOKENS = times_tokens PHASES MOST_RATE

abbrev pub MOST_CARRIED : Token
MOST_CARRIED = times_tokens MOST_FIRINGS.0 MOST_RATE

-- what a channel asks beyond the start of its producer, a cycle of each of its actors; and a start, behind as many channels as a path can have
abbrev pub MOST_WAIT : Tick
MOST_WAIT = times_ticks 2 ITERATION_LIMIT

abbrev pub MOST_START : Tick
MOST_START = times_ticks (ACTORS - 1) MOST_WAIT

-- the worst delay of a change: an offset, a start and an iteration
abbrev pub MOST_DELAY : Tick
MOST_DELAY = tick (2 * MOST_START.0 + ITERATION_LIMIT.0)

-- the size of a buffer
abbrev pub MOST_SIZE : Token
MOST_SIZE = times_tokens (2 * MOST_START.0 + 3 * ITERATION_LIMIT.0 + 3) MOST_TOKENS
