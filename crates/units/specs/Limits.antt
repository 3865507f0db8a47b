-- The limits of document 01, with their units; that of an iteration is as 2026-02 has it.
use Rattle.std.specs.Prelude.{ℕ, ◌^◌}
use Rattle.numbers.specs.declared.fraction.Fraction.{Fraction}
use Rattle.units.specs.declared.Tick.{Tick}
use Rattle.units.specs.declared.Token.{Token}
use Rattle.units.specs.declared.limits.Limits.{Limits}
use Rattle.units.specs.Ticks.{tick}
use Rattle.units.specs.Tokens.{token}

-- the longest text, in bytes, and the fields of a record
abbrev pub MOST_BYTES : ℕ
MOST_BYTES = 65536

abbrev pub FIELDS : ℕ
FIELDS = 6

-- modes, actors, channels of a mode, phases of an actor and processors are numbered from 1 to these
abbrev pub MODES : ℕ
MODES = 8

abbrev pub ACTORS : ℕ
ACTORS = 16

abbrev pub CHANNELS : ℕ
CHANNELS = 32

abbrev pub PHASES : ℕ
PHASES = 8

abbrev pub PROCESSORS : ℕ
PROCESSORS = 8

-- the greatest wcet, and the greatest rate
abbrev pub MOST_WCET : Tick
MOST_WCET = tick 1048576

abbrev pub MOST_RATE : Token
MOST_RATE = token 255

-- the longest iteration
abbrev pub ITERATION_LIMIT : Tick
ITERATION_LIMIT = tick 1073741824

-- the last tick at which a request is answered
abbrev pub CLOCK_LIMIT : Tick
CLOCK_LIMIT = tick (2 ^ 62)

-- the most that a processor may be asked for, of its whole time
abbrev pub LOAD_LIMIT : Fraction
LOAD_LIMIT = record { over = 1; under = 1 }

-- the limit of the processor with number p
abbrev pub limit_of : ℕ → Fraction
limit_of p = LOAD_LIMIT

-- all of them
abbrev pub all_limits : Limits
all_limits =
    record {
      bytes = MOST_BYTES;
      fields = FIELDS;
      modes = MODES;
      actors = ACTORS;
      channels = CHANNELS;
      phases = PHASES;
      processors = PROCESSORS;
      wcet = MOST_WCET;
      rate = MOST_RATE;
      iteration = ITERATION_LIMIT;
      clock = CLOCK_LIMIT;
      load = LOAD_LIMIT;
    }
