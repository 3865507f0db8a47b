-- How great a number becomes that is reckoned on the way to a plan or to an answer, and that each fits in 64 bits. That it is no greater is shown where
-- it is reckoned.
use Rattle.std.specs.Prelude.{ℕ, ◌+◌, ◌*◌, ◌^◌, ◌≤◌, ◌<◌}
use Rattle.std.proofs.Common.{arith}
use Rattle.units.specs.declared.Tick.{Tick}
use Rattle.units.specs.declared.Firing.{Firing}
use Rattle.units.specs.declared.Token.{Token}
use Rattle.units.specs.Ticks.{tick, plus_ticks, times_ticks}
use Rattle.units.specs.Firings.{firing}
use Rattle.units.specs.Tokens.{times_tokens}
use Rattle.units.specs.Limits.{PHASES, MOST_WCET, ITERATION_LIMIT, CLOCK_LIMIT}
use Rattle.units.specs.Bounds.{MOST_CYCLES, MOST_TOKENS, MOST_START}

-- the firings of a cycle count, before it is known how long the iteration is
abbrev pub MOST_COUNTED : Firing
MOST_COUNTED = firing (PHASES * MOST_CYCLES)

-- the tokens of a cycle count, at either end of a channel; a count that is taken so many times, before it is compared with the limit, is no greater, since
-- it is taken no more times than a cycle has tokens
abbrev pub MOST_MADE : Token
MOST_MADE = times_tokens MOST_CYCLES MOST_TOKENS

-- wcet times q
abbrev pub MOST_WORK : Tick
MOST_WORK = times_ticks MOST_COUNTED.0 MOST_WCET

-- tokens by ticks: how long tokens of a channel last, from which a start is found
abbrev pub MOST_LASTING : Tick
MOST_LASTING = tick (MOST_START.0 + (2 * MOST_TOKENS.0 + 2) * ITERATION_LIMIT.0)

-- and how many a channel moves in so many ticks, from which a size is found
abbrev pub MOST_MOVING : Token
MOST_MOVING = times_tokens (2 * MOST_START.0 + 3 * ITERATION_LIMIT.0 + 1) MOST_TOKENS

-- the shares of two modes: the ticks that one works in an iteration, by the ticks of the other's
abbrev pub MOST_SHARED : ℕ
MOST_SHARED = ITERATION_LIMIT.0 * ITERATION_LIMIT.0

-- the tick at which a request has its mode left: less than an iteration after the clock
abbrev pub MOST_LEFT : Tick
MOST_LEFT = plus_ticks CLOCK_LIMIT ITERATION_LIMIT

-- no product of planning is greater than most, and two such products together are within 64 bits
pub record Products (most : ℕ) : Type 0 where
  pub counted : MOST_COUNTED.0 ≤ most
  pub made : MOST_MADE.0 ≤ most
  pub work : MOST_WORK.0 ≤ most
  pub lasting : MOST_LASTING.0 ≤ most
  pub moving : MOST_MOVING.0 ≤ most
  pub shared : MOST_SHARED ≤ most
  pub two : most + most < 2 ^ 64

-- the largest is that of two iterations
pub products : Products MOST_SHARED
products =
    record {
      counted = omega arith;
      made = omega arith;
      work = omega arith;
      lasting = omega arith;
      moving = omega arith;
      shared = omega arith;
      two = omega arith;
    }

pub product_fits : {n : ℕ} → n ≤ MOST_SHARED → n < 2 ^ 64
product_fits h = omega (arith, h)

-- with an offset and a start the tick at which a mode is left is within 64 bits
pub left_fits : MOST_LEFT.0 + MOST_START.0 + MOST_START.0 < 2 ^ 64
left_fits = omega arith
