-- A table in memory: what stands where, and how a mode grows by an actor or a channel.
use Rattle.std.specs.Prelude.{List, [], ℕ, ◌+◌, ◌<◌, get_or, set, replicate}
use Rattle.numbers.specs.Bits.{Has, adding}
use Rattle.units.specs.Limits.{MODES, ACTORS, CHANNELS, PHASES}
use Rattle.tables.specs.declared.Actor.{Actor}
use Rattle.tables.specs.declared.Channel.{Channel}

-- a mode: the set of its active actors, how many channels it has, what each actor is, and the channels in the order in which they are listed
pub record Mode : Type 0 where
  pub active : ℕ
  pub count : ℕ
  pub actors : List Actor
  pub channels : List Channel

pub record Table : Type 0 where
  pub modes : List Mode

-- what stands past the end of an array
abbrev pub no_actor : Actor
no_actor = record { phases = 0; wcet = record { 0 = 0 }; processor = 0 }

abbrev pub no_channel : Channel
no_channel = record { from = 0; to = 0; production = []; consumption = [] }

abbrev pub no_mode : Mode
no_mode = record { active = 0; count = 0; actors = []; channels = [] }

-- actor i and channel k of a mode, and mode m of a table, by their places
abbrev pub actor_at : Mode → ℕ → Actor
actor_at m i = get_or m.actors i no_actor

abbrev pub channel_at : Mode → ℕ → Channel
channel_at m k = get_or m.channels k no_channel

abbrev pub mode_at : Table → ℕ → Mode
mode_at t m = get_or t.modes m no_mode

-- an actor of a mode
abbrev pub Active : Mode → ℕ → Type 0
Active m i = (i < ACTORS) × Has m.active i

-- a channel, a mode and a table in which nothing is listed
abbrev pub empty_channel : Channel
empty_channel = record { from = 0; to = 0; production = replicate PHASES 0; consumption = replicate PHASES 0 }

abbrev pub empty_mode : Mode
empty_mode = record { active = 0; count = 0; actors = replicate ACTORS no_actor; channels = replicate CHANNELS empty_channel }

abbrev pub empty_table : Table
empty_table = record { modes = replicate MODES empty_mode }

-- the mode with actor a at place i
abbrev pub with_actor : Mode → ℕ → Actor → Mode
with_actor m i a = record { active = adding m.active i; count = m.count; actors = set m.actors i a; channels = m.channels }

-- the mode with channel c behind those that it has
abbrev pub with_channel : Mode → Channel → Mode
with_channel m c = record { active = m.active; count = m.count + 1; actors = m.actors; channels = set m.channels m.count c }

-- the table with m as the mode at place i
abbrev pub with_mode : Table → ℕ → Mode → Table
with_mode t i m = record { modes = set t.modes i m }
