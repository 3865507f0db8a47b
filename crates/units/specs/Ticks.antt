-- Ticks of the clock.
use Rattle.std.specs.Prelude.{ℕ, ◌+◌, ◌-◌, ◌*◌, ◌%◌, max}
use Rattle.units.specs.declared.Tick.{Tick}

abbrev pub tick : ℕ → Tick
tick n = record { 0 = n }

-- the greater of two
abbrev pub greater_tick : Tick → Tick → Tick
greater_tick a b = tick (max a.0 b.0)

-- a, and b more; a, and b less, which is at least 0
abbrev pub plus_ticks : Tick → Tick → Tick
plus_ticks a b = tick (a.0 + b.0)

abbrev pub minus_ticks : Tick → Tick → Tick
minus_ticks a b = tick (a.0 - b.0)

-- n times a
abbrev pub times_ticks : ℕ → Tick → Tick
times_ticks n a = tick (n * a.0)

-- what is left of a when b is taken from it as often as it fits
abbrev pub rest_ticks : Tick → Tick → Tick
rest_ticks a b = tick (a.0 % b.0)
