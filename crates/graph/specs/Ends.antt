-- The two ends of a mode.
use Rattle.std.specs.Prelude.{◌≡◌, ℕ, ◌<◌}
use Rattle.numbers.specs.Bits.{Has}
use Rattle.units.specs.Limits.{ACTORS}
use Rattle.tables.specs.Shape.{Mode}
use Rattle.graph.specs.Order.{Joins}

-- an active actor without incoming channels, and one without outgoing channels
abbrev pub IsSource : Mode → ℕ → Type 0
IsSource m i = (i < ACTORS) × Has m.active i × ((j : ℕ) → Joins m j i → ⊥)

abbrev pub IsSink : Mode → ℕ → Type 0
IsSink m i = (i < ACTORS) × Has m.active i × ((j : ℕ) → Joins m i j → ⊥)

-- i has the property, and no other number has it
abbrev pub Only : (ℕ → Type 0) → ℕ → Type 0
Only P i = P i × ((j : ℕ) → P j → j ≡ i)

-- s is the source and t the sink of the mode
abbrev pub Ends : Mode → ℕ → ℕ → Type 0
Ends m s t = Only (IsSource m) s × Only (IsSink m) t

-- Refusal 7: not exactly one actor without incoming, and one without outgoing, channels.
abbrev pub NoEnds : Mode → Type 0
NoEnds m = (s t : ℕ) → Ends m s t → ⊥
