-- The order of a mode's actors along its channels.
use Rattle.std.specs.Prelude.{◌≡◌, List, ℕ, zero, suc, ◌<◌, length, get_or}
use Rattle.numbers.specs.Extreme.{Greatest}
use Rattle.units.specs.Limits.{ACTORS}
use Rattle.tables.specs.Shape.{Mode, channel_at, Active}

-- some channel of the mode goes from actor j to actor i
abbrev pub Joins : Mode → ℕ → ℕ → Type 0
Joins m j i = (k : ℕ) × (k < m.count) × ((channel_at m k).from ≡ j) × ((channel_at m k).to ≡ i)

-- a path along channels, one or more
pub data Path (m : Mode) : ℕ → ℕ → Type 0 where
  one : {j i : ℕ} → Joins m j i → Path m j i
  more : {j k i : ℕ} → Joins m j k → Path m k i → Path m j i

-- Refusal 6: the channels form a cycle, a path from an actor back to itself.
abbrev pub Cyclic : Mode → Type 0
Cyclic m = (i : ℕ) × Path m i i

-- a path of n channels leads to actor i
pub data Leads (m : Mode) : ℕ → ℕ → Type 0 where
  start : {i : ℕ} → Leads m zero i
  step : {n j i : ℕ} → Leads m n j → Joins m j i → Leads m (suc n) i

-- the depth of an actor: the greatest number of channels on a path to it
abbrev pub Depth : Mode → ℕ → ℕ → Type 0
Depth m i = Greatest (λ n. Leads m n i)

-- depths for the actors of a mode; 0 for an actor that is not active
pub record Ranked (m : Mode) (ds : List ℕ) : Type 0 where
  pub long : length ds ≡ ACTORS
  pub depth : (i : ℕ) → Active m i → Depth m i (get_or ds i 0)
  pub no_depth : (i : ℕ) → i < ACTORS → (Active m i → ⊥) → get_or ds i 0 ≡ 0
