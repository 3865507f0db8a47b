-- The parts of what it is for a table to be proper, as the code goes through them.
use Rattle.std.specs.Prelude.{◌≡◌, cond, List, ℕ, ◌≤◌, ◌<◌, eqb, length, get_or, Option, None, Some}
use Rattle.numbers.specs.Bits.{Has}
use Rattle.numbers.specs.Tab.{tab}
use Rattle.units.specs.Limits.{ACTORS, PHASES, MOST_RATE}
use Rattle.tables.specs.declared.Actor.{Actor}
use Rattle.tables.specs.Shape.{Mode, no_actor, empty_channel, actor_at, channel_at}
use Rattle.tables.specs.Proper.{ProperActor, ProperChannel}

-- an array of rates
pub record Bytes (rates : List ℕ) : Type 0 where
  pub long : length rates ≡ PHASES
  pub small : (k : ℕ) → get_or rates k 0 ≤ MOST_RATE.0

-- place i of a mode has a proper actor, or nobody where actor i is not active
pub record ActorStands (m : Mode) (i : ℕ) : Type 0 where
  pub actor : Has m.active i → ProperActor (actor_at m i)
  pub no_actor_law : (Has m.active i → ⊥) → actor_at m i ≡ no_actor

-- place k has a proper channel; and an empty one where none is listed
abbrev pub ChannelStands : Mode → ℕ → Type 0
ChannelStands m k = ProperChannel m (channel_at m k)

abbrev pub ChannelLeft : Mode → ℕ → Type 0
ChannelLeft m k = m.count ≤ k → channel_at m k ≡ empty_channel

-- actor i is on its home, where it has one
abbrev pub AtHome : List (Option ℕ) → List Actor → ℕ → Type 0
AtHome homes actors i = (h : ℕ) → get_or homes i None ≡ Some h → 0 < (get_or actors i no_actor).processor → h ≡ (get_or actors i no_actor).processor

-- the home that an actor gives itself: its processor, where there is an actor
abbrev pub given : ℕ → Option ℕ
given processor = cond (eqb processor 0) None (Some processor)

-- the homes, with those that the actors give where there are none
abbrev pub home_of : Option ℕ → ℕ → Option ℕ
home_of None processor = given processor
home_of (Some home) processor = Some home

abbrev pub housed_of : List (Option ℕ) → List Actor → List (Option ℕ)
housed_of homes actors = tab ACTORS (λ i. home_of (get_or homes i None) (get_or actors i no_actor).processor)
