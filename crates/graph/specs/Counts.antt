-- Model of balance.rt: the cycle counts that are found.
use Rattle.std.specs.Prelude.{◌≡◌, Bool, true, cond, ◌&&◌, List, Option, None, Some, option_map, option_and_then, ℕ, zero, suc, ◌+◌, ◌*◌, ◌/◌, ◌%◌, ◌≤◌, ◌<◌, eqb, leb, ltb, length, get_or, set, replicate}
use Rattle.numbers.specs.Bits.{hasb}
use Rattle.numbers.specs.Tab.{tab}
use Rattle.units.specs.Bounds.{MOST_CYCLES, MOST_TOKENS}
use Rattle.units.specs.Limits.{ACTORS}
use Rattle.units.specs.Tokens.{times_tokens}
use Rattle.rate.specs.declared.Meeting.{Meeting}
use Rattle.rate.specs.Reckoned.{meet_of}
use Rattle.tables.specs.Shape.{Mode, channel_at, Active}
use Rattle.graph.specs.declared.balance.Flow.{Flow}
use Rattle.graph.specs.Balance.{made_on, taken_on}

-- counts within the limit
pub record Small (x : List ℕ) : Type 0 where
  pub long : length x ≡ ACTORS
  pub small : (i : ℕ) → get_or x i 0 ≤ MOST_CYCLES

-- and of a mode's actors, each at least 1
pub record Counted (m : Mode) (x : List ℕ) : Type 0 where
  pub small : Small x
  pub some : (i : ℕ) → Active m i → 1 ≤ get_or x i 0

-- depths below the number of actors that there can be
pub record Shallow (ds : List ℕ) : Type 0 where
  pub long : length ds ≡ ACTORS
  pub below : (i : ℕ) → get_or ds i 0 < ACTORS

-- a flow between actors that take
pub record FlowIn (f : Flow) : Type 0 where
  pub from : f.from < ACTORS
  pub made : f.made.0 ≤ MOST_TOKENS.0
  pub some : 0 < f.taken.0
  pub taken : f.taken.0 ≤ MOST_TOKENS.0

-- the flow of channel k
abbrev pub flow_of : Mode → ℕ → Flow
flow_of m k = record { from = (channel_at m k).from; to = (channel_at m k).to; made = made_on m k; taken = taken_on m k }

-- an actor that has a depth has an incoming channel: its entry
abbrev pub Entered : Mode → List (Option ℕ) → List ℕ → Type 0
Entered m es ds = (i : ℕ) → Active m i → 0 < get_or ds i 0 → (k : ℕ) × (get_or es i None ≡ Some k) × (k < m.count) × ((channel_at m k).to ≡ i)

-- the channels below k, from the last to the first
unfoldable pub entries_from : Mode → ℕ → List (Option ℕ) → List (Option ℕ)
entries_from m zero es = es
entries_from m (suc k) es = entries_from m k (set es (channel_at m k).to (Some k))

-- for each actor its first incoming channel
abbrev pub entries_of : Mode → List (Option ℕ)
entries_of m = entries_from m m.count (replicate ACTORS None)

-- the counts of the actors below n stay within the limit
unfoldable pub stays : List ℕ → ℕ → ℕ → Bool
stays x t zero = true
stays x t (suc n) = stays x t n && leb (get_or x n 0 * t) MOST_CYCLES

-- the counts so many times; none where one would be above the limit
abbrev pub scaled_of : List ℕ → ℕ → Option (List ℕ)
scaled_of x t = cond (stays x t ACTORS) (Some (tab ACTORS (λ i. get_or x i 0 * t))) None

-- scaled by a meeting, with the count of actor i
abbrev pub met_by : List ℕ → Meeting → ℕ → Option (List ℕ)
met_by x g i = cond (ltb MOST_CYCLES g.takers) None (option_map (λ y. set y i g.takers) (scaled_of x g.times))

-- the counts with that of actor i, which the flow feeds; all scaled so that it is whole
unfoldable pub fed_of : List ℕ → Flow → ℕ → Option (List ℕ)
fed_of x f i = met_by x (meet_of (get_or x f.from 0) f.made f.taken) i

-- fed by the channel that is its entry
abbrev pub fed_by : Mode → List ℕ → Option ℕ → ℕ → Option (List ℕ)
fed_by m x entry i = option_and_then (λ k. fed_of x (flow_of m k) i) entry

-- the actor at the place of n, at the depth of n
abbrev pub due_at : Mode → List ℕ → ℕ → Bool
due_at m ds n = hasb m.active (n % ACTORS) && eqb (get_or ds (n % ACTORS) 0) (n / ACTORS + 1)

-- the source runs one cycle
abbrev pub one_cycle : ℕ → List ℕ
one_cycle s = set (replicate ACTORS 0) s 1

-- after n steps; none once one would be above the limit
unfoldable pub counts_from : Mode → List (Option ℕ) → List ℕ → ℕ → ℕ → Option (List ℕ)
counts_from m es ds s zero = Some (one_cycle s)
counts_from m es ds s (suc n) =
    cond (due_at m ds n) (option_and_then (λ x. fed_by m x (get_or es (n % ACTORS) None) (n % ACTORS)) (counts_from m es ds s n)) (counts_from m es ds s n)

-- after every place at every depth
abbrev pub counts_of : Mode → List ℕ → ℕ → Option (List ℕ)
counts_of m ds s = counts_from m (entries_of m) ds s (ACTORS * ACTORS)

-- the counts balance channel k
abbrev pub evenb : Mode → List ℕ → ℕ → Bool
evenb m x k = eqb (times_tokens (get_or x (channel_at m k).from 0) (made_on m k)).0 (times_tokens (get_or x (channel_at m k).to 0) (taken_on m k)).0

-- the counts balance the first n channels
unfoldable pub balancesb : Mode → List ℕ → ℕ → Bool
balancesb m x zero = true
balancesb m x (suc n) = balancesb m x n && evenb m x n
