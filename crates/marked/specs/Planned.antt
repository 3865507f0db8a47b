-- The plan of the printed table as a run sees it, in plain numbers, and a run of it with numbers worked out by hand.
use Rattle.std.specs.Prelude.{◌≡◌, true, false, List, [], ◌∷◌, ℕ}
use Rattle.numbers.specs.Fraction.{Same}
use Rattle.numbers.specs.Tab.{tab}
use Rattle.run.specs.Plan.{RunPlan}
use Rattle.run.specs.Machine.{Request, worst, stays, leaves, Visit, visits, begin, run}
use Rattle.run.specs.Firing.{latest, claimed, given_back, total_in, asked}

-- what is so of mode 1, and of mode 2
abbrev pub Both : {A : Type 0} → (ℕ → A) → A → A → Type 0
Both f one two = (f 1 ≡ one) × (f 2 ≡ two)

-- Numbers of the actors 1 to 5, which are at places 0 to 4; actor 4 is in mode 2 only, and has zeros in mode 1.
abbrev pub Actors : {A : Type 0} → (ℕ → ℕ → A) → List A → List A → Type 0
Actors f one two = Both (λ m. tab 5 (f m)) one two

-- Numbers of the channels, of which mode 1 has three and mode 2 has five.
abbrev pub Channels : {A : Type 0} → (ℕ → ℕ → A) → List A → List A → Type 0
Channels f one two = (tab 3 (f 1) ≡ one) × (tab 5 (f 2) ≡ two)

pub record PrintedPlan (p : RunPlan) : Type 0 where
  pub listed : tab 9 p.listed ≡ false ∷ true ∷ true ∷ false ∷ false ∷ false ∷ false ∷ false ∷ false ∷ []
  pub active : Actors p.active (true ∷ true ∷ true ∷ false ∷ true ∷ []) (true ∷ true ∷ true ∷ true ∷ true ∷ [])
  pub processors : Actors p.processor (1 ∷ 2 ∷ 1 ∷ 0 ∷ 1 ∷ []) (1 ∷ 2 ∷ 1 ∷ 1 ∷ 1 ∷ [])
  pub wcets : Actors p.wcet (1 ∷ 4 ∷ 1 ∷ 0 ∷ 1 ∷ []) (1 ∷ 8 ∷ 1 ∷ 3 ∷ 1 ∷ [])
  pub firings : Actors p.firings (4 ∷ 2 ∷ 2 ∷ 0 ∷ 2 ∷ []) (2 ∷ 1 ∷ 1 ∷ 1 ∷ 2 ∷ [])
  pub periods : Actors p.period (2 ∷ 4 ∷ 4 ∷ 0 ∷ 4 ∷ []) (4 ∷ 8 ∷ 8 ∷ 8 ∷ 4 ∷ [])
  pub starts : Actors p.start (0 ∷ 2 ∷ 6 ∷ 0 ∷ 14 ∷ []) (0 ∷ 4 ∷ 12 ∷ 8 ∷ 20 ∷ [])
  pub iterations : Both p.iteration 8 8
  pub startups : Both p.startup 14 20
  pub sinks : Both p.sink 4 4
  pub channels : Both p.channels 3 5
  pub from : Channels p.from (0 ∷ 1 ∷ 2 ∷ []) (0 ∷ 0 ∷ 1 ∷ 2 ∷ 3 ∷ [])
  pub to : Channels p.to (1 ∷ 2 ∷ 4 ∷ []) (1 ∷ 3 ∷ 2 ∷ 4 ∷ 4 ∷ [])
  -- the tokens of the first two firings
  pub production : Channels (λ m c. tab 2 (p.production m c))
      ((1 ∷ 0 ∷ []) ∷ (1 ∷ 1 ∷ []) ∷ (1 ∷ 1 ∷ []) ∷ [])
      ((1 ∷ 0 ∷ []) ∷ (1 ∷ 1 ∷ []) ∷ (1 ∷ 1 ∷ []) ∷ (1 ∷ 1 ∷ []) ∷ (1 ∷ 1 ∷ []) ∷ [])
  pub consumption : Channels (λ m c. tab 2 (p.consumption m c))
      ((1 ∷ 1 ∷ []) ∷ (1 ∷ 1 ∷ []) ∷ (2 ∷ 0 ∷ []) ∷ [])
      ((1 ∷ 1 ∷ []) ∷ (2 ∷ 2 ∷ []) ∷ (1 ∷ 1 ∷ []) ∷ (1 ∷ 0 ∷ []) ∷ (0 ∷ 1 ∷ []) ∷ [])
  pub sizes : Channels p.size (2 ∷ 2 ∷ 3 ∷ []) (2 ∷ 4 ∷ 2 ∷ 2 ∷ 3 ∷ [])
  pub offsets : (p.offset 1 2 ≡ 0) × (p.offset 2 1 ≡ 8)
  pub worsts : (worst p 1 2 ≡ 27) × (worst p 2 1 ≡ 29)

-- From mode 2: mode 1 at 21, mode 2 at 45, which is refused, and at 46.
abbrev requests : List Request
requests = record { mode = 1; tick = 21 } ∷ record { mode = 2; tick = 45 } ∷ record { mode = 2; tick = 46 } ∷ []

abbrev visited : RunPlan → List Visit
visited p = visits (run p (begin p 2) requests)

pub record PrintedRun (p : RunPlan) : Type 0 where
  -- mode 2 runs from tick 0 and is left at 24, mode 1 runs from 32 and is left at 48, where mode 2 starts again
  pub three_visits : visited p
      ≡ record { mode = 2; start = 48; leave = stays } ∷ record { mode = 1; start = 32; leave = leaves 48 } ∷ record { mode = 2; start = 0; leave = leaves 24 } ∷ []
  -- at tick 32 processor 1 is asked for 7 / 8: by actors 3 and 5 of the old visit for 3 / 8, by actor 1 of the new one for 4 / 8
  pub load : Same (asked p 1 32 (visited p)) (record { over = 7; under = 8 })
  -- where each firing ends as its period does, the buffer from 3 to 5 of mode 2 still has a place claimed when mode 1 starts, and none at 24 + 20
  pub claimed_at_32 : (total_in (visited p) 2 (claimed p 3 32) ≡ 3) × (total_in (visited p) 2 (given_back p (latest p) 3 32) ≡ 2)
  pub claimed_at_44 : (total_in (visited p) 2 (claimed p 3 44) ≡ 3) × (total_in (visited p) 2 (given_back p (latest p) 3 44) ≡ 3)
