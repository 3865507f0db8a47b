-- Model: the modes that words hold, as they run, and the changes between them.
use Rattle.std.specs.Prelude.{◌≡◌, Bool, cond, List, ◌++◌, ℕ, ◌*◌, ◌<◌, eqb, length, drop, take, Option, Some, None}
use Rattle.numbers.specs.Decides.{Decides}
use Rattle.numbers.specs.Joined.{stretch}
use Rattle.numbers.specs.Tab.{tab}
use Rattle.units.specs.Limits.{MODES, ACTORS}
use Rattle.tables.specs.Memory.{FRONT_WORDS, head_in}
use Rattle.change.specs.declared.Timing.{Timing}
use Rattle.change.specs.declared.Prepared.{Prepared}
use Rattle.change.specs.declared.Works.{Works}
use Rattle.change.specs.Change.{Changes}
use Rattle.change.specs.Running.{Running, Fitting, running_in, mode_times, Ready, ReadyFront}
use Rattle.planning.specs.Changes.{ChangeOf, FoundChanges}
use Rattle.layout.specs.Words.{MODE_WORDS, change_words, changes_words}

-- the words of all modes
abbrev pub MODES_WORDS : ℕ
MODES_WORDS = MODE_WORDS * MODES

-- the front of mode m
abbrev pub front_at : List ℕ → ℕ → List ℕ
front_at words m = stretch (MODE_WORDS * m) FRONT_WORDS words

-- the modes as they run
abbrev pub runnings_in : List ℕ → List Running
runnings_in words = tab MODES (λ m. running_in (front_at words m))

-- the works of the mode that a front holds, where it is listed; and of all modes
abbrev pub works_listed : List ℕ → Option (List Works)
works_listed f = cond (eqb (head_in f).active 0) None (Some (running_in f).works)

abbrev pub Worked : List ℕ → List (Option (List Works)) → Type 0
Worked words works = works ≡ tab MODES (λ m. works_listed (front_at words m))

-- what can be summed of each mode, and those that are listed are ready for changes
pub record Runs (words : List ℕ) : Type 0 where
  pub long : length words ≡ MODES_WORDS
  pub fitting : (m : ℕ) → m < MODES → Fitting (running_in (front_at words m))
  pub sink : (m : ℕ) → m < MODES → (head_in (front_at words m)).sink < ACTORS
  pub ready : (m : ℕ) → m < MODES → ((running_in (front_at words m)).active ≡ 0 → ⊥) → Ready (running_in (front_at words m))

-- what is kept for changes of the mode that a front holds: the front, ready with its works, where the mode is listed
abbrev pub Kept : List ℕ → Option Prepared → Type 0
Kept f None = (head_in f).active ≡ 0
Kept f (Some p) = ((head_in f).active ≡ 0 → ⊥) × ReadyFront p × (p.front.now ≡ f)

-- two modes are listed and are not the same; the change from the one to the other, where they are so
abbrev pub Apart : List ℕ → ℕ → ℕ → Type 0
Apart words k l = ((head_in (front_at words k)).active ≡ 0 → ⊥) × ((head_in (front_at words l)).active ≡ 0 → ⊥) × (k ≡ l → ⊥)

abbrev pub ChangeFound : List ℕ → ℕ → ℕ → Option Timing → Type 0
ChangeFound words k l None = Apart words k l → ⊥
ChangeFound words k l (Some t) = Apart words k l × Changes (mode_times (running_in (front_at words k))) (mode_times (running_in (front_at words l))) t

-- the words of the change at this place of all pairs of modes
abbrev pub ChangeWords : List ℕ → ℕ → List ℕ → Type 0
ChangeWords words n those = (t : Timing) × ChangeOf (runnings_in words) n t × (those ≡ change_words t)

-- behind the words of all modes stand those of the changes between them
abbrev pub ChangesPut : List ℕ → List ℕ → Type 0
ChangesPut modes words = (cs : List Timing) × FoundChanges (runnings_in modes) cs (MODES * MODES) × (words ≡ modes ++ changes_words cs)

-- b tells whether they do
abbrev pub ChangesHeld : List ℕ → Bool → Type 0
ChangesHeld words b =
    (cs : List Timing) × FoundChanges (runnings_in (take MODES_WORDS words)) cs (MODES * MODES) × Decides (drop MODES_WORDS words ≡ changes_words cs) b
