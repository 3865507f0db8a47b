-- Model: the memory of a table of which nothing is planned yet, and what comes of it, mode by mode.
use Rattle.std.specs.Prelude.{◌≡◌, List, ℕ, ◌*◌, get_or, replicate, Result, Ok, Err}
use Rattle.numbers.specs.Joined.{joined}
use Rattle.numbers.specs.Tab.{stretch_of}
use Rattle.units.specs.Limits.{MODES}
use Rattle.tables.specs.Shape.{Mode, Table, mode_at}
use Rattle.tables.specs.Proper.{ProperMode, ProperTable}
use Rattle.tables.specs.Memory.{FRONT_WORDS, CHANNELS_BYTES, front_of, channels_of, table_fronts, table_channels}
use Rattle.planning.specs.declared.ModePlan.{ModePlan}
use Rattle.terms.specs.declared.refusal.Refusal.{Refusal}
use Rattle.planning.specs.Nothing.{no_part}
use Rattle.planning.specs.Plan.{ModeRefused}
use Rattle.planning.specs.Steps.{AnyComes, FoundParts, Refusing}
use Rattle.layout.specs.Words.{MODE_WORDS, planned_front}
use Rattle.layout.specs.Blocks.{CARRIED_WORDS, carried_words, mode_laid, Closed}

-- the memory of mode m, of which nothing is planned yet
pub record FreshMode (m : Mode) (front channels carried : List ℕ) : Type 0 where
  pub proper : ProperMode m
  pub front_is : front ≡ front_of m
  pub channels_are : channels ≡ channels_of m
  pub none_carried : carried ≡ replicate CARRIED_WORDS 0

-- what comes of it, as the mode with number n: what is planned of it stands in its front and in the words of its channels, or it is refused
abbrev pub ModeComes : Mode → ℕ → Result (Unit {0}) Refusal → List ℕ → List ℕ → Type 0
ModeComes m n (Ok u) front carried = (p : ModePlan) × AnyComes m n (Ok p) × (front ≡ planned_front m p) × (carried ≡ carried_words p)
ModeComes m n (Err r) front carried = (m.active ≡ 0 → ⊥) × ModeRefused m n r

-- the memory of table t, of which nothing is planned yet
pub record Fresh (t : Table) (fronts channels carried : List ℕ) : Type 0 where
  pub proper : ProperTable t
  pub fronts_are : fronts ≡ table_fronts t
  pub channels_are : channels ≡ table_channels t
  pub none_carried : carried ≡ replicate (CARRIED_WORDS * MODES) 0

-- the fronts of its modes, with these parts
abbrev pub planned_fronts : Table → List ModePlan → List ℕ
planned_fronts t ps = joined MODES (λ m. planned_front (mode_at t m) (get_or ps m no_part))

-- and the words of their channels
abbrev pub all_carried : List ModePlan → List ℕ
all_carried ps = joined MODES (λ m. carried_words (get_or ps m no_part))

-- what comes of it: the parts of all modes stand there, or the lowest mode that is refused refuses the table
abbrev pub ModesCome : Table → Result (Unit {0}) Refusal → List ℕ → List ℕ → Type 0
ModesCome t (Ok u) fronts carried = (ps : List ModePlan) × FoundParts t ps MODES × (fronts ≡ planned_fronts t ps) × (carried ≡ all_carried ps)
ModesCome t (Err r) fronts carried = Refusing t r

-- the words of mode m, from the memory of all modes
abbrev pub laid_at : List ℕ → List ℕ → List ℕ → ℕ → List ℕ
laid_at fronts channels carried m =
    mode_laid (stretch_of (FRONT_WORDS * m) FRONT_WORDS fronts) (stretch_of (CHANNELS_BYTES * m) CHANNELS_BYTES channels) (stretch_of (CARRIED_WORDS * m) CARRIED_WORDS carried)

-- the memory of a mode that is planned: nothing stands behind its last channel, and nothing at all where it is not listed
pub record Whole (front channels carried : List ℕ) : Type 0 where
  pub closed : Closed front channels carried
  pub unlisted : get_or front 0 0 ≡ 0 → mode_laid front channels carried ≡ replicate MODE_WORDS 0

-- that of mode m
abbrev pub WholeAt : List ℕ → List ℕ → List ℕ → ℕ → Type 0
WholeAt fronts channels carried m =
    Whole (stretch_of (FRONT_WORDS * m) FRONT_WORDS fronts) (stretch_of (CHANNELS_BYTES * m) CHANNELS_BYTES channels) (stretch_of (CARRIED_WORDS * m) CARRIED_WORDS carried)
