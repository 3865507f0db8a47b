-- Model: words that hold modes, with what is planned of them.
use Rattle.std.specs.Prelude.{◌≡◌, List, ℕ, ◌<◌}
use Rattle.numbers.specs.Joined.{part}
use Rattle.units.specs.Limits.{MODES}
use Rattle.tables.specs.Proper.{ProperMode, ProperTable}
use Rattle.planning.specs.Nothing.{empty_part}
use Rattle.planning.specs.Plan.{ModePlanned}
use Rattle.layout.specs.Words.{MODE_WORDS, mode_words}
use Rattle.layout.specs.Read.{mode_of, part_of, graph_of}

-- the words of a mode are those of the mode that they hold, with what they hold as planned of it: that of a mode that is listed, and nothing of another
pub record Held (l : List ℕ) : Type 0 where
  pub proper : ProperMode (mode_of l)
  pub listed : ((mode_of l).active ≡ 0 → ⊥) → ModePlanned (mode_of l) (part_of l)
  pub unlisted : (mode_of l).active ≡ 0 → part_of l ≡ empty_part
  pub left : l ≡ mode_words (mode_of l) (part_of l)

-- the same of all modes of a proper table
pub record HeldModes (words : List ℕ) : Type 0 where
  pub proper : ProperTable (graph_of words)
  pub mode : (m : ℕ) → m < MODES → Held (part MODE_WORDS m words)
