-- The table that words hold, and the plan. A word that is too large for what it stands for is cut.
use Rattle.std.specs.Prelude.{List, ℕ, ◌*◌, ◌%◌, get_or, take, drop}
use Rattle.numbers.specs.Joined.{joined, part}
use Rattle.numbers.specs.Tab.{tab}
use Rattle.units.specs.Limits.{MODES, ACTORS, CHANNELS}
use Rattle.tables.specs.Shape.{Mode, Table}
use Rattle.tables.specs.Memory.{FRONT_WORDS, CHANNEL_BYTES, head_in, times_in, mode_in}
use Rattle.change.specs.Running.{startup_in}
use Rattle.planning.specs.declared.ModePlan.{ModePlan}
use Rattle.planning.specs.Shape.{Plan}
use Rattle.layout.specs.Words.{CHANGES, CHANNEL_WORDS, MODE_WORDS, CHANGE_WORDS}
use Rattle.layout.specs.Blocks.{link_of, timing_of}

-- the bytes of a channel from its words, and of all channels from the words behind a front
abbrev pub cut_bytes : List ℕ → List ℕ
cut_bytes l = tab CHANNEL_BYTES (λ j. get_or l j 0 % 256)

abbrev pub bytes_in : List ℕ → List ℕ
bytes_in l = joined CHANNELS (λ k. cut_bytes (part CHANNEL_WORDS k l))

-- the mode that its words hold
unfoldable pub mode_of : List ℕ → Mode
mode_of l = mode_in (take FRONT_WORDS l) (bytes_in (drop FRONT_WORDS l))

-- what they hold as planned of it
abbrev pub part_in : List ℕ → List ℕ → ModePlan
part_in f l =
    record {
      source = (head_in f).source;
      sink = (head_in f).sink;
      iteration = (head_in f).iteration;
      startup = startup_in f;
      firings = tab ACTORS (λ i. (times_in f i).firings);
      periods = tab ACTORS (λ i. (times_in f i).period);
      starts = tab ACTORS (λ i. (times_in f i).start);
      sizes = tab CHANNELS (λ k. (link_of (part CHANNEL_WORDS k l)).size);
      tokens = tab CHANNELS (λ k. (link_of (part CHANNEL_WORDS k l)).tokens);
    }

unfoldable pub part_of : List ℕ → ModePlan
part_of l = part_in (take FRONT_WORDS l) (drop FRONT_WORDS l)

-- the table whose mode m is read from part m of the words
unfoldable pub graph_of : List ℕ → Table
graph_of l = record { modes = tab MODES (λ m. mode_of (part MODE_WORDS m l)) }

-- the plan that is read from them, and its changes from the words behind the modes
unfoldable pub plan_of : List ℕ → Plan
plan_of l =
    record {
      parts = tab MODES (λ m. part_of (part MODE_WORDS m l));
      changes = tab CHANGES (λ n. timing_of (part CHANGE_WORDS n (drop (MODE_WORDS * MODES) l)));
    }
