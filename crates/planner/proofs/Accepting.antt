-- A text that is read into memory, and what its table leaves. Assumes nothing.
use mathlib.Core.Path.{◌≡◌, refl, sym, ap, ap₂, subst, transport, ◌∙◌}
use mathlib.Core.List.{List, [], ◌++◌}
use Prim.Native.Nat.{ℕ, ◌*◌, ◌<◌}
use borrow.Rule.Slice.PartMut.{put_mid}
use lib.ListN.{length, length-append, get_or, take, drop, length-drop, replicate}
use lib.Seq.{take_at}
use native.Mathlib.Omega.{arith}
use Rattle.numbers.specs.Joined.{joined, joined_same}
use Rattle.numbers.specs.Tab.{tab, stretch_of}
use Rattle.numbers.proofs.Laid.{stretch_joined}
use Rattle.units.specs.Limits.{MODES, CHANNELS}
use Rattle.std.specs.Prelude.{Ok, Err}
use Rattle.terms.specs.declared.refusal.Refusal.{Refusal}
use Rattle.tables.specs.Shape.{Mode, Table, mode_at, channel_at}
use Rattle.tables.specs.Proper.{ProperMode, ProperTable}
use Rattle.tables.specs.Memory.{FRONT_WORDS, CHANNEL_BYTES, CHANNELS_BYTES, channel_bytes, channels_of, table_in, table_channels}
use Rattle.tables.proofs.Remembered.{length_channels, table_in_law}
use Rattle.reader.specs.Told.{ReadInto}
use Rattle.reader.proofs.Again.{reads_proper}
use Rattle.planning.specs.declared.ModePlan.{ModePlan}
use Rattle.planning.specs.Nothing.{no_part}
use Rattle.planning.specs.Plan.{IsPart, refused}
use Rattle.planning.specs.Steps.{AnyComes, Refusing}
use Rattle.layout.specs.Words.{WORDS, planned_front, mode_words, modes_words}
use Rattle.layout.specs.Blocks.{CARRIED_WORDS, carried_at, carried_words, channel_laid, mode_laid}
use Rattle.layout.specs.Laws.{length_planned, length_modes}
use Rattle.layout.proofs.Laying.{ended_closed}
use Rattle.planner.specs.Plans.{Reads, Plans, not_planned, accepted}
use Rattle.planner.specs.Held.{HeldModes}
use Rattle.planner.specs.Modes.{Fresh, ModesCome, laid_at, planned_fronts, all_carried, Whole, WholeAt}
use Rattle.planner.specs.Changes.{MODES_WORDS, Runs, ChangesPut}
use Rattle.planner.proofs.Blank.{part_ended, unlisted_words}
use Rattle.planner.proofs.Coming.{length_carried}
use Rattle.planner.proofs.Holding.{held_runs, held_planned, held_words, comes_part, modes_graph, modes_held}

-- the words of a mode, laid from its memory with what is planned of it
module _ (m : Mode) (p : ModePlan) where
  channel_from : (k : ℕ) → k < CHANNELS → channel_laid (channels_of m) (carried_words p) k ≡ channel_bytes (channel_at m k) ++ carried_at p k
  unfolding tab
  channel_from k h = ap₂ ◌++◌ (stretch_joined CHANNEL_BYTES CHANNELS k (λ k. channel_bytes (channel_at m k)) (λ j. refl) h) (stretch_joined 2 CHANNELS k (carried_at p) (λ j. refl) h)

  mode_from : mode_laid (planned_front m p) (channels_of m) (carried_words p) ≡ mode_words m p
  unfolding mode_words
  mode_from = ap (λ (l : List ℕ). planned_front m p ++ l) (joined_same CHANNELS _ _ channel_from)

  mode_whole : ProperMode m → AnyComes m 1 (Ok p) → Whole (planned_front m p) (channels_of m) (carried_words p)
  mode_whole proper comes =
      record {
        closed = ended_closed m p _ _ _ (part_ended m p 1 proper comes) refl channel_from;
        unlisted = λ e. mode_from ∙ unlisted_words m p 1 proper comes e;
      }

-- and those of all modes
module _ (t : Table) (ps : List ModePlan) where
  abbrev p : ℕ → ModePlan
  p m = get_or ps m no_part

  module _ (m : ℕ) (h : m < MODES) where
    front_at_law : stretch_of (FRONT_WORDS * m) FRONT_WORDS (planned_fronts t ps) ≡ planned_front (mode_at t m) (p m)
    front_at_law = stretch_joined FRONT_WORDS MODES m (λ m. planned_front (mode_at t m) (p m)) (λ m. length_planned (mode_at t m) (p m)) h

    channels_at_law : stretch_of (CHANNELS_BYTES * m) CHANNELS_BYTES (table_channels t) ≡ channels_of (mode_at t m)
    channels_at_law = stretch_joined CHANNELS_BYTES MODES m (λ m. channels_of (mode_at t m)) (λ m. length_channels (mode_at t m)) h

    carried_at_law : stretch_of (CARRIED_WORDS * m) CARRIED_WORDS (all_carried ps) ≡ carried_words (p m)
    carried_at_law = stretch_joined CARRIED_WORDS MODES m (λ m. carried_words (p m)) (λ m. length_carried (p m)) h

    whole_from : ProperTable t → IsPart t m (p m) → WholeAt (planned_fronts t ps) (table_channels t) (all_carried ps) m
    whole_from proper is =
        transport (λ i. Whole (sym front_at_law i) (sym channels_at_law i) (sym carried_at_law i)) (mode_whole (mode_at t m) (p m) (proper.mode m h) (comes_part t proper m h (p m) is))

  modes_from : joined MODES (laid_at (planned_fronts t ps) (table_channels t) (all_carried ps)) ≡ modes_words t (record { parts = ps; changes = [] })
  modes_from = joined_same MODES _ _ (λ m h. (λ i. mode_laid (front_at_law m h i) (channels_at_law m h i) (carried_at_law m h i)) ∙ mode_from (mode_at t m) (p m))

-- a text that is read into memory
module _ {text fronts channels : List ℕ} (into : ReadInto text (Ok tt) fronts channels) where
  abbrev t : Table
  t = into.table

  proper : ProperTable t
  proper = reads_proper text t into.told

  same : table_in fronts channels ≡ t
  same = ap₂ table_in into.fronts_are into.channels_are ∙ table_in_law t proper

  pub memory_fresh : (carried : List ℕ) → carried ≡ replicate (CARRIED_WORDS * MODES) 0 → Fresh (table_in fronts channels) fronts channels carried
  memory_fresh carried e =
      subst (λ (x : Table). Fresh x fronts channels carried) (sym same)
      (record { proper = proper; fronts_are = into.fronts_are; channels_are = into.channels_are; none_carried = e })

  -- a mode of its table is refused
  module _ (before : List ℕ) (long : length before ≡ WORDS) where
    pub memory_refused : (r : Refusal) → Refusing (table_in fronts channels) r → Plans text before (Err r) before
    memory_refused r come =
        let (k, listed, earlier, by) : Refusing t r = subst (λ (x : Table). Refusing x r) same come in
        not_planned long into.told (refused listed earlier by)

    -- or all are planned
    module _ (planned carried : List ℕ) (come : ModesCome (table_in fronts channels) (Ok tt) planned carried) where
      all : ModesCome t (Ok tt) planned carried
      all = subst (λ (x : Table). ModesCome x (Ok tt) planned carried) same come

      abbrev modes : List ℕ
      modes = modes_words t (record { parts = all.0; changes = [] })

      held : HeldModes modes
      held = modes_held t (record { parts = all.0; changes = [] }) proper all.1.each

      modes_long : length modes ≡ MODES_WORDS
      modes_long = length_modes t (record { parts = all.0; changes = [] })

      pub memory_whole : (m : ℕ) → m < MODES → WholeAt planned channels carried m
      memory_whole m h = transport (λ i. WholeAt (sym all.2 i) (sym into.channels_are i) (sym all.3 i) m) (whole_from t all.0 m h proper (all.1.each m h))

      -- the words of its modes are put at the front
      module _ (l : List ℕ) (put : l ≡ joined MODES (laid_at planned channels carried)) where
        abbrev words : List ℕ
        words = put_mid 0 MODES_WORDS before l

        are : l ≡ modes
        are = put ∙ (λ i. joined MODES (laid_at (all.2 i) (into.channels_are i) (all.3 i))) ∙ modes_from t all.0

        first : take MODES_WORDS words ≡ modes
        first = take_at l (drop MODES_WORDS before) MODES_WORDS (ap length are ∙ modes_long) ∙ are

        pub memory_long : length words ≡ WORDS
        memory_long = length-append l (drop MODES_WORDS before) ∙ omega (arith, ap length are, modes_long, length-drop MODES_WORDS before)

        pub memory_runs : Runs (take MODES_WORDS words)
        memory_runs = subst Runs (sym first) (held_runs modes held modes_long)

        -- and the changes behind them
        pub memory_accepted : (after : List ℕ) → ChangesPut (take MODES_WORDS words) after → Plans text before (Ok tt) after
        memory_accepted after behind =
            let (cs, found, left) : ChangesPut modes after = subst (λ (x : List ℕ). ChangesPut x after) first behind in
            subst (Plans text before (Ok tt)) (sym (left ∙ held_words modes held cs modes_long))
            (accepted long (subst (Reads text) (sym (modes_graph t (record { parts = all.0; changes = [] }) proper)) into.told) (held_planned modes held cs found))
