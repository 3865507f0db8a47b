-- The words of a plan are as many as the buffer has, and hold the table.
use Rattle.std.specs.Prelude.{◌≡◌, cond, Some, None, List, [], ◌∷◌, ◌++◌, ℕ, zero, suc, ◌+◌, ◌*◌, ◌%◌, ◌≤◌, ◌<◌, eqb, get_or, drop, replicate}
use Rattle.std.proofs.Math.Path.{refl, sym, ap, ap₂}
use Rattle.std.proofs.Common.{subst, ◌∙◌, mod-eq_of_lt, arith, length-append, take_at, drop_at}
use Rattle.std.proofs.Math.Decide.{dec_lt}
use Rattle.std.proofs.Math.ListN.{length, get_or-append}
use Rattle.numbers.specs.Joined.{joined, part, length_joined, joined_same, part_joined, joined_part, get_or_joined}
use Rattle.numbers.specs.Tab.{tab, length_tab, is_tab, tab_at, get_or_replicated}
use Rattle.units.specs.Limits.{MODES, ACTORS, CHANNELS, PHASES, MOST_RATE}
use Rattle.units.specs.Ticks.{tick}
use Rattle.tables.specs.declared.Channel.{Channel}
use Rattle.tables.specs.declared.memory.Times.{Times}
use Rattle.tables.specs.Shape.{Mode, Table, no_mode, empty_channel, actor_at, channel_at, mode_at}
use Rattle.tables.specs.Proper.{ProperMode, ProperTable}
use Rattle.tables.specs.Memory.{FRONT_WORDS, CHANNEL_BYTES, rate_words, channel_bytes, head_of, channels_of, mode_in, actors_at, times_in}
use Rattle.tables.proofs.Remembered.{length_front, front_times, mode_in_law}
use Rattle.planning.specs.declared.ModePlan.{ModePlan}
use Rattle.change.specs.declared.Timing.{Timing}
use Rattle.planning.specs.Shape.{Plan}
use Rattle.planning.specs.Nothing.{no_timing}
use Rattle.planning.specs.Plan.{part_at}
use Rattle.layout.specs.Words.{CHANGES, CHANNEL_WORDS, MODE_WORDS, CHANGE_WORDS, WORDS, head_with, times_at, planned_front, channel_words_at, mode_words, mode_words_at, change_words_at, modes_words, changes_words, words_of}
use Rattle.layout.specs.Blocks.{pace_of}
use Rattle.layout.specs.Read.{cut_bytes, bytes_in, mode_of, graph_of}

-- each block has its number of words
pub length_planned : (m : Mode) (p : ModePlan) → length (planned_front m p) ≡ FRONT_WORDS
length_planned m p = length_front (head_with (head_of m) p) (actor_at m) (times_at p)

pub length_channel_at : (m : Mode) (p : ModePlan) (k : ℕ) → length (channel_words_at m p k) ≡ CHANNEL_WORDS
unfolding tab
length_channel_at m p k = refl

pub length_channels : (m : Mode) (p : ModePlan) → length (joined CHANNELS (channel_words_at m p)) ≡ CHANNEL_WORDS * CHANNELS
length_channels m p = length_joined CHANNEL_WORDS (channel_words_at m p) (length_channel_at m p) CHANNELS

pub length_mode : (m : Mode) (p : ModePlan) → length (mode_words m p) ≡ MODE_WORDS
unfolding mode_words
length_mode m p = length-append (planned_front m p) (joined CHANNELS (channel_words_at m p)) ∙ ap₂ ◌+◌ (length_planned m p) (length_channels m p)

pub length_mode_at : (t : Table) (w : Plan) (m : ℕ) → length (mode_words_at t w m) ≡ MODE_WORDS
length_mode_at t w m = length_mode (mode_at t m) (part_at w m)

pub length_modes : (t : Table) (w : Plan) → length (modes_words t w) ≡ MODE_WORDS * MODES
length_modes t w = length_joined MODE_WORDS (mode_words_at t w) (length_mode_at t w) MODES

pub length_changes : (cs : List Timing) → length (changes_words cs) ≡ CHANGE_WORDS * CHANGES
length_changes cs = length_joined CHANGE_WORDS (change_words_at cs) (λ k. refl) CHANGES

-- there are always as many words as the buffer has
pub length_words : (t : Table) (w : Plan) → length (words_of t w) ≡ WORDS
unfolding words_of
length_words t w = length-append (modes_words t w) (changes_words w.changes) ∙ ap₂ ◌+◌ (length_modes t w) (length_changes w.changes)

-- and the bytes that are cut from the words of a channel theirs
pub length_cut : (l : List ℕ) → length (cut_bytes l) ≡ CHANNEL_BYTES
length_cut l = length_tab CHANNEL_BYTES (λ j. get_or l j 0 % 256)

-- the bytes of a channel are its words, where none is too large for a byte
module _ (c : Channel) (t : List ℕ) (small : (j : ℕ) → get_or (channel_bytes c) j 0 < 256) where
  pub cut_bytes_law : cut_bytes (channel_bytes c ++ t) ≡ channel_bytes c
  unfolding tab
  cut_bytes_law =
      let long : length (channel_bytes c) ≡ CHANNEL_BYTES = refl in
      sym (is_tab CHANNEL_BYTES _ (channel_bytes c) 0 long
      (λ j h. sym (mod-eq_of_lt (small j)) ∙ ap (λ (n : ℕ). n % 256) (sym (get_or-append (channel_bytes c) t 0 j (omega (arith, long))))))

-- numbers below n in front of such a list, and behind it
below_cons : (n a : ℕ) (l : List ℕ) → a < n → ((j : ℕ) → get_or l j 0 < n) → (j : ℕ) → get_or (a ∷ l) j 0 < n
below_cons n a l h g zero = h
below_cons n a l h g (suc j) = g j

below_append : (n : ℕ) (l m : List ℕ) → ((j : ℕ) → get_or l j 0 < n) → ((j : ℕ) → get_or m j 0 < n) → (j : ℕ) → get_or (l ++ m) j 0 < n
below_append n [] m h g = g
below_append n (a ∷ l) m h g = below_cons n a (l ++ m) (h 0) (below_append n l m (λ j. h (suc j)) g)

-- so it is in a proper mode
module _ (m : Mode) (proper : ProperMode m) where
  rates_small : (rates : List ℕ) → ((j : ℕ) → get_or rates j 0 ≤ MOST_RATE.0) → (j : ℕ) → get_or (rate_words rates) j 0 < 256
  rates_small rates h = tab_at (λ x. x < 256) PHASES (λ j. get_or rates j 0) 0 (omega arith) (λ j b. omega (arith, h j))

  channel_small : (c : Channel) → c.from < 256 → c.to < 256 → ((j : ℕ) → get_or c.production j 0 ≤ MOST_RATE.0) → ((j : ℕ) → get_or c.consumption j 0 ≤ MOST_RATE.0)
      → (j : ℕ) → get_or (channel_bytes c) j 0 < 256
  channel_small c from to made taken =
      let rates = rate_words c.production ++ rate_words c.consumption in
      below_cons 256 c.from (c.to ∷ rates) from (below_cons 256 c.to rates to
      (below_append 256 (rate_words c.production) (rate_words c.consumption) (rates_small c.production made) (rates_small c.consumption taken)))

  pub bytes_small : (k : ℕ) → k < CHANNELS → (j : ℕ) → get_or (channel_bytes (channel_at m k)) j 0 < 256
  bytes_small k l = go (dec_lt k m.count)
    where
      go : Dec (k < m.count) → (j : ℕ) → get_or (channel_bytes (channel_at m k)) j 0 < 256
      go (yes h) = let c = proper.channel k h in channel_small (channel_at m k) (omega (arith, c.from)) (omega (arith, c.to)) c.production.small c.consumption.small
      go (no n) =
          let none : (j : ℕ) → get_or (replicate PHASES 0) j 0 ≤ MOST_RATE.0 = λ j. omega (arith, get_or_replicated {A = ℕ} PHASES j 0) in
          subst (λ (c : Channel). (j : ℕ) → get_or (channel_bytes c) j 0 < 256) (sym (proper.no_channel_law k l (omega arith))) (channel_small empty_channel (omega arith) (omega arith) none none)

  -- a mode is read back from its words
  pub mode_back : (p : ModePlan) → mode_of (mode_words m p) ≡ m
  unfolding mode_of mode_words
  mode_back p =
      let front = planned_front m p in
      let back = joined CHANNELS (channel_words_at m p) in
      let channels : bytes_in back ≡ channels_of m
      = joined_same CHANNELS _ _ (λ k l. ap cut_bytes (joined_part CHANNEL_WORDS (channel_words_at m p) (length_channel_at m p) CHANNELS k l) ∙ cut_bytes_law (channel_at m k) _ (bytes_small k l)) in
      ap₂ mode_in (take_at front back FRONT_WORDS (length_planned m p)) (ap bytes_in (drop_at front back FRONT_WORDS (length_planned m p)) ∙ channels)
      ∙ mode_in_law m proper (head_with (head_of m) p) refl refl (times_at p)

-- a table is read back from the words of its modes, whatever stands behind them, and so from those of its plan
pub graph_front : (t : Table) (w : Plan) (behind : List ℕ) → ProperTable t → graph_of (modes_words t w ++ behind) ≡ t
unfolding graph_of
graph_front t w behind h =
    ap (λ (l : List Mode). let r : Table = record { modes = l } in r)
    (sym (is_tab MODES (λ m. mode_of (part MODE_WORDS m (modes_words t w ++ behind))) t.modes no_mode h.modes_long
    (λ m l. sym (ap mode_of (part_joined MODE_WORDS (mode_words_at t w) (length_mode_at t w) MODES m behind l) ∙ mode_back (mode_at t m) (h.mode m l) (part_at w m)))))

pub graph_back : (t : Table) (w : Plan) → ProperTable t → graph_of (words_of t w) ≡ t
unfolding words_of
graph_back t w h = graph_front t w (changes_words w.changes) h

-- the words of a mode, and the offset of a change, stand in the words of the plan
pub part_words : (t : Table) (w : Plan) (k : ℕ) → k < MODES → part MODE_WORDS k (words_of t w) ≡ mode_words_at t w k
unfolding words_of
part_words t w k l = part_joined MODE_WORDS (mode_words_at t w) (length_mode_at t w) MODES k (changes_words w.changes) l

pub changes_words_law : (t : Table) (w : Plan) → drop (MODE_WORDS * MODES) (words_of t w) ≡ changes_words w.changes
unfolding words_of
changes_words_law t w = drop_at (modes_words t w) (changes_words w.changes) (MODE_WORDS * MODES) (length_modes t w)

pub offset_words : (cs : List Timing) (n : ℕ) → n < CHANGES → get_or (changes_words cs) (CHANGE_WORDS * n + 1) 0 ≡ (get_or cs n no_timing).offset.0
offset_words cs n l = get_or_joined CHANGE_WORDS (change_words_at cs) (λ k. refl) CHANGES n 1 0 l (omega arith)

-- the start of a mode's sink stands in its words
sink_held : (m : Mode) (p : ModePlan) → p.sink < ACTORS → get_or (mode_words m p) (actors_at p.sink + 5) 0 ≡ (get_or p.starts p.sink (tick 0)).0
unfolding mode_words
sink_held m p l =
    get_or-append (planned_front m p) (joined CHANNELS (channel_words_at m p)) 0 (actors_at p.sink + 5) (omega (arith, length_planned m p))
    ∙ ap (λ (t : Times). t.start.0) (front_times (head_with (head_of m) p) (actor_at m) (times_at p) p.sink l)

-- the pace of a mode stands in its words, where it is listed
pub pace_words : (m : Mode) (p : ModePlan) → p.sink < ACTORS
    → pace_of (mode_words m p) ≡ cond (eqb m.active 0) None (Some (record { iteration = p.iteration; sink_start = get_or p.starts p.sink (tick 0) }))
unfolding mode_words
pace_words m p l = ap (λ (n : ℕ). cond (eqb m.active 0) None (Some (record { iteration = p.iteration; sink_start = tick n }))) (sink_held m p l)

-- and its iteration and its sink's start stand there, whether it is listed or not
pub pace_held : (m : Mode) (p : ModePlan) → p.sink < ACTORS
    → (tick (get_or (mode_words m p) 2 0) ≡ p.iteration) × ((times_in (mode_words m p) (get_or (mode_words m p) 4 0)).start ≡ get_or p.starts p.sink (tick 0))
unfolding mode_words
pace_held m p l = (refl, ap tick (sink_held m p l))
