-- What comes of the modes of a table in memory. Assumes nothing.
use mathlib.Core.Path.{◌≡◌, refl, sym, ap, ap₂, subst, transport, ◌∙◌}
use mathlib.Core.List.{List, ◌++◌}
use Prim.Native.Nat.{ℕ, ◌+◌, ◌-◌, ◌*◌, ◌<◌}
use native.Mathlib.Nat.{le_refl}
use native.Mathlib.Omega.{arith}
use borrow.Rule.Slice.PartMut.{put_mid}
use lib.ListN.{length, length-append, get_or, set, take, drop, replicate, length-replicate, get_or-replicate}
use lib.Seq.{get_or-set_same, get_or-set_other}
use Rattle.numbers.specs.Filled.{filled_none, filled_set}
use Rattle.numbers.specs.Joined.{joined, joined_same, joined_part, length_joined}
use Rattle.numbers.specs.Tab.{stretch_of, length_tab}
use Rattle.numbers.proofs.Laid.{part_is, joined_put}
use Rattle.units.specs.Limits.{MODES, ACTORS, CHANNELS}
use Rattle.terms.specs.declared.refusal.Refusal.{Refusal}
use Rattle.terms.specs.Place.{number_of}
use Rattle.tables.specs.declared.Actor.{Actor}
use Rattle.tables.specs.declared.memory.Head.{Head}
use Rattle.tables.specs.Shape.{Mode, Table, mode_at, actor_at}
use Rattle.tables.specs.Proper.{ProperMode, ProperTable}
use Rattle.tables.specs.Memory.{FRONT_WORDS, CHANNELS_BYTES, TABLE_WORDS, TABLE_BYTES, head_words, actor_words, front_words, no_times, head_of, front_of, channels_of, head_in, actor_in, mode_in, Stands, table_channels}
use Rattle.tables.proofs.Remembered.{length_front, length_channels, front_head, front_actor, mode_in_law, zeros_joined}
use Rattle.planning.specs.declared.ModePlan.{ModePlan}
use Rattle.std.specs.Prelude.{Result, Ok, Err}
use Rattle.planning.specs.Nothing.{no_part, empty_part}
use Rattle.planning.specs.Plan.{IsPart}
use Rattle.planning.specs.Steps.{FoundParts, Refusing}
use Rattle.planning.proofs.Coming.{part_comes, refusal_comes}
use Rattle.layout.specs.Words.{MODE_WORDS, head_with, times_at, planned_front}
use Rattle.layout.specs.Laws.{length_planned}
use Rattle.layout.specs.Blocks.{CARRIED_WORDS, carried_words, channel_laid}
use Rattle.layout.proofs.Laying.{length_laid}
use Rattle.planner.specs.Modes.{FreshMode, ModeComes, Fresh, planned_fronts, all_carried, ModesCome, laid_at}

-- nothing is planned of a mode whose memory is fresh
empty_front : (m : Mode) → planned_front m empty_part ≡ front_of m
unfolding joined
empty_front m = refl

empty_carried : carried_words empty_part ≡ replicate CARRIED_WORDS 0
unfolding joined
empty_carried = refl

-- the memory of a mode
module _ (m : Mode) (front channels carried : List ℕ) (fresh : FreshMode m front channels carried) where
  pub fresh_stands : m ≡ mode_in front channels → Stands front channels
  fresh_stands e =
      record {
        front_long = ap length fresh.front_is ∙ length_front (head_of m) (actor_at m) (λ i. no_times);
        channels_long = ap length fresh.channels_are ∙ length_channels m;
        proper = subst ProperMode e fresh.proper;
      }

  pub carried_fresh : length carried ≡ CARRIED_WORDS
  carried_fresh = ap length fresh.none_carried ∙ length-replicate {A = ℕ} CARRIED_WORDS 0

  -- its first word is its active set
  pub fresh_active : get_or front 0 0 ≡ m.active
  fresh_active = ap (λ (f : List ℕ). get_or f 0 0) fresh.front_is

  -- what comes of it
  pub unlisted_comes : (n : ℕ) → m.active ≡ 0 → ModeComes m n (Ok tt) front carried
  unlisted_comes n e = (empty_part, ((λ h. absurd (h e)), (λ h. refl)), fresh.front_is ∙ sym (empty_front m), fresh.none_carried ∙ sym empty_carried)

  pub fresh_planned : (p : ModePlan) → front_words (head_with (head_in front) p) (actor_in front) (times_at p) ≡ planned_front m p
  fresh_planned p =
      let e = fresh.front_is in
      ap₂ (λ (h : Head) (l : List ℕ). head_words (head_with h p) ++ l)
      (ap head_in e ∙ front_head (head_of m) (actor_at m) (λ i. no_times) fresh.proper.active)
      (joined_same ACTORS (λ i. actor_words (actor_in front i) (times_at p i)) (λ i. actor_words (actor_at m i) (times_at p i))
      (λ i l. ap (λ (a : Actor). actor_words a (times_at p i)) (ap (λ (f : List ℕ). actor_in f i) e ∙ front_actor (head_of m) (actor_at m) (λ i. no_times) i l)))

-- parts that stand in memory one behind the other, and one more of them
module _ (k : ℕ) (f : ℕ → ModePlan → List ℕ) (each : (j : ℕ) (p : ModePlan) → length (f j p) ≡ k) (ps : List ModePlan) (long : length ps ≡ MODES) (m : ℕ) (h : m < MODES) where
  pub part_at : take (k * m + k - k * m) (drop (k * m) (joined MODES (λ j. f j (get_or ps j no_part)))) ≡ f m (get_or ps m no_part)
  part_at = part_is k m (joined MODES (λ j. f j (get_or ps j no_part))) ∙ joined_part k (λ j. f j (get_or ps j no_part)) (λ j. each j (get_or ps j no_part)) MODES m h

  pub part_more : (p : ModePlan) (b : List ℕ) → b ≡ f m p
      → put_mid (k * m) (k * m + k - k * m) (joined MODES (λ j. f j (get_or ps j no_part))) b ≡ joined MODES (λ j. f j (get_or (set ps m p) j no_part))
  part_more p b e =
      let wide : k * m + k - k * m ≡ k = omega arith in
      ap₂ (λ (w : ℕ) (x : List ℕ). put_mid (k * m) w (joined MODES (λ j. f j (get_or ps j no_part))) x) wide (e ∙ ap (f m) (sym (get_or-set_same ps m p no_part (omega arith))))
      ∙ joined_put k MODES m (λ j. f j (get_or ps j no_part)) (λ j. f j (get_or (set ps m p) j no_part)) (λ j. each j (get_or ps j no_part)) h
      (λ j l n. ap (f j) (sym (get_or-set_other ps m j p no_part n)))

pub length_carried : (p : ModePlan) → length (carried_words p) ≡ CARRIED_WORDS
unfolding joined
length_carried p = refl

-- the memory of a table, of whose modes the first m are planned
module _ (t : Table) (channels : List ℕ) where
  pub record Coming (fronts carried : List ℕ) (m : ℕ) : Type 0 where
    pub parts : List ModePlan
    pub found : FoundParts t parts m
    pub fronts_long : length fronts ≡ TABLE_WORDS
    pub carried_long : length carried ≡ CARRIED_WORDS * MODES
    pub fronts_are : fronts ≡ planned_fronts t parts
    pub carried_are : carried ≡ all_carried parts

  length_fronts : (ps : List ModePlan) → length (planned_fronts t ps) ≡ TABLE_WORDS
  length_fronts ps = length_joined FRONT_WORDS (λ m. planned_front (mode_at t m) (get_or ps m no_part)) (λ m. length_planned (mode_at t m) (get_or ps m no_part)) MODES

  length_behind : (ps : List ModePlan) → length (all_carried ps) ≡ CARRIED_WORDS * MODES
  length_behind ps = length_joined CARRIED_WORDS (λ m. carried_words (get_or ps m no_part)) (λ m. length_carried (get_or ps m no_part)) MODES

  -- by its parts
  coming : {fronts carried : List ℕ} {m : ℕ} (ps : List ModePlan) → FoundParts t ps m → fronts ≡ planned_fronts t ps → carried ≡ all_carried ps → Coming fronts carried m
  coming ps found e g =
      record { parts = ps; found = found; fronts_long = ap length e ∙ length_fronts ps; carried_long = ap length g ∙ length_behind ps; fronts_are = e; carried_are = g }

  pub coming_none : (fronts carried : List ℕ) → Fresh t fronts channels carried → Coming fronts carried 0
  coming_none fronts carried fresh =
      let at : (j : ℕ) → j < MODES → get_or (replicate MODES empty_part) j no_part ≡ empty_part = λ j h. get_or-replicate MODES j empty_part no_part h in
      coming (replicate MODES empty_part) (filled_none MODES (IsPart t) empty_part no_part)
      (fresh.fronts_are ∙ joined_same MODES _ _ (λ j h. sym (ap (planned_front (mode_at t j)) (at j h) ∙ empty_front (mode_at t j))))
      (fresh.none_carried ∙ sym (joined_same MODES _ (λ j. replicate CARRIED_WORDS 0) (λ j h. ap carried_words (at j h) ∙ empty_carried) ∙ zeros_joined CARRIED_WORDS MODES))

  module _ (proper : ProperTable t) (is : channels ≡ table_channels t) (m : ℕ) (h : m < MODES) (fronts carried : List ℕ) (so_far : Coming fronts carried m) where
    abbrev M : Mode
    M = mode_at t m

    abbrev ps : List ModePlan
    ps = so_far.parts

    -- the memory of mode m, by its two ends
    abbrev front : List ℕ
    front = take (FRONT_WORDS * m + FRONT_WORDS - FRONT_WORDS * m) (drop (FRONT_WORDS * m) fronts)

    abbrev bytes : List ℕ
    bytes = take (CHANNELS_BYTES * m + CHANNELS_BYTES - CHANNELS_BYTES * m) (drop (CHANNELS_BYTES * m) channels)

    abbrev behind : List ℕ
    behind = take (CARRIED_WORDS * m + CARRIED_WORDS - CARRIED_WORDS * m) (drop (CARRIED_WORDS * m) carried)

    none : get_or ps m no_part ≡ empty_part
    none = so_far.found.ahead m (le_refl m) h

    at_hand : FreshMode M front bytes behind
    at_hand =
        record {
          proper = proper.mode m h;
          front_is = ap (λ (l : List ℕ). take (FRONT_WORDS * m + FRONT_WORDS - FRONT_WORDS * m) (drop (FRONT_WORDS * m) l)) so_far.fronts_are
              ∙ part_at FRONT_WORDS (λ j. planned_front (mode_at t j)) (λ j. length_planned (mode_at t j)) ps so_far.found.long m h ∙ ap (planned_front M) none ∙ empty_front M;
          channels_are = ap (λ (l : List ℕ). take (CHANNELS_BYTES * m + CHANNELS_BYTES - CHANNELS_BYTES * m) (drop (CHANNELS_BYTES * m) l)) is
              ∙ part_is CHANNELS_BYTES m (table_channels t) ∙ joined_part CHANNELS_BYTES (λ j. channels_of (mode_at t j)) (λ j. length_channels (mode_at t j)) MODES m h;
          none_carried = ap (λ (l : List ℕ). take (CARRIED_WORDS * m + CARRIED_WORDS - CARRIED_WORDS * m) (drop (CARRIED_WORDS * m) l)) so_far.carried_are
              ∙ part_at CARRIED_WORDS (λ j. carried_words) (λ j. length_carried) ps so_far.found.long m h ∙ ap carried_words none ∙ empty_carried;
        }

    mode_is : mode_in front bytes ≡ M
    mode_is = ap₂ mode_in at_hand.front_is at_hand.channels_are ∙ mode_in_law M (proper.mode m h) (head_of M) refl refl (λ i. no_times)

    pub coming_fresh : FreshMode (mode_in front bytes) front bytes behind
    coming_fresh = subst (λ (m : Mode). FreshMode m front bytes behind) (sym mode_is) at_hand

    -- one mode more is planned, or it refuses the table
    told : (b : Result (Unit {0}) Refusal) (n : ℕ) (f c : List ℕ) → n ≡ number_of m → ModeComes (mode_in front bytes) n b f c → ModeComes M (number_of m) b f c
    told b n f c e comes = transport (λ i. ModeComes (mode_is i) (e i) b f c) comes

    pub coming_next : (n : ℕ) (f c : List ℕ) → n ≡ number_of m → ModeComes (mode_in front bytes) n (Ok tt) f c
        → Coming (put_mid (FRONT_WORDS * m) (FRONT_WORDS * m + FRONT_WORDS - FRONT_WORDS * m) fronts f) (put_mid (CARRIED_WORDS * m) (CARRIED_WORDS * m + CARRIED_WORDS - CARRIED_WORDS * m) carried c) (m + 1)
    coming_next n f c e comes =
        let (p, any, fe, ce) = told (Ok tt) n f c e comes in
        coming (set ps m p) (filled_set MODES (IsPart t) empty_part no_part ps m p h (part_comes t proper m h p any) so_far.found)
        (ap (λ (l : List ℕ). put_mid (FRONT_WORDS * m) (FRONT_WORDS * m + FRONT_WORDS - FRONT_WORDS * m) l f) so_far.fronts_are
        ∙ part_more FRONT_WORDS (λ j. planned_front (mode_at t j)) (λ j. length_planned (mode_at t j)) ps so_far.found.long m h p f fe)
        (ap (λ (l : List ℕ). put_mid (CARRIED_WORDS * m) (CARRIED_WORDS * m + CARRIED_WORDS - CARRIED_WORDS * m) l c) so_far.carried_are
        ∙ part_more CARRIED_WORDS (λ j. carried_words) (λ j. length_carried) ps so_far.found.long m h p c ce)

    pub coming_refused : (n : ℕ) (r : Refusal) (f c : List ℕ) → n ≡ number_of m → ModeComes (mode_in front bytes) n (Err r) f c → Refusing t r
    coming_refused n r f c e comes = refusal_comes t proper m h ps r so_far.found (told (Err r) n f c e comes)

  pub coming_all : (fronts carried : List ℕ) (m : ℕ) → m ≡ MODES → Coming fronts carried m → ModesCome t (Ok tt) fronts carried
  coming_all fronts carried m e c = (c.parts, subst (FoundParts t c.parts) e c.found, c.fronts_are, c.carried_are)

pub channels_long : (t : Table) → length (table_channels t) ≡ TABLE_BYTES
channels_long t = length_joined CHANNELS_BYTES (λ j. channels_of (mode_at t j)) (λ j. length_channels (mode_at t j)) MODES

-- the words of a mode that are laid from memory are as many as it has
pub length_laid_at : (fronts channels carried : List ℕ) (m : ℕ) → length (laid_at fronts channels carried m) ≡ MODE_WORDS
length_laid_at fronts channels carried m =
    length-append (stretch_of (FRONT_WORDS * m) FRONT_WORDS fronts) (joined CHANNELS (channel_laid (stretch_of (CHANNELS_BYTES * m) CHANNELS_BYTES channels) (stretch_of (CARRIED_WORDS * m) CARRIED_WORDS carried)))
    ∙ ap₂ ◌+◌ (length_tab FRONT_WORDS (λ j. get_or fronts (FRONT_WORDS * m + j) 0)) (length_laid (stretch_of (CHANNELS_BYTES * m) CHANNELS_BYTES channels) (stretch_of (CARRIED_WORDS * m) CARRIED_WORDS carried))
