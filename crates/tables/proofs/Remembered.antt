-- What stands in memory is what was put there. Assumes nothing.
use mathlib.Core.Path.{◌≡◌, refl, sym, ap, ap₂, ◌∙◌}
use mathlib.Core.List.{List, [], ◌∷◌, ◌++◌}
use Prim.Native.Nat.{ℕ, zero, suc, ◌+◌, ◌*◌, ◌-◌, ◌%◌, ◌^◌, ◌<◌}
use native.Mathlib.Decide.{dec_lt, ℕ_discrete}
use native.Mathlib.Nat.{mod-eq_of_lt, mul-zero, mul-suc}
use native.Mathlib.Omega.{arith}
use borrow.Rule.Slice.PartMut.{put_mid}
use lib.ListN.{length, get_or, set, take, drop, length-append, length-take, length-drop, take-append-drop, get_or-append, replicate, get_or-replicate, replicate-append-replicate}
use lib.Seq.{get_or-set_same, get_or-set_other, take_all, get_or-append-add, get_or-take, get_or-drop, drop-drop, drop-set-lt}
use Rattle.numbers.specs.Bits.{adding}
use Rattle.numbers.specs.Joined.{joined, part, get_d_part, joined_same, joined_part, length_joined, get_or_joined}
use Rattle.numbers.specs.Tab.{tab, stretch_of, length_tab, get_or_tab, is_tab, tab_same, placing, placing_there, placing_aside}
use Rattle.numbers.proofs.Laid.{part_is, parts_joined, put_second, joined_put, stretch_is}
use Rattle.units.specs.Firings.{firing}
use Rattle.units.specs.Ticks.{tick}
use Rattle.units.specs.Limits.{MODES, ACTORS, CHANNELS, PHASES}
use Rattle.tables.specs.declared.Actor.{Actor}
use Rattle.tables.specs.declared.Channel.{Channel}
use Rattle.tables.specs.declared.memory.Head.{Head}
use Rattle.tables.specs.declared.memory.Times.{Times}
use Rattle.tables.specs.Shape.{Mode, Table, no_actor, no_channel, no_mode, empty_mode, empty_table, actor_at, channel_at, mode_at, with_actor, with_channel, with_mode}
use Rattle.tables.specs.Proper.{ProperMode, ProperTable}
use Rattle.tables.specs.Memory.{HEAD_WORDS, ACTOR_WORDS, FRONT_WORDS, CHANNEL_BYTES, CHANNELS_BYTES, TABLE_WORDS, TABLE_BYTES, actors_at, channels_at, head_words, actor_words, front_words, rate_words, channel_bytes, channels_bytes, head_in, actor_in, times_in, times_of, channel_in, mode_in, no_times, head_of, front_of, channels_of, table_fronts, table_channels, table_in, with_active}

pub length_front : (h : Head) (actor : ℕ → Actor) (times : ℕ → Times) → length (front_words h actor times) ≡ FRONT_WORDS
length_front h actor times =
    length-append (head_words h) (joined ACTORS (λ i. actor_words (actor i) (times i)))
    ∙ ap (λ (n : ℕ). HEAD_WORDS + n) (length_joined ACTOR_WORDS (λ i. actor_words (actor i) (times i)) (λ i. refl) ACTORS)

-- the words of a mode's own numbers, as they stand
abbrev pub raw_head : List ℕ → List ℕ
raw_head f = get_or f 0 0 ∷ get_or f 1 0 ∷ get_or f 2 0 ∷ get_or f 3 0 ∷ get_or f 4 0 ∷ []

module _ (f : List ℕ) (long : length f ≡ FRONT_WORDS) where
  -- the words of actor i
  word : (i j : ℕ) → j < ACTOR_WORDS → get_or (part ACTOR_WORDS i (drop HEAD_WORDS f)) j 0 ≡ get_or f (actors_at i + j) 0
  word i j h =
      get_d_part ACTOR_WORDS i j (drop HEAD_WORDS f) 0 h ∙ get_or-drop HEAD_WORDS f (ACTOR_WORDS * i + j) 0 ∙ ap (λ (n : ℕ). get_or f n 0) (omega arith)

  pub actor_words_law : (i : ℕ) → i < ACTORS → part ACTOR_WORDS i (drop HEAD_WORDS f) ≡ actor_words (actor_in f i) (times_in f i)
  unfolding tab
  actor_words_law i h =
      is_tab ACTOR_WORDS (λ j. get_or f (actors_at i + j) 0) (part ACTOR_WORDS i (drop HEAD_WORDS f)) 0
      (length-take ACTOR_WORDS (drop (ACTOR_WORDS * i) (drop HEAD_WORDS f)) ∙ simp length-drop (omega arith)) (word i)
      ∙ let z : actors_at i + 0 ≡ actors_at i = omega arith in rw z

  -- a front is its own numbers and its actors
  pub front_parts : f ≡ raw_head f ++ joined ACTORS (λ i. actor_words (actor_in f i) (times_in f i))
  unfolding tab
  front_parts =
      sym (take-append-drop HEAD_WORDS f)
      ∙ ap₂ ◌++◌
      (is_tab HEAD_WORDS (λ j. get_or f j 0) (take HEAD_WORDS f) 0 (length-take HEAD_WORDS f ∙ omega arith) (λ j h. get_or-take HEAD_WORDS f j 0 h))
      (sym (take_all (ACTOR_WORDS * ACTORS) (drop HEAD_WORDS f) (omega (arith, length-drop HEAD_WORDS f))) ∙ parts_joined ACTOR_WORDS _ (drop HEAD_WORDS f) ACTORS actor_words_law)

  -- with another actor at place i, and another first word
  module _ (i w : ℕ) (a : Actor) (h : i < ACTORS) where
    abbrev rest : List ℕ → List ℕ
    rest l = w ∷ (get_or f 1 0 ∷ get_or f 2 0 ∷ get_or f 3 0 ∷ get_or f 4 0 ∷ l)

    swapped : put_mid (actors_at i) ACTOR_WORDS (set f 0 w) (actor_words a (times_in f i)) ≡ rest (joined ACTORS (λ j. actor_words (placing i a (actor_in f) j) (times_in f j)))
    swapped =
        ap (λ (l : List ℕ). put_mid (actors_at i) ACTOR_WORDS (set l 0 w) (actor_words a (times_in f i))) front_parts
        ∙ put_second (ACTOR_WORDS * i) ACTOR_WORDS (rest []) (joined ACTORS (λ j. actor_words (actor_in f j) (times_in f j))) (actor_words a (times_in f i))
        ∙ ap rest
        (ap (λ (b : Actor). put_mid (ACTOR_WORDS * i) ACTOR_WORDS (joined ACTORS (λ j. actor_words (actor_in f j) (times_in f j))) (actor_words b (times_in f i))) (sym (placing_there i a (actor_in f)))
        ∙ joined_put ACTOR_WORDS ACTORS i (λ j. actor_words (actor_in f j) (times_in f j)) (λ j. actor_words (placing i a (actor_in f) j) (times_in f j)) (λ j. refl) h
        (λ j l n. ap (λ (b : Actor). actor_words b (times_in f j)) (sym (placing_aside i j a (actor_in f) n))))

    -- what was planned of it stays
    kept : times_of (take ACTOR_WORDS (drop (actors_at i) (set f 0 w))) ≡ times_in f i
    kept =
        let e : take ACTOR_WORDS (drop (actors_at i) (set f 0 w)) ≡ part ACTOR_WORDS i (drop HEAD_WORDS f)
        = ap (take ACTOR_WORDS) (drop-set-lt (actors_at i) f 0 w (omega arith) ∙ sym (drop-drop (ACTOR_WORDS * i) HEAD_WORDS f)) in
        ap times_of (e ∙ actor_words_law i h)

    pub front_listed : (b : List ℕ) → w ≡ adding (head_in f).active i → b ≡ actor_words a (times_of (take (actors_at i + ACTOR_WORDS - actors_at i) (drop (actors_at i) (set f 0 w))))
        → put_mid (actors_at i) (actors_at i + ACTOR_WORDS - actors_at i) (set f 0 w) b ≡ front_words (with_active (head_in f) i) (placing i a (actor_in f)) (times_in f)
    front_listed b e g =
        let wide : actors_at i + ACTOR_WORDS - actors_at i ≡ ACTOR_WORDS = omega arith in
        let q : b ≡ actor_words a (times_in f i) = g ∙ ap (λ (k : ℕ). actor_words a (times_of (take k (drop (actors_at i) (set f 0 w))))) wide ∙ ap (actor_words a) kept in
        ap₂ (λ (k : ℕ) (l : List ℕ). put_mid (actors_at i) k (set f 0 w) l) wide q
        ∙ swapped
        ∙ ap (λ (v : ℕ). v ∷ (get_or f 1 0 ∷ get_or f 2 0 ∷ get_or f 3 0 ∷ get_or f 4 0 ∷ joined ACTORS (λ j. actor_words (placing i a (actor_in f) j) (times_in f j)))) e

-- the bytes of a channel, as they stand
abbrev raw_channel : List ℕ → List ℕ
raw_channel l = tab CHANNEL_BYTES (λ j. get_or l j 0)

-- the bytes of a channel, stored one after the other
pub channel_stored : (l : List ℕ) (c : Channel) → length l ≡ CHANNEL_BYTES → length c.production ≡ PHASES → length c.consumption ≡ PHASES
    → set (set (put_mid (2 + PHASES) PHASES (put_mid 2 PHASES l c.production) c.consumption) 0 c.from) 1 c.to ≡ channel_bytes c
unfolding tab
channel_stored l c long made taken =
    let w : l ≡ raw_channel l = is_tab CHANNEL_BYTES (λ j. get_or l j 0) l 0 long (λ j h. refl) in
    let p = is_tab PHASES (λ j. get_or c.production j 0) c.production 0 made (λ j h. refl) in
    let q = is_tab PHASES (λ j. get_or c.consumption j 0) c.consumption 0 taken (λ j h. refl) in
    ap (λ (x : List ℕ). set (set (put_mid (2 + PHASES) PHASES (put_mid 2 PHASES x c.production) c.consumption) 0 c.from) 1 c.to) w
    ∙ ap₂ (λ (x y : List ℕ). set (set (put_mid (2 + PHASES) PHASES (put_mid 2 PHASES (raw_channel l) x) y) 0 c.from) 1 c.to) p q

-- channel k stands in its stretch of the bytes
pub channel_stretch : (l : List ℕ) (k : ℕ) → stretch_of (channels_at k) CHANNEL_BYTES l ≡ channel_bytes (channel_in l k)
unfolding tab
channel_stretch l k = let z : channels_at k + 0 ≡ channels_at k = omega arith in rw z

module _ (l : List ℕ) (long : length l ≡ CHANNELS_BYTES) where
  channel_bytes_law : (k : ℕ) → k < CHANNELS → part CHANNEL_BYTES k l ≡ channel_bytes (channel_in l k)
  channel_bytes_law k h =
      is_tab CHANNEL_BYTES (λ j. get_or l (channels_at k + j) 0) (part CHANNEL_BYTES k l) 0
      (length-take CHANNEL_BYTES (drop (channels_at k) l) ∙ simp length-drop (omega arith)) (λ j b. get_d_part CHANNEL_BYTES k j l 0 b)
      ∙ channel_stretch l k

  -- with another channel at place k
  pub channels_listed : (k : ℕ) (c : Channel) (b : List ℕ) → k < CHANNELS → b ≡ channel_bytes c
      → put_mid (channels_at k) (channels_at k + CHANNEL_BYTES - channels_at k) l b ≡ channels_bytes (placing k c (channel_in l))
  unfolding tab
  channels_listed k c b h e =
      let wide : channels_at k + CHANNEL_BYTES - channels_at k ≡ CHANNEL_BYTES = omega arith in
      let whole : l ≡ channels_bytes (channel_in l)
      = sym (take_all (CHANNEL_BYTES * CHANNELS) l (omega arith)) ∙ parts_joined CHANNEL_BYTES (λ j. channel_bytes (channel_in l j)) l CHANNELS channel_bytes_law in
      ap₂ (λ (w : ℕ) (m : List ℕ). put_mid (channels_at k) w m b) wide whole
      ∙ ap (put_mid (channels_at k) CHANNEL_BYTES (channels_bytes (channel_in l))) (e ∙ ap channel_bytes (sym (placing_there k c (channel_in l))))
      ∙ joined_put CHANNEL_BYTES CHANNELS k (λ j. channel_bytes (channel_in l j)) (λ j. channel_bytes (placing k c (channel_in l) j)) (λ j. refl) h
      (λ j g n. ap channel_bytes (sym (placing_aside k j c (channel_in l) n)))

-- a channel whose rates are read from its bytes
pub channel_read : (l : List ℕ) (k : ℕ) (made taken : List ℕ) → length l ≡ CHANNELS_BYTES → k < CHANNELS
    → made ≡ take (channels_at k + 2 + PHASES - (channels_at k + 2)) (drop (channels_at k + 2) l)
    → taken ≡ take (channels_at k + 2 + PHASES + PHASES - (channels_at k + 2 + PHASES)) (drop (channels_at k + 2 + PHASES) l)
    → ◌≡◌ {A = Channel} (record { from = get_or l (channels_at k) 0; to = get_or l (channels_at k + 1) 0; production = made; consumption = taken }) (channel_in l k)
channel_read l k made taken long h p q =
    ap₂ (λ (x y : List ℕ). record { from = get_or l (channels_at k) 0; to = get_or l (channels_at k + 1) 0; production = x; consumption = y })
    (p ∙ stretch_is (channels_at k + 2) (channels_at k + 2 + PHASES) PHASES l refl (omega arith) ∙ tab_same PHASES _ _ (λ j b. ap (λ (n : ℕ). get_or l n 0) (omega arith)))
    (q ∙ stretch_is (channels_at k + 2 + PHASES) (channels_at k + 2 + PHASES + PHASES) PHASES l refl (omega arith) ∙ tab_same PHASES _ _ (λ j b. ap (λ (n : ℕ). get_or l n 0) (omega arith)))

-- what is put into a front is found there
module _ (h : Head) (actor : ℕ → Actor) (times : ℕ → Times) where
  abbrev words : List ℕ
  words = front_words h actor times

  pub front_head : h.active < 2 ^ ACTORS → head_in words ≡ h
  front_head l = ap (λ (n : ℕ). record { active = n; count = h.count; iteration = h.iteration; source = h.source; sink = h.sink }) (mod-eq_of_lt l)

  module _ (i : ℕ) (l : i < ACTORS) where
    at : (n j : ℕ) → n ≡ actors_at i + j → j < ACTOR_WORDS → get_or words n 0 ≡ get_or (actor_words (actor i) (times i)) j 0
    at n j e b =
        let f : n ≡ HEAD_WORDS + (ACTOR_WORDS * i + j) = omega arith in
        ap (λ (n : ℕ). get_or words n 0) f
        ∙ get_or-append-add (head_words h) (joined ACTORS (λ i. actor_words (actor i) (times i))) (ACTOR_WORDS * i + j) 0
        ∙ get_or_joined ACTOR_WORDS (λ i. actor_words (actor i) (times i)) (λ i. refl) ACTORS i j 0 l b

    pub front_actor : actor_in words i ≡ actor i
    front_actor =
        let p = at (actors_at i) 0 (omega arith) (omega arith) in
        let q = at (actors_at i + 1) 1 refl (omega arith) in
        let r = at (actors_at i + 2) 2 refl (omega arith) in
        λ t. record { phases = p t; wcet = tick (q t); processor = r t }

    pub front_times : times_in words i ≡ times i
    front_times =
        let p = at (actors_at i + 3) 3 refl (omega arith) in
        let q = at (actors_at i + 4) 4 refl (omega arith) in
        let r = at (actors_at i + 5) 5 refl (omega arith) in
        λ t. record { firings = firing (p t); period = tick (q t); start = tick (r t) }

-- and what is put into bytes
module _ (channel : ℕ → Channel) (k : ℕ) (l : k < CHANNELS) where
  byte : (j : ℕ) → j < CHANNEL_BYTES → get_or (channels_bytes channel) (channels_at k + j) 0 ≡ get_or (channel_bytes (channel k)) j 0
  unfolding tab
  byte j b = get_or_joined CHANNEL_BYTES (λ k. channel_bytes (channel k)) (λ k. refl) CHANNELS k j 0 l b

  module _ (made : length (channel k).production ≡ PHASES) (taken : length (channel k).consumption ≡ PHASES) where
    abbrev c : Channel
    c = channel k

    made_back : (j : ℕ) → j < PHASES → get_or c.production j 0 ≡ get_or (channels_bytes channel) (channels_at k + (2 + j)) 0
    made_back j b =
        sym (byte (2 + j) (omega arith)
        ∙ get_or-append-add (c.from ∷ c.to ∷ []) (rate_words c.production ++ rate_words c.consumption) j 0
        ∙ get_or-append (rate_words c.production) (rate_words c.consumption) 0 j (omega (arith, length_tab PHASES (λ j. get_or c.production j 0)))
        ∙ get_or_tab PHASES (λ j. get_or c.production j 0) j 0 b)

    taken_back : (j : ℕ) → j < PHASES → get_or c.consumption j 0 ≡ get_or (channels_bytes channel) (channels_at k + (2 + PHASES + j)) 0
    unfolding tab
    taken_back j b =
        sym (byte (2 + PHASES + j) (omega arith)
        ∙ get_or-append-add (c.from ∷ c.to ∷ rate_words c.production) (rate_words c.consumption) j 0
        ∙ get_or_tab PHASES (λ j. get_or c.consumption j 0) j 0 b)

    pub channel_back : channel_in (channels_bytes channel) k ≡ c
    channel_back =
        let z : channels_at k ≡ channels_at k + 0 = omega arith in
        let p : get_or (channels_bytes channel) (channels_at k) 0 ≡ c.from = ap (λ (n : ℕ). get_or (channels_bytes channel) n 0) z ∙ byte 0 (omega arith) in
        let q = byte 1 (omega arith) in
        let r = sym (is_tab PHASES _ c.production 0 made made_back) in
        let s = sym (is_tab PHASES _ c.consumption 0 taken taken_back) in
        λ t. record { from = p t; to = q t; production = r t; consumption = s t }

-- the mode whose numbers stand in a front, with its channels, is found there
module _ (m : Mode) (proper : ProperMode m) (h : Head) (active : h.active ≡ m.active) (count : h.count ≡ m.count) (times : ℕ → Times) where
  rates : (k : ℕ) → k < CHANNELS → (length (channel_at m k).production ≡ PHASES) × (length (channel_at m k).consumption ≡ PHASES)
  rates k l = go (dec_lt k m.count)
    where
      go : Dec (k < m.count) → (length (channel_at m k).production ≡ PHASES) × (length (channel_at m k).consumption ≡ PHASES)
      go (yes g) = let c = proper.channel k g in (c.production.long, c.consumption.long)
      go (no n) = rw (proper.no_channel_law k l (omega arith)) (refl, refl)

  pub mode_in_law : mode_in (front_words h (actor_at m) times) (channels_of m) ≡ m
  mode_in_law =
      let a : h.active % 2 ^ ACTORS ≡ m.active = mod-eq_of_lt (omega (arith, proper.active)) ∙ active in
      let b = sym (is_tab ACTORS (actor_in (front_words h (actor_at m) times)) m.actors no_actor proper.actors_long (λ i l. sym (front_actor h (actor_at m) times i l))) in
      let c = sym (is_tab CHANNELS (channel_in (channels_of m)) m.channels no_channel proper.channels_long (λ k l. let (p, q) = rates k l in sym (channel_back (channel_at m) k l p q))) in
      λ t. record { active = a t; count = count t; actors = b t; channels = c t }

-- the actor and the channel at a place of what memory holds
pub actor_in_law : (f l : List ℕ) (i : ℕ) → i < ACTORS → actor_at (mode_in f l) i ≡ actor_in f i
actor_in_law f l i h = get_or_tab ACTORS (actor_in f) i no_actor h

pub channel_in_law : (f l : List ℕ) (k : ℕ) → k < CHANNELS → channel_at (mode_in f l) k ≡ channel_in l k
channel_in_law f l k h = get_or_tab CHANNELS (channel_in l) k no_channel h

-- zeros behind zeros
abbrev zeros : ℕ → List ℕ
zeros n = replicate n 0

pub zeros_joined : (k n : ℕ) → joined n (λ i. zeros k) ≡ zeros (k * n)
unfolding joined
zeros_joined k zero = ap zeros (sym (mul-zero k))
zeros_joined k (suc n) = ap (λ (l : List ℕ). l ++ zeros k) (zeros_joined k n) ∙ replicate-append-replicate (k * n) k 0 ∙ ap zeros (sym (mul-suc k n))

-- nothing is listed in a mode, and in a table, whose memory is all 0
pub empty_front : front_of empty_mode ≡ zeros FRONT_WORDS
unfolding joined
empty_front = refl

pub empty_channels : channels_of empty_mode ≡ zeros CHANNELS_BYTES
unfolding joined tab
empty_channels = refl

pub empty_fronts : table_fronts empty_table ≡ zeros TABLE_WORDS
empty_fronts = joined_same MODES _ _ (λ m h. ap front_of (get_or-replicate MODES m empty_mode no_mode h) ∙ empty_front) ∙ zeros_joined FRONT_WORDS MODES

pub empty_bytes : table_channels empty_table ≡ zeros TABLE_BYTES
empty_bytes = joined_same MODES _ _ (λ m h. ap channels_of (get_or-replicate MODES m empty_mode no_mode h) ∙ empty_channels) ∙ zeros_joined CHANNELS_BYTES MODES

-- the memory of a mode has its length, whatever the mode
pub length_channels : (m : Mode) → length (channels_of m) ≡ CHANNELS_BYTES
unfolding tab
length_channels m = length_joined CHANNEL_BYTES (λ k. channel_bytes (channel_at m k)) (λ k. refl) CHANNELS

-- a list with another element at a place, by its elements
module _ {A B : Type 0} (f : A → B) (l : List A) (i : ℕ) (v d : A) (h : i < length l) where
  placed : (g : ℕ → A) (j : ℕ) → f (g j) ≡ f (get_or l j d) → f (placing i v g j) ≡ f (get_or (set l i v) j d)
  placed g j e = go (ℕ_discrete j i)
    where
      go : Dec (j ≡ i) → f (placing i v g j) ≡ f (get_or (set l i v) j d)
      go (yes q) = rw q (ap f (placing_there i v g ∙ sym (get_or-set_same l i v d h)))
      go (no n) = ap f (placing_aside i j v g n) ∙ e ∙ ap f (sym (get_or-set_other l i j v d n))

-- the memory of a mode with an actor or a channel more
module _ (M : Mode) (proper : ProperMode M) where
  pub front_with_actor_law : (i : ℕ) (a : Actor) → i < ACTORS
      → front_words (with_active (head_in (front_of M)) i) (placing i a (actor_in (front_of M))) (times_in (front_of M)) ≡ front_of (with_actor M i a)
  front_with_actor_law i a h =
      let f = front_of M in
      ap₂ (λ (x : Head) (l : List ℕ). head_words (with_active x i) ++ l) (front_head (head_of M) (actor_at M) (λ j. no_times) proper.active)
      (joined_same ACTORS (λ j. actor_words (placing i a (actor_in f) j) (times_in f j)) (λ j. actor_words (actor_at (with_actor M i a) j) no_times)
      (λ j l. ap (actor_words (placing i a (actor_in f) j)) (front_times (head_of M) (actor_at M) (λ j. no_times) j l)
      ∙ placed (λ (b : Actor). actor_words b no_times) M.actors i a no_actor (omega (arith, proper.actors_long)) (actor_in f) j
      (ap (λ (b : Actor). actor_words b no_times) (front_actor (head_of M) (actor_at M) (λ j. no_times) j l))))

  pub channels_with_channel : (c : Channel) → M.count < CHANNELS → channels_bytes (placing M.count c (channel_in (channels_of M))) ≡ channels_of (with_channel M c)
  unfolding tab
  channels_with_channel c h =
      let l = channels_of M in
      joined_same CHANNELS (λ j. channel_bytes (placing M.count c (channel_in l) j)) (λ j. channel_bytes (channel_at (with_channel M c) j))
      (λ j b. placed channel_bytes M.channels M.count c no_channel (omega (arith, proper.channels_long)) (channel_in l) j
      (sym (channel_bytes_law l (length_channels M) j b) ∙ joined_part CHANNEL_BYTES (λ k. channel_bytes (channel_at M k)) (λ k. refl) CHANNELS j b))

-- the memory of a table, in which each mode has k numbers: what stands of a mode there, and the table with another mode in its place
module _ (k : ℕ) (f : Mode → List ℕ) (each : (M : Mode) → length (f M) ≡ k) (t : Table) (m : ℕ) (h : m < MODES) where
  pub memory_part : take (k * m + k - k * m) (drop (k * m) (joined MODES (λ j. f (mode_at t j)))) ≡ f (mode_at t m)
  memory_part = part_is k m (joined MODES (λ j. f (mode_at t j))) ∙ joined_part k (λ j. f (mode_at t j)) (λ j. each (mode_at t j)) MODES m h

  module _ (long : length t.modes ≡ MODES) (M : Mode) where
    there : mode_at (with_mode t m M) m ≡ M
    there = get_or-set_same t.modes m M no_mode (omega arith)

    pub memory_put : (b : List ℕ) → b ≡ f M → put_mid (k * m) (k * m + k - k * m) (joined MODES (λ j. f (mode_at t j))) b ≡ joined MODES (λ j. f (mode_at (with_mode t m M) j))
    memory_put b e =
        let wide : k * m + k - k * m ≡ k = omega arith in
        ap₂ (λ (w : ℕ) (x : List ℕ). put_mid (k * m) w (joined MODES (λ j. f (mode_at t j))) x) wide (e ∙ ap f (sym there))
        ∙ joined_put k MODES m (λ j. f (mode_at t j)) (λ j. f (mode_at (with_mode t m M) j)) (λ j. each (mode_at t j)) h
        (λ j l n. ap f (sym (get_or-set_other t.modes m j M no_mode n)))

    pub memory_same : f (mode_at t m) ≡ f M → joined MODES (λ j. f (mode_at t j)) ≡ joined MODES (λ j. f (mode_at (with_mode t m M) j))
    memory_same e = joined_same MODES (λ j. f (mode_at t j)) (λ j. f (mode_at (with_mode t m M) j)) (λ j l. go j (ℕ_discrete j m))
      where
        go : (j : ℕ) → Dec (j ≡ m) → f (mode_at t j) ≡ f (mode_at (with_mode t m M) j)
        go j (yes q) = rw q (e ∙ ap f (sym there))
        go j (no n) = ap f (sym (get_or-set_other t.modes m j M no_mode n))

-- a proper table is found in its memory
pub table_in_law : (t : Table) → ProperTable t → table_in (table_fronts t) (table_channels t) ≡ t
table_in_law t proper =
    ap (λ (l : List Mode). let r : Table = record { modes = l } in r)
    (sym (is_tab MODES _ t.modes no_mode proper.modes_long
    (λ m l.
    let M = mode_at t m in
    sym (ap₂ mode_in
    (joined_part FRONT_WORDS (λ m. front_of (mode_at t m)) (λ m. length_front (head_of (mode_at t m)) (actor_at (mode_at t m)) (λ i. no_times)) MODES m l)
    (joined_part CHANNELS_BYTES (λ m. channels_of (mode_at t m)) (λ m. length_channels (mode_at t m)) MODES m l)
    ∙ mode_in_law M (proper.mode m l) (head_of M) refl refl (λ i. no_times)))))
