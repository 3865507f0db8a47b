-- What is laid into the words of a mode, part by part. Assumes nothing.
use mathlib.Core.Path.{◌≡◌, refl, sym, ap, ap₂, subst₂, ◌∙◌}
use mathlib.Core.Bool.{Bool, cond}
use mathlib.Core.List.{List, ◌++◌, append_assoc}
use Prim.Native.Nat.{ℕ, ◌+◌, ◌-◌, ◌*◌, ◌≤◌, ◌<◌}
use native.Mathlib.Decide.{dec_lt}
use native.Mathlib.Omega.{arith}
use borrow.Rule.Slice.PartMut.{put_mid}
use borrow.Author.Tests.{lt-ltb, le-ltb}
use lib.Dec.{ltb}
use lib.ListN.{length, length-append, get_or, take, drop, length-take, length-drop, replicate, length-replicate}
use lib.Seq.{take_all, drop_at, get_or-take}
use Rattle.numbers.specs.Joined.{joined, part, joined_same, length_joined, joined_part}
use Rattle.numbers.specs.Tab.{tab, is_tab}
use Rattle.numbers.proofs.Laid.{Laid, laid_none, laid_put, laid_all, put_two, part_is, parts_joined, joined_put, stretch_joined, joined_zeros}
use Rattle.units.specs.Limits.{ACTORS, CHANNELS}
use Rattle.units.specs.declared.Tick.{Tick}
use Rattle.units.specs.Ticks.{tick}
use Rattle.tables.specs.declared.memory.Head.{Head}
use Rattle.tables.specs.declared.memory.Times.{Times}
use Rattle.tables.specs.declared.Actor.{Actor}
use Rattle.tables.specs.declared.Channel.{Channel}
use Rattle.tables.specs.Shape.{Mode, channel_at}
use Rattle.tables.specs.Memory.{HEAD_WORDS, ACTOR_WORDS, FRONT_WORDS, head_words, actor_words, front_words, channel_bytes, head_in, actors_at, actor_in, times_in, actor_of, times_of, mode_in}
use Rattle.tables.proofs.Remembered.{actor_words_law, channel_stretch, actor_in_law, channel_in_law}
use Rattle.planning.specs.declared.ModePlan.{ModePlan}
use Rattle.layout.specs.declared.load.Pace.{Pace}
use Rattle.layout.specs.Words.{CHANNEL_WORDS, MODE_WORDS, head_with, times_at, mode_words}
use Rattle.layout.specs.Blocks.{timed_actor, carried_at, carried_words, channel_laid, mode_laid, Closed, Ended}

-- an actor's words are the actor and what is planned of it
pub actor_whole : (l : List ℕ) → length l ≡ ACTOR_WORDS → l ≡ actor_words (actor_of l) (times_of l)
unfolding tab
actor_whole l long = is_tab ACTOR_WORDS (λ j. get_or l j 0) l 0 long (λ j h. refl)

-- the words of all actors, of which those below i have what is planned of them
module _ (l : List ℕ) (p : ModePlan) where
  abbrev by : ℕ → Bool → List ℕ
  by j b = actor_words (actor_of (part ACTOR_WORDS j l)) (cond b (times_at p j) (times_of (part ACTOR_WORDS j l)))

  abbrev pub Timed : List ℕ → ℕ → Type 0
  Timed words i = words ≡ joined ACTORS (λ j. by j (ltb j i))

  pub timed_none : length l ≡ ACTOR_WORDS * ACTORS → Timed l 0
  timed_none long =
      sym (take_all (ACTOR_WORDS * ACTORS) l (omega arith))
      ∙ parts_joined ACTOR_WORDS (λ j. by j (ltb j 0)) l ACTORS
      (λ j h. actor_whole (part ACTOR_WORDS j l) (length-take ACTOR_WORDS (drop (ACTOR_WORDS * j) l) ∙ simp length-drop (omega arith)) ∙ ap (by j) (sym (le-ltb j 0 (omega arith))))

  -- a place that is not i is as far with one more
  aside : (i j : ℕ) → (j ≡ i → ⊥) → ltb j i ≡ ltb j (i + 1)
  aside i j n = go (dec_lt j i)
    where
      go : Dec (j < i) → ltb j i ≡ ltb j (i + 1)
      go (yes h) = lt-ltb j i h ∙ sym (lt-ltb j (i + 1) (omega arith))
      go (no m) = le-ltb j i (omega arith) ∙ sym (le-ltb j (i + 1) (omega (arith, n)))

  pub timed_next : (words b : List ℕ) (i : ℕ) → i < ACTORS → Timed words i → b ≡ actor_words (actor_of (take (ACTOR_WORDS * i + ACTOR_WORDS - ACTOR_WORDS * i) (drop (ACTOR_WORDS * i) words))) (times_at p i)
      → Timed (put_mid (ACTOR_WORDS * i) (ACTOR_WORDS * i + ACTOR_WORDS - ACTOR_WORDS * i) words b) (i + 1)
  timed_next words b i h e g =
      let wide : ACTOR_WORDS * i + ACTOR_WORDS - ACTOR_WORDS * i ≡ ACTOR_WORDS = omega arith in
      let here : take (ACTOR_WORDS * i + ACTOR_WORDS - ACTOR_WORDS * i) (drop (ACTOR_WORDS * i) words) ≡ by i (ltb i i)
      = part_is ACTOR_WORDS i words ∙ ap (part ACTOR_WORDS i) e ∙ joined_part ACTOR_WORDS (λ j. by j (ltb j i)) (λ j. refl) ACTORS i h in
      let next : b ≡ by i (ltb i (i + 1)) = g ∙ ap (λ (w : List ℕ). actor_words (actor_of w) (times_at p i)) here ∙ ap (by i) (sym (lt-ltb i (i + 1) (omega arith))) in
      ap₂ (λ (k : ℕ) (w : List ℕ). put_mid (ACTOR_WORDS * i) k w b) wide e
      ∙ ap (put_mid (ACTOR_WORDS * i) ACTOR_WORDS (joined ACTORS (λ j. by j (ltb j i)))) next
      ∙ joined_put ACTOR_WORDS ACTORS i (λ j. by j (ltb j i)) (λ j. by j (ltb j (i + 1))) (λ j. refl) h (λ j l n. ap (by j) (aside i j n))

  pub timed_long : (words : List ℕ) (i : ℕ) → Timed words i → length words ≡ ACTOR_WORDS * ACTORS
  timed_long words i e = ap length e ∙ length_joined ACTOR_WORDS (λ j. by j (ltb j i)) (λ j. refl) ACTORS

  pub timed_all : (words : List ℕ) (i : ℕ) → i ≡ ACTORS → Timed words i → words ≡ joined ACTORS (timed_actor l p)
  timed_all words i e w = w ∙ joined_same ACTORS _ _ (λ j h. ap (by j) (lt-ltb j i (omega arith)))

-- what is planned of a mode, put into its front
module _ (f : List ℕ) (long : length f ≡ FRONT_WORDS) (p : ModePlan) where
  abbrev BACK : ℕ
  BACK = ACTOR_WORDS * ACTORS

  pub front_planned : (h a : List ℕ) → h ≡ head_words (head_with (head_in f) p) → a ≡ joined ACTORS (timed_actor (take BACK (drop HEAD_WORDS (put_mid 0 HEAD_WORDS f h))) p)
      → put_mid HEAD_WORDS BACK (put_mid 0 HEAD_WORDS f h) a ≡ front_words (head_with (head_in f) p) (actor_in f) (times_at p)
  front_planned h a e g =
      let back : take BACK (drop HEAD_WORDS (put_mid 0 HEAD_WORDS f h)) ≡ drop HEAD_WORDS f
      = ap (take BACK) (drop_at h (drop HEAD_WORDS f) HEAD_WORDS (ap length e)) ∙ take_all BACK (drop HEAD_WORDS f) (omega (arith, length-drop HEAD_WORDS f)) in
      let actors : a ≡ joined ACTORS (λ i. actor_words (actor_in f i) (times_at p i))
      = g ∙ joined_same ACTORS _ _ (λ i l. ap (λ (x : List ℕ). actor_words (actor_of (part ACTOR_WORDS i x)) (times_at p i)) back ∙ ap (λ (x : List ℕ). actor_words (actor_of x) (times_at p i)) (actor_words_law f long i l)) in
      put_two HEAD_WORDS BACK (head_words (head_with (head_in f) p)) _ f h a long refl (length_joined ACTOR_WORDS (λ i. actor_words (actor_in f i) (times_at p i)) (λ i. refl) ACTORS) e actors

-- the words of a mode, laid from its planned front, its bytes and what is planned of its channels
module _ (f l : List ℕ) (p : ModePlan) where
  pub channel_laid_law : (k : ℕ) → k < CHANNELS → channel_laid l (carried_words p) k ≡ channel_bytes (channel_at (mode_in f l) k) ++ carried_at p k
  channel_laid_law k h = ap₂ ◌++◌ (channel_stretch l k ∙ ap channel_bytes (sym (channel_in_law f l k h))) (stretch_joined 2 CHANNELS k (carried_at p) (λ j. refl) h)

  pub mode_laid_law : mode_laid (front_words (head_with (head_in f) p) (actor_in f) (times_at p)) l (carried_words p) ≡ mode_words (mode_in f l) p
  unfolding mode_words
  mode_laid_law =
      ap₂ (λ (x y : List ℕ). (head_words (head_with (head_in f) p) ++ x) ++ y)
      (joined_same ACTORS _ _ (λ i h. ap (λ (a : Actor). actor_words a (times_at p i)) (sym (actor_in_law f l i h))))
      (joined_same CHANNELS _ _ channel_laid_law)

-- channels that are laid have their number of words
pub length_channel_laid : (l c : List ℕ) (k : ℕ) → length (channel_laid l c k) ≡ CHANNEL_WORDS
unfolding tab
length_channel_laid l c k = refl

pub length_laid : (l c : List ℕ) → length (joined CHANNELS (channel_laid l c)) ≡ CHANNEL_WORDS * CHANNELS
length_laid l c = length_joined CHANNEL_WORDS (channel_laid l c) (length_channel_laid l c) CHANNELS

-- a mode put part by part: its front, its channels, and 0 behind the last
module _ (f l c : List ℕ) (closed : Closed f l c) (n : ℕ) (e : n ≡ (head_in f).count) where
  abbrev END : ℕ
  END = FRONT_WORDS + CHANNEL_WORDS * n

  pub counted : n ≤ CHANNELS
  counted = omega (arith, closed.count)

  closed_channels : joined CHANNELS (channel_laid l c) ≡ joined n (channel_laid l c) ++ replicate (CHANNEL_WORDS * (CHANNELS - n)) 0
  closed_channels =
      let whole : CHANNELS ≡ n + (CHANNELS - n) = omega (arith, counted) in
      ap (λ (k : ℕ). joined k (channel_laid l c)) whole ∙ joined_zeros CHANNEL_WORDS n (CHANNELS - n) (channel_laid l c) (λ k h b. closed.none k (omega arith) (omega arith))

  pub mode_put : (w x y z : List ℕ) → length w ≡ MODE_WORDS → length f ≡ FRONT_WORDS → x ≡ f → y ≡ joined n (channel_laid l c)
      → z ≡ replicate (length (take (MODE_WORDS - END) (drop END (put_mid FRONT_WORDS (END - FRONT_WORDS) (put_mid 0 FRONT_WORDS w x) y)))) 0
      → put_mid END (MODE_WORDS - END) (put_mid FRONT_WORDS (END - FRONT_WORDS) (put_mid 0 FRONT_WORDS w x) y) z ≡ mode_laid f l c
  mode_put w x y z long front xe ye ze =
      let v = put_mid FRONT_WORDS (END - FRONT_WORDS) (put_mid 0 FRONT_WORDS w x) y in
      let channels = length_joined CHANNEL_WORDS (channel_laid l c) (length_channel_laid l c) n in
      let wide : CHANNEL_WORDS * n ≡ END - FRONT_WORDS = omega arith in
      let first : Laid MODE_WORDS (f ++ joined n (channel_laid l c)) v
      = laid_put FRONT_WORDS (END - FRONT_WORDS) ye (laid_put {w = w} 0 FRONT_WORDS xe (laid_none long) refl front (omega arith)) front (channels ∙ wide) (omega (arith, counted)) in
      let behind : length (take (MODE_WORDS - END) (drop END v)) ≡ CHANNEL_WORDS * (CHANNELS - n)
      = length-take (MODE_WORDS - END) (drop END v) ∙ simp length-drop (omega (arith, first.long, counted)) in
      let end : length (f ++ joined n (channel_laid l c)) ≡ END = length-append f _ ∙ ap₂ ◌+◌ front channels in
      let rest : length (replicate {A = ℕ} (CHANNEL_WORDS * (CHANNELS - n)) 0) ≡ MODE_WORDS - END
      = length-replicate (CHANNEL_WORDS * (CHANNELS - n)) 0 ∙ omega (arith, counted) in
      laid_all (laid_put END (MODE_WORDS - END) (ze ∙ ap (λ (k : ℕ). replicate {A = ℕ} k 0) behind) first end rest (omega (arith, counted)))
      (length-append (f ++ joined n (channel_laid l c)) _ ∙ omega (arith, end, rest, counted))
      ∙ append_assoc f (joined n (channel_laid l c)) _ ∙ ap (λ (x : List ℕ). f ++ x) (sym closed_channels)

-- a channel that is not there is laid as 0
laid_none_there : (m : Mode) (p : ModePlan) (k : ℕ) → Ended m p → k < CHANNELS → m.count ≤ k → channel_bytes (channel_at m k) ++ carried_at p k ≡ replicate CHANNEL_WORDS 0
unfolding tab
laid_none_there m p k ended h b = ap₂ (λ (c : Channel) (l : List ℕ). channel_bytes c ++ l) (ended.no_channel_law k h b) (ended.none_carried k h b)

-- so the words of a mode that has an end are closed behind its last channel
pub ended_closed : (m : Mode) (p : ModePlan) (f l c : List ℕ) → Ended m p → (head_in f).count ≡ m.count → ((k : ℕ) → k < CHANNELS → channel_laid l c k ≡ channel_bytes (channel_at m k) ++ carried_at p k) → Closed f l c
ended_closed m p f l c ended count laid =
    record {
      count = omega (arith, count, ended.count);
      none = λ k h b. laid k h ∙ laid_none_there m p k ended h (omega (arith, count));
    }

-- a front that is copied, with what is planned of its mode
module _ (f l copied front carried : List ℕ) (p : ModePlan) (e : copied ≡ f) (front_is : front ≡ front_words (head_with (head_in copied) p) (actor_in copied) (times_at p)) (carried_are : carried ≡ carried_words p) where
  planned : front ≡ front_words (head_with (head_in f) p) (actor_in f) (times_at p)
  planned = front_is ∙ ap (λ (f : List ℕ). front_words (head_with (head_in f) p) (actor_in f) (times_at p)) e

  pub copied_closed : Ended (mode_in f l) p → Closed front l carried
  copied_closed ended = subst₂ (λ (x y : List ℕ). Closed x l y) (sym planned) (sym carried_are) (ended_closed (mode_in f l) p _ l (carried_words p) ended refl (channel_laid_law f l p))

  pub copied_laid : mode_laid front l carried ≡ mode_words (mode_in f l) p
  copied_laid = ap₂ (λ (x y : List ℕ). mode_laid x l y) planned carried_are ∙ mode_laid_law f l p

-- the pace of a mode that is listed stands in its front
pub pace_read : (w : List ℕ) (h : Head) (t : Times) → get_or w 4 0 < ACTORS → h ≡ head_in (take FRONT_WORDS w) → t ≡ times_in (take FRONT_WORDS w) h.sink
    → ◌≡◌ {A = Pace} (record { iteration = h.iteration; sink_start = t.start }) (record { iteration = tick (get_or w 2 0); sink_start = (times_in w (get_or w 4 0)).start })
pace_read w h t l e g =
    let sink : h.sink ≡ get_or w 4 0 = ap (λ (h : Head). h.sink) e ∙ get_or-take FRONT_WORDS w 4 0 (omega arith) in
    ap₂ (λ (i s : Tick). record { iteration = i; sink_start = s })
    (ap (λ (h : Head). h.iteration) e ∙ ap tick (get_or-take FRONT_WORDS w 2 0 (omega arith)))
    (ap (λ (t : Times). t.start) g
    ∙ ap (λ (n : ℕ). (times_in (take FRONT_WORDS w) n).start) sink
    ∙ ap tick (get_or-take FRONT_WORDS w (actors_at (get_or w 4 0) + 5) 0 (omega arith)))
