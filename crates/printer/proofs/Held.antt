-- What the words of a plan hold, part by part, as the lines are printed from it. Assumes nothing.
use mathlib.Core.Path.{◌≡◌, refl, sym, ap, ap₂, ◌∙◌}
use mathlib.Core.List.{List}
use Prim.Native.Nat.{ℕ, ◌+◌, ◌*◌, ◌-◌, ◌%◌, ◌<◌}
use native.Mathlib.Omega.{arith}
use lib.ListN.{get_or, take, drop}
use lib.Seq.{take-take, drop-drop}
use Rattle.numbers.specs.Joined.{stretch, part, get_or_joined}
use Rattle.numbers.specs.Tab.{get_or_tab}
use Rattle.units.specs.Limits.{MODES, ACTORS, CHANNELS}
use Rattle.units.specs.Firings.{firing}
use Rattle.units.specs.Ticks.{tick}
use Rattle.units.specs.Tokens.{token}
use Rattle.tables.specs.Shape.{Mode, no_mode, no_channel, mode_at, channel_at}
use Rattle.tables.specs.declared.Channel.{Channel}
use Rattle.tables.specs.declared.memory.Head.{Head}
use Rattle.tables.specs.declared.memory.Times.{Times}
use Rattle.tables.specs.Memory.{FRONT_WORDS, CHANNEL_BYTES, head_in, times_in, channel_in}
use Rattle.change.specs.declared.Timing.{Timing}
use Rattle.planning.specs.Nothing.{no_part, no_timing}
use Rattle.planning.specs.Plan.{part_at}
use Rattle.layout.specs.declared.load.Link.{Link}
use Rattle.layout.specs.Words.{CHANGES, CHANNEL_WORDS, MODE_WORDS, CHANGE_WORDS}
use Rattle.layout.specs.Blocks.{link_of, timing_of}
use Rattle.layout.specs.Read.{cut_bytes, bytes_in, mode_of, part_of, graph_of, plan_of}
use Rattle.layout.specs.Laws.{length_cut}
use Rattle.printer.specs.Printed.{firings_at, period_at, start_at, size_at, tokens_at, change_in, actor_text, channel_text, change_text, mode_text, SmallPart, Small}
use Rattle.printer.specs.Links.{link_text}

-- k words from place a on, by their two ends
abbrev slice : ℕ → ℕ → List ℕ → List ℕ
slice a k l = take (a + k - a) (drop a l)

slice_is : (a k : ℕ) (l : List ℕ) → slice a k l ≡ stretch a k l
slice_is a k l = let e : a + k - a ≡ k = omega arith in ap (λ (n : ℕ). take n (drop a l)) e

slice_part : (a k i : ℕ) (l : List ℕ) → slice (a + k * i) k l ≡ part k i (drop a l)
slice_part a k i l = slice_is (a + k * i) k l ∙ ap (take k) (sym (drop-drop (k * i) a l))

-- the modes and the changes of the plan that words hold
module _ (l : List ℕ) where
  abbrev mode_slice : ℕ → List ℕ
  mode_slice m = slice (MODE_WORDS * m) MODE_WORDS l

  graph_at : (m : ℕ) → m < MODES → mode_at (graph_of l) m ≡ mode_of (mode_slice m)
  unfolding graph_of
  graph_at m b = get_or_tab MODES (λ m. mode_of (part MODE_WORDS m l)) m no_mode b ∙ ap mode_of (sym (slice_is (MODE_WORDS * m) MODE_WORDS l))

  plan_at : (m : ℕ) → m < MODES → part_at (plan_of l) m ≡ part_of (mode_slice m)
  unfolding plan_of
  plan_at m b = get_or_tab MODES (λ m. part_of (part MODE_WORDS m l)) m no_part b ∙ ap part_of (sym (slice_is (MODE_WORDS * m) MODE_WORDS l))

  pub mode_held : (m : ℕ) → m < MODES → mode_text m (mode_at (graph_of l) m) (part_at (plan_of l) m) ≡ mode_text m (mode_of (mode_slice m)) (part_of (mode_slice m))
  mode_held m b = ap₂ (mode_text m) (graph_at m b) (plan_at m b)

  pub small_held : (m : ℕ) → m < MODES → Small (graph_of l) (plan_of l) → SmallPart (mode_of (mode_slice m)) (part_of (mode_slice m))
  small_held m b s = rw (← graph_at m b, ← plan_at m b) (s.parts m b)

  pub active_held : (m : ℕ) (h : Head) → m < MODES → h ≡ head_in (slice (MODE_WORDS * m) FRONT_WORDS l) → h.active ≡ (mode_at (graph_of l) m).active
  unfolding mode_of
  active_held m h b e =
      let a = MODE_WORDS * m in
      let front = slice_is a FRONT_WORDS l ∙ sym (take-take FRONT_WORDS MODE_WORDS (drop a l) (omega arith)) ∙ ap (take FRONT_WORDS) (sym (slice_is a MODE_WORDS l)) in
      ap (λ (h : Head). h.active) e ∙ ap (λ (f : List ℕ). (head_in f).active) front ∙ sym (ap (λ (M : Mode). M.active) (graph_at m b))

  pub change_held : (o n : ℕ) (active : List ℕ) (r : Timing) → o < MODES → n < MODES → r ≡ timing_of (slice (MODE_WORDS * MODES + CHANGE_WORDS * (MODES * o + n)) CHANGE_WORDS l)
      → change_text o n (get_or active o 0) (get_or active n 0) (change_in (plan_of l).changes o n) ≡ change_text o n (get_or active o 0) (get_or active n 0) r
  unfolding plan_of
  change_held o n active r b d e =
      let held = get_or_tab CHANGES (λ i. timing_of (part CHANGE_WORDS i (drop (MODE_WORDS * MODES) l))) (MODES * o + n) no_timing (omega arith) in
      ap (change_text o n (get_or active o 0) (get_or active n 0)) (held ∙ ap timing_of (sym (slice_part (MODE_WORDS * MODES) CHANGE_WORDS (MODES * o + n) l)) ∙ sym e)

-- the actors and the channels of the mode that its words hold
module _ (l : List ℕ) where
  abbrev front : List ℕ
  front = take FRONT_WORDS l

  abbrev back : List ℕ
  back = drop FRONT_WORDS l

  pub count_held : (h : Head) → h ≡ head_in front → h.count ≡ (mode_of l).count
  unfolding mode_of
  count_held h e = ap (λ (h : Head). h.count) e

  pub actor_held : (m i : ℕ) (h : Head) (t : Times) → i < ACTORS → h ≡ head_in front → t ≡ times_in front i
      → actor_text m (mode_of l).active i (firings_at (part_of l) i) (period_at (part_of l) i) (start_at (part_of l) i) ≡ actor_text m h.active i t.firings t.period t.start
  unfolding mode_of part_of
  actor_held m i h t b e g =
      rw (
        e,
        g,
        get_or_tab ACTORS (λ i. (times_in front i).firings) i (firing 0) b,
        get_or_tab ACTORS (λ i. (times_in front i).period) i (tick 0) b,
        get_or_tab ACTORS (λ i. (times_in front i).start) i (tick 0) b,
      )
      refl

  module _ (k : ℕ) (r : Link) (b : k < CHANNELS) (e : r ≡ link_of (slice (FRONT_WORDS + CHANNEL_WORDS * k) CHANNEL_WORDS l)) where
    link : r ≡ link_of (part CHANNEL_WORDS k back)
    link = e ∙ ap link_of (slice_part FRONT_WORDS CHANNEL_WORDS k l)

    channel_at_law : channel_at (mode_of l) k ≡ channel_in (bytes_in back) k
    unfolding mode_of
    channel_at_law = get_or_tab CHANNELS (channel_in (bytes_in back)) k no_channel b

    byte_at : (j : ℕ) → j < CHANNEL_BYTES → get_or (bytes_in back) (CHANNEL_BYTES * k + j) 0 ≡ get_or (part CHANNEL_WORDS k back) j 0 % 256
    byte_at j h =
        get_or_joined CHANNEL_BYTES (λ k. cut_bytes (part CHANNEL_WORDS k back)) (λ k. length_cut (part CHANNEL_WORDS k back)) CHANNELS k j 0 b h
        ∙ get_or_tab CHANNEL_BYTES (λ j. get_or (part CHANNEL_WORDS k back) j 0 % 256) j 0 h

    pub from_held : (channel_at (mode_of l) k).from ≡ r.from
    from_held =
        let z : CHANNEL_BYTES * k ≡ CHANNEL_BYTES * k + 0 = omega arith in
        ap (λ (c : Channel). c.from) channel_at_law ∙ ap (λ (n : ℕ). get_or (bytes_in back) n 0) z ∙ byte_at 0 (omega arith) ∙ sym (ap (λ (r : Link). r.from) link)

    pub to_held : (channel_at (mode_of l) k).to ≡ r.to
    to_held = ap (λ (c : Channel). c.to) channel_at_law ∙ byte_at 1 (omega arith) ∙ sym (ap (λ (r : Link). r.to) link)

    size_at_law : size_at (part_of l) k ≡ r.size
    unfolding part_of
    size_at_law = get_or_tab CHANNELS (λ k. (link_of (part CHANNEL_WORDS k back)).size) k (token 0) b ∙ sym (ap (λ (r : Link). r.size) link)

    tokens_at_law : tokens_at (part_of l) k ≡ r.tokens
    unfolding part_of
    tokens_at_law = get_or_tab CHANNELS (λ k. (link_of (part CHANNEL_WORDS k back)).tokens) k (token 0) b ∙ sym (ap (λ (r : Link). r.tokens) link)

    pub channel_held_law : (m : ℕ) → channel_text m (channel_at (mode_of l) k) (size_at (part_of l) k) (tokens_at (part_of l) k) ≡ link_text m r
    channel_held_law m = rw (from_held, to_held, size_at_law, tokens_at_law) refl
