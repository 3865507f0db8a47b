-- The words of a plan hold it. Assumes nothing.
use mathlib.Core.Path.{◌≡◌, refl, sym, ap, ap₂, ◌∙◌}
use mathlib.Core.List.{List}
use Prim.Native.Nat.{ℕ, ◌^◌, ◌<◌}
use lib.ListN.{get_or}
use lib.Seq.{take_at, drop_at}
use Rattle.numbers.specs.Joined.{joined, part, joined_part}
use Rattle.numbers.specs.Tab.{tab, is_tab}
use Rattle.units.specs.Limits.{MODES, ACTORS, CHANNELS}
use Rattle.units.specs.Firings.{firing}
use Rattle.units.specs.Ticks.{tick}
use Rattle.units.specs.Tokens.{token}
use Rattle.tables.specs.declared.memory.Head.{Head}
use Rattle.tables.specs.declared.memory.Times.{Times}
use Rattle.tables.specs.Shape.{Mode, Table, mode_at, actor_at}
use Rattle.tables.specs.Proper.{ProperTable}
use Rattle.tables.specs.Memory.{FRONT_WORDS, head_of, times_in}
use Rattle.tables.proofs.Remembered.{front_head, front_times}
use Rattle.change.specs.Running.{startup_in}
use Rattle.planning.specs.declared.ModePlan.{ModePlan}
use Rattle.planning.specs.Shape.{Plan}
use Rattle.planning.specs.Nothing.{no_part, no_timing}
use Rattle.planning.specs.Plan.{part_at, Listed, IsPart, Planned}
use Rattle.planning.proofs.Bounds.{SmallPart, part_small}
use Rattle.planning.proofs.Running.{startup_sink}
use Rattle.planning.proofs.Unique.{listed_or_not}
use Rattle.layout.specs.Words.{CHANGES, CHANNEL_WORDS, MODE_WORDS, CHANGE_WORDS, head_with, times_at, planned_front, channel_words_at, mode_words, change_words_at, words_of}
use Rattle.layout.specs.Blocks.{link_of, timing_of}
use Rattle.layout.specs.Read.{part_in, part_of, plan_of}
use Rattle.layout.specs.Laws.{length_planned, length_channel_at, part_words, changes_words_law}

-- what is planned of a mode is read back from its words, where it is small and its start-up ends with the start of its sink
module _ (m : Mode) (p : ModePlan) (active : m.active < 2 ^ ACTORS) (small : SmallPart p) (startup : p.startup ≡ get_or p.starts p.sink (tick 0)) where
  abbrev f : List ℕ
  f = planned_front m p

  abbrev l : List ℕ
  l = joined CHANNELS (channel_words_at m p)

  front_back : (i : ℕ) → i < ACTORS → times_in f i ≡ times_at p i
  front_back i h = front_times (head_with (head_of m) p) (actor_at m) (times_at p) i h

  channel_back : (k : ℕ) → k < CHANNELS → part CHANNEL_WORDS k l ≡ channel_words_at m p k
  channel_back k h = joined_part CHANNEL_WORDS (channel_words_at m p) (length_channel_at m p) CHANNELS k h

  part_in_law : part_in f l ≡ p
  unfolding tab
  part_in_law =
      let e = front_head (head_with (head_of m) p) (actor_at m) (times_at p) active in
      let u : startup_in f ≡ p.startup = ap (λ (h : Head). (times_in f h.sink).start) e ∙ ap (λ (t : Times). t.start) (front_back p.sink small.sink) ∙ sym startup in
      let a = sym (is_tab ACTORS (λ i. (times_in f i).firings) p.firings (firing 0) small.firings_long (λ i h. ap (λ (t : Times). t.firings) (sym (front_back i h)))) in
      let b = sym (is_tab ACTORS (λ i. (times_in f i).period) p.periods (tick 0) small.periods_long (λ i h. ap (λ (t : Times). t.period) (sym (front_back i h)))) in
      let c = sym (is_tab ACTORS (λ i. (times_in f i).start) p.starts (tick 0) small.starts_long (λ i h. ap (λ (t : Times). t.start) (sym (front_back i h)))) in
      let d = sym (is_tab CHANNELS (λ k. (link_of (part CHANNEL_WORDS k l)).size) p.sizes (token 0) small.sizes_long (λ k h. ap (λ (w : List ℕ). (link_of w).size) (sym (channel_back k h)))) in
      let g = sym (is_tab CHANNELS (λ k. (link_of (part CHANNEL_WORDS k l)).tokens) p.tokens (token 0) small.tokens_long (λ k h. ap (λ (w : List ℕ). (link_of w).tokens) (sym (channel_back k h)))) in
      λ t. record {
        source = (e t).source;
        sink = (e t).sink;
        iteration = (e t).iteration;
        startup = u t;
        firings = a t;
        periods = b t;
        starts = c t;
        sizes = d t;
        tokens = g t;
      }

  pub part_back : part_of (mode_words m p) ≡ p
  unfolding part_of mode_words
  part_back = ap₂ part_in (take_at f l FRONT_WORDS (length_planned m p)) (drop_at f l FRONT_WORDS (length_planned m p)) ∙ part_in_law

-- the start-up of every mode of a plan, listed or not, ends with the start of its sink
part_startup : (t : Table) (k : ℕ) (p : ModePlan) → ProperTable t → k < MODES → IsPart t k p → p.startup ≡ get_or p.starts p.sink (tick 0)
part_startup t k p proper l is = go (listed_or_not t k l)
  where
    go : Dec (Listed t k) → p.startup ≡ get_or p.starts p.sink (tick 0)
    go (yes h) = startup_sink (mode_at t k) (proper.mode k l) p (is.listed h)
    go (no n) = rw (is.unlisted n) refl

-- a plan is read back from its words
pub plan_back : (t : Table) (w : Plan) → ProperTable t → Planned t w → plan_of (words_of t w) ≡ w
unfolding plan_of
plan_back t w proper p =
    let parts = sym (is_tab MODES (λ m. part_of (part MODE_WORDS m (words_of t w))) w.parts no_part p.parts_long
    (λ m l. sym (ap part_of (part_words t w m l)
    ∙ part_back (mode_at t m) (part_at w m) (proper.mode m l).active (part_small t proper m (part_at w m) l (p.part m l)) (part_startup t m (part_at w m) proper l (p.part m l))))) in
    let changes = sym (is_tab CHANGES _ w.changes no_timing p.changes_long
    (λ n l. sym (ap (λ (x : List ℕ). timing_of (part CHANGE_WORDS n x)) (changes_words_law t w) ∙ ap timing_of (joined_part CHANGE_WORDS (change_words_at w.changes) (λ k. refl) CHANGES n l)))) in
    λ i. record { parts = parts i; changes = changes i }
