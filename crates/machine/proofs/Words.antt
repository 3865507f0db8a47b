-- What the words of a plan tell of its modes. Assumes nothing.
use mathlib.Core.Path.{◌≡◌, refl, sym, ap, ◌∙◌}
use mathlib.Core.List.{List}
use Prim.Native.Nat.{ℕ, ◌+◌, ◌-◌, ◌*◌, ◌<◌}
use native.Mathlib.Omega.{arith}
use lib.ListN.{length, get_or, take, drop}
use lib.Seq.{take_all}
use Rattle.numbers.specs.Tab.{get_or_replicated}
use Rattle.units.specs.Limits.{MODES, ACTORS}
use Rattle.units.specs.declared.Tick.{Tick}
use Rattle.units.specs.Ticks.{tick}
use Rattle.tables.specs.Shape.{Mode, Table, mode_at}
use Rattle.schedule.proofs.Sound.{at_actor}
use Rattle.planning.specs.declared.ModePlan.{ModePlan}
use Rattle.planning.specs.Shape.{Plan}
use Rattle.planning.specs.Plan.{part_at, change_at, Listed}
use Rattle.planning.proofs.Bounds.{planned_small}
use Rattle.planning.proofs.Unique.{listed_or_not}
use Rattle.layout.specs.Words.{CHANGES, MODE_WORDS, CHANGE_WORDS, WORDS, mode_words, mode_words_at, changes_words}
use Rattle.layout.specs.Blocks.{pace_of}
use Rattle.layout.specs.Laws.{part_words, changes_words_law, pace_words, offset_words, length_changes}
use Rattle.numbers.proofs.Laid.{part_is}
use Rattle.numbers.specs.Joined.{part}
use Rattle.planner.specs.Plans.{Stored, Leaves}
use Rattle.planner.proofs.Leaving.{stored_leaves, leaves_proper, leaves_long}
use Rattle.machine.specs.Steps.{pace_at}

sink_word : (m : Mode) (p : ModePlan) → get_or (mode_words m p) 4 0 ≡ p.sink
unfolding mode_words
sink_word m p = refl

module _ {t : Table} {w : Plan} {words : List ℕ} (l : Leaves t w words) where
  -- the words of the mode at place k
  module _ (k : ℕ) (h : k < MODES) where
    stand : take (MODE_WORDS * k + MODE_WORDS - MODE_WORDS * k) (drop (MODE_WORDS * k) words) ≡ mode_words_at t w k
    stand = part_is MODE_WORDS k words ∙ ap (part MODE_WORDS k) l.left ∙ part_words t w k h

    sink_small : (part_at w k).sink < ACTORS
    sink_small = ((planned_small t (leaves_proper l) w l.planned).part k h).sink

    sink_there : get_or (take (MODE_WORDS * k + MODE_WORDS - MODE_WORDS * k) (drop (MODE_WORDS * k) words)) 4 0 < ACTORS
    sink_there = rw (stand, sink_word (mode_at t k) (part_at w k)) sink_small

    pub pace_told : pace_of (take (MODE_WORDS * k + MODE_WORDS - MODE_WORDS * k) (drop (MODE_WORDS * k) words)) ≡ pace_at t w k
    pace_told = ap pace_of stand ∙ pace_words (mode_at t k) (part_at w k) sink_small

    -- the start-up of a mode ends where its sink starts
    pub startup_is : get_or (part_at w k).starts (part_at w k).sink (tick 0) ≡ (part_at w k).startup
    startup_is = go (listed_or_not t k h)
      where
        go : Dec (Listed t k) → get_or (part_at w k).starts (part_at w k).sink (tick 0) ≡ (part_at w k).startup
        go (yes y) =
            let p = (l.planned.part k h).listed y in
            let s = p.balanced.ends.1.0 in
            ap (λ (b : List Tick). get_or b (part_at w k).sink (tick 0)) p.starts ∙ at_actor (mode_at t k) p.begin (tick 0) (part_at w k).sink (s.0, s.1) ∙ sym p.startup
        go (no n) = rw ((l.planned.part k h).unlisted n) (get_or_replicated ACTORS 0 (tick 0))

  pub offset_told : (o n : ℕ) → o < MODES → n < MODES
      → tick (get_or (take (CHANGE_WORDS * CHANGES) (drop (MODE_WORDS * MODES) words)) (CHANGE_WORDS * (MODES * o + n) + 1) 0) ≡ (change_at w o n).offset
  offset_told o n ho hn =
      let e : take (CHANGE_WORDS * CHANGES) (drop (MODE_WORDS * MODES) words) ≡ changes_words w.changes
      = ap (λ (l : List ℕ). take (CHANGE_WORDS * CHANGES) (drop (MODE_WORDS * MODES) l)) l.left ∙ ap (take (CHANGE_WORDS * CHANGES)) (changes_words_law t w)
      ∙ take_all (CHANGE_WORDS * CHANGES) (changes_words w.changes) (omega (arith, length_changes w.changes)) in
      ap tick (ap (λ (l : List ℕ). get_or l (CHANGE_WORDS * (MODES * o + n) + 1) 0) e ∙ offset_words w.changes (MODES * o + n) (omega arith))

pub stored_long : {words : List ℕ} → Stored words → length words ≡ WORDS
stored_long {words} s = let (t, w, l) = stored_leaves words s in leaves_long l

pub stored_sink : (words : List ℕ) → Stored words → (k : ℕ) → k < MODES → get_or (take (MODE_WORDS * k + MODE_WORDS - MODE_WORDS * k) (drop (MODE_WORDS * k) words)) 4 0 < ACTORS
stored_sink words s k h = let (t, w, l) = stored_leaves words s in sink_there l k h
