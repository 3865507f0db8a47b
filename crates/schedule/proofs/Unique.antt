-- A mode is scheduled in one way only. Assumes nothing.
use mathlib.Core.Path.{◌≡◌, sym, ap, subst, ◌∙◌}
use mathlib.Core.List.{List}
use Prim.Native.Nat.{ℕ, ◌<◌}
use native.Mathlib.Nat.{le_antisymm}
use native.Mathlib.Omega.{arith}
use native.Mathlib.Decide.{dec_lt}
use lib.ListN.{get_or}
use lib.Seq.{ext_get_or}
use Rattle.numbers.specs.Extreme.{Least, least_unique, greatest_unique}
use Rattle.units.specs.Limits.{CHANNELS}
use Rattle.units.specs.declared.Tick.{Tick}
use Rattle.units.specs.declared.Token.{Token}
use Rattle.units.specs.Ticks.{tick}
use Rattle.units.specs.Tokens.{token}
use Rattle.tables.specs.Shape.{Mode}
use Rattle.graph.specs.declared.Judgement.{Judgement}
use Rattle.std.specs.Prelude.{Result, Ok, Err}
use Rattle.schedule.specs.declared.Late.{Late as Lateness}
use Rattle.schedule.specs.declared.Timetable.{Timetable}
use Rattle.schedule.specs.Starts.{Starts, Late}
use Rattle.schedule.specs.Scheduled.{Sizes, Times, late_by, Scheduled, late, on_time}

module _ (m : Mode) where
  -- one table has the least starts
  pub starts_unique : (ps : List Tick) {s t : ℕ → Tick} → Starts m ps s → Starts m ps t → s ≡ t
  starts_unique ps {s} {t} p q = λ n i. tick (le_antisymm (p.least t q.timely i) (q.least s p.timely i) n)

  sizes_unique : (ps : List Tick) (s : ℕ → Tick) (a b : List Token) → Sizes m ps s a → Sizes m ps s b → a ≡ b
  sizes_unique ps s a b p q = ext_get_or (token 0) a b (p.long ∙ sym q.long) (λ k l. go k (omega (arith, p.long)) (dec_lt k m.count))
    where
      go : (k : ℕ) → k < CHANNELS → Dec (k < m.count) → get_or a k (token 0) ≡ get_or b k (token 0)
      go k l (yes h) = λ n. token (greatest_unique _ (p.size k h) (q.size k h) n)
      go k l (no h) = p.no_size k l (omega (arith, h)) ∙ sym (q.no_size k l (omega (arith, h)))

  module _ (j : Judgement) where
    times_unique : (s : ℕ → Tick) (a b : Timetable) → Times m j s a → Times m j s b → a ≡ b
    times_unique s a b p q = λ n. record {
      startup = (p.startup ∙ sym q.startup) n;
      starts = (p.starts ∙ sym q.starts) n;
      sizes = sizes_unique j.periods s a.sizes b.sizes p.sizes q.sizes n;
      tokens = (p.tokens ∙ sym q.tokens) n;
    }

    pub scheduled_unique : {a b : Result Timetable Lateness} → Scheduled m j a → Scheduled m j b → a ≡ b
    scheduled_unique (late {a} s p l) (late t q k) =
        ap (λ (a : ℕ). Err (late_by a)) (least_unique (Late m t j.sink) (subst (λ s. Least (Late m s j.sink) a) (starts_unique j.periods p q) l) k)
    scheduled_unique (late {a} s p l) (on_time t q none k) = absurd (none a (subst (λ s. Late m s j.sink a) (starts_unique j.periods p q) l.holds))
    scheduled_unique (on_time s p none l) (late {a} t q k) = absurd (none a (subst (λ s. Late m s j.sink a) (starts_unique j.periods q p) k.holds))
    scheduled_unique (on_time {r} s p none l) (on_time t q also k) =
        ap Ok (times_unique t r _ (subst (λ s. Times m j s r) (starts_unique j.periods p q) l) k)
