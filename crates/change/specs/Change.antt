-- The rules of a change: overlap, offset and worst delay.
use Rattle.std.specs.Prelude.{◌≡◌, refl, Bool, ◌&&◌, List, ◌⊎◌, ℕ, ◌+◌, ◌-◌, ◌≤◌, leb, ltb, get_or}
use Rattle.std.proofs.Common.{sym, ap, subst, ◌∙◌, inr, arith}
use Rattle.numbers.specs.Extreme.{Least, Greatest, least_unique, greatest_unique}
use Rattle.numbers.specs.Fraction.{AtMost, plus}
use Rattle.numbers.specs.declared.fraction.Fraction.{Fraction}
use Rattle.units.specs.Limits.{PROCESSORS, limit_of}
use Rattle.units.specs.Ticks.{tick}
use Rattle.units.specs.declared.Tick.{Tick}
use Rattle.tables.specs.Shape.{Mode, Active}
use Rattle.graph.specs.Load.{is_on, asked_of}
use Rattle.change.specs.declared.Timing.{Timing}

-- a mode and what is planned of it: its actors' periods and starts, its iteration, the tick set for the sink's first firing, and the end of its start-up
pub record ModeTimes : Type 0 where
  pub mode : Mode
  pub iteration : Tick
  pub periods : List Tick
  pub starts : List Tick
  pub sink_start : Tick
  pub startup : Tick

-- an actor's period, and its start
abbrev pub period_in : ModeTimes → ℕ → Tick
period_in r i = get_or r.periods i (tick 0)

abbrev pub start_of : ModeTimes → ℕ → ℕ
start_of r i = (get_or r.starts i (tick 0)).0

-- Overlap: the greatest of 0 and S(old) - S(new), over the actors in both modes.
abbrev pub Overlap : ModeTimes → ModeTimes → Tick → Type 0
Overlap old new x = Greatest (λ v. (v ≡ 0) ⊎ ((i : ℕ) × Active old.mode i × Active new.mode i × (v ≡ start_of old i - start_of new i))) x.0

-- a mode by itself asks of no processor more than its limit
abbrev pub Bearable : (ℕ → Fraction) → ModeTimes → Type 0
Bearable limit r = (p : ℕ) → 1 ≤ p → p ≤ PROCESSORS → AtMost (asked_of r.mode (period_in r) (is_on r.mode p)) (limit p)

-- what those actors of a mode on processor p that count ask together
abbrev pub asked_on : ModeTimes → ℕ → (ℕ → Bool) → Fraction
asked_on r p counts = asked_of r.mode (period_in r) (λ i. is_on r.mode p i && counts i)

-- the load of processor p at tick k of the change, with offset d: an old actor counts while k is below its start, a new one once k is at least d + its start
abbrev pub load_at : ModeTimes → ModeTimes → ℕ → ℕ → ℕ → Fraction
load_at old new d k p = plus (asked_on old p (λ i. ltb k (start_of old i))) (asked_on new p (λ i. leb (d + start_of new i) k))

-- with offset d each processor's load is at most its limit, at every tick from d to the end of the old mode's start-up
abbrev pub Bears : (ℕ → Fraction) → ModeTimes → ModeTimes → ℕ → Type 0
Bears limit old new d = (k p : ℕ) → d ≤ k → k ≤ old.startup.0 → 1 ≤ p → p ≤ PROCESSORS → AtMost (load_at old new d k p) (limit p)

-- Offset: the least tick count from the overlap to the end of the old mode's start-up that has this.
abbrev pub Offset : (ℕ → Fraction) → ModeTimes → ModeTimes → Tick → Tick → Type 0
Offset limit old new x d = Least (λ n. (x.0 ≤ n) × (n ≤ old.startup.0) × Bears limit old new n) d.0

-- Worst delay: the offset, the sink's start in the new mode, and an iteration of the old one less a tick.
abbrev pub worst_of : ModeTimes → ModeTimes → Tick → Tick
worst_of old new d = tick (d.0 + new.sink_start.0 + old.iteration.0 - 1)

pub record Changes (old new : ModeTimes) (r : Timing) : Type 0 where
  pub overlap : Overlap old new r.overlap
  pub offset : Offset limit_of old new r.overlap r.offset
  pub worst : r.worst ≡ worst_of old new r.offset

-- an actor in both modes starts anew only once it has ended
pub starts_after : (old new : ModeTimes) {r : Timing} → Changes old new r → (i : ℕ) → Active old.mode i → Active new.mode i → start_of old i ≤ r.offset.0 + start_of new i
starts_after old new {r} p i a b =
    omega (arith, p.overlap.greatest (start_of old i - start_of new i) (inr (i, a, b, refl)), p.offset.holds.0)

-- one offset, and one change
pub offset_unique : (limit : ℕ → Fraction) (old new : ModeTimes) (x : Tick) {d e : Tick} → Offset limit old new x d → Offset limit old new x e → d ≡ e
offset_unique limit old new x p q = λ i. tick (least_unique _ p q i)

pub changes_unique : (old new : ModeTimes) {r s : Timing} → Changes old new r → Changes old new s → r ≡ s
changes_unique old new {r} {s} p q =
    let x : r.overlap ≡ s.overlap = λ i. tick (greatest_unique _ p.overlap q.overlap i) in
    let d : r.offset ≡ s.offset =
    offset_unique limit_of old new r.overlap p.offset (subst (λ (x : Tick). Offset limit_of old new x s.offset) (sym x) q.offset) in
    let w : r.worst ≡ s.worst = p.worst ∙ ap (worst_of old new) d ∙ sym q.worst in
    λ i. record { overlap = x i; offset = d i; worst = w i }
