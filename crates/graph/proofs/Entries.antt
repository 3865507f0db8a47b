-- The entry that is found of an actor: a channel that leads to it. Assumes nothing.
use mathlib.Core.Path.{◌≡◌, refl, sym, subst, ◌∙◌}
use mathlib.Core.List.{List}
use Rattle.std.specs.Prelude.{Option, None, Some}
use mathlib.Core.Logic.{◌⊎◌, inl, inr, ⊎_elim}
use Prim.Native.Nat.{ℕ, zero, suc, ◌-◌, ◌<◌, ◌≤◌}
use native.Mathlib.Nat.{not-suc-le-zero, le_of_suc-le-suc, eq-or-lt_of_le, le_refl}
use native.Mathlib.Omega.{arith}
use native.Mathlib.Decide.{ℕ_discrete}
use lib.ListN.{length, get_or, set, length-set, length-replicate}
use lib.Seq.{get_or-set_same, get_or-set_other}
use Rattle.units.specs.Limits.{ACTORS}
use Rattle.tables.specs.declared.Channel.{Channel}
use Rattle.tables.specs.Shape.{Mode, channel_at}
use Rattle.tables.specs.Proper.{ProperMode}
use Rattle.graph.specs.Order.{Ranked}
use Rattle.graph.specs.Counts.{Entered, entries_from, entries_of}
use Rattle.graph.proofs.Sorted.{depth_joined}

-- one channel less, as a loop counts down
pub entries_next : (m : Mode) (k : ℕ) (es : List (Option ℕ)) (c : Channel) → 0 < k → c ≡ channel_at m (k - 1) → entries_from m k es ≡ entries_from m (k - 1) (set es c.to (Some (k - 1)))
unfolding entries_from
entries_next m zero es c h q = absurd (not-suc-le-zero h)
entries_next m (suc k) es c h q = let e : suc k - 1 ≡ k = omega arith in rw (q, e)

-- a channel that leads to actor i
abbrev LeadsTo : Mode → ℕ → Option ℕ → Type 0
LeadsTo m i entry = (k : ℕ) × (entry ≡ Some k) × (k < m.count) × ((channel_at m k).to ≡ i)

entry_leads : (m : Mode) (n i : ℕ) (es : List (Option ℕ)) → n ≤ m.count → i < length es → LeadsTo m i (get_or es i None) ⊎ ((k : ℕ) × (k < n) × ((channel_at m k).to ≡ i))
    → LeadsTo m i (get_or (entries_from m n es) i None)
unfolding entries_from
entry_leads m zero i es b l (inl p) = p
entry_leads m zero i es b l (inr (k, h, e)) = absurd (not-suc-le-zero h)
entry_leads m (suc n) i es b l w = entry_leads m n i (set es (channel_at m n).to (Some n)) (omega arith) (omega (arith, length-set es (channel_at m n).to (Some n))) (go (ℕ_discrete i (channel_at m n).to) w)
  where
    go : Dec (i ≡ (channel_at m n).to) → LeadsTo m i (get_or es i None) ⊎ ((k : ℕ) × (k < suc n) × ((channel_at m k).to ≡ i))
        → LeadsTo m i (get_or (set es (channel_at m n).to (Some n)) i None) ⊎ ((k : ℕ) × (k < n) × ((channel_at m k).to ≡ i))
    go (yes e) w =
        inl (subst (LeadsTo m i) (sym (rw e (get_or-set_same es (channel_at m n).to (Some n) None (rw e at l)))) (n, refl, b, sym e))
    go (no f) (inl p) = inl (subst (LeadsTo m i) (sym (get_or-set_other es (channel_at m n).to i (Some n) None f)) p)
    go (no f) (inr (k, h, e)) =
        ⊎_elim (λ (q : k ≡ n). absurd (f (sym e ∙ rw q))) (λ (h : k < n). inr (k, h, e)) (eq-or-lt_of_le (le_of_suc-le-suc h))

-- an actor that has a depth has an entry
pub entered : (m : Mode) (proper : ProperMode m) (ds : List ℕ) → Ranked m ds → Entered m (entries_of m) ds
entered m proper ds ranked i a h =
    let (j, (k, l, f, t)) = depth_joined m proper i (get_or ds i 0) (ranked.depth i a) h in
    entry_leads m m.count i _ (le_refl m.count) (omega (arith, a.0, length-replicate {A = Option ℕ} ACTORS None)) (inr (k, l, t))
