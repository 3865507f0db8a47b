-- What comes of a mode, as part of what comes of a table. Assumes nothing.
use mathlib.Core.Path.{◌≡◌, subst₂}
use mathlib.Core.List.{List}
use Prim.Native.Nat.{ℕ, ◌+◌, ◌*◌, ◌/◌, ◌%◌, ◌<◌}
use native.Mathlib.Omega.{arith}
use native.Mathlib.Decide.{ℕ_discrete}
use lib.ListN.{get_or}
use Rattle.numbers.specs.Tab.{get_or_tab}
use Rattle.units.specs.Limits.{MODES}
use Rattle.terms.specs.declared.refusal.Refusal.{Refusal}
use Rattle.tables.specs.Shape.{Table, mode_at}
use Rattle.tables.specs.Proper.{ProperTable}
use Rattle.change.specs.Running.{Running}
use Rattle.change.specs.declared.Timing.{Timing}
use Rattle.planning.specs.declared.ModePlan.{ModePlan}
use Rattle.planning.specs.Shape.{Plan}
use Rattle.std.specs.Prelude.{Ok, Err}
use Rattle.planning.specs.Nothing.{no_part}
use Rattle.planning.specs.Plan.{change_at, Listed, IsPart, IsChange, Planned}
use Rattle.planning.specs.Changes.{no_running, running_at, Between, FoundChanges, running_of}
use Rattle.planning.specs.Steps.{AnyComes, Refusing, runnings_of, FoundParts}
use Rattle.planning.proofs.Running.{listed_some, listed_none}

-- what comes of mode k of a table
module _ (t : Table) (proper : ProperTable t) (k : ℕ) (l : k < MODES) where
  pub part_comes : (p : ModePlan) → AnyComes (mode_at t k) (k + 1) (Ok p) → IsPart t k p
  part_comes p (listed, empty) =
      record { listed = λ h. listed (listed_none t k h); unlisted = λ h. empty (none h (ℕ_discrete (mode_at t k).active 0)) }
    where
      none : (Listed t k → ⊥) → Dec ((mode_at t k).active ≡ 0) → (mode_at t k).active ≡ 0
      none h (yes e) = e
      none h (no n) = absurd (h (listed_some t k proper l n))

  -- the modes below are planned
  pub refusal_comes : (ps : List ModePlan) (r : Refusal) → FoundParts t ps k → AnyComes (mode_at t k) (k + 1) (Err r) → Refusing t r
  refusal_comes ps r made (some, refused) = (k, listed_some t k proper l some, (λ i h listed. (get_or ps i no_part, (made.each i h).listed listed)), refused)

-- the parts of all modes, and the changes between them as they run
module _ (t : Table) (proper : ProperTable t) (ps : List ModePlan) (cs : List Timing) where
  abbrev plan : Plan
  plan = record { parts = ps; changes = cs }

  change_comes : (k l : ℕ) (old new : Running) (c : Timing) → k < MODES → l < MODES → old ≡ running_of (mode_at t k) (get_or ps k no_part) → new ≡ running_of (mode_at t l) (get_or ps l no_part)
      → Between old new k l c → IsChange t plan k l c
  change_comes k l old new c hk hl e f between =
      let (changes, none) = subst₂ (λ (old new : Running). Between old new k l c) e f between in
      record {
        leads = λ h. let c = changes (listed_none t k h.0) (listed_none t l h.1) h.2 in record { overlap = c.overlap; offset = c.offset; worst = c.worst };
        leads_not = λ n. none (λ h. n (listed_some t k proper hk h.0, listed_some t l proper hl h.1, h.2));
      }

  pub plan_comes : FoundParts t ps MODES → FoundChanges (runnings_of t ps) cs (MODES * MODES) → Planned t plan
  plan_comes parts changes = record { parts_long = parts.long; part = parts.each; changes_long = changes.long; change = at }
    where
      run : (k : ℕ) → k < MODES → running_at (runnings_of t ps) k ≡ running_of (mode_at t k) (get_or ps k no_part)
      run k h = get_or_tab MODES (λ k. running_of (mode_at t k) (get_or ps k no_part)) k no_running h

      at : (k l : ℕ) → k < MODES → l < MODES → IsChange t plan k l (change_at plan k l)
      at k l hk hl =
          let e : (MODES * k + l) / MODES ≡ k = omega arith in
          let f : (MODES * k + l) % MODES ≡ l = omega arith in
          let v = change_at plan k l in
          change_comes k l _ _ v hk hl (run k hk) (run l hl)
          (subst₂ (λ (k l : ℕ). Between (running_at (runnings_of t ps) k) (running_at (runnings_of t ps) l) k l v) e f (changes.each (MODES * k + l) (omega arith)))
