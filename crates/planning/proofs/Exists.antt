-- Every proper table has an outcome: the refusal of a mode, or a plan. Assumes nothing.
use mathlib.Core.Path.{refl, subst}
use mathlib.Core.List.{List}
use mathlib.Core.Logic.{◌⊎◌, inl, inr}
use Prim.Native.Nat.{ℕ, zero, suc, ◌≤◌}
use native.Mathlib.Nat.{le_refl}
use native.Mathlib.Numerals.{add-one}
use native.Mathlib.Omega.{arith}
use lib.ListN.{set}
use Rattle.numbers.specs.Filled.{filled_none, filled_set}
use Rattle.units.specs.Limits.{MODES}
use Rattle.terms.specs.declared.refusal.Refusal.{Refusal}
use Rattle.terms.specs.Place.{number_of}
use Rattle.tables.specs.Shape.{Mode, Table, mode_at}
use Rattle.tables.specs.Proper.{ProperMode, ProperTable}
use Rattle.planning.specs.declared.ModePlan.{ModePlan}
use Rattle.planning.specs.Shape.{Plan}
use Rattle.std.specs.Prelude.{Result, Ok, Err}
use Rattle.planning.specs.Nothing.{no_part, empty_part}
use Rattle.planning.specs.Plan.{Listed, ModeRefused, ModePlanned, IsPart, Planning, refused, planned}
use Rattle.planning.specs.OneMode.{Comes}
use Rattle.planning.specs.Steps.{runnings_of, FoundParts}
use Rattle.planning.proofs.Unique.{listed_or_not}
use Rattle.planning.proofs.Running.{all_ready}
use Rattle.planning.proofs.Reckoned.{answer_in, mode_decides, changes_found}
use Rattle.planning.proofs.Coming.{plan_comes}

-- a mode has a part, or a refusal
pub mode_decided : (m : Mode) (n : ℕ) → ProperMode m → ((p : ModePlan) × ModePlanned m p) ⊎ ((r : Refusal) × ModeRefused m n r)
mode_decided m n proper = go (answer_in m n) (mode_decides m n proper)
  where
    go : (a : Result ModePlan Refusal) → Comes m n a → ((p : ModePlan) × ModePlanned m p) ⊎ ((r : Refusal) × ModeRefused m n r)
    go (Ok p) c = inl (_, c)
    go (Err r) c = inr (_, c)

module _ (t : Table) (proper : ProperTable t) where
  -- the modes below k have their parts, or the lowest that is refused refuses the table
  parts_found : (k : ℕ) → k ≤ MODES → ((ps : List ModePlan) × FoundParts t ps k) ⊎ ((x : Result Plan Refusal) × Planning t x)
  parts_found zero h = inl (_, filled_none MODES (IsPart t) empty_part no_part)
  parts_found (suc k) h = go (parts_found k (omega arith)) (listed_or_not t k h) (mode_decided (mode_at t k) (number_of k) (proper.mode k h))
    where
      more : (ps : List ModePlan) (p : ModePlan) → FoundParts t ps k → IsPart t k p → FoundParts t (set ps k p) (suc k)
      more ps p made is = subst (FoundParts t (set ps k p)) (add-one k) (filled_set MODES (IsPart t) empty_part no_part ps k p h is made)

      go : ((ps : List ModePlan) × FoundParts t ps k) ⊎ ((x : Result Plan Refusal) × Planning t x) → Dec (Listed t k)
          → ((p : ModePlan) × ModePlanned (mode_at t k) p) ⊎ ((r : Refusal) × ModeRefused (mode_at t k) (number_of k) r)
          → ((ps : List ModePlan) × FoundParts t ps (suc k)) ⊎ ((x : Result Plan Refusal) × Planning t x)
      go (inr x) l d = inr x
      go (inl (ps, made)) (no n) d = inl (set ps k empty_part, more ps empty_part made (record { listed = λ l. absurd (n l); unlisted = λ l. refl }))
      go (inl (ps, made)) (yes l) (inl (p, is)) = inl (set ps k p, more ps p made (record { listed = λ l. is; unlisted = λ n. absurd (n l) }))
      go (inl (ps, made)) (yes l) (inr (r, is)) = inr (_, refused l (λ i b listed. (_, (made.each i b).listed listed)) is)

  pub planning_exists : (x : Result Plan Refusal) × Planning t x
  planning_exists = go (parts_found MODES (le_refl MODES))
    where
      go : ((ps : List ModePlan) × FoundParts t ps MODES) ⊎ ((x : Result Plan Refusal) × Planning t x) → (x : Result Plan Refusal) × Planning t x
      go (inr x) = x
      go (inl (ps, made)) =
          (_, planned (plan_comes t proper ps _ made (changes_found (runnings_of t ps) (all_ready t proper ps made))))
