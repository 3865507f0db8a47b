-- The plan of a table, reckoned. Assumes nothing.
use mathlib.Core.Path.{◌≡◌, sym, ap, subst, ◌∙◌}
use mathlib.Core.Bool.{Bool, true}
use mathlib.Core.List.{List}
use Prim.Native.Nat.{ℕ, ◌+◌, ◌<◌}
use native.Mathlib.Omega.{arith}
use lib.ListN.{get_or, replicate}
use Rattle.numbers.specs.Filled.{filled_whole}
use Rattle.numbers.specs.Tab.{tab, length_tab, get_or_tab, get_or_replicated}
use Rattle.units.specs.Limits.{MODES}
use Rattle.terms.specs.declared.refusal.Refusal.{Refusal}
use Rattle.tables.specs.Shape.{Table, mode_at}
use Rattle.tables.specs.Proper.{ProperTable}
use Rattle.planning.specs.declared.ModePlan.{ModePlan}
use Rattle.planning.specs.Shape.{Plan}
use Rattle.std.specs.Prelude.{is_ok, Result, Ok, Err}
use Rattle.planning.specs.Nothing.{no_part, empty_part}
use Rattle.planning.specs.Plan.{IsPart, Planned, Planning, refused}
use Rattle.planning.specs.Steps.{AnyComes, runnings_of, FoundParts}
use Rattle.planning.proofs.Running.{all_ready, listed_some}
use Rattle.planning.proofs.Reckoned.{answer_of, any_mode_comes, changes_of, changes_found}
use Rattle.planning.proofs.Coming.{part_comes, plan_comes}

-- the plan of mode k of a table; and that of a mode that is refused, which no table that is planned has
abbrev part_or : Result ModePlan Refusal → ModePlan
part_or (Ok p) = p
part_or (Err r) = no_part

abbrev pub answer_at : Table → ℕ → Result ModePlan Refusal
answer_at t k = answer_of (mode_at t k) (k + 1)

abbrev pub parts_of : Table → List ModePlan
parts_of t = tab MODES (λ k. part_or (answer_at t k))

-- the plan of a table
abbrev pub plan_for : Table → Plan
plan_for t = record { parts = parts_of t; changes = changes_of (runnings_of t (parts_of t)) }

-- which modes are not refused
abbrev pub passes_of : Table → List Bool
passes_of t = tab MODES (λ k. is_ok (answer_at t k))

module _ (t : Table) (proper : ProperTable t) where
  part_is : (k : ℕ) → k < MODES → (a : Result ModePlan Refusal) → is_ok a ≡ true → AnyComes (mode_at t k) (k + 1) a → IsPart t k (part_or a)
  part_is k h (Ok p) e c = part_comes t proper k h p c
  part_is k h (Err r) e c = absurd cc

  -- a table of which no mode is refused
  pub plan_planned : passes_of t ≡ replicate MODES true → Planned t (plan_for t)
  plan_planned e = plan_comes t proper (parts_of t) _ made (changes_found (runnings_of t (parts_of t)) (all_ready t proper (parts_of t) made))
    where
      passes : (k : ℕ) → k < MODES → is_ok (answer_at t k) ≡ true
      passes k h =
          sym (get_or_tab MODES (λ k. is_ok (answer_at t k)) k true h) ∙ ap (λ (l : List Bool). get_or l k true) e ∙ get_or_replicated MODES k true

      made : FoundParts t (parts_of t) MODES
      made =
          filled_whole MODES (IsPart t) empty_part no_part (parts_of t) (length_tab MODES _)
          (λ k h. subst (IsPart t k) (sym (get_or_tab MODES (λ k. part_or (answer_at t k)) k no_part h))
          (part_is k h _ (passes k h) (any_mode_comes (mode_at t k) (k + 1) (proper.mode k h))))

  -- one whose mode 1 is refused
  pub first_refused : (r : Refusal) → answer_of (mode_at t 0) 1 ≡ Err r → Planning t (Err r)
  first_refused r e =
      let (some, by) = subst (AnyComes (mode_at t 0) 1) e (any_mode_comes (mode_at t 0) 1 (proper.mode 0 (omega arith))) in
      refused (listed_some t 0 proper (omega arith) some) (λ l h. absurd (omega arith)) by
