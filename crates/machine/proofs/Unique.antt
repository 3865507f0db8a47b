-- A start and a request have one answer only. Assumes nothing.
use mathlib.Core.Path.{◌≡◌, refl, sym, ap, subst, ◌∙◌}
use mathlib.Core.List.{List}
use Prim.Native.Nat.{ℕ}
use native.Mathlib.Decide.{ℕ_discrete}
use native.Mathlib.Omega.{arith}
use lib.Dec.{T}
use Rattle.numbers.specs.Extreme.{least_unique}
use Rattle.units.specs.declared.Tick.{Tick}
use Rattle.terms.specs.declared.refusal.Refusal.{Refusal}
use Rattle.tables.specs.Shape.{Table}
use Rattle.planning.specs.Shape.{Plan}
use Rattle.run.specs.Machine as Run
use Rattle.machine.specs.Plan.{is_listed, plan_of}
use Rattle.planner.specs.Plans.{Leaves}
use Rattle.planner.proofs.Leaving.{leaves_stored, leaves_table, leaves_plan}
use Rattle.machine.specs.declared.Machine.{Machine}
use Rattle.std.specs.Prelude.{Result, Ok, Err}
use Rattle.std.proofs.lemmas.Option.{none-some}
use Rattle.machine.specs.Answers.{seen, asking, machine, Meant, Begins, delay_of, changed_of, Answers}

pub meant_unique : {t : Table} {mode k l : ℕ} → Meant t mode k → Meant t mode l → k ≡ l
meant_unique {t} {mode} {k} {l} p q = go (ℕ_discrete mode 0)
  where
    go : Dec (mode ≡ 0) → k ≡ l
    go (yes e) = least_unique (λ n. T (is_listed t n)) (p.lowest e) (q.lowest e)
    go (no n) = p.named n ∙ sym (q.named n)

-- one mode is meant, whichever table is found
same_mode : {t u : Table} {w v : Plan} {words : List ℕ} {mode k l : ℕ} → Leaves t w words → Leaves u v words → Meant t mode k → Meant u mode l → k ≡ l
same_mode {mode = mode} {k = k} p q m n = meant_unique (subst (λ (t : Table). Meant t mode k) (leaves_table p q) m) n

listed_there : {t u : Table} {w v : Plan} {words : List ℕ} {mode k l : ℕ} → Leaves t w words → Leaves u v words → Meant t mode k → Meant u mode l
    → T (is_listed t k) → T (is_listed u l)
listed_there p q m n h = rw (← leaves_table p q, ← same_mode p q m n) h

pub begins_unique : {words : List ℕ} {mode : ℕ} {x y : Result Machine Refusal} → Begins words mode x → Begins words mode y → x ≡ y
begins_unique (Begins.not_stored n) (Begins.not_stored k) = refl
begins_unique (Begins.not_stored n) (Begins.not_listed l m h) = absurd (n (leaves_stored l))
begins_unique (Begins.not_stored n) (Begins.begun l m h) = absurd (n (leaves_stored l))
begins_unique (Begins.not_listed l m h) (Begins.not_stored n) = absurd (n (leaves_stored l))
begins_unique (Begins.not_listed l m h) (Begins.not_listed p q r) = refl
begins_unique (Begins.not_listed l m h) (Begins.begun p q r) = absurd (h (listed_there p l q m r))
begins_unique (Begins.begun l m h) (Begins.not_stored n) = absurd (n (leaves_stored l))
begins_unique (Begins.begun l m h) (Begins.not_listed p q r) = absurd (r (listed_there l p m q h))
begins_unique (Begins.begun l m h) (Begins.begun p q r) =
    λ i. Ok (machine (Run.begin (plan_of (leaves_table l p i) (leaves_plan l p i)) (same_mode l p m q i)).now)

-- a request is refused, or not, whichever table is found
pub same_refusal : {words : List ℕ} {t u : Table} {w v : Plan} {m n : Run.Machine} → Leaves t w words → Leaves u v words → (r : Run.Request) → m ≡ n
    → Run.refusal (plan_of t w) m r ≡ Run.refusal (plan_of u v) n r
same_refusal l k r e = λ i. Run.refusal (plan_of (leaves_table l k i) (leaves_plan l k i)) (e i) r

module _ {words : List ℕ} {m : Machine} {mode : ℕ} {clock : Tick} where
  pub answers_unique : {x y : Result Tick Refusal} {j k : Machine} → Answers words m mode clock x j → Answers words m mode clock y k → (x ≡ y) × (j ≡ k)
  answers_unique (Answers.not_stored n) (Answers.not_stored k) = (refl, refl)
  answers_unique (Answers.not_stored n) (Answers.refused l e) = absurd (n (leaves_stored l))
  answers_unique (Answers.not_stored n) (Answers.accepted l e) = absurd (n (leaves_stored l))
  answers_unique (Answers.refused l e) (Answers.not_stored n) = absurd (n (leaves_stored l))
  answers_unique (Answers.refused l e) (Answers.refused k f) =
      (let same = sym e ∙ same_refusal l k (asking mode clock) (refl {a = seen m}) ∙ f in cc, refl)
  answers_unique (Answers.refused l e) (Answers.accepted k f) = absurd (none-some _ (sym f ∙ sym (same_refusal l k (asking mode clock) (refl {a = seen m})) ∙ e))
  answers_unique (Answers.accepted l e) (Answers.not_stored n) = absurd (n (leaves_stored l))
  answers_unique (Answers.accepted l e) (Answers.refused k f) = absurd (none-some _ (sym e ∙ same_refusal l k (asking mode clock) (refl {a = seen m}) ∙ f))
  answers_unique (Answers.accepted l e) (Answers.accepted k f) =
      ((λ i. Ok (delay_of (plan_of (leaves_table l k i) (leaves_plan l k i)) m mode clock)), (λ i. changed_of (plan_of (leaves_table l k i) (leaves_plan l k i)) m mode clock))
