-- Whatever a machine answers is what is reckoned of its plan. Assumes nothing.
use mathlib.Core.Path.{◌≡◌, refl, sym, subst}
use mathlib.Core.List.{List, [], ◌∷◌}
use Prim.Native.Nat.{ℕ}
use Rattle.std.specs.Prelude.{Option, Some, None, Ok, Err}
use Rattle.terms.specs.Refusal.{nowhere_for}
use Rattle.terms.specs.declared.refusal.Reason.{Reason}
use lib.Dec.{T}
use Rattle.units.specs.declared.Tick.{Tick}
use Rattle.units.specs.Ticks.{tick}
use Rattle.tables.specs.Shape.{Table}
use Rattle.planning.specs.Shape.{Plan}
use Rattle.run.specs.Machine as Run
use Rattle.run.specs.Plan.{RunPlan}
use Rattle.machine.specs.Plan.{is_listed, plan_of}
use Rattle.planner.specs.Plans.{Leaves}
use Rattle.machine.specs.declared.Machine.{Machine}
use Rattle.machine.specs.Answers.{seen, asking, machine, begun, delay_of, changed_of, Answers}
use Rattle.machine.proofs.Unique.{begins_unique, answers_unique}
use Rattle.machine.proofs.Steps.{meant_named}
use Rattle.marked.specs.Lines.{Reply, IsTold, Asked, WhenAsked, WhenBegun}

-- the answer to a request, and the machine after it, by why it is refused
abbrev answer_by : Option Reason → RunPlan → Machine → ℕ → Tick → Reply × Machine
answer_by None p m mode clock = (Ok (delay_of p m mode clock), changed_of p m mode clock)
answer_by (Some r) p m mode clock = (Err (nowhere_for r), m)

abbrev answer_to : RunPlan → Machine → Asked → Reply × Machine
answer_to p m q = answer_by (Run.refusal p (seen m) (asking q.mode (tick q.clock))) p m q.mode (tick q.clock)

-- requests one after the other are told what is claimed
unfoldable pub AllTold : RunPlan → Machine → List Asked → Type 0
AllTold p m [] = Unit {0}
AllTold p m (q ∷ qs) = IsTold (answer_to p m q).0 q.told × AllTold p (answer_to p m q).1 qs

module _ {t : Table} {w : Plan} {words : List ℕ} (l : Leaves t w words) where
  answer_to_law : (m : Machine) (q : Asked) → let a = answer_to (plan_of t w) m q in Answers words m q.mode (tick q.clock) a.0 a.1
  answer_to_law m q = go (Run.refusal (plan_of t w) (seen m) (asking q.mode (tick q.clock))) refl
    where
      go : (o : Option Reason) → Run.refusal (plan_of t w) (seen m) (asking q.mode (tick q.clock)) ≡ o
          → let a = answer_by o (plan_of t w) m q.mode (tick q.clock) in Answers words m q.mode (tick q.clock) a.0 a.1
      go None e = Answers.accepted l e
      go (Some r) e = Answers.refused l e

  answered : (m : Machine) (qs : List Asked) → AllTold (plan_of t w) m qs → WhenAsked words m qs
  unfolding AllTold WhenAsked
  answered m [] h = tt
  answered m (q ∷ qs) h = λ a n x.
      let (e, f) = answers_unique x (answer_to_law m q) in
      (subst (λ (a : Reply). IsTold a q.told) (sym e) h.0, subst (λ (n : Machine). WhenAsked words n qs) (sym f) (answered (answer_to (plan_of t w) m q).1 qs h.1))

  -- a machine that begins in mode n
  pub begun_answers : (n : ℕ) (qs : List Asked) → T (is_listed t n) → AllTold (plan_of t w) (machine (Run.begin (plan_of t w) n).now) qs → WhenBegun words n qs
  begun_answers n qs listed h b x =
      (_, begins_unique x (begun l (meant_named t n some) listed), answered (machine (Run.begin (plan_of t w) n).now) qs h)
    where
      some : n ≡ 0 → ⊥
      some e = subst (λ (k : ℕ). T (is_listed t k)) e listed
