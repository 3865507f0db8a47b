-- planner::changes::all_works meets its contract. The invariant: the works of the listed modes below m are put, and those behind have none.
use Rattle.std.proofs.Common.{◌≡◌, List, Option, None, Some, ◌+◌, ◌<◌, ◌≤◌, get_or, set, arith, ap, sym, ◌∙◌, length-set, get_or-set_other, eq-eqb, ne_eqb}
use Prim.Native.Nat.{ℕ}
use Rattle.numbers.specs.Tab.{is_tab, filled_more}
use Rattle.units.specs.Limits.{MODES}
use Rattle.tables.specs.declared.memory.Head.{Head}
use Rattle.tables.specs.Memory.{head_in}
use Rattle.change.specs.declared.Works.{Works}
use Rattle.change.specs.Running.{running_in}
use Rattle.planner.specs.Changes.{front_at, works_listed}
use Rattle.planner.proofs.changes.all_works.Goals.{then-head_of-ne0, else-head_of-ne0}
use Rattle.planner.proofs.changes.all_works.Goals as goal

works_some : (f : List ℕ) → ((head_in f).active ≡ 0 → ⊥) → Some (running_in f).works ≡ works_listed f
works_some f n = rw (ne_eqb _ _ n)

works_none : (f : List ℕ) → (head_in f).active ≡ 0 → None ≡ works_listed f
works_none f e = rw (eq-eqb _ _ e)

pub loop-m-preserved : goal.loop-m-preserved
loop-m-preserved c =
    let l = c.loop-m in let front = c.front_at-front.ensures.0 in
    let active = ap (λ (h : Head). h.active) c.head_of.ensures ∙ ap (λ (f : List ℕ). (head_in f).active) front in
    let put : (v : Option (List Works)) → v ≡ works_listed (front_at c.args.words.now l.m)
    → (k : ℕ) → k < l.m + 1 → get_or (set l.works l.m v) k None ≡ works_listed (front_at c.args.words.now k) =
    λ v e. filled_more (λ k. works_listed (front_at c.args.words.now k)) l.works l.m v None (omega (arith, l.invariant.long)) e l.invariant.done in
    let left : (v : Option (List Works)) (k : ℕ) → l.m + 1 ≤ k → get_or (set l.works l.m v) k None ≡ None =
    λ v k h. get_or-set_other l.works l.m k v None (λ q. omega arith) ∙ l.invariant.left k (omega arith) in
    elim c.if-head_of-ne0.branch [
      | then-head_of-ne0 w ↦ rw w.works-is (record {
        long = simp length-set l.invariant.long;
        done = put _ (ap Some (w.works_in.ensures ∙ ap (λ (f : List ℕ). (running_in f).works) front) ∙ works_some (front_at c.args.words.now l.m) (λ z. w.if-head_of-ne0.true (active ∙ z)));
        left = left _;
      })
      | else-head_of-ne0 w ↦ rw w.works-is (record {
        long = simp length-set l.invariant.long;
        done = put _ (l.invariant.left l.m (omega arith) ∙ works_none (front_at c.args.words.now l.m) (sym active ∙ w.if-head_of-ne0.false));
        left = left _;
      })
    ]

pub returns : goal.returns
returns c = is_tab MODES _ _ None c.loop-m.invariant.long (λ i h. c.loop-m.invariant.done i (omega arith))
