-- graph::balance::counts_of meets its contract. The invariant: the counts are those of the first n steps.
use borrow.Author.Tests.{eq-eqb, ne_eqb}
use mathlib.Core.Path.{◌≡◌, refl, sym, ap, subst, ◌∙◌}
use Prim.Native.Nat.{◌*◌, ◌%◌, ◌<◌, ◌+◌}
use native.Mathlib.Omega.{arith}
use lib.ListN.{get_or}
use Rattle.std.specs.Prelude.{ℕ, None, Some}
use Rattle.std.proofs.lemmas.Option.{MatchOption-at_some, same_Some}
use Rattle.numbers.specs.Bits.{Has, hasb, has_is}
use Rattle.numbers.specs.Decides.{decides_true}
use Rattle.numbers.specs.Extreme.{greatest_below}
use Rattle.units.specs.Limits.{ACTORS}
use Rattle.tables.specs.Shape.{channel_at}
use Rattle.tables.specs.Stored.{mode_of}
use Rattle.tables.proofs.Stored.{proper_of}
use Rattle.graph.specs.declared.balance.Flow.{Flow}
use Rattle.graph.specs.Counts.{fed_of, counts_from}
use Rattle.graph.proofs.Flows.{counts_next, counts_all, counts_stop, counts_small, flow_in}
use Rattle.graph.proofs.balance.counts_of.Goals.{After-greatest-last, Then-depths-i}
use Rattle.graph.proofs.balance.counts_of.Goals.{then-has+then-depths-i+in_ok-counts, else-has, else-has-via-then-has+else-depths-i, else-has-via-else-has}
use Rattle.graph.proofs.balance.counts_of.Goals as goal

pub loop-n-init : goal.loop-n-init
unfolding counts_from
loop-n-init c = refl

-- the greatest depth
last : (c : After-greatest-last) → c.greatest-last.result < ACTORS
last c = greatest_below c.args.depths _ c.greatest-last.ensures ACTORS (omega arith) c.requires.0.below

-- the channel that feeds the actor
enters : (c : Then-depths-i) → (k : ℕ) × (get_or c.args.entries (c.loop-n.n % ACTORS) None ≡ Some k) × (k < (mode_of c.args.mode.now).count)
    × ((channel_at (mode_of c.args.mode.now) k).to ≡ c.loop-n.n % ACTORS)
enters c =
    c.requires.1 (c.loop-n.n % ACTORS) (omega arith, subst (λ (a : ℕ). Has a (c.loop-n.n % ACTORS)) c.active-active.ensures (decides_true c.has.ensures c.if-has.true)) (omega (arith, c.if-depths-i.true))

below : (c : Then-depths-i) (entry : ℕ) → get_or c.args.entries (c.loop-n.n % ACTORS) None ≡ Some entry → entry < (mode_of c.args.mode.now).count
below c entry e =
    let (k, is, below, to) = enters c in
    subst (λ (j : ℕ). j < (mode_of c.args.mode.now).count) (same_Some _ _ (sym is ∙ e)) below

pub unwrap-entry-requires : goal.unwrap-entry-requires
unwrap-entry-requires c = rw (enters (goal.at.unwrap-entry-requires c).Then-depths-i).1 refl

pub flow_at-requires : goal.flow_at-requires
flow_at-requires c = below (goal.at.flow_at-requires c).Then-depths-i _ c.unwrap-entry.ensures

pub fed-requires : goal.fed-requires
fed-requires c = (
  MatchOption-at_some _ _ _ c.loop-n.invariant (counts_small _ _ _ _ c.loop-n.n),
  rw c.flow_at.ensures (flow_in _ (proper_of c.args.mode.now) _ (below (goal.at.fed-requires c).Then-depths-i _ c.unwrap-entry.ensures)),
  omega arith,
)

pub returns-in_err-counts : goal.returns-in_err-counts
returns-in_err-counts c =
    let n = c.loop-n.n in let s = c.args in
    let has = ap (λ (a : ℕ). hasb a (n % ACTORS)) (sym c.active-active.ensures) ∙ has_is _ _ _ c.has.ensures in
    rw c.from_residual.ensures
    (sym (counts_stop (mode_of s.mode.now) s.entries s.depths s.source (n + 1) (ACTORS * ACTORS) (omega (arith, last (goal.at.returns-in_err-counts c).After-greatest-last))
    (rw (counts_next, c.loop-n.invariant, has ∙ c.if-has.true, eq-eqb _ _ c.if-depths-i.true, c.unwrap-entry.ensures) (sym (c.in_err-counts.ensures ∙ ap (λ (f : Flow). fed_of c.loop-n.counts f (n % ACTORS)) c.flow_at.ensures)))))

pub loop-n-preserved : goal.loop-n-preserved
loop-n-preserved c =
    let has = ap (λ (a : ℕ). hasb a (c.loop-n.n % ACTORS)) (sym c.active-active.ensures) ∙ has_is _ _ _ c.has.ensures in
    rw (counts_next, c.loop-n.invariant)
    (elim c.if-has.branch [
      | then-has+then-depths-i+in_ok-counts w ↦ rw (has ∙ w.if-has.true, eq-eqb _ _ w.if-depths-i.true, w.unwrap-entry.ensures)
          (sym (w.in_ok-counts.ensures ∙ ap (λ (f : Flow). fed_of c.loop-n.counts f (c.loop-n.n % ACTORS)) w.flow_at.ensures) ∙ ap Some (sym w.counts-is))
      | else-has w ↦ elim w.else-has.branch [
        | else-has-via-then-has+else-depths-i v ↦ rw (has ∙ v.if-has.true, ne_eqb _ _ v.if-depths-i.false) (ap Some (sym w.counts-is))
        | else-has-via-else-has v ↦ rw (has ∙ v.if-has.false) (ap Some (sym w.counts-is))
      ]
    ])

pub returns : goal.returns
returns c =
    let l = c.loop-n in let e : l.n ≡ ACTORS * c.greatest-last.result = omega arith in
    sym l.invariant ∙ ap (counts_from _ _ _ _) e ∙ counts_all _ _ _ _ c.greatest-last.result c.greatest-last.ensures c.requires.0
