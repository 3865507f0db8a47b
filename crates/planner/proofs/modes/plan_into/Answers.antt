-- planner::modes::plan_into meets its contract.
use Rattle.std.proofs.lemmas.Result.{err_from_is_err_and}
use mathlib.Core.Path.{◌≡◌, refl, sym, subst, ◌∙◌}
use native.Mathlib.Omega.{arith}
use mathlib.Core.List.{List}
use Prim.Native.Nat.{ℕ}
use lib.ListN.{get_or}
use Rattle.terms.specs.declared.refusal.Refusal.{Refusal}
use Rattle.tables.specs.Shape.{Mode}
use Rattle.tables.specs.Memory.{mode_in, Stands}
use Rattle.planning.specs.Plan.{ModePlanned, ModeRefused}
use Rattle.planner.specs.Modes.{FreshMode}
use Rattle.planner.proofs.Coming.{fresh_stands, carried_fresh, fresh_active, unlisted_comes, fresh_planned}
use Rattle.planner.proofs.modes.plan_into.Goals as goal

-- a fresh mode stands, and its first word is the set of its actors
module _ (front channels carried : List ℕ) (fresh : FreshMode (mode_in front channels) front channels carried) where
  stands : Stands front channels
  stands = fresh_stands (mode_in front channels) _ _ _ fresh refl

  active : get_or front 0 0 ≡ (mode_in front channels).active
  active = fresh_active (mode_in front channels) _ _ _ fresh

-- a mode that is refused is, however it is read
still_refused : {m n : Mode} {k : ℕ} {r : Refusal} → m ≡ n → ModeRefused m k r → ModeRefused n k r
still_refused {m} {n} {k} {r} e = subst (λ (m : Mode). ModeRefused m k r) e

pub bounds-front-0 : goal.bounds-front-0
bounds-front-0 c = omega (arith, (stands _ _ _ c.requires).front_long)

pub returns-then-front-eq0 : goal.returns-then-front-eq0
returns-then-front-eq0 c =
    unlisted_comes (mode_in c.args.front.now c.args.channels.now) _ _ _ c.requires c.args.number (sym (active _ _ _ c.requires) ∙ c.if-front-eq0.true)

pub new-mode-requires : goal.new-mode-requires
new-mode-requires c = stands _ _ _ c.requires

pub returns-in_err-part : goal.returns-in_err-part
returns-in_err-part c = let p = err_from_is_err_and c.from_residual.result c.from_residual.ensures.1 in rw (p.1, p.2) ((λ e. c.if-front-eq0.false (active _ _ _ c.requires ∙ e)), still_refused c.new-mode.ensures c.in_err-part.ensures)

pub put_part-requires : goal.put_part-requires
put_part-requires c = ((stands _ _ _ c.requires).front_long, carried_fresh (mode_in c.args.front.now c.args.channels.now) _ _ _ c.requires)

pub returns : goal.returns
returns c = (
  c.in_ok-part.part,
  ((λ h. subst (λ (m : Mode). ModePlanned m c.in_ok-part.part) c.new-mode.ensures c.in_ok-part.ensures), (λ e. absurd (c.if-front-eq0.false (active _ _ _ c.requires ∙ e)))),
  c.put_part.ensures.0 ∙ fresh_planned (mode_in c.args.front.now c.args.channels.now) _ _ _ c.requires c.in_ok-part.part,
  c.put_part.ensures.1,
)
