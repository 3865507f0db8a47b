-- planner::modes::put_planned meets its contract.
use mathlib.Core.Path.{sym, ap, ◌∙◌}
use Prim.Native.Nat.{ℕ}
use lib.ListN.{replicate}
use Rattle.planner.proofs.modes.put_planned.Goals as goal

pub returns-then-front-eq0 : goal.returns-then-front-eq0
returns-then-front-eq0 c =
    c.clear.ensures ∙ ap (λ (n : ℕ). replicate {A = ℕ} n 0) c.requires.3 ∙ sym (c.requires.4.unlisted c.if-front-eq0.true)
