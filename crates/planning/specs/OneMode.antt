-- What comes of a mode by itself.
use Rattle.std.specs.Prelude.{ℕ, Result, Ok, Err}
use Rattle.terms.specs.declared.refusal.Refusal.{Refusal}
use Rattle.tables.specs.Shape.{Mode}
use Rattle.planning.specs.declared.ModePlan.{ModePlan}
use Rattle.planning.specs.Plan.{ModeRefused, ModePlanned}

-- of the mode with number n: what is planned of it, or its refusal
abbrev pub Comes : Mode → ℕ → Result ModePlan Refusal → Type 0
Comes m n (Ok p) = ModePlanned m p
Comes m n (Err r) = ModeRefused m n r
