-- Laws of lines. Assumes nothing.
use mathlib.Core.List.{List}
use Prim.Native.Nat.{ℕ, ◌+◌, ◌*◌, ◌≤◌}
use native.Mathlib.Omega.{arith}
use lib.ListN.{length}
use Rattle.rfc4180.specs.Laid.{Room, Laid}
use Rattle.printer.specs.Printed.{line_text}
use Rattle.printer.proofs.Fitting.{Fitting, line_long}
use Rattle.calls.specs.Fills.{LINE, LaysLine}

module _ (word ns : List ℕ) {out : List ℕ} {at : ℕ} (short : length word + 21 * length ns + 2 ≤ LINE) (f : Fitting ns) where
  -- there is room for a line, and it is short
  pub line_room : at + LINE ≤ length out → Room out at (line_text word ns)
  line_room r = record { fits = omega (arith, line_long word ns f, short, r) }

  pub line_laid : {after : List ℕ} {end : ℕ} → Laid out at (line_text word ns) after end → LaysLine (line_text word ns) out at after end
  line_laid a = record { laid = a; short = omega (arith, line_long word ns f, short, a.ends) }
