-- Each public function's statement admits one answer only: ticks.
use mathlib.Core.Path.{sym, ◌∙◌}
use Rattle.numbers.proofs.Settles.{Settles}
use Rattle.units.proofs.Tick.of.Kinds as of_kinds
use Rattle.units.proofs.Tick.of.Reads as of
use Rattle.units.proofs.Tick.ticks.Kinds as ticks_kinds
use Rattle.units.proofs.Tick.ticks.Reads as ticks

of_settled : Settles 0 of_kinds.ps of_kinds.r of.Post
of_settled κs a x y s t p q = p ∙ sym q

ticks_settled : Settles 0 ticks_kinds.ps ticks_kinds.r ticks.Post
ticks_settled κs a x y s t p q = p ∙ sym q
