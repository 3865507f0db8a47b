-- Each public function's statement admits one answer only: firings.
use mathlib.Core.Path.{sym, ◌∙◌}
use Rattle.numbers.proofs.Settles.{Settles}
use Rattle.units.proofs.Firing.of.Kinds as of_kinds
use Rattle.units.proofs.Firing.of.Reads as of
use Rattle.units.proofs.Firing.firings.Kinds as firings_kinds
use Rattle.units.proofs.Firing.firings.Reads as firings

of_settled : Settles 0 of_kinds.ps of_kinds.r of.Post
of_settled κs a x y s t p q = p ∙ sym q

firings_settled : Settles 0 firings_kinds.ps firings_kinds.r firings.Post
firings_settled κs a x y s t p q = p ∙ sym q
