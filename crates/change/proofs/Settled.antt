-- Each public function's statement admits one answer only.
use mathlib.Core.Path.{sym, ◌∙◌}
use Rattle.numbers.proofs.Settles.{Settles}
use Rattle.change.specs.Change.{changes_unique}
use Rattle.change.proofs.works_in.Kinds as works_in_kinds
use Rattle.change.proofs.works_in.Reads as works_in
use Rattle.change.proofs.change.Kinds as change_kinds
use Rattle.change.proofs.change.Reads as change

works_in_settled : Settles 1 works_in_kinds.ps works_in_kinds.r works_in.Post
works_in_settled κs a x y s t p q = p ∙ sym q

change_settled : Settles 2 change_kinds.ps change_kinds.r change.Post
change_settled κs a x y s t p q = changes_unique _ _ p q
