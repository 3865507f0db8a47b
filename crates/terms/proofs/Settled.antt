-- Each public function's statement admits one answer only.
use mathlib.Core.Path.{sym, ◌∙◌}
use Rattle.numbers.proofs.Settles.{Settles}
use Rattle.terms.proofs.place.number_of.Kinds as number_of_kinds
use Rattle.terms.proofs.place.number_of.Reads as number_of_lem
use Rattle.terms.proofs.place.place_of.Kinds as place_of_kinds
use Rattle.terms.proofs.place.place_of.Reads as place_of
use Rattle.terms.proofs.refusal.Reason.number.Kinds as number_kinds
use Rattle.terms.proofs.refusal.Reason.number.Reads as number
use Rattle.terms.proofs.refusal.Refusal.nowhere.Kinds as nowhere_kinds
use Rattle.terms.proofs.refusal.Refusal.nowhere.Reads as nowhere
use Rattle.terms.proofs.refusal.Printed.five.Kinds as five_kinds
use Rattle.terms.proofs.refusal.Printed.five.Reads as five
use Rattle.terms.proofs.refusal.Refusal.printed.Kinds as printed_kinds
use Rattle.terms.proofs.refusal.Refusal.printed.Reads as printed

number_of_settled : Settles 0 number_of_kinds.ps number_of_kinds.r number_of_lem.Post
number_of_settled κs a x y s t p q = p ∙ sym q

place_of_settled : Settles 0 place_of_kinds.ps place_of_kinds.r place_of.Post
place_of_settled κs a x y s t p q = p ∙ sym q

number_settled : Settles 0 number_kinds.ps number_kinds.r number.Post
number_settled κs a x y s t p q = p ∙ sym q

nowhere_settled : Settles 0 nowhere_kinds.ps nowhere_kinds.r nowhere.Post
nowhere_settled κs a x y s t p q = p ∙ sym q

five_settled : Settles 0 five_kinds.ps five_kinds.r five.Post
five_settled κs a x y s t p q = p ∙ sym q

printed_settled : Settles 0 printed_kinds.ps printed_kinds.r printed.Post
printed_settled κs a x y s t p q = p ∙ sym q
