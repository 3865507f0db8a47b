-- Each public function's statement admits one answer only: tokens.
use mathlib.Core.Path.{sym, ◌∙◌}
use Rattle.numbers.proofs.Settles.{Settles}
use Rattle.units.proofs.Token.of.Kinds as of_kinds
use Rattle.units.proofs.Token.of.Reads as of
use Rattle.units.proofs.Token.tokens.Kinds as tokens_kinds
use Rattle.units.proofs.Token.tokens.Reads as tokens

of_settled : Settles 0 of_kinds.ps of_kinds.r of.Post
of_settled κs a x y s t p q = p ∙ sym q

tokens_settled : Settles 0 tokens_kinds.ps tokens_kinds.r tokens.Post
tokens_settled κs a x y s t p q = p ∙ sym q
