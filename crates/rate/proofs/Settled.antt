-- Each public function's statement admits one answer only.
use mathlib.Core.Path.{sym, ◌∙◌}
use Rattle.numbers.proofs.Settles.{Settles}
use Rattle.numbers.specs.Decides.{decides_unique}
use Rattle.rate.specs.Rate.{meets_unique}
use Rattle.rate.specs.Pace.{step_unique}
use Rattle.rate.proofs.phases.Kinds as phases_kinds
use Rattle.rate.proofs.phases.Reads as phases
use Rattle.rate.proofs.cycles.Kinds as cycles_kinds
use Rattle.rate.proofs.cycles.Reads as cycles
use Rattle.rate.proofs.moved.Kinds as moved_kinds
use Rattle.rate.proofs.moved.Reads as moved
use Rattle.rate.proofs.tokens.Kinds as tokens_kinds
use Rattle.rate.proofs.tokens.Reads as tokens
use Rattle.rate.proofs.cycle_tokens.Kinds as cycle_tokens_kinds
use Rattle.rate.proofs.cycle_tokens.Reads as cycle_tokens_law
use Rattle.rate.proofs.even.Kinds as even_kinds
use Rattle.rate.proofs.even.Reads as even
use Rattle.rate.proofs.meet.Kinds as meet_kinds
use Rattle.rate.proofs.meet.Reads as meet
use Rattle.rate.proofs.pace.step_of.Kinds as step_of_kinds
use Rattle.rate.proofs.pace.step_of.Reads as step_of_lem
use Rattle.rate.proofs.pace.Step.lasting.Kinds as lasting_kinds
use Rattle.rate.proofs.pace.Step.lasting.Reads as lasting
use Rattle.rate.proofs.pace.Step.moving.Kinds as moving_kinds
use Rattle.rate.proofs.pace.Step.moving.Reads as moving

phases_settled : Settles 0 phases_kinds.ps phases_kinds.r phases.Post
phases_settled κs a x y s t p q = p ∙ sym q

cycles_settled : Settles 0 cycles_kinds.ps cycles_kinds.r cycles.Post
cycles_settled κs a x y s t p q = p ∙ sym q

moved_settled : Settles 0 moved_kinds.ps moved_kinds.r moved.Post
moved_settled κs a x y s t p q = p ∙ sym q

tokens_settled : Settles 1 tokens_kinds.ps tokens_kinds.r tokens.Post
tokens_settled κs a x y s t p q = p ∙ sym q

cycle_tokens_settled : Settles 0 cycle_tokens_kinds.ps cycle_tokens_kinds.r cycle_tokens_law.Post
cycle_tokens_settled κs a x y s t p q = p ∙ sym q

even_settled : Settles 0 even_kinds.ps even_kinds.r even.Post
even_settled κs a x y s t p q = decides_unique x y p q

meet_settled : Settles 0 meet_kinds.ps meet_kinds.r meet.Post
meet_settled κs a x y s t p q = meets_unique _ _ _ x y p q

step_of_settled : Settles 0 step_of_kinds.ps step_of_kinds.r step_of_lem.Post
step_of_settled κs a x y s t p q = step_unique _ _ _ p q

lasting_settled : Settles 0 lasting_kinds.ps lasting_kinds.r lasting.Post
lasting_settled κs a x y s t p q = p ∙ sym q

moving_settled : Settles 0 moving_kinds.ps moving_kinds.r moving.Post
moving_settled κs a x y s t p q = p ∙ sym q
