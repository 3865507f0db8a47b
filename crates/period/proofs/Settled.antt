-- Each public function's statement admits one answer only.
use mathlib.Core.Path.{sym, ◌∙◌}
use Rattle.numbers.proofs.Settles.{Settles}
use Rattle.period.specs.Period.{common_unique}
use Rattle.period.proofs.Lengths.{within_unique}
use Rattle.period.proofs.begins.Kinds as begins_kinds
use Rattle.period.proofs.begins.Reads as begins
use Rattle.period.proofs.ends.Kinds as ends_kinds
use Rattle.period.proofs.ends.Reads as ends
use Rattle.period.proofs.work.Kinds as work_kinds
use Rattle.period.proofs.work.Reads as work
use Rattle.period.proofs.common.Kinds as common_kinds
use Rattle.period.proofs.common.Reads as common
use Rattle.period.proofs.iteration.Kinds as iteration_kinds
use Rattle.period.proofs.iteration.Reads as iteration
use Rattle.period.proofs.period.Kinds as period_kinds
use Rattle.period.proofs.period.Reads as period
use Rattle.period.proofs.share.Kinds as share_kinds
use Rattle.period.proofs.share.Reads as share

begins_settled : Settles 0 begins_kinds.ps begins_kinds.r begins.Post
begins_settled κs a x y s t p q = p ∙ sym q

ends_settled : Settles 0 ends_kinds.ps ends_kinds.r ends.Post
ends_settled κs a x y s t p q = p ∙ sym q

work_settled : Settles 0 work_kinds.ps work_kinds.r work.Post
work_settled κs a x y s t p q = p ∙ sym q

common_settled : Settles 0 common_kinds.ps common_kinds.r common.Post
common_settled κs a x y s t p q = common_unique _ _ _ x y p q

iteration_settled : Settles 0 iteration_kinds.ps iteration_kinds.r iteration.Post
iteration_settled κs a x y s t p q = within_unique _ _ _ x y p q

period_settled : Settles 0 period_kinds.ps period_kinds.r period.Post
period_settled κs a x y s t p q = p ∙ sym q

share_settled : Settles 0 share_kinds.ps share_kinds.r share.Post
share_settled κs a x y s t p q = p ∙ sym q
