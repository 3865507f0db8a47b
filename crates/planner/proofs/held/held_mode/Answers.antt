-- planner::held::held_mode meets its contract.
use borrow.Author.Rules.{rules}
use native.Mathlib.Omega.{arith}
use lib.ListN.{length-take}
use mathlib.Core.Path.{subst, ◌∙◌}
use Rattle.numbers.specs.Decides.{decides_no, decides_true, decides_false}
use Rattle.tables.specs.Shape.{Mode}
use Rattle.planning.specs.Plan.{ModePlanned}
use Rattle.planner.proofs.Blank.{planned_ended, mode_read, blank_decides, held_proper, held_unrefused, listed_decides}
use Rattle.planner.proofs.held.held_mode.Goals as goal

pub returns-then-words-eq0 : goal.returns-then-words-eq0
returns-then-words-eq0 c = blank_decides c.args.words.now c.blank.result c.requires c.if-words-eq0.true c.blank.ensures

pub returns-then-not-proper_mode : goal.returns-then-not-proper_mode
returns-then-not-proper_mode c =
    decides_no (λ h. decides_false {r = c.proper_mode.result} c.proper_mode.ensures c.if-not-proper_mode.true
    (held_proper c.args.words.now c.if-words-eq0.false _ (mode_read _ _ c.requires c.channels_of.ensures) h))

pub new-mode-requires : goal.new-mode-requires
new-mode-requires c =
    record { front_long = simp length-take (omega arith); channels_long = search rules; proper = decides_true {r = c.proper_mode.result} c.proper_mode.ensures c.if-not-proper_mode.false }

pub returns-in_default : goal.returns-in_default
returns-in_default c = decides_no (held_unrefused c.args.words.now c.if-words-eq0.false _ (c.new-mode.ensures ∙ mode_read _ _ c.requires c.channels_of.ensures) c.in_default.ensures)

pub mode_holds-requires : goal.mode_holds-requires
mode_holds-requires c =
    (c.requires, search rules, planned_ended _ _ (decides_true {r = c.proper_mode.result} c.proper_mode.ensures c.if-not-proper_mode.false) (subst (λ (m : Mode). ModePlanned m c.in-Ok.part) c.new-mode.ensures c.in-Ok.ensures))

pub returns : goal.returns
returns c =
    listed_decides c.args.words.now c.if-words-eq0.false _ (mode_read _ _ c.requires c.channels_of.ensures) c.in-Ok.part c.mode_holds.result
    (decides_true {r = c.proper_mode.result} c.proper_mode.ensures c.if-not-proper_mode.false) (subst (λ (m : Mode). ModePlanned m c.in-Ok.part) c.new-mode.ensures c.in-Ok.ensures) c.mode_holds.ensures
