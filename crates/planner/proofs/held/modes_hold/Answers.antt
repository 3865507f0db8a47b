-- planner::held::modes_hold meets its contract. The invariant: the modes below m are held, their actors on the homes.
use mathlib.Core.Path.{◌≡◌, subst}
use native.Mathlib.Omega.{arith}
use Prim.Native.Nat.{ℕ}
use Rattle.numbers.specs.Decides.{decides_no, decides_true, decides_false}
use Rattle.units.specs.Limits.{MODES}
use Rattle.tables.proofs.Housing.{housed_none}
use Rattle.layout.specs.Read.{graph_of}
use Rattle.planner.specs.Held.{Held}
use Rattle.planner.proofs.Holding.{HeldBelow, below_decides, mode_slice_law, below_next, below_home}
use Rattle.planner.proofs.held.modes_hold.Goals as goal

pub loop-m-init : goal.loop-m-init
loop-m-init c = (housed_none (graph_of _), λ k h. absurd (omega arith))

pub returns-then-not-held_mode : goal.returns-then-not-held_mode
returns-then-not-held_mode c =
    decides_no (λ s. decides_false {r = c.held_mode.result} c.held_mode.ensures c.if-not-held_mode.true
    (rw (mode_slice_law c.args.words.now c.loop-m.m c.loop-m-test.true) (s.mode c.loop-m.m c.loop-m-test.true)))

pub returns-then-not-at_home : goal.returns-then-not-at_home
returns-then-not-at_home c =
    let held = subst Held (mode_slice_law c.args.words.now c.loop-m.m c.loop-m-test.true) (decides_true {r = c.held_mode.result} c.held_mode.ensures c.if-not-held_mode.false) in
    decides_no (λ s. decides_false {r = c.at_home.result} c.at_home.ensures c.if-not-at_home.true
    (below_home c.args.words.now c.loop-m.m c.loop-m-test.true c.loop-m.homes c.loop-m.invariant held s))

pub loop-m-preserved : goal.loop-m-preserved
loop-m-preserved c =
    let held = subst Held (mode_slice_law c.args.words.now c.loop-m.m c.loop-m-test.true) (decides_true {r = c.held_mode.result} c.held_mode.ensures c.if-not-held_mode.false) in
    below_next c.args.words.now c.loop-m.m c.loop-m-test.true c.loop-m.homes c.loop-m.invariant held
    (decides_true {r = c.at_home.result} c.at_home.ensures c.if-not-at_home.false) c.housed-next.ensures

pub returns : goal.returns
returns c =
    let l = c.loop-m in let all : l.m ≡ MODES = omega arith in
    let w = c.args.words.now in below_decides w l.homes c.inhabited.result (subst (λ (m : ℕ). HeldBelow w m l.homes) all l.invariant) c.inhabited.ensures
