-- machine::Machine::course meets its contract.
use mathlib.Core.Path.{sym}
use native.Mathlib.Nat.{lt_of_not-le}
use Rattle.numbers.specs.Decides.{decides_true, decides_false}
use Rattle.planner.proofs.Leaving.{stored_leaves}
use Rattle.run.proofs.Delay as Delay
use Rattle.machine.specs.Answers.{Answers}
use Rattle.machine.proofs.Steps.{is_true, in_range, no_pace, some_pace, refused_16, refused_disordered, refused_11, refused_12, refused_13, refused_14}
use Rattle.machine.proofs.Machine.course.Goals as goal

pub returns-then-not-is_plan : goal.returns-then-not-is_plan
returns-then-not-is_plan c = Answers.not_stored (decides_false {r = c.is_plan.result} c.is_plan.ensures c.if-not-is_plan.true)

pub returns-in_default : goal.returns-in_default
returns-in_default c =
    let (t, w, l) = stored_leaves _ (decides_true {r = c.is_plan.result} c.is_plan.ensures c.if-not-is_plan.false) in
    Answers.refused l (refused_16 _ _ _ (no_pace t w c.args.self.mode (sym (c.in_default.ensures t w l))))

pub returns-then-not-at_most : goal.returns-then-not-at_most
returns-then-not-at_most c =
    let (t, w, l) = stored_leaves _ (decides_true {r = c.is_plan.result} c.is_plan.ensures c.if-not-is_plan.false) in
    let (old, _) = some_pace t w c.args.self.mode _ (c.in-Some.ensures t w l) in
    Answers.refused l (refused_disordered _ _ _ old (lt_of_not-le (decides_false c.at_most.ensures c.if-not-at_most.true)))

pub returns-in_default-pace : goal.returns-in_default-pace
returns-in_default-pace c =
    let (t, w, l) = stored_leaves _ (decides_true {r = c.is_plan.result} c.is_plan.ensures c.if-not-is_plan.false) in
    let (old, _) = some_pace t w c.args.self.mode _ (c.in-Some.ensures t w l) in
    Answers.refused l (refused_11 _ _ _ old (decides_true c.at_most.ensures c.if-not-at_most.false) (no_pace t w c.args.mode (sym (c.in_default-pace.ensures t w l))))

pub returns-then-mode-self : goal.returns-then-mode-self
returns-then-mode-self c =
    let (t, w, l) = stored_leaves _ (decides_true {r = c.is_plan.result} c.is_plan.ensures c.if-not-is_plan.false) in
    let (old, _) = some_pace t w c.args.self.mode _ (c.in-Some.ensures t w l) in
    let (new, _) = some_pace t w c.args.mode _ (c.in-Some-pace.ensures t w l) in
    Answers.refused l (refused_12 _ _ _ old (decides_true c.at_most.ensures c.if-not-at_most.false) new c.if-mode-self.true)

pub returns-then-not-at_most-2 : goal.returns-then-not-at_most-2
returns-then-not-at_most-2 c =
    let (t, w, l) = stored_leaves _ (decides_true {r = c.is_plan.result} c.is_plan.ensures c.if-not-is_plan.false) in
    let (old, _) = some_pace t w c.args.self.mode _ (c.in-Some.ensures t w l) in
    let (new, _) = some_pace t w c.args.mode _ (c.in-Some-pace.ensures t w l) in
    Answers.refused l (refused_13 _ _ _ old (decides_true c.at_most.ensures c.if-not-at_most.false) new c.if-mode-self.false
    (lt_of_not-le (decides_false c.at_most-2.ensures c.if-not-at_most-2.true)))

pub returns-then-not-at_most-3 : goal.returns-then-not-at_most-3
returns-then-not-at_most-3 c =
    let (t, w, l) = stored_leaves _ (decides_true {r = c.is_plan.result} c.is_plan.ensures c.if-not-is_plan.false) in
    let (old, _) = some_pace t w c.args.self.mode _ (c.in-Some.ensures t w l) in
    let (new, _) = some_pace t w c.args.mode _ (c.in-Some-pace.ensures t w l) in
    Answers.refused l (refused_14 _ _ _ old (decides_true c.at_most.ensures c.if-not-at_most.false) new c.if-mode-self.false
    (decides_true c.at_most-2.ensures c.if-not-at_most-2.false) (lt_of_not-le (decides_false c.at_most-3.ensures c.if-not-at_most-3.true)))

pub offset-offset-requires : goal.offset-offset-requires
offset-offset-requires c =
    let s = decides_true {r = c.is_plan.result} c.is_plan.ensures c.if-not-is_plan.false in
    let (t, w, l) = stored_leaves _ s in
    let (old, _) = some_pace t w c.args.self.mode _ (c.in-Some.ensures t w l) in
    let (new, _) = some_pace t w c.args.mode _ (c.in-Some-pace.ensures t w l) in
    let (a, b) = in_range l _ (is_true old) in
    let (d, e) = in_range l _ (is_true new) in
    (s, a, b, d, e)

pub returns : goal.returns
returns c =
    let (t, w, l) = stored_leaves _ (decides_true {r = c.is_plan.result} c.is_plan.ensures c.if-not-is_plan.false) in
    let (old, e) = some_pace t w c.args.self.mode _ (c.in-Some.ensures t w l) in
    let (new, f) = some_pace t w c.args.mode _ (c.in-Some-pace.ensures t w l) in (
      t,
      w,
      l,
      Delay.accepts _ _ _ (record {
        old = is_true old;
        new = is_true new;
        other = c.if-mode-self.false;
        ordered = decides_true c.at_most.ensures c.if-not-at_most.false;
        clock = decides_true c.at_most-2.ensures c.if-not-at_most-2.false;
        settled = decides_true c.at_most-3.ensures c.if-not-at_most-3.false;
      }),
      (let g = c.offset-offset.ensures t w l in λ i. record { old = e i; new = f i; offset = g i }),
    )
