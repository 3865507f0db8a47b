-- graph::balance::fed meets its contract.
use mathlib.Core.Path.{◌≡◌, ap, ◌∙◌}
use Prim.Native.Nat.{◌*◌}
use native.Mathlib.Nat.{div-le_self}
use native.Mathlib.Omega.{arith}
use lib.ListN.{get_or}
use Rattle.numbers.specs.Reckoned.{gcd_of}
use Rattle.rate.specs.declared.Meeting.{Meeting}
use Rattle.rate.specs.Reckoned.{meet_of}
use Rattle.rate.proofs.Meetings.{meet_is}
use Rattle.graph.specs.Counts.{met_by, fed_of}
use Rattle.graph.proofs.Flows.{made_fits, met_over, met_new}
use Rattle.graph.proofs.balance.fed.Goals.{After-meet-meeting}
use Rattle.graph.proofs.balance.fed.Goals as goal

pub meet-meeting-requires : goal.meet-meeting-requires
meet-meeting-requires c = (made_fits _ _ (c.requires.0.small _) c.requires.1.made, c.requires.1.some)

-- the meeting found
met : (c : After-meet-meeting) → c.meet-meeting.result ≡ meet_of (get_or c.args.counts c.args.flow.from 0) c.args.flow.made c.args.flow.taken
met c = meet_is _ _ _ _ c.requires.1.some c.meet-meeting.ensures

fed_by : (c : After-meet-meeting) → met_by c.args.counts c.meet-meeting.result c.args.i ≡ fed_of c.args.counts c.args.flow c.args.i
unfolding fed_of
fed_by c = ap (λ (g : Meeting). met_by c.args.counts g c.args.i) (met c)

pub returns-then-meeting-gt-MOST_CYCLES : goal.returns-then-meeting-gt-MOST_CYCLES
returns-then-meeting-gt-MOST_CYCLES c =
    met_over _ c.meet-meeting.result c.args.i c.if-meeting-gt-MOST_CYCLES.true ∙ fed_by (goal.at.returns-then-meeting-gt-MOST_CYCLES c).After-meet-meeting

pub scaled-requires : goal.scaled-requires
scaled-requires c =
    let f = c.args.flow in
    (c.requires.0, omega (arith, ap (λ (g : Meeting). g.times) (met (goal.at.scaled-requires c).After-meet-meeting), div-le_self f.taken.0 (gcd_of (get_or c.args.counts f.from 0 * f.made.0) f.taken.0), c.requires.1.taken))

pub returns-in_err-next : goal.returns-in_err-next
returns-in_err-next c =
    rw c.from_residual.ensures
    (met_new _ c.meet-meeting.result c.args.i _ c.if-meeting-gt-MOST_CYCLES.false c.in_err-next.ensures ∙ fed_by (goal.at.returns-in_err-next c).After-meet-meeting)

pub returns : goal.returns
returns c =
    met_new _ c.meet-meeting.result c.args.i _ c.if-meeting-gt-MOST_CYCLES.false c.in_ok-next.ensures ∙ fed_by (goal.at.returns c).After-meet-meeting
