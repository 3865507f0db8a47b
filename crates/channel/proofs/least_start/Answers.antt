-- channel::least_start meets its contract.
use Rattle.std.proofs.Common.{length-take-le}
use Rattle.channel.proofs.Laws.{start_least}
use Rattle.channel.specs.Phases.{start_of}
use Rattle.channel.specs.Bounds.{brief_p, brief_c, pace_short, gives_ready}
use Rattle.channel.proofs.least_start.Goals as goal

pub gives-requires : goal.gives-requires
gives-requires c =
    let a = c.args in let w = c.requires.0 in
    rw c.pace_of-pace.ensures (brief_p a.producer a.consumer w, c.requires.1, pace_short a.producer a.consumer w, length-take-le _ _ w.producer.phases)

pub latest-requires : goal.latest-requires
latest-requires c =
    let a = c.args in let w = c.requires.0 in
    let short = pace_short a.producer a.consumer w in
    rw (c.gives.ensures, c.pace_of-pace.ensures)
    (gives_ready a.producer a.start _ (brief_p a.producer a.consumer w) c.requires.1 short, brief_c a.producer a.consumer w, short)

pub returns : goal.returns
unfolding start_of
returns c = let a = c.args in rw (c.latest.ensures, c.gives.ensures, c.pace_of-pace.ensures) (start_least a.producer a.consumer c.requires.0 a.start)
