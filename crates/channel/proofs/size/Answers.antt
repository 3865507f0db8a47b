-- channel::size meets its contract.
use Rattle.std.proofs.Common.{refl, ap, length-take-le}
use Rattle.units.specs.declared.Token.{Token}
use Rattle.channel.proofs.Laws.{size_greatest}
use Rattle.channel.specs.Bounds.{brief_p, brief_c, cycles_add, pace_long, claims_ready, size_from}
use Rattle.channel.proofs.size.Goals as goal

pub pace_of-pace-requires : goal.pace_of-pace-requires
pace_of-pace-requires c =
    let a = c.args in rw (c.per-cycles.ensures, c.ticks.ensures) (c.requires.0, cycles_add a.producer a.start a.consumer c.requires.0 c.requires.2)

pub claims-requires : goal.claims-requires
claims-requires c =
    let a = c.args in let w = c.requires.0 in rw (c.pace_of-pace.ensures, c.per-cycles.ensures, c.ticks.ensures)
    (brief_p a.producer a.consumer w, c.requires.2, pace_long a.producer a.start a.consumer w c.requires.2, length-take-le _ _ w.producer.phases)

pub greatest-requires : goal.greatest-requires
greatest-requires c =
    let a = c.args in let w = c.requires.0 in
    let long = pace_long a.producer a.start a.consumer w c.requires.2 in
    rw (c.claims.ensures, c.pace_of-pace.ensures, c.per-cycles.ensures, c.ticks.ensures)
    (claims_ready a.producer a.start _ (brief_p a.producer a.consumer w) c.requires.2 long, brief_c a.producer a.consumer w, c.requires.3, long)

pub returns : goal.returns
returns c =
    let a = c.args in rw (c.greatest.ensures, c.claims.ensures, c.pace_of-pace.ensures, c.per-cycles.ensures, c.ticks.ensures, ap (λ (t : Token). t.0) (size_from a.producer a.start a.consumer a.next _ refl refl))
    (size_greatest a.producer a.consumer c.requires.0 a.start a.next c.requires.1)
