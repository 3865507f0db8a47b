-- reader::check_in meets its contract.
use Rattle.std.proofs.Common.{◌≡◌, ℕ, List, get_or, subst, subst₂, Option, None, Result}
use Rattle.terms.specs.declared.refusal.Reason.{Reason}
use Rattle.tables.specs.declared.Actor.{Actor as Stage}
use Rattle.tables.specs.declared.memory.Head.{Head}
use Rattle.tables.specs.Memory.{head_in, actor_in}
use Rattle.reader.specs.declared.line.Entry.TheVariants.{Actor, Channel}
use Rattle.reader.specs.declared.line.Link.{Link}
use Rattle.reader.specs.Checks.{ActorChecked, ChannelChecked, CheckedBy}
use Rattle.reader.proofs.check_in.Goals as goal

-- the same check of the same numbers
by_actor : (f : List ℕ) (homes : List (Option ℕ)) (a : ℕ) (is : Stage) (x : Result (Unit {0}) Reason) {h : Head} → h ≡ head_in f
    → ActorChecked h.active (get_or homes a None) a is x → CheckedBy f homes (Actor a is) x
by_actor f homes a is x e c = subst (λ (g : Head). ActorChecked g.active (get_or homes a None) a is x) e c

by_channel : (f : List ℕ) (homes : List (Option ℕ)) (l : Link) (x : Result (Unit {0}) Reason) {h : Head} {u v : Stage} → h ≡ head_in f
    → u ≡ actor_in f l.from → v ≡ actor_in f l.to → ChannelChecked h.active h.count u.phases v.phases l x → CheckedBy f homes (Channel l) x
by_channel f homes l x {h} e p q c =
    subst (λ (g : Head). ChannelChecked g.active g.count (actor_in f l.from).phases (actor_in f l.to).phases l x) e
    (subst₂ (λ (y z : Stage). ChannelChecked h.active h.count y.phases z.phases l x) p q c)

pub returns-in-Actor : goal.returns-in-Actor
returns-in-Actor c =
    rw c.in-Actor.is
    (by_actor c.args.front.now c.args.homes.now c.in-Actor.place c.in-Actor.is' c.check_actor.result c.head_of-head.ensures c.check_actor.ensures)

pub returns-in-Channel : goal.returns-in-Channel
returns-in-Channel c =
    rw c.in-Channel.is
    (by_channel c.args.front.now c.args.homes.now c.in-Channel.link c.check_channel.result c.head_of-head.ensures c.actor_at-giver.ensures c.actor_at-taker.ensures c.check_channel.ensures)
