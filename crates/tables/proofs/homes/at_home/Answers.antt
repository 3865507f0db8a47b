-- tables::homes::at_home meets its contract. The invariant: the actors below i are on their homes.
use Rattle.std.proofs.Common.{◌≡◌, sym, ap, ◌∙◌, ℕ, ◌<◌, List, get_or, arith, below_more}
use Rattle.numbers.specs.Decides.{decides_no, decides_true, decides_false}
use Rattle.numbers.specs.Tab.{tab, get_or_tab}
use Rattle.units.specs.Limits.{ACTORS}
use Rattle.tables.specs.declared.Actor.{Actor}
use Rattle.tables.specs.Shape.{no_actor}
use Rattle.tables.specs.Memory.{actor_in}
use Rattle.tables.proofs.homes.at_home.Goals as goal

-- the processor of an actor of a mode
processor_is : (front : List ℕ) (i : ℕ) (a : Actor) → i < ACTORS → a ≡ actor_in front i → (get_or (tab ACTORS (actor_in front)) i no_actor).processor ≡ a.processor
processor_is front i a h e = ap (λ (x : Actor). x.processor) (get_or_tab ACTORS (actor_in front) i no_actor h ∙ sym e)

pub returns-then-not-on_home : goal.returns-then-not-on_home
returns-then-not-on_home c =
    let e = processor_is c.args.front.now c.loop-i.i c.actor_at-actor.result (omega arith) c.actor_at-actor.ensures in
    decides_no (λ w. decides_false c.on_home.ensures c.if-not-on_home.true (λ h s p. w c.loop-i.i (omega arith) h s (omega (arith, e)) ∙ e))

pub loop-i-preserved : goal.loop-i-preserved
loop-i-preserved c =
    let e = processor_is c.args.front.now c.loop-i.i c.actor_at-actor.result (omega arith) c.actor_at-actor.ensures in
    below_more _ _ c.loop-i.invariant (λ h s p. decides_true c.on_home.ensures c.if-not-on_home.false h s (omega (arith, e)) ∙ sym e)
