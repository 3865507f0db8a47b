-- tables::actors::actor_stands meets its contract.
use Rattle.std.proofs.Common.{◌≡◌, sym, subst, ◌∙◌, ℕ, ◌<◌, List, [], Bool, T}
use mathlib.Core.Logic.Iff
use Rattle.numbers.specs.Bits.{Has}
use Rattle.numbers.specs.Decides.{Decides}
use Rattle.units.specs.Limits.{ACTORS}
use Rattle.tables.specs.declared.Actor.{Actor}
use Rattle.tables.specs.declared.memory.Head.{Head}
use Rattle.tables.specs.Shape.{no_actor}
use Rattle.tables.specs.Proper.{ProperActor}
use Rattle.tables.specs.Memory.{head_in, actor_in, mode_in}
use Rattle.tables.specs.Parts.{ActorStands}
use Rattle.tables.proofs.Remembered.{actor_in_law}
use Rattle.tables.proofs.actors.actor_stands.Goals as goal

-- the place at hand: who stands there, and whether that actor is active
stands_at : (f : List ℕ) (i : ℕ) (h : Head) (a : Actor) (b r : Bool) → i < ACTORS → h ≡ head_in f → a ≡ actor_in f i → Decides (Has h.active i) b
    → Decides ((T b → ProperActor a) × ((T b → ⊥) → a ≡ no_actor)) r → Decides (ActorStands (mode_in f []) i) r
stands_at f i h a b r within head actor active d =
    let is = actor ∙ sym (actor_in_law f [] i within) in
    let on = subst (λ (h : Head). Decides (Has h.active i) b) head active in
    Iff.trans d (
      (λ (p, n). record { actor = λ y. subst ProperActor is (p (on.1 y)); no_actor_law = λ z. sym is ∙ n (λ t. z (on.0 t)) }),
      (λ s. ((λ t. subst ProperActor (sym is) (s.actor (on.0 t))), (λ z. is ∙ s.no_actor_law (λ y. z (on.1 y))))),
    )

pub returns : goal.returns
returns c = stands_at _ _ _ _ _ _ c.requires.1 c.head_of-head.ensures c.actor_at.ensures c.has.ensures c.stands.ensures
