-- tables::channels::proper_channel meets its contract.
use Rattle.std.proofs.Common.{◌≡◌, sym, subst, subst₂, ◌∙◌, ℕ, ◌^◌, ◌<◌, List, [], Bool, mod-lt, arith}
use mathlib.Core.Logic.Iff
use Rattle.numbers.specs.Bits.{Has, has_below}
use Rattle.numbers.specs.Decides.{Decides, decides_no, decides_true, decides_false}
use Rattle.units.specs.Limits.{ACTORS}
use Rattle.tables.specs.declared.Actor.{Actor}
use Rattle.tables.specs.declared.Channel.{Channel}
use Rattle.tables.specs.Proper.{ProperRates, ProperChannel}
use Rattle.tables.specs.Memory.{head_in, actor_in, mode_in}
use Rattle.tables.proofs.Remembered.{actor_in_law}
use Rattle.tables.proofs.channels.proper_channel.Goals as goal

module _ (f : List ℕ) (active : ℕ) (e : active ≡ (head_in f).active) where
  -- an active actor has a place
  below : (i : ℕ) → Has active i → i < ACTORS
  below i h = has_below ACTORS active i (subst (λ (n : ℕ). n < 2 ^ ACTORS) (sym e) (mod-lt _ (omega arith))) h

  -- a channel between active actors is judged by their phases
  rated_at : (c : Channel) (p q : Actor) (r : Bool) → Has active c.from → Has active c.to → p ≡ actor_in f c.from → q ≡ actor_in f c.to
      → Decides (ProperRates p.phases c.production × ProperRates q.phases c.consumption) r → Decides (ProperChannel (mode_in f []) c) r
  rated_at c p q r from to producer consumer d =
      let from_below = below c.from from in
      let to_below = below c.to to in
      Iff.trans
      (subst₂ (λ (a b : Actor). Decides (ProperRates a.phases c.production × ProperRates b.phases c.consumption) r)
      (producer ∙ sym (actor_in_law f [] c.from from_below)) (consumer ∙ sym (actor_in_law f [] c.to to_below)) d) (
        (λ (made, taken).
            record {
              from = from_below;
              to = to_below;
              from_active = subst (λ (n : ℕ). Has n c.from) e from;
              to_active = subst (λ (n : ℕ). Has n c.to) e to;
              production = made;
              consumption = taken;
            }),
        (λ w. (w.production, w.consumption)),
      )

pub returns-then-not-has : goal.returns-then-not-has
returns-then-not-has c =
    decides_no (λ w. decides_false c.has.ensures c.if-not-has.true (subst (λ (n : ℕ). Has n c.args.channel.from) (sym c.requires.1) w.from_active))

pub returns-then-not-has-2 : goal.returns-then-not-has-2
returns-then-not-has-2 c =
    decides_no (λ w. decides_false c.has-2.ensures c.if-not-has-2.true (subst (λ (n : ℕ). Has n c.args.channel.to) (sym c.requires.1) w.to_active))

pub actor_at-producer-requires : goal.actor_at-producer-requires
actor_at-producer-requires c = (c.requires.0, below c.args.front.now c.args.active c.requires.1 _ (decides_true c.has.ensures c.if-not-has.false))

pub actor_at-consumer-requires : goal.actor_at-consumer-requires
actor_at-consumer-requires c = (c.requires.0, below c.args.front.now c.args.active c.requires.1 _ (decides_true c.has-2.ensures c.if-not-has-2.false))

pub returns : goal.returns
returns c =
    rated_at c.args.front.now c.args.active c.requires.1 c.args.channel _ _ c.rated.result (decides_true c.has.ensures c.if-not-has.false) (decides_true c.has-2.ensures c.if-not-has-2.false)
    c.actor_at-producer.ensures c.actor_at-consumer.ensures c.rated.ensures
