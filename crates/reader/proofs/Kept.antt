-- The table of rows that were read, one at least, is proper. Assumes nothing.
use mathlib.Core.Path.{◌≡◌, refl, sym, ap, subst, ◌∙◌}
use mathlib.Core.List.Memᴰ
use mathlib.Core.List.{List, [], ◌∷◌}
use mathlib.Core.Logic.{inl, inr}
use Prim.Native.Nat.{ℕ, suc, ◌≤◌, ◌<◌}
use native.Mathlib.Omega.{arith}
use native.Mathlib.Decide.{ℕ_discrete}
use lib.ListN.{length, get_or, get_or-eq_default}
use Rattle.numbers.specs.Every.{Every, every_at}
use Rattle.numbers.specs.Padded.{padded, length_padded, padded_at}
use Rattle.units.specs.Limits.{MODES, CHANNELS, PHASES, MOST_RATE}
use Rattle.terms.specs.Place.{place_of}
use Rattle.tables.specs.declared.Actor.{Actor}
use Rattle.tables.specs.Shape.{Mode, actor_at, mode_at, with_actor, with_channel}
use Rattle.tables.specs.Proper.{ProperRates, ProperMode, ProperTable}
use Rattle.tables.specs.Grown.{empty_proper, actor_mode, channel_mode}
use Rattle.reader.specs.Rows.{Row, ActorRow, ChannelRow, actor, channel, Rates, ActorInRange, ChannelInRange, Lists, ListedActor, channels, Unfit, Passes}
use Rattle.reader.specs.Told.{channel_of, table_of}
use Rattle.reader.proofs.Lookup.{Passed, start, then, holds, lists_range, stable, mode_at_law, empty_mode_law, listed_is, listed_stable, place_has, place_is, one_home}

-- a list whose rates are not all 0 has one that is not
some_rate : (xs : List ℕ) → (Every (λ x. x ≡ 0) xs → ⊥) → (k : ℕ) × (0 < get_or xs k 0)
some_rate [] h = absurd (h tt)
some_rate (x ∷ xs) h = go (ℕ_discrete x 0) (some_rate xs)
  where
    go : Dec (x ≡ 0) → ((Every (λ x. x ≡ 0) xs → ⊥) → (k : ℕ) × (0 < get_or xs k 0)) → (k : ℕ) × (0 < get_or (x ∷ xs) k 0)
    go (yes e) ih = let (k, l) = ih (λ a. h (e, a)) in (suc k, l)
    go (no n) ih = (0, omega (arith, n))

-- a list of rates in memory, if refusal 5 does not apply to it
proper_rates : (xs : List ℕ) → Rates xs → length xs ≤ PHASES → (Every (λ x. x ≡ 0) xs → ⊥) → ProperRates (length xs) (padded PHASES 0 xs)
proper_rates xs r h n =
    record {
      long = length_padded PHASES 0 xs;
      small = λ k. rw (padded_at PHASES 0 xs k h) (every_at (λ x. x ≤ MOST_RATE.0) 0 xs (omega arith) r.1 k);
      behind = λ k l. padded_at PHASES 0 xs k h ∙ get_or-eq_default xs 0 l;
      some = let (k, l) = some_rate xs n in (k, rw (padded_at PHASES 0 xs k h) l);
    }

-- the mode of a row that passes, before it and with it
module _ {rs : List Row} (p : Passed rs) where
  actor_proper : (r : ActorRow) → ActorInRange r → Passes rs (actor r) → ProperMode (mode_at (table_of rs) (place_of r.mode))
      → ProperMode (with_actor (mode_at (table_of rs) (place_of r.mode)) (place_of r.actor) r.is)
  actor_proper r i q g =
      actor_mode (mode_at (table_of rs) (place_of r.mode)) g (place_of r.actor) r.is (omega (arith, i.actor))
      (λ h. q.0 (((holds p).has r.mode r.actor i.mode i.actor).0 h))
      (record {
        some_phase = i.phases.0;
        phases = i.phases.1;
        some_tick = i.wcet.0;
        wcet = i.wcet.1;
        some_processor = i.processor.0;
        processor = i.processor.1;
      })

  module _ (r : ChannelRow) (i : ChannelInRange r) (q : Passes rs (channel r)) (g : ProperMode (mode_at (table_of rs) (place_of r.mode))) where
    abbrev M : Mode
    M = mode_at (table_of rs) (place_of r.mode)

    -- the rates of an end that is listed
    end_rates : (a : ℕ) (xs : List ℕ) → Rates xs → ListedActor rs r.mode a → (Unfit rs r.mode a xs → ⊥) → ProperRates (actor_at M (place_of a)).phases (padded PHASES 0 xs)
    end_rates a xs h l fit =
        let long : length xs ≡ l.by.is.phases = stable (λ n. fit (l, inl n)) in
        subst (λ (k : ℕ). ProperRates k (padded PHASES 0 xs)) (long ∙ sym (ap (λ (b : Actor). b.phases) (listed_is p l)))
        (proper_rates xs h (omega (arith, (lists_range p l.lists).phases)) (λ z. fit (l, inr z)))

    channel_proper : ProperMode (with_channel M (channel_of r))
    channel_proper =
        let from = listed_stable p i.mode i.from (λ n. q.0 (inl n)) in
        let to = listed_stable p i.mode i.to (λ n. q.0 (inr (inl n))) in
        let few : CHANNELS ≤ channels rs r.mode → ⊥ = λ h. q.0 (inr (inr h)) in
        channel_mode M (channel_of r) g (omega (arith, (holds p).count r.mode i.mode))
        (record {
          from = omega (arith, i.from);
          to = omega (arith, i.to);
          from_active = ((holds p).has r.mode r.from i.mode i.from).1 from;
          to_active = ((holds p).has r.mode r.to i.mode i.to).1 to;
          production = end_rates r.from r.production i.production from (λ n. q.2 (inl n));
          consumption = end_rates r.to r.consumption i.consumption to (λ n. q.2 (inr n));
        })

-- each mode
pub modes_proper : {rs : List Row} → Passed rs → (m : ℕ) → m < MODES → ProperMode (mode_at (table_of rs) m)
unfolding table_of
modes_proper start m h = rw (empty_mode_law m h) empty_proper
modes_proper (then {r = actor r} {rs} i q p) m h =
    mode_at_law (table_of rs) (holds p).sized.modes (place_of r.mode) _ (omega (arith, i.mode)) ProperMode m
    (λ e. actor_proper p r i q (modes_proper p (place_of r.mode) (omega (arith, i.mode)))) (λ n. modes_proper p m h)
modes_proper (then {r = channel r} {rs} i q p) m h =
    mode_at_law (table_of rs) (holds p).sized.modes (place_of r.mode) _ (omega (arith, i.mode)) ProperMode m
    (λ e. channel_proper p r i q (modes_proper p (place_of r.mode) (omega (arith, i.mode)))) (λ n. modes_proper p m h)

-- some row lists an actor: the first one, before which no channel passes
some_actor : {rs : List Row} → Passed rs → 0 < length rs → (e : ActorRow) × Lists rs e
some_actor start h = absurd (omega arith)
some_actor (then {r = actor r} i q p) h = (r, Memᴰ.head refl)
some_actor (then {r = channel r} {rs = []} i q p) h = absurd (q.0 (inl (λ l. elim l.lists [ ])))
some_actor (then {r = channel r} {rs = x ∷ rs} i q p) h = let (e, l) = some_actor p (omega arith) in (e, Memᴰ.tail l)

pub proper : {rs : List Row} → Passed rs → 0 < length rs → ProperTable (table_of rs)
proper {rs} p h =
    let (e, l) = some_actor p h in
    let i = lists_range p l in
    record {
      modes_long = (holds p).sized.modes;
      mode = modes_proper p;
      home = λ m n i hm hn hi a b.
          let x = (place_has p m hm i hi).0 a in
          let y = (place_has p n hn i hi).0 b in
          ap (λ (s : Actor). s.processor) (place_is p m i x) ∙ one_home p x.lists y.lists (x.actor ∙ sym y.actor) ∙ sym (ap (λ (s : Actor). s.processor) (place_is p n i y));
      some = (
        place_of e.mode,
        place_of e.actor,
        omega (arith, i.mode),
        omega (arith, i.actor),
        ((holds p).has e.mode e.actor i.mode i.actor).1 (record { by = e; lists = l; mode = refl; actor = refl }),
      );
    }
