-- The rows of a proper table pass, and their table is that table. Assumes nothing.
use mathlib.Core.Path.{◌≡◌, refl, sym, ap, subst, ◌∙◌}
use mathlib.Core.Bool.{Bool, true, false, cond}
use mathlib.Core.List.{List, [], ◌∷◌, ◌++◌}
use mathlib.Core.Logic.{◌⊎◌, inl, inr, ⊎_elim, ◌↔◌}
use Prim.Native.Nat.{ℕ, zero, suc, ◌≤◌, ◌<◌}
use native.Mathlib.Nat.{le_refl}
use native.Mathlib.Numerals.{add-one}
use native.Mathlib.Omega.{arith}
use native.Mathlib.Decide.{ℕ_discrete, dec_lt}
use lib.ListN.{length, get_or, take, length-take, get_or-eq_default}
use lib.Seq.{length-take-le, get_or-take, ext_get_or}
use borrow.Author.Tests.{eqb-true, eqb-false}
use Rattle.numbers.specs.Every.{Every, every_at, every_from}
use Rattle.numbers.specs.Padded.{padded, length_padded, padded_at}
use Rattle.numbers.specs.Bits.{Has, hasb, has_adding, has_below, bit_zero, same_set}
use Rattle.numbers.specs.Filled.{Filled, filled_none, filled_set, filled_left}
use Rattle.units.specs.Limits.{MODES, ACTORS, CHANNELS, PHASES, MOST_RATE}
use Rattle.terms.specs.Place.{place_of, number_of}
use Rattle.tables.specs.declared.Actor.{Actor}
use Rattle.tables.specs.declared.Channel.{Channel}
use Rattle.tables.specs.Shape.{Mode, Table, no_actor, no_channel, no_mode, empty_channel, empty_mode, actor_at, channel_at, mode_at, with_actor, with_channel, with_mode}
use Rattle.tables.specs.Proper.{ProperRates, ProperChannel, ProperMode, ProperTable}
use Rattle.reader.specs.Rows.{Row, ActorRow, actor, channel, Rates, ActorInRange, ChannelInRange, InRange, Lists, ListedActor, Unfit, Passes}
use Rattle.reader.specs.Told.{listing, table_of}
use Rattle.reader.specs.Writing.{actor_row, channel_row, actor_rows, channel_rows, mode_rows, rows_of}
use Rattle.reader.proofs.Lookup.{Passed, start, then, holds, lists_range, mode_same, mode_other, empty_mode_law, place_number, place_has, place_is, place_count}

-- N has of the mode M the actors at the first i places and the first k channels, and nothing else
record Partly (M N : Mode) (i k : ℕ) : Type 0 where
  has : (j : ℕ) → Has N.active j ↔ ((j < i) × Has M.active j)
  count : N.count ≡ k
  actors : Filled ACTORS (λ j a. a ≡ actor_at M j) no_actor no_actor N.actors i
  channels : Filled CHANNELS (λ j c. c ≡ channel_at M j) empty_channel no_channel N.channels k

-- nothing of it
part_none : (M : Mode) → Partly M empty_mode 0 0
part_none M =
    record {
      has = λ j. (λ h. absurd (omega (arith, bit_zero j)), λ h. absurd (omega (arith, h.0)));
      count = refl;
      actors = filled_none ACTORS _ no_actor no_actor;
      channels = filled_none CHANNELS _ empty_channel no_channel;
    }

module _ (M : Mode) (g : ProperMode M) {N : Mode} {i k : ℕ} (p : Partly M N i k) where
  -- an actor more, a place with no actor, a channel more, and all of it
  part_actor : i < ACTORS → Has M.active i → Partly M (with_actor N i (actor_at M i)) (suc i) k
  part_actor hi h =
      record {
        has = λ j. (
          λ x. ⊎_elim (λ e. (omega arith, rw e h)) (λ y. (omega (arith, ((p.has j).0 y).0), ((p.has j).0 y).1)) ((has_adding N.active i j).0 x),
          λ x. (has_adding N.active i j).1 (below j x (ℕ_discrete j i)),
        );
        count = p.count;
        actors = rw add-one at (filled_set ACTORS _ no_actor no_actor N.actors i (actor_at M i) hi refl p.actors);
        channels = p.channels;
      }
    where
      below : (j : ℕ) → (j < suc i) × Has M.active j → Dec (j ≡ i) → (j ≡ i) ⊎ Has N.active j
      below j x (yes e) = inl e
      below j x (no n) = inr ((p.has j).1 (omega (arith, n, x.0), x.1))

  part_skip : i < ACTORS → (Has M.active i → ⊥) → Partly M N (suc i) k
  part_skip hi n =
      record {
        has = λ j. (λ x. (omega (arith, ((p.has j).0 x).0), ((p.has j).0 x).1), λ x. (p.has j).1 (below j x (ℕ_discrete j i), x.1));
        count = p.count;
        actors = rw add-one at (filled_left ACTORS _ no_actor no_actor N.actors i hi (sym (g.no_actor_law i hi n)) p.actors);
        channels = p.channels;
      }
    where
      below : (j : ℕ) → (j < suc i) × Has M.active j → Dec (j ≡ i) → j < i
      below j x (yes e) = absurd (n (rw e at x.1))
      below j x (no d) = omega (arith, d, x.0)

  part_channel : k < CHANNELS → Partly M (with_channel N (channel_at M k)) i (suc k)
  part_channel hk =
      record {
        has = p.has;
        count = rw (p.count, add-one);
        actors = p.actors;
        channels = rw p.count (rw add-one at (filled_set CHANNELS _ empty_channel no_channel N.channels k (channel_at M k) hk refl p.channels));
      }

part_all : (M N : Mode) → ProperMode M → Partly M N ACTORS M.count → N ≡ M
part_all M N g p = λ x. record { active = active x; count = p.count x; actors = actors x; channels = channels x }
  where
    active : N.active ≡ M.active
    active = same_set N.active M.active (λ j. (λ h. ((p.has j).0 h).1, λ h. (p.has j).1 (has_below ACTORS M.active j g.active h, h)))

    actors : N.actors ≡ M.actors
    actors = ext_get_or no_actor N.actors M.actors (p.actors.long ∙ sym g.actors_long) (λ j l. p.actors.each j (omega (arith, p.actors.long)))

    channel_is : (j : ℕ) → j < CHANNELS → Dec (j < M.count) → channel_at N j ≡ channel_at M j
    channel_is j l (yes h) = p.channels.each j h
    channel_is j l (no n) = p.channels.ahead j (omega (arith, n)) l ∙ sym (g.no_channel_law j l (omega (arith, n)))

    channels : N.channels ≡ M.channels
    channels =
        ext_get_or no_channel N.channels M.channels (p.channels.long ∙ sym g.channels_long)
        (λ j l. channel_is j (omega (arith, p.channels.long)) (dec_lt j M.count))

-- the rates that are written of a list in memory are in range, as many as the phases, and not all 0
module _ (p : ℕ) (xs : List ℕ) (hp : p ≤ PHASES) (g : ProperRates p xs) where
  taken_at : (k : ℕ) → get_or (take p xs) k 0 ≡ get_or xs k 0
  taken_at k = go (dec_lt k p)
    where
      go : Dec (k < p) → get_or (take p xs) k 0 ≡ get_or xs k 0
      go (yes l) = get_or-take p xs k 0 l
      go (no n) = get_or-eq_default (take p xs) 0 (omega (arith, length-take p xs)) ∙ sym (g.behind k (omega arith))

  taken_length : length (take p xs) ≡ p
  taken_length = length-take-le p xs (omega (arith, g.long))

  taken_rates : 1 ≤ p → Rates (take p xs)
  taken_rates h = (omega (arith, taken_length), every_from (λ x. x ≤ MOST_RATE.0) 0 (take p xs) (λ k l. rw (taken_at k) (g.small k)))

  taken_some : Every (λ x. x ≡ 0) (take p xs) → ⊥
  taken_some z = let (k, l) = g.some in omega (arith, l, taken_at k, every_at (λ x. x ≡ 0) 0 (take p xs) refl z k)

  -- filled up again, they are that list
  taken_padded : padded PHASES 0 (take p xs) ≡ xs
  taken_padded =
      ext_get_or 0 (padded PHASES 0 (take p xs)) xs (length_padded PHASES 0 (take p xs) ∙ sym g.long)
      (λ k h. padded_at PHASES 0 (take p xs) k (omega (arith, taken_length)) ∙ taken_at k)

-- the numbers that are written are in their ranges
module _ (m : ℕ) (hm : m < MODES) (M : Mode) (g : ProperMode M) where
  pub actor_range : (i : ℕ) → i < ACTORS → Has M.active i → ActorInRange (actor_row m M i)
  actor_range i hi h =
      let a = g.actor i hi h in
      record {
        mode = (omega arith, omega arith);
        actor = (omega arith, omega arith);
        phases = (a.some_phase, a.phases);
        wcet = (a.some_tick, a.wcet);
        processor = (a.some_processor, a.processor);
      }

  pub channel_range : (c : Channel) → ProperChannel M c → ChannelInRange (channel_row m M c)
  channel_range c p =
      let a = g.actor c.from p.from p.from_active in
      let b = g.actor c.to p.to p.to_active in
      record {
        mode = (omega arith, omega arith);
        from = (omega arith, omega (arith, p.from));
        to = (omega arith, omega (arith, p.to));
        production = taken_rates (actor_at M c.from).phases c.production a.phases p.production a.some_phase;
        consumption = taken_rates (actor_at M c.to).phases c.consumption b.phases p.consumption b.some_phase;
      }

-- rows that passed, whose table has the modes of t below m, of mode m the first i places and k channels, and nothing behind
record Stage (t : Table) (m i k : ℕ) (rs : List Row) : Type 0 where
  passed : Passed rs
  before : (j : ℕ) → j < m → mode_at (table_of rs) j ≡ mode_at t j
  now : Partly (mode_at t m) (mode_at (table_of rs) m) i k
  after : (j : ℕ) → m < j → j < MODES → mode_at (table_of rs) j ≡ empty_mode

-- one row more
stage_row : {t : Table} {m i k i' k' : ℕ} {r : Row} {rs : List Row} (N : Mode) → m < MODES → Stage t m i k rs → InRange r → Passes rs r
    → listing r (table_of rs) ≡ with_mode (table_of rs) m N → Partly (mode_at t m) N i' k' → Stage t m i' k' (r ∷ rs)
unfolding table_of
stage_row {t} {m} {i' = i'} {k'} {r} {rs} N hm s h q e p =
    record {
      passed = then h q s.passed;
      before = λ j l. other j (λ x. omega arith) ∙ s.before j l;
      now = subst (λ (x : Mode). Partly (mode_at t m) x i' k') (sym (ap (λ (u : Table). mode_at u m) e ∙ mode_same (table_of rs) (holds s.passed).sized.modes m N hm)) p;
      after = λ j l b. other j (λ x. omega arith) ∙ s.after j l b;
    }
  where
    other : (j : ℕ) → (j ≡ m → ⊥) → mode_at (listing r (table_of rs)) j ≡ mode_at (table_of rs) j
    other j n = ap (λ (u : Table). mode_at u j) e ∙ mode_other (table_of rs) (holds s.passed).sized.modes m N hm j n

-- the rows of one mode
module _ (t : Table) (g : ProperTable t) (m : ℕ) (hm : m < MODES) where
  abbrev M : Mode
  M = mode_at t m

  abbrev gM : ProperMode M
  gM = g.mode m hm

  module _ (i : ℕ) (hi : i < ACTORS) (h : Has M.active i) {rs : List Row} (s : Stage t m i 0 rs) where
    -- the actor at place i is listed in earlier modes at most
    listed_before : (n : ℕ) → n < MODES → Has (mode_at (table_of rs) n).active i → n < m
    listed_before n hn k = go (dec_lt n m) (ℕ_discrete n m)
      where
        go : Dec (n < m) → Dec (n ≡ m) → n < m
        go (yes l) e = l
        go (no l) (yes e) = absurd (omega (arith, ((s.now.has i).0 (rw e at k)).0))
        go (no l) (no e) = absurd (omega (arith, bit_zero i, rw (s.after n (omega (arith, l, e)) hn) at k))

    -- and there on the same processor
    same_home : (e : ActorRow) → Lists rs e → e.actor ≡ number_of i → e.is.processor ≡ (actor_at M i).processor
    same_home e l q =
        let n = place_of e.mode in
        let r = lists_range s.passed l in
        let hn : n < MODES = omega (arith, r.mode) in
        let d : ListedActor rs (number_of n) (number_of i) = record { by = e; lists = l; mode = omega (arith, r.mode); actor = q } in
        let k : Has (mode_at (table_of rs) n).active i = (place_has s.passed n hn i hi).1 d in
        let b : mode_at (table_of rs) n ≡ mode_at t n = s.before n (listed_before n hn k) in
        sym (ap (λ (a : Actor). a.processor) (place_is s.passed n i d))
        ∙ ap (λ (N : Mode). (actor_at N i).processor) b ∙ g.home n m i hn hm hi (rw b at k) h

    stage_actor : Stage t m (suc i) 0 (actor (actor_row m M i) ∷ rs)
    stage_actor =
        stage_row (with_actor (mode_at (table_of rs) m) i (actor_at M i)) hm s (actor_range m hm M gM i hi h) (
          (λ l. omega (arith, listed_before m hm ((place_has s.passed m hm i hi).1 l))),
          (λ (e, l, q, n). n (same_home e l q)),
          (λ q. q),
        )
        (rw (place_number m, place_number i)) (part_actor M gM s.now hi h)

  actor_stages : (i : ℕ) {rs : List Row} → i ≤ ACTORS → Stage t m 0 0 rs → Stage t m i 0 (actor_rows m M i ++ rs)
  unfolding actor_rows
  actor_stages zero h s = s
  actor_stages (suc i) {rs} h s = go (hasb M.active i) refl (actor_stages i (omega arith) s)
    where
      go : (x : Bool) → hasb M.active i ≡ x → Stage t m i 0 (actor_rows m M i ++ rs)
          → Stage t m (suc i) 0 (cond x (actor (actor_row m M i) ∷ actor_rows m M i) (actor_rows m M i) ++ rs)
      go true e s = stage_actor i h (eqb-true _ 1 e) s
      go false e s = record { passed = s.passed; before = s.before; now = part_skip M gM s.now h (eqb-false _ 1 e); after = s.after }

  module _ (k : ℕ) (hk : k < M.count) {rs : List Row} (s : Stage t m ACTORS k rs) where
    abbrev C : Channel
    C = channel_at M k

    abbrev pC : ProperChannel M C
    pC = gM.channel k hk

    -- the ends of a channel are listed, and its rates fit their phases
    end_listed : (i : ℕ) → i < ACTORS → Has M.active i → ListedActor rs (number_of m) (number_of i)
    end_listed i hi h = (place_has s.passed m hm i hi).0 ((s.now.has i).1 (hi, h))

    end_fits : (i : ℕ) (xs : List ℕ) → i < ACTORS → Has M.active i → ProperRates (actor_at M i).phases xs
        → Unfit rs (number_of m) (number_of i) (take (actor_at M i).phases xs) → ⊥
    end_fits i xs hi h r (l, bad) =
        let few = (gM.actor i hi h).phases in
        let is : actor_at M i ≡ l.by.is = sym (s.now.actors.each i hi) ∙ place_is s.passed m i l in
        ⊎_elim (λ n. n (taken_length (actor_at M i).phases xs few r ∙ ap (λ (a : Actor). a.phases) is)) (taken_some (actor_at M i).phases xs few r) bad

    end_padded : (i : ℕ) (xs : List ℕ) → i < ACTORS → Has M.active i → ProperRates (actor_at M i).phases xs → padded PHASES 0 (take (actor_at M i).phases xs) ≡ xs
    end_padded i xs hi h r = taken_padded (actor_at M i).phases xs (gM.actor i hi h).phases r

    channel_passes : Passes rs (channel (channel_row m M C))
    channel_passes = (
      ⊎_elim (λ n. n (end_listed C.from pC.from pC.from_active))
          (⊎_elim (λ n. n (end_listed C.to pC.to pC.to_active))
          (λ n. omega (arith, n, place_count s.passed m hm, s.now.count, gM.count))),
      (λ q. q),
      ⊎_elim (end_fits C.from C.production pC.from pC.from_active pC.production)
          (end_fits C.to C.consumption pC.to pC.to_active pC.consumption),
    )

    stage_channel : Stage t m ACTORS (suc k) (channel (channel_row m M C) ∷ rs)
    stage_channel =
        stage_row (with_channel (mode_at (table_of rs) m) C) hm s (channel_range m hm M gM C pC) channel_passes
        (rw (
          place_number m,
          place_number C.from,
          place_number C.to,
          end_padded C.from C.production pC.from pC.from_active pC.production,
          end_padded C.to C.consumption pC.to pC.to_active pC.consumption,
        )) (part_channel M gM s.now (omega (arith, gM.count)))

  channel_stages : (k : ℕ) {rs : List Row} → k ≤ M.count → Stage t m ACTORS 0 rs → Stage t m ACTORS k (channel_rows m M k ++ rs)
  unfolding channel_rows
  channel_stages zero h s = s
  channel_stages (suc k) h s = stage_channel k h (channel_stages k (omega arith) s)

-- rows that passed, whose table has the first m modes of t and nothing behind
record Stages (t : Table) (m : ℕ) (rs : List Row) : Type 0 where
  passed : Passed rs
  before : (j : ℕ) → j < m → mode_at (table_of rs) j ≡ mode_at t j
  after : (j : ℕ) → m ≤ j → j < MODES → mode_at (table_of rs) j ≡ empty_mode

mode_begun : {t : Table} {m : ℕ} {rs : List Row} → m < MODES → Stages t m rs → Stage t m 0 0 rs
mode_begun {t} {m} h s =
    record { passed = s.passed; before = s.before; now = rw (s.after m (le_refl m) h) (part_none (mode_at t m)); after = λ j l. s.after j (omega arith) }

mode_done : {t : Table} {m : ℕ} {rs : List Row} → ProperMode (mode_at t m) → Stage t m ACTORS (mode_at t m).count rs → Stages t (suc m) rs
mode_done {t} {m} {rs} g s = record { passed = s.passed; before = λ j l. below j l (ℕ_discrete j m); after = s.after }
  where
    below : (j : ℕ) → j < suc m → Dec (j ≡ m) → mode_at (table_of rs) j ≡ mode_at t j
    below j l (yes e) = rw e (part_all (mode_at t m) (mode_at (table_of rs) m) g s.now)
    below j l (no d) = s.before j (omega arith)

mode_stages : (t : Table) → ProperTable t → (m : ℕ) → m ≤ MODES → Stages t m (mode_rows t m)
unfolding mode_rows table_of
mode_stages t g zero h = record { passed = start; before = λ j l. absurd (omega arith); after = λ j l. empty_mode_law j }
mode_stages t g (suc m) h =
    mode_done (g.mode m h)
    (channel_stages t g m h (mode_at t m).count (le_refl (mode_at t m).count) (actor_stages t g m h ACTORS (le_refl ACTORS) (mode_begun h (mode_stages t g m (omega arith)))))

-- the rows of the whole table pass, list that table, and are not none
pub rows_passed : (t : Table) → ProperTable t → Passed (rows_of t)
rows_passed t g = (mode_stages t g MODES (le_refl MODES)).passed

pub rows_table : (t : Table) → ProperTable t → table_of (rows_of t) ≡ t
rows_table t g =
    let s = mode_stages t g MODES (le_refl MODES) in
    let long : length (table_of (rows_of t)).modes ≡ MODES = (holds s.passed).sized.modes in
    ap (λ (ms : List Mode). record { modes = ms })
    (ext_get_or no_mode (table_of (rows_of t)).modes t.modes (long ∙ sym g.modes_long) (λ j l. s.before j (omega arith)))

pub rows_some : (t : Table) → ProperTable t → 0 < length (rows_of t)
unfolding table_of
rows_some t g = go (rows_of t) (rows_table t g)
  where
    go : (rs : List Row) → table_of rs ≡ t → 0 < length rs
    go [] e =
        let (m, i, hm, hi, h) = g.some in
        let z : Has 0 i = subst (λ (N : Mode). Has N.active i) (ap (λ (u : Table). mode_at u m) (sym e) ∙ empty_mode_law m hm) h in
        absurd (omega (arith, bit_zero i))
    go (r ∷ rs) e = omega arith
