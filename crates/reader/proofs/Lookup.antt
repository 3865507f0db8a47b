-- The table of rows that were read holds what they list. Assumes nothing.
use mathlib.Core.Path.{◌≡◌, refl, sym, ap, subst, ◌∙◌}
use mathlib.Core.Bool.{cond}
use mathlib.Core.List.Memᴰ
use mathlib.Core.List.{List, [], ◌∷◌}
use mathlib.Core.Logic.{◌⊎◌, inl, inr, ⊎_elim, ◌↔◌}
use Prim.Native.Nat.{ℕ, ◌+◌, ◌<◌}
use native.Mathlib.Omega.{arith}
use native.Mathlib.Decide.{ℕ_discrete}
use lib.Dec.{eqb}
use lib.ListN.{length, length-set, length-replicate, get_or-replicate}
use lib.Seq.{get_or-set_same, get_or-set_other}
use borrow.Author.Tests.{eq-eqb, ne_eqb}
use Rattle.numbers.specs.Bits.{Has, has_adding, has_or_not, bit_zero}
use Rattle.rfc4180.specs.Numbers.{Between}
use Rattle.units.specs.Limits.{MODES, ACTORS, CHANNELS}
use Rattle.terms.specs.Place.{place_of, number_of}
use Rattle.tables.specs.Shape.{Mode, Table, no_actor, no_mode, empty_channel, empty_mode, empty_table, actor_at, mode_at, with_actor, with_channel, with_mode}
use Rattle.reader.specs.Rows.{Row, ActorRow, ChannelRow, actor, channel, ActorInRange, InRange, Lists, ListedActor, channels, Passes}
use Rattle.reader.specs.Told.{channel_of, listing, table_of}

-- rows that were read, the latest first: each is in range, and none of refusals 3 to 5 applies to it
pub data Passed : List Row → Type 0 where
  start : Passed []
  then : {r : Row} {rs : List Row} → InRange r → Passes rs r → Passed rs → Passed (r ∷ rs)

-- the arrays of a table
pub record Sized (t : Table) : Type 0 where
  pub modes : length t.modes ≡ MODES
  pub actors : (m : ℕ) → m < MODES → length (mode_at t m).actors ≡ ACTORS
  pub channels : (m : ℕ) → m < MODES → length (mode_at t m).channels ≡ CHANNELS

-- what a table holds of some rows
pub record Holds (rs : List Row) (t : Table) : Type 0 where
  pub sized : Sized t
  pub has : (m a : ℕ) → Between 1 MODES m → Between 1 ACTORS a → Has (mode_at t (place_of m)).active (place_of a) ↔ ListedActor rs m a
  pub is : (e : ActorRow) → ActorInRange e → Lists rs e → actor_at (mode_at t (place_of e.mode)) (place_of e.actor) ≡ e.is
  pub count : (m : ℕ) → Between 1 MODES m → (mode_at t (place_of m)).count ≡ channels rs m

-- an actor that one of the rows lists is in range
pub lists_range : {rs : List Row} {e : ActorRow} → Passed rs → Lists rs e → ActorInRange e
lists_range start l = elim l [ ]
lists_range (then h q p) (Memᴰ.head e) = subst InRange (sym e) h
lists_range (then h q p) (Memᴰ.tail l) = lists_range p l

-- an equation that cannot be denied holds
pub stable : {a b : ℕ} → ((a ≡ b → ⊥) → ⊥) → a ≡ b
stable {a} {b} n = go (ℕ_discrete a b)
  where
    go : Dec (a ≡ b) → a ≡ b
    go (yes e) = e
    go (no d) = absurd (n d)

-- what one row more lists
pub listed_more : {r : Row} {rs : List Row} {m a : ℕ} → ListedActor rs m a → ListedActor (r ∷ rs) m a
listed_more l = record { by = l.by; lists = Memᴰ.tail l.lists; mode = l.mode; actor = l.actor }

pub lists_actor : {r e : ActorRow} {rs : List Row} → Lists (actor r ∷ rs) e → (e ≡ r) ⊎ Lists rs e
lists_actor (Memᴰ.head q) = inl (cc)
lists_actor (Memᴰ.tail l) = inr l

listed_actor : {r : ActorRow} {rs : List Row} {m a : ℕ} → ListedActor (actor r ∷ rs) m a → ((r.mode ≡ m) × (r.actor ≡ a)) ⊎ ListedActor rs m a
listed_actor l = ⊎_elim (λ f. inl (cc, cc)) (λ k. inr (record { by = l.by; lists = k; mode = l.mode; actor = l.actor })) (lists_actor l.lists)

pub lists_channel : {r : ChannelRow} {e : ActorRow} {rs : List Row} → Lists (channel r ∷ rs) e → Lists rs e
lists_channel (Memᴰ.head q) = let z : ◌≡◌ {A = ℕ} 0 1 = cc in absurd (omega arith)
lists_channel (Memᴰ.tail l) = l

listed_channel : {r : ChannelRow} {rs : List Row} {m a : ℕ} → ListedActor (channel r ∷ rs) m a → ListedActor rs m a
listed_channel l = record { by = l.by; lists = lists_channel l.lists; mode = l.mode; actor = l.actor }

-- a table with a mode at place i: what it has at place j
module _ (t : Table) (long : length t.modes ≡ MODES) (i : ℕ) (M : Mode) (h : i < MODES) where
  pub mode_same : mode_at (with_mode t i M) i ≡ M
  mode_same = get_or-set_same t.modes i M no_mode (omega arith)

  pub mode_other : (j : ℕ) → (j ≡ i → ⊥) → mode_at (with_mode t i M) j ≡ mode_at t j
  mode_other j n = get_or-set_other t.modes i j M no_mode n

  pub mode_at_law : (P : Mode → Type 0) (j : ℕ) → (j ≡ i → P M) → ((j ≡ i → ⊥) → P (mode_at t j)) → P (mode_at (with_mode t i M) j)
  mode_at_law P j new old = go (ℕ_discrete j i)
    where
      go : Dec (j ≡ i) → P (mode_at (with_mode t i M) j)
      go (yes e) = subst P (sym (ap (λ (k : ℕ). mode_at (with_mode t i M) k) e ∙ mode_same)) (new e)
      go (no n) = subst P (sym (mode_other j n)) (old n)

sized_with : (t : Table) (s : Sized t) (i : ℕ) (M : Mode) → i < MODES → length M.actors ≡ ACTORS → length M.channels ≡ CHANNELS → Sized (with_mode t i M)
sized_with t s i M h actors channels =
    record {
      modes = length-set t.modes i M ∙ s.modes;
      actors = λ j l. mode_at_law t s.modes i M h (λ (N : Mode). length N.actors ≡ ACTORS) j (λ e. actors) (λ n. s.actors j l);
      channels = λ j l. mode_at_law t s.modes i M h (λ (N : Mode). length N.channels ≡ CHANNELS) j (λ e. channels) (λ n. s.channels j l);
    }

-- one actor more
module _ {rs : List Row} {t : Table} (g : Holds rs t) (r : ActorRow) (hm : Between 1 MODES r.mode) (ha : Between 1 ACTORS r.actor) where
  abbrev old : Mode
  old = mode_at t (place_of r.mode)

  abbrev with_actor_law : Mode
  with_actor_law = with_actor old (place_of r.actor) r.is

  abbrev actor_at_law : (P : Mode → Type 0) (j : ℕ) → (j ≡ place_of r.mode → P with_actor_law) → ((j ≡ place_of r.mode → ⊥) → P (mode_at t j)) → P (mode_at (listing (actor r) t) j)
  actor_at_law = mode_at_law t g.sized.modes (place_of r.mode) with_actor_law (omega arith)

  actor_has : (m a : ℕ) → Between 1 MODES m → Between 1 ACTORS a → Has (mode_at (listing (actor r) t) (place_of m)).active (place_of a) ↔ ListedActor (actor r ∷ rs) m a
  actor_has m a bm ba =
      let adds = has_adding old.active (place_of r.actor) (place_of a) in
      actor_at_law (λ (N : Mode). Has N.active (place_of a) ↔ ListedActor (actor r ∷ rs) m a) (place_of m)
      (λ e. (
        λ h. ⊎_elim (λ f. record { by = r; lists = Memᴰ.head refl; mode = omega arith; actor = omega arith }) (λ k. listed_more ((g.has m a bm ba).0 (rw e k))) (adds.0 h),
        λ l. adds.1 (⊎_elim (λ f. inl (cc)) (λ k. inr (rw e at ((g.has m a bm ba).1 k))) (listed_actor l)),
      ))
      (λ n. (λ h. listed_more ((g.has m a bm ba).0 h), λ l. (g.has m a bm ba).1 (⊎_elim (λ f. absurd (n (cc))) (λ k. k) (listed_actor l))))

  actor_is : (ListedActor rs r.mode r.actor → ⊥) → (e : ActorRow) → ActorInRange e → Lists (actor r ∷ rs) e
      → actor_at (mode_at (listing (actor r) t) (place_of e.mode)) (place_of e.actor) ≡ e.is
  actor_is once e i l = ⊎_elim latest earlier (lists_actor l)
    where
      latest : e ≡ r → actor_at (mode_at (listing (actor r) t) (place_of e.mode)) (place_of e.actor) ≡ e.is
      latest f =
          rw (f, mode_same t g.sized.modes (place_of r.mode) with_actor_law (omega arith))
          (get_or-set_same old.actors (place_of r.actor) r.is no_actor (omega (arith, g.sized.actors (place_of r.mode) (omega arith))))

      earlier : Lists rs e → actor_at (mode_at (listing (actor r) t) (place_of e.mode)) (place_of e.actor) ≡ e.is
      earlier k =
          actor_at_law (λ (N : Mode). actor_at N (place_of e.actor) ≡ e.is) (place_of e.mode)
          (λ f. let other : place_of e.actor ≡ place_of r.actor → ⊥ = λ q. once (record { by = e; lists = k; mode = omega (arith, i.mode); actor = omega (arith, i.actor) }) in
          get_or-set_other old.actors (place_of r.actor) (place_of e.actor) r.is no_actor other ∙ (rw f at (g.is e i k)))
          (λ n. g.is e i k)

  actor_holds : (ListedActor rs r.mode r.actor → ⊥) → Holds (actor r ∷ rs) (listing (actor r) t)
  unfolding channels
  actor_holds once =
      record {
        sized = sized_with t g.sized (place_of r.mode) with_actor_law (omega arith)
            (length-set old.actors (place_of r.actor) r.is ∙ g.sized.actors (place_of r.mode) (omega arith)) (g.sized.channels (place_of r.mode) (omega arith));
        has = actor_has;
        is = actor_is once;
        count = λ m bm. actor_at_law (λ (N : Mode). N.count ≡ channels rs m) (place_of m) (λ e. rw (← e) (g.count m bm)) (λ n. g.count m bm);
      }

-- one channel more
module _ {rs : List Row} {t : Table} (g : Holds rs t) (r : ChannelRow) (hm : Between 1 MODES r.mode) where
  abbrev was : Mode
  was = mode_at t (place_of r.mode)

  abbrev with_channel_law : Mode
  with_channel_law = with_channel was (channel_of r)

  abbrev channel_at_law : (P : Mode → Type 0) (j : ℕ) → (j ≡ place_of r.mode → P with_channel_law) → ((j ≡ place_of r.mode → ⊥) → P (mode_at t j)) → P (mode_at (listing (channel r) t) j)
  channel_at_law = mode_at_law t g.sized.modes (place_of r.mode) with_channel_law (omega arith)

  channel_holds : Holds (channel r ∷ rs) (listing (channel r) t)
  unfolding channels
  channel_holds =
      record {
        sized = sized_with t g.sized (place_of r.mode) with_channel_law (omega arith) (g.sized.actors (place_of r.mode) (omega arith))
            (length-set was.channels was.count (channel_of r) ∙ g.sized.channels (place_of r.mode) (omega arith));
        has = λ m a bm ba.
            channel_at_law (λ (N : Mode). Has N.active (place_of a) ↔ ListedActor (channel r ∷ rs) m a) (place_of m)
            (λ e. rw (← e) (λ h. listed_more ((g.has m a bm ba).0 h), λ l. (g.has m a bm ba).1 (listed_channel l)))
            (λ n. (λ h. listed_more ((g.has m a bm ba).0 h), λ l. (g.has m a bm ba).1 (listed_channel l)));
        is = λ e i l.
            channel_at_law (λ (N : Mode). actor_at N (place_of e.actor) ≡ e.is) (place_of e.mode)
            (λ f. rw f at (g.is e i (lists_channel l))) (λ n. g.is e i (lists_channel l));
        count = λ m bm.
            channel_at_law (λ (N : Mode). N.count ≡ cond (eqb r.mode m) (channels rs m + 1) (channels rs m)) (place_of m)
            (λ e. rw (eq-eqb r.mode m (omega arith), ← g.count m bm, e))
            (λ n. rw (ne_eqb r.mode m (λ k. n (omega arith))) (g.count m bm));
      }

pub empty_mode_law : (m : ℕ) → m < MODES → mode_at empty_table m ≡ empty_mode
empty_mode_law m h = get_or-replicate MODES m empty_mode no_mode h

holds_none : Holds [] empty_table
unfolding channels
holds_none =
    record {
      sized = record {
        modes = length-replicate MODES empty_mode;
        actors = λ m h. rw (empty_mode_law m h) (length-replicate ACTORS no_actor);
        channels = λ m h. rw (empty_mode_law m h) (length-replicate CHANNELS empty_channel);
      };
      has = λ m a bm ba.
          rw (empty_mode_law (place_of m) (omega arith)) (λ h. absurd (omega (arith, bit_zero (place_of a))), λ l. absurd (no_row l.lists));
      is = λ e i l. absurd (no_row l);
      count = λ m bm. rw (empty_mode_law (place_of m) (omega arith));
    }
  where
    no_row : {e : ActorRow} → Lists [] e → ⊥
    no_row l = elim l [ ]

pub holds : {rs : List Row} → Passed rs → Holds rs (table_of rs)
unfolding table_of
holds start = holds_none
holds (then {r = actor r} h q p) = actor_holds (holds p) r h.mode h.actor q.0
holds (then {r = channel r} h q p) = channel_holds (holds p) r h.mode

-- what is listed of an actor stands at its place
pub listed_is : {rs : List Row} {m a : ℕ} → Passed rs → (l : ListedActor rs m a) → actor_at (mode_at (table_of rs) (place_of m)) (place_of a) ≡ l.by.is
listed_is p l = rw (← l.mode, ← l.actor) ((holds p).is l.by (lists_range p l.lists) l.lists)

-- an actor that is not missing is listed
pub listed_stable : {rs : List Row} {m a : ℕ} → Passed rs → Between 1 MODES m → Between 1 ACTORS a → ((ListedActor rs m a → ⊥) → ⊥) → ListedActor rs m a
listed_stable {rs} {m} {a} p hm ha n =
    let has = (holds p).has m a hm ha in
    ⊎_elim (λ h. has.0 h) (λ z. absurd (n (λ l. omega (arith, has.1 l)))) (has_or_not (mode_at (table_of rs) (place_of m)).active (place_of a))

pub place_number : (n : ℕ) → place_of (number_of n) ≡ n
place_number n = omega arith

-- what the table holds, by places
module _ {rs : List Row} (p : Passed rs) (m : ℕ) where
  pub place_has : m < MODES → (i : ℕ) → i < ACTORS → Has (mode_at (table_of rs) m).active i ↔ ListedActor rs (number_of m) (number_of i)
  place_has hm i hi = rw (place_number m, place_number i) at ((holds p).has (number_of m) (number_of i) (omega arith, omega arith) (omega arith, omega arith))

  pub place_is : (i : ℕ) (l : ListedActor rs (number_of m) (number_of i)) → actor_at (mode_at (table_of rs) m) i ≡ l.by.is
  place_is i l = rw (place_number m, place_number i) at (listed_is p l)

  pub place_count : m < MODES → (mode_at (table_of rs) m).count ≡ channels rs (number_of m)
  place_count hm = rw (place_number m) at ((holds p).count (number_of m) (omega arith, omega arith))

-- an actor has one processor in all rows
pub one_home : {rs : List Row} {e f : ActorRow} → Passed rs → Lists rs e → Lists rs f → e.actor ≡ f.actor → e.is.processor ≡ f.is.processor
one_home start l k q = elim l [ ]
one_home {e = e} {f} (then {r = actor r} {rs} h q p) l k s =
    ⊎_elim (λ x. ⊎_elim (λ y. cc) (λ y. cc (stays f y (cc))) (lists_actor k)) (λ x. ⊎_elim (λ y. cc (stays e x (cc))) (λ y. one_home p x y s) (lists_actor k)) (lists_actor l)
  where
    stays : (d : ActorRow) → Lists rs d → d.actor ≡ r.actor → d.is.processor ≡ r.is.processor
    stays d x s = stable (λ n. q.1 (d, x, s, n))
one_home (then {r = channel r} h q p) l k s = one_home p (lists_channel l) (lists_channel k) s
