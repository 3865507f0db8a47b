-- How far a text is read, and what a row that comes next leaves. Assumes nothing.
use mathlib.Core.Path.{◌≡◌, refl, sym, ap, ap₂, subst, subst₂, ◌∙◌}
use mathlib.Core.List.{List, [], ◌∷◌}
use mathlib.Core.Logic.{inr}
use Prim.Native.Nat.{ℕ, suc, ◌+◌, ◌-◌, ◌*◌, ◌≤◌, ◌<◌}
use native.Mathlib.Omega.{arith}
use borrow.Rule.Slice.PartMut.{put_mid}
use lib.ListN.{length, get_or, set, take, drop, drop_of_length-le, length-drop, replicate, length-replicate}
use Rattle.std.specs.Prelude.{Option, Some, None, Result, Ok, Err}
use Rattle.numbers.specs.Joined.{length_joined}
use Rattle.numbers.specs.Tab.{placing}
use Rattle.rfc4180.proofs.Records.{rest_is, next_further}
use Rattle.units.specs.Limits.{MODES, ACTORS, CHANNELS}
use Rattle.terms.specs.Place.{place_of}
use Rattle.terms.specs.Refusal.{refusal_at}
use Rattle.terms.specs.declared.refusal.Place.TheVariants.{Row as AtRow}
use Rattle.terms.specs.declared.refusal.Reason.{Reason}
use Rattle.terms.specs.declared.refusal.Refusal.{Refusal}
use Rattle.tables.specs.declared.Actor.{Actor as Stage}
use Rattle.tables.specs.declared.Channel.{Channel}
use Rattle.tables.specs.declared.memory.Head.{Head}
use Rattle.tables.specs.Proper.{ProperMode}
use Rattle.tables.specs.Memory.{FRONT_WORDS, CHANNELS_BYTES, TABLE_WORDS, TABLE_BYTES, head_in, actor_in, times_in, channel_in as channel_held, front_words, channels_bytes, with_active, head_of, no_times, front_of, channels_of, table_fronts, table_channels}
use Rattle.tables.specs.Shape.{Mode, Table, actor_at, mode_at, empty_table, with_mode, with_actor, with_channel}
use Rattle.tables.proofs.Remembered.{length_front, length_channels, front_head, front_actor, empty_fronts, empty_bytes, front_with_actor_law, channels_with_channel, memory_part, memory_put, memory_same}
use Rattle.reader.specs.declared.line.Entry.{Entry}
use Rattle.reader.specs.declared.line.Entry.TheVariants.{Actor as AnActor, Channel as AChannel}
use Rattle.reader.specs.declared.line.Link.{Link}
use Rattle.reader.specs.declared.line.Line.{Line}
use Rattle.reader.specs.Rows.{Row, actor, channel, InRange, Passes, Refused3, Refused4, Refused5}
use Rattle.reader.specs.Told.{Outcome, rows, refused, FirstRow, FrontRefused, by_1, by_2, by_row, After, done, stopped, passed, table_of, Reading, reading_of, RowsTold, Blank, Into}
use Rattle.reader.specs.Lines.{link_of, line_of, LineAt, no_record, no_row, row, channel_in}
use Rattle.reader.specs.Checks.{FirstOrNone, refused as first, passes, ActorChecked, ChannelChecked, CheckedBy, Placed, front_at, Judged, no_line, stops as is_refused, goes as is_row}
use Rattle.reader.proofs.Lookup.{Passed, start, then, holds}
use Rattle.reader.proofs.Homes.{homes_of}
use Rattle.reader.proofs.Checked.{CheckedIn, checked_row, channel_third}
use Rattle.reader.proofs.Kept.{modes_proper}

-- the rows before a place are read: their table in memory, the processors, and what is told of the text from the place on is told of it all
pub record Progress (text fronts channels : List ℕ) (homes : List (Option ℕ)) (at row : ℕ) : Type 0 where
  pub earlier : List Row
  pub passed : Passed earlier
  pub fronts_are : fronts ≡ table_fronts (table_of earlier)
  pub channels_are : channels ≡ table_channels (table_of earlier)
  pub homes_are : homes ≡ homes_of earlier
  pub count_is : row ≡ length earlier
  pub few : row ≤ at
  pub read : (o : Outcome) → After earlier (drop at text) o → After [] text o

pub blank_long : {fronts channels : List ℕ} → Blank fronts channels → (length fronts ≡ TABLE_WORDS) × (length channels ≡ TABLE_BYTES)
blank_long b = (ap length b.no_fronts ∙ length-replicate {A = ℕ} TABLE_WORDS 0, ap length b.no_channels ∙ length-replicate {A = ℕ} TABLE_BYTES 0)

pub progress_none : (text : List ℕ) {fronts channels : List ℕ} → Blank fronts channels → Progress text fronts channels (replicate ACTORS None) 0 0
unfolding homes_of table_of
progress_none text b =
    record {
      earlier = [];
      passed = start;
      fronts_are = b.no_fronts ∙ sym empty_fronts;
      channels_are = b.no_channels ∙ sym empty_bytes;
      homes_are = refl;
      count_is = refl;
      few = omega arith;
      read = λ o a. a;
    }

-- the places that a row names
pub line_places : {text : List ℕ} {at : ℕ} {l : Line} → LineAt text at (Ok l) → (l.mode < MODES) × Placed l.entry
line_places (row {r} f) = go r f.in_range _
  where
    go : (r : Row) → InRange r → (n : ℕ) → ((line_of r n).mode < MODES) × Placed (line_of r n).entry
    go (actor r) i n = (omega (arith, i.mode), omega (arith, i.actor))
    go (channel r) i n = (omega (arith, i.mode), (omega (arith, i.from), omega (arith, i.to)))

-- a row that passes stands at its place
pub judged_line : {text fronts : List ℕ} {at : ℕ} {homes : List (Option ℕ)} {l : Line} → Judged text at fronts homes (Ok l) → LineAt text at (Ok l)
judged_line (is_row w c) = w

-- and the one behind it
next_is : (r : Row) (n : ℕ) → (line_of r n).next ≡ n
next_is (actor r) n = refl
next_is (channel r) n = refl

-- what stands at a place is refused, or it is a row that passes
pub data Front (earlier : List Row) (text : List ℕ) (at : ℕ) : Result Line Reason → Type 0 where
  stops : {e : Reason} → FrontRefused earlier (drop at text) e → Front earlier text at (Err e)
  goes : {r : Row} {rest : List ℕ} → FirstRow (drop at text) r rest → Passes earlier r → Front earlier text at (Ok (line_of r (length text - length rest)))

-- the memory of the mode at place m
abbrev pub front_part : List ℕ → ℕ → List ℕ
front_part fronts m = take (FRONT_WORDS * m + FRONT_WORDS - FRONT_WORDS * m) (drop (FRONT_WORDS * m) fronts)

abbrev pub channels_part : List ℕ → ℕ → List ℕ
channels_part channels m = take (CHANNELS_BYTES * m + CHANNELS_BYTES - CHANNELS_BYTES * m) (drop (CHANNELS_BYTES * m) channels)

part_at : (fronts : List ℕ) (m : ℕ) → front_at fronts m ≡ front_part fronts m
part_at fronts m = let e : FRONT_WORDS ≡ FRONT_WORDS * m + FRONT_WORDS - FRONT_WORDS * m = omega arith in ap (λ (n : ℕ). take n (drop (FRONT_WORDS * m) fronts)) e

-- a row that is checked by the front of its mode
pub by_part : (fronts : List ℕ) (homes : List (Option ℕ)) (l : Line) (x : Result (Unit {0}) Reason) → CheckedBy (front_part fronts l.mode) homes l.entry x
    → CheckedBy (front_at fronts l.mode) homes l.entry x
by_part fronts homes l x c = subst (λ (f : List ℕ). CheckedBy f homes l.entry x) (sym (part_at fronts l.mode)) c

-- memory with another mode there
abbrev pub fronts_with : List ℕ → ℕ → List ℕ → List ℕ
fronts_with fronts m b = put_mid (FRONT_WORDS * m) (FRONT_WORDS * m + FRONT_WORDS - FRONT_WORDS * m) fronts b

abbrev pub channels_with : List ℕ → ℕ → List ℕ → List ℕ
channels_with channels m b = put_mid (CHANNELS_BYTES * m) (CHANNELS_BYTES * m + CHANNELS_BYTES - CHANNELS_BYTES * m) channels b

-- a front with an actor more
abbrev pub front_with_actor : List ℕ → ℕ → Stage → List ℕ
front_with_actor f i a = front_words (with_active (head_in f) i) (placing i a (actor_in f)) (times_in f)

length_front_of : (M : Mode) → length (front_of M) ≡ FRONT_WORDS
length_front_of M = length_front (head_of M) (actor_at M) (λ i. no_times)

-- a row that is checked by the front of a mode is checked in it
checked_front : (M : Mode) → ProperMode M → (x : Entry) → Placed x → (homes : List (Option ℕ)) (r : Result (Unit {0}) Reason)
    → CheckedBy (front_of M) homes x r → CheckedIn M homes x r
checked_front M p (AnActor a is) h homes r c =
    subst (λ (h : Head). ActorChecked h.active (get_or homes a None) a is r) (front_head (head_of M) (actor_at M) (λ i. no_times) p.active) c
checked_front M p (AChannel l) h homes r c =
    let is = front_actor (head_of M) (actor_at M) (λ i. no_times) in
    subst (λ (h : Head). ChannelChecked h.active h.count (actor_at M l.from).phases (actor_at M l.to).phases l r)
    (front_head (head_of M) (actor_at M) (λ i. no_times) p.active)
    (subst₂ (λ (x y : Stage). ChannelChecked (head_in (front_of M)).active (head_in (front_of M)).count x.phases y.phases l r) (is l.from h.0) (is l.to h.1) c)

-- a refusal, with memory that is all 0
pub refused_into : (Is : Reading → Type 0) (e : Reason) (k : ℕ) {x : Refusal} {fronts channels : List ℕ} → Is (reading_of (refused e k))
    → x ≡ refusal_at e (AtRow k) → Blank fronts channels → Into Is (Err x) fronts channels
refused_into Is e k told is b =
    record {
      table = empty_table;
      told = subst (λ (y : Refusal). Is (record { answer = Err y; table = empty_table })) (sym is) told;
      fronts_are = b.no_fronts ∙ sym empty_fronts;
      channels_are = b.no_channels ∙ sym empty_bytes;
    }

module _ {text fronts channels : List ℕ} {homes : List (Option ℕ)} {at count : ℕ} (g : Progress text fronts channels homes at count) where
  abbrev T : Table
  T = table_of g.earlier

  pub fronts_long : length fronts ≡ TABLE_WORDS
  fronts_long = ap length g.fronts_are ∙ length_joined FRONT_WORDS (λ m. front_of (mode_at T m)) (λ m. length_front_of (mode_at T m)) MODES

  pub channels_long : length channels ≡ TABLE_BYTES
  channels_long = ap length g.channels_are ∙ length_joined CHANNELS_BYTES (λ m. channels_of (mode_at T m)) (λ m. length_channels (mode_at T m)) MODES

  -- what stands of a mode
  module _ (m : ℕ) (h : m < MODES) where
    front_is : front_part fronts m ≡ front_of (mode_at T m)
    front_is = ap (λ (l : List ℕ). front_part l m) g.fronts_are ∙ memory_part FRONT_WORDS front_of length_front_of T m h

    front_at_is : front_at fronts m ≡ front_of (mode_at T m)
    front_at_is = part_at fronts m ∙ front_is

    channels_is : channels_part channels m ≡ channels_of (mode_at T m)
    channels_is = ap (λ (l : List ℕ). channels_part l m) g.channels_are ∙ memory_part CHANNELS_BYTES channels_of length_channels T m h

    pub front_long : length (front_part fronts m) ≡ FRONT_WORDS
    front_long = ap length front_is ∙ length_front_of (mode_at T m)

    pub channels_part_long : length (channels_part channels m) ≡ CHANNELS_BYTES
    channels_part_long = ap length channels_is ∙ length_channels (mode_at T m)

  -- all is read
  pub all_read : length text ≤ at → Into (RowsTold text) (Ok tt) fronts channels
  all_read h =
      let o = rows g.earlier in
      record {
        table = T;
        told = (o, g.read o (subst (λ (t : List ℕ). After g.earlier t o) (sym (drop_of_length-le text h)) done), refl);
        fronts_are = g.fronts_are;
        channels_are = g.channels_are;
      }

-- what stands at the place
module _ {text fronts channels : List ℕ} {homes : List (Option ℕ)} {at count : ℕ} (g : Progress text fronts channels homes at count) where
  -- it is judged
  row_checked : {r : Row} {rest : List ℕ} (f : FirstRow (drop at text) r rest) (x : Result (Unit {0}) Reason)
      → CheckedBy (front_at fronts (line_of r (length text - length rest)).mode) homes (line_of r (length text - length rest)).entry x
      → FirstOrNone (Refused3 g.earlier r) (Refused4 g.earlier r) (Refused5 g.earlier r) x
  row_checked {r} {rest} f x c =
      let n = length text - length rest in
      let l = line_of r n in
      let (hm, placed) = line_places (row f) in
      checked_row g.passed r f.in_range n x
      (checked_front (mode_at (T g) l.mode) (modes_proper g.passed l.mode hm) l.entry placed (homes_of g.earlier) x
      (subst₂ (λ (f : List ℕ) (hs : List (Option ℕ)). CheckedBy f hs l.entry x) (front_at_is g l.mode hm) g.homes_are c))

  not_passed : {r : Row} {rest : List ℕ} {e : Reason} → FirstRow (drop at text) r rest
      → FirstOrNone (Refused3 g.earlier r) (Refused4 g.earlier r) (Refused5 g.earlier r) (Err e) → Front g.earlier text at (Err e)
  not_passed f (first x) = stops (by_row f x)

  was_passed : {r : Row} {rest : List ℕ} → FirstRow (drop at text) r rest
      → FirstOrNone (Refused3 g.earlier r) (Refused4 g.earlier r) (Refused5 g.earlier r) (Ok tt) → Front g.earlier text at (Ok (line_of r (length text - length rest)))
  was_passed f (passes q) = goes f q

  pub front : {x : Result Line Reason} → Judged text at fronts homes x → Front g.earlier text at x
  front (no_line (no_record x)) = stops (by_1 x)
  front (no_line (no_row x)) = stops (by_2 x)
  front (is_refused (row f) c) = not_passed f (row_checked f _ c)
  front (is_row (row f) c) = was_passed f (row_checked f _ c)

  module _ (h : at < length text) where
    -- it is refused, and memory is cleared
    pub refused_here : {n : Reason} → Front g.earlier text at (Err n) → {x : Refusal} {fs cs : List ℕ} → x ≡ refusal_at n (AtRow (count + 1))
        → fs ≡ replicate (length fronts) 0 → cs ≡ replicate (length channels) 0 → Into (RowsTold text) (Err x) fs cs
    refused_here {n} (stops x) e p q =
        let row-no : suc (length g.earlier) ≡ count + 1 = omega (arith, g.count_is) in
        let after = subst (λ (k : ℕ). After [] text (refused n k)) row-no (g.read (refused n (suc (length g.earlier))) (stopped (omega (arith, h, length-drop at text)) x)) in
        refused_into (RowsTold text) n (count + 1) (refused n (count + 1), after, refl) e
        (record { no_fronts = p ∙ ap (λ (k : ℕ). replicate k 0) (fronts_long g); no_channels = q ∙ ap (λ (k : ℕ). replicate k 0) (channels_long g) })

    -- it is a row: what is left behind it
    pub further : {l : Line} → Front g.earlier text at (Ok l) → at < l.next
    further (goes {r} {rest} f q) = omega (arith, next_further text at h f.stands, next_is r (length text - length rest))

    gone : {r : Row} {rest fs cs : List ℕ} {hs : List (Option ℕ)} → FirstRow (drop at text) r rest → Passes g.earlier r
        → fs ≡ table_fronts (table_of (r ∷ g.earlier)) → cs ≡ table_channels (table_of (r ∷ g.earlier)) → hs ≡ homes_of (r ∷ g.earlier)
        → Progress text fs cs hs (length text - length rest) (count + 1)
    gone {r} {rest} f q a b c =
        record {
          earlier = r ∷ g.earlier;
          passed = then f.in_range q g.passed;
          fronts_are = a;
          channels_are = b;
          homes_are = c;
          count_is = omega (arith, g.count_is);
          few = omega (arith, g.few, next_further text at h f.stands);
          read = λ o a. g.read o (passed f q (subst (λ (u : List ℕ). After (r ∷ g.earlier) u o) (sym (rest_is text at (omega arith) f.stands)) a));
        }

    -- another mode in its place
    module _ (m : ℕ) (hm : m < MODES) (N : Mode) where
      fronts_put : (b : List ℕ) → b ≡ front_of N → fronts_with fronts m b ≡ table_fronts (with_mode (T g) m N)
      fronts_put b e =
          ap (λ (x : List ℕ). fronts_with x m b) g.fronts_are
          ∙ memory_put FRONT_WORDS front_of length_front_of (T g) m hm (holds g.passed).sized.modes N b e

      channels_put : (b : List ℕ) → b ≡ channels_of N → channels_with channels m b ≡ table_channels (with_mode (T g) m N)
      channels_put b e =
          ap (λ (x : List ℕ). channels_with x m b) g.channels_are
          ∙ memory_put CHANNELS_BYTES channels_of length_channels (T g) m hm (holds g.passed).sized.modes N b e

    -- an actor's row
    pub actor_next : {l : Line} → Front g.earlier text at (Ok l) → {a : ℕ} {is : Stage} → l.entry ≡ AnActor a is
        → (b : List ℕ) → b ≡ front_with_actor (front_part fronts l.mode) a is
        → Progress text (fronts_with fronts l.mode b) channels (set homes a (Some is.processor)) l.next (count + 1)
    unfolding table_of homes_of
    actor_next (goes {r = channel r} f q) k b s = let z : ◌≡◌ {A = ℕ} 0 1 = cc in absurd (omega arith)
    actor_next (goes {r = actor r} f q) {a} {is} k b s =
        let m = place_of r.mode in
        let i = place_of r.actor in
        let M = mode_at (T g) m in
        let N = with_actor M i r.is in
        let hm : m < MODES = omega (arith, f.in_range.mode) in
        let hi : i < ACTORS = omega (arith, f.in_range.actor) in
        let ea : a ≡ i = cc in
        let es : is ≡ r.is = cc in
        gone f q
        (fronts_put m hm N b
        (s
        ∙ ap₂ (λ (x : ℕ) (y : Stage). front_with_actor (front_part fronts m) x y) ea es
        ∙ ap (λ (x : List ℕ). front_with_actor x i r.is) (front_is g m hm)
        ∙ front_with_actor_law M (modes_proper g.passed m hm) i r.is hi))
        (g.channels_are ∙ memory_same CHANNELS_BYTES channels_of length_channels (T g) m hm (holds g.passed).sized.modes N refl)
        (ap₂ (λ (x : ℕ) (y : Stage). set homes x (Some y.processor)) ea es ∙ ap (λ (hs : List (Option ℕ)). set hs i (Some r.is.processor)) g.homes_are)

    -- a channel's row, for which there is room
    pub channel_room : {l : Line} → Front g.earlier text at (Ok l) → {k : Link} → l.entry ≡ AChannel k → (head_in (front_part fronts l.mode)).count < CHANNELS
    channel_room (goes {r = actor r} f q) e = let z : ◌≡◌ {A = ℕ} 0 1 = cc in absurd (omega arith)
    channel_room (goes {r = channel r} f q) e =
        let hm : place_of r.mode < MODES = omega (arith, f.in_range.mode) in
        let full : CHANNELS ≤ (mode_at (T g) (place_of r.mode)).count → ⊥ = λ c. q.0 ((channel_third g.passed r f.in_range).1 (inr (inr c))) in
        omega (arith, full, ap (λ (x : List ℕ). (head_in x).count) (front_is g (place_of r.mode) hm))

    pub channel_next : {l : Line} → Front g.earlier text at (Ok l) → {k : Link} → l.entry ≡ AChannel k → (c : Channel) → c ≡ channel_in k → (b d : List ℕ)
        → b ≡ set (front_part fronts l.mode) 1 ((head_in (front_part fronts l.mode)).count + 1)
        → d ≡ channels_bytes (placing (head_in (front_part fronts l.mode)).count c (channel_held (channels_part channels l.mode)))
        → Progress text (fronts_with fronts l.mode b) (channels_with channels l.mode d) homes l.next (count + 1)
    unfolding table_of homes_of
    channel_next (goes {r = actor r} f q) e c i b d s t = let z : ◌≡◌ {A = ℕ} 0 1 = cc in absurd (omega arith)
    channel_next (goes {r = channel r} f q) {k} e c i b d s t =
        let m = place_of r.mode in
        let M = mode_at (T g) m in
        let C = channel_in (link_of r) in
        let N = with_channel M C in
        let hm : m < MODES = omega (arith, f.in_range.mode) in
        let is : c ≡ C = i ∙ ap channel_in (link_is (sym e)) in
        gone f q
        (fronts_put m hm N b (s ∙ ap (λ (x : List ℕ). set x 1 ((head_in x).count + 1)) (front_is g m hm)))
        (channels_put m hm N d
        (t
        ∙ ap₂ (λ (x y : List ℕ). channels_bytes (placing (head_in x).count c (channel_held y))) (front_is g m hm) (channels_is g m hm)
        ∙ ap (λ (x : Channel). channels_bytes (placing M.count x (channel_held (channels_of M)))) is
        ∙ channels_with_channel M (modes_proper g.passed m hm) C (omega (arith, channel_room (goes {r = channel r} f q) e, ap (λ (x : List ℕ). (head_in x).count) (front_is g m hm)))))
        g.homes_are
      where
        link_is : {x y : Link} → AChannel x ≡ AChannel y → x ≡ y
        link_is e = cc
