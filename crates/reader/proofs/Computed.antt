-- The rows of a text, by computing: whatever is taken for its rows is held against the text and against the rules. Assumes nothing.
use mathlib.Core.Path.{◌≡◌, refl, sym, ap₂, subst, ◌∙◌}
use mathlib.Core.Bool.{Bool, true, false, cond, not, ◌&&◌, ◌||◌}
use mathlib.Core.List.Memᴰ
use mathlib.Core.List.{List, [], ◌∷◌, ◌++◌, map, reverse}
use mathlib.Core.Logic.Iff
use mathlib.Core.Logic.{⊎_elim}
use Prim.Native.Nat.{ℕ, zero, suc, ◌+◌, ◌-◌, ◌*◌, ◌/◌, ◌%◌, ◌^◌, ◌≤◌, ◌<◌}
use native.Mathlib.Nat.{pow-suc}
use native.Mathlib.Omega.{arith}
use lib.Dec.{T, eqb, ltb, leb, T_not, eqb→eq, ltb→lt}
use lib.ListN.{length, get_or}
use borrow.Author.Tests.{eq-eqb, ltb-true, ltb-false}
use Rattle.numbers.specs.Decides.{Decides, decides_yes, decides_eqb, decides_leb, decides_and}
use Rattle.numbers.specs.Every.{Every}
use Rattle.rfc4180.specs.Numbers.{Between}
use Rattle.rfc4180.specs.Decimal.{decimal, spaced}
use Rattle.rfc4180.specs.Writing.{joined}
use Rattle.units.specs.Limits.{MOST_BYTES, MODES, ACTORS, CHANNELS, PHASES, PROCESSORS, MOST_WCET, MOST_RATE}
use Rattle.units.specs.Ticks.{tick}
use Rattle.reader.specs.Rows.{Row, ActorRow, ChannelRow, actor, channel, word, contents, Rates, InRange, Lists, ListedActor, channels, Refused3, Refused4, Refused5, Unfit}
use Rattle.reader.specs.Told.{rows, Of}
use Rattle.reader.specs.Writing.{text_of}
use Rattle.rfc4180.proofs.Decimals.{decimal_more, decimal_one}
use Rattle.reader.proofs.Lookup.{Passed, start, then, lists_actor, lists_channel}
use Rattle.reader.proofs.Reread.{read_again}

-- the parts of a text that a byte ends
abbrev onward : Bool → ℕ → List (List ℕ) → List (List ℕ)
onward true b ps = [] ∷ ps
onward false b [] = (b ∷ []) ∷ []
onward false b (p ∷ ps) = (b ∷ p) ∷ ps

abbrev parts : ℕ → List ℕ → List (List ℕ)
parts end [] = []
parts end (b ∷ t) = onward (eqb b end) b (parts end t)

-- the number that a text begins with, behind the number v
abbrev number_in : ℕ → List ℕ → ℕ
number_in v [] = v
number_in v (b ∷ t) = cond (ltb b 48) v (number_in (v * 10 + (b - 48)) t)

-- the row that a line is taken for, by its fields: an actor's where it begins with an a
abbrev row_of : List (List ℕ) → Row
row_of fs =
    let n : ℕ → ℕ = λ i. number_in 0 (get_or fs i []) in
    let ns : ℕ → List ℕ = λ i. map (number_in 0) (parts 32 (get_or fs i [])) in
    cond (eqb (get_or (get_or fs 0 []) 0 0) 97)
    (actor (record { mode = n 1; actor = n 2; is = record { phases = n 3; wcet = tick (n 4); processor = n 5 } }))
    (channel (record { mode = n 1; from = n 2; to = n 3; production = ns 4; consumption = ns 5 }))

-- what is taken for the rows of a text, the latest first
unfoldable pub rows_in : List ℕ → List Row
rows_in text = reverse (map (λ l. row_of (parts 44 l)) (parts 10 text))

-- a number in decimal, of at most k digits behind its first, and of at most eight
abbrev digits : ℕ → ℕ → List ℕ
digits zero n = (48 + n) ∷ []
digits (suc k) n = cond (ltb n 10) ((48 + n) ∷ []) (digits k (n / 10) ++ ((48 + n % 10) ∷ []))

abbrev pub shown : ℕ → List ℕ
shown n = digits 7 n

-- with it: numbers parted by one space, the contents of a row, and the text of some rows, the latest first
abbrev spaced_out : List ℕ → List ℕ
spaced_out [] = []
spaced_out (x ∷ []) = shown x
spaced_out (x ∷ y ∷ ys) = shown x ++ (32 ∷ spaced_out (y ∷ ys))

abbrev fields_of : Row → List (List ℕ)
fields_of (actor r) =
    word (actor r) ∷ shown r.mode ∷ shown r.actor ∷ shown r.is.phases ∷ shown r.is.wcet.0 ∷ shown r.is.processor ∷ []
fields_of (channel r) =
    word (channel r) ∷ shown r.mode ∷ shown r.from ∷ shown r.to ∷ spaced_out r.production ∷ spaced_out r.consumption ∷ []

abbrev shown_text : List Row → List ℕ
shown_text [] = []
shown_text (r ∷ rs) = shown_text rs ++ (joined (fields_of r) ++ (13 ∷ 10 ∷ []))

-- two texts are the same
abbrev sameb : List ℕ → List ℕ → Bool
sameb [] [] = true
sameb [] (c ∷ t) = false
sameb (b ∷ s) [] = false
sameb (b ∷ s) (c ∷ t) = eqb b c && sameb s t

-- each flag is true
abbrev all_of : List Bool → Bool
all_of [] = true
all_of (b ∷ bs) = b && all_of bs

-- each number passes a test
abbrev everyb : (ℕ → Bool) → List ℕ → Bool
everyb f [] = true
everyb f (x ∷ xs) = f x && everyb f xs

-- each actor's row that passes one test passes the other; some actor's row passes a test
abbrev eachb : (ActorRow → Bool) → (ActorRow → Bool) → List Row → Bool
eachb f g [] = true
eachb f g (actor e ∷ rs) = cond (f e) (g e) true && eachb f g rs
eachb f g (channel c ∷ rs) = eachb f g rs

abbrev someb : (ActorRow → Bool) → List Row → Bool
someb f [] = false
someb f (actor e ∷ rs) = f e || someb f rs
someb f (channel c ∷ rs) = someb f rs

-- a row is in its ranges
abbrev betweenb : ℕ → ℕ → ℕ → Bool
betweenb least most n = leb least n && leb n most

abbrev ratesb : List ℕ → Bool
ratesb xs = ltb 0 (length xs) && everyb (λ x. leb x MOST_RATE.0) xs

abbrev range_tests : Row → List Bool
range_tests (actor r) =
    betweenb 1 MODES r.mode
    ∷ betweenb 1 ACTORS r.actor
    ∷ betweenb 1 PHASES r.is.phases
    ∷ betweenb 1 MOST_WCET.0 r.is.wcet.0
    ∷ betweenb 1 PROCESSORS r.is.processor
    ∷ []
range_tests (channel r) =
    betweenb 1 MODES r.mode
    ∷ betweenb 1 ACTORS r.from
    ∷ betweenb 1 ACTORS r.to
    ∷ ratesb r.production
    ∷ ratesb r.consumption
    ∷ []

abbrev pub rangeb : Row → Bool
rangeb r = all_of (range_tests r)

-- a row is of actor a in mode m
abbrev isb : ℕ → ℕ → ActorRow → Bool
isb m a e = eqb e.mode m && eqb e.actor a

-- a list of rates has one for each phase of that actor, and not all are 0
abbrev fitb : List Row → ℕ → ℕ → List ℕ → Bool
fitb rs m a xs = eachb (isb m a) (λ e. eqb (length xs) e.is.phases) rs && not (everyb (λ x. eqb x 0) xs)

-- refusals 3, 4 and 5 do not apply to a row
abbrev end_tests : List Row → ChannelRow → List Bool
end_tests rs r = someb (isb r.mode r.from) rs ∷ someb (isb r.mode r.to) rs ∷ ltb (channels rs r.mode) CHANNELS ∷ []

abbrev pub thirdb : List Row → Row → Bool
thirdb rs (actor r) = eachb (isb r.mode r.actor) (λ e. false) rs
thirdb rs (channel r) = all_of (end_tests rs r)

abbrev pub fourthb : List Row → Row → Bool
fourthb rs (actor r) = eachb (λ e. eqb e.actor r.actor) (λ e. eqb e.is.processor r.is.processor) rs
fourthb rs (channel r) = true

abbrev pub fifthb : List Row → Row → Bool
fifthb rs (actor r) = true
fifthb rs (channel r) = fitb rs r.mode r.from r.production && fitb rs r.mode r.to r.consumption

-- each row is in its ranges, and passes after the rows before it
abbrev row_tests : List Row → Row → List Bool
row_tests rs r = rangeb r ∷ thirdb rs r ∷ fourthb rs r ∷ fifthb rs r ∷ []

abbrev pub passedb : List Row → Bool
passedb [] = true
passedb (r ∷ rs) = all_of (row_tests rs r) && passedb rs

-- a text is that of the rows that it is taken for, and they pass
unfoldable pub readsb : List ℕ → Bool
readsb text = sameb text (shown_text (rows_in text)) && passedb (rows_in text)

-- what the tests say
both : (x y : Bool) → T (x && y) → T x × T y
both true y h = (tt, h)
both false y h = absurd h

all_true : (bs : List Bool) → T (all_of bs) → Every T bs
all_true [] h = tt
all_true (b ∷ bs) h = let w = both b (all_of bs) h in (w.0, all_true bs w.1)

same_true : (s t : List ℕ) → T (sameb s t) → s ≡ t
same_true [] [] h = refl
same_true [] (c ∷ t) h = absurd h
same_true (b ∷ s) [] h = absurd h
same_true (b ∷ s) (c ∷ t) h =
    let w = both (eqb b c) (sameb s t) h in
    ap₂ (λ (x : ℕ) (xs : List ℕ). x ∷ xs) (eqb→eq b c w.0) (same_true s t w.1)

each_true : (f g : ActorRow → Bool) (rs : List Row) {e : ActorRow} → T (eachb f g rs) → Lists rs e → T (f e) → T (g e)
each_true f g [] h l t = elim l [ ]
each_true f g (actor r ∷ rs) {e} h l t =
    let w = both (cond (f r) (g r) true) (eachb f g rs) h in
    ⊎_elim (λ q. here (f e) (g e) (subst (λ (d : ActorRow). T (cond (f d) (g d) true)) (sym q) w.0) t) (λ k. each_true f g rs w.1 k t) (lists_actor l)
  where
    here : (x y : Bool) → T (cond x y true) → T x → T y
    here true y h t = h
    here false y h t = absurd t
each_true f g (channel c ∷ rs) h l t = each_true f g rs h (lists_channel l) t

some_true : (f : ActorRow → Bool) (rs : List Row) → T (someb f rs) → (e : ActorRow) × Lists rs e × T (f e)
some_true f [] h = absurd h
some_true f (actor r ∷ rs) h = go (f r) refl h (some_true f rs)
  where
    go : (x : Bool) → f r ≡ x → T (x || someb f rs) → (T (someb f rs) → (e : ActorRow) × Lists rs e × T (f e))
        → (e : ActorRow) × Lists (actor r ∷ rs) e × T (f e)
    go true q h ih = (r, Memᴰ.head refl, rw q tt)
    go false q h ih = let (e, l, t) = ih h in (e, Memᴰ.tail l, t)
some_true f (channel c ∷ rs) h = let (e, l, t) = some_true f rs h in (e, Memᴰ.tail l, t)

between_true : (least most n : ℕ) → T (betweenb least most n) → Between least most n
between_true least most n h = (decides_and (leb least n) (leb n most) (decides_leb least n) (decides_leb n most)).0 h

every_decides : (P : ℕ → Type 0) (f : ℕ → Bool) → ((x : ℕ) → Decides (P x) (f x)) → (xs : List ℕ) → Decides (Every P xs) (everyb f xs)
every_decides P f d [] = decides_yes tt
every_decides P f d (x ∷ xs) = decides_and (f x) (everyb f xs) (d x) (every_decides P f d xs)

rates_true : (xs : List ℕ) → T (ratesb xs) → Rates xs
rates_true xs h =
    let w = both (ltb 0 (length xs)) (everyb (λ x. leb x MOST_RATE.0) xs) h in
    (ltb→lt 0 (length xs) w.0, (every_decides (λ x. x ≤ MOST_RATE.0) (λ x. leb x MOST_RATE.0) (λ x. decides_leb x MOST_RATE.0) xs).0 w.1)

pub range_true : (r : Row) → T (rangeb r) → InRange r
range_true (actor r) h =
    let (mode, (number, (phases, (wcet, (processor, over))))) = all_true (range_tests (actor r)) h in
    record {
      mode = between_true 1 MODES r.mode mode;
      actor = between_true 1 ACTORS r.actor number;
      phases = between_true 1 PHASES r.is.phases phases;
      wcet = between_true 1 MOST_WCET.0 r.is.wcet.0 wcet;
      processor = between_true 1 PROCESSORS r.is.processor processor;
    }
range_true (channel r) h =
    let (mode, (from, (to, (production, (consumption, over))))) = all_true (range_tests (channel r)) h in
    record {
      mode = between_true 1 MODES r.mode mode;
      from = between_true 1 ACTORS r.from from;
      to = between_true 1 ACTORS r.to to;
      production = rates_true r.production production;
      consumption = rates_true r.consumption consumption;
    }

-- an actor is listed; and each row that lists it passes a test
is_decides : (m a : ℕ) (e : ActorRow) → Decides ((e.mode ≡ m) × (e.actor ≡ a)) (isb m a e)
is_decides m a e = decides_and (eqb e.mode m) (eqb e.actor a) (decides_eqb e.mode m Iff.rfl) (decides_eqb e.actor a Iff.rfl)

listed_true : (rs : List Row) (m a : ℕ) → T (someb (isb m a) rs) → ListedActor rs m a
listed_true rs m a h =
    let (e, l, t) = some_true (isb m a) rs h in
    let (mode, number) = (is_decides m a e).0 t in
    record { by = e; lists = l; mode = mode; actor = number }

each_listed : (rs : List Row) (m a : ℕ) (g : ActorRow → Bool) → T (eachb (isb m a) g rs) → (l : ListedActor rs m a) → T (g l.by)
each_listed rs m a g h l = each_true (isb m a) g rs h l.lists ((is_decides m a l.by).1 (l.mode, l.actor))

fit_true : (rs : List Row) (m a : ℕ) (xs : List ℕ) → T (fitb rs m a xs) → Unfit rs m a xs → ⊥
fit_true rs m a xs h (l, bad) =
    let long : ActorRow → Bool = λ e. eqb (length xs) e.is.phases in
    let w = both (eachb (isb m a) long rs) (not (everyb (λ x. eqb x 0) xs)) h in
    ⊎_elim (λ n. n (eqb→eq (length xs) l.by.is.phases (each_listed rs m a long w.0 l)))
    (λ z. T_not (everyb (λ x. eqb x 0) xs) w.1 ((every_decides (λ x. x ≡ 0) (λ x. eqb x 0) (λ x. decides_eqb x 0 Iff.rfl) xs).1 z)) bad

pub third_true : (rs : List Row) (r : Row) → T (thirdb rs r) → Refused3 rs r → ⊥
third_true rs (actor r) h l = each_listed rs r.mode r.actor (λ e. false) h l
third_true rs (channel r) h x =
    let (from, (to, (few, over))) = all_true (end_tests rs r) h in
    ⊎_elim (λ n. n (listed_true rs r.mode r.from from))
    (⊎_elim (λ n. n (listed_true rs r.mode r.to to)) (λ n. omega (arith, ltb→lt (channels rs r.mode) CHANNELS few))) x

pub fourth_true : (rs : List Row) (r : Row) → T (fourthb rs r) → Refused4 rs r → ⊥
fourth_true rs (actor r) h (e, l, q, n) =
    n (eqb→eq e.is.processor r.is.processor
    (each_true (λ d. eqb d.actor r.actor) (λ d. eqb d.is.processor r.is.processor) rs h l (rw (eq-eqb e.actor r.actor q) tt)))
fourth_true rs (channel r) h x = x

pub fifth_true : (rs : List Row) (r : Row) → T (fifthb rs r) → Refused5 rs r → ⊥
fifth_true rs (actor r) h x = x
fifth_true rs (channel r) h x =
    let w = both (fitb rs r.mode r.from r.production) (fitb rs r.mode r.to r.consumption) h in
    ⊎_elim (fit_true rs r.mode r.from r.production w.0) (fit_true rs r.mode r.to r.consumption w.1) x

pub passed_true : (rs : List Row) → T (passedb rs) → Passed rs
passed_true [] h = start
passed_true (r ∷ rs) h =
    let w = both (all_of (row_tests rs r)) (passedb rs) h in
    let (range, (third, (fourth, (fifth, over)))) = all_true (row_tests rs r) w.0 in
    then (range_true r range) (third_true rs r third, fourth_true rs r fourth, fifth_true rs r fifth) (passed_true rs w.1)

-- rows that passed have the text that is held against theirs
digits_are : (k n : ℕ) → n < 10 ^ suc k → digits k n ≡ decimal n
digits_are zero n h = sym (decimal_one n (omega arith))
digits_are (suc k) n h = go (ltb n 10) refl (digits_are k (n / 10))
  where
    go : (x : Bool) → ltb n 10 ≡ x → (n / 10 < 10 ^ suc k → digits k (n / 10) ≡ decimal (n / 10))
        → cond x ((48 + n) ∷ []) (digits k (n / 10) ++ ((48 + n % 10) ∷ [])) ≡ decimal n
    go true e ih = sym (decimal_one n (ltb-true n 10 e))
    go false e ih =
        let l : n < 10 ^ suc k * 10 = rw pow-suc at h in
        rw (ih (omega arith)) (sym (decimal_more n (ltb-false n 10 e)))

pub shown_is : (n : ℕ) → n < 10 ^ 8 → shown n ≡ decimal n
shown_is n h = digits_are 7 n h

spaced_is : (xs : List ℕ) → Every (λ x. x ≤ MOST_RATE.0) xs → spaced_out xs ≡ spaced xs
unfolding spaced
spaced_is [] h = refl
spaced_is (x ∷ []) h = shown_is x (omega (arith, h.0))
spaced_is (x ∷ y ∷ ys) h = ap₂ (λ (s t : List ℕ). s ++ (32 ∷ t)) (shown_is x (omega (arith, h.0))) (spaced_is (y ∷ ys) h.1)

fields_are : (r : Row) → InRange r → fields_of r ≡ contents r
fields_are (actor r) i =
    cc (
      shown_is r.mode (omega (arith, i.mode)),
      shown_is r.actor (omega (arith, i.actor)),
      shown_is r.is.phases (omega (arith, i.phases)),
      shown_is r.is.wcet.0 (omega (arith, i.wcet)),
      shown_is r.is.processor (omega (arith, i.processor)),
    )
fields_are (channel r) i =
    cc (
      shown_is r.mode (omega (arith, i.mode)),
      shown_is r.from (omega (arith, i.from)),
      shown_is r.to (omega (arith, i.to)),
      spaced_is r.production i.production.1,
      spaced_is r.consumption i.consumption.1,
    )

shown_text_law : {rs : List Row} → Passed rs → shown_text rs ≡ text_of rs
unfolding text_of
shown_text_law start = refl
shown_text_law (then {r} i q p) = ap₂ (λ (s : List ℕ) (cs : List (List ℕ)). s ++ (joined cs ++ (13 ∷ 10 ∷ []))) (shown_text_law p) (fields_are r i)

-- a text that passes the test is read as the rows that it is taken for
pub reads_rows : (text : List ℕ) → T (readsb text) → 0 < length text → length text ≤ MOST_BYTES → Of text (rows (rows_in text))
unfolding readsb
reads_rows text h some few =
    let rs = rows_in text in
    let w = both (sameb text (shown_text rs)) (passedb rs) h in
    let p = passed_true rs w.1 in
    let e : text_of rs ≡ text = sym (same_true text (shown_text rs) w.0 ∙ shown_text_law p) in
    subst (λ (t : List ℕ). Of t (rows rs)) e (read_again rs p (rw e some) (rw e few))
