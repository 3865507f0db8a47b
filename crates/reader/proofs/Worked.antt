-- Worked texts, and what is told of each: by the test where it is read as it is written, by the rules where it is not. Assumes nothing.
use mathlib.Core.Path.{◌≡◌, refl, sym, ap, subst, ◌∙◌}
use mathlib.Core.Bool.{Bool, true, false}
use mathlib.Core.List.Memᴰ
use mathlib.Core.List.{List, [], ◌∷◌, ◌++◌, map}
use mathlib.Core.Logic.{inl, inr}
use Prim.Native.Nat.{ℕ, suc, ◌<◌}
use Prim.Native.String.{String}
use native.Mathlib.Omega.{arith}
use lib.Dec.{T, ltb, leb, lit<, lit≤, leb→le, ltb→lt}
use lib.ListN.{length, length-append}
use Rattle.numbers.specs.Every.{Every}
use Rattle.rfc4180.specs.Bytes.{class_of}
use Rattle.rfc4180.specs.Decimal.{decimal, writing, spaced}
use Rattle.rfc4180.specs.Grammar.{Cell, plain, quoted, cell_text, Inner, Inside, nothing, byte, Means, as_is, between, RecordEnd, crlf, over, FirstRecord, last, more}
use Rattle.rfc4180.specs.Writing.{joined}
use Rattle.units.specs.Limits.{MOST_BYTES, FIELDS}
use Rattle.units.specs.Ticks.{tick}
use Rattle.terms.specs.Text.{bytes}
use Rattle.terms.specs.declared.refusal.Reason.{Reason}
use Rattle.terms.specs.declared.refusal.Reason.TheVariants.{Unreadable, BadField, Mislisted, Elsewhere, BadRates}
use Rattle.reader.specs.Rows.{Row, ActorRow, actor, channel, contents, ListedActor, Passes, channels, RowRefused, by_3, by_4, by_5}
use Rattle.reader.specs.Told.{Outcome, rows, refused, FirstRow, FrontRefused, by_1, by_2, by_row, done, stopped, passed, Of, wrong_length, right_length}
use Rattle.reader.specs.Writing.{line_text, text_of}
use Rattle.rfc4180.proofs.Decimals.{decimal_writes, zero_alone}
use Rattle.rfc4180.proofs.Grammar.{first_one}
use Rattle.reader.proofs.Written.{Plain, contents_plain}
use Rattle.reader.proofs.Reread.{line_first, read_on}
use Rattle.reader.proofs.Computed.{rows_in, readsb, rangeb, thirdb, fourthb, fifthb, passedb, range_true, third_true, fourth_true, fifth_true, passed_true, reads_rows}

-- a row of an actor, and of a channel
abbrev an_actor_row : (mode number phases wcet processor : ℕ) → ActorRow
an_actor_row m a n w p = record { mode = m; actor = a; is = record { phases = n; wcet = tick w; processor = p } }

abbrev an_actor : (mode number phases wcet processor : ℕ) → Row
an_actor m a n w p = actor (an_actor_row m a n w p)

abbrev a_channel : (mode from to : ℕ) (production consumption : List ℕ) → Row
a_channel m f t ps cs = channel (record { mode = m; from = f; to = t; production = ps; consumption = cs })

-- two modes that share an actor
two_modes : readsb (bytes "actor,1,1,2,1,1\r\nactor,1,2,1,4,2\r\nchannel,1,1,2,1 0,1\r\nactor,2,1,1,1048576,1\r\n") ≡ true
unfolding rows_in readsb joined channels
two_modes = refl

-- a number with a zero before it; an actor twice; an actor elsewhere; rates that are not as many as the phases
not_read :
    Every (λ s. readsb (bytes s) ≡ false)
    ("actor,1,1,1,07,1\r\n"
    ∷ "actor,1,1,1,7,1\r\nactor,1,1,1,7,1\r\n"
    ∷ "actor,1,1,1,7,1\r\nactor,2,1,1,7,2\r\n"
    ∷ "actor,1,1,2,1,1\r\nactor,1,2,1,1,2\r\nchannel,1,1,2,1,1\r\n"
    ∷ [])
unfolding rows_in readsb joined channels
not_read = (refl, (refl, (refl, (refl, tt))))

-- a record whose fields are all quoted, or all not
abbrev cell : Bool → List ℕ → Cell
cell true c = quoted c
cell false c = plain c

abbrev cells : Bool → List (List ℕ) → List ℕ → List ℕ
cells q [] u = u
cells q (c ∷ []) u = cell_text (cell q c) ++ u
cells q (c ∷ d ∷ cs) u = cell_text (cell q c) ++ (44 ∷ cells q (d ∷ cs) u)

plain_inside : (c : List ℕ) → Plain c → Inside c c
plain_inside [] h = nothing
plain_inside (b ∷ c) h = byte (subst Inner (sym h.0) tt) (plain_inside c h.1)

cell_means : (q : Bool) (c : List ℕ) → Plain c → Means (cell q c) c
cell_means true c h = between (plain_inside c h)
cell_means false c h = as_is h

cells_first : (q : Bool) (c : List ℕ) (cs : List (List ℕ)) {u rest : List ℕ} → Every Plain (c ∷ cs) → RecordEnd u rest
    → FirstRecord (cells q (c ∷ cs) u) (map (cell q) (c ∷ cs)) (c ∷ cs) rest
cells_first q c [] h e = last (cell_means q c h.0) e
cells_first q c (d ∷ cs) h e = more (cell_means q c h.0) (cells_first q d cs h.1 e)

passes : (rs : List Row) (r : Row) → T (thirdb rs r) → T (fourthb rs r) → T (fifthb rs r) → Passes rs r
passes rs r third fourth fifth = (third_true rs r third, fourth_true rs r fourth, fifth_true rs r fifth)

-- an example, and those behind it
infixr 30 ◌&◌
◌&◌ : {A B : Type 0} → A → B → A × B
a & b = (a, b)

-- a text, and what is told of it
record Example : Type 0 where
  text : String
  told : Outcome

-- the rows stand latest first
abbrev examples : List Example
examples =
    record { text = ""; told = refused Unreadable 0 }
    ∷ record { text = "actor,1,1,1,7,1"; told = rows (an_actor 1 1 1 7 1 ∷ []) }
    ∷ record { text = "\"actor\",\"1\",\"1\",\"1\",\"7\",\"1\"\r\n"; told = rows (an_actor 1 1 1 7 1 ∷ []) }
    ∷ record { text = "actor,1,1,1,7,1\r\nactor,2,1,1,8,1\r\n"; told = rows (an_actor 2 1 1 8 1 ∷ an_actor 1 1 1 7 1 ∷ []) }
    ∷ record { text = "\"act\r\nor\",1,1,1,7,1\r\nx,1,1,1,1,1\r\n"; told = refused BadField 1 }
    ∷ record { text = "\r\n"; told = refused Unreadable 1 }
    ∷ record { text = "actor,1,1,1,7\r\n"; told = refused Unreadable 1 }
    ∷ record { text = "actor,1,1,1,07,1\r\n"; told = refused BadField 1 }
    ∷ record { text = "actor,1,1,1,7,1\r\nactor,1,1,1,7,2\r\n"; told = refused Mislisted 2 }
    ∷ record { text = "actor,1,1,1,7,1\r\nactor,2,1,1,7,2\r\n"; told = refused Elsewhere 2 }
    ∷ record { text = "actor,1,1,1,7,1\r\nchannel,1,1,2,1,1\r\nactor,1,2,1,7,2\r\n"; told = refused Mislisted 2 }
    ∷ record { text = "actor,1,1,2,1,1\r\nactor,1,2,1,1,2\r\nchannel,1,1,2,1,1\r\n"; told = refused BadRates 3 }
    ∷ record { text = "actor,1,1,2,1,1\r\nactor,1,2,1,1,2\r\nchannel,1,1,2,0 0,1\r\n"; told = refused BadRates 3 }
    ∷ []

-- rows that pass, and then what is refused
refused_at_law : (rs : List Row) (t : List ℕ) {n : Reason} → T (passedb rs) → T (ltb 0 (length t)) → T (leb (length (text_of rs ++ t)) MOST_BYTES) → FrontRefused rs t n
    → Of (text_of rs ++ t) (refused n (suc (length rs)))
refused_at_law rs t p some few x =
    let long : 0 < length (text_of rs ++ t) = omega (arith, length-append (text_of rs) t, ltb→lt 0 (length t) some) in
    right_length long (leb→le (length (text_of rs ++ t)) MOST_BYTES few) (read_on (passed_true rs p) t (stopped (ltb→lt 0 (length t) some) x))

-- by the row at its front
row_at : {rs : List Row} {n : Reason} (r : Row) (t : List ℕ) → T (rangeb r) → RowRefused rs r n → FrontRefused rs (line_text r ++ t) n
row_at r t i x = by_row (line_first r t (range_true r i)) x

-- by the number of its fields; and by their contents, which are those of no row
count_at : {rs : List Row} {t rest : List ℕ} {fs : List Cell} {cs : List (List ℕ)} → FirstRecord t fs cs rest → (length cs ≡ FIELDS → ⊥) → FrontRefused rs t Unreadable
count_at f n = by_1 (λ gs ds left g six. n (ap length (first_one f g).1 ∙ six))

contents_at : {rs : List Row} {t rest : List ℕ} {fs : List Cell} {cs : List (List ℕ)} → FirstRecord t fs cs rest → length cs ≡ FIELDS
    → ((r : Row) → contents r ≡ cs → ⊥) → FrontRefused rs t BadField
contents_at {rest = rest} {fs} {cs} f six n =
    by_2 (record { fields = fs; contents = cs; rest = rest; stands = f; six = six; no_row = λ r u g. n r (first_one g.stands f).1 })

-- a text of one row, quoted or not
one_row : (q : Bool) (r : Row) {u : List ℕ} → T (rangeb r) → RecordEnd u [] → FirstRow (cells q (contents r) u) r []
one_row q (actor r) i e =
    record { fields = map (cell q) (contents (actor r)); stands = cells_first q _ _ (contents_plain (actor r)) e; in_range = range_true (actor r) i }
one_row q (channel r) i e =
    record { fields = map (cell q) (contents (channel r)); stands = cells_first q _ _ (contents_plain (channel r)) e; in_range = range_true (channel r) i }

-- no row begins with this word, and no actor's row has 07 for its wcet
not_broken : (r : Row) → contents r ≡ bytes "act\r\nor" ∷ bytes "1" ∷ bytes "1" ∷ bytes "1" ∷ bytes "7" ∷ bytes "1" ∷ [] → ⊥
not_broken (actor r) e = let z : ◌≡◌ {A = ℕ} 13 111 = cc in omega arith
not_broken (channel r) e = let z : ◌≡◌ {A = ℕ} 97 99 = cc in omega arith

not_seven : (r : Row) → contents r ≡ bytes "actor" ∷ bytes "1" ∷ bytes "1" ∷ bytes "1" ∷ bytes "07" ∷ bytes "1" ∷ [] → ⊥
not_seven (actor r) e = zero_alone (decimal_writes r.is.wcet.0) 55 [] (cc)
not_seven (channel r) e = let z : ◌≡◌ {A = ℕ} 97 99 = cc in omega arith

told_so : Every (λ e. Of (bytes e.text) e.told) examples
unfolding rows_in readsb joined text_of spaced decimal writing class_of channels
told_so =
    let a = an_actor 1 1 1 7 1 in
    let b = an_actor 1 1 2 1 1 in
    let c = an_actor 1 2 1 1 2 in
    let late = an_actor 1 2 1 7 2 in
    let again = an_actor 1 1 1 7 2 in
    let away = an_actor 2 1 1 7 2 in
    let loose = a_channel 1 1 2 (1 ∷ []) (1 ∷ []) in
    let none = a_channel 1 1 2 (0 ∷ 0 ∷ []) (1 ∷ []) in
    let word : Plain (bytes "actor") = (refl, (refl, (refl, (refl, (refl, tt))))) in
    let one : Plain (bytes "1") = (refl, tt) in
    let broken = bytes "act\r\nor" in
    let inside : Inside broken broken = byte tt (byte tt (byte tt (byte tt (byte tt (byte tt (byte tt nothing)))))) in
    let listed : ListedActor (c ∷ b ∷ []) 1 1 = record { by = an_actor_row 1 1 2 1 1; lists = Memᴰ.tail (Memᴰ.head refl); mode = refl; actor = refl } in
    wrong_length (inl refl)
    & right_length (lit< tt) (lit≤ tt) (passed (one_row false a tt over) (passes [] a tt tt tt) done)
    & right_length (lit< tt) (lit≤ tt) (passed (one_row true a tt crlf) (passes [] a tt tt tt) done)
    & reads_rows (bytes "actor,1,1,1,7,1\r\nactor,2,1,1,8,1\r\n") tt (lit< tt) (lit≤ tt)
    & refused_at_law [] (bytes "\"act\r\nor\",1,1,1,7,1\r\nx,1,1,1,1,1\r\n") tt tt tt
    (contents_at {rest = bytes "x,1,1,1,1,1\r\n"}
    (more (between inside) (cells_first false (bytes "1") (bytes "1" ∷ bytes "1" ∷ bytes "7" ∷ bytes "1" ∷ []) (one, (one, (one, ((refl, tt), (one, tt))))) crlf)) refl not_broken)
    & refused_at_law [] (bytes "\r\n") tt tt tt (count_at {rest = []} (cells_first false [] [] (tt, tt) crlf) (λ e. omega arith))
    & refused_at_law [] (bytes "actor,1,1,1,7\r\n") tt tt tt
    (count_at {rest = []}
    (cells_first false (bytes "actor") (bytes "1" ∷ bytes "1" ∷ bytes "1" ∷ bytes "7" ∷ []) (word, (one, (one, (one, ((refl, tt), tt))))) crlf) (λ e. omega arith))
    & refused_at_law [] (bytes "actor,1,1,1,07,1\r\n") tt tt tt
    (contents_at {rest = []}
    (cells_first false (bytes "actor") (bytes "1" ∷ bytes "1" ∷ bytes "1" ∷ bytes "07" ∷ bytes "1" ∷ []) (word, (one, (one, (one, ((refl, (refl, tt)), (one, tt)))))) crlf) refl not_seven)
    & refused_at_law (a ∷ []) (line_text again) tt tt tt
    (row_at again [] tt (by_3 (record { by = an_actor_row 1 1 1 7 1; lists = Memᴰ.head refl; mode = refl; actor = refl })))
    & refused_at_law (a ∷ []) (line_text away) tt tt tt
    (row_at away [] tt (by_4 (third_true (a ∷ []) away tt) (an_actor_row 1 1 1 7 1, Memᴰ.head refl, refl, λ e. omega arith)))
    & refused_at_law (a ∷ []) (line_text loose ++ line_text late) tt tt tt (row_at loose (line_text late) tt (by_3 (inr (inl (third_true (a ∷ []) late tt)))))
    & refused_at_law (c ∷ b ∷ []) (line_text loose) tt tt tt
    (row_at loose [] tt (by_5 (third_true (c ∷ b ∷ []) loose tt) (λ x. x) (inl (listed, inl (λ e. omega arith)))))
    & refused_at_law (c ∷ b ∷ []) (line_text none) tt tt tt
    (row_at none [] tt (by_5 (third_true (c ∷ b ∷ []) none tt) (λ x. x) (inl (listed, inr (refl, (refl, tt))))))
    & tt
