-- What the class of the byte at a place says of the fields that stand there. Assumes nothing.
use mathlib.Core.Path.{◌≡◌, refl, ap, sym, subst, ◌∙◌}
use mathlib.Core.List.{List, [], ◌∷◌, ◌++◌}
use Prim.Native.Nat.{ℕ, suc, ◌+◌, ◌-◌, ◌<◌}
use native.Mathlib.Omega.{arith}
use lib.ListN.{length, get_or, take, drop, length-append, length-drop}
use lib.Seq.{drop-drop, drop-cons}
use Rattle.std.specs.Prelude.{Option, Some, None, IsSomeAnd, MatchOption, unwrap_or}
use Rattle.std.specs.List.{AllWithin, HoldsAt}
use Rattle.std.proofs.lemmas.List.{append-nil, take-append-drop, get_or-take, length-take-le}
use Rattle.numbers.specs.Every.{Every, every_from}
use Rattle.rfc4180.specs.declared.bytes.Class.{Class}
use Rattle.rfc4180.specs.declared.bytes.Class.TheVariants.{Text, Comma, Quote, Return, Feed, Other}
use Rattle.rfc4180.specs.declared.record.After.TheVariants.{More, End}
use Rattle.rfc4180.specs.Bytes.{class_of, class_at}
use Rattle.rfc4180.specs.Grammar.{Cell, plain, quoted, cell_text, Inner, Inside, nothing, byte, pair, Means, as_is, between, RecordEnd, crlf, over}
use Rattle.rfc4180.specs.Records.{span_of, PlainTo, ends, ClosedAt, closed, never, Whole, FieldAt, stands, broken, AfterAt, comma, end, neither}
use Rattle.rfc4180.proofs.Classes.{front, inside, at_front}
use Rattle.rfc4180.proofs.Grammar.{no_inner, quote_front, quoted_text}

-- what stands behind a byte between quotes, and behind two quotes there
inner_tail : {t c : List ℕ} → Inside t c → (b : ℕ) (w u : List ℕ) → Inner (class_of b) → b ∷ w ≡ t ++ (34 ∷ u)
    → (s : List ℕ) × (d : List ℕ) × Inside s d × (w ≡ s ++ (34 ∷ u))
inner_tail nothing b w u i e = absurd (no_inner (cc) i)
inner_tail (byte {t = t} {c = c} j d) b w u i e = (t, c, d, cc)
inner_tail (pair d) b w u i e = absurd (no_inner (cc) i)

pair_tail : {t c : List ℕ} → Inside t c → (w u : List ℕ) → (class_at u ≡ Some Quote → ⊥) → 34 ∷ 34 ∷ w ≡ t ++ (34 ∷ u)
    → (s : List ℕ) × (d : List ℕ) × Inside s d × (w ≡ s ++ (34 ∷ u))
pair_tail nothing w u n e = let f : u ≡ 34 ∷ w = cc in absurd (n (ap class_at f ∙ quote_front w))
pair_tail (byte j d) w u n e = absurd (no_inner (cc) j)
pair_tail (pair {t = t} {c = c} d) w u n e = (t, c, d, cc)

-- a field between quotes goes on with an inner byte or a quote
opening : {t c : List ℕ} → Inside t c → (u : List ℕ) → (class_at (t ++ (34 ∷ u)) ≡ Some Quote → ⊥) → IsSomeAnd (class_at (t ++ (34 ∷ u))) Inner
opening nothing u n = absurd (n (quote_front u))
opening (byte i d) u n = i
opening (pair {t = t} d) u n = absurd (n (quote_front (34 ∷ (t ++ (34 ∷ u)))))

end_front : {w rest : List ℕ} → RecordEnd w rest → (None ≡ class_at w → ⊥) → (Some Return ≡ class_at w → Some Feed ≡ class_at (drop 1 w) → ⊥) → ⊥
unfolding class_of
end_front crlf n m = m refl refl
end_front over n m = n refl

-- a quote that closes a field stands in the text
pub closed_within : (s : List ℕ) (i : ℕ) {e : ℕ} → ClosedAt s i (Some e) → e < length s
closed_within s i (closed {t} u d n q) = omega (arith, length-drop i s, length-append t (34 ∷ u), ap length q)

-- what may stand between quotes
pub inner_of : (x : Class) → (x ≡ Quote → ⊥) → (x ≡ Other → ⊥) → Inner x
inner_of Text p q = tt
inner_of Comma p q = tt
inner_of Quote p q = absurd (p refl)
inner_of Return p q = tt
inner_of Feed p q = tt
inner_of Other p q = absurd (q refl)

-- the bytes of text at the front of some bytes, by the place of the first that is none
plain_front : (w : List ℕ) (r : Option ℕ) → MatchOption r (AllWithin (λ b. class_of b ≡ Text) w 0 (length w))
    (λ i. (i < length w) × HoldsAt (λ b. class_of b ≡ Text → ⊥) w i × AllWithin (λ b. class_of b ≡ Text) w 0 i)
    → (t u : List ℕ) × Every (λ b. class_of b ≡ Text) t × (class_at u ≡ Some Text → ⊥) × (w ≡ t ++ u) × (length t ≡ unwrap_or r (length w))
plain_front w None h = (w, [], every_from _ 0 w (λ k l. h k 0 (omega arith) l), (λ z. cc), sym (append-nil w), refl)
plain_front w (Some i) h =
    let n : length (take i w) ≡ i = length-take-le i w (omega (arith, h.0)) in (
      take i w,
      drop i w,
      every_from _ 0 (take i w) (λ k l. let g : k < i = omega (arith, l, n) in rw get_or-take (h.2 k 0 (omega arith) g)),
      (λ z. h.1 0 (let e : Some (class_of (get_or w i 0)) ≡ Some Text = rw (drop-cons w i 0 h.0) at z in cc)),
      sym (take-append-drop i w),
      n,
    )

-- the place i of a text
module _ (s : List ℕ) (i : ℕ) where
  pub quote_at : class_at (drop i s) ≡ Some Quote → drop i s ≡ 34 ∷ drop (i + 1) s
  quote_at e = rw (drop-drop 1 i s) at (front (drop i s) (Some Quote) (sym e))

  -- no field is closed from it on
  closed_none : (class_at (drop i s) ≡ Some Quote → ⊥) → (IsSomeAnd (class_at (drop i s)) Inner → ⊥) → ClosedAt s i None
  closed_none h k = never (λ t c u d n q. k (subst (λ (w : List ℕ). IsSomeAnd (class_at w) Inner) (sym q) (opening d u (λ z. h (ap class_at q ∙ z)))))

  pub closed_over : None ≡ class_at (drop i s) → ClosedAt s i None
  closed_over e = closed_none (λ z. cc) (λ z. subst (λ (x : Option Class). IsSomeAnd x Inner) (sym e) z)

  pub closed_other : {x : Class} → Some x ≡ class_at (drop i s) → x ≡ Other → ClosedAt s i None
  closed_other {x} e f = closed_none (λ z. cc) (λ z. subst Inner f (subst (λ (y : Option Class). IsSomeAnd y Inner) (sym e) z))

  -- the field that is closed goes on behind an inner byte, and behind two quotes
  pub closed_more : {x : Class} → Some x ≡ class_at (drop i s) → Inner x → {r : Option ℕ} → ClosedAt s (i + 1) r → ClosedAt s i r
  closed_more {x} found j k = go k
    where
      f : drop i s ≡ get_or s i 0 ∷ drop (i + 1) s
      f = at_front s i (inside s i found)

      g : Inner (class_of (get_or s i 0))
      g = let e : x ≡ class_of (get_or s i 0) = cc (found ∙ ap class_at f) in subst Inner e j

      go : {r : Option ℕ} → ClosedAt s (i + 1) r → ClosedAt s i r
      go (closed {t} u d n q) =
          let l : i + suc (length t) ≡ i + 1 + length t = omega arith in
          subst (λ (m : ℕ). ClosedAt s i (Some m)) l (closed u (byte g d) n (f ∙ ap (λ (w : List ℕ). get_or s i 0 ∷ w) q))
      go (never h) = never (λ t c u d n q. let r = inner_tail d (get_or s i 0) (drop (i + 1) s) u g (sym f ∙ q) in h r.0 r.1 u r.2 n r.3)

  pub closed_here : {x : Class} → Some x ≡ class_at (drop i s) → x ≡ Quote → (class_at (drop (i + 1) s) ≡ Some Quote → ⊥) → ClosedAt s i (Some i)
  closed_here found e h =
      let l : i + 0 ≡ i = omega arith in
      subst (λ (m : ℕ). ClosedAt s i (Some m)) l (closed (drop (i + 1) s) nothing h (quote_at (sym found ∙ ap Some e)))

  -- the field
  pub plain_found : (r : Option ℕ) {w : List ℕ} → drop i s ≡ w → MatchOption r (AllWithin (λ b. class_of b ≡ Text) w 0 (length w))
      (λ k. (k < length w) × HoldsAt (λ b. class_of b ≡ Text → ⊥) w k × AllWithin (λ b. class_of b ≡ Text) w 0 k) → PlainTo s i (i + unwrap_or r (length w))
  plain_found r {w} e h =
      let p = plain_front w r h in
      subst (λ (n : ℕ). PlainTo s i (i + n)) p.5 (ends p.0 p.1 p.2 p.3 (e ∙ p.4))

  pub field_plain : (class_at (drop i s) ≡ Some Quote → ⊥) → {e : ℕ} → PlainTo s i e → FieldAt s i (Some (record { span = record { start = i; end = e }; end = e }))
  field_plain h (ends t u k n q) = stands {f = plain t} u (as_is k) (n, λ z. h (ap class_at q ∙ z)) q

  pub field_quoted : class_at (drop i s) ≡ Some Quote → {e : ℕ} → ClosedAt s (i + 1) (Some e)
      → FieldAt s i (Some (record { span = record { start = i + 1; end = e }; end = e + 1 }))
  field_quoted e (closed {t} u d n q) =
      let l : i + suc (length (t ++ (34 ∷ []))) ≡ i + 1 + length t + 1 = omega (arith, length-append t (34 ∷ [])) in
      subst (λ (m : ℕ). FieldAt s i (Some (record { span = span_of i (quoted t); end = m }))) l
      (stands {f = quoted t} u (between d) n (quote_at e ∙ ap (λ (w : List ℕ). 34 ∷ w) q ∙ sym (quoted_text t u)))

  pub field_broken : class_at (drop i s) ≡ Some Quote → ClosedAt s (i + 1) None → FieldAt s i None
  field_broken e (never h) = broken (λ f c u m w q. go m u w q)
    where
      go : {f : Cell} {c : List ℕ} → Means f c → (u : List ℕ) → Whole f u → drop i s ≡ cell_text f ++ u → ⊥
      go (as_is k) u w q = w.1 (sym (ap class_at q) ∙ e)
      go {c = c} (between {t} d) u w q = h t c u d w (cc (sym (quote_at e) ∙ q ∙ quoted_text t u))

  -- what follows it
  pub after_comma : {x : Class} → Some x ≡ class_at (drop i s) → x ≡ Comma → AfterAt s i (Some (More (i + 1)))
  after_comma found e = comma (front (drop i s) (Some Comma) (ap Some (sym e) ∙ found))

  pub after_over : None ≡ class_at (drop i s) → AfterAt s i (Some (End (length s)))
  after_over e =
      let l : length s - 0 ≡ length s = omega arith in
      subst (λ (m : ℕ). AfterAt s i (Some (End m))) l (end (subst (λ (w : List ℕ). RecordEnd w []) (sym (front (drop i s) None e)) over))

  pub after_neither : {x : Class} → Some x ≡ class_at (drop i s) → (x ≡ Comma → ⊥) → (x ≡ Return → class_at (drop (i + 1) s) ≡ Some Feed → ⊥) → AfterAt s i None
  unfolding class_of
  after_neither {x} found n m =
      neither (λ u q. let e : x ≡ Comma = cc (found ∙ ap class_at q) in n e)
      (λ rest r. end_front r (λ z. cc) (λ p q. let e : x ≡ Return = cc in m e (sym (q ∙ ap class_at (drop-drop 1 i s)))))

  -- two bytes
  two : drop (i + 1 + 1) s ≡ drop (i + 2) s
  two = let l : i + 1 + 1 ≡ i + 2 = omega arith in rw l

  pub after_crlf : {x : Class} → Some x ≡ class_at (drop i s) → x ≡ Return → class_at (drop (i + 1) s) ≡ Some Feed → AfterAt s i (Some (End (i + 2)))
  after_crlf found e next =
      let p = rw (drop-drop 1 i s) at (front (drop i s) (Some Return) (ap Some (sym e) ∙ found)) in
      let q = rw (drop-drop 1 (i + 1) s) at (front (drop (i + 1) s) (Some Feed) (sym next)) in
      let f : 13 ∷ 10 ∷ drop (i + 2) s ≡ drop i s = sym (p ∙ ap (λ (w : List ℕ). 13 ∷ w) (q ∙ ap (λ (w : List ℕ). 10 ∷ w) two)) in
      let l : length s - length (drop (i + 2) s) ≡ i + 2 = omega (arith, length-drop (i + 2) s, inside s (i + 1) (sym next)) in
      subst (λ (m : ℕ). AfterAt s i (Some (End m))) l (end (subst (λ (w : List ℕ). RecordEnd w (drop (i + 2) s)) f crlf))

pub closed_pair : (s : List ℕ) (i : ℕ) {x : Class} → Some x ≡ class_at (drop i s) → x ≡ Quote → class_at (drop (i + 1) s) ≡ Some Quote
    → {r : Option ℕ} → ClosedAt s (i + 2) r → ClosedAt s i r
closed_pair s i found e g k = go k
  where
    f : drop i s ≡ 34 ∷ 34 ∷ drop (i + 2) s
    f = quote_at s i (sym found ∙ ap Some e) ∙ ap (λ (w : List ℕ). 34 ∷ w) (quote_at s (i + 1) g ∙ ap (λ (w : List ℕ). 34 ∷ w) (two s i))

    go : {r : Option ℕ} → ClosedAt s (i + 2) r → ClosedAt s i r
    go (closed {t} u d n q) =
        let l : i + suc (suc (length t)) ≡ i + 2 + length t = omega arith in
        subst (λ (m : ℕ). ClosedAt s i (Some m)) l (closed u (pair d) n (f ∙ ap (λ (w : List ℕ). 34 ∷ 34 ∷ w) q))
    go (never h) = never (λ t c u d n q. let r = pair_tail d (drop (i + 2) s) u n (sym f ∙ q) in h r.0 r.1 u r.2 n r.3)
