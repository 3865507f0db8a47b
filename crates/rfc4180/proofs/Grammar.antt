-- A text has one record at its front, or none. Assumes nothing.
use mathlib.Core.Path.{◌≡◌, refl, ap, ap₂, sym, subst, ◌∙◌}
use mathlib.Core.List.{List, [], ◌∷◌, ◌++◌, append_assoc}
use Prim.Native.Nat.{ℕ}
use native.Mathlib.Omega.{arith}
use Rattle.std.specs.Prelude.{Option, Some, None}
use Rattle.numbers.specs.Every.{Every}
use Rattle.rfc4180.specs.declared.bytes.Class.{Class}
use Rattle.rfc4180.specs.declared.bytes.Class.TheVariants.{Text, Comma, Quote, Return, Feed, Other}
use Rattle.rfc4180.specs.Bytes.{class_of, class_at}
use Rattle.rfc4180.specs.Grammar.{Cell, plain, quoted, cell_text, Inner, Inside, nothing, byte, pair, Means, as_is, between, RecordEnd, crlf, over, FirstRecord, last, more}
use Rattle.rfc4180.specs.Records.{Whole}

-- the quote is no inner byte, and no text
pub no_inner : {b : ℕ} → b ≡ 34 → Inner (class_of b) → ⊥
unfolding class_of
no_inner e i = subst (λ (x : ℕ). Inner (class_of x)) e i

pub quote_front : (w : List ℕ) → class_at (34 ∷ w) ≡ Some Quote
unfolding class_of
quote_front w = refl

-- a run of text that no text follows
plain_one : (t u s v : List ℕ) → Every (λ b. class_of b ≡ Text) t → Every (λ b. class_of b ≡ Text) s
    → (class_at u ≡ Some Text → ⊥) → (class_at v ≡ Some Text → ⊥) → t ++ u ≡ s ++ v → (t ≡ s) × (u ≡ v)
plain_one [] u [] v h k m n e = (refl, e)
plain_one [] u (a ∷ s) v h k m n e = absurd (m (ap class_at e ∙ ap Some k.0))
plain_one (b ∷ t) u [] v h k m n e = absurd (n (sym (ap class_at e) ∙ ap Some h.0))
plain_one (b ∷ t) u (a ∷ s) v h k m n e =
    let r = plain_one t u s v h.1 k.1 m n (cc) in
    let p : b ≡ a = cc in (ap₂ (λ (x : ℕ) (l : List ℕ). x ∷ l) p r.0, r.1)

-- what stands between quotes, up to a quote that no other follows
inside_one : {t c s d : List ℕ} → Inside t c → Inside s d → (u v : List ℕ) → (class_at u ≡ Some Quote → ⊥) → (class_at v ≡ Some Quote → ⊥)
    → t ++ (34 ∷ u) ≡ s ++ (34 ∷ v) → (t ≡ s) × (c ≡ d) × (u ≡ v)
inside_one nothing nothing u v m n e = (refl, refl, cc)
inside_one nothing (byte i q) u v m n e = absurd (no_inner (cc) i)
inside_one nothing (pair {t} q) u v m n e =
    let f : u ≡ 34 ∷ (t ++ (34 ∷ v)) = cc in absurd (m (ap class_at f ∙ quote_front (t ++ (34 ∷ v))))
inside_one (byte i p) nothing u v m n e = absurd (no_inner (cc) i)
inside_one (byte {b} i p) (byte {b = a} j q) u v m n e =
    let r = inside_one p q u v m n (cc) in
    let f : b ≡ a = cc in (ap₂ (λ (x : ℕ) (l : List ℕ). x ∷ l) f r.0, ap₂ (λ (x : ℕ) (l : List ℕ). x ∷ l) f r.1, r.2)
inside_one (byte i p) (pair q) u v m n e = absurd (no_inner (cc) i)
inside_one (pair {t} p) nothing u v m n e =
    let f : v ≡ 34 ∷ (t ++ (34 ∷ u)) = cc in absurd (n (ap class_at f ∙ quote_front (t ++ (34 ∷ u))))
inside_one (pair p) (byte i q) u v m n e = absurd (no_inner (cc) i)
inside_one (pair p) (pair q) u v m n e =
    let r = inside_one p q u v m n (cc) in
    (ap (λ (l : List ℕ). 34 ∷ 34 ∷ l) r.0, ap (λ (l : List ℕ). 34 ∷ l) r.1, r.2)

-- a quoted field, with what follows it
pub quoted_text : (t u : List ℕ) → cell_text (quoted t) ++ u ≡ 34 ∷ (t ++ (34 ∷ u))
quoted_text t u = ap (λ (l : List ℕ). 34 ∷ l) (append_assoc t (34 ∷ []) u)

-- a whole field at the front of a text
pub cell_one : {f g : Cell} {c d : List ℕ} → Means f c → Means g d → (u v : List ℕ) → Whole f u → Whole g v
    → cell_text f ++ u ≡ cell_text g ++ v → (f ≡ g) × (c ≡ d) × (u ≡ v)
cell_one (as_is {t} h) (as_is {t = s} k) u v m n e = let r = plain_one t u s v h k m.0 n.0 e in (ap plain r.0, r.0, r.1)
cell_one (as_is {t} h) (between {t = s} q) u v m n e = absurd (m.1 (ap class_at (e ∙ quoted_text s v) ∙ quote_front (s ++ (34 ∷ v))))
cell_one (between {t} p) (as_is {t = s} k) u v m n e = absurd (n.1 (ap class_at (sym e ∙ quoted_text t u) ∙ quote_front (t ++ (34 ∷ u))))
cell_one (between {t} p) (between {t = s} q) u v m n e =
    let f = sym (quoted_text t u) ∙ e ∙ quoted_text s v in
    let r = inside_one p q u v m n (cc f) in (ap quoted r.0, r.1, r.2)

-- what may follow a field
abbrev Ender : Option Class → Type 0
Ender None = Unit {0}
Ender (Some Text) = ⊥
Ender (Some Comma) = Unit {0}
Ender (Some Quote) = ⊥
Ender (Some Return) = Unit {0}
Ender (Some Feed) = ⊥
Ender (Some Other) = ⊥

no_quote : (t u : List ℕ) → Every (λ b. class_of b ≡ Text) t → Ender (class_at u) → class_at (t ++ u) ≡ Some Quote → ⊥
no_quote [] u h e q = subst Ender q e
no_quote (b ∷ t) u h e q = cc

whole : {f : Cell} {c : List ℕ} → Means f c → (u : List ℕ) → Ender (class_at u) → Whole f u
whole (as_is {t} h) u e = (λ q. subst Ender q e, no_quote t u h e)
whole (between p) u e = λ q. subst Ender q e

pub comma_whole : {f : Cell} {c : List ℕ} → Means f c → (u : List ℕ) → Whole f (44 ∷ u)
unfolding class_of
comma_whole m u = whole m (44 ∷ u) tt

pub end_whole : {f : Cell} {c u rest : List ℕ} → Means f c → RecordEnd u rest → Whole f u
unfolding class_of
end_whole m (crlf {rest}) = whole m (13 ∷ 10 ∷ rest) tt
end_whole m over = whole m [] tt

-- a record begins with a whole field
pub first_field : {w rest : List ℕ} {fs : List Cell} {cs : List (List ℕ)} → FirstRecord w fs cs rest
    → (f : Cell) × (c : List ℕ) × (u : List ℕ) × Means f c × Whole f u × (w ≡ cell_text f ++ u)
first_field (last {f} {c} {u} m e) = (f, c, u, m, end_whole m e, refl)
first_field (more {f} {c} {u} m r) = (f, c, 44 ∷ u, m, comma_whole m u, refl)

-- what follows a whole field at the front of a record is its end, or a comma and the fields that are left
pub data Follows (f : Cell) (c : List ℕ) : List ℕ → List Cell → List (List ℕ) → List ℕ → Type 0 where
  ended : {u rest : List ℕ} → RecordEnd u rest → Follows f c u (f ∷ []) (c ∷ []) rest
  parted : {u rest : List ℕ} {fs : List Cell} {cs : List (List ℕ)} → FirstRecord u fs cs rest → Follows f c (44 ∷ u) (f ∷ fs) (c ∷ cs) rest

pub follows : {w c rest : List ℕ} {f : Cell} {fs : List Cell} {cs : List (List ℕ)} → FirstRecord w fs cs rest
    → Means f c → (u : List ℕ) → Whole f u → w ≡ cell_text f ++ u → Follows f c u fs cs rest
follows {c = c} {rest = rest} {f = f} (last {f = g} {c = d} {u = v} n r) m u h e =
    let q = cell_one n m v u (end_whole n r) h e in
    rw (q.0, q.1) (ended (subst (λ (x : List ℕ). RecordEnd x rest) q.2 r))
follows {c = c} {rest = rest} {f = f} (more {f = g} {c = d} {u = v} {fs = fs} {cs = cs} n r) m u h e =
    let q = cell_one n m (44 ∷ v) u (comma_whole n v) h e in
    rw (q.0, q.1) (subst (λ (x : List ℕ). Follows f c x (f ∷ fs) (c ∷ cs) rest) q.2 (parted r))

pub no_comma : {u v rest : List ℕ} → RecordEnd u rest → u ≡ 44 ∷ v → ⊥
no_comma crlf e = let z : ◌≡◌ {A = ℕ} 13 44 = cc in omega arith
no_comma over e = let z : ◌≡◌ {A = ℕ} 0 1 = cc in omega arith

pub end_one : {u v rest further : List ℕ} → RecordEnd u rest → RecordEnd v further → u ≡ v → rest ≡ further
end_one crlf crlf e = cc
end_one crlf over e = let z : ◌≡◌ {A = ℕ} 0 1 = cc in absurd (omega arith)
end_one over crlf e = let z : ◌≡◌ {A = ℕ} 0 1 = cc in absurd (omega arith)
end_one over over e = refl

abbrev Same : List Cell → List Cell → List (List ℕ) → List (List ℕ) → List ℕ → List ℕ → Type 0
Same fs gs cs ds rest further = (fs ≡ gs) × (cs ≡ ds) × (rest ≡ further)

last_one : {f : Cell} {c u v rest further : List ℕ} {gs : List Cell} {ds : List (List ℕ)} → RecordEnd u rest → Follows f c v gs ds further → u ≡ v
    → Same (f ∷ []) gs (c ∷ []) ds rest further
last_one e (ended d) q = (refl, refl, end_one e d q)
last_one e (parted r) q = absurd (no_comma e q)

more_one : {f : Cell} {c u v rest further : List ℕ} {fs gs : List Cell} {cs ds : List (List ℕ)}
    → ((gs : List Cell) (ds : List (List ℕ)) (further : List ℕ) → FirstRecord u gs ds further → Same fs gs cs ds rest further)
    → Follows f c v gs ds further → v ≡ 44 ∷ u → Same (f ∷ fs) gs (c ∷ cs) ds rest further
more_one h (ended d) q = absurd (no_comma d q)
more_one {f} {c} {u} {further = further} h (parted {u = v} {fs = gs} {cs = ds} r) q =
    let p : v ≡ u = cc in
    let s = h gs ds further (subst (λ (x : List ℕ). FirstRecord x gs ds further) p r) in
    (ap (λ (l : List Cell). f ∷ l) s.0, ap (λ (l : List (List ℕ)). c ∷ l) s.1, s.2)

pub first_one : {t rest further : List ℕ} {fs gs : List Cell} {cs ds : List (List ℕ)} → FirstRecord t fs cs rest → FirstRecord t gs ds further
    → (fs ≡ gs) × (cs ≡ ds) × (rest ≡ further)
first_one (last {u = u} m e) q = last_one e (follows q m u (end_whole m e) refl) refl
first_one (more {u = u} m r) q = more_one (λ gs ds further p. first_one r p) (follows q m (44 ∷ u) (comma_whole m u) refl) refl
