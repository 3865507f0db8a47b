-- The processor of each actor, by the rows that were read. Assumes nothing.
use mathlib.Core.Path.{◌≡◌, refl, sym, ap, ◌∙◌}
use mathlib.Core.List.Memᴰ
use mathlib.Core.List.{List, [], ◌∷◌}
use mathlib.Core.Logic.{⊎_elim}
use Prim.Native.Nat.{ℕ}
use native.Mathlib.Omega.{arith}
use native.Mathlib.Decide.{ℕ_discrete}
use lib.ListN.{length, get_or, set, replicate, length-set, length-replicate, get_or-replicate}
use lib.Seq.{get_or-set_same, get_or-set_other}
use Rattle.std.proofs.lemmas.Option.{none-some}
use Rattle.std.specs.Prelude.{Option, Some, None}
use Rattle.rfc4180.specs.Numbers.{Between}
use Rattle.units.specs.Limits.{ACTORS}
use Rattle.terms.specs.Place.{place_of}
use Rattle.reader.specs.Rows.{Row, ActorRow, actor, channel, Lists}
use Rattle.reader.proofs.Lookup.{Passed, start, then, lists_range, lists_actor, lists_channel, one_home}

-- the processor of each actor that some row lists, and none of the others
unfoldable pub homes_of : List Row → List (Option ℕ)
homes_of [] = replicate ACTORS None
homes_of (actor r ∷ rs) = set (homes_of rs) (place_of r.actor) (Some r.is.processor)
homes_of (channel r ∷ rs) = homes_of rs

-- the home of the actor with number a
abbrev pub home_at : List Row → ℕ → Option ℕ
home_at rs a = get_or (homes_of rs) (place_of a) None

pub homes_long : (rs : List Row) → length (homes_of rs) ≡ ACTORS
unfolding homes_of
homes_long [] = length-replicate {A = Option ℕ} ACTORS None
homes_long (actor r ∷ rs) = length-set (homes_of rs) (place_of r.actor) (Some r.is.processor) ∙ homes_long rs
homes_long (channel r ∷ rs) = homes_long rs

-- an actor that is listed has its processor there
pub home_is : {rs : List Row} {e : ActorRow} → Passed rs → Lists rs e → home_at rs e.actor ≡ Some e.is.processor
unfolding homes_of
home_is start l = elim l [ ]
home_is {e = e} (then {r = actor r} {rs} h q p) l = go (λ k. home_is p k) (ℕ_discrete e.actor r.actor)
  where
    go : (Lists rs e → home_at rs e.actor ≡ Some e.is.processor) → Dec (e.actor ≡ r.actor) → home_at (actor r ∷ rs) e.actor ≡ Some e.is.processor
    go ih (yes s) =
        rw s (get_or-set_same (homes_of rs) (place_of r.actor) (Some r.is.processor) None (omega (arith, homes_long rs, h.actor)))
        ∙ ap Some (one_home (then h q p) (Memᴰ.head refl) l (sym s))
    go ih (no n) =
        get_or-set_other (homes_of rs) (place_of r.actor) (place_of e.actor) (Some r.is.processor) None (λ s. n (omega (arith, h.actor, (lists_range (then h q p) l).actor)))
        ∙ ⊎_elim (λ f. absurd (n (cc))) ih (lists_actor l)
home_is (then {r = channel r} h q p) l = home_is p (lists_channel l)

-- and one that has a processor there is listed, with it
pub home_from : {rs : List Row} → Passed rs → (a : ℕ) → Between 1 ACTORS a → {h : ℕ} → home_at rs a ≡ Some h → (e : ActorRow) × Lists rs e × (e.actor ≡ a)
unfolding homes_of
home_from start a ha {h} n =
    let z : None ≡ Some h = sym (get_or-replicate {A = Option ℕ} ACTORS (place_of a) None None (omega arith)) ∙ n in absurd (none-some h z)
home_from (then {r = actor r} {rs} i q p) a ha {h} n = go (λ z. home_from p a ha z) (ℕ_discrete r.actor a)
  where
    go : (home_at rs a ≡ Some h → (e : ActorRow) × Lists rs e × (e.actor ≡ a)) → Dec (r.actor ≡ a) → (e : ActorRow) × Lists (actor r ∷ rs) e × (e.actor ≡ a)
    go ih (yes s) = (r, Memᴰ.head refl, s)
    go ih (no d) =
        let (e, l, s) = ih (sym (get_or-set_other (homes_of rs) (place_of r.actor) (place_of a) (Some r.is.processor) None (λ s. d (omega (arith, i.actor)))) ∙ n) in
        (e, Memᴰ.tail l, s)
home_from (then {r = channel r} i q p) a ha n = let (e, l, s) = home_from p a ha n in (e, Memᴰ.tail l, s)
