-- The homes of the actors, as the modes are gone through. Assumes nothing.
use borrow.Author.Count.{below_more}
use borrow.Author.Tests.{ne_eqb}
use mathlib.Core.Path.{◌≡◌, refl, sym, ap, ◌∙◌}
use mathlib.Core.Bool.{Bool}
use mathlib.Core.List.{List}
use mathlib.Core.Logic.Iff
use mathlib.Core.Logic.{⊎_elim}
use Prim.Native.Nat.{ℕ, zero, suc, ◌+◌, ◌<◌}
use native.Mathlib.Decide.{ℕ_discrete}
use native.Mathlib.Omega.{arith}
use lib.ListN.{length, get_or, replicate, length-replicate}
use Rattle.std.specs.Prelude.{Option, Some, None}
use Rattle.std.specs.Option.{IsSome, is_some}
use Rattle.std.proofs.lemmas.Bool.{false≢true}
use Rattle.std.proofs.lemmas.Option.{none-some, same_Some}
use Rattle.numbers.specs.All.{Below}
use Rattle.numbers.specs.Bits.{bit, Has, has_or_not}
use Rattle.numbers.specs.Decides.{Decides}
use Rattle.numbers.specs.Tab.{length_tab, get_or_tab, get_or_replicated}
use Rattle.units.specs.Limits.{MODES, ACTORS}
use Rattle.tables.specs.declared.Actor.{Actor}
use Rattle.tables.specs.Shape.{Mode, Table, actor_at, mode_at}
use Rattle.tables.specs.Proper.{ProperMode, ProperTable}
use Rattle.tables.specs.Parts.{AtHome, given, home_of, housed_of}

-- who has a processor is active
on : (m : Mode) (i : ℕ) → ProperMode m → i < ACTORS → 0 < (actor_at m i).processor → Has m.active i
on m i g h p =
    ⊎_elim (λ (y : Has m.active i). y)
    (λ (z : bit m.active i ≡ 0). absurd (omega (arith, ap (λ (a : Actor). a.processor) (g.no_actor_law i h (λ y. omega arith)))))
    (has_or_not m.active i)

-- an actor that there is gives its processor, and what is given is such a one
given_is : (p : ℕ) → 0 < p → given p ≡ Some p
given_is p l = rw (ne_eqb p 0 (λ e. omega arith))

given_some : (p h : ℕ) → given p ≡ Some h → 0 < p
given_some zero h e = absurd (none-some h e)
given_some (suc p) h e = omega arith

-- a home that there is
some_from : (o : Option ℕ) → IsSome o → (h : ℕ) × (o ≡ Some h)
some_from None s = absurd (false≢true s)
some_from (Some h) s = (h, refl)

module _ (t : Table) where
  -- the first m modes are proper, and have their actors on these homes, and on no others
  pub record Housed (m : ℕ) (homes : List (Option ℕ)) : Type 0 where
    pub long : length homes ≡ ACTORS
    pub modes : Below (λ n. ProperMode (mode_at t n)) m
    pub home : (n i : ℕ) → n < m → i < ACTORS → Has (mode_at t n).active i → get_or homes i None ≡ Some (actor_at (mode_at t n) i).processor
    pub some : (i h : ℕ) → i < ACTORS → get_or homes i None ≡ Some h → (n : ℕ) × (n < m) × Has (mode_at t n).active i

  pub housed_none : Housed 0 (replicate ACTORS None)
  housed_none =
      record {
        long = length-replicate {A = Option ℕ} ACTORS None;
        modes = λ n h. absurd (omega arith);
        home = λ n i h. absurd (omega arith);
        some = λ i h l e. absurd (none-some h (sym (get_or_replicated {A = Option ℕ} ACTORS i None) ∙ e));
      }

  -- one mode more
  module _ (m : ℕ) (homes : List (Option ℕ)) (s : Housed m homes) (g : ProperMode (mode_at t m)) where
    pub housed_next : Below (AtHome homes (mode_at t m).actors) ACTORS → Housed (m + 1) (housed_of homes (mode_at t m).actors)
    housed_next w =
        record {
          long = length_tab ACTORS _;
          modes = below_more _ m s.modes g;
          home = λ n i h l y. now i l ∙ home_at n i h l y (ℕ_discrete n m);
          some = λ i h l e. some_at i h l (get_or homes i None) refl (sym (now i l) ∙ e);
        }
      where
        now : (i : ℕ) → i < ACTORS → get_or (housed_of homes (mode_at t m).actors) i None ≡ home_of (get_or homes i None) (actor_at (mode_at t m) i).processor
        now i l = get_or_tab ACTORS _ i None l

        here : (i : ℕ) → i < ACTORS → 0 < (actor_at (mode_at t m) i).processor → (o : Option ℕ) → get_or homes i None ≡ o
            → home_of o (actor_at (mode_at t m) i).processor ≡ Some (actor_at (mode_at t m) i).processor
        here i l p None e = given_is _ p
        here i l p (Some h) e = ap Some (w i l h e p)

        home_at : (n i : ℕ) → n < m + 1 → i < ACTORS → Has (mode_at t n).active i → Dec (n ≡ m)
            → home_of (get_or homes i None) (actor_at (mode_at t m) i).processor ≡ Some (actor_at (mode_at t n) i).processor
        home_at n i h l y (yes e) =
            let y' : Has (mode_at t m).active i = rw e at y in
            here i l (g.actor i l y').some_processor (get_or homes i None) refl ∙ sym (ap (λ (k : ℕ). Some (actor_at (mode_at t k) i).processor) e)
        home_at n i h l y (no d) = ap (λ (o : Option ℕ). home_of o (actor_at (mode_at t m) i).processor) (s.home n i (omega (arith, d)) l y)

        some_at : (i h : ℕ) → i < ACTORS → (o : Option ℕ) → get_or homes i None ≡ o → home_of o (actor_at (mode_at t m) i).processor ≡ Some h
            → (n : ℕ) × (n < m + 1) × Has (mode_at t n).active i
        some_at i h l None e p = (m, omega arith, on (mode_at t m) i g l (given_some _ h p))
        some_at i h l (Some k) e p = let (n, b, y) = s.some i k l e in (n, omega arith, y)

    -- in a proper table it has its actors on the homes
    pub at_home_all : m < MODES → ProperTable t → Below (AtHome homes (mode_at t m).actors) ACTORS
    at_home_all b q i l h e p =
        let (n, k, y) = s.some i h l e in
        same_Some _ _ (sym e ∙ s.home n i k l y) ∙ q.home n m i (omega arith) b l y (on (mode_at t m) i g l p)

  -- all modes gone through
  pub housed_decides : (homes : List (Option ℕ)) (r : Bool) → Housed MODES homes → length t.modes ≡ MODES
      → Decides ((i : ℕ) × (i < ACTORS) × IsSome (get_or homes i None)) r → Decides (ProperTable t) r
  housed_decides homes r s long d =
      Iff.trans d (
        (λ (i, l, p).
            record {
              modes_long = long;
              mode = s.modes;
              home = λ m n j hm hn hj a b. same_Some _ _ (sym (s.home m j hm hj a) ∙ s.home n j hn hj b);
              some = let (h, e) = some_from _ p in let (n, b, y) = s.some i h l e in (n, i, b, l, y);
            }),
        (λ q. let (m, i, h, l, y) = q.some in (i, l, ap is_some (s.home m i h l y))),
      )
