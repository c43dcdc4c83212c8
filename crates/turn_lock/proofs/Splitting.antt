-- A split keeps the rule: a new view has the next number, and has seen nothing.
use Rattle.std.proofs.Common.{◌≡◌, ◌≢◌, ◌+◌, ◌<◌, ◌⊎◌, inl, inr, ⊎_elim, ℕ, false, List, [], ◌∷◌, ◌++◌, length, set, Option, refl, sym, ap, ◌∙◌, subst}
use Rattle.std.proofs.Common.{arith, zero, suc}
use Rattle.std.specs.Prelude.{slice_set}
use Rattle.std.proofs.Math.ListN.{length-set}
use mathlib.Core.Option.{some, some-injective, some-ne-none}
use lib.ListN.{get_elem?}
use Rattle.atomic_table.specs.Table.{State, Splits}
use Rattle.atomic_table.proofs.Lists.{set_else, at_longer}
use Rattle.turn_lock.specs.declared.history.TurnOf.{TurnOf}
use Rattle.turn_lock.specs.declared.history.Opening.{Opening}
use Rattle.turn_lock.specs.declared.view.View.{View}
use Rattle.turn_lock.specs.declared.view.Phase.TheVariants.{Idle, Begun}
use Rattle.turn_lock.specs.declared.rule.Stamped.{Stamped}
use Rattle.turn_lock.specs.Histories.{IsBelow}
use Rattle.turn_lock.specs.Views.{dealer_after, dealt, numbers_of}
use Rattle.turn_lock.specs.Rule.{IsIn, Live, Numbered, Fits, Keeps, IsFree, IsTaken, IsAt}
use Rattle.turn_lock.proofs.HistoryLemmas.{turns_of-none, IsBelow-more}
use Rattle.turn_lock.proofs.Changed.{idle_begun, idle_raised, after_one}

pub one_only : (n g : ℕ) → IsIn n (g ∷ []) → n ≡ g
one_only n g (inl e) = e
one_only n g (inr x) = absurd x

module _ {E : Type 0} where
  at_end : (xs : List (View E)) (a b : View E) (j : ℕ) → get_elem? (xs ++ a ∷ []) j ≡ some b → (get_elem? xs j ≡ some b) ⊎ ((j ≡ length xs) × (a ≡ b))
  at_end [] a b zero e = inr (refl, some-injective a b e)
  at_end [] a b (suc j) e = absurd (some-ne-none b (sym e))
  at_end (x ∷ xs) a b zero e = inl e
  at_end (x ∷ xs) a b (suc j) e = ⊎_elim (λ (h : get_elem? xs j ≡ some b). inl h) (λ (h : (j ≡ length xs) × (a ≡ b)). inr (ap suc h.0, h.1)) (at_end xs a b j e)

  at_within : (xs : List (View E)) (j : ℕ) (a : View E) → get_elem? xs j ≡ some a → j < length xs
  at_within [] j a e = absurd (some-ne-none a (sym e))
  at_within (x ∷ xs) zero a e = omega arith
  at_within (x ∷ xs) (suc j) a e = let l = at_within xs j a e in omega arith

  -- what holds of each view after the first was changed and one came
  split_each : (P : ℕ → View E → Type 0) (views : List (View E)) (id : ℕ) (left right : View E) → P id left
      → ((j : ℕ) (u : View E) → j ≢ id → get_elem? views j ≡ some u → P j u) → ((j : ℕ) → j ≡ length views → P j right)
      → (j : ℕ) (u : View E) → get_elem? (set views id left ++ right ∷ []) j ≡ some u → P j u
  split_each P views id left right mine others new j u e =
      ⊎_elim
      (λ (h : get_elem? (set views id left) j ≡ some u). after_one P views id left mine others j u h)
      (λ (h : (j ≡ length (set views id left)) × (right ≡ u)). subst (P j) h.1 (new j (h.0 ∙ length-set views id left)))
      (at_end (set views id left) right u j e)

  -- where a view of the split stands: it was there, or it is the new one
  abbrev Old : List (View E) → ℕ → View E → ℕ → View E → Type 0
  Old views id v j u = ((z : View E) × Live views j z × (numbers_of u ≡ numbers_of z)
      × (((j ≡ id) × (u.given ≡ v.given + 1)) ⊎ ((j ≢ id) × (u.given ≡ z.given)))) ⊎ ((j ≡ length views) × (numbers_of u ≡ v.given ∷ []) × (u.given ≡ 0))

  module _ (h : List (TurnOf E)) (views : List (View E)) (id : ℕ) (v : View E) (at : Live views id v) (some_given : 0 < v.given) (k : Numbered h views) where
    apart_split : (i j : ℕ) (u x : View E) → Old views id v i u → Old views id v j x → (n : ℕ) → IsIn n (numbers_of u) → IsIn n (numbers_of x) → i ≡ j
    apart_split i j u x (inl p) (inl q) n a b = k.apart i j p.0 q.0 p.1 q.1 n (subst (IsIn n) p.2 a) (subst (IsIn n) q.2 b)
    apart_split i j u x (inl p) (inr q) n a b =
        let l : n < v.given = (k.below id v at some_given).1 i p.0 p.1 n (subst (IsIn n) p.2 a) in
        let e : n ≡ v.given = one_only n v.given (subst (IsIn n) q.1 b) in absurd (omega arith)
    apart_split i j u x (inr p) (inl q) n a b =
        let l : n < v.given = (k.below id v at some_given).1 j q.0 q.1 n (subst (IsIn n) q.2 b) in
        let e : n ≡ v.given = one_only n v.given (subst (IsIn n) p.1 a) in absurd (omega arith)
    apart_split i j u x (inr p) (inr q) n a b = p.0 ∙ sym q.0

    -- who has given a number is the dealer
    dealer_is : (i : ℕ) (u : View E) → Old views id v i u → 0 < u.given → (i ≡ id) × (u.given ≡ v.given + 1)
    dealer_is i u (inr p) m = let z : u.given ≡ 0 = p.2 in absurd (omega arith)
    dealer_is i u (inl p) m =
        ⊎_elim
        (λ (x : (i ≡ id) × (u.given ≡ v.given + 1)). x)
        (λ (x : (i ≢ id) × (u.given ≡ p.0.given)). let e : u.given ≡ p.0.given = x.1 in absurd (x.0 (k.one_dealer i id p.0 v p.1 at (omega arith) some_given)))
        p.3

    below_split : (j : ℕ) (x : View E) → Old views id v j x → (n : ℕ) → IsIn n (numbers_of x) → n < v.given + 1
    below_split j x (inl q) n b = let l : n < v.given = (k.below id v at some_given).1 j q.0 q.1 n (subst (IsIn n) q.2 b) in omega arith
    below_split j x (inr q) n b = let e : n ≡ v.given = one_only n v.given (subst (IsIn n) q.1 b) in omega arith

    sort : (j : ℕ) (u : View E) → Live (set views id (dealer_after v) ++ dealt v ∷ []) j u → Old views id v j u
    sort j u l =
        split_each (λ i y. y.spent ≡ false → Old views id v i y) views id (dealer_after v) (dealt v)
        (λ g. inl (v, at, refl, inl (refl, refl))) (λ i y ne e g. inl (y, (e, g), refl, inr (ne, refl))) (λ i e g. inr (e, refl, refl)) j u l.0 l.1

    numbered_split : Numbered h (set views id (dealer_after v) ++ dealt v ∷ [])
    numbered_split = record {
      apart = λ i j u x lu lx. apart_split i j u x (sort i u lu) (sort j x lx);
      below = λ i u lu m.
          let d = dealer_is i u (sort i u lu) m in (
            subst (λ g. IsBelow g h) (sym d.1) (IsBelow-more v.given h (k.below id v at some_given).0),
            λ j x lx n b. subst (λ g. n < g) (sym d.1) (below_split j x (sort j x lx) n b),
          );
      one_dealer = λ i j u x lu lx mu mx. (dealer_is i u (sort i u lu) mu).0 ∙ sym (dealer_is j x (sort j x lx) mx).0;
    }

module _ {V E : Type 0} (entries : V → List E) (numbers : V → List ℕ) (may : ℕ → List E → Type 0) (o : Opening E) where
  -- of a view in no turn: it is not the one that has the turn
  pub not_who : (s : State (Option (Stamped V)) (View E)) (h : List (TurnOf E)) (t : IsTaken entries numbers may o h s) (id : ℕ) (v : View E)
      → get_elem? s.views id ≡ some v → v.phase ≡ Idle → id ≢ t.who
  not_who s h t id v at idle e =
      ⊎_elim (λ x. idle_begun v.phase idle x.0) (λ x. idle_raised v.phase idle x.0) (t.stage v (subst (λ i. get_elem? s.views i ≡ some v) e at))

  module _ (id : ℕ) (v : View E) (live : v.spent ≡ false) (idle : v.phase ≡ Idle) (some_given : 0 < v.given) where
    fits_right : (h : List (TurnOf E)) (Q R P : Type 0) → Fits o h Q P v → IsBelow v.given h → Fits o h R P (dealt v)
    fits_right h Q R P f b = record { opening = f.opening; seen = ((h, refl), turns_of-none v.given h b); joined = tt; overtaken = λ n. absurd (omega arith) }

    fits_left : (h : List (TurnOf E)) (Q P : Type 0) → Fits o h Q P v → Fits o h Q P (dealer_after v)
    fits_left h Q P f = record { opening = f.opening; seen = f.seen; joined = f.joined; overtaken = f.overtaken }

    pub splits : Splits (Keeps entries numbers may o) id v (dealer_after v) (dealt v)
    splits s k at =
        let h = k.history in
        let b = k.numbered.below id v (at, live) some_given in
        record {
          history = h;
          numbered = numbered_split h s.views id v (at, live) some_given k.numbered;
          in_range = k.in_range;
          allowed = k.allowed;
          turn = ⊎_elim
              (λ (f : IsFree entries numbers may o h s). inl (record {
                words = f.words;
                fits = λ j u l. split_each (λ i y. y.spent ≡ false → Fits o h ⊥ ⊥ y) s.views id (dealer_after v) (dealt v)
                    (λ _. fits_left h ⊥ ⊥ (f.fits id v (at, live))) (λ i y ne e g. f.fits i y (e, g))
                    (λ i e _. fits_right h ⊥ ⊥ ⊥ (f.fits id v (at, live)) b.0) j u l.0 l.1;
                idle = split_each (λ i y. y.phase ≡ Idle) s.views id (dealer_after v) (dealt v) idle (λ i y ne e. f.idle i y e) (λ i e. refl);
                value = f.value;
                home = f.home;
                stands = f.stands;
              }))
              (λ (t : IsTaken entries numbers may o h s).
              let other : id ≢ t.who = not_who s h t id v at idle in
              let inside : t.who < length s.views = at_within s.views t.who t.there.0 t.there.1.0 in
              inr (record {
                who = t.who;
                words = t.words;
                fits = λ j u l. split_each (λ i y. y.spent ≡ false → Fits o h (i ≢ t.who) (t.there.0.phase ≡ Begun) y) s.views id (dealer_after v) (dealt v)
                    (λ _. fits_left h (id ≢ t.who) (t.there.0.phase ≡ Begun) (t.fits id v (at, live))) (λ i y ne e g. t.fits i y (e, g))
                    (λ i e _. fits_right h (id ≢ t.who) (i ≢ t.who) (t.there.0.phase ≡ Begun) (t.fits id v (at, live)) b.0) j u l.0 l.1;
                idle = split_each (λ i y. i ≢ t.who → y.phase ≡ Idle) s.views id (dealer_after v) (dealt v) (λ _. idle) (λ i y ne e. t.idle i y e)
                    (λ i e _. refl);
                stage = λ u e. split_each
                    (λ i y. i ≡ t.who → IsAt entries numbers may o h
                    (record { words = s.words; homes = s.homes; views = slice_set s.views id (dealer_after v) ++ dealt v ∷ [] }) t.who y) s.views id
                    (dealer_after v) (dealt v)
                    (λ same. absurd (other same))
                    (λ i y ne g same. ⊎_elim (λ x. inl x)
                    (λ x. inr (
                      x.0,
                      x.1,
                      (λ j z l. split_each (λ n q. q.spent ≡ false → n ≢ t.who → length q.seen < length h) s.views id (dealer_after v)
                          (dealt v) (λ _ _. x.2 id v (at, live) other) (λ n q _ a c. x.2 n q (a, c)) (λ n _ _ _. x.4) j z l.0 l.1),
                      x.3,
                      x.4,
                    ))
                    (t.stage y (subst (λ n. get_elem? s.views n ≡ some y) same g)))
                    (λ i e same. absurd (omega arith)) t.who u e refl;
                there = (
                  t.there.0,
                  (
                    at_longer (set s.views id (dealer_after v)) (dealt v ∷ []) t.who t.there.0
                        (set_else s.views id t.who (dealer_after v) (λ x. other (sym x)) ∙ t.there.1.0),
                    t.there.1.1,
                  ),
                );
                home = t.home;
              }))
              k.turn;
        }
