-- What holds of all views after one of them changed.
use Rattle.std.proofs.Common.{◌≡◌, ◌≢◌, ◌<◌, ⊎_elim, ℕ, false, List, [], ◌∷◌, ◌++◌, set, refl, sym, subst, arith, zero, suc}
use mathlib.Core.Option.{some, some-ne-none}
use lib.ListN.{get_elem?}
use Rattle.atomic_table.proofs.Lists.{at_set}
use Rattle.turn_lock.specs.declared.history.TurnOf.{TurnOf}
use Rattle.turn_lock.specs.declared.view.View.{View}
use Rattle.turn_lock.specs.declared.view.Phase.{Phase}
use Rattle.turn_lock.specs.declared.view.Phase.TheVariants.{Idle, Begun, Raised}
use Rattle.turn_lock.specs.Histories.{IsBelow}
use Rattle.turn_lock.specs.Views.{numbers_of, joined_numbers}
use Rattle.turn_lock.specs.Rule.{IsIn, Live, Numbered}
use Rattle.turn_lock.proofs.HistoryLemmas.{IsBelow-snoc}

pub idle_begun : (p : Phase) → p ≡ Idle → p ≡ Begun → ⊥
idle_begun p a b = cc

pub idle_raised : (p : Phase) → p ≡ Idle → p ≡ Raised → ⊥
idle_raised p a b = cc

pub begun_raised : (p : Phase) → p ≡ Begun → p ≡ Raised → ⊥
begun_raised p a b = cc

module _ {E : Type 0} where
  pub after_one : (P : ℕ → View E → Type 0) (views : List (View E)) (id : ℕ) (w : View E) → P id w
      → ((j : ℕ) (u : View E) → j ≢ id → get_elem? views j ≡ some u → P j u) → (j : ℕ) (u : View E) → get_elem? (set views id w) j ≡ some u → P j u
  after_one P views id w mine others j u e =
      ⊎_elim
      (λ (x : (j ≡ id) × (w ≡ u)). subst (λ (y : ℕ × View E). P y.0 y.1) (λ k. (sym x.0 k, x.1 k)) mine)
      (λ (x : (j ≢ id) × (get_elem? views j ≡ some u)). others j u x.0 x.1)
      (at_set views id j w u e)

  pub set_at : (views : List (View E)) (id : ℕ) (v w : View E) → get_elem? views id ≡ some v → get_elem? (set views id w) id ≡ some w
  set_at [] zero v w at = absurd (some-ne-none v (sym at))
  set_at [] (suc id) v w at = absurd (some-ne-none v (sym at))
  set_at (x ∷ xs) zero v w at = refl
  set_at (x ∷ xs) (suc id) v w at = set_at xs id v w at

  -- the same of each live view
  pub live_after : (P : ℕ → View E → Type 0) (views : List (View E)) (id : ℕ) (w : View E) → P id w → ((j : ℕ) (u : View E) → j ≢ id → Live views j u → P j u)
      → (j : ℕ) (u : View E) → Live (set views id w) j u → P j u
  live_after P views id w mine others j u live =
      after_one (λ k y. y.spent ≡ false → P k y) views id w (λ _. mine) (λ k y ne g alive. others k y ne (g, alive)) j u live.0 live.1

  -- of a live view that changed: what it was
  pub Was : List (View E) → ℕ → View E → Type 0
  Was views k y = (z : View E) × Live views k z × (z.number ≡ y.number) × (z.joined ≡ y.joined) × (z.given ≡ y.given)

  was : (views : List (View E)) (id : ℕ) (v w : View E) → Live views id v → w.number ≡ v.number → w.joined ≡ v.joined → w.given ≡ v.given
      → (j : ℕ) (u : View E) → Live (set views id w) j u → Was views j u
  unfolding Was
  was views id v w at a b c j u live =
      after_one (λ k y. y.spent ≡ false → Was views k y) views id w (λ _. (v, at, sym a, sym b, sym c))
      (λ k y ne g alive. (y, (g, alive), refl, refl, refl)) j u live.0 live.1

  same_numbers : (z y : View E) → z.number ≡ y.number → z.joined ≡ y.joined → numbers_of y ≡ numbers_of z
  same_numbers z y a b = λ k. sym a k ∷ joined_numbers (sym b k)

  -- a view that keeps its numbers leaves them apart
  pub numbered_after : (h : List (TurnOf E)) (views : List (View E)) (id : ℕ) (v w : View E) → Live views id v → w.number ≡ v.number → w.joined ≡ v.joined
      → w.given ≡ v.given → Numbered h views → Numbered h (set views id w)
  unfolding Was
  numbered_after h views id v w at a b c k = record {
    apart = λ i j u x lu lx n iu ix.
        let p : Was views i u = was views id v w at a b c i u lu in
        let q : Was views j x = was views id v w at a b c j x lx in
        k.apart i j p.0 q.0 p.1 q.1 n (subst (IsIn n) (same_numbers p.0 u p.2 p.3) iu) (subst (IsIn n) (same_numbers q.0 x q.2 q.3) ix);
    below = λ i u lu some.
        let p : Was views i u = was views id v w at a b c i u lu in
        let more : 0 < p.0.given = let e : p.0.given ≡ u.given = p.4 in omega arith in
        let all = k.below i p.0 p.1 more in (
          subst (λ g. IsBelow g h) p.4 all.0,
          λ j x lx n ix.
              let q : Was views j x = was views id v w at a b c j x lx in
              let l : n < p.0.given = all.1 j q.0 q.1 n (subst (IsIn n) (same_numbers q.0 x q.2 q.3) ix) in
              let e : p.0.given ≡ u.given = p.4 in omega arith,
        );
    one_dealer = λ i j u x lu lx su sx.
        let p : Was views i u = was views id v w at a b c i u lu in
        let q : Was views j x = was views id v w at a b c j x lx in
        let e : p.0.given ≡ u.given = p.4 in
        let f : q.0.given ≡ x.given = q.4 in
        k.one_dealer i j p.0 q.0 p.1 q.1 (omega arith) (omega arith);
  }

  -- one more turn, of a number that is live
  pub numbered_more : (h : List (TurnOf E)) (t : TurnOf E) (views : List (View E)) (id : ℕ) (v : View E) → Live views id v → IsIn t.seat (numbers_of v)
      → Numbered h views → Numbered (h ++ t ∷ []) views
  numbered_more h t views id v at mine k = record {
    apart = k.apart;
    below = λ i u lu some. let all = k.below i u lu some in (IsBelow-snoc u.given h t all.0 (all.1 id v at t.seat mine), all.1);
    one_dealer = k.one_dealer;
  }
