-- The first state keeps the rule, and the last one has the value.
use Rattle.std.proofs.Common.{◌≡◌, ◌<◌, inl, ⊎_elim, ℕ, false, List, [], ◌∷◌, Option, Some, refl, sym, ap, ◌∙◌, subst, arith, zero, suc}
use Rattle.std.proofs.lemmas.List.{append-nil}
use mathlib.Core.Option.{some, some-injective, some-ne-none}
use lib.ListN.{get_elem?}
use Rattle.atomic_table.specs.Table.{State, opening as first_state, Final, Seen}
use Rattle.turn_lock.specs.declared.history.Opening.{Opening}
use Rattle.turn_lock.specs.declared.view.View.{View}
use Rattle.turn_lock.specs.declared.view.Phase.TheVariants.{Idle}
use Rattle.turn_lock.specs.declared.rule.Stamped.{Stamped}
use Rattle.turn_lock.specs.Openings.{opening}
use Rattle.turn_lock.specs.Views.{newcomer, numbers_of}
use Rattle.turn_lock.specs.Rule.{IsIn, Fits, Keeps, IsFree, IsTaken, Ended}
use Rattle.turn_lock.proofs.Splitting.{one_only, not_who}

only_one : {E : Type 0} (v : View E) (j : ℕ) (u : View E) → get_elem? (v ∷ []) j ≡ some u → (j ≡ 0) × (u ≡ v)
only_one v zero u e = (refl, sym (some-injective v u e))
only_one v (suc j) u e = absurd (some-ne-none u (sym e))

module _ {V E : Type 0} (entries : V → List E) (numbers : V → List ℕ) (may : ℕ → List E → Type 0) where
  opens : (x : Stamped V) (seats : ℕ) → x.turns ≡ 0
      → Keeps entries numbers may (opening entries numbers x.value seats)
      (first_state (0 ∷ 0 ∷ []) (Some x ∷ []) (newcomer (opening entries numbers x.value seats)))
  opens x seats e =
      let o = opening entries numbers x.value seats in
      let v0 = newcomer o in
      let only : (j : ℕ) (u : View E) → get_elem? (v0 ∷ []) j ≡ some u → (j ≡ 0) × (u ≡ v0) = only_one v0 in
      record {
        history = [];
        numbered = record {
          apart = λ i j u w lu lw n a b. (only i u lu.0).0 ∙ sym (only j w lw.0).0;
          below = λ i u lu m. (tt, λ j w lw n b. let z : n ≡ 0 = one_only n 0 (subst (λ y. IsIn n (numbers_of y)) (only j w lw.0).1 b) in omega arith);
          one_dealer = λ i j u w lu lw mu mw. (only i u lu.0).0 ∙ sym (only j w lw.0).0;
        };
        in_range = tt;
        allowed = tt;
        turn = inl (record {
          words = refl;
          fits = λ j u l. subst (λ y. Fits o [] ⊥ ⊥ y) (sym (only j u l.0).1)
              (record { opening = refl; seen = (([], refl), refl); joined = tt; overtaken = λ n. absurd (omega arith) });
          idle = λ j u e1. ap (λ y. y.phase) (only j u e1).1;
          value = x;
          home = refl;
          stands = record { turns = e; entries_are = sym (append-nil (entries x.value)); numbers_are = refl };
        });
      }

  pub opens_of : (x : Stamped V) (b : V) (seats : ℕ) (items : List (Option (Stamped V))) → b ≡ x.value → items ≡ Some x ∷ [] → x.turns ≡ 0
      → Keeps entries numbers may (opening entries numbers b seats) (first_state (0 ∷ 0 ∷ []) items (newcomer (opening entries numbers b seats)))
  opens_of x b seats items e i t =
      let P : V → List (Option (Stamped V))
      → Type 0 = λ c xs. Keeps entries numbers may (opening entries numbers c seats)
      (first_state (0 ∷ 0 ∷ []) xs (newcomer (opening entries numbers c seats))) in
      subst (λ c. P c items) (sym e) (subst (λ xs. P x.value xs) (sym i) (opens x seats t))

  module _ (o : Opening E) (id : ℕ) (v : View E) (live : v.spent ≡ false) (idle : v.phase ≡ Idle) (some_given : 0 < v.given)
      (covers : (n : ℕ) → n < v.given → IsIn n (numbers_of v)) where
    -- a seat that has all numbers closes a turn that is free
    last_state : (s : State (Option (Stamped V)) (View E)) (k : Keeps entries numbers may o s) → get_elem? s.views id ≡ some v
        → IsFree entries numbers may o k.history s
    last_state s k at =
        ⊎_elim
        (λ (f : IsFree entries numbers may o k.history s). f)
        (λ (t : IsTaken entries numbers may o k.history s).
        let u = t.there.0 in
        let n : u.number < v.given = (k.numbered.below id v (at, live) some_given).1 t.who u t.there.1 u.number (inl refl) in
        let same : t.who ≡ id = k.numbered.apart t.who id u v t.there.1 (at, live) u.number (inl refl) (covers u.number n) in
        absurd (not_who entries numbers may o s k.history t id v at idle (sym same)))
        k.turn

    pub final_value : (ws : List ℕ) (xs : List (Option (Stamped V))) → Final (Seen (Keeps entries numbers may o) id v) ws xs
        → (y : Option (Stamped V)) → get_elem? xs 0 ≡ some y → (x : Stamped V) × (y ≡ Some x) × Ended entries numbers may o v x.value
    final_value ws xs f y at =
        let k = f.1.0 in
        let free = last_state f.0 k f.1.1 in
        let here : get_elem? xs 0 ≡ some (Some free.value) = f.4 0 (Some free.value) (ap (λ hs. get_elem? hs 0) free.home) in
        let fit = free.fits id v (f.1.1, live) in (
          free.value,
          some-injective _ _ (sym at ∙ here),
          record {
            history = k.history;
            entries_are = free.stands.entries_are;
            numbers_are = free.stands.numbers_are;
            allowed = k.allowed;
            in_range = k.in_range;
            seen = fit.seen;
            overtaken = fit.overtaken;
            joined = fit.joined;
          },
        )
