-- A try to take the turn word keeps the rule: take where the turn is free, held where another view is in a turn.
use Rattle.std.proofs.Common.{◌≡◌, ◌≢◌, ◌<◌, ◌==◌, inl, inr, ⊎_elim, ℕ, false, List, [], ◌∷◌, length, Option, Some, refl, sym, ap, ◌∙◌, subst, arith}
use Rattle.std.specs.Prelude.{slice_index, slice_set}
use mathlib.Core.Option.{some, none}
use lib.ListN.{get_elem?}
use prog.Atomic.{either}
use Rattle.atomic_table.specs.Table.{State, Me, Act, keeps, takes, Allows, Valid, stepped, carried_after}
use Rattle.atomic_table.proofs.Lists.{set_else}
use Rattle.turn_lock.specs.declared.history.TurnOf.{TurnOf}
use Rattle.turn_lock.specs.declared.history.Opening.{Opening}
use Rattle.turn_lock.specs.declared.view.View.{View}
use Rattle.turn_lock.specs.declared.view.Phase.TheVariants.{Idle, Begun}
use Rattle.turn_lock.specs.declared.rule.Stamped.{Stamped}
use Rattle.turn_lock.specs.Histories.{IsBelow}
use Rattle.turn_lock.specs.Views.{begun, found_held}
use Rattle.turn_lock.specs.Rule.{Keeps, IsFree, IsTaken, IsAt, Fits, Tried}
use Rattle.turn_lock.proofs.Seen.{one_has_seen, Fits-change}
use Rattle.turn_lock.proofs.Changed.{idle_begun, idle_raised, after_one, set_at, live_after, numbered_after}

module _ {V E : Type 0} (entries : V → List E) (numbers : V → List ℕ) (may : ℕ → List E → Type 0) (o : Opening E) (id : ℕ) (v : View E)
    (live : v.spent ≡ false) where
  abbrev Free : List (TurnOf E) → State (Option (Stamped V)) (View E) → Type 0
  Free h s = IsFree entries numbers may o h s

  abbrev InTurn : List (TurnOf E) → State (Option (Stamped V)) (View E) → Type 0
  InTurn h s = IsTaken entries numbers may o h s

  abbrev Kept : State (Option (Stamped V)) (View E) → Type 0
  Kept s = Keeps entries numbers may o s

  Goal : State (Option (Stamped V)) (View E) → Type 0
  Goal s = (w : View E) × (a : Act (Option (Stamped V))) × Valid s.homes [] a
      × Kept (stepped s 0 (either (slice_index s.words 0 == 0) 1 (slice_index s.words 0)) id [] w a)
      × Tried entries numbers may (v, []) (slice_index s.words 0) (w, carried_after [] a)

  -- a view that gave no other number has number 0
  number_alone : (s : State (Option (Stamped V)) (View E)) (k : Kept s) → get_elem? s.views id ≡ some v → v.given ≡ 1 → v.number ≡ 0
  number_alone s k at e = let l : v.number < v.given = (k.numbered.below id v (at, live) (omega arith)).1 id v (at, live) v.number (inl refl) in omega arith

  from_free : (s : State (Option (Stamped V)) (View E)) (k : Kept s) → Free k.history s → get_elem? s.views id ≡ some v → Goal s
  unfolding Goal
  from_free s k f at =
      let h = k.history in
      let w = begun v h in
      let begins : (A B : Type 0) (u : View E) → Fits o h ⊥ ⊥ u → Fits o h A B u = λ A B u fit. Fits-change o h ⊥ A ⊥ B u (λ x. absurd x) (λ x. absurd x) fit in
      let mine = begins (id ≢ id) (w.phase ≡ Begun) v (f.fits id v (at, live)) in
      let found : slice_index s.words 0 ≡ 0 = ap (λ ws. slice_index ws 0) f.words in (
        w,
        takes 0 (Some f.value),
        ap (λ hs. get_elem? hs 0) f.home,
        record {
          history = h;
          numbered = numbered_after h s.views id v w (at, live) refl refl refl k.numbered;
          in_range = k.in_range;
          allowed = k.allowed;
          turn = inr (record {
            who = id;
            words = ap (λ ws. slice_set ws 0 (either (slice_index ws 0 == 0) 1 (slice_index ws 0))) f.words;
            fits = live_after (λ j u. Fits o h (j ≢ id) (w.phase ≡ Begun) u) s.views id w
                (record { opening = mine.opening; seen = mine.seen; joined = mine.joined; overtaken = mine.overtaken })
                (λ j u ne e. begins (j ≢ id) (w.phase ≡ Begun) u (f.fits j u e));
            idle = after_one (λ j u. j ≢ id → u.phase ≡ Idle) s.views id w (λ ne. absurd (ne refl)) (λ j u ne e _. f.idle j u e);
            stage = λ u e. after_one (λ j y. j ≡ id
                → IsAt entries numbers may o h
                (stepped s 0 (either (slice_index s.words 0 == 0) 1 (slice_index s.words 0)) id [] w (takes 0 (Some f.value))) id y) s.views id w
                (λ _. inl (refl, refl)) (λ j y ne g same. absurd (ne same)) id u e refl;
            there = (w, (set_at s.views id v w at, live));
            home = ap (λ hs. slice_set hs 0 none) f.home;
          });
        },
        subst (λ n. Tried entries numbers may (v, []) n (w, (0, Some f.value) ∷ [])) (sym found) (record {
          history = h;
          value = f.value;
          after_is = refl;
          stands = rw mine.opening f.stands;
          seen = mine.seen;
          allowed = k.allowed;
          in_range = rw mine.opening k.in_range;
          alone = λ e. one_has_seen h v.number v.seen (number_alone s k at e)
              (subst (λ g. IsBelow g h) e (k.numbered.below id v (at, live) (omega arith)).0) mine.seen;
        }),
      )

  from_taken : v.phase ≡ Idle → (s : State (Option (Stamped V)) (View E)) (k : Kept s) → InTurn k.history s → get_elem? s.views id ≡ some v → Goal s
  unfolding Goal
  from_taken idle s k t at =
      let h = k.history in
      let w = found_held v in
      let mine = t.fits id v (at, live) in
      let found : slice_index s.words 0 ≡ 1 = ap (λ ws. slice_index ws 0) t.words in
      let other : id ≢ t.who = λ e. ⊎_elim (λ x. idle_begun v.phase idle x.0) (λ x. idle_raised v.phase idle x.0)
      (t.stage v (subst (λ i. get_elem? s.views i ≡ some v) e at)) in (
        w,
        keeps,
        tt,
        record {
          history = h;
          numbered = numbered_after h s.views id v w (at, live) refl refl refl k.numbered;
          in_range = k.in_range;
          allowed = k.allowed;
          turn = inr (record {
            who = t.who;
            words = ap (λ ws. slice_set ws 0 (either (slice_index ws 0 == 0) 1 (slice_index ws 0))) t.words;
            fits = live_after (λ j u. Fits o h (j ≢ t.who) (t.there.0.phase ≡ Begun) u) s.views id w
                (record { opening = mine.opening; seen = mine.seen; joined = mine.joined; overtaken = λ n. inr (inl other) })
                (λ j u ne e. t.fits j u e);
            idle = after_one (λ j u. j ≢ t.who → u.phase ≡ Idle) s.views id w (λ _. refl) (λ j u ne e. t.idle j u e);
            stage = λ u e.
                let g : get_elem? s.views t.who ≡ some u = sym (set_else s.views id t.who w (λ x. other (sym x))) ∙ e in
                ⊎_elim
                (λ x. inl x)
                (λ x. inr (
                  x.0,
                  x.1,
                  live_after (λ j y. j ≢ t.who → length y.seen < length h) s.views id w (λ ne. x.2 id v (at, live) other)
                      (λ j y ne i. x.2 j y i),
                  x.3,
                  x.4,
                ))
                (t.stage u g);
            there = (t.there.0, (set_else s.views id t.who w (λ x. other (sym x)) ∙ t.there.1.0, t.there.1.1));
            home = t.home;
          });
        },
        subst (λ n. Tried entries numbers may (v, []) n (w, [])) (sym found) (record {
          after_is = refl;
          not_alone = λ e.
              let u = t.there.0 in
              let l : u.number < v.given = (k.numbered.below id v (at, live) (omega arith)).1 t.who u t.there.1 u.number (inl refl) in
              let same : u.number ≡ v.number = let z = number_alone s k at e in omega arith in
              other (k.numbered.apart id t.who v u (at, live) t.there.1 v.number (inl refl) (inl (sym same)));
        }),
      )

  take_allowed : (slots : ℕ) → v.phase ≡ Idle → Allows Kept slots id (v, []) 0 (λ n. either (n == 0) 1 n) (λ n m. Tried entries numbers may (v, []) n m)
  unfolding Goal
  take_allowed slots idle s k len at fits = ⊎_elim (λ (f : Free k.history s). from_free s k f at) (λ (t : InTurn k.history s). from_taken idle s k t at) k.turn

module _ {V E : Type 0} (entries : V → List E) (numbers : V → List ℕ) (may : ℕ → List E → Type 0) (o : Opening E) (slots id : ℕ)
    (me : Me (Option (Stamped V)) (View E)) where
  -- the same of a seat whose slots are known by an equation
  pub take_of : me.0.spent ≡ false → me.1 ≡ [] → me.0.phase ≡ Idle
      → Allows (Keeps entries numbers may o) slots id me 0 (λ n. either (n == 0) 1 n) (λ n m. Tried entries numbers may me n m)
  take_of live e idle =
      subst (λ (c : List (ℕ × Option (Stamped V))). Allows (Keeps entries numbers may o) slots id (me.0, c) 0 (λ n. either (n == 0) 1 n)
      (λ n m. Tried entries numbers may (me.0, c) n m)) (sym e)
      (take_allowed entries numbers may o id me.0 live slots idle)
