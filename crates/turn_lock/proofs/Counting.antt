-- A raise keeps the rule: the history has one more turn, which the view that is in it has seen with all before.
use Rattle.std.proofs.Common.{◌≡◌, ◌≢◌, ◌+◌, ◌<◌, inl, inr, ⊎_elim, ℕ, false, List, [], ◌∷◌, ◌++◌, length, Option, Some, refl, sym, ap, ◌∙◌, subst}
use Rattle.std.proofs.Common.{arith, length-append}
use Rattle.std.specs.Prelude.{drop, slice_set}
use Rattle.std.proofs.lemmas.List.{append-nil}
use Rattle.std.proofs.lemmas.Bool.{cases_eq}
use mathlib.Core.Option.{some, some-injective}
use lib.ListN.{get_elem?}
use Rattle.atomic_table.specs.Table.{State, Me, Act, keeps, Allows, Valid, stepped, carried_after}
use Rattle.turn_lock.specs.declared.history.TurnOf.{TurnOf}
use Rattle.turn_lock.specs.declared.history.Opening.{Opening}
use Rattle.turn_lock.specs.declared.view.View.{View}
use Rattle.turn_lock.specs.declared.view.Phase.TheVariants.{Idle, Begun}
use Rattle.turn_lock.specs.declared.rule.Stamped.{Stamped}
use Rattle.turn_lock.specs.Histories.{entries_of, turns_of}
use Rattle.turn_lock.specs.Views.{raised}
use Rattle.turn_lock.specs.Rule.{Live, JoinedHaveSeen, Keeps, IsFree, IsTaken, IsAt, Fits, IsRaised}
use Rattle.turn_lock.proofs.HistoryLemmas.{IsBelow-snoc, IsAllowed-snoc}
use Rattle.turn_lock.proofs.Seen.{HasSeen-more, HasSeen-shorter, JoinedHaveSeen-more}
use Rattle.turn_lock.proofs.Changed.{idle_begun, begun_raised, after_one, set_at, live_after, numbered_after, numbered_more}

module _ {V E : Type 0} (entries : V → List E) (numbers : V → List ℕ) (may : ℕ → List E → Type 0) (o : Opening E) (id : ℕ) (v : View E) where
  abbrev InTurn : List (TurnOf E) → State (Option (Stamped V)) (View E) → Type 0
  InTurn h s = IsTaken entries numbers may o h s

  abbrev Kept : State (Option (Stamped V)) (View E) → Type 0
  Kept s = Keeps entries numbers may o s

  -- a view that is in a turn is the one
  pub is_who : (s : State (Option (Stamped V)) (View E)) (h : List (TurnOf E)) (t : InTurn h s) → get_elem? s.views id ≡ some v → v.phase ≢ Idle → id ≡ t.who
  is_who s h t at busy = ⊎_elim (λ (e : id ≡ t.who). e) (λ (n : id ≢ t.who). absurd (busy (t.idle id v at n))) (cases_eq id t.who)

  pub in_turn_of : (s : State (Option (Stamped V)) (View E)) (k : Kept s) → get_elem? s.views id ≡ some v → v.phase ≢ Idle → InTurn k.history s
  in_turn_of s k at busy = ⊎_elim (λ (f : IsFree entries numbers may o k.history s). absurd (busy (f.idle id v at))) (λ (t : InTurn k.history s). t) k.turn

  pub there_is : (s : State (Option (Stamped V)) (View E)) (h : List (TurnOf E)) (t : InTurn h s) → get_elem? s.views id ≡ some v → v.phase ≢ Idle
      → t.there.0 ≡ v
  there_is s h t at busy = some-injective t.there.0 v (sym t.there.1.0 ∙ subst (λ i. get_elem? s.views i ≡ some v) (is_who s h t at busy) at)

  -- of a turn that is not raised
  pub before_is : (s : State (Option (Stamped V)) (View E)) (h : List (TurnOf E)) (t : InTurn h s) → get_elem? s.views id ≡ some v → v.phase ≡ Begun
      → v.before ≡ h
  before_is s h t at begins =
      let here : get_elem? s.views t.who ≡ some v = subst (λ i. get_elem? s.views i ≡ some v) (is_who s h t at (λ idle. idle_begun v.phase idle begins)) at in
      ⊎_elim (λ y. y.1) (λ y. absurd (begun_raised v.phase begins y.0)) (t.stage v here)

  module _ (live : v.spent ≡ false) (x : Stamped V) (new : ℕ) (begins : v.phase ≡ Begun) (n_is : new ≡ length v.before + 1) (none_joined : v.joined ≡ [])
      (in_range : v.number < v.opening.seats) where
    es : List E
    es = drop (length (v.opening.first ++ entries_of v.before)) (entries x.value)

    Goal : List (ℕ × Option (Stamped V)) → State (Option (Stamped V)) (View E) → Type 0
    Goal c s = (w : View E) × (a : Act (Option (Stamped V))) × Valid s.homes c a
        × Kept (stepped s 1 new id c w a)
        × IsRaised entries numbers may (v, c) (w, carried_after c a)

    raise_from : may v.number es → (s : State (Option (Stamped V)) (View E)) (k : Kept s) (t : InTurn k.history s) → get_elem? s.views id ≡ some v
        → Goal ((0, Some x) ∷ []) s
    unfolding Goal es
    raise_from allowed s k t at =
        let turn : TurnOf E = record { seat = v.number; entries = es } in
        let busy : v.phase ≢ Idle = λ idle. idle_begun v.phase idle begins in
        let who : id ≡ t.who = is_who s k.history t at busy in
        let before : v.before ≡ k.history = before_is s k.history t at begins in
        let h = k.history ++ turn ∷ [] in
        let w = raised v es in
        let seen : w.seen ≡ h = ap (λ ts. ts ++ turn ∷ []) before in
        let longer : length h ≡ length k.history + 1 = length-append k.history (turn ∷ []) in
        let n_here : new ≡ length h = n_is ∙ ap (λ ts. length ts + 1) before ∙ sym longer in
        let shorter : (j : ℕ) (u : View E) → Live s.views j u
        → length u.seen < length h = λ j u e. HasSeen-shorter k.history turn u.number u.seen (t.fits j u e).seen in
        let mine = t.fits id v (at, live) in (
          w,
          keeps,
          tt,
          record {
            history = h;
            numbered = numbered_after h s.views id v w (at, live) refl refl refl (numbered_more k.history turn s.views id v (at, live) (inl refl) k.numbered);
            in_range = IsBelow-snoc o.seats k.history turn k.in_range (rw (← mine.opening) in_range);
            allowed = IsAllowed-snoc may k.history turn k.allowed allowed;
            turn = inr (record {
              who = id;
              words = ap (λ ws. slice_set ws 1 new) t.words ∙ ap (λ n. 1 ∷ n ∷ []) n_here;
              fits = live_after (λ j u. Fits o h (j ≢ id) (w.phase ≡ Begun) u) s.views id w
                  (record {
                    opening = mine.opening;
                    seen = (([], sym seen ∙ sym (append-nil w.seen)), ap (λ ts. turns_of v.number ts) (sym seen));
                    joined = subst (λ ms. JoinedHaveSeen h (w.phase ≡ Begun) ms) (sym none_joined) tt;
                    overtaken = λ n. absurd (omega arith);
                  })
                  (λ j u ne e. let other = t.fits j u e in record {
                    opening = other.opening;
                    seen = HasSeen-more k.history turn u.number u.seen
                        (λ same. ne (k.numbered.apart j id u v e (at, live) v.number (inl (sym same)) (inl refl))) other.seen;
                    joined = JoinedHaveSeen-more (t.there.0.phase ≡ Begun) (w.phase ≡ Begun) k.history turn u.joined
                        (λ i. ne (k.numbered.apart j id u v e (at, live) v.number (inr i) (inl refl))) other.joined;
                    overtaken = λ n. inl (shorter j u e);
                  });
              idle = after_one (λ j u. j ≢ id → u.phase ≡ Idle) s.views id w (λ ne. absurd (ne refl))
                  (λ j u ne e _. t.idle j u e (λ same. ne (same ∙ sym who)));
              stage = λ u e. after_one (λ j y. j ≡ id → IsAt entries numbers may o h (stepped s 1 new id ((0, Some x) ∷ []) w keeps) id y) s.views id w
                  (λ _. inr (
                    refl,
                    seen,
                    live_after (λ i z. i ≢ id → length z.seen < length h) s.views id w (λ ne. absurd (ne refl))
                        (λ i z ne g _. shorter i z g),
                    refl,
                    omega arith,
                  ))
                  (λ j y ne g same. absurd (ne same)) id u e refl;
              there = (w, (set_at s.views id v w at, live));
              home = t.home;
            });
          },
          (x, refl, refl),
        )

    raise_allowed : (slots : ℕ) → may v.number es
        → Allows Kept slots id (v, (0, Some x) ∷ []) 1 (λ _. new) (λ _ m. IsRaised entries numbers may (v, (0, Some x) ∷ []) m)
    unfolding Goal
    raise_allowed slots allowed s k len at fits = raise_from allowed s k (in_turn_of s k at (λ idle. idle_begun v.phase idle begins)) at

module _ {V E : Type 0} (entries : V → List E) (numbers : V → List ℕ) (may : ℕ → List E → Type 0) (o : Opening E) (slots id : ℕ)
    (me : Me (Option (Stamped V)) (View E)) where
  -- the same of a seat whose slots are known by an equation
  pub raise_of : me.0.spent ≡ false → (x : Stamped V) (new : ℕ) → me.1 ≡ (0, Some x) ∷ [] → me.0.phase ≡ Begun → new ≡ length me.0.before + 1
      → me.0.joined ≡ [] → me.0.number < me.0.opening.seats → may me.0.number (drop (length (me.0.opening.first ++ entries_of me.0.before)) (entries x.value))
      → Allows (Keeps entries numbers may o) slots id me 1 (λ _. new) (λ _ m. IsRaised entries numbers may me m)
  unfolding es
  raise_of live x new e begins n_is none_joined in_range allowed =
      subst (λ (c : List (ℕ × Option (Stamped V))). Allows (Keeps entries numbers may o) slots id (me.0, c) 1 (λ _. new)
      (λ _ m. IsRaised entries numbers may (me.0, c) m)) (sym e)
      (raise_allowed entries numbers may o id me.0 live x new begins n_is none_joined in_range slots allowed)
