-- A free keeps the rule: after a raise, and without one where the count of turns is at its last value.
use Rattle.std.proofs.Common.{◌≡◌, ◌≢◌, ◌+◌, ◌^◌, ◌<◌, ◌≤◌, inl, inr, ⊎_elim, ℕ, false, List, [], ◌∷◌, length, Option, Some, refl, sym, ap, ◌∙◌, subst, arith}
use Rattle.std.specs.Prelude.{slice_set}
use mathlib.Core.Option.{some}
use lib.ListN.{get_elem?}
use Rattle.atomic_table.specs.Table.{State, Me, Act, gives, Allows, Valid, stepped, carried_after}
use Rattle.turn_lock.specs.declared.history.TurnOf.{TurnOf}
use Rattle.turn_lock.specs.declared.history.Opening.{Opening}
use Rattle.turn_lock.specs.declared.view.View.{View}
use Rattle.turn_lock.specs.declared.view.Phase.TheVariants.{Idle, Begun, Raised}
use Rattle.turn_lock.specs.declared.rule.Stamped.{Stamped}
use Rattle.turn_lock.specs.Views.{found_held, freed, freed_at}
use Rattle.turn_lock.specs.Rule.{Live, JoinedHaveSeen, Keeps, IsTaken, Fits, Stands, MayFree, IsFreed}
use Rattle.turn_lock.proofs.Seen.{Fits-change, JoinedHaveSeen-change}
use Rattle.turn_lock.proofs.Changed.{idle_begun, idle_raised, begun_raised, after_one, live_after, numbered_after}
use Rattle.turn_lock.proofs.Counting.{is_who, there_is, in_turn_of, before_is}

module _ {V E : Type 0} (entries : V → List E) (numbers : V → List ℕ) (may : ℕ → List E → Type 0) (o : Opening E) (id : ℕ) (v : View E)
    (live : v.spent ≡ false) (x : Stamped V) where
  abbrev InTurn : List (TurnOf E) → State (Option (Stamped V)) (View E) → Type 0
  InTurn h s = IsTaken entries numbers may o h s

  abbrev Kept : State (Option (Stamped V)) (View E) → Type 0
  Kept s = Keeps entries numbers may o s

  Goal : List (ℕ × Option (Stamped V)) → State (Option (Stamped V)) (View E) → Type 0
  Goal c s = (w : View E) × (a : Act (Option (Stamped V))) × Valid s.homes c a
      × Kept (stepped s 0 0 id c w a)
      × IsFreed entries numbers may (v, c) (w, carried_after c a)

  raised_stage : v.phase ≡ Raised → (s : State (Option (Stamped V)) (View E)) (h : List (TurnOf E)) (t : InTurn h s) → get_elem? s.views id ≡ some v
      → (v.seen ≡ h) × ((j : ℕ) (u : View E) → Live s.views j u → j ≢ t.who → length u.seen < length h) × (v.since ≡ 0)
  raised_stage raises s h t at =
      let here : get_elem? s.views t.who ≡ some v =
      subst (λ i. get_elem? s.views i ≡ some v) (is_who entries numbers may o id v s h t at (λ idle. idle_raised v.phase idle raises)) at in
      ⊎_elim (λ y. absurd (begun_raised v.phase y.0 raises)) (λ y. (y.1, y.2, y.3)) (t.stage v here)

  free_from : v.phase ≡ Raised → Stands entries numbers may v.opening v.seen x
      → (s : State (Option (Stamped V)) (View E)) (k : Kept s) (t : InTurn k.history s) → get_elem? s.views id ≡ some v → Goal ((0, Some x) ∷ []) s
  unfolding Goal
  free_from raises standing s k t at =
      let h = k.history in
      let who : id ≡ t.who = is_who entries numbers may o id v s h t at (λ idle. idle_raised v.phase idle raises) in
      let stage = raised_stage raises s h t at in
      let is_raised : t.there.0.phase ≡ Raised = ap (λ y. y.phase) (there_is entries numbers may o id v s h t at (λ idle. idle_raised v.phase idle raises))
      ∙ raises in
      let settled : (u : View E) → JoinedHaveSeen h (t.there.0.phase ≡ Begun) u.joined
      → JoinedHaveSeen h ⊥ u.joined =
      λ u g. JoinedHaveSeen-change (t.there.0.phase ≡ Begun) ⊥ h (λ b. absurd (begun_raised t.there.0.phase b is_raised)) u.joined g in
      let w = freed v in
      let mine = t.fits id v (at, live) in (
        w,
        gives,
        tt,
        record {
          history = h;
          numbered = numbered_after h s.views id v w (at, live) refl refl refl k.numbered;
          in_range = k.in_range;
          allowed = k.allowed;
          turn = inl (record {
            words = ap (λ ws. slice_set ws 0 0) t.words;
            fits = live_after (λ j u. Fits o h ⊥ ⊥ u) s.views id w
                (record {
                  opening = mine.opening;
                  seen = mine.seen;
                  joined = settled v mine.joined;
                  overtaken = λ n. let z : v.since ≡ 0 = stage.2 in
                      absurd (omega arith);
                })
                (λ j u ne e. let other = t.fits j u e in
                record {
                  opening = other.opening;
                  seen = other.seen;
                  joined = settled u other.joined;
                  overtaken = λ n. inl (stage.1 j u e (λ same. ne (same ∙ sym who)));
                });
            idle = after_one (λ j u. u.phase ≡ Idle) s.views id w refl (λ j u ne e. t.idle j u e (λ same. ne (same ∙ sym who)));
            value = x;
            home = ap (λ hs. slice_set hs 0 (some (Some x))) t.home;
            stands = rw (mine.opening, stage.0) at standing;
          });
        },
        ap (λ p. (freed_at p v, [])) (sym raises),
      )

  last_from : v.phase ≡ Begun → Stands entries numbers may v.opening v.before x → 2 ^ 64 ≤ length v.before + 1
      → (s : State (Option (Stamped V)) (View E)) (k : Kept s) (t : InTurn k.history s) → get_elem? s.views id ≡ some v → Goal ((0, Some x) ∷ []) s
  unfolding Goal
  last_from begins standing last s k t at =
      let h = k.history in
      let who : id ≡ t.who = is_who entries numbers may o id v s h t at (λ idle. idle_begun v.phase idle begins) in
      let before : v.before ≡ h = before_is entries numbers may o id v s h t at begins in
      let most : 2 ^ 64 ≤ length h + 1 = rw before at last in
      let w = found_held v in
      let at_last : (j : ℕ) (u : View E) → Live s.views j u
      → Fits o h ⊥ ⊥ u = λ j u e. Fits-change o h (j ≢ t.who) ⊥ (t.there.0.phase ≡ Begun) ⊥ u (λ _. inr most) (λ _. inr most) (t.fits j u e) in
      let mine = at_last id v (at, live) in (
        w,
        gives,
        tt,
        record {
          history = h;
          numbered = numbered_after h s.views id v w (at, live) refl refl refl k.numbered;
          in_range = k.in_range;
          allowed = k.allowed;
          turn = inl (record {
            words = ap (λ ws. slice_set ws 0 0) t.words;
            fits = live_after (λ j u. Fits o h ⊥ ⊥ u) s.views id w
                (record { opening = mine.opening; seen = mine.seen; joined = mine.joined; overtaken = λ n. inr (inr most) })
                (λ j u ne e. at_last j u e);
            idle = after_one (λ j u. u.phase ≡ Idle) s.views id w refl (λ j u ne e. t.idle j u e (λ same. ne (same ∙ sym who)));
            value = x;
            home = ap (λ hs. slice_set hs 0 (some (Some x))) t.home;
            stands = rw (mine.opening, before) at standing;
          });
        },
        ap (λ p. (freed_at p v, [])) (sym begins),
      )

  free_allowed : (slots : ℕ) → v.phase ≡ Raised → Stands entries numbers may v.opening v.seen x
      → Allows Kept slots id (v, (0, Some x) ∷ []) 0 (λ _. 0) (λ _ m. IsFreed entries numbers may (v, (0, Some x) ∷ []) m)
  unfolding Goal
  free_allowed slots raises standing s k len at fits =
      free_from raises standing s k (in_turn_of entries numbers may o id v s k at (λ idle. idle_raised v.phase idle raises)) at

  last_allowed : (slots : ℕ) → v.phase ≡ Begun → Stands entries numbers may v.opening v.before x → 2 ^ 64 ≤ length v.before + 1
      → Allows Kept slots id (v, (0, Some x) ∷ []) 0 (λ _. 0) (λ _ m. IsFreed entries numbers may (v, (0, Some x) ∷ []) m)
  unfolding Goal
  last_allowed slots begins standing last s k len at fits =
      last_from begins standing last s k (in_turn_of entries numbers may o id v s k at (λ idle. idle_begun v.phase idle begins)) at

module _ {V E : Type 0} (entries : V → List E) (numbers : V → List ℕ) (may : ℕ → List E → Type 0) (o : Opening E) (slots id : ℕ)
    (me : Me (Option (Stamped V)) (View E)) (live : me.0.spent ≡ false) where
  -- the same of a seat whose slots are known by an equation
  pub free_of : MayFree entries numbers may me → Allows (Keeps entries numbers may o) slots id me 0 (λ _. 0) (λ _ m. IsFreed entries numbers may me m)
  free_of f =
      let x = f.0 in
      subst (λ (c : List (ℕ × Option (Stamped V))). Allows (Keeps entries numbers may o) slots id (me.0, c) 0 (λ _. 0)
      (λ _ m. IsFreed entries numbers may (me.0, c) m)) (sym f.1)
      (⊎_elim (λ r. free_allowed entries numbers may o id me.0 live x slots r.0 r.1)
      (λ l. last_allowed entries numbers may o id me.0 live x slots l.0 l.2 l.1) f.2)
