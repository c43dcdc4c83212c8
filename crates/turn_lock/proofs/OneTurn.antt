-- What the steps of one turn come to, for a view v that took the turn after the history h, with a value y after its act added es.
use Rattle.std.proofs.Common.{◌≡◌, ◌+◌, ◌^◌, ◌<◌, ◌≤◌, inl, inr, ℕ, List, [], ◌∷◌, ◌++◌, length, Option, Some, None, refl, sym, ap, ◌∙◌, subst, length-append}
use Rattle.std.specs.Prelude.{drop, unwrap_or}
use Rattle.std.proofs.lemmas.List.{append_assoc}
use Rattle.std.proofs.Math.Seq.{drop-append_seam}
use Rattle.atomic_table.specs.Table.{Me}
use Rattle.turn_lock.specs.declared.history.TurnOf.{TurnOf}
use Rattle.turn_lock.specs.declared.view.View.{View}
use Rattle.turn_lock.specs.declared.view.Phase.TheVariants.{Idle}
use Rattle.turn_lock.specs.declared.rule.Stamped.{Stamped}
use Rattle.turn_lock.specs.Histories.{entries_of, IsAllowed, IsBelow}
use Rattle.turn_lock.specs.Views.{begun, raised, freed_at, HasWholeTurn}
use Rattle.turn_lock.specs.Rule.{Begins, Stands, IsRaised, MayFree}
use Rattle.turn_lock.proofs.HistoryLemmas.{entries_of-snoc, IsAllowed-snoc, IsBelow-snoc}
use Rattle.turn_lock.proofs.Seen.{others_between}

value_in : {V : Type 0} → Stamped V → List (ℕ × Option (Stamped V)) → Stamped V
value_in d [] = d
value_in d (p ∷ ps) = unwrap_or p.1 d

pub same_value : {V : Type 0} (a b : Stamped V) → ◌≡◌ {A = List (ℕ × Option (Stamped V))} ((0, Some a) ∷ []) ((0, Some b) ∷ []) → a ≡ b
unfolding value_in
same_value a b e = ap (λ ps. value_in a ps) e

module _ {V E : Type 0} (entries : V → List E) (numbers : V → List ℕ) (may : ℕ → List E → Type 0) (v : View E) (h : List (TurnOf E)) (y : Stamped V)
    (es : List E) where
  dropped : entries y.value ≡ (v.opening.first ++ entries_of h) ++ es → drop (length (v.opening.first ++ entries_of h)) (entries y.value) ≡ es
  dropped e = ap (λ xs. drop (length (v.opening.first ++ entries_of h)) xs) e ∙ drop-append_seam (v.opening.first ++ entries_of h) es

  -- without a raise, at the last length
  pub may_free_last : (me : Me (Option (Stamped V)) (View E)) → me ≡ (begun v h, (0, Some y) ∷ []) → 2 ^ 64 ≤ length h + 1
      → Stands entries numbers may v.opening h y → MayFree entries numbers may me
  may_free_last me m last standing = subst (λ n. MayFree entries numbers may n) (sym m) (y, refl, inr (refl, last, standing))

  pub may_raise : (me : Me (Option (Stamped V)) (View E)) → me ≡ (begun v h, (0, Some y) ∷ []) → entries y.value ≡ (v.opening.first ++ entries_of h) ++ es
      → may v.number es
      → (x : Stamped V) × (me.1 ≡ (0, Some x) ∷ []) × may me.0.number (drop (length (me.0.opening.first ++ entries_of me.0.before)) (entries x.value))
  may_raise me m e allowed =
      let P : Me (Option (Stamped V)) (View E) → Type 0 = λ n. (x : Stamped V) × (n.1 ≡ (0, Some x) ∷ [])
      × may n.0.number (drop (length (n.0.opening.first ++ entries_of n.0.before)) (entries x.value)) in
      subst P (sym m) (y, refl, rw (dropped e) allowed)

  pub raised_is : (me after : Me (Option (Stamped V)) (View E)) → me ≡ (begun v h, (0, Some y) ∷ []) → entries y.value ≡ (v.opening.first ++ entries_of h)
      ++ es → IsRaised entries numbers may me after
      → after ≡ (raised (begun v h) es, (0, Some y) ∷ [])
  raised_is me after m e r =
      let same : r.0 ≡ y = same_value r.0 y (sym r.1 ∙ ap (λ n. n.1) m) in
      let P : Me (Option (Stamped V)) (View E) → Stamped V
      → Type 0 = λ n x. after ≡ (raised n.0 (drop (length (n.0.opening.first ++ entries_of n.0.before)) (entries x.value)), n.1) in
      let q : P (begun v h, (0, Some y) ∷ []) y = subst (λ (n : Me (Option (Stamped V)) (View E)). P n y) m (subst (λ x. P me x) same r.2) in
      q ∙ ap (λ xs. (raised (begun v h) xs, (0, Some y) ∷ [])) (dropped e)

  pub may_free : (me : Me (Option (Stamped V)) (View E)) → me ≡ (raised (begun v h) es, (0, Some y) ∷ [])
      → entries y.value ≡ (v.opening.first ++ entries_of h) ++ es → y.turns ≡ length h + 1 → numbers y.value ≡ v.opening.numbers
      → MayFree entries numbers may me
  may_free me m e n ns =
      let turn : TurnOf E = record { seat = v.number; entries = es } in
      let standing : Stands entries numbers may v.opening (h ++ turn ∷ []) y = record {
        turns = n ∙ sym (length-append h (turn ∷ []));
        entries_are = e ∙ append_assoc v.opening.first (entries_of h) es ∙ ap (λ xs. v.opening.first ++ xs) (sym (entries_of-snoc h turn));
        numbers_are = ns;
      } in
      subst (λ k. MayFree entries numbers may k) (sym m) (y, refl, inl (refl, standing))

-- A try that began a turn: `start` and `was` are the seat before and after it, and x is the value that was in the slot.
module _ {V E : Type 0} (entries : V → List E) (numbers : V → List ℕ) (may : ℕ → List E → Type 0) (start was : Me (Option (Stamped V)) (View E))
    (got : Begins entries numbers may start was) where
  pub stands_out : (x : Stamped V) → was.1 ≡ (0, Some x) ∷ [] → Stands entries numbers may start.0.opening got.history x
  stands_out x e = subst (λ z. Stands entries numbers may start.0.opening got.history z)
      (sym (same_value x got.value (sym e ∙ ap (λ m. m.1) got.after_is))) got.stands

  -- once the value y is home
  pub home_is : (y : Stamped V) (left me : Me (Option (Stamped V)) (View E)) → left ≡ (was.0, (0, None) ∷ []) → me ≡ (left.0, (0, Some y) ∷ [])
      → me ≡ (begun start.0 got.history, (0, Some y) ∷ [])
  home_is y left me l m =
      let With : View E → Me (Option (Stamped V)) (View E) = λ w. (w, (0, Some y) ∷ []) in
      m ∙ ap (λ (k : Me (Option (Stamped V)) (View E)). With k.0) l ∙ ap (λ (k : Me (Option (Stamped V)) (View E)). With k.0) got.after_is

  module _ (x y : Stamped V) (standing : Stands entries numbers may start.0.opening got.history x) (adds : List ℕ → List E → List E)
      (answered : List ℕ → List E → Type 0) where
    -- the entries at the turn, and those that the act added
    abbrev pub at_turn : List E
    at_turn = start.0.opening.first ++ entries_of got.history

    abbrev pub added : List E
    added = adds start.0.opening.numbers at_turn

    pub entries_after : entries y.value ≡ entries x.value ++ adds (numbers x.value) (entries x.value) → entries y.value ≡ at_turn ++ added
    entries_after e = e ∙ (λ k. standing.entries_are k ++ adds (standing.numbers_are k) (standing.entries_are k))

    pub whole_turn : (me after : Me (Option (Stamped V)) (View E)) → me ≡ (raised (begun start.0 got.history) added, (0, Some y) ∷ [])
        → after ≡ (freed_at me.0.phase me.0, [])
        → may start.0.number added → start.0.number < start.0.opening.seats → y.turns ≡ x.turns + 1 → answered (numbers x.value) (entries x.value)
        → HasWholeTurn may adds answered start.0 after y.turns
    whole_turn me after m f allowed number turns answer =
        let v = start.0 in
        let h = got.history in
        let between = got.seen.0.0 in
        let b : h ≡ v.seen ++ between = got.seen.0.1 in
        let turn : TurnOf E = record { seat = v.number; entries = added } in
        let W : List (TurnOf E) → Me (Option (Stamped V)) (View E) =
        λ ts. (
          record v {
            seen = ts ++ record { seat = v.number; entries = adds v.opening.numbers (v.opening.first ++ entries_of ts) } ∷ [];
            since = 0;
            phase = Idle;
            before = [];
          },
          [],
        ) in
        let last : after ≡ W h = f ∙ ap (λ (k : Me (Option (Stamped V)) (View E)). (freed_at k.0.phase k.0, [])) m in
        let seen : after.0.seen ≡ h ++ turn ∷ [] = ap (λ (k : Me (Option (Stamped V)) (View E)). k.0.seen) last in
        record {
          between = between;
          others = others_between h v.number v.seen got.seen;
          after_is = last ∙ ap W b;
          answer = subst (λ ts. answered v.opening.numbers (v.opening.first ++ entries_of ts)) b
              (subst (λ es. answered v.opening.numbers es) standing.entries_are (subst (λ ns. answered ns (entries x.value)) standing.numbers_are answer));
          allowed = subst (λ ts. IsAllowed may ts) (sym seen) (IsAllowed-snoc may h turn got.allowed allowed);
          in_range = subst (λ ts. IsBelow v.opening.seats ts) (sym seen) (IsBelow-snoc v.opening.seats h turn got.in_range number);
          turns_are = turns ∙ ap (λ n. n + 1) standing.turns ∙ sym (length-append h (turn ∷ [])) ∙ sym (ap length seen);
        }
