-- Slots that are decided one after the other, one more at a time.
use Rattle.std.proofs.Common.{◌≡◌, ◌∙◌, ℕ, ◌+◌, ◌*◌, ◌<◌, ◌≤◌, ◌==◌, if◌then◌else◌, Bool}
use Rattle.std.proofs.Common.{List, length, drop, slice_index_or, slice_set, ap, sym, subst, refl, inl, inr, arith}
use Rattle.std.proofs.Common.{get_or-set_same, get_or-set_other, eq-eqb}
use Rattle.std.specs.List.{between}
use Rattle.std.proofs.lemmas.Bool.{cases_eq, ne_eqb}
use Rattle.std.proofs.lemmas.Slice.{between_is, take-put_mid_below, between-put_mid}
use Rattle.std.proofs.lemmas.Nat.{row_fits}
use borrow.Rule.Slice.PartMut.{put_mid}
use Rattle.slot_match.specs.declared.rows.Row.{Row}
use Rattle.pointer_state.specs.Places.{Places}
use Rattle.pointer_state.specs.declared.caller_tables.PointerTables.{PointerTables}
use Rattle.eslip_rounds.specs.Slots.{Decision}
use Rattle.scheduler_c.specs.declared.words.RoundsWords.{RoundsWords}
use Rattle.scheduler_c.specs.declared.feeds.FeedWords.{FeedWords}
use Rattle.scheduler_c.specs.ManySlots.{of_slot, number_of, no_rounds, IsDecided, AreDecided}

-- what is written of one slot leaves those before it
pub of_slot-other :
    {X : Type 0} (n t s at k : ℕ) (xs ys : List X) → at ≡ s * n → t < s → at ≤ length xs
    → of_slot n t (put_mid at k xs ys) ≡ of_slot n t xs
of_slot-other n t s at k xs ys place earlier inside =
    let fits : t * n + n ≤ at = subst (λ m. t * n + n ≤ m) (sym place) (row_fits t n s n earlier (omega arith)) in
    between_is (put_mid at k xs ys) (t * n) (t * n + n)
    ∙ (ap (drop (t * n)) (take-put_mid_below at k xs ys (t * n + n) fits inside) ∙ sym (between_is xs (t * n) (t * n + n)))

-- what is written of one slot is what stands there
pub of_slot-same :
    {X : Type 0} (n s at k : ℕ) (xs ys : List X) → at ≡ s * n → at ≤ length xs → length ys ≡ n
    → of_slot n s (put_mid at k xs ys) ≡ ys
of_slot-same n s at k xs ys place inside count =
    subst (λ m. between m (m + n) (put_mid at k xs ys) ≡ ys) place (between-put_mid at k xs ys (at + n) inside (omega (arith, count)))

module _ (is_slot : ℕ → ℕ → ℕ → List Row → Places → Decision → Type 0) (n rounds slot : ℕ) (rows : List Row) (before : PointerTables) where
  -- no slot is decided, and the pointers are where they were
  pub AreDecided-none : (feeds : List FeedWords) (used : List RoundsWords) → AreDecided is_slot 0 n rounds slot rows before feeds used before
  AreDecided-none feeds used = record { tables = λ s. before; first = refl; last = refl; each = λ s none. absurd (omega arith) }

  -- one slot more is decided
  pub AreDecided-next :
      (s at k : ℕ) (now after : PointerTables) (feeds fs : List FeedWords) (used : List RoundsWords) (u : RoundsWords)
      → AreDecided is_slot s n rounds slot rows before feeds used now
      → at ≡ s * n → at ≤ length feeds → s < length used → length fs ≡ n
      → IsDecided is_slot n rounds (number_of slot s) (between at (at + n) rows) now fs u after
      → AreDecided is_slot (s + 1) n rounds slot rows before (put_mid at k feeds fs) (slice_set used s u) after
  AreDecided-next s at k now after feeds fs used u d place inside there count decided =
      let tables = λ (t : ℕ). if t == s + 1 then after else d.tables t in
      let kept : (t : ℕ) → t ≤ s → tables t ≡ d.tables t =
      λ t early. ap (λ (b : Bool). if b then after else d.tables t) (ne_eqb t (s + 1) (λ e. omega arith)) in
      let put : tables (s + 1) ≡ after = ap (λ (b : Bool). if b then after else d.tables (s + 1)) (eq-eqb (s + 1) (s + 1) refl) in
      let words = put_mid at k feeds fs in
      let numbers = slice_set used s u in
      let here : IsDecided is_slot n rounds (number_of slot s) (of_slot n s rows) (tables s) (of_slot n s words)
      (slice_index_or numbers s no_rounds) (tables (s + 1)) =
      rw (kept s (omega arith)) (rw put (rw d.last (rw (of_slot-same n s at k feeds fs place inside count) (rw (get_or-set_same used s u no_rounds there)
      (subst (λ m. IsDecided is_slot n rounds (number_of slot s) (between m (m + n) rows) now fs u after) place decided))))) in
      record {
        tables = tables;
        first = kept 0 (omega arith) ∙ d.first;
        last = put;
        each = λ t t_in. elim (cases_eq t s) [
          | inl same ↦ subst (λ m. IsDecided is_slot n rounds (number_of slot m) (of_slot n m rows) (tables m) (of_slot n m words)
              (slice_index_or numbers m no_rounds) (tables (m + 1))) (sym same) here
          | inr apart ↦
              let earlier : t < s = omega arith in
              rw (kept t (omega arith)) (rw (kept (t + 1) (omega arith)) (rw (of_slot-other n t s at k feeds fs place earlier inside)
              (rw (get_or-set_other used s t u no_rounds apart) (d.each t earlier))))
        ];
      }
