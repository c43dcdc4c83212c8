-- In a slot with a maximal match, where a queue waits its input sends another copy or its output is fed by another.
use Rattle.std.proofs.Common.{◌≡◌, ℕ, ◌+◌, ◌<◌, ◌≤◌, ◌⊎◌, ◌∙◌, ◌==◌, ◌&&◌, Bool, true, false, not, cond, List, [], ◌∷◌, Option, None, Some, All, map}
use Rattle.std.proofs.Common.{count_by, is_some, refl, ap, inl, inr, arith}
use Rattle.std.specs.List.{list_any}
use Rattle.std.proofs.lemmas.Bool.{cases_Bool, cases_eq}
use Rattle.std.proofs.lemmas.Bool.Decides.{Decides-eqb, Decides-and, Decides-not}
use Rattle.std.proofs.lemmas.List.Elements.{All-head, All-tail, All-weaker, All-map}
use Rattle.std.proofs.lemmas.List.Sums.{sum_by-cons}
use Rattle.rotating_pick.specs.declared.kinds.Kind.{Kind}
use Rattle.rotating_pick.specs.declared.kinds.Kind.TheVariants.{Uni}
use Rattle.slot_match.specs.declared.rows.Row.{Row}
use Rattle.slot_match.specs.declared.matching.Fed.{Fed}
use Rattle.slot_match.specs.Rows.{Names, row_of}
use Rattle.slot_match.specs.Matches.{fed_of, Serves, IsMaximal}
use Rattle.slot_match.specs.Parts.{is_from}
use Rattle.slot_match.proofs.Pairs.{same_fed, Serves-from}
use Rattle.slot_match.proofs.ServedParts.{is_from-some, is_from-true}
use Rattle.eslip_rounds.specs.Schedules.{DecidedSlot}
use Rattle.eslip_rounds.specs.Decisions.{is_fed}
use Rattle.eslip_rounds.proofs.Testing.{any_output, Decides-fed, Decides-free}
use Rattle.service_bound.specs.Waits.{NotedSlot, noted_of, is_waiting}
use Rattle.maximal_matches.specs.Meanwhile.{slots_waited, slots_sent_another, slots_fed_by_another}
use Rattle.service_bound.proofs.Waiting.{Decides-waiting}

-- input i is matched with an output
abbrev pub Sends : List (Option Fed) → ℕ → Type 0
Sends matched i = (y other : ℕ) × (kind : Kind) × Serves matched i y other kind

-- output j is matched with another input than i
abbrev pub IsTaken : List (Option Fed) → ℕ → ℕ → Type 0
IsTaken matched i j = (x other : ℕ) × (kind : Kind) × (x ≡ i → ⊥) × Serves matched x j other kind

serves_as : (matched : List (Option Fed)) (i j : ℕ) (f : Fed) → fed_of matched j ≡ Some f → f.input ≡ i → Serves matched i j f.level f.kind
serves_as matched i j f e same = e ∙ ap Some (same_fed f (record { input = i; level = f.level; kind = f.kind }) same refl refl)

module _ (n i j level : ℕ) (rows : List Row) (matched : List (Option Fed)) (i_in : i < n) (j_in : j < n) (maximal : IsMaximal n rows matched)
    (named : Names (row_of rows i) level Uni j) where
  sends_where_free : fed_of matched j ≡ None → Sends matched i
  sends_where_free vacant = elim (cases_Bool (list_any (is_from i) matched)) [
    | inl some ↦
        let found = (any_output (is_from i) refl matched).0 some in
        let from = is_from-some i (fed_of matched found.0) found.1 in
        (found.0, from.0.level, from.0.kind, serves_as matched i found.0 from.0 from.1 from.2)
    | inr none ↦ absurd (maximal.free i j level Uni i_in j_in ((Decides-free matched i).0 (ap not none)) vacant named)
  ]

  pub one_of_two : (Serves matched i j level Uni → ⊥) → Sends matched i ⊎ IsTaken matched i j
  one_of_two left = go (fed_of matched j) refl where
    go : (o : Option Fed) → fed_of matched j ≡ o → Sends matched i ⊎ IsTaken matched i j
    go None e = inl (sends_where_free e)
    go (Some f) e = elim (cases_eq f.input i) [
      | inl same ↦ inl (j, f.level, f.kind, serves_as matched i j f e same)
      | inr other ↦ inr (f.input, f.level, f.kind, other, Serves-from matched j f e)
    ]

-- the same of the tests
abbrev sends_another : ℕ → ℕ → ℕ → NotedSlot → Bool
sends_another i j level slot = list_any (is_from i) slot.matched && not (is_fed i level Uni (fed_of slot.matched j))

abbrev fed_by_another : ℕ → ℕ → NotedSlot → Bool
fed_by_another i j slot = is_some (fed_of slot.matched j) && not (is_from i (fed_of slot.matched j))

another_where_waits : (n i j level : ℕ) (slot : NotedSlot) → i < n → j < n → IsMaximal n slot.rows slot.matched → is_waiting slot i j level ≡ true
    → (sends_another i j level slot ≡ true) ⊎ (fed_by_another i j slot ≡ true)
another_where_waits n i j level slot i_in j_in maximal waits =
    let m = slot.matched in
    let p = (Decides-waiting slot i j level).0 waits in
    elim (one_of_two n i j level slot.rows m i_in j_in maximal p.0 p.1) [
      | inl s ↦
          let served = is_fed i level Uni (fed_of m j) in
          let sends = (any_output (is_from i) refl m).1 (s.0, is_from-true i (fed_of m s.0) (record { input = i; level = s.1; kind = s.2 }) s.3 refl) in
          let not_served = (Decides-not served (Decides-fed i level Uni (fed_of m j))).1 p.1 in
          inl ((Decides-and (list_any (is_from i) m) (not served) (λ e. e, λ e. e) (λ e. e, λ e. e)).1 (sends, not_served))
      | inr s ↦
          let other : not (s.0 == i) ≡ true = (Decides-not (s.0 == i) (Decides-eqb s.0 i)).1 s.3 in
          inr (ap (λ o. is_some o && not (is_from i o)) s.4 ∙ other)
    ]

one_or : (a b c : Bool) → (a ≡ true → (b ≡ true) ⊎ (c ≡ true)) → cond {A = ℕ} a 1 0 ≤ cond {A = ℕ} b 1 0 + cond {A = ℕ} c 1 0
one_or false b c h = omega arith
one_or true true c h = omega arith
one_or true false true h = omega arith
one_or true false false h = elim (h refl) [ inl e ↦ absurd (cc) | inr e ↦ absurd (cc) ]

-- a count of what has one of two tests
count_by-either : {X : Type 0} (p q r : X → Bool) (xs : List X) → All (λ x. p x ≡ true → (q x ≡ true) ⊎ (r x ≡ true)) xs
    → count_by p xs ≤ count_by q xs + count_by r xs
count_by-either p q r [] each = omega arith
count_by-either p q r (x ∷ xs) each =
    let Each : _ → Type 0 = λ y. p y ≡ true → (q y ≡ true) ⊎ (r y ≡ true) in
    let here = one_or (p x) (q x) (r x) (All-head Each x xs each) in
    let later = count_by-either p q r xs (All-tail Each x xs each) in
    let whole = sum_by-cons (λ y. cond {A = ℕ} (p y) 1 0) x xs in
    let left = sum_by-cons (λ y. cond {A = ℕ} (q y) 1 0) x xs in
    let right = sum_by-cons (λ y. cond {A = ℕ} (r y) 1 0) x xs in
    omega arith

-- summed over slots
pub waits_within : (n i j level : ℕ) (slots : List NotedSlot) → i < n → j < n → All (λ slot. IsMaximal n slot.rows slot.matched) slots
    → slots_waited slots i j level ≤ slots_sent_another slots i j level + slots_fed_by_another slots i j
waits_within n i j level slots i_in j_in maximal =
    let Each : NotedSlot → Type 0 = λ slot. is_waiting slot i j level ≡ true → (sends_another i j level slot ≡ true) ⊎ (fed_by_another i j slot ≡ true) in
    count_by-either (λ slot. is_waiting slot i j level) (sends_another i j level) (fed_by_another i j) slots
    (All-weaker (λ slot. IsMaximal n slot.rows slot.matched) Each (λ slot max. another_where_waits n i j level slot i_in j_in max) slots maximal)

-- and over those that are decided
pub waits_within-decided : (n i j level : ℕ) (slots : List DecidedSlot) → i < n → j < n → All (λ slot. IsMaximal n slot.rows slot.decision.matched) slots
    → slots_waited (map noted_of slots) i j level
    ≤ slots_sent_another (map noted_of slots) i j level + slots_fed_by_another (map noted_of slots) i j
waits_within-decided n i j level slots i_in j_in maximal =
    waits_within n i j level (map noted_of slots) i_in j_in (All-map (λ slot. IsMaximal n slot.rows slot.matched) noted_of slots maximal)
