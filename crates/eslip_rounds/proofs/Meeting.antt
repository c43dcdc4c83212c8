-- The pointers of pairs, met one after another, and the shared pointers.
use Rattle.std.proofs.Common.{◌≡◌, ℕ, ◌+◌, ◌%◌, ◌<◌, ◌↔◌, ◌⊎◌, ◌∙◌, List, Option, Some, sym, ap, subst, inl, inr}
use Rattle.std.proofs.lemmas.Bool.{cases_eq}
use Rattle.rotating_pick.specs.PortSets.{Has}
use Rattle.rotating_pick.specs.Rotation.{IsFirstFrom}
use Rattle.rotating_pick.specs.declared.kinds.Kind.TheVariants.{Uni}
use Rattle.rotating_pick.proofs.First.{IsFirstFrom-along, IsFirstFrom-only}
use Rattle.slot_match.specs.declared.rows.Row.{Row}
use Rattle.slot_match.specs.declared.matching.Fed.{Fed}
use Rattle.slot_match.specs.Rows.{HasHead}
use Rattle.slot_match.specs.Matches.{fed_of, Serves, Completes}
use Rattle.pointer_state.specs.Places.{Places, shared_of}
use Rattle.eslip_rounds.specs.Steps.{AreMet, IsPassed}

-- the same pairs
pub AreMet-along : (P Q : ℕ → ℕ → ℕ → Type 0) (before after : Places) → ((i j level : ℕ) → P i j level ↔ Q i j level) → AreMet P before after
    → AreMet Q before after
AreMet-along P Q before after same met =
    record {
      ports = met.ports;
      granted = λ i j level q. met.granted i j level ((same i j level).1 q);
      accepted = λ i j level q. met.accepted i j level ((same i j level).1 q);
      grant_stays = λ j level none. met.grant_stays j level (λ i p. none i ((same i j level).0 p));
      accept_stays = λ i level none. met.accept_stays i level (λ j p. none j ((same i j level).0 p));
      shared = met.shared;
    }

-- pairs after pairs, none of which shares a pointer
pub AreMet-join : (P Q : ℕ → ℕ → ℕ → Type 0) (a b c : Places) → ((i x j level : ℕ) → P i j level → Q x j level → ⊥)
    → ((i j y level : ℕ) → P i j level → Q i y level → ⊥) → AreMet P a b → AreMet Q b c → AreMet (λ i j level. P i j level ⊎ Q i j level) a c
AreMet-join P Q a b c outputs inputs p q =
    let size : b.ports ≡ a.ports = p.ports in
    record {
      ports = q.ports ∙ p.ports;
      granted = λ i j level s. elim s [
        | inl h ↦ q.grant_stays j level (λ x g. outputs i x j level h g) ∙ p.granted i j level h
        | inr g ↦ q.granted i j level g ∙ ap (λ n. (i + 1) % n) size
      ];
      accepted = λ i j level s. elim s [
        | inl h ↦ q.accept_stays i level (λ y g. inputs i j y level h g) ∙ p.accepted i j level h
        | inr g ↦ q.accepted i j level g ∙ ap (λ n. (j + 1) % n) size
      ];
      grant_stays = λ j level none. q.grant_stays j level (λ i g. none i (inr g)) ∙ p.grant_stays j level (λ i h. none i (inl h));
      accept_stays = λ i level none. q.accept_stays i level (λ j g. none j (inr g)) ∙ p.accept_stays i level (λ j h. none j (inl h));
      shared = λ level. q.shared level ∙ p.shared level;
    }

-- the pairs of one output more, which no input has that has met another
pub AreMet-next : (matched : List (Option Fed)) (Met : ℕ → Type 0) (j : ℕ) (a b c : Places)
    → ((i x level : ℕ) → Met x → Serves matched i x level Uni → Serves matched i j level Uni → ⊥)
    → AreMet (λ i y level. Met y × Serves matched i y level Uni) a b
    → AreMet (λ i y level. (y ≡ j) × (fed_of matched j ≡ Some (record { input = i; level = level; kind = Uni }))) b c
    → AreMet (λ i y level. (Met y ⊎ (y ≡ j)) × Serves matched i y level Uni) a c
AreMet-next matched Met j a b c apart p q =
    let P : ℕ → ℕ → ℕ → Type 0 = λ i y level. Met y × Serves matched i y level Uni in
    let Q : ℕ → ℕ → ℕ → Type 0 = λ i y level. (y ≡ j) × (fed_of matched j ≡ Some (record { input = i; level = level; kind = Uni })) in
    let R : ℕ → ℕ → ℕ → Type 0 = λ i y level. (Met y ⊎ (y ≡ j)) × Serves matched i y level Uni in
    AreMet-along (λ i y level. P i y level ⊎ Q i y level) R a c
    (λ i y level. (
      λ s. elim s [ inl h ↦ (inl h.0, h.1) | inr g ↦ (inr g.0, subst (λ x. Serves matched i x level Uni) (sym g.0) g.1) ],
      λ r. elim r.0 [ inl met ↦ inl (met, r.1) | inr same ↦ inr (same, subst (λ x. Serves matched i x level Uni) same r.1) ],
    ))
    (AreMet-join P Q a b c (λ i x y level h g. apart i y level h.0 h.1 (subst (λ z. Serves matched i z level Uni) g.0 h.1))
    (λ i x y level h g. apart i x level h.0 h.1 g.1) p q)

-- the outputs that have met are those that no longer wait
pub gone_more : (outputs rest later j : ℕ) → Has rest j → Has outputs j → ((y : ℕ) → Has later y ↔ ((y ≡ j → ⊥) × Has rest y)) → (y : ℕ)
    → ((Has outputs y × (Has rest y → ⊥)) ⊎ (y ≡ j)) ↔ (Has outputs y × (Has later y → ⊥))
gone_more outputs rest later j has left fewer y = (
  λ s. elim s [
    | inl met ↦ (met.0, λ waits. met.1 ((fewer y).0 waits).1)
    | inr same ↦ (subst (Has outputs) (sym same) left, λ waits. ((fewer y).0 waits).0 same)
  ],
  λ p. elim (cases_eq y j) [ inl same ↦ inr same | inr apart ↦ inl (p.0, λ waits. p.1 ((fewer y).1 (apart, waits))) ],
)

module _ (n : ℕ) (rows : List Row) (matched : List (Option Fed)) (before after : Places) (level : ℕ) where
  module _ (from_in : shared_of before level < n) (p : ℕ) (first : IsFirstFrom n (shared_of before level) (HasHead rows level) p) where
    only : (i : ℕ) → IsFirstFrom n (shared_of before level) (HasHead rows level) i → i ≡ p
    only i f = IsFirstFrom-only n (shared_of before level) (HasHead rows level) i p from_in f first

    pub IsPassed-done : Completes rows matched level p → shared_of after level ≡ (p + 1) % n → IsPassed n rows matched before after level
    IsPassed-done done moved = record { passed = λ i f c. moved ∙ ap (λ z. (z + 1) % n) (sym (only i f)); stays = λ none. absurd (none p first done) }

    pub IsPassed-left : (Completes rows matched level p → ⊥) → shared_of after level ≡ shared_of before level → IsPassed n rows matched before after level
    IsPassed-left left stays =
        record { passed = λ i f c. let P : ℕ → Type 0 = λ z. Completes rows matched level z in absurd (left (subst P (only i f) c)); stays = λ none. stays }

  pub IsPassed-nobody : ((i : ℕ) → i < n → HasHead rows level i → ⊥) → shared_of after level ≡ shared_of before level
      → IsPassed n rows matched before after level
  IsPassed-nobody nobody stays = record { passed = λ i f c. absurd (nobody i f.below f.member); stays = λ none. stays }

pub IsFirstFrom-heads : (n from heads : ℕ) (rows : List Row) (level : ℕ) → ((i : ℕ) → Has heads i ↔ ((i < n) × HasHead rows level i)) → (i : ℕ)
    → IsFirstFrom n from (Has heads) i → IsFirstFrom n from (HasHead rows level) i
IsFirstFrom-heads n from heads rows level posted i =
    IsFirstFrom-along n from (Has heads) (HasHead rows level) i (λ y y_in. (λ h. ((posted y).0 h).1, λ h. (posted y).1 (y_in, h)))

-- a pointer is moved alike where it was alike,
pub IsPassed-from : (n : ℕ) (rows : List Row) (matched : List (Option Fed)) (a b after : Places) (level : ℕ) → shared_of a level ≡ shared_of b level
    → IsPassed n rows matched a after level → IsPassed n rows matched b after level
IsPassed-from n rows matched a b after level e p =
    let P : ℕ → Type 0 = λ z. (i : ℕ) → IsFirstFrom n z (HasHead rows level) i → Completes rows matched level i → ⊥ in
    record {
      passed = λ i f c. let Q : ℕ → Type 0 = λ z. IsFirstFrom n z (HasHead rows level) i in p.passed i (subst Q (sym e) f) c;
      stays = λ none. p.stays (subst P (sym e) none) ∙ e;
    }

-- and where it is alike
pub IsPassed-to : (n : ℕ) (rows : List Row) (matched : List (Option Fed)) (before x y : Places) (level : ℕ) → shared_of y level ≡ shared_of x level
    → IsPassed n rows matched before x level → IsPassed n rows matched before y level
IsPassed-to n rows matched before x y level e p = record { passed = λ i f c. e ∙ p.passed i f c; stays = λ none. e ∙ p.stays none }
