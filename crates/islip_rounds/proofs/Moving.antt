-- The pointers that the pairs of the first outputs move.
use Rattle.std.proofs.Common.{◌≡◌, ◌+◌, ◌%◌, ℕ, ◌<◌, ◌↔◌, ◌∙◌, List, Option, None, length, slice_index, slice_index_or, slice_set, refl, sym, subst, arith}
use Rattle.std.proofs.Common.{inl, inr, get_or-set_same, get_or-set_other, length-set}
use Rattle.std.proofs.lemmas.Bool.{cases_eq, cases_lt}
use Rattle.std.proofs.lemmas.List.{get_or_past}
use Rattle.std.proofs.lemmas.Option.{same_Some}
use Rattle.islip_rounds.specs.Rounds.{Feeds}

-- the grant pointers of the first m outputs that are matched are one beyond their inputs, all others stay
pub record AreGrantsMoved (n m : ℕ) (first : List (Option ℕ)) (before after : List ℕ) : Type 0 where
  pub moved : (i j : ℕ) → j < m → Feeds first i j → slice_index after j ≡ (i + 1) % n
  pub stays : (j : ℕ) → ((i : ℕ) → j < m → Feeds first i j → ⊥) → slice_index after j ≡ slice_index before j

-- the accept pointers of the inputs that are matched with one of the first m outputs are one beyond it
pub record AreAcceptsMoved (n m : ℕ) (first : List (Option ℕ)) (before after : List ℕ) : Type 0 where
  pub moved : (i j : ℕ) → j < m → Feeds first i j → slice_index after i ≡ (j + 1) % n
  pub stays : (i : ℕ) → ((j : ℕ) → j < m → Feeds first i j → ⊥) → slice_index after i ≡ slice_index before i

-- output m is matched with no input
pub AreGrantsMoved-skip : (n m : ℕ) (first : List (Option ℕ)) (before after : List ℕ) → slice_index_or first m None ≡ None
    → AreGrantsMoved n m first before after → AreGrantsMoved n (m + 1) first before after
AreGrantsMoved-skip n m first before after free was = record {
  moved = λ i j j_in feeds. elim (cases_eq j m) [
    | inl same ↦ let feeds_m : Feeds first i m = subst (Feeds first i) same feeds in absurd (cc)
    | inr other ↦ was.moved i j (omega arith) feeds
  ];
  stays = λ j none. was.stays j (λ i j_in feeds. none i (omega arith) feeds);
}

pub AreAcceptsMoved-skip : (n m : ℕ) (first : List (Option ℕ)) (before after : List ℕ) → slice_index_or first m None ≡ None
    → AreAcceptsMoved n m first before after → AreAcceptsMoved n (m + 1) first before after
AreAcceptsMoved-skip n m first before after free was = record {
  moved = λ i j j_in feeds. elim (cases_eq j m) [
    | inl same ↦ let feeds_m : Feeds first i m = subst (Feeds first i) same feeds in absurd (cc)
    | inr other ↦ was.moved i j (omega arith) feeds
  ];
  stays = λ i none. was.stays i (λ j j_in feeds. none j (omega arith) feeds);
}

-- output m is matched with input x
pub AreGrantsMoved-put : (n m x : ℕ) (first : List (Option ℕ)) (before after : List ℕ) → m < length after → Feeds first x m
    → AreGrantsMoved n m first before after → AreGrantsMoved n (m + 1) first before (slice_set after m ((x + 1) % n))
AreGrantsMoved-put n m x first before after m_in here was =
    let place = λ (j : ℕ). slice_index (slice_set after m ((x + 1) % n)) j in
    record {
      moved = λ i j j_in feeds. elim (cases_eq j m) [
        | inl same ↦
            let feeds_m : Feeds first i m = subst (Feeds first i) same feeds in
            let is_x : x ≡ i = same_Some x i (sym here ∙ feeds_m) in
            let at_m : place m ≡ (x + 1) % n = rw get_or-set_same in
            subst (λ y. place y ≡ (i + 1) % n) (sym same) (subst (λ y. place m ≡ (y + 1) % n) is_x at_m)
        | inr other ↦ rw get_or-set_other (was.moved i j (omega arith) feeds)
      ];
      stays = λ j none. elim (cases_eq j m) [
        | inl same ↦ absurd (none x (omega arith) (subst (Feeds first x) (sym same) here))
        | inr other ↦ rw get_or-set_other (was.stays j (λ i j_in feeds. none i (omega arith) feeds))
      ];
    }

-- input x is matched with output m alone
pub AreAcceptsMoved-put : (n m x : ℕ) (first : List (Option ℕ)) (before after : List ℕ) → x < length after → ((j : ℕ) → Feeds first x j ↔ (j ≡ m))
    → AreAcceptsMoved n m first before after → AreAcceptsMoved n (m + 1) first before (slice_set after x ((m + 1) % n))
AreAcceptsMoved-put n m x first before after x_in alone was =
    let here = (alone m).1 refl in
    let place = λ (i : ℕ). slice_index (slice_set after x ((m + 1) % n)) i in
    record {
      moved = λ i j j_in feeds. elim (cases_eq i x) [
        | inl same ↦
            let is_m : j ≡ m = (alone j).0 (subst (λ y. Feeds first y j) same feeds) in
            let at_x : place x ≡ (m + 1) % n = rw get_or-set_same in
            subst (λ y. place y ≡ (j + 1) % n) (sym same) (subst (λ y. place x ≡ (y + 1) % n) (sym is_m) at_x)
        | inr other ↦ elim (cases_eq j m) [
          | inl is_m ↦ let feeds_m : Feeds first i m = subst (Feeds first i) is_m feeds in absurd (other (same_Some i x (sym feeds_m ∙ here)))
          | inr below ↦ rw get_or-set_other (was.moved i j (omega arith) feeds)
        ]
      ];
      stays = λ i none. elim (cases_eq i x) [
        | inl same ↦ absurd (none m (omega arith) (subst (λ y. Feeds first y m) (sym same) here))
        | inr other ↦ rw get_or-set_other (was.stays i (λ j j_in feeds. none j (omega arith) feeds))
      ];
    }

-- a pointer that is moved to a port leaves all at ports
pub stays-in : (n k place : ℕ) (places : List ℕ) → place < n → ((j : ℕ) → j < n → slice_index places j < n) → (j : ℕ) → j < n
    → slice_index (slice_set places k place) j < n
stays-in n k place places place_in all j j_in =
    elim (cases_eq j k) [
      | inl same ↦ elim (cases_lt k (length places)) [
        | inl there ↦ let at_k : slice_index (slice_set places k place) k < n = rw get_or-set_same place_in in
            subst (λ y. slice_index (slice_set places k place) y < n) (sym same) at_k
        | inr past ↦ let none : slice_index (slice_set places k place) j ≡ 0 =
            get_or_past (slice_set places k place) j 0 (omega (arith, length-set {A = ℕ})) in omega arith
      ]
      | inr other ↦ rw get_or-set_other (all j j_in)
    ]
