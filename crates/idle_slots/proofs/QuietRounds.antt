-- Rounds in which no input asks.
use Rattle.std.proofs.Common.{◌≡◌, ◌∙◌, ℕ, zero, suc, ◌-◌, Bool, true, false, List, ◌∷◌, Option, map, length, refl, sym, ap, subst}
use Rattle.std.proofs.Common.{inl, inr, arith, if◌then◌else◌}
use Rattle.std.specs.Prelude.{◌==◌, replicate, slice_index, slice_index_or}
use Rattle.std.proofs.lemmas.Bool.{cases_lt}
use Rattle.std.proofs.lemmas.List.{get_or-replicate, get_or_past, length-replicate}
use Rattle.rotating_pick.specs.declared.kinds.Kind.{Kind}
use Rattle.rotating_pick.specs.declared.kinds.Kind.TheVariants.{Uni, Multi}
use Rattle.rotating_pick.proofs.Bits.{no_member-zero}
use Rattle.slot_match.specs.declared.matching.Fed.{Fed}
use Rattle.slot_match.specs.Rows.{Names, row_of, empty_row, no_row, AreWithin}
use Rattle.slot_match.specs.Matches.{unmatched}
use Rattle.slot_match.proofs.Kept.{IsMatch-unmatched}
use Rattle.pointer_state.specs.Places.{Places}
use Rattle.islip_rounds.specs.Numbers.{last_of, matched_count, added_from, rounds_used, numbers_of}
use Rattle.eslip_rounds.specs.Rounds.{Grants, Accepts, IsRound, AreRounds}
use Rattle.eslip_rounds.specs.Slots.{Moving, IsSlotBy}
use Rattle.eslip_rounds.proofs.Decided.{unmatched-count}
use Rattle.idle_slots.specs.Quiet.{empty_rows, no_rounds, nothing_decided}

-- ---- rows of which none names an output
no_sets : (level j : ℕ) (kind : Kind) → Names no_row level kind j → ⊥
no_sets level j Uni named = no_member-zero j named
no_sets level j Multi named = no_member-zero j named

zeros_at : (k level : ℕ) → slice_index (replicate k 0) level ≡ 0
zeros_at zero level = refl
zeros_at (suc k) zero = refl
zeros_at (suc k) (suc level) = zeros_at k level

pub none_named : (level j : ℕ) (kind : Kind) → Names empty_row level kind j → ⊥
none_named level j Uni named = no_member-zero j (rw (zeros_at 4 level) at named)
none_named level j Multi named = no_member-zero j (rw (zeros_at 4 level) at named)

pub none_asks : (n i level j : ℕ) (kind : Kind) → Names (row_of (empty_rows n) i) level kind j → ⊥
none_asks n i level j kind named =
    elim (cases_lt i n) [
      | inl below ↦ none_named level j kind (subst (λ row. Names row level kind j) (get_or-replicate n i empty_row no_row below) named)
      | inr above ↦
          let long = length-replicate n empty_row in
          no_sets level j kind (subst (λ row. Names row level kind j) (get_or_past (empty_rows n) i no_row (omega arith)) named)
    ]

pub AreWithin-empty : (n : ℕ) → AreWithin n (empty_rows n)
AreWithin-empty n = record {
  count = length-replicate n empty_row;
  ports = λ i below level j kind named. absurd (none_asks n i level j kind named);
  levels = λ i below level j kind named. absurd (none_asks n i level j kind named);
}

-- ---- the numbers of rounds that add nothing
pub last_same : {X : Type 0} (x : X) (k : ℕ) → last_of x (replicate k x) ≡ x
last_same x zero = refl
last_same x (suc k) = last_same x k

first_same : {X : Type 0} (x : X) (k : ℕ) → slice_index_or (replicate k x) 0 x ≡ x
first_same x zero = refl
first_same x (suc k) = refl

none_used : (k : ℕ) → rounds_used (replicate k 0) ≡ 0
none_used zero = refl
none_used (suc k) = none_used k

either : (b : Bool) (x : ℕ) → x ≡ 0 → (if b then x else 0) ≡ 0
either true x is = is
either false x is = refl

none_added : (matched : List (Option Fed)) (k : ℕ) → matched_count matched ≡ 0 → added_from 0 (map matched_count (replicate k matched)) ≡ replicate k 0
none_added matched zero none = refl
none_added matched (suc k) none =
    ap (λ count. (count - 0) ∷ added_from count (map matched_count (replicate k matched))) none
    ∙ ap (λ added. 0 ∷ added) (none_added matched k none)

numbers_none : (k : ℕ) → numbers_of (replicate k 0) ≡ no_rounds
numbers_none k =
    let used : rounds_used (replicate k 0) ≡ 0 = none_used k in
    let first : slice_index (replicate k 0) 0 ≡ 0 = zeros_at k 0 in
    let last = either (rounds_used (replicate k 0) == length (replicate k 0)) (last_of 0 (replicate k 0)) (last_same 0 k) in
    λ x. record { used = used x; first = first x; last_added = last x }

-- ---- rounds
module _ (n t : ℕ) (places : Places) where
  pub none_granted : (i j level : ℕ) (kind : Kind) → Grants n t (empty_rows n) places (unmatched n) i j level kind → ⊥
  none_granted i j level kind grant =
      elim grant.first.member [
        | inl asks ↦ none_asks n i level j kind asks.1.named
        | inr on ↦ none_asks n i level j Multi on.named
      ]

  none_accepted : (i j level : ℕ) (kind : Kind) → Accepts n t (empty_rows n) places (unmatched n) i j level kind → ⊥
  none_accepted i j level kind accepts = let there = accepts.best.there in none_granted i there.0 level kind there.1

  quiet_round : IsRound n t (empty_rows n) places (unmatched n) (unmatched n)
  quiet_round = record {
    count = (IsMatch-unmatched n).count;
    pairs = λ i j level kind. (
      λ serves. inl serves,
      λ either. elim either [ inl serves ↦ serves | inr accepts ↦ absurd (none_accepted i j level kind accepts) ],
    );
  }

  quiet_rounds : (k : ℕ) → AreRounds n t (empty_rows n) places (unmatched n) (replicate k (unmatched n))
  quiet_rounds zero = tt
  quiet_rounds (suc k) = (quiet_round, quiet_rounds k)

  -- a slot that matches nothing, where its pointers may stay
  pub quiet_slot : (Moves : Moving) (rounds : ℕ) → Moves n t (empty_rows n) (unmatched n) (unmatched n) places places
      → IsSlotBy Moves n rounds t (empty_rows n) places (nothing_decided n places)
  quiet_slot Moves rounds stay = record {
    steps = replicate rounds (unmatched n);
    count = length-replicate rounds (unmatched n);
    chain = quiet_rounds rounds;
    result = sym (last_same (unmatched n) rounds);
    numbered = sym (ap numbers_of (none_added (unmatched n) rounds (unmatched-count n)) ∙ numbers_none rounds);
    moved = subst (λ first. Moves n t (empty_rows n) first (unmatched n) places places) (sym (first_same (unmatched n) rounds)) stay;
  }
