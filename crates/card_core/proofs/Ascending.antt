-- A plan's packets, as far as they were looked at.
use Rattle.std.proofs.Common.{◌≡◌, ◌∙◌, ◌⊎◌, ℕ, zero, suc, ◌+◌, ◌<◌, ◌≤◌, List, length, Some, slice_get, slice_index_or, refl, sym, ap, subst}
use Rattle.std.proofs.Common.{arith, inl, inr}
use Rattle.std.proofs.lemmas.Bool.{cases_eq}
use Rattle.std.proofs.lemmas.Option.{slice_get_within, get_or_from_slice_get, slice_get-get_or}
use Rattle.card_core.specs.declared.plan.Planned.{Planned}
use Rattle.card_core.specs.Plans.{IsPlanned, AreRising}

at_or_below : (k i : ℕ) → k < i + 1 → (k ≡ i) ⊎ (k < i)
at_or_below k i below = elim (cases_eq k i) [ inl same ↦ inl same | inr other ↦ inr (omega arith) ]

-- the packets before place i are those of a plan
abbrev pub ArePlannedBefore : ℕ → ℕ → List Planned → ℕ → Type 0
ArePlannedBefore n bytes packets i = (k : ℕ) (p : Planned) → k < i → slice_get packets k ≡ Some p → IsPlanned n bytes p

pub planned_more : (n bytes : ℕ) (packets : List Planned) (i : ℕ) (d : Planned) → ArePlannedBefore n bytes packets i
    → IsPlanned n bytes (slice_index_or packets i d) → ArePlannedBefore n bytes packets (i + 1)
planned_more n bytes packets i d before here k p below is = elim (at_or_below k i below) [
  | inl same ↦ subst (IsPlanned n bytes) (get_or_from_slice_get packets i p d (ap (slice_get packets) (sym same) ∙ is)) here
  | inr less ↦ before k p less is
]

-- ---- the packets rise so far, and the next may arrive in this slot at the earliest
pub record RisesTo (packets : List Planned) (i least : ℕ) : Type 0 where
  pub start : i ≡ 0 → least ≡ 0
  pub last : (k : ℕ) (p : Planned) → k + 1 ≡ i → slice_get packets k ≡ Some p → least ≡ p.arrival + 1
  pub above : (k : ℕ) (p : Planned) → k < i → slice_get packets k ≡ Some p → p.arrival < least
  pub rising : (k j : ℕ) (p r : Planned) → j < i → slice_get packets k ≡ Some p → slice_get packets j ≡ Some r → k < j → p.arrival < r.arrival

pub rises_none : (packets : List Planned) → RisesTo packets 0 0
rises_none packets = record {
  start = λ _. refl;
  last = λ k p at there. absurd (omega arith);
  above = λ k p less there. absurd (omega arith);
  rising = λ k j p r less a b before. absurd (omega arith);
}

pub rises_more : (packets : List Planned) (i least : ℕ) (d : Planned) → RisesTo packets i least → least ≤ (slice_index_or packets i d).arrival
    → RisesTo packets (i + 1) ((slice_index_or packets i d).arrival + 1)
rises_more packets i least d so_far from =
    let at_i = λ (p : Planned) (is : slice_get packets i ≡ Some p). ap (λ (r : Planned). r.arrival) (get_or_from_slice_get packets i p d is) in
    record {
      start = λ none. absurd (omega arith);
      last = λ k p at there. let same : k ≡ i = omega arith in let e = at_i p (ap (slice_get packets) (sym same) ∙ there) in omega arith;
      above = λ k p less there. elim (at_or_below k i less) [
        | inl same ↦ let e = at_i p (ap (slice_get packets) (sym same) ∙ there) in omega arith
        | inr below ↦ let a = so_far.above k p below there in omega arith
      ];
      rising = λ k j p r less a b before. elim (at_or_below j i less) [
        | inl same ↦ let e = at_i r (ap (slice_get packets) (sym same) ∙ b) in let f = so_far.above k p (omega arith) a in omega arith
        | inr below ↦ so_far.rising k j p r below a b before
      ];
    }

pub rises_all : (packets : List Planned) (i least : ℕ) → length packets ≤ i → RisesTo packets i least → AreRising packets
rises_all packets i least all so_far k j p r a b before = so_far.rising k j p r (let l = slice_get_within packets j r b in omega arith) a b before

pub rises_not : (packets : List Planned) (i least : ℕ) (d : Planned) → RisesTo packets i least → i < length packets
    → (slice_index_or packets i d).arrival < least → AreRising packets → ⊥
rises_not packets zero least d so_far inside less rising = let z = so_far.start refl in omega arith
rises_not packets (suc i) least d so_far inside less rising =
    let here = slice_get-get_or packets (suc i) d inside in
    let before = slice_get-get_or packets i d (omega arith) in
    let e = so_far.last i (slice_index_or packets i d) (omega arith) before in
    let f = rising i (suc i) (slice_index_or packets i d) (slice_index_or packets (suc i) d) before here (omega arith) in
    omega arith
