-- What ports pick one after the other.
use Rattle.std.proofs.Common.{◌≡◌, ◌≢◌, ◌∙◌, ◌+◌, ◌<◌, ℕ, zero, suc, add-one, List, [], ◌∷◌, Option, None, Some, length, slice_get, slice_index, slice_set, IfSome}
use Rattle.std.proofs.Common.{refl, ap, subst, sym, arith, inl, inr, get_or-set_same, get_or-set_other}
use Rattle.std.proofs.lemmas.Bool.{cases_eq}
use Rattle.rand_xoshiro.specs.SplitMix64.{mix_u64}
use Rattle.rotating_pick.specs.PortSets.{Has}
use Rattle.random_picks.specs.Picks.{drawn, pick_of, picked, stream_before}
use Rattle.random_picks.specs.PickSteps.{AreMembers, pick_at}

pub pick-some : (ports : List ℕ) (stream : ℕ) → ports ≢ [] → pick_of ports stream ≡ record { port = drawn (mix_u64 stream).0 ports; stream = (mix_u64 stream).1 }
pick-some [] stream some = absurd (some refl)
pick-some (x ∷ xs) stream some = refl

-- what is picked is one of the ports
pub picked-from : (ports : List ℕ) (stream x : ℕ) → (pick_of ports stream).port ≡ Some x → (k : ℕ) × (slice_get ports k ≡ Some x)
picked-from [] stream x is = absurd (no is)
  where
    no : ◌≡◌ {A = Option ℕ} None (Some x) → ⊥
    no h = cc
picked-from (p ∷ ps) stream x is = (_, is)

pub stream-next : (choices : ℕ → List ℕ) (stream k : ℕ) → stream_before choices stream (k + 1) ≡ (pick_of (choices k) (stream_before choices stream k)).stream
unfolding stream_before
stream-next choices stream k = rw add-one refl

pub stream-first : (choices : ℕ → List ℕ) (stream : ℕ) → stream_before choices stream 0 ≡ stream
unfolding stream_before
stream-first choices stream = refl

-- the same ports are picked of by the same words
pub stream-same : (f g : ℕ → List ℕ) (s t n : ℕ) → s ≡ t → ((k : ℕ) → k < n → f k ≡ g k) → stream_before f s n ≡ stream_before g t n
unfolding stream_before
stream-same f g s t zero begin same = begin
stream-same f g s t (suc n) begin same =
    let before = stream-same f g s t n begin (λ k below. same k (omega (arith, below))) in
    let here = same n (omega arith) in
    λ i. (pick_of (here i) (before i)).stream

pub picked-same : (f g : ℕ → List ℕ) (s t n : ℕ) → s ≡ t → ((k : ℕ) → k < n → f k ≡ g k) → (k : ℕ) → k < n → picked f s k ≡ picked g t k
picked-same f g s t n begin same k below =
    let before = stream-same f g s t k begin (λ m less. same m (omega (arith, less, below))) in
    let here = same k below in
    λ i. (pick_of (here i) (before i)).port

-- one port more has picked
pub AreMembers-next : (m : ℕ) (sets : List ℕ) (table : List (Option ℕ)) (o : Option ℕ) → m < length table → IfSome o (Has (slice_index sets m))
    → AreMembers m sets table → AreMembers (m + 1) sets (slice_set table m o)
AreMembers-next m sets table o inside member known k x is = elim (cases_eq k m) [
  | inl same ↦
      let here : o ≡ Some x = sym (get_or-set_same table m o None inside) ∙ (ap (λ (j : ℕ). pick_at (slice_set table m o) j) (sym same) ∙ is) in
      let has : Has (slice_index sets m) x = subst (λ (o : Option ℕ). IfSome o (Has (slice_index sets m))) here member in
      (omega (arith, same), subst (λ (j : ℕ). Has (slice_index sets j) x) (sym same) has)
  | inr other ↦
      let p = known k x (sym (get_or-set_other table m k o None other) ∙ is) in
      (omega (arith, p.0), p.1)
]
