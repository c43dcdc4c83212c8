-- The queues of one input at one level: their waits, and the longest of them.
use Rattle.std.proofs.Common.{◌≡◌, ◌≢◌, ℕ, ◌+◌, ◌-◌, ◌<◌, ◌↔◌, ◌∙◌, true, false, eqb, cond, max, List, length, slice_index, refl, ap, sym, inl, inr, arith}
use Rattle.std.specs.Int.{bit_at}
use Rattle.std.proofs.lemmas.Bool.{cases_eq}
use Rattle.std.proofs.lemmas.Bool.Decides.{eqb_tells}
use Rattle.std.proofs.lemmas.Nat.Bits.{bit_at-zero}
use Rattle.rotating_pick.specs.PortSets.{Has}
use Rattle.rotating_pick.proofs.Bits.{no_member-zero}
use Rattle.slot_match.proofs.Sets.{Has-or}
use Rattle.service_bound.specs.MeterSteps.{Queues, wait_at, longest_of, longest_at, HaveBegun, NotesSlot}
use Rattle.service_bound.proofs.Greatest.{greatest-within, greatest-has}

-- the test of a member, both ways
pub member-true : (ports x : ℕ) → Has ports x → eqb (bit_at ports x) 1 ≡ true
member-true ports x has = elim (eqb_tells (bit_at ports x) 1) [ inl p ↦ p.0 | inr p ↦ absurd (p.1 has) ]

pub member-false : (ports x : ℕ) → (Has ports x → ⊥) → eqb (bit_at ports x) 1 ≡ false
member-false ports x lacks = elim (eqb_tells (bit_at ports x) 1) [ inl p ↦ absurd (lacks p.1) | inr p ↦ p.0 ]

-- the wait of a queue that waits, and of one that does not
pub wait_at-waits : (queues : Queues) (count j : ℕ) → Has queues.waiting j → wait_at queues count j ≡ count - slice_index queues.began j
wait_at-waits queues count j waits = rw (member-true queues.waiting j waits) refl

pub wait_at-rests : (queues : Queues) (count j : ℕ) → (Has queues.waiting j → ⊥) → wait_at queues count j ≡ 0
wait_at-rests queues count j rests = rw (member-false queues.waiting j rests) refl

-- some queues, of which these wait
abbrev some_of : List ℕ → ℕ → Queues
some_of began outputs = record { waiting = outputs; began = began; ended = 0 }

-- ---- the longest of some waits
-- of none
pub longest_of-rests : (began : List ℕ) (outputs count : ℕ) → ((j : ℕ) → Has outputs j → ⊥) → longest_of began outputs count ≡ 0
longest_of-rests began outputs count none =
    let all = greatest-within (wait_at (some_of began outputs) count) (length began) 0
    (λ j below. let rests = wait_at-rests (some_of began outputs) count j (none j) in omega arith) in
    omega arith

pub longest_of-none : (began : List ℕ) (outputs count : ℕ) → outputs ≡ 0 → longest_of began outputs count ≡ 0
longest_of-none began outputs count none = longest_of-rests began outputs count
    (λ j has. let clear = bit_at-zero j in let set : bit_at 0 j ≡ 1 = ap (λ ports. bit_at ports j) (sym none) ∙ has in omega arith)

-- of some, one of which is taken out
pub longest_of-without : (began : List ℕ) (outputs rest x count : ℕ) → Has outputs x → x < length began → ((y : ℕ) → Has rest y ↔ ((y ≢ x) × Has outputs y))
    → max (count - slice_index began x) (longest_of began rest count) ≡ longest_of began outputs count
longest_of-without began outputs rest x count has inside members =
    let here = wait_at-waits (some_of began outputs) count x has in
    let up = greatest-within (wait_at (some_of began rest) count) (length began) (longest_of began outputs count)
    (λ j below. elim (Has-or rest j) [
      | inl waits ↦
          let one = wait_at-waits (some_of began rest) count j waits in
          let same = wait_at-waits (some_of began outputs) count j ((members j).0 waits).1 in
          let top = greatest-has (wait_at (some_of began outputs) count) (length began) j below in
          omega arith
      | inr rests ↦ let one = wait_at-rests (some_of began rest) count j rests in omega arith
    ]) in
    let down = greatest-within (wait_at (some_of began outputs) count) (length began) (max (count - slice_index began x) (longest_of began rest count))
    (λ j below. elim (Has-or outputs j) [
      | inr rests ↦ let one = wait_at-rests (some_of began outputs) count j rests in omega arith
      | inl waits ↦
          let one = wait_at-waits (some_of began outputs) count j waits in
          elim (cases_eq j x) [
            | inl same ↦ let e : slice_index began j ≡ slice_index began x = ap (slice_index began) same in omega arith
            | inr other ↦
                let also = wait_at-waits (some_of began rest) count j ((members j).1 (other, waits)) in
                let top = greatest-has (wait_at (some_of began rest) count) (length began) j below in
                omega arith
          ]
    ]) in
    let top = greatest-has (wait_at (some_of began outputs) count) (length began) x inside in
    omega arith

pub greater_of-without : (longest wait rest left all more : ℕ) → more ≡ max longest wait → max wait rest ≡ left → max longest left ≡ all → max more rest ≡ all
greater_of-without longest wait rest left all more e step before = omega arith

-- ---- one slot more, in which the queues to `outputs` wait: those that waited and are not among them have
-- ended, and those among them that did not wait begin
module _ (count outputs : ℕ) (old : Queues) (began : List ℕ) (ending beginning ended : ℕ)
    (ends : (j : ℕ) → Has ending j ↔ (Has old.waiting j × (Has outputs j → ⊥)))
    (begins : (j : ℕ) → Has beginning j ↔ (Has outputs j × (Has old.waiting j → ⊥))) (long : length began ≡ length old.began)
    (inside : (j : ℕ) → Has outputs j → j < length old.began) (begun : HaveBegun old.began old.waiting count)
    (now : (j : ℕ) → Has beginning j → slice_index began j ≡ count) (others : (j : ℕ) → (Has beginning j → ⊥) → slice_index began j ≡ slice_index old.began j)
    (longest : ended ≡ max old.ended (longest_of old.began ending count)) where
  abbrev made : Queues
  made = record { waiting = outputs; began = began; ended = ended }

  begun-on : HaveBegun began outputs (count + 1)
  begun-on j has = elim (Has-or old.waiting j) [
    | inl waits ↦ let b = begun j waits in let e = others j (λ h. ((begins j).0 h).1 waits) in (omega arith, omega arith)
    | inr rests ↦ let e = now j ((begins j).1 (has, rests)) in let below = inside j has in (omega arith, omega arith)
  ]

  wait-on : (j : ℕ) → wait_at made (count + 1) j ≡ cond (eqb (bit_at outputs j) 1) (wait_at old count j + 1) 0
  wait-on j = elim (Has-or outputs j) [
    | inr rests ↦ rw (member-false outputs j rests) refl
    | inl waits ↦ rw (member-true outputs j waits) (elim (Has-or old.waiting j) [
      | inl goes_on ↦
          let was = wait_at-waits old count j goes_on in
          let b = (begun j goes_on).1 in
          let e = others j (λ h. ((begins j).0 h).1 goes_on) in
          omega arith
      | inr rested ↦
          let was = wait_at-rests old count j rested in
          let e = now j ((begins j).1 (waits, rested)) in
          omega arith
    ])
  ]

  longest-on : longest_at made (count + 1) ≡ max (longest_at old count) (longest_of began outputs (count + 1))
  longest-on =
      let gone = greatest-within (wait_at (some_of old.began ending) count) (length old.began) (longest_of old.began old.waiting count)
      (λ j below. elim (Has-or ending j) [
        | inr rests ↦ let one = wait_at-rests (some_of old.began ending) count j rests in omega arith
        | inl stops ↦
            let one = wait_at-waits (some_of old.began ending) count j stops in
            let same = wait_at-waits (some_of old.began old.waiting) count j ((ends j).0 stops).0 in
            let top = greatest-has (wait_at (some_of old.began old.waiting) count) (length old.began) j below in
            omega arith
      ]) in
      let kept = greatest-within (wait_at (some_of old.began old.waiting) count) (length old.began)
      (max (longest_of old.began ending count) (longest_of began outputs (count + 1)))
      (λ j below. elim (Has-or old.waiting j) [
        | inr rests ↦ let one = wait_at-rests (some_of old.began old.waiting) count j rests in omega arith
        | inl waits ↦
            let one = wait_at-waits (some_of old.began old.waiting) count j waits in
            elim (Has-or outputs j) [
              | inl goes_on ↦
                  let e = others j (λ h. ((begins j).0 h).1 waits) in
                  let more = wait_at-waits (some_of began outputs) (count + 1) j goes_on in
                  let here : j < length began = omega arith in
                  let top = greatest-has (wait_at (some_of began outputs) (count + 1)) (length began) j here in
                  omega arith
              | inr stops ↦
                  let same = wait_at-waits (some_of old.began ending) count j ((ends j).1 (waits, stops)) in
                  let top = greatest-has (wait_at (some_of old.began ending) count) (length old.began) j below in
                  omega arith
            ]
      ]) in
      omega arith

  pub NotesSlot-on : NotesSlot count (λ j. eqb (bit_at outputs j) 1) old made
  NotesSlot-on = record { long = long; begun = begun-on; among = member-true outputs; waits = wait-on; longest = longest-on }

-- one slot more, in which the queues that waited wait on
pub NotesSlot-same : (count outputs : ℕ) (old : Queues) → outputs ≡ old.waiting → ((j : ℕ) → Has outputs j → j < length old.began)
    → HaveBegun old.began old.waiting count → NotesSlot count (λ j. eqb (bit_at outputs j) 1) old old
NotesSlot-same count outputs old same inside begun =
    let lacks : (j : ℕ) → Has 0 j → ⊥ = no_member-zero in
    let none : longest_of old.began 0 count ≡ 0 = longest_of-none old.began 0 count refl in
    rw same (NotesSlot-on count old.waiting old old.began 0 0 old.ended (λ j. (λ has. absurd (lacks j has), λ both. absurd (both.1 both.0)))
    (λ j. (λ has. absurd (lacks j has), λ both. absurd (both.1 both.0))) refl (rw same at inside) begun (λ j has. absurd (lacks j has)) (λ j lack. refl)
    (omega arith))
