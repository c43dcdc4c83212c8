-- Counted slots: the cells that come where so many wait in each slot, and that they feed the slots at line rate.
use Rattle.std.proofs.Common.{◌≡◌, ◌≢◌, ℕ, zero, suc, ◌+◌, ◌-◌, ◌<◌, ◌≤◌, ◌↔◌, ◌∙◌, List, [], ◌∷◌, Some, All, take}
use Rattle.std.proofs.Common.{refl, ap, subst, add-one, inl, inr, arith}
use Rattle.std.specs.Prelude.{sum_by, slice_get}
use Rattle.std.specs.List.{range_with_len}
use Rattle.std.proofs.lemmas.Bool.{cases_lt}
use Rattle.std.proofs.lemmas.List.Sums.{sum_by-cons}
use Rattle.std.proofs.lemmas.List.Elements.{All-nil, All-cons}
use Rattle.std_lemmas.proofs.Sums.{sum_by-same, range_sum-shift, range_sum-most}
use Rattle.rotating_pick.specs.declared.kinds.Kind.{Kind}
use Rattle.rotating_pick.specs.declared.kinds.Kind.TheVariants.{Uni}
use Rattle.slot_match.specs.Rows.{Names, row_of, AreWithin}
use Rattle.slot_match.specs.Matches.{fed_of}
use Rattle.eslip_rounds.specs.Schedules.{DecidedSlot}
use Rattle.scheduler_laws.specs.FedSlots.{Traffic, came, IsAtLineRate, taken_by, gone, waiting, AreFed}
use Rattle.scheduler_laws.specs.Counts.{Counts, left_after, AreCounted}

-- how many cells come in slot t of these, where so many are left before the first
abbrev arrivals : Counts → List DecidedSlot → List Counts → Traffic
arrivals left [] counts i j t = 0
arrivals left (slot ∷ slots) [] i j t = 0
arrivals left (slot ∷ slots) (waits ∷ counts) i j zero = waits i j - left i j
arrivals left (slot ∷ slots) (waits ∷ counts) i j (suc t) = arrivals (left_after slot waits) slots counts i j t

-- ---- at line rate
-- terms of which at most one is one, and the others none
at_most_one : (n a : ℕ) (f : ℕ → ℕ) → ((j : ℕ) → f j ≤ 1) → ((j k : ℕ) → 0 < f j → 0 < f k → j ≡ k) → sum_by f (range_with_len a n) ≤ 1
at_most_one zero a f small once = omega arith
at_most_one (suc n) a f small once = elim (cases_lt 0 (f a)) [
  | inl some ↦
      let most = range_sum-most f a (λ j other. none j other some) a (suc n) in
      let one = small a in
      omega arith
  | inr none ↦ let rest = at_most_one n (a + 1) f small once in omega (arith, sum_by-cons f a (range_with_len (a + 1) n))
] where
  none : (j : ℕ) → j ≢ a → 0 < f a → f j ≡ 0
  none j other some = elim (cases_lt 0 (f j)) [ inl more ↦ absurd (other (once j a more some)) | inr is ↦ omega arith ]

-- no term is any
no_sum : (n : ℕ) → sum_by (λ (j : ℕ). 0) (range_with_len 0 n) ≤ 1
no_sum n = at_most_one n 0 (λ j. 0) (λ j. omega arith) (λ j k some other. absurd (omega arith))

-- at most one cell comes to an input in a slot
come_once : (n : ℕ) (left : Counts) (slots : List DecidedSlot) (counts : List Counts) → AreCounted n left slots counts
    → IsAtLineRate n (arrivals left slots counts)
come_once n left [] counts are i t i_in = no_sum n
come_once n left (slot ∷ slots) [] are i t i_in = absurd are
come_once n left (slot ∷ slots) (waits ∷ counts) are i zero i_in =
    let now = are.0 in
    at_most_one n 0 (λ j. waits i j - left i j) (λ j. let one = now.one i j in omega arith)
    (λ j k some other. now.apart i j k (omega arith) (omega arith))
come_once n left (slot ∷ slots) (waits ∷ counts) are i (suc t) i_in = come_once n (left_after slot waits) slots counts are.1 i t i_in

-- ---- and they feed the slots
-- These slots ask for exactly the outputs for which cells wait, where so many are left before the first and this traffic comes.
abbrev IsFedFrom : ℕ → Counts → Traffic → List DecidedSlot → Type 0
IsFedFrom n left traffic slots =
    (t i j level : ℕ) (kind : Kind) (slot : DecidedSlot) → slice_get slots t ≡ Some slot → i < n → j < n
    → Names (row_of slot.rows i) level kind j ↔ ((level ≡ 0) × (kind ≡ Uni) × (gone slots i j t < left i j + came traffic i j (suc t)))

-- the sum of the first terms, of which all but the first are those of g
came_next : (f g : ℕ → ℕ) (k : ℕ) → ((t : ℕ) → f (suc t) ≡ g t) → sum_by f (range_with_len 0 (suc k)) ≡ f 0 + sum_by g (range_with_len 0 k)
came_next f g k same =
    sum_by-cons f 0 (range_with_len (0 + 1) k)
    ∙ ap (λ s. f 0 + s) (range_sum-shift 0 k f ∙ sum_by-same (λ i. f (i + 1)) g (range_with_len 0 k) (λ i. ap f (add-one i) ∙ same i))

-- so many of the cells leave in the first slot, and so many in the others
gone_next : (slot : DecidedSlot) (slots : List DecidedSlot) (i j t : ℕ)
    → gone (slot ∷ slots) i j (suc t) ≡ taken_by i (fed_of slot.decision.matched j) + gone slots i j t
gone_next slot slots i j t = sum_by-cons (λ slot. taken_by i (fed_of slot.decision.matched j)) slot (take t slots)

-- the slots are fed
fed_from : (n : ℕ) (left : Counts) (slots : List DecidedSlot) (counts : List Counts) → AreCounted n left slots counts
    → IsFedFrom n left (arrivals left slots counts) slots
fed_from n left [] counts are t i j level kind slot is i_in j_in = absurd (cc)
fed_from n left (here ∷ slots) [] are t i j level kind slot is i_in j_in = absurd are
fed_from n left (here ∷ slots) (waits ∷ counts) are zero i j level kind slot is i_in j_in =
    let now = are.0 in
    let stay = now.stay i j in
    let all = now.asks i j level kind i_in j_in in
    let come_is : came (arrivals left (here ∷ slots) (waits ∷ counts)) i j 1 ≡ waits i j - left i j + 0 =
    came_next (arrivals left (here ∷ slots) (waits ∷ counts) i j) (arrivals (left_after here waits) slots counts i j) 0 (λ t. refl) in
    let same : here ≡ slot = cc in
    subst (λ s. Names (row_of s.rows i) level kind j
    ↔ ((level ≡ 0) × (kind ≡ Uni) × (0 < left i j + came (arrivals left (here ∷ slots) (waits ∷ counts)) i j 1))) same (
      λ named. let some = (all.0 named).2 in ((all.0 named).0, (all.0 named).1, omega arith),
      λ asked. let some = asked.2 in all.1 (asked.0, asked.1, omega arith),
    )
fed_from n left (here ∷ slots) (waits ∷ counts) are (suc t) i j level kind slot is i_in j_in =
    let now = are.0 in
    let stay = now.stay i j in
    let taken = now.taken i j in
    let come_is : came (arrivals left (here ∷ slots) (waits ∷ counts)) i j (suc (suc t))
    ≡ waits i j - left i j + came (arrivals (left_after here waits) slots counts) i j (suc t) =
    came_next (arrivals left (here ∷ slots) (waits ∷ counts) i j) (arrivals (left_after here waits) slots counts i j) (suc t) (λ t. refl) in
    let gone_is = gone_next here slots i j t in
    let all = fed_from n (left_after here waits) slots counts are.1 t i j level kind slot is i_in j_in in (
      λ named. let some = (all.0 named).2 in ((all.0 named).0, (all.0 named).1, omega arith),
      λ asked. let some = asked.2 in all.1 (asked.0, asked.1, omega arith),
    )

-- their rows name only ports of the switch
all_within : (n : ℕ) (left : Counts) (slots : List DecidedSlot) (counts : List Counts) → AreCounted n left slots counts
    → All (λ slot. AreWithin n slot.rows) slots
all_within n left [] counts are = All-nil (λ slot. AreWithin n slot.rows)
all_within n left (slot ∷ slots) [] are = absurd are
all_within n left (slot ∷ slots) (waits ∷ counts) are =
    All-cons (λ slot. AreWithin n slot.rows) slot slots are.0.within (all_within n (left_after slot waits) slots counts are.1)

-- where cells can be counted so, there are cells that come so
pub counts_are_fed : (n : ℕ) (slots : List DecidedSlot) (counts : List Counts) → AreCounted n (λ i j. 0) slots counts
    → (traffic : Traffic) × IsAtLineRate n traffic × AreFed n traffic slots
counts_are_fed n slots counts are = (
  arrivals (λ i j. 0) slots counts,
  come_once n (λ i j. 0) slots counts are,
  record { within = all_within n (λ i j. 0) slots counts are; asks = asks },
) where
  asks : (t i j level : ℕ) (kind : Kind) (slot : DecidedSlot) → slice_get slots t ≡ Some slot → i < n → j < n
      → Names (row_of slot.rows i) level kind j ↔ ((level ≡ 0) × (kind ≡ Uni) × (0 < waiting (arrivals (λ i j. 0) slots counts) slots i j t))
  asks t i j level kind slot is i_in j_in =
      let all = fed_from n (λ i j. 0) slots counts are t i j level kind slot is i_in j_in in
      let one : came (arrivals (λ i j. 0) slots counts) i j (t + 1) ≡ came (arrivals (λ i j. 0) slots counts) i j (suc t) =
      ap (came (arrivals (λ i j. 0) slots counts) i j) (add-one t) in (
        λ named. let some = (all.0 named).2 in ((all.0 named).0, (all.0 named).1, omega arith),
        λ asked. let some = asked.2 in all.1 (asked.0, asked.1, omega arith),
      )
