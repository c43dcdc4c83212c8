-- Tables of counts, where one number more comes.
use Rattle.std.proofs.Common.{◌≡◌, ◌≢◌, ◌∙◌, inl, inr, ℕ, ◌+◌, ◌*◌, ◌<◌, ◌≤◌, ◌^◌, ◌==◌}
use Rattle.std.proofs.Common.{List, [], ◌∷◌, ◌++◌, length, map, ap, sym, subst, refl, arith, slice_index}
use Rattle.std.proofs.Common.{slice_set, get_or-set_other, get_or-set_same, length-append, length-set}
use Rattle.std.specs.Prelude.{count_by, sum_by, if◌then◌else◌, cond}
use Rattle.std.proofs.lemmas.Bool.{cases_eq}
use Rattle.std.proofs.lemmas.List.{length-map, map-append}
use Rattle.std.proofs.lemmas.List.Elements.{All-push}
use Rattle.std.proofs.lemmas.List.Sums.{count_by-le-length, sum_by-append, sum_by-le}
use Rattle.simulated_slots.specs.TableSteps.{BatchDelay, BatchTable, CountTable, HasBatched, HasCounted}

-- an entry that grows by what comes to it, and the others, which stay
pub grown :
    (sums : List ℕ) (at more : ℕ) (old new : ℕ → ℕ) → at < length sums → ((k : ℕ) → k < length sums → slice_index sums k ≡ old k)
    → new at ≡ old at + more → ((k : ℕ) → k ≢ at → new k ≡ old k)
    → (k : ℕ) → k < length (slice_set sums at (slice_index sums at + more)) → slice_index (slice_set sums at (slice_index sums at + more)) k ≡ new k
grown sums at more old new room are own others k below =
    elim (cases_eq k at) [
      | inl is ↦ subst (λ j. slice_index (slice_set sums at (slice_index sums at + more)) j ≡ new j) (sym is)
          (get_or-set_same sums at (slice_index sums at + more) 0 room ∙ (ap (λ n. n + more) (are at room) ∙ sym own))
      | inr ne ↦ get_or-set_other sums at k (slice_index sums at + more) 0 ne
          ∙ (are k (subst (λ n. k < n) (length-set sums at (slice_index sums at + more)) below) ∙ sym (others k ne))
    ]

-- how many numbers are k, with one more
abbrev pub times : ℕ → List ℕ → ℕ
times k numbers = count_by (λ number. number == k) numbers

same_time : (number k : ℕ) → number ≡ k → times k (number ∷ []) ≡ 1
same_time number k is = subst (λ j. times j (number ∷ []) ≡ 1) is (grind arith)

other_time : (number k : ℕ) → k ≢ number → times k (number ∷ []) ≡ 0
other_time number k ne = grind arith

times-more : (k : ℕ) (numbers : List ℕ) (number : ℕ) → times k (numbers ++ number ∷ []) ≡ times k numbers + times k (number ∷ [])
times-more k numbers number = sum_by-append (λ (x : ℕ). cond (x == k) 1 0) numbers (number ∷ [])

-- a table that has counted one number more
pub HasCounted-more : (table : CountTable) (numbers : List ℕ) (number : ℕ) → number < length table.counts → HasCounted table numbers
    → HasCounted (record { counts = slice_set table.counts number (slice_index table.counts number + 1); total = table.total + 1 }) (numbers ++ number ∷ [])
HasCounted-more table numbers number room has = record {
  total = ap (λ n. n + 1) has.total ∙ sym (length-append numbers (number ∷ []));
  counts = grown table.counts number 1 (λ k. times k numbers) (λ k. times k (numbers ++ number ∷ [])) room has.counts
      (times-more number numbers number ∙ ap (λ n. times number numbers + n) (same_time number number refl))
      (λ k ne. times-more k numbers number ∙ (ap (λ n. times k numbers + n) (other_time number k ne) ∙ grind arith));
}

-- the same, by the entry as it was read
pub HasCounted-next : (table : CountTable) (numbers : List ℕ) (number entry : ℕ) → number < length table.counts → entry ≡ slice_index table.counts number
    → HasCounted table numbers
    → HasCounted (record { counts = slice_set table.counts number (entry + 1); total = table.total + 1 }) (numbers ++ number ∷ [])
HasCounted-next table numbers number entry room is has =
    subst (λ (n : ℕ). HasCounted (record { counts = slice_set table.counts number (n + 1); total = table.total + 1 }) (numbers ++ number ∷ [])) (sym is)
    (HasCounted-more table numbers number room has)

-- no entry is greater than the total
pub count-below : (table : CountTable) (numbers : List ℕ) → HasCounted table numbers → (k : ℕ) → k < length table.counts
    → slice_index table.counts k ≤ table.total
count-below table numbers has k room =
    let few = count_by-le-length (λ number. number == k) numbers in
    omega (arith, few, has.total, has.counts k room)

-- the sum of the delays of batch k
abbrev pub delays_in : ℕ → List BatchDelay → ℕ
delays_in k noted = sum_by (λ d. if d.batch == k then d.delay else 0) noted

own_batch : (d : BatchDelay) (k : ℕ) → d.batch ≡ k → delays_in k (d ∷ []) ≡ d.delay
own_batch d k is = subst (λ j. delays_in j (d ∷ []) ≡ d.delay) is (grind arith)

other_batch : (d : BatchDelay) (k : ℕ) → k ≢ d.batch → delays_in k (d ∷ []) ≡ 0
other_batch d k ne = grind arith

delays_in-more : (k : ℕ) (noted : List BatchDelay) (d : BatchDelay) → delays_in k (noted ++ d ∷ []) ≡ delays_in k noted + delays_in k (d ∷ [])
delays_in-more k noted d = sum_by-append (λ (d : BatchDelay). if d.batch == k then d.delay else 0) noted (d ∷ [])

-- a table that has counted one delay more, by the sum as it was read
pub HasBatched-next : (table : BatchTable) (departed : CountTable) (noted : List BatchDelay) (d : BatchDelay) (entry : ℕ) → d.batch < length table.delays
    → entry ≡ slice_index table.delays d.batch → d.delay < 2 ^ 32 → HasBatched table noted
    → ((numbers : List ℕ) → HasCounted table.departed numbers → HasCounted departed (numbers ++ d.batch ∷ []))
    → HasBatched (record { departed = departed; delays = slice_set table.delays d.batch (entry + d.delay) }) (noted ++ d ∷ [])
HasBatched-next table departed noted d entry room is small has counted = record {
  departed = subst (HasCounted departed) (sym (map-append (λ (d : BatchDelay). d.batch) noted (d ∷ [])))
      (counted (map (λ (d : BatchDelay). d.batch) noted) has.departed);
  delays = subst (λ (n : ℕ). (k : ℕ) → k < length (slice_set table.delays d.batch (n + d.delay))
      → slice_index (slice_set table.delays d.batch (n + d.delay)) k ≡ delays_in k (noted ++ d ∷ [])) (sym is)
      (grown table.delays d.batch d.delay (λ k. delays_in k noted) (λ k. delays_in k (noted ++ d ∷ [])) room has.delays
      (delays_in-more d.batch noted d ∙ ap (λ n. delays_in d.batch noted + n) (own_batch d d.batch refl))
      (λ k ne. delays_in-more k noted d ∙ (ap (λ n. delays_in k noted + n) (other_batch d k ne) ∙ grind arith)));
  small = All-push (λ (x : BatchDelay). x.delay < 2 ^ 32) noted d has.small small;
}

part_below : (k : ℕ) (d : BatchDelay) → d.delay < 2 ^ 32 → (if d.batch == k then d.delay else 0) ≤ 2 ^ 32
part_below k d small = grind arith

-- no sum is so great that 128 bits do not have it
pub delays-below : (table : BatchTable) (noted : List BatchDelay) → HasBatched table noted → (k : ℕ) → k < length table.delays
    → slice_index table.delays k ≤ table.departed.total * 2 ^ 32
delays-below table noted has k room =
    let most = sum_by-le (λ (d : BatchDelay). if d.batch == k then d.delay else 0) (2 ^ 32) noted (λ i d inside. part_below k _ (has.small i d inside)) in
    let same : length (map (λ (d : BatchDelay). d.batch) noted) ≡ length noted = length-map noted (λ (d : BatchDelay). d.batch) in
    let total = has.departed.total ∙ same in
    subst (λ (n : ℕ). n ≤ table.departed.total * 2 ^ 32) (sym (has.delays k room)) (subst (λ (n : ℕ). delays_in k noted ≤ n * 2 ^ 32) (sym total) most)
