-- Messages that become records where they stand, one after the other.
use Rattle.std.proofs.Common.{◌≡◌, ◌∙◌, ℕ, zero, suc, ◌+◌, ◌-◌, ◌<◌, ◌≤◌, Bool, List, [], ◌∷◌, ◌++◌, length, get_or, map, take, drop, sum, refl, sym, ap}
use Rattle.std.proofs.Common.{arith, append_assoc}
use Rattle.std.specs.List.{concat, flat_map}
use Rattle.std.proofs.lemmas.List.{append-nil, length-append, length-map, length-take-le, take_at, drop_at, drop-drop, take_more, get_or-map}
use Rattle.std.proofs.lemmas.List.Concat.{flat_map-append}
use Rattle.std.proofs.lemmas.List.Sums.{sum_by-cons}
use Rattle.pcap_records.specs.declared.order.Order.TheVariants.{Little}
use Rattle.pcap_records.specs.Format.{number_bytes}
use Rattle.pcap_records.specs.Output.{record_text}
use Rattle.pcap_records.proofs.Filling.{IsFilled, number_more, put_at}
use borrow.Rule.Slice.PartMut.{put_mid}

-- the part of joined messages that is message k
part_at : (ms : List (List ℕ)) (k : ℕ) → k < length ms → take (length (get_or ms k [])) (drop (sum (take k (map length ms))) (concat ms)) ≡ get_or ms k []
part_at [] k inside = absurd (omega arith)
part_at (m ∷ ms) zero inside = take_at m (concat ms) (length m) refl
part_at (m ∷ ms) (suc k) inside =
    let s = sum (take k (map length ms)) in
    let sums : sum (length m ∷ take k (map length ms)) ≡ length m + s = sum_by-cons (λ x. x) (length m) (take k (map length ms)) in
    let rest : drop (length m + s) (m ++ concat ms) ≡ drop s (concat ms) = sym (drop-drop s (length m) (m ++ concat ms))
    ∙ ap (drop s) (drop_at m (concat ms) (length m) refl) in
    ap (λ n. take (length (get_or ms k [])) (drop n (m ++ concat ms))) sums
    ∙ (ap (take (length (get_or ms k []))) rest ∙ part_at ms k (omega arith))

-- a part of a buffer, from a place to another, became this text
pub record IsTurned (old new text : List ℕ) (start to : ℕ) : Type 0 where
  pub room : start ≤ length old
  pub end : start + length text ≡ to
  pub whole : new ≡ take start old ++ (text ++ drop to old)

-- then the buffer up to there ends in the text, and what follows is as it was
pub parts_of : (old new text : List ℕ) (start to : ℕ) → IsTurned old new text start to → (take to new ≡ take start old ++ text) × (drop to new ≡ drop to old)
parts_of old new text start to turned =
    let front = take start old ++ text in
    let size : length front ≡ to = length-append (take start old) text
    ∙ (let first = length-take-le start old turned.room in let end = turned.end in omega arith) in
    let spelled : new ≡ front ++ drop to old = turned.whole ∙ sym (append_assoc (take start old) text (drop to old)) in
    (ap (take to) spelled ∙ take_at front (drop to old) to size, ap (drop to) spelled ∙ drop_at front (drop to old) to size)

module _ (nano : Bool) (body lens : List ℕ) (ms : List (List ℕ)) (whole : body ≡ concat ms) (are : lens ≡ map length ms) where
  long : length lens ≡ length ms
  long = ap length are ∙ length-map ms length

  message_at : (k start : ℕ) → k < length lens → start ≡ sum (take k lens) → take (get_or lens k 0) (drop start body) ≡ get_or ms k []
  message_at k start inside is =
      let within : k < length ms = omega (arith, long) in
      let len : get_or lens k 0 ≡ length (get_or ms k []) = ap (λ xs. get_or xs k 0) are ∙ get_or-map length ms k [] 0 within in
      let begins : start ≡ sum (take k (map length ms)) = is ∙ ap (λ xs. sum (take k xs)) are in
      ap (λ n. take n (drop start body)) len
      ∙ (ap (λ n. take (length (get_or ms k [])) (drop n body)) begins
      ∙ (ap (λ xs. take (length (get_or ms k [])) (drop (sum (take k (map length ms))) xs)) whole ∙ part_at ms k within))

  -- what a message that becomes its record makes of the part that has become records
  pub records_more : (old new : List ℕ) (k start to : ℕ) → k < length lens → start ≡ sum (take k lens)
      → IsTurned old new (record_text nano (take (get_or lens k 0) (drop start body))) start to → take start old ≡ flat_map (record_text nano) (take k ms)
      → take to new ≡ flat_map (record_text nano) (take (k + 1) ms)
  records_more old new k start to inside begins turned so_far =
      let text = record_text nano (take (get_or lens k 0) (drop start body)) in
      let records = λ (xs : List (List ℕ)). flat_map (record_text nano) xs in
      let more : records (take k ms) ++ text ≡ records (take (k + 1) ms) =
      ap (λ x. records (take k ms) ++ record_text nano x) (message_at k start inside begins)
      ∙ (ap (λ xs. records (take k ms) ++ xs) (sym (append-nil (record_text nano (get_or ms k []))))
      ∙ (sym (flat_map-append (record_text nano) (take k ms) (get_or ms k [] ∷ [])) ∙ ap records (sym (take_more ms k [] (omega (arith, long)))))) in
      (parts_of old new text start to turned).0 ∙ (ap (λ xs. xs ++ text) so_far ∙ more)

-- ---- a message that becomes its record
-- a number of four bytes, written at a place
pub number_put : (old written now new : List ℕ) (at n : ℕ) → IsFilled old written at now
    → new ≡ number_bytes Little 4 n ++ drop 4 (take (length now - at) (drop at now))
    → IsFilled old (written ++ number_bytes Little 4 n) (at + 4) (put_mid at (length now - at) now new)
number_put old written now new at n filled e =
    number_more old written now (put_mid at (length now - at) now new) at 4 n filled (put_at at 4 now new (number_bytes Little 4 n) e)
