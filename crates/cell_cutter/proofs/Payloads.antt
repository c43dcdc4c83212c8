-- The payload of a cell, by the blocks in which it is written.
use Rattle.std.proofs.Common.{◌≡◌, ℕ, ◌+◌, ◌-◌, ◌*◌, ◌<◌, ◌≤◌, List, ◌++◌, length, take, drop, min, replicate, refl, arith, sym, ap, ◌∙◌, append_assoc}
use Rattle.std.proofs.Common.{length-append, length-take, length-drop}
use Rattle.std.proofs.lemmas.List.{drop-replicate, take_min, drop-drop, drop_at, take_at, length-replicate}
use Rattle.std.proofs.Math.Seq.{take-append-add}
use borrow.Rule.Slice.PartMut.{put_mid}
use Rattle.cell_cutter.specs.Messages.{message_header, message}
use Rattle.cell_cutter.specs.Cells.{part, padded}

pub length-message_header : (seconds nanos captured original : ℕ) → length (message_header seconds nanos captured original) ≡ 16
unfolding message_header
length-message_header seconds nanos captured original = refl

pub length-message : (seconds nanos original : ℕ) (bytes : List ℕ) → length (message seconds nanos original bytes) ≡ 16 + length bytes
length-message seconds nanos original bytes =
    length-append (message_header seconds nanos (length bytes) original) bytes
    ∙ ap (λ n. n + length bytes) (length-message_header seconds nanos (length bytes) original)

-- zeros stand after bytes that were written over the front of zeros
pub padded_after : (bytes : List ℕ) → length bytes ≤ 56 → bytes ++ drop (length bytes) (replicate 56 0) ≡ padded bytes
padded_after bytes h = ap (λ r. bytes ++ r) (drop-replicate (length bytes) 56 0)

-- bytes and then some others of a list, written after its front
put_after : (front zeros bytes : List ℕ) (n : ℕ) → length front ≡ 16 → put_mid 16 n (front ++ zeros) bytes ≡ front ++ (bytes ++ drop n zeros)
put_after front zeros bytes n fronts =
    ap (λ t. t ++ (bytes ++ drop n (drop 16 (front ++ zeros)))) (take_at front zeros 16 fronts)
    ∙ ap (λ d. front ++ (bytes ++ drop n d)) (drop_at front zeros 16 fronts)

-- zeros stand after bytes that were written after a front of 16
pub written_after : (front bytes : List ℕ) (count : ℕ) → length front ≡ 16 → length bytes ≡ count → count ≤ 40
    → put_mid 16 (16 + count - 16) (front ++ replicate 40 0) bytes ≡ padded (front ++ bytes)
written_after front bytes count fronts counts few =
    let left : 40 - (16 + count - 16) ≡ 56 - length (front ++ bytes) = omega (arith, length-append front bytes) in
    put_after front (replicate 40 0) bytes (16 + count - 16) fronts
    ∙ (ap (λ r. front ++ (bytes ++ r)) (drop-replicate (16 + count - 16) 40 0 ∙ ap (λ m. replicate m 0) left) ∙ sym (append_assoc front bytes _))

-- the first cell has the message's front
pub part-first : (front bytes : List ℕ) → length front ≡ 16 → part 0 (front ++ bytes) ≡ front ++ take 40 bytes
part-first front bytes h =
    let n : length front + 40 ≡ 56 = omega arith in
    ap (λ m. take m (front ++ bytes)) (sym n) ∙ take-append-add front bytes 40

-- a later cell has nothing of the front
pub part-later : (front bytes : List ℕ) (k : ℕ) → length front ≡ 16 → 0 < k → part k (front ++ bytes) ≡ take 56 (drop (56 * k - 16) bytes)
part-later front bytes k h some =
    let n : 16 + (56 * k - 16) ≡ 56 * k = omega arith in
    let e : drop (56 * k) (front ++ bytes) ≡ drop (56 * k - 16) bytes = ap (λ m. drop m (front ++ bytes)) (sym n)
    ∙ (sym (drop-drop (56 * k - 16) 16 (front ++ bytes)) ∙ ap (drop (56 * k - 16)) (drop_at front bytes 16 h)) in
    ap (take 56) e

-- as many bytes of a part as the message has for it
pub take_used : (bytes : List ℕ) (n used : ℕ) → used ≡ min n (length bytes) → take used bytes ≡ take n bytes
take_used bytes n used e = ap (λ m. take m bytes) e ∙ take_min n bytes

pub length-part : (k : ℕ) (message : List ℕ) → length (part k message) ≡ min 56 (length message - 56 * k)
length-part k message = length-take 56 (drop (56 * k) message) ∙ ap (min 56) (length-drop (56 * k) message)

pub length-padded : (bytes : List ℕ) → length bytes ≤ 56 → length (padded bytes) ≡ 56
length-padded bytes h =
    length-append bytes (replicate (56 - length bytes) 0) ∙ (ap (λ m. length bytes + m) (length-replicate (56 - length bytes) 0) ∙ omega arith)

pub take-padded : (bytes : List ℕ) → take (length bytes) (padded bytes) ≡ bytes
take-padded bytes = take_at bytes _ _ refl

pub drop-padded : (bytes : List ℕ) → drop (length bytes) (padded bytes) ≡ replicate (56 - length bytes) 0
drop-padded bytes = drop_at bytes _ _ refl
