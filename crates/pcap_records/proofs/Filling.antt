-- A buffer that is filled from the front, a field at a time.
use Rattle.std.proofs.Common.{◌≡◌, ℕ, ◌+◌, ◌-◌, ◌≤◌, List, [], ◌++◌, length, take, drop, sym, ap, ◌∙◌, append_assoc, arith, subst}
use Rattle.std.proofs.lemmas.List.{take_at, drop_at, drop-drop, drop_all, take_rest, take-append-drop, length-append, length-drop, length-take-le, append-nil}
use Rattle.pcap_records.specs.declared.order.Order.TheVariants.{Little}
use Rattle.pcap_records.specs.Format.{number_bytes}
use Rattle.pcap_records.proofs.Numbers.{length-number_bytes}
use borrow.Rule.Slice.PartMut.{put_mid}

-- a write at the front of the rest of a slice
pub put_at : (at n : ℕ) (old new bytes : List ℕ) → new ≡ bytes ++ drop n (take (length old - at) (drop at old))
    → put_mid at (length old - at) old new ≡ take at old ++ (bytes ++ drop (at + n) old)
put_at at n old new bytes e =
    let past : drop (length old - at) (drop at old) ≡ [] = drop_all (length old - at) (drop at old) (omega (arith, length-drop at old)) in
    let there : new ≡ bytes ++ drop (at + n) old = e ∙ ap (λ (w : List ℕ). bytes ++ drop n w) (take_rest old at)
    ∙ ap (λ (w : List ℕ). bytes ++ w) (drop-drop n at old) in
    ap (λ (w : List ℕ). take at old ++ (new ++ w)) past ∙ ap (λ (w : List ℕ). take at old ++ w) (append-nil new ∙ there)

-- what is written so far stands before a place, and from there on the buffer is as it was
pub record IsFilled (old written : List ℕ) (at : ℕ) (now : List ℕ) : Type 0 where
  pub spelled : now ≡ written ++ drop at old
  pub place : length written ≡ at

pub filled_none : (old : List ℕ) (at n : ℕ) → at + n ≤ length old → IsFilled old (take at old) at old
filled_none old at n room = record { spelled = sym (take-append-drop at old); place = length-take-le at old (omega arith) }

-- the same up to a place by another name
pub filled_to : (old written now : List ℕ) (at to : ℕ) → at ≡ to → IsFilled old written at now → IsFilled old written to now
filled_to old written now at to e filled = subst (λ n. IsFilled old written n now) e filled

pub filled_more : (old written now bytes next : List ℕ) (at : ℕ) → IsFilled old written at now
    → next ≡ take at now ++ (bytes ++ drop (at + length bytes) now) → IsFilled old (written ++ bytes) (at + length bytes) next
filled_more old written now bytes next at filled e =
    let n = length bytes in
    let front : take at now ≡ written = ap (take at) filled.spelled ∙ take_at written (drop at old) at filled.place in
    let rest : drop at now ≡ drop at old = ap (drop at) filled.spelled ∙ drop_at written (drop at old) at filled.place in
    let tail : drop (at + n) now ≡ drop (at + n) old = sym (drop-drop n at now) ∙ ap (drop n) rest ∙ drop-drop n at old in
    record {
      spelled = e ∙ ap (λ (w : List ℕ). w ++ (bytes ++ drop (at + n) now)) front ∙ ap (λ (w : List ℕ). written ++ (bytes ++ w)) tail
          ∙ sym (append_assoc written bytes (drop (at + n) old));
      place = length-append written bytes ∙ omega (arith, filled.place);
    }

-- a number, written at a place
pub number_more : (old written now next : List ℕ) (at size n : ℕ) → IsFilled old written at now
    → next ≡ take at now ++ (number_bytes Little size n ++ drop (at + size) now) → IsFilled old (written ++ number_bytes Little size n) (at + size) next
number_more old written now next at size n filled e =
    let bytes = number_bytes Little size n in
    subst (λ k. next ≡ take at now ++ (bytes ++ drop (at + k) now) → IsFilled old (written ++ bytes) (at + k) next) (length-number_bytes Little size n)
    (filled_more old written now bytes next at filled) e

-- what is written up to a place, after bytes that are put there
pub filled_up : (old written now bytes : List ℕ) (at to : ℕ) → IsFilled old written at now → at + length bytes ≡ to
    → put_mid at (to - at) now bytes ≡ (written ++ bytes) ++ drop to old
filled_up old written now bytes at to filled e =
    let next = put_mid at (to - at) now bytes in
    let rest : drop (to - at) (drop at now) ≡ drop (at + length bytes) now = drop-drop (to - at) at now ∙ ap (λ (n : ℕ). drop n now) (omega arith) in
    (filled_more old written now bytes next at filled (ap (λ (w : List ℕ). take at now ++ (bytes ++ w)) rest)).spelled
    ∙ ap (λ (n : ℕ). (written ++ bytes) ++ drop n old) e

-- where the bytes of a message after its header end
pub message_end : (at : ℕ) (m : List ℕ) → 16 ≤ length m → at + 16 + length (drop 16 m) ≡ at + length m
message_end at m long = omega (arith, length-drop 16 m)
