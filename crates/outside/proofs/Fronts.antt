-- The bytes of a file that were read so far.
use Rattle.std.proofs.Common.{◌≡◌, ◌≤◌, ◌<◌, ◌+◌, ◌-◌, ℕ, List, ◌++◌, length, take, drop, Option, Some, None, refl, sym, ◌∙◌, ap, arith, length-append}
use Rattle.std.specs.Prelude.{IfSome, Result, is_ok, true, if◌then◌else◌}
use Rattle.std.proofs.Math.Seq.{take-add}
use Rattle.std.proofs.lemmas.List.{length-drop, length-take, take_all}
use Rattle.outside.specs.Contents.{Contents, GivesPiece}

-- The file's bytes begin with these, if it is there.
pub record IsFrontOf (file : Option (List ℕ)) (front : List ℕ) : Type 0 where
  pub within : (bytes : List ℕ) → file ≡ Some bytes → length front ≤ length bytes
  pub front_is : (bytes : List ℕ) → file ≡ Some bytes → front ≡ take (length front) bytes

same_bytes : (file : Option (List ℕ)) (a b : List ℕ) → file ≡ Some a → file ≡ Some b → a ≡ b
same_bytes file a b p q = cc

pub whole : (file : Option (List ℕ)) (out buf : List ℕ) (room : ℕ) → IsFrontOf file out → GivesPiece file (length out) room buf 0 → 0 < room → file ≡ Some out
whole file out buf room front piece some =
    let short : length piece.bytes ≤ length out = (piece.end some).0 refl in
    let e : out ≡ piece.bytes = front.front_is piece.bytes piece.there ∙ take_all (length out) piece.bytes short in
    piece.there ∙ ap Some (sym e)

pub wholes : (o : Option Contents) (name out buf : List ℕ) (room : ℕ) → IfSome o (λ c. IsFrontOf (c.file name) out)
    → IfSome o (λ c. GivesPiece (c.file name) (length out) room buf 0) → 0 < room → IfSome o (λ c. c.file name ≡ Some out)
wholes None name out buf room front piece some = tt
wholes (Some c) name out buf room front piece some = whole (c.file name) out buf room front piece some

-- a front, and a piece after it
longer_front : (out bytes more : List ℕ) (k : ℕ) → length out ≤ length bytes → out ≡ take (length out) bytes → k ≤ length (drop (length out) bytes)
    → more ≡ take k (drop (length out) bytes) → (length (out ++ more) ≤ length bytes) × (out ++ more ≡ take (length (out ++ more)) bytes)
longer_front out bytes more k within front_is k_within more_is =
    let n : length more ≡ k = omega (arith, ap length more_is, length-take k (drop (length out) bytes)) in
    let sum : length (out ++ more) ≡ length out + k = omega (arith, length-append out more) in
    let rest : length (drop (length out) bytes) ≡ length bytes - length out = length-drop (length out) bytes in
    (omega arith, rw sum (rw take-add (ap (λ x. x ++ more) front_is ∙ ap (λ x. take (length out) bytes ++ x) more_is)))

pub longer : (file : Option (List ℕ)) (out buf : List ℕ) (room k : ℕ) → IsFrontOf file out → GivesPiece file (length out) room buf k
    → IsFrontOf file (out ++ take k buf)
longer file out buf room k front piece =
    let both : (bytes : List ℕ) → file ≡ Some bytes → (length (out ++ take k buf) ≤ length bytes)
    × (out ++ take k buf ≡ take (length (out ++ take k buf)) bytes) = λ bytes there.
    let e : piece.bytes ≡ bytes = same_bytes file _ _ piece.there there in
    longer_front out bytes (take k buf) k (front.within bytes there) (front.front_is bytes there) (rw (← e) piece.within) (rw (← e) piece.same) in
    record { within = λ bytes there. (both bytes there).0; front_is = λ bytes there. (both bytes there).1 }

pub longers : (o : Option Contents) (name out buf : List ℕ) (room k : ℕ) → IfSome o (λ c. IsFrontOf (c.file name) out)
    → IfSome o (λ c. GivesPiece (c.file name) (length out) room buf k) → IfSome o (λ c. IsFrontOf (c.file name) (out ++ take k buf))
longers None name out buf room k front piece = tt
longers (Some c) name out buf room k front piece = longer (c.file name) out buf room k front piece

-- what an append left, where it did not fail
pub appended : {T E : Type 0} → (r : Result T E) (new old more : List ℕ) → new ≡ (if is_ok r then old ++ more else old) → is_ok r ≡ true → new ≡ old ++ more
appended r new old more e ok = rw ok at e
