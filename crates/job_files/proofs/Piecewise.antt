-- A text that is written piece by piece.
use Rattle.std.proofs.Common.{◌≡◌, ◌≤◌, ◌+◌, ◌-◌, ℕ, Bool, true, false, List, [], ◌++◌, length, take, drop, Option, Some, None}
use Rattle.std.proofs.Common.{refl, sym, ◌∙◌, ap, append_assoc, arith, length-take}
use Rattle.std.specs.Prelude.{bytes_eq, if◌then◌else◌, option_map}
use Rattle.std.proofs.Math.Seq.{take-add, take-append_seam}
use Rattle.std.proofs.lemmas.List.{append-nil, drop-drop, take-take}
use Rattle.outside.specs.Contents.{Contents, append_file}
use Rattle.outside.proofs.Effects.{append_file-append_file}

-- no bytes appended to a file that is there or not
none-at : (here : Bool) (o : Option (List ℕ)) → (if here then option_map (λ bytes. bytes ++ []) o else o) ≡ o
none-at true None = refl
none-at true (Some bytes) = ap Some (append-nil bytes)
none-at false o = refl

-- no bytes appended
pub appended-none : (name : List ℕ) (o : Option Contents) → option_map (append_file name []) o ≡ o
appended-none name None = refl
appended-none name (Some c) =
    ap Some (λ j. record { file = λ n. none-at (bytes_eq n name) (c.file n) j; begun = c.begun; out = c.out; err = c.err })

-- bytes appended, and then more
pub appended-more : (name a b : List ℕ) (o now new : Option Contents) → new ≡ option_map (append_file name b) now → now ≡ option_map (append_file name a) o
    → new ≡ option_map (append_file name (a ++ b)) o
appended-more name a b None now new more is = more ∙ ap (option_map (append_file name b)) is
appended-more name a b (Some c) now new more is =
    more ∙ ap (option_map (append_file name b)) is ∙ ap Some (append_file-append_file name a b c)

-- the bytes that are left of a piece
abbrev pub rest : List ℕ → ℕ → ℕ → List ℕ
rest buf at end = take (end - at) (drop at buf)

-- all of it, before any is written
pub rest-first : (buf text more : List ℕ) (end : ℕ) → text ≡ take end buf ++ more → text ≡ rest buf 0 end ++ more
rest-first buf text more end is = let all : end ≡ end - 0 = omega arith in is ∙ ap (λ n. take n buf ++ more) all

-- no more of it are written than are left
pub rest-fits : (buf : List ℕ) (at k end : ℕ) → at ≤ end → k ≤ length (rest buf at end) → at + k ≤ end
rest-fits buf at k end before room = omega (arith, room, before, length-take (end - at) (drop at buf))

-- they are its next ones, and those after them
rest-more : (buf : List ℕ) (at k end : ℕ) → at + k ≤ end → rest buf at end ≡ take k (rest buf at end) ++ rest buf (at + k) end
rest-more buf at k end within =
    let m = end - (at + k) in
    let all : end - at ≡ k + m = omega (arith, within) in
    ap (λ n. take n (drop at buf)) all
    ∙ take-add k m (drop at buf)
    ∙ ap (λ xs. xs ++ take m (drop k (drop at buf))) (sym (take-take k (end - at) (drop at buf) (omega arith)))
    ∙ ap (λ xs. take k (rest buf at end) ++ take m xs) (drop-drop k at buf)

-- what was written and what is left make up a text, also after k bytes more
pub written-more : (text done buf more : List ℕ) (at k end : ℕ) → at + k ≤ end → text ≡ done ++ (rest buf at end ++ more)
    → text ≡ (done ++ take k (rest buf at end)) ++ (rest buf (at + k) end ++ more)
written-more text done buf more at k end within is =
    is ∙ ap (λ xs. done ++ (xs ++ more)) (rest-more buf at k end within)
    ∙ ap (λ xs. done ++ xs) (append_assoc (take k (rest buf at end)) (rest buf (at + k) end) more)
    ∙ sym (append_assoc done (take k (rest buf at end)) (rest buf (at + k) end ++ more))

-- nothing is left of a piece at its end
pub written-all : (text done buf more : List ℕ) (at end : ℕ) → end ≤ at → text ≡ done ++ (rest buf at end ++ more) → text ≡ done ++ more
written-all text done buf more at end over is =
    let none : end - at ≡ 0 = omega (arith, over) in
    is ∙ ap (λ n. done ++ (take n (drop at buf) ++ more)) none

-- and then the next one comes
pub written-next : (text done more buf next : List ℕ) (end : ℕ) → text ≡ done ++ more → more ≡ take end buf ++ next
    → text ≡ done ++ (rest buf 0 end ++ next)
written-next text done more buf next end is comes = is ∙ ap (λ xs. done ++ xs) (rest-first buf more next end comes)

-- where none comes, all is written
pub written-end : (text done more : List ℕ) → text ≡ done ++ more → more ≡ [] → done ≡ text
written-end text done more is none = sym (is ∙ ap (λ xs. done ++ xs) none ∙ append-nil done)

-- where no piece comes, nothing is left
pub nothing-left : (buf text more : List ℕ) (count : ℕ) → text ≡ take count buf ++ more → (count ≡ 0 → text ≡ []) → count ≡ 0 → more ≡ []
nothing-left buf text more count is end none = sym (ap (λ n. take n buf ++ more) none) ∙ sym is ∙ end none

-- what was written is a first part of a text
pub first-part : (done rest text : List ℕ) → text ≡ done ++ rest → done ≡ take (length done) text
first-part done rest text is = sym (ap (take (length done)) is ∙ take-append_seam done rest)
