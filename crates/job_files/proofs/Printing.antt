-- Texts that are given to standard error in parts.
use Rattle.std.proofs.Common.{◌≡◌, ◌+◌, ◌<◌, ℕ, List, [], ◌∷◌, ◌++◌, map, take, drop, get_or, length, inr, Option, Some, None, refl, sym, ◌∙◌, ap}
use Rattle.std.proofs.Common.{append_assoc}
use Rattle.std.specs.Prelude.{Result, Ok, Err, is_err, true, false, option_map}
use Rattle.std.specs.List.{concat}
use Rattle.std.proofs.lemmas.List.{append-nil, drop_more, map-append, map_more, take-append-drop}
use Rattle.std.proofs.lemmas.List.Folds.{concat-append}
use Rattle.outside.specs.Contents.{Contents, append_err}
use Rattle.outside.specs.Faults.{Rose}
use Rattle.outside.proofs.Effects.{append_err-append_err}
use Rattle.job_files.specs.LineParts.{Gives, GivesLine, part_text}
use Rattle.job_files.specs.declared.error_lines.Part.{Part}

pub err_after : (a b : List ℕ) (o : Option Contents) → option_map (append_err b) (option_map (append_err a) o) ≡ option_map (append_err (a ++ b)) o
err_after a b None = refl
err_after a b (Some c) = ap Some (append_err-append_err a b c)

-- the parts up to one are those before it, and then it
pub concat_more : {X : Type 0} (text : X → List ℕ) (parts : List X) (i : ℕ) (d : X) → i < length parts
    → concat (map text (take (i + 1) parts)) ≡ concat (map text (take i parts)) ++ text (get_or parts i d)
concat_more text parts i d within =
    ap concat (map_more text parts i d within) ∙ concat-append (map text (take i parts)) (text (get_or parts i d) ∷ [])
    ∙ ap (λ xs. concat (map text (take i parts)) ++ xs) (append-nil (text (get_or parts i d)))

-- all parts are those before one, and then it and the rest
concat_split : {X : Type 0} (text : X → List ℕ) (parts : List X) (i : ℕ) (d : X) → i < length parts
    → concat (map text parts) ≡ concat (map text (take i parts)) ++ (text (get_or parts i d) ++ concat (map text (drop (i + 1) parts)))
concat_split text parts i d within =
    ap (λ xs. concat (map text xs)) (sym (take-append-drop i parts))
    ∙ ap concat (map-append text (take i parts) (drop i parts))
    ∙ concat-append (map text (take i parts)) (map text (drop i parts))
    ∙ ap (λ xs. concat (map text (take i parts)) ++ concat (map text xs)) (drop_more parts i d within)

-- A call that gives a part, after those before it were given.
pub record GivesNext {T E : Type 0} (parts : List Part) (r : Result T E) (old new : Option Contents) : Type 0 where
  pub place : ℕ
  pub part : Part
  pub mid : Option Contents
  pub within : place < length parts
  pub before : mid ≡ option_map (append_err (concat (map part_text (take place parts)))) old
  pub gives : Gives r (part_text (get_or parts place part)) mid new

-- where it was refused, a first part of the whole text was given
pub given_to : {T E : Type 0} (parts : List Part) (r : Result T E) (old new : Option Contents) → GivesNext parts r old new → (was now : ℕ)
    → is_err r ≡ true → Rose was now → GivesLine (concat (map part_text parts)) old new was now
given_to parts (Ok x) old new next was now is rose = absurd (cc)
given_to parts (Err e) old new next was now is rose =
    let first = concat (map part_text (take next.place parts)) in
    let rest = concat (map part_text (drop (next.place + 1) parts)) in
    let gives = next.gives in
    record {
      part = first ++ gives.0;
      rest = gives.1 ++ rest;
      splits = concat_split part_text parts next.place next.part next.within
          ∙ ap (λ xs. first ++ (xs ++ rest)) gives.2
          ∙ ap (λ xs. first ++ xs) (append_assoc gives.0 gives.1 rest)
          ∙ sym (append_assoc first gives.0 (gives.1 ++ rest));
      given = gives.3 ∙ ap (option_map (append_err gives.0)) next.before ∙ err_after first gives.0 old;
      whole = inr rose;
    }

-- where it was given, one part more was given
pub given_more : {T E : Type 0} (parts : List Part) (r : Result T E) (old new : Option Contents) → (next : GivesNext parts r old new)
    → is_err r ≡ false → new ≡ option_map (append_err (concat (map part_text (take (next.place + 1) parts)))) old
given_more parts (Ok x) old new next is =
    let text = part_text (get_or parts next.place next.part) in
    next.gives ∙ ap (option_map (append_err text)) next.before ∙ err_after (concat (map part_text (take next.place parts))) text old
    ∙ ap (λ xs. option_map (append_err xs) old) (sym (concat_more part_text parts next.place next.part next.within))
given_more parts (Err e) old new next is = absurd (cc)

-- the line of what is written to the file of an output
pub output_line : (what prefix digits : List ℕ) (end : List ℕ) → what ++ (prefix ++ (46 ∷ (digits ++ (46 ∷ 112 ∷ 99 ∷ 97 ∷ 112 ∷ end)))) ≡ what
    ++ ((prefix ++ (46 ∷ (digits ++ (46 ∷ 112 ∷ 99 ∷ 97 ∷ 112 ∷ [])))) ++ end)
output_line what prefix digits end =
    ap (λ xs. what ++ (prefix ++ (46 ∷ xs))) (sym (append_assoc digits (46 ∷ 112 ∷ 99 ∷ 97 ∷ 112 ∷ []) end))
    ∙ ap (λ xs. what ++ xs) (sym (append_assoc prefix (46 ∷ (digits ++ (46 ∷ 112 ∷ 99 ∷ 97 ∷ 112 ∷ []))) end))
