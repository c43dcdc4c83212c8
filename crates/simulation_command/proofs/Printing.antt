-- Texts that are given to standard error in parts.
use Rattle.std.proofs.Common.{◌≡◌, ◌+◌, ◌<◌, ◌≤◌, ℕ, List, [], ◌∷◌, ◌++◌, map, take, drop, get_or, length, inr, Option, Some, None, refl, sym, ◌∙◌, ap}
use Rattle.std.proofs.Common.{append_assoc}
use Rattle.std.specs.Prelude.{Result, Ok, Err, is_err, true, false, option_map, OnErr}
use Rattle.std.specs.List.{concat}
use Rattle.std.proofs.lemmas.List.{append-nil, drop_more, map-append, map_more, take-append-drop}
use Rattle.std.proofs.lemmas.List.Folds.{concat-append}
use Rattle.outside.specs.Contents.{Contents, append_err}
use Rattle.outside.specs.Faults.{Rose}
use Rattle.outside.proofs.Counting.{le-Rose}
use Rattle.outside.proofs.Effects.{append_err-append_err}
use Rattle.simulation_command.specs.ErrorLines.{GivesLine}
use Rattle.simulation_command.specs.LineSteps.{Gives}

pub err_after : (a b : List ℕ) (o : Option Contents) → option_map (append_err b) (option_map (append_err a) o) ≡ option_map (append_err (a ++ b)) o
err_after a b None = refl
err_after a b (Some c) = ap Some (append_err-append_err a b c)

-- the parts up to one are those before it, and then it
pub concat_more : {X : Type 0} (text : X → List ℕ) (parts : List X) (i : ℕ) (d : X) → i < length parts
    → concat (map text (take (i + 1) parts)) ≡ concat (map text (take i parts)) ++ text (get_or parts i d)
concat_more text parts i d within =
    ap concat (map_more text parts i d within) ∙ concat-append (map text (take i parts)) (text (get_or parts i d) ∷ [])
    ∙ ap (λ xs. concat (map text (take i parts)) ++ xs) (append-nil (text (get_or parts i d)))

-- all parts are those before one, and then it and the rest
concat_split : {X : Type 0} (text : X → List ℕ) (parts : List X) (i : ℕ) (d : X) → i < length parts
    → concat (map text parts) ≡ concat (map text (take i parts)) ++ (text (get_or parts i d) ++ concat (map text (drop (i + 1) parts)))
concat_split text parts i d within =
    ap (λ xs. concat (map text xs)) (sym (take-append-drop i parts))
    ∙ ap concat (map-append text (take i parts) (drop i parts))
    ∙ concat-append (map text (take i parts)) (map text (drop i parts))
    ∙ ap (λ xs. concat (map text (take i parts)) ++ concat (map text xs)) (drop_more parts i d within)

-- where a part was refused, a first part of the whole text was given
pub given_to : {X T E : Type 0} (text : X → List ℕ) (parts : List X) (i : ℕ) (d : X) (r : Result T E) (first now new : Option Contents) (was mid count : ℕ)
    → i < length parts → is_err r ≡ true → now ≡ option_map (append_err (concat (map text (take i parts)))) first
    → Gives r (text (get_or parts i d)) now new → was ≤ mid → OnErr r (Rose mid count)
    → GivesLine (concat (map text parts)) first new was count
given_to text parts i d (Ok x) first now new was mid count within is at gives kept cause = absurd (cc)
given_to text parts i d (Err e) first now new was mid count within is at gives kept cause = record {
  part = concat (map text (take i parts)) ++ gives.0;
  rest = gives.1 ++ concat (map text (drop (i + 1) parts));
  splits = concat_split text parts i d within
      ∙ ap (λ xs. concat (map text (take i parts)) ++ (xs ++ concat (map text (drop (i + 1) parts)))) gives.2
      ∙ ap (λ xs. concat (map text (take i parts)) ++ xs) (append_assoc gives.0 gives.1 (concat (map text (drop (i + 1) parts))))
      ∙ sym (append_assoc (concat (map text (take i parts))) gives.0 (gives.1 ++ concat (map text (drop (i + 1) parts))));
  given = gives.3 ∙ ap (option_map (append_err gives.0)) at ∙ err_after (concat (map text (take i parts))) gives.0 first;
  whole = inr (le-Rose was mid count kept cause);
}

-- where it was given, one part more was given
pub given_more : {X T E : Type 0} (text : X → List ℕ) (parts : List X) (i : ℕ) (d : X) (r : Result T E) (first now new : Option Contents)
    → i < length parts → is_err r ≡ false → now ≡ option_map (append_err (concat (map text (take i parts)))) first
    → Gives r (text (get_or parts i d)) now new
    → new ≡ option_map (append_err (concat (map text (take (i + 1) parts)))) first
given_more text parts i d (Ok x) first now new within is at gives =
    gives ∙ ap (option_map (append_err (text (get_or parts i d)))) at ∙ err_after (concat (map text (take i parts))) (text (get_or parts i d)) first
    ∙ ap (λ xs. option_map (append_err xs) first) (sym (concat_more text parts i d within))
given_more text parts i d (Err e) first now new within is at gives = absurd (cc)
