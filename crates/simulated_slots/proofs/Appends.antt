-- Cells that come or leave after others.
use Rattle.std.proofs.Common.{◌≡◌, ◌∙◌, ◌++◌, ap, sym, refl, ℕ, List, [], ◌∷◌, append_assoc}
use Rattle.std.specs.Prelude.{option_to_list}
use Rattle.arrival_queues.specs.declared.cell.ArrivedCell.{ArrivedCell}
use Rattle.arrival_queues.specs.Queues.{Queues, head_of, length_with, queues_with, queues_without_head}
use Rattle.simulated_slots.specs.Slots.{all_entered, all_left, departing, dropped, dropped_one, lengths}

pub all_entered-append : (queues : Queues) (xs ys : List ArrivedCell) → all_entered queues (xs ++ ys) ≡ all_entered (all_entered queues xs) ys
all_entered-append queues [] ys = refl
all_entered-append queues (x ∷ xs) ys = all_entered-append (queues_with queues x) xs ys

pub dropped-append : (queues : Queues) (xs ys : List ArrivedCell) → dropped queues (xs ++ ys) ≡ dropped queues xs ++ dropped (all_entered queues xs) ys
dropped-append queues [] ys = refl
dropped-append queues (x ∷ xs) ys =
    ap (λ (rest : List ArrivedCell). dropped_one queues x ++ rest) (dropped-append (queues_with queues x) xs ys)
    ∙ sym (append_assoc (dropped_one queues x) (dropped (queues_with queues x) xs) _)

pub lengths-append : (queues : Queues) (xs ys : List ArrivedCell) → lengths queues (xs ++ ys) ≡ lengths queues xs ++ lengths (all_entered queues xs) ys
lengths-append queues [] ys = refl
lengths-append queues (x ∷ xs) ys =
    ap (λ (rest : List ℕ). option_to_list (length_with queues x) ++ rest) (lengths-append (queues_with queues x) xs ys)
    ∙ sym (append_assoc (option_to_list (length_with queues x)) (lengths (queues_with queues x) xs) _)

pub all_left-append : (queues : Queues) (xs ys : List ℕ) → all_left queues (xs ++ ys) ≡ all_left (all_left queues xs) ys
all_left-append queues [] ys = refl
all_left-append queues (x ∷ xs) ys = all_left-append (queues_without_head queues x) xs ys

pub departing-append : (queues : Queues) (xs ys : List ℕ) → departing queues (xs ++ ys) ≡ departing queues xs ++ departing (all_left queues xs) ys
departing-append queues [] ys = refl
departing-append queues (x ∷ xs) ys =
    ap (λ (rest : List ArrivedCell). option_to_list (head_of queues x) ++ rest) (departing-append (queues_without_head queues x) xs ys)
    ∙ sym (append_assoc (option_to_list (head_of queues x)) (departing (queues_without_head queues x) xs) _)
