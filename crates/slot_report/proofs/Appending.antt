-- Texts that grow at their end.
use Rattle.std.proofs.Common.{◌≡◌, ◌+◌, ◌<◌, ◌≤◌, ℕ, List, [], ◌∷◌, ◌++◌, take, get_or, length, refl, sym, ◌∙◌, ap, subst, zero-add}
use Rattle.std.specs.Prelude.{Option, None, Some, option_to_list, codes}
use Rattle.std.specs.List.{flat_map, filter_map, join_with_byte, enumerate_from}
use Rattle.std.proofs.lemmas.List.{append-nil, flat_map_more, get_or-map, length-map}
use Rattle.std.proofs.lemmas.List.Concat.{flat_map-append}
use Rattle.std.proofs.lemmas.List.FromFn.{get_or-enumerate_from, length-enumerate_from}
use Rattle.std_lemmas.proofs.Appending.{both, one_more, all_of}
use Rattle.slot_report.specs.Lines.{line_text, lines_text}
use Rattle.slot_report.specs.PieceSteps.{after_space}
use Rattle.slot_report.specs.Texts.{map_with_place}

pub length-map_with_place : {X Y : Type 0} (f : ℕ → X → Y) (xs : List X) → length (map_with_place f xs) ≡ length xs
length-map_with_place f xs = length-map (enumerate_from 0 xs) (λ p. f p.0 p.1) ∙ length-enumerate_from 0 xs

pub get_or-map_with_place : {X Y : Type 0} (f : ℕ → X → Y) (xs : List X) (i : ℕ) (d : X) (e : Y) → i < length xs
    → get_or (map_with_place f xs) i e ≡ f i (get_or xs i d)
get_or-map_with_place {X} {Y} f xs i d e within =
    let at : ℕ × X → Y = λ p. f p.0 p.1 in
    get_or-map at (enumerate_from 0 xs) i (0, d) e (subst (λ n. i < n) (sym (length-enumerate_from 0 xs)) within)
    ∙ ap at (get_or-enumerate_from 0 xs i (0, d) within) ∙ ap (λ k. f k (get_or xs i d)) (zero-add i)

-- a line more of those of each place
pub place_more : {X Y : Type 0} (g : Y → List ℕ) (f : ℕ → X → Y) (xs : List X) (i : ℕ) (d : X) (old now : List ℕ) → i < length xs
    → now ≡ old ++ flat_map g (take i (map_with_place f xs))
    → now ++ g (f i (get_or xs i d)) ≡ old ++ flat_map g (take (i + 1) (map_with_place f xs))
place_more g f xs i d old now within at =
    let e = f i d in
    one_more g (map_with_place f xs) i e old now _ (subst (λ n. i < n) (sym (length-map_with_place f xs)) within) at
    (ap (λ y. now ++ g y) (sym (get_or-map_with_place f xs i d e within)))

-- the lines of all places
pub places_all : {X Y : Type 0} (g : Y → List ℕ) (f : ℕ → X → Y) (xs : List X) (n : ℕ) (old new : List ℕ) → length xs ≤ n
    → new ≡ old ++ flat_map g (take n (map_with_place f xs)) → new ≡ old ++ flat_map g (map_with_place f xs)
places_all g f xs n old new whole at = all_of g (map_with_place f xs) n old new (subst (λ k. k ≤ n) (sym (length-map_with_place f xs)) whole) at

-- words with a space between each two are the first one, and the others each after a space
pub join-spaces : (word : List ℕ) (words : List (List ℕ)) → join_with_byte 32 (word ∷ words) ≡ word ++ flat_map after_space words
join-spaces word [] = sym (append-nil word)
join-spaces word (next ∷ words) = ap (λ s. word ++ (32 ∷ s)) (join-spaces next words)

-- the words of the pairs that there are, each after a space
pub pairs_joined : (pairs : List (Option (List ℕ)))
    → flat_map (λ pair. flat_map after_space (option_to_list pair)) pairs ≡ flat_map after_space (filter_map (λ pair. pair) pairs)
pairs_joined [] = refl
pairs_joined (None ∷ pairs) = pairs_joined pairs
pairs_joined (Some word ∷ pairs) = ap (λ s. (32 ∷ s) ++ flat_map (λ pair. flat_map after_space (option_to_list pair)) pairs) (append-nil word)
    ∙ ap (λ s. after_space word ++ s) (pairs_joined pairs)

-- words after a space, and then further ones
pub more_words : (old mid new : List ℕ) (words last : List (List ℕ)) → mid ≡ old ++ flat_map after_space words → new ≡ mid ++ flat_map after_space last
    → new ≡ old ++ flat_map after_space (words ++ last)
more_words old mid new words last first second = both old mid new (flat_map after_space words) (flat_map after_space last) first second
    ∙ ap (λ s. old ++ s) (sym (flat_map-append after_space words last))

-- a line: its first word, the others, and the line feed
pub whole_line : (old named mid new name : List ℕ) (words : List (List ℕ)) → named ≡ old ++ name → mid ≡ named ++ flat_map after_space words
    → new ≡ mid ++ codes "\n" → new ≡ old ++ line_text (name ∷ words)
unfolding line_text
whole_line old named mid new name words first rest end =
    both old mid new (name ++ flat_map after_space words) (codes "\n") (both old named mid name (flat_map after_space words) first rest) end
    ∙ ap (λ s. old ++ (s ++ codes "\n")) (sym (join-spaces name words))

-- lines, and one more
pub lines_and_last : (old mid new : List ℕ) (lines : List (List (List ℕ))) (last : List (List ℕ)) → mid ≡ old ++ lines_text lines
    → new ≡ mid ++ line_text last → new ≡ old ++ lines_text (lines ++ last ∷ [])
lines_and_last old mid new lines last first second = second ∙ ap (λ s. s ++ line_text last) first ∙ flat_map_more line_text old lines last
