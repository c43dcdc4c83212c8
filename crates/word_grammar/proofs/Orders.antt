-- Options in another order, and one that is given twice.
use Rattle.std.proofs.Common.{◌≡◌, ◌∙◌, ◌⊎◌, ◌+◌, ◌≤◌, ap, sym, subst, true, List, [], ◌∷◌, ◌++◌, Option, None, Some, refl, inl, inr, ℕ}
use Rattle.std.proofs.Common.{IsPermutation, arith, bytes_eq, if◌then◌else◌, length, option_and_then, sum_by}
use Rattle.std.proofs.lemmas.List.Sorted.{IsPermutation-sym, sum_by-IsPermutation}
use Rattle.std.proofs.lemmas.List.Sums.{sum_by-append, sum_by-cons}
use Rattle.std.proofs.lemmas.Bool.{cases_Bool}
use Rattle.std.proofs.lemmas.Slice.Eq.{bytes_eq-Decides}
use Rattle.switch_words.specs.Options.{Switch, rounds, slots, value, flag, command_named}
use Rattle.switch_words.specs.Parts.{Parts, no_parts}
use Rattle.switch_words.specs.Reading.{job_with, reading_of}
use Rattle.word_grammar.specs.Grammar.{Argument, AreWritten, Text, given, names_in, option_at}
use Rattle.word_grammar.proofs.Adding.{Agrees, AreKnown, add_all, added_agrees, agrees_added, are_known, few, given-cons, texts_in}
use Rattle.word_grammar.proofs.Ids.{Command, at_command, id_is, id_of}
use Rattle.word_grammar.proofs.Meanings.{nothing_is}
use Rattle.word_grammar.proofs.Walks.{goes_on, walks}

-- ---- the same texts in another order

sums : (weight : Text → ℕ) (id : Text) (arguments : List Argument)
    → sum_by weight (given id arguments) ≡ sum_by (λ a. sum_by weight (given id (a ∷ []))) arguments
sums weight id [] = refl
sums weight id (a ∷ more) =
    ap (sum_by weight) (given-cons id a more) ∙ (sum_by-append weight (given id (a ∷ [])) (given id more)
    ∙ (ap (λ (n : ℕ). sum_by weight (given id (a ∷ [])) + n) (sums weight id more)
    ∙ sym (sum_by-cons (λ (b : Argument). sum_by weight (given id (b ∷ []))) a more)))

same_sum : (weight : Text → ℕ) (id : Text) (arguments others : List Argument) → IsPermutation arguments others
    → sum_by weight (given id others) ≡ sum_by weight (given id arguments)
same_sum weight id arguments others is =
    sums weight id others ∙ (sum_by-IsPermutation (λ (a : Argument). sum_by weight (given id (a ∷ []))) arguments others is ∙ sym (sums weight id arguments))

-- none, or one text, is the same in any order
abbrev each : Text → ℕ
each text = 1

abbrev this : Text → Text → ℕ
this text other = if bytes_eq text other then 1 else 0

abbrev pub IsFew : List Text → Type 0
IsFew texts = (first second : Text) (more : List Text) → first ∷ second ∷ more ≡ texts → ⊥

this_one : (t u : Text) → this t u ≡ this t t → u ≡ t
this_one t u h = elim (cases_Bool (bytes_eq t u)) [
  | inl e ↦ sym ((bytes_eq-Decides t u).0 e)
  | inr e ↦
      let self : bytes_eq t t ≡ true = (bytes_eq-Decides t t).1 refl in
      let bad : ◌≡◌ {A = ℕ} 0 1 = rw (e, self) at h in
      absurd (omega arith)
]

same_few : (texts others : List Text) → ((weight : Text → ℕ) → sum_by weight others ≡ sum_by weight texts) → IsFew texts → others ≡ texts
same_few [] [] same once = refl
same_few [] (u ∷ others) same once =
    let h : sum_by each (u ∷ others) ≡ 0 = same each in
    let sum : sum_by each (u ∷ others) ≡ 1 + sum_by each others = sum_by-cons each u others in
    absurd (omega arith)
same_few (t ∷ []) [] same once =
    let h : ◌≡◌ {A = ℕ} 0 1 = same each in
    absurd (omega arith)
same_few (t ∷ []) (u ∷ []) same once = ap (λ (v : Text). v ∷ []) (this_one t u (weighs (same (this t))))
  where
    weighs : sum_by (this t) (u ∷ []) ≡ sum_by (this t) (t ∷ []) → this t u ≡ this t t
    weighs h =
        let left : sum_by (this t) (u ∷ []) ≡ this t u + sum_by (this t) [] = sum_by-cons (this t) u [] in
        let right : sum_by (this t) (t ∷ []) ≡ this t t + sum_by (this t) [] = sum_by-cons (this t) t [] in
        omega arith
same_few (t ∷ []) (u ∷ v ∷ others) same once =
    let h : sum_by each (u ∷ v ∷ others) ≡ 1 = same each in
    let first : sum_by each (u ∷ v ∷ others) ≡ 1 + sum_by each (v ∷ others) = sum_by-cons each u (v ∷ others) in
    let second : sum_by each (v ∷ others) ≡ 1 + sum_by each others = sum_by-cons each v others in
    absurd (omega arith)
same_few (t ∷ s ∷ texts) others same once = absurd (once t s texts refl)

nothing_before : (w : Switch) (texts : List Text) → texts_in no_parts w ++ texts ≡ texts
nothing_before (value rounds) texts = refl
nothing_before (flag slots) texts = refl
nothing_before (value _) texts = refl
nothing_before (flag _) texts = refl

pub given_said : (arguments : List Argument) (all : Parts) (w : Switch) → Agrees no_parts arguments all → given (id_of w) arguments ≡ texts_in all w
given_said arguments all w agrees = sym (nothing_before w (given (id_of w) arguments)) ∙ agrees.texts w

reordered : (arguments others : List Argument) (all : Parts) → IsPermutation arguments others → names_in arguments ≡ names_in others
    → Agrees no_parts arguments all → Agrees no_parts others all
reordered arguments others all is names agrees = record {
  texts = λ w.
      let said = given_said arguments all w agrees in
      nothing_before w (given (id_of w) others)
      ∙ (same_few (given (id_of w) arguments) (given (id_of w) others) (λ weight. same_sum weight (id_of w) arguments others is)
      (λ first second more h. few all w first second more (h ∙ said)) ∙ said);
  names = sym names ∙ agrees.names;
}

same_added : (command : Command) (arguments others : List Argument) → AreKnown command arguments → AreKnown command others
    → IsPermutation arguments others → names_in arguments ≡ names_in others → (o p : Option Parts) → add_all command no_parts arguments ≡ o
    → add_all command no_parts others ≡ p → o ≡ p
same_added command arguments others known also is names None None has other = refl
same_added command arguments others known also is names (Some all) p has other =
    sym (agrees_added command others no_parts all also (reordered arguments others all is names
    (added_agrees command arguments no_parts all known has))) ∙ other
same_added command arguments others known also is names None (Some all) has other =
    sym has ∙ agrees_added command arguments no_parts all known (reordered others arguments all (IsPermutation-sym arguments others is) (sym names)
    (added_agrees command others no_parts all also other))

ordered : (command : Command) (word : Text) (arguments others : List Argument) (before after rest : List Text)
    → command_named word ≡ Some command → AreWritten word arguments before → AreWritten word others after → IsPermutation arguments others
    → names_in arguments ≡ names_in others → reading_of (word ∷ (before ++ rest)) ≡ reading_of (word ∷ (after ++ rest))
unfolding reading_of
ordered command word arguments others before after rest named written also is names =
    let same = same_added command arguments others
    (are_known word command named arguments before written) (are_known word command named others after also) is names _ _ refl refl in
    rw named (ap (option_and_then (job_with command)) (walks word command named arguments before written no_parts rest
    ∙ (ap (goes_on command rest) same ∙ sym (walks word command named others after also no_parts rest))))

-- by the command of a word, or of none
pub unnamed : (word : Text) (rest : List Text) → command_named word ≡ None → reading_of (word ∷ rest) ≡ None
unfolding reading_of
unnamed word rest none = rw none refl

pub by_command : {A : Type 0} (o : Option A) → (o ≡ None) ⊎ ((a : A) × (o ≡ Some a))
by_command None = inl refl
by_command (Some a) = inr (a, refl)

pub in_any_order : (word : Text) (arguments others : List Argument) (before after rest : List Text) → AreWritten word arguments before
    → AreWritten word others after → IsPermutation arguments others → names_in arguments ≡ names_in others
    → reading_of (word ∷ (before ++ rest)) ≡ reading_of (word ∷ (after ++ rest))
in_any_order word arguments others before after rest written also is names = elim (by_command (command_named word)) [
  | inl none ↦ unnamed word (before ++ rest) none ∙ sym (unnamed word (after ++ rest) none)
  | inr c ↦ ordered c.0 word arguments others before after rest c.1 written also is names
]

-- ---- given twice

no_two : (texts : List Text) → 2 ≤ length texts → IsFew texts → ⊥
no_two [] more once = omega arith
no_two (t ∷ []) more once = omega arith
no_two (t ∷ s ∷ texts) more once = once t s texts refl

twice : (command : Command) (word id : Text) (w : Switch) (arguments : List Argument) (before rest : List Text)
    → command_named word ≡ Some command → option_at word id ≡ Some w → AreWritten word arguments before → 2 ≤ length (given id arguments)
    → reading_of (word ∷ (before ++ rest)) ≡ None
unfolding reading_of
twice command word id w arguments before rest named known written more =
    let lost = nothing_is (add_all command no_parts arguments) (λ all has.
    let agrees = added_agrees command arguments no_parts all (are_known word command named arguments before written) has in
    no_two (given (id_of w) arguments) (subst (λ (t : Text). 2 ≤ length (given t arguments))
    (id_is command id w (sym (at_command word command named id) ∙ known)) more)
    (λ first second texts h. few all w first second texts (h ∙ given_said arguments all w agrees))) in
    rw named (ap (option_and_then (job_with command)) (walks word command named arguments before written no_parts rest ∙ ap (goes_on command rest) lost))

pub twice_is_usage : (word id : Text) (w : Switch) (arguments : List Argument) (before rest : List Text) → option_at word id ≡ Some w
    → AreWritten word arguments before → 2 ≤ length (given id arguments) → reading_of (word ∷ (before ++ rest)) ≡ None
twice_is_usage word id w arguments before rest known written more = elim (by_command (command_named word)) [
  | inl none ↦ unnamed word (before ++ rest) none
  | inr c ↦ twice c.0 word id w arguments before rest c.1 known written more
]
