-- The walk along the words, and the arguments that they are.
use Rattle.std.proofs.Common.{◌≡◌, ◌∙◌, ◌⊎◌, ap, sym, subst, List, [], ◌∷◌, ◌++◌, Option, None, Some, refl, inl, inr, codes}
use Rattle.std.proofs.Common.{option_and_then, option_map, append_assoc, append-nil}
use Rattle.switch_words.specs.Options.{Setting, Switch, value, flag, command_named, option_of}
use Rattle.switch_words.specs.Parts.{Parts, option, name, parts_from, with_names, with_text, with_flag, word_of}
use Rattle.word_grammar.specs.Grammar.{Argument, AreWritten, IsPlain, IsWritten, Text}
use Rattle.word_grammar.specs.Grammar as arg
use Rattle.word_grammar.proofs.Options.{none_is_some, then_as, then_some, then_then}
use Rattle.word_grammar.proofs.Ids.{Command, at_command, id_is, long_word, valued_word}
use Rattle.word_grammar.proofs.Forms.{Form, closes, form, longs, name_plain, others, plain_name, plains, valued}
use Rattle.word_grammar.proofs.Adding.{add, add_all}

-- ---- one argument

two_words : (command : Command) (parts : Parts) (word id text : Text) (s : Setting) (rest : List Text) → word_of word ≡ option id None → word_of text ≡ name
    → option_of command id ≡ Some (value s) → parts_from command None parts (word ∷ text ∷ rest)
    ≡ option_and_then (λ next. parts_from command None next rest) (with_text parts s text)
unfolding parts_from
two_words command parts word id text s rest is plain known = rw (is, known, plain) refl

one_word : (command : Command) (parts : Parts) (word id text : Text) (s : Setting) (rest : List Text) → word_of word ≡ option id (Some text)
    → option_of command id ≡ Some (value s) → parts_from command None parts (word ∷ rest)
    ≡ option_and_then (λ next. parts_from command None next rest) (with_text parts s text)
unfolding parts_from
one_word command parts word id text s rest is known = rw (is, known) refl

flag_word : (command : Command) (parts : Parts) (word id : Text) (w : Switch) (rest : List Text) → word_of word ≡ option id None
    → option_of command id ≡ Some w → (f : _) → w ≡ flag f → parts_from command None parts (word ∷ rest)
    ≡ option_and_then (λ next. parts_from command None next rest) (with_flag parts f)
unfolding parts_from
flag_word command parts word id w rest is known f same = rw (is, known, same) refl

plain_word : (command : Command) (parts : Parts) (word : Text) (rest : List Text) → word_of word ≡ name
    → parts_from command None parts (word ∷ rest) ≡ parts_from command None (with_names (word ∷ []) parts) rest
unfolding parts_from
plain_word command parts word rest is = rw is refl

-- the word of an option, by its name
long_of : (command : Command) (id : Text) (w : Switch) → option_of command id ≡ Some w → word_of (codes "--" ++ id) ≡ option id None
long_of command id w known = subst (λ (t : Text). word_of (codes "--" ++ t) ≡ option t None) (sym (id_is command id w known)) (long_word w)

valued_of : (command : Command) (id text : Text) (w : Switch) → option_of command id ≡ Some w
    → word_of (codes "--" ++ (id ++ (codes "=" ++ text))) ≡ option id (Some text)
valued_of command id text w known =
    subst (λ (t : Text). word_of (codes "--" ++ (t ++ (codes "=" ++ text))) ≡ option t (Some text)) (sym (id_is command id w known)) (valued_word w text)

abbrev pub goes_on : Command → List Text → Option Parts → Option Parts
goes_on command rest o = option_and_then (λ next. parts_from command None next rest) o

one : (line : Text) (command : Command) → command_named line ≡ Some command → (parts : Parts) (a : Argument) (words rest : List Text) → IsWritten line a words
    → parts_from command None parts (words ++ rest) ≡ goes_on command rest (add command parts a)
one line command at parts (arg.option id text) words rest (s, found, inl (is, plain)) =
    let known = sym (at_command line command at id) ∙ found in
    ap (λ (ws : List Text). parts_from command None parts (ws ++ rest)) is
    ∙ (two_words command parts (codes "--" ++ id) id text s rest (long_of command id (value s) known) (plain_name text plain) known ∙ rw known refl)
one line command at parts (arg.option id text) words rest (s, found, inr is) =
    let known = sym (at_command line command at id) ∙ found in
    ap (λ (ws : List Text). parts_from command None parts (ws ++ rest)) is
    ∙ (one_word command parts (codes "--" ++ (id ++ (codes "=" ++ text))) id text s rest (valued_of command id text (value s) known) known ∙ rw known refl)
one line command at parts (arg.flag id) words rest (f, found, is) =
    let known = sym (at_command line command at id) ∙ found in
    ap (λ (ws : List Text). parts_from command None parts (ws ++ rest)) is
    ∙ (flag_word command parts (codes "--" ++ id) id (flag f) rest (long_of command id (flag f) known) known f refl ∙ rw known refl)
one line command at parts (arg.name text) words rest (is, plain) =
    ap (λ (ws : List Text). parts_from command None parts (ws ++ rest)) is
    ∙ plain_word command parts text rest (plain_name text plain)

-- ---- all arguments

pub walks : (line : Text) (command : Command) → command_named line ≡ Some command
    → (arguments : List Argument) (before : List Text) → AreWritten line arguments before → (parts : Parts) (rest : List Text)
    → parts_from command None parts (before ++ rest) ≡ goes_on command rest (add_all command parts arguments)
walks line command at [] before written parts rest = ap (λ (ws : List Text). parts_from command None parts (ws ++ rest)) written
walks line command at (a ∷ more) before (first, behind, is, here, later) parts rest =
    ap (parts_from command None parts) (ap (λ (ws : List Text). ws ++ rest) is ∙ append_assoc first behind rest)
    ∙ (one line command at parts a first (behind ++ rest) here
    ∙ (then_as (λ next. parts_from command None next (behind ++ rest)) (λ next. goes_on command rest (add_all command next more)) (add command parts a)
    (λ next. walks line command at more behind later next rest)
    ∙ sym (then_then (λ next. add_all command next more) (λ next. parts_from command None next rest) (add command parts a))))

-- ---- the words of a command line

pub record Split (line : Text) (words : List Text) : Type 0 where
  pub arguments : List Argument
  pub before : List Text
  pub further : List Text
  pub written : AreWritten line arguments before
  pub all : (words ≡ before ++ codes "--" ∷ further) ⊎ ((words ≡ before) × (further ≡ []))

closed : (command : Command) (parts : Parts) (further : List Text) → parts_from command None parts (codes "--" ∷ further) ≡ Some (with_names further parts)
unfolding parts_from
closed command parts further = refl

open_end : (command : Command) (parts : Parts) → parts_from command None parts [] ≡ Some (with_names [] parts)
unfolding parts_from
open_end command parts = λ i. Some (record parts { names = sym (append-nil parts.names) i })

map_as : {A B : Type 0} (f : A → B) (o : Option A) → option_and_then (λ a. Some (f a)) o ≡ option_map f o
map_as f None = refl
map_as f (Some a) = refl

-- what the words say is what their arguments say, with the further names
pub ends : (line : Text) (command : Command) → command_named line ≡ Some command → (words : List Text) (split : Split line words) (parts : Parts)
    → parts_from command None parts words ≡ option_map (with_names split.further) (add_all command parts split.arguments)
ends line command at words split parts = elim split.all [
  | inl is ↦
      ap (parts_from command None parts) is ∙ (walks line command at split.arguments split.before split.written parts (codes "--" ∷ split.further)
      ∙ (then_as (λ next. parts_from command None next (codes "--" ∷ split.further)) (λ next. Some (with_names split.further next))
      (add_all command parts split.arguments) (λ next. closed command next split.further) ∙ map_as (with_names split.further) _))
  | inr is ↦
      ap (parts_from command None parts) (is.0 ∙ sym (append-nil split.before)) ∙ (walks line command at split.arguments split.before split.written parts []
      ∙ (then_as (λ next. parts_from command None next []) (λ next. Some (with_names split.further next))
      (add_all command parts split.arguments) (λ next. rw is.1 (open_end command next)) ∙ map_as (with_names split.further) _))
]

-- ---- words that say something are words of arguments

more : (line : Text) (a : Argument) (first words rest : List Text) → words ≡ first ++ rest → IsWritten line a first → Split line rest
    → Split line words
more line a first words rest is here split = record {
  arguments = a ∷ split.arguments;
  before = first ++ split.before;
  further = split.further;
  written = (first, split.before, refl, here, split.written);
  all = elim split.all [
    | inl e ↦ inl (is ∙ (ap (λ (ws : List Text). first ++ ws) e ∙ sym (append_assoc first split.before (codes "--" ∷ split.further))))
    | inr e ↦ inr (is ∙ ap (λ (ws : List Text). first ++ ws) e.0, e.1)
  ];
}

pub record Splits (line : Text) (command : Command) (words : List Text) : Type 0 where
  pub anywhere : (parts all : Parts) → parts_from command None parts words ≡ Some all → Split line words
  pub awaiting : (s : Setting) (parts all : Parts) → parts_from command (Some s) parts words ≡ Some all
      → (word : Text) × (rest : List Text) × (words ≡ word ∷ rest) × IsPlain word × Split line rest

splits_end : (line : Text) (command : Command) → Splits line command []
unfolding parts_from
splits_end line command = record {
  anywhere = λ parts all h. record { arguments = []; before = []; further = []; written = refl; all = inr (refl, refl) };
  awaiting = λ s parts all h. absurd (none_is_some h);
}

no_value : (command : Command) (s : Setting) (parts all : Parts) (word : Text) (rest : List Text) → (word_of word ≡ name → ⊥)
    → parts_from command (Some s) parts (word ∷ rest) ≡ Some all → ⊥
unfolding parts_from
no_value command s parts all word rest other h = elim (form word) [
  | closes is w ↦ none_is_some (rw w at h)
  | longs id is w ↦ none_is_some (rw w at h)
  | valued id text is w ↦ none_is_some (rw w at h)
  | plains w ↦ other w
  | others w ↦ none_is_some (rw w at h)
]

long_split : (line : Text) (command : Command) → command_named line ≡ Some command
    → (parts all : Parts) (word id : Text) (rest : List Text) → word ≡ codes "--" ++ id → word_of word ≡ option id None
    → Splits line command rest → (o : Option Switch) → option_of command id ≡ o → parts_from command None parts (word ∷ rest) ≡ Some all
    → Split line (word ∷ rest)
unfolding parts_from
long_split line command at parts all word id rest is w splits None known h = absurd (none_is_some (rw (w, known) at h))
long_split line command at parts all word id rest is w splits (Some (value s)) known h =
    let next = splits.awaiting s parts all (rw (w, known) at h) in
    more line (arg.option id next.0) (word ∷ next.0 ∷ []) (word ∷ rest) next.1 (ap (λ (ws : List Text). word ∷ ws) next.2)
    (s, at_command line command at id ∙ known, inl (ap (λ (t : Text). t ∷ next.0 ∷ []) is, next.3)) next.4
long_split line command at parts all word id rest is w splits (Some (flag f)) known h =
    let next = then_some (λ p. parts_from command None p rest) (with_flag parts f) all (rw (w, known) at h) in
    more line (arg.flag id) (word ∷ []) (word ∷ rest) rest refl
    (f, at_command line command at id ∙ known, ap (λ (t : Text). t ∷ []) is) (splits.anywhere next.0 all next.2)

valued_split : (line : Text) (command : Command) → command_named line ≡ Some command
    → (parts all : Parts) (word id text : Text) (rest : List Text) → word ≡ codes "--" ++ (id ++ (codes "=" ++ text))
    → word_of word ≡ option id (Some text) → Splits line command rest → (o : Option Switch) → option_of command id ≡ o
    → parts_from command None parts (word ∷ rest) ≡ Some all → Split line (word ∷ rest)
unfolding parts_from
valued_split line command at parts all word id text rest is w splits None known h = absurd (none_is_some (rw (w, known) at h))
valued_split line command at parts all word id text rest is w splits (Some (value s)) known h =
    let next = then_some (λ p. parts_from command None p rest) (with_text parts s text) all (rw (w, known) at h) in
    more line (arg.option id text) (word ∷ []) (word ∷ rest) rest refl (s, at_command line command at id ∙ known, inr (ap (λ (t : Text). t ∷ []) is))
    (splits.anywhere next.0 all next.2)
valued_split line command at parts all word id text rest is w splits (Some (flag f)) known h = absurd (none_is_some (rw (w, known) at h))

splits_word : (line : Text) (command : Command) → command_named line ≡ Some command → (word : Text) (rest : List Text) → Splits line command rest
    → Form word → Splits line command (word ∷ rest)
unfolding parts_from
splits_word line command at word rest splits (closes is w) = record {
  anywhere = λ parts all h. record {
    arguments = [];
    before = [];
    further = rest;
    written = refl;
    all = inl (ap (λ (t : Text). t ∷ rest) is);
  };
  awaiting = λ s parts all h. absurd (none_is_some (rw w at h));
}
splits_word line command at word rest splits (longs id is w) = record {
  anywhere = λ parts all h. long_split line command at parts all word id rest is w splits (option_of command id) refl h;
  awaiting = λ s parts all h. absurd (none_is_some (rw w at h));
}
splits_word line command at word rest splits (valued id text is w) = record {
  anywhere = λ parts all h. valued_split line command at parts all word id text rest is w splits (option_of command id) refl h;
  awaiting = λ s parts all h. absurd (none_is_some (rw w at h));
}
splits_word line command at word rest splits (plains w) = record {
  anywhere = λ parts all h. more line (arg.name word) (word ∷ []) (word ∷ rest) rest refl (refl, name_plain word w)
      (splits.anywhere (with_names (word ∷ []) parts) all (rw w at h));
  awaiting = λ s parts all h.
      let next = then_some (λ p. parts_from command None p rest) (with_text parts s word) all (rw w at h) in
      (word, rest, refl, name_plain word w, splits.anywhere next.0 all next.2);
}
splits_word line command at word rest splits (others w) = record {
  anywhere = λ parts all h. absurd (none_is_some (rw w at h));
  awaiting = λ s parts all h. absurd (none_is_some (rw w at h));
}

pub splits : (line : Text) (command : Command) → command_named line ≡ Some command → (words : List Text) → Splits line command words
splits line command at [] = splits_end line command
splits line command at (word ∷ rest) = splits_word line command at word rest (splits line command at rest) (form word)
