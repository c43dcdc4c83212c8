-- A parse by clap and the definition read the same of the words behind a command.
use Rattle.std.proofs.Common.{◌≡◌, ◌∙◌, ap, sym, subst, true, false, List, [], ◌∷◌, Option, None, Some, is_some, refl, codes, append_assoc, append-nil}
use Rattle.std.specs.Prelude.{option_map, option_and_then, slice_get}
use Rattle.std.specs.Str.{IsUtf8, bytes_eq, chars}
use Rattle.clap.specs.Walk.{Row, Rule, Text, idle, arg_by_id, used}
use Rattle.clap.specs.Faults.{use_fault}
use Rattle.switch_words.specs.declared.options.Command.{Command}
use Rattle.switch_words.specs.Options.{Setting, Switch, value, flag, option_of}
use Rattle.switch_words.specs.LineSteps.{lookup_in, parts_in}
use Rattle.switch_words.specs.Parts.{Parts, closing, name, option, parts_from, refused, with_names, word_of}
use Rattle.switch_words.proofs.Rules.{HasRules, IsMet, flag_id, flag_rule, id_of, names_rule, option_rule}
use Rattle.switch_words.proofs.Sound.{IsSound, flag_is_set, parts_name, set_value, sound_name, sound_use}
use Rattle.switch_words.proofs.Unless.{under, unless, unless-then}
use Rattle.switch_words.proofs.Lexing.{IsLong, IsPlain, Lexed, char_after_dash, closes, lexed, longs, plains, shorts}
use Rattle.switch_words.proofs.Turns.{IsOpen, Place, after, ended, held_at, idle_at, idle_open, name_at, out-closing, out-flag, out-flag_value, out-given}
use Rattle.switch_words.proofs.Turns.{out-plain, out-short, out-trailing, out-unknown, out-value, out-wait, outcome, outcome-end, place, positional_open}
use Rattle.switch_words.proofs.Turns.{settles, wait_at, walk_at}

-- ---- options of parts

map_none : (o : Option Parts) → o ≡ option_map (with_names []) o
map_none None = refl
map_none (Some p) = λ i. Some (record p { names = sym (append-nil p.names) i })

then_some : (o : Option Parts) → o ≡ option_and_then (λ p. Some p) o
then_some None = refl
then_some (Some p) = refl

then_as : (o : Option Parts) (f g : Parts → Option Parts) → ((p : Parts) → f p ≡ g p) → option_and_then f o ≡ option_and_then g o
then_as None f g h = refl
then_as (Some p) f g h = h p

then_none : (o : Option Parts) (f : Parts → Option Parts) → ((p : Parts) → f p ≡ None) → None ≡ option_and_then f o
then_none None f h = refl
then_none (Some p) f h = sym (h p)

map_then : (o : Option Parts) (f : Parts → Parts) → option_map f o ≡ option_and_then (λ p. Some (f p)) o
map_then None f = refl
map_then (Some p) f = refl

-- ---- behind `--`

ended-name : (c : List Rule) (rows : List Row) (word : Text) → arg_by_id c (codes "names") ≡ Some names_rule
    → ended c (held_at (name_at rows word)) ≡ Some (with_names (word ∷ []) (parts_in (lookup_in rows)))
ended-name c rows word by_id = rw by_id (ap (λ (p : Parts). Some p) (parts_name word rows))

closed : (command : Command) (c : List Rule) → HasRules command c → (words : List Text) (at : Place)
    → outcome c (walk_at at true) words ≡ option_map (with_names words) (ended c (held_at at))
closed command c has [] at = outcome-end c (walk_at at true) ∙ map_none (ended c (held_at at))
closed command c has (word ∷ rest) at =
    let next : List Row = after c at in
    let more : outcome c (walk_at (name_at next word) true) rest ≡ Some (with_names (word ∷ rest) (parts_in (lookup_in next))) =
    closed command c has rest (name_at next word)
    ∙ (ap (option_map (with_names rest)) (ended-name c next word has.by_id)
    ∙ (λ i. Some (record (parts_in (lookup_in next)) { names = append_assoc (parts_in (lookup_in next)).names (word ∷ []) rest i }))) in
    out-trailing c at word rest has.place
    ∙ (under (settles c at) _ (Some (with_names (word ∷ rest) (parts_in (lookup_in next)))) (λ none. more)
    ∙ (sym (unless-then (settles c at) (λ p. Some (with_names (word ∷ rest) p)) (Some (parts_in (lookup_in next))))
    ∙ sym (map_then (ended c (held_at at)) (with_names (word ∷ rest)))))

-- ---- the words before it

abbrev pub IsSoundAfter : List Rule → Place → Type 0
IsSoundAfter c at = settles c at ≡ [] → IsSound (lookup_in (after c at))

abbrev pub Goes : Command → List Rule → List Text → Place → Type 0
Goes command c words at = outcome c (walk_at at false) words ≡ option_and_then (λ p. parts_from command None p words) (ended c (held_at at))

pub record Reads (command : Command) (c : List Rule) (words : List Text) : Type 0 where
  pub anywhere : (at : Place) → IsOpen at.waiting → IsSoundAfter c at → Goes command c words at
  pub awaiting : (rows : List Row) (s : Setting) → arg_by_id c (id_of s) ≡ Some (option_rule (id_of s)) → IsSound (lookup_in rows)
      → outcome c (walk_at (wait_at rows (id_of s)) false) words ≡ parts_from command (Some s) (parts_in (lookup_in rows)) words

reads_end : (command : Command) (c : List Rule) → Reads command c []
unfolding parts_from
reads_end command c = record {
  anywhere = λ at is_open sound. outcome-end c (walk_at at false) ∙ then_some (ended c (held_at at));
  awaiting = λ rows s found sound. outcome-end c (walk_at (wait_at rows (id_of s)) false) ∙ rw found refl;
}

module _ (command : Command) (c : List Rule) (has : HasRules command c) (word : Text) (rest : List Text) (reads : Reads command c rest) where
  -- where the pending argument is used without fault, the parts of its rows are read on from
  settled_goes : (at : Place) → unless (settles c at) (parts_from command None (parts_in (lookup_in (after c at))) (word ∷ rest))
      ≡ option_and_then (λ p. parts_from command None p (word ∷ rest)) (ended c (held_at at))
  settled_goes at = sym (unless-then (settles c at) (λ p. parts_from command None p (word ∷ rest)) (Some (parts_in (lookup_in (after c at)))))

  -- a long option
  long_goes : (text : Text) (v : Option Text) → IsLong word text v → word_of word ≡ option text v → (o : Option Switch) → option_of command text ≡ o
      → (at : Place) → IsSoundAfter c at → Goes command c (word ∷ rest) at
  unfolding parts_from
  long_goes text v long is None known at sound =
      out-unknown c at word rest text v long (subst (IsMet c text) known (has.long text))
      ∙ then_none (ended c (held_at at)) _ (λ p. rw (is, known) refl)
  long_goes text (Some t) long is (Some (value s)) known at sound =
      let met = subst (IsMet c text) known (has.long text) in
      out-value c at word rest text t (id_of s) long met.0
      ∙ (under (settles c at) _ (parts_from command None (parts_in (lookup_in (after c at))) (word ∷ rest))
      (λ none. set_value s t (after c at) (sound none) (λ p. parts_from command None p rest) _
      (λ sound2. reads.anywhere (idle_at (used (option_rule (id_of s)) (t ∷ []) (after c at))) idle_open (λ _. sound2))
      ∙ rw (is, known) refl)
      ∙ settled_goes at)
  long_goes text None long is (Some (value s)) known at sound =
      let met = subst (IsMet c text) known (has.long text) in
      out-wait c at word rest text (id_of s) long met.0
      ∙ (under (settles c at) _ (parts_from command None (parts_in (lookup_in (after c at))) (word ∷ rest))
      (λ none. reads.awaiting (after c at) s met.1 (sound none) ∙ rw (is, known) refl)
      ∙ settled_goes at)
  long_goes text (Some t) long is (Some (flag f)) known at sound =
      out-flag_value c at word rest text t (flag_id f) long (subst (IsMet c text) known (has.long text))
      ∙ then_none (ended c (held_at at)) _ (λ p. rw (is, known) refl)
  long_goes text None long is (Some (flag f)) known at sound =
      out-flag c at word rest text (flag_id f) long (subst (IsMet c text) known (has.long text))
      ∙ (under (settles c at) _ (parts_from command None (parts_in (lookup_in (after c at))) (word ∷ rest))
      (λ none. flag_is_set f (after c at) (sound none) (λ p. parts_from command None p rest) _
      (λ sound2. reads.anywhere (idle_at (used (flag_rule (flag_id f)) [] (after c at))) idle_open (λ _. sound2))
      ∙ rw (is, known) refl)
      ∙ settled_goes at)

  closing_goes : bytes_eq word (45 ∷ 45 ∷ []) ≡ true → word_of word ≡ closing → (at : Place) → Goes command c (word ∷ rest) at
  unfolding parts_from
  closing_goes e is at =
      out-closing c at word rest e
      ∙ (closed command c has rest at
      ∙ (map_then (ended c (held_at at)) (with_names rest)
      ∙ then_as (ended c (held_at at)) (λ p. Some (with_names rest p)) (λ p. parts_from command None p (word ∷ rest)) (λ p. rw is refl)))

  short_goes : word_of word ≡ refused → (at : Place) → outcome c (walk_at at false) (word ∷ rest) ≡ None → Goes command c (word ∷ rest) at
  unfolding parts_from
  short_goes is at none = none ∙ then_none (ended c (held_at at)) (λ p. parts_from command None p (word ∷ rest)) (λ p. rw is refl)

  plain_goes : IsPlain word → word_of word ≡ name → (at : Place) → IsOpen at.waiting → IsSoundAfter c at → Goes command c (word ∷ rest) at
  unfolding parts_from
  plain_goes plain is at is_open sound =
      let next : List Row = after c at in
      out-plain c at word rest has.place is_open plain
      ∙ (under (settles c at) _ (parts_from command None (parts_in (lookup_in next)) (word ∷ rest))
      (λ none. reads.anywhere (name_at next word) positional_open (λ _. rw has.by_id (sound_name word next (sound none)))
      ∙ (ap (option_and_then (λ p. parts_from command None p rest)) (ended-name c next word has.by_id)
      ∙ rw is refl))
      ∙ settled_goes at)

  -- the value in the next word
  given_goes : IsPlain word → word_of word ≡ name → (rows : List Row) (s : Setting) → arg_by_id c (id_of s) ≡ Some (option_rule (id_of s))
      → IsSound (lookup_in rows)
      → outcome c (walk_at (wait_at rows (id_of s)) false) (word ∷ rest) ≡ parts_from command (Some s) (parts_in (lookup_in rows)) (word ∷ rest)
  unfolding parts_from
  given_goes plain is rows s found sound =
      out-given c rows word rest (id_of s) found plain
      ∙ (reads.anywhere (place rows (Some (id_of s, word ∷ [])) idle) idle_open (rw found (λ none. sound_use s word rows sound none))
      ∙ rw found (unless-then (use_fault false (option_rule (id_of s)) (word ∷ []) rows) (λ p. parts_from command None p rest)
      (Some (parts_in (lookup_in (used (option_rule (id_of s)) (word ∷ []) rows))))
      ∙ (set_value s word rows sound (λ p. parts_from command None p rest) _ (λ sound2. refl)
      ∙ rw is refl)))

  -- another word is no value, and the option stays without one
  no_value : (rows : List Row) (s : Setting) → arg_by_id c (id_of s) ≡ Some (option_rule (id_of s))
      → (IsSoundAfter c (wait_at rows (id_of s)) → Goes command c (word ∷ rest) (wait_at rows (id_of s)))
      → outcome c (walk_at (wait_at rows (id_of s)) false) (word ∷ rest) ≡ None
  no_value rows s found goes =
      goes (rw found (λ none. absurd (cons_nil none))) ∙ rw found refl
    where
      cons_nil : {A : Type 0} {x : A} {xs : List A} → x ∷ xs ≡ [] → ⊥
      cons_nil h = cc

  reads_word : IsUtf8 word → Lexed word → Reads command c (word ∷ rest)
  unfolding parts_from
  reads_word utf8 (closes e is) = record {
    anywhere = λ at is_open sound. closing_goes e is at;
    awaiting = λ rows s found sound. no_value rows s found (λ h. closing_goes e is (wait_at rows (id_of s))) ∙ rw is refl;
  }
  reads_word utf8 (longs text v long is) = record {
    anywhere = λ at is_open sound. long_goes text v long is (option_of command text) refl at sound;
    awaiting = λ rows s found sound. no_value rows s found (λ h.
        long_goes text v long is (option_of command text) refl (wait_at rows (id_of s)) h) ∙ rw is refl;
  }
  reads_word utf8 (shorts b flags short is word_is) =
      let char : is_some (slice_get (chars (b ∷ flags)) 0) ≡ true = char_after_dash b flags (subst IsUtf8 word_is utf8) in record {
        anywhere = λ at is_open sound. short_goes is at (out-short c at word rest b flags short char has.short);
        awaiting = λ rows s found sound. out-short c (wait_at rows (id_of s)) word rest b flags short char has.short ∙ rw is refl;
      }
  reads_word utf8 (plains plain is) = record {
    anywhere = λ at is_open sound. plain_goes plain is at is_open sound;
    awaiting = λ rows s found sound. given_goes plain is rows s found sound;
  }

-- each word is text
abbrev pub AreTexts : List Text → Type 0
AreTexts [] = Unit {0}
AreTexts (word ∷ rest) = IsUtf8 word × AreTexts rest

pub reads : (command : Command) (c : List Rule) → HasRules command c → (words : List Text) → AreTexts words → Reads command c words
reads command c has [] texts = reads_end command c
reads command c has (word ∷ rest) texts = reads_word command c has word rest (reads command c has rest texts.1) texts.0 (lexed word)
