-- What is read of the rows of a parse, and what a use of an argument adds to it.
use Rattle.std.proofs.Common.{◌≡◌, ◌∙◌, ◌++◌, ap, sym, subst, false, List, [], ◌∷◌, Option, None, is_some, refl, inl, inr, codes}
use Rattle.std.specs.Prelude.{unwrap_or, option_and_then}
use Rattle.std.specs.Str.{bytes_eq}
use Rattle.std.proofs.lemmas.Bool.{cases_Bool}
use Rattle.std.proofs.option.Match.{None-if_not_some}
use Rattle.clap.specs.Walk.{Row, Text, has_row, used}
use Rattle.clap.specs.Faults.{use_fault}
use Rattle.clap.specs.declared.builder.value_parser.Reading.TheVariants.{AsWritten}
use Rattle.clap.specs.declared.parser.matches.ValueSource.TheVariants.{CommandLine}
use Rattle.switch_words.specs.Options.{Setting, rounds, depth, workers, pace_us, line_rate, scheduler}
use Rattle.switch_words.specs.Options.{Flag, slots, journal, reference, queues, packets, alone, long}
use Rattle.switch_words.specs.LineSteps.{Lookup, first_text, is_true_text, lookup_in, parts_in}
use Rattle.switch_words.specs.Parts.{Parts, is_given, set_flag, set_text, text_in, with_flag, with_names, with_text}
use Rattle.switch_words.proofs.Rows.{has_row-lookup, lookup-with, put, without-none}
use Rattle.switch_words.proofs.Rules.{flag_id, flag_rule, id_of, names_rule, option_rule}
use Rattle.switch_words.proofs.Unless.{unless}

-- ---- the parts that the rows have

-- no row is without a text, and a flag is true
pub record IsSound (lookup : Lookup) : Type 0 where
  pub texts : (id : Text) → is_some (first_text (lookup id)) ≡ is_some (lookup id)
  pub flag : (f : Flag) → is_true_text (first_text (lookup (flag_id f))) ≡ is_some (lookup (flag_id f))

put_texts : (id : Text) (v : Text) (vs : List Text) (lookup : Lookup) → IsSound lookup → (other : Text)
    → is_some (first_text (put id (v ∷ vs) lookup other)) ≡ is_some (put id (v ∷ vs) lookup other)
put_texts id v vs lookup sound other = elim (cases_Bool (bytes_eq id other)) [
  | inl h ↦ rw h refl
  | inr h ↦ rw h (sound.texts other)
]

-- no option, and no name, has the id of a flag
value_apart : (s : Setting) (f : Flag) → bytes_eq (id_of s) (flag_id f) ≡ false
value_apart rounds slots = refl
value_apart rounds journal = refl
value_apart rounds reference = refl
value_apart rounds queues = refl
value_apart rounds packets = refl
value_apart rounds alone = refl
value_apart rounds long = refl
value_apart depth slots = refl
value_apart depth journal = refl
value_apart depth reference = refl
value_apart depth queues = refl
value_apart depth packets = refl
value_apart depth alone = refl
value_apart depth long = refl
value_apart workers slots = refl
value_apart workers journal = refl
value_apart workers reference = refl
value_apart workers queues = refl
value_apart workers packets = refl
value_apart workers alone = refl
value_apart workers long = refl
value_apart pace_us slots = refl
value_apart pace_us journal = refl
value_apart pace_us reference = refl
value_apart pace_us queues = refl
value_apart pace_us packets = refl
value_apart pace_us alone = refl
value_apart pace_us long = refl
value_apart line_rate slots = refl
value_apart line_rate journal = refl
value_apart line_rate reference = refl
value_apart line_rate queues = refl
value_apart line_rate packets = refl
value_apart line_rate alone = refl
value_apart line_rate long = refl
value_apart scheduler slots = refl
value_apart scheduler journal = refl
value_apart scheduler reference = refl
value_apart scheduler queues = refl
value_apart scheduler packets = refl
value_apart scheduler alone = refl
value_apart scheduler long = refl

names_apart : (f : Flag) → bytes_eq (codes "names") (flag_id f) ≡ false
names_apart slots = refl
names_apart journal = refl
names_apart reference = refl
names_apart queues = refl
names_apart packets = refl
names_apart alone = refl
names_apart long = refl

-- what is put at another id leaves a flag as it is
flag_stays : (id : Text) (vs : List Text) (lookup : Lookup) (f : Flag) → IsSound lookup → bytes_eq id (flag_id f) ≡ false
    → is_true_text (first_text (put id vs lookup (flag_id f))) ≡ is_some (put id vs lookup (flag_id f))
flag_stays id vs lookup f sound apart = rw apart (sound.flag f)

pub sound_value : (s : Setting) (v : Text) (lookup : Lookup) → IsSound lookup → IsSound (put (id_of s) (v ∷ []) lookup)
sound_value s v lookup sound = record {
  texts = put_texts (id_of s) v [] lookup sound;
  flag = λ f. flag_stays (id_of s) (v ∷ []) lookup f sound (value_apart s f);
}

pub sound_flag : (f : Flag) (lookup : Lookup) → IsSound lookup → IsSound (put (flag_id f) (codes "true" ∷ []) lookup)
sound_flag f lookup sound = record {
  texts = put_texts (flag_id f) (codes "true") [] lookup sound;
  flag = λ g. elim (cases_Bool (bytes_eq (flag_id f) (flag_id g))) [
    | inl h ↦ rw h refl
    | inr h ↦ rw h (sound.flag g)
  ];
}

more_names : (lookup : Lookup) (old : List Text) (x : Text) → IsSound lookup → IsSound (put (codes "names") (old ++ x ∷ []) lookup)
more_names lookup [] x sound = record {
  texts = put_texts (codes "names") x [] lookup sound;
  flag = λ f. flag_stays (codes "names") (x ∷ []) lookup f sound (names_apart f);
}
more_names lookup (y ∷ ys) x sound = record {
  texts = put_texts (codes "names") y (ys ++ x ∷ []) lookup sound;
  flag = λ f. flag_stays (codes "names") (y ∷ (ys ++ x ∷ [])) lookup f sound (names_apart f);
}

is_given-parts_in : (f : Flag) (lookup : Lookup) → is_given (parts_in lookup).flags f ≡ is_true_text (first_text (lookup (flag_id f)))
is_given-parts_in slots lookup = refl
is_given-parts_in journal lookup = refl
is_given-parts_in reference lookup = refl
is_given-parts_in queues lookup = refl
is_given-parts_in packets lookup = refl
is_given-parts_in alone lookup = refl
is_given-parts_in long lookup = refl

parts_in-put_flag : (f : Flag) (lookup : Lookup)
    → parts_in (put (flag_id f) (codes "true" ∷ []) lookup) ≡ record (parts_in lookup) { flags = set_flag (parts_in lookup).flags f }
parts_in-put_flag slots lookup = refl
parts_in-put_flag journal lookup = refl
parts_in-put_flag reference lookup = refl
parts_in-put_flag queues lookup = refl
parts_in-put_flag packets lookup = refl
parts_in-put_flag alone lookup = refl
parts_in-put_flag long lookup = refl

-- the default of a flag says what no flag says
pub parts_in-put_default : (f : Flag) (lookup : Lookup) → lookup (flag_id f) ≡ None → parts_in (put (flag_id f) (codes "false" ∷ []) lookup) ≡ parts_in lookup
parts_in-put_default slots lookup none = rw none refl
parts_in-put_default journal lookup none = rw none refl
parts_in-put_default reference lookup none = rw none refl
parts_in-put_default queues lookup none = rw none refl
parts_in-put_default packets lookup none = rw none refl
parts_in-put_default alone lookup none = rw none refl
parts_in-put_default long lookup none = rw none refl

text_in-parts_in : (s : Setting) (lookup : Lookup) → text_in (parts_in lookup) s ≡ first_text (lookup (id_of s))
text_in-parts_in rounds lookup = refl
text_in-parts_in depth lookup = refl
text_in-parts_in workers lookup = refl
text_in-parts_in pace_us lookup = refl
text_in-parts_in line_rate lookup = refl
text_in-parts_in scheduler lookup = refl

parts_in-put : (s : Setting) (v : Text) (lookup : Lookup) → parts_in (put (id_of s) (v ∷ []) lookup) ≡ set_text (parts_in lookup) s v
parts_in-put rounds v lookup = refl
parts_in-put depth v lookup = refl
parts_in-put workers v lookup = refl
parts_in-put pace_us v lookup = refl
parts_in-put line_rate v lookup = refl
parts_in-put scheduler v lookup = refl

-- ---- what a use of an argument adds

-- a first use adds the values
first_use : (id : Text) (v : Text) (rows : List Row) → has_row id rows ≡ false
    → lookup_in (used (option_rule id) (v ∷ []) rows) ≡ put id (v ∷ []) (lookup_in rows)
first_use id v rows h =
    let none : lookup_in rows id ≡ None = None-if_not_some _ (sym (has_row-lookup id rows) ∙ h) in
    let each : (other : Text) → lookup_in (used (option_rule id) (v ∷ []) rows) other ≡ put id (v ∷ []) (lookup_in rows) other =
    λ other. rw (without-none id rows none)
    (lookup-with id AsWritten CommandLine (v ∷ []) rows other
    ∙ ap (λ (o : Option (List Text)). put id (unwrap_or o [] ++ v ∷ []) (lookup_in rows) other) none) in
    λ i other. each other i

cons_nil : {A : Type 0} (x : A) (xs : List A) → x ∷ xs ≡ [] → ⊥
cons_nil x xs h = cc

-- a use that passes leaves the rows sound
pub sound_use : (s : Setting) (v : Text) (rows : List Row) → IsSound (lookup_in rows) → use_fault false (option_rule (id_of s)) (v ∷ []) rows ≡ []
    → IsSound (lookup_in (used (option_rule (id_of s)) (v ∷ []) rows))
sound_use s v rows sound passes = elim (cases_Bool (has_row (id_of s) rows)) [
  | inl h ↦ absurd (cons_nil _ _ (rw h at passes))
  | inr h ↦ subst IsSound (sym (first_use (id_of s) v rows h)) (sound_value s v (lookup_in rows) sound)
]

pub set_value : (s : Setting) (v : Text) (rows : List Row) → IsSound (lookup_in rows) → (k : Parts → Option Parts) (x : Option Parts)
    → (IsSound (lookup_in (used (option_rule (id_of s)) (v ∷ []) rows)) → x ≡ k (parts_in (lookup_in (used (option_rule (id_of s)) (v ∷ []) rows))))
    → unless (use_fault false (option_rule (id_of s)) (v ∷ []) rows) x ≡ option_and_then k (with_text (parts_in (lookup_in rows)) s v)
set_value s v rows sound k x next =
    let there : is_some (text_in (parts_in (lookup_in rows)) s) ≡ has_row (id_of s) rows =
    ap is_some (text_in-parts_in s (lookup_in rows)) ∙ (sound.texts (id_of s) ∙ sym (has_row-lookup (id_of s) rows)) in
    elim (cases_Bool (has_row (id_of s) rows)) [
      | inl h ↦ rw (there, h) refl
      | inr h ↦
          let is = first_use (id_of s) v rows h in
          let goes = next (subst IsSound (sym is) (sound_value s v (lookup_in rows) sound)) in
          rw (there, h) (goes ∙ ap k (ap parts_in is ∙ parts_in-put s v (lookup_in rows)))
    ]

pub flag_is_set : (f : Flag) (rows : List Row) → IsSound (lookup_in rows) → (k : Parts → Option Parts) (x : Option Parts)
    → (IsSound (lookup_in (used (flag_rule (flag_id f)) [] rows)) → x ≡ k (parts_in (lookup_in (used (flag_rule (flag_id f)) [] rows))))
    → unless (use_fault false (flag_rule (flag_id f)) [] rows) x ≡ option_and_then k (with_flag (parts_in (lookup_in rows)) f)
flag_is_set f rows sound k x next =
    let there : is_given (parts_in (lookup_in rows)).flags f ≡ has_row (flag_id f) rows = is_given-parts_in f (lookup_in rows)
    ∙ (sound.flag f ∙ sym (has_row-lookup (flag_id f) rows)) in
    elim (cases_Bool (has_row (flag_id f) rows)) [
      | inl h ↦ rw (there, h) refl
      | inr h ↦
          let none : lookup_in rows (flag_id f) ≡ None = None-if_not_some _ (sym (has_row-lookup (flag_id f) rows) ∙ h) in
          let each : (other : Text) → lookup_in (used (flag_rule (flag_id f)) [] rows) other ≡ put (flag_id f) (codes "true" ∷ []) (lookup_in rows) other =
          λ other. rw (without-none (flag_id f) rows none) (lookup-with (flag_id f) AsWritten CommandLine (codes "true" ∷ []) rows other
          ∙ ap (λ (o : Option (List Text)). put (flag_id f) (unwrap_or o [] ++ codes "true" ∷ []) (lookup_in rows) other) none) in
          let is : lookup_in (used (flag_rule (flag_id f)) [] rows) ≡ put (flag_id f) (codes "true" ∷ []) (lookup_in rows) = λ i other. each other i in
          let goes = next (subst IsSound (sym is) (sound_flag f (lookup_in rows) sound)) in
          rw (there, h) (goes ∙ ap k (ap parts_in is ∙ parts_in-put_flag f (lookup_in rows)))
    ]

-- a name is added to the names
pub add_name : (x : Text) (rows : List Row)
    → lookup_in (used names_rule (x ∷ []) rows) ≡ put (codes "names") (unwrap_or (lookup_in rows (codes "names")) [] ++ x ∷ []) (lookup_in rows)
add_name x rows = λ i other. lookup-with (codes "names") AsWritten CommandLine (x ∷ []) rows other i

pub sound_name : (x : Text) (rows : List Row) → IsSound (lookup_in rows) → IsSound (lookup_in (used names_rule (x ∷ []) rows))
sound_name x rows sound = subst IsSound (sym (add_name x rows)) (more_names (lookup_in rows) _ x sound)

pub parts_name : (x : Text) (rows : List Row) → parts_in (lookup_in (used names_rule (x ∷ []) rows)) ≡ with_names (x ∷ []) (parts_in (lookup_in rows))
parts_name x rows = ap parts_in (add_name x rows)
