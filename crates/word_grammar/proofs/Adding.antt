-- Arguments, added one after the other to what was said before them.
use Rattle.std.proofs.Common.{◌≡◌, ◌∙◌, ap, ap₂, sym, subst, true, false, Bool, List, [], ◌∷◌, ◌++◌, Option, None, Some, is_some, refl, inl, inr}
use Rattle.std.proofs.Common.{if◌then◌else◌, bytes_eq, option_to_list, option_and_then, append_assoc, append-nil}
use Rattle.std.proofs.lemmas.Slice.Eq.{bytes_eq-Decides}
use Rattle.std.proofs.lemmas.Bool.{cases_Bool}
use Rattle.switch_words.specs.Options.{rounds, depth, workers, pace_us, line_rate, scheduler, slots, journal, reference, queues, packets, alone, long}
use Rattle.switch_words.specs.Options.{Switch, value, flag, command_named, is_option_of, option_of}
use Rattle.switch_words.specs.Parts.{Parts, is_given, set_flag, set_text, text_in, with_flag, with_names, with_text}
use Rattle.word_grammar.specs.Grammar.{Argument, AreWritten, IsWritten, Text, given, names_in}
use Rattle.word_grammar.specs.Grammar as arg
use Rattle.word_grammar.proofs.Ids.{Command, at_command, id_is, id_of, ids_differ}
use Rattle.word_grammar.proofs.Options.{none_is_some, some_is}

-- ---- the texts of an option, and with one more

abbrev pub flag_texts : Bool → List Text
flag_texts holds = if holds then [] ∷ [] else []

abbrev pub texts_in : Parts → Switch → List Text
texts_in parts (value s) = option_to_list (text_in parts s)
texts_in parts (flag f) = flag_texts (is_given parts.flags f)

abbrev pub put : Parts → Switch → Text → Parts
put parts (value s) text = set_text parts s text
put parts (flag f) text = record parts { flags = set_flag parts.flags f }

abbrev pub has : Parts → Switch → Bool
has parts (value s) = is_some (text_in parts s)
has parts (flag f) = is_given parts.flags f

abbrev pub argument_of : Switch → Text → Argument
argument_of (value s) text = arg.option (id_of (value s)) text
argument_of (flag f) text = arg.flag (id_of (flag f))

no_text : (o : Option Text) → is_some o ≡ false → option_to_list o ≡ []
no_text None h = refl
no_text (Some text) h = cc

has_none : (parts : Parts) (w : Switch) → has parts w ≡ false → texts_in parts w ≡ []
has_none parts (value s) h = no_text (text_in parts s) h
has_none parts (flag f) h = rw h refl

one_text : (o : Option Text) → is_some o ≡ true → (text : Text) × (option_to_list o ≡ text ∷ [])
one_text None h = cc
one_text (Some text) h = (text, refl)

has_one : (parts : Parts) (w : Switch) → has parts w ≡ true → (text : Text) × (texts_in parts w ≡ text ∷ [])
has_one parts (value s) h = one_text (text_in parts s) h
has_one parts (flag f) h = ([], rw h refl)

put_texts : (parts : Parts) (w x : Switch) (text : Text) → texts_in parts w ≡ []
    → texts_in parts x ++ given (id_of x) (argument_of w text ∷ []) ≡ texts_in (put parts w text) x
put_texts parts (value rounds) (value rounds) text none = rw none refl
put_texts parts (value depth) (value depth) text none = rw none refl
put_texts parts (value workers) (value workers) text none = rw none refl
put_texts parts (value pace_us) (value pace_us) text none = rw none refl
put_texts parts (value line_rate) (value line_rate) text none = rw none refl
put_texts parts (value scheduler) (value scheduler) text none = rw none refl
put_texts parts (flag slots) (flag slots) text none = rw none refl
put_texts parts (flag journal) (flag journal) text none = rw none refl
put_texts parts (flag reference) (flag reference) text none = rw none refl
put_texts parts (flag queues) (flag queues) text none = rw none refl
put_texts parts (flag packets) (flag packets) text none = rw none refl
put_texts parts (flag alone) (flag alone) text none = rw none refl
put_texts parts (flag long) (flag long) text none = rw none refl
put_texts parts (value rounds) (flag slots) text none = append-nil _
put_texts parts (value depth) (flag slots) text none = append-nil _
put_texts parts (value workers) (flag slots) text none = append-nil _
put_texts parts (value pace_us) (flag slots) text none = append-nil _
put_texts parts (value line_rate) (flag slots) text none = append-nil _
put_texts parts (value scheduler) (flag slots) text none = append-nil _
put_texts parts (flag slots) (value rounds) text none = append-nil _
put_texts parts (flag journal) (value rounds) text none = append-nil _
put_texts parts (flag reference) (value rounds) text none = append-nil _
put_texts parts (flag queues) (value rounds) text none = append-nil _
put_texts parts (flag packets) (value rounds) text none = append-nil _
put_texts parts (flag alone) (value rounds) text none = append-nil _
put_texts parts (flag long) (value rounds) text none = append-nil _
put_texts parts _ _ text none = append-nil _

put_names : (parts : Parts) (w : Switch) (text : Text) → parts.names ++ names_in (argument_of w text ∷ []) ≡ (put parts w text).names
put_names parts (value rounds) text = append-nil _
put_names parts (flag slots) text = append-nil _
put_names parts (value _) text = append-nil _
put_names parts (flag _) text = append-nil _

-- ---- arguments that a command knows

pub data IsKnown (command : Command) (argument : Argument) : Type 0 where
  switched : (w : Switch) (text : Text) → option_of command (id_of w) ≡ Some w → argument ≡ argument_of w text → IsKnown command argument
  named : (text : Text) → argument ≡ arg.name text → IsKnown command argument

abbrev pub AreKnown : Command → List Argument → Type 0
AreKnown command [] = Unit {0}
AreKnown command (argument ∷ more) = IsKnown command argument × AreKnown command more

known : (line : Text) (command : Command) → command_named line ≡ Some command → (argument : Argument) (words : List Text) → IsWritten line argument words
    → IsKnown command argument
known line command at (arg.option id text) words written =
    let found : option_of command id ≡ Some (value written.0) = sym (at_command line command at id) ∙ written.1 in
    let is : id ≡ id_of (value written.0) = id_is command id (value written.0) found in
    switched (value written.0) text (subst (λ (t : Text). option_of command t ≡ Some (value written.0)) is found)
    (ap (λ (t : Text). arg.option t text) is)
known line command at (arg.flag id) words written =
    let found : option_of command id ≡ Some (flag written.0) = sym (at_command line command at id) ∙ written.1 in
    let is : id ≡ id_of (flag written.0) = id_is command id (flag written.0) found in
    switched (flag written.0) [] (subst (λ (t : Text). option_of command t ≡ Some (flag written.0)) is found) (ap arg.flag is)
known line command at (arg.name text) words written = named text refl

pub are_known : (line : Text) (command : Command) → command_named line ≡ Some command
    → (arguments : List Argument) (words : List Text) → AreWritten line arguments words → AreKnown command arguments
are_known line command at [] words written = tt
are_known line command at (argument ∷ more) words written =
    (known line command at argument written.0 written.3, are_known line command at more written.1 written.4)

-- ---- adding

abbrev pub give_value : Parts → Text → Switch → Option Parts
give_value parts text (value s) = with_text parts s text
give_value parts text (flag f) = None

abbrev pub give_flag : Parts → Switch → Option Parts
give_flag parts (value s) = None
give_flag parts (flag f) = with_flag parts f

abbrev pub add : Command → Parts → Argument → Option Parts
add command parts (arg.option id text) = option_and_then (give_value parts text) (option_of command id)
add command parts (arg.flag id) = option_and_then (give_flag parts) (option_of command id)
add command parts (arg.name text) = Some (with_names (text ∷ []) parts)

abbrev pub add_all : Command → Parts → List Argument → Option Parts
add_all command parts [] = Some parts
add_all command parts (argument ∷ more) = option_and_then (λ next. add_all command next more) (add command parts argument)

add_is : (command : Command) (parts : Parts) (w : Switch) (text : Text) → option_of command (id_of w) ≡ Some w
    → add command parts (argument_of w text) ≡ (if has parts w then None else Some (put parts w text))
add_is command parts (value s) text is = rw is refl
add_is command parts (flag f) text is = rw is refl

-- ---- what arguments say, and what is said with them

pub record Agrees (parts : Parts) (arguments : List Argument) (all : Parts) : Type 0 where
  pub texts : (w : Switch) → texts_in parts w ++ given (id_of w) arguments ≡ texts_in all w
  pub names : parts.names ++ names_in arguments ≡ all.names

pub given-cons : (id : Text) (argument : Argument) (more : List Argument) → given id (argument ∷ more) ≡ given id (argument ∷ []) ++ given id more
given-cons id (arg.option other text) more = elim (cases_Bool (bytes_eq other id)) [ inl e ↦ rw e refl | inr e ↦ rw e refl ]
given-cons id (arg.flag other) more = elim (cases_Bool (bytes_eq other id)) [ inl e ↦ rw e refl | inr e ↦ rw e refl ]
given-cons id (arg.name text) more = refl

names-cons : (argument : Argument) (more : List Argument) → names_in (argument ∷ more) ≡ names_in (argument ∷ []) ++ names_in more
names-cons (arg.option other text) more = refl
names-cons (arg.flag other) more = refl
names-cons (arg.name text) more = refl

joined : (first all here later next : List Text) → all ≡ here ++ later → first ++ here ≡ next → first ++ all ≡ next ++ later
joined first all here later next is step =
    ap (λ (t : List Text). first ++ t) is ∙ (sym (append_assoc first here later) ∙ ap (λ (t : List Text). t ++ later) step)

agrees_cons : (parts next all : Parts) (argument : Argument) (more : List Argument) → Agrees parts (argument ∷ []) next → Agrees next more all
    → Agrees parts (argument ∷ more) all
agrees_cons parts next all argument more step later = record {
  texts = λ w. joined (texts_in parts w) _ _ (given (id_of w) more) (texts_in next w) (given-cons (id_of w) argument more) (step.texts w) ∙ later.texts w;
  names = joined parts.names _ _ (names_in more) next.names (names-cons argument more) step.names ∙ later.names;
}

agrees_tail : (parts next all : Parts) (argument : Argument) (more : List Argument) → Agrees parts (argument ∷ []) next
    → Agrees parts (argument ∷ more) all → Agrees next more all
agrees_tail parts next all argument more step whole = record {
  texts = λ w. sym (joined (texts_in parts w) _ _ (given (id_of w) more) (texts_in next w) (given-cons (id_of w) argument more) (step.texts w)) ∙ whole.texts w;
  names = sym (joined parts.names _ _ (names_in more) next.names (names-cons argument more) step.names) ∙ whole.names;
}

agrees_put : (parts : Parts) (w : Switch) (text : Text) → texts_in parts w ≡ [] → Agrees parts (argument_of w text ∷ []) (put parts w text)
agrees_put parts w text none = record { texts = λ x. put_texts parts w x text none; names = put_names parts w text }

agrees_name : (parts : Parts) (text : Text) → Agrees parts (arg.name text ∷ []) (with_names (text ∷ []) parts)
agrees_name parts text = record { texts = same; names = refl }
  where
    same : (w : Switch) → texts_in parts w ++ [] ≡ texts_in (with_names (text ∷ []) parts) w
    same (value rounds) = append-nil _
    same (flag slots) = append-nil _
    same (value _) = append-nil _
    same (flag _) = append-nil _

-- ---- nothing is added by no arguments

same_option : (a b : Option Text) → option_to_list a ++ [] ≡ option_to_list b → a ≡ b
same_option None None h = refl
same_option None (Some y) h = cc
same_option (Some x) None h = cc
same_option (Some x) (Some y) h = cc

same_flag : (a b : Bool) → flag_texts a ++ [] ≡ flag_texts b → a ≡ b
same_flag true true h = refl
same_flag true false h = cc
same_flag false true h = cc
same_flag false false h = refl

same_parts : (parts all : Parts) → Agrees parts [] all → parts ≡ all
same_parts parts all agrees = λ i. record {
  rounds = same_option parts.rounds all.rounds (agrees.texts (value rounds)) i;
  depth = same_option parts.depth all.depth (agrees.texts (value depth)) i;
  workers = same_option parts.workers all.workers (agrees.texts (value workers)) i;
  pace_us = same_option parts.pace_us all.pace_us (agrees.texts (value pace_us)) i;
  line_rate = same_option parts.line_rate all.line_rate (agrees.texts (value line_rate)) i;
  scheduler = same_option parts.scheduler all.scheduler (agrees.texts (value scheduler)) i;
  flags = record {
    slots = same_flag parts.flags.slots all.flags.slots (agrees.texts (flag slots)) i;
    journal = same_flag parts.flags.journal all.flags.journal (agrees.texts (flag journal)) i;
    reference = same_flag parts.flags.reference all.flags.reference (agrees.texts (flag reference)) i;
    queues = same_flag parts.flags.queues all.flags.queues (agrees.texts (flag queues)) i;
    packets = same_flag parts.flags.packets all.flags.packets (agrees.texts (flag packets)) i;
    alone = same_flag parts.flags.alone all.flags.alone (agrees.texts (flag alone)) i;
    long = same_flag parts.flags.long all.flags.long (agrees.texts (flag long)) i;
  };
  names = (sym (append-nil parts.names) ∙ agrees.names) i;
}

agrees_nothing : (parts all : Parts) → parts ≡ all → Agrees parts [] all
agrees_nothing parts all is = record {
  texts = λ w. append-nil _ ∙ ap (λ (p : Parts). texts_in p w) is;
  names = append-nil _ ∙ ap (λ (p : Parts). p.names) is;
}

-- ---- both ways

pub added_agrees : (command : Command) (arguments : List Argument) (parts all : Parts) → AreKnown command arguments
    → add_all command parts arguments ≡ Some all → Agrees parts arguments all
added_agrees command [] parts all are h = agrees_nothing parts all (some_is h)
added_agrees command (argument ∷ more) parts all (switched w text is same, later) h =
    let chain : option_and_then (λ next. add_all command next more) (if has parts w then None else Some (put parts w text)) ≡ Some all =
    ap (option_and_then (λ next. add_all command next more)) (sym (ap (add command parts) same ∙ add_is command parts w text is)) ∙ h in
    elim (cases_Bool (has parts w)) [
      | inl e ↦ absurd (none_is_some (rw e at chain))
      | inr e ↦
          let rest = added_agrees command more (put parts w text) all later (rw e at chain) in
          rw same (agrees_cons parts (put parts w text) all (argument_of w text) more (agrees_put parts w text (has_none parts w e)) rest)
    ]
added_agrees command (argument ∷ more) parts all (named text same, later) h =
    let chain : add_all command (with_names (text ∷ []) parts) more ≡ Some all =
    ap (option_and_then (λ next. add_all command next more)) (sym (ap (add command parts) same)) ∙ h in
    let rest = added_agrees command more (with_names (text ∷ []) parts) all later chain in
    rw same (agrees_cons parts (with_names (text ∷ []) parts) all (arg.name text) more (agrees_name parts text) rest)

few_texts : (o : Option Text) (first second : Text) (more : List Text) → first ∷ second ∷ more ≡ option_to_list o → ⊥
few_texts None first second more h = cc
few_texts (Some text) first second more h = cc

few_flags : (holds : Bool) (first second : Text) (more : List Text) → first ∷ second ∷ more ≡ flag_texts holds → ⊥
few_flags true first second more h = cc
few_flags false first second more h = cc

-- no option has two texts
pub few : (parts : Parts) (w : Switch) (first second : Text) (more : List Text) → first ∷ second ∷ more ≡ texts_in parts w → ⊥
few parts (value s) = few_texts (text_in parts s)
few parts (flag f) = few_flags (is_given parts.flags f)

given_one : (w : Switch) (text : Text) → (t : Text) × (given (id_of w) (argument_of w text ∷ []) ≡ t ∷ [])
given_one (value rounds) text = (text, refl)
given_one (value depth) text = (text, refl)
given_one (value workers) text = (text, refl)
given_one (value pace_us) text = (text, refl)
given_one (value line_rate) text = (text, refl)
given_one (value scheduler) text = (text, refl)
given_one (flag slots) text = ([], refl)
given_one (flag journal) text = ([], refl)
given_one (flag reference) text = ([], refl)
given_one (flag queues) text = ([], refl)
given_one (flag packets) text = ([], refl)
given_one (flag alone) text = ([], refl)
given_one (flag long) text = ([], refl)

-- so one that was given before is not given again
not_again : (parts all : Parts) (w : Switch) (text : Text) (more : List Argument) → has parts w ≡ true → Agrees parts (argument_of w text ∷ more) all → ⊥
not_again parts all w text more e agrees =
    let before = has_one parts w e in
    let here = given_one w text in
    few all w before.0 here.0 (given (id_of w) more)
    (ap₂ (λ (a b : List Text). a ++ (b ++ given (id_of w) more)) (sym before.1) (sym here.1)
    ∙ (ap (λ (t : List Text). texts_in parts w ++ t) (sym (given-cons (id_of w) (argument_of w text) more)) ∙ agrees.texts w))

not_before : (before : Bool) (next : Parts) → before ≡ false → (if before then None else Some next) ≡ Some next
not_before before next e = rw e refl

pub agrees_added : (command : Command) (arguments : List Argument) (parts all : Parts) → AreKnown command arguments
    → Agrees parts arguments all → add_all command parts arguments ≡ Some all
agrees_added command [] parts all are agrees = ap (λ (p : Parts). Some p) (same_parts parts all agrees)
agrees_added command (argument ∷ more) parts all (switched w text is same, later) agrees =
    let here : Agrees parts (argument_of w text ∷ more) all = subst (λ (a : Argument). Agrees parts (a ∷ more) all) same agrees in
    elim (cases_Bool (has parts w)) [
      | inl e ↦ absurd (not_again parts all w text more e here)
      | inr e ↦
          let rest = agrees_added command more (put parts w text) all later
          (agrees_tail parts (put parts w text) all (argument_of w text) more (agrees_put parts w text (has_none parts w e)) here) in
          ap (option_and_then (λ next. add_all command next more)) (ap (add command parts) same
          ∙ (add_is command parts w text is ∙ not_before (has parts w) (put parts w text) e)) ∙ rest
    ]
agrees_added command (argument ∷ more) parts all (named text same, later) agrees =
    let here : Agrees parts (arg.name text ∷ more) all = subst (λ (a : Argument). Agrees parts (a ∷ more) all) same agrees in
    ap (option_and_then (λ next. add_all command next more)) (ap (add command parts) same)
    ∙ agrees_added command more (with_names (text ∷ []) parts) all later
    (agrees_tail parts (with_names (text ∷ []) parts) all (arg.name text) more (agrees_name parts text) here)

-- ---- an option that a command lacks

pub none_given : (command : Command) (arguments : List Argument) (x : Switch) → AreKnown command arguments → is_option_of command x ≡ false
    → given (id_of x) arguments ≡ []
none_given command [] x are lacks = refl
none_given command (argument ∷ more) x (switched w text is same, later) lacks =
    let other : bytes_eq (id_of w) (id_of x) ≡ false = elim (cases_Bool (bytes_eq (id_of w) (id_of x))) [
      | inl e ↦ absurd (ids_differ command w x is lacks ((bytes_eq-Decides (id_of w) (id_of x)).0 e))
      | inr e ↦ e
    ] in
    ap (λ (a : Argument). given (id_of x) (a ∷ more)) same ∙ (skipped w text other ∙ none_given command more x later lacks)
  where
    skipped : (w : Switch) (text : Text) → bytes_eq (id_of w) (id_of x) ≡ false → given (id_of x) (argument_of w text ∷ more) ≡ given (id_of x) more
    skipped (value s) text e = rw e refl
    skipped (flag f) text e = rw e refl
none_given command (argument ∷ more) x (named text same, later) lacks =
    ap (λ (a : Argument). given (id_of x) (a ∷ more)) same ∙ none_given command more x later lacks
