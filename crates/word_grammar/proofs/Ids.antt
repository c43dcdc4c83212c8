-- The names of options and flags.
use Rattle.std.proofs.Common.{◌≡◌, ◌∙◌, ap, sym, subst, true, false, ◌++◌, Option, None, Some, refl, inl, inr, codes, if◌then◌else◌, bytes_eq}
use Rattle.std.proofs.Common.{option_and_then}
use Rattle.std.proofs.lemmas.Slice.Eq.{bytes_eq-Decides}
use Rattle.std.proofs.lemmas.Bool.{cases_Bool}
use Rattle.switch_words.specs.Options.{rounds, depth, workers, pace_us, line_rate, scheduler, slots, journal, reference, queues, packets, alone, long}
use Rattle.switch_words.specs.Options.{Switch, value, flag, command_named, option_named, is_option_of, option_of}
use Rattle.switch_words.specs.Parts.{word_of}
use Rattle.switch_words.specs.Parts as word
use Rattle.word_grammar.specs.Grammar.{Text, option_at}
use Rattle.word_grammar.proofs.Options.{none_is_some, some_is}

abbrev domain : {A B : Type 0} → (A → B) → Type 0
domain {A} f = A

-- the commands, a type of which only the functions can be named
abbrev pub Command : Type 0
Command = domain option_of

-- the command of a line that is this word
pub same_command : (line : Text) (command : Command) (word : Text) → command_named line ≡ Some command → line ≡ word → command_named word ≡ Some command
same_command line command word named is = ap command_named (sym is) ∙ named

pub at_command : (line : Text) (command : Command) → command_named line ≡ Some command → (id : Text) → option_at line id ≡ option_of command id
at_command line command named id = ap (option_and_then (λ c. option_of c id)) named

abbrev pub id_of : Switch → Text
id_of (value rounds) = codes "rounds"
id_of (value depth) = codes "depth"
id_of (value workers) = codes "workers"
id_of (value pace_us) = codes "pace-us"
id_of (value line_rate) = codes "line-rate"
id_of (value scheduler) = codes "scheduler"
id_of (flag slots) = codes "slots"
id_of (flag journal) = codes "journal"
id_of (flag reference) = codes "reference"
id_of (flag queues) = codes "queues"
id_of (flag packets) = codes "packets"
id_of (flag alone) = codes "alone"
id_of (flag long) = codes "long"

-- one line of the table of names
line : (id : Text) (w : Switch) (at : Switch) (rest : Option Switch) → (rest ≡ Some w → id ≡ id_of w)
    → (if bytes_eq (id_of at) id then Some at else rest) ≡ Some w → id ≡ id_of w
line id w at rest later h = elim (cases_Bool (bytes_eq (id_of at) id)) [
  | inl e ↦
      let is : Some at ≡ Some w = rw e at h in
      sym ((bytes_eq-Decides (id_of at) id).0 e) ∙ ap id_of (some_is is)
  | inr e ↦ later (rw e at h)
]

nothing : (id : Text) (w : Switch) → None ≡ Some w → id ≡ id_of w
nothing id w h = absurd (none_is_some h)

named_id : (id : Text) (w : Switch) → option_named id ≡ Some w → id ≡ id_of w
named_id id w h =
    line id w (value rounds) _ (line id w (value depth) _ (line id w (value workers) _ (line id w (value pace_us) _
    (line id w (value line_rate) _ (line id w (value scheduler) _ (line id w (flag slots) _ (line id w (flag journal) _
    (line id w (flag reference) _ (line id w (flag queues) _ (line id w (flag packets) _ (line id w (flag alone) _
    (line id w (flag long) _ (nothing id w))))))))))))) h

pub id_named : (w : Switch) → option_named (id_of w) ≡ Some w
id_named (value rounds) = refl
id_named (value depth) = refl
id_named (value workers) = refl
id_named (value pace_us) = refl
id_named (value line_rate) = refl
id_named (value scheduler) = refl
id_named (flag slots) = refl
id_named (flag journal) = refl
id_named (flag reference) = refl
id_named (flag queues) = refl
id_named (flag packets) = refl
id_named (flag alone) = refl
id_named (flag long) = refl

kept : (command : Command) (o : Option Switch) (w : Switch)
    → option_and_then (λ x. if is_option_of command x then Some x else None) o ≡ Some w → (o ≡ Some w) × (is_option_of command w ≡ true)
kept command None w h = absurd (none_is_some h)
kept command (Some x) w h = elim (cases_Bool (is_option_of command x)) [
  | inl e ↦
      let is : Some x ≡ Some w = rw e at h in
      (is, subst (λ y. is_option_of command y ≡ true) (some_is is) e)
  | inr e ↦
      let is : None ≡ Some w = rw e at h in
      absurd (none_is_some is)
]

-- the option of a name
pub id_is : (command : Command) (id : Text) (w : Switch) → option_of command id ≡ Some w → id ≡ id_of w
id_is command id w h = named_id id w (kept command (option_named id) w h).0

-- an option of a command has one name
pub ids_differ : (command : Command) (w x : Switch) → option_of command (id_of w) ≡ Some w → is_option_of command x ≡ false → id_of w ≡ id_of x → ⊥
ids_differ command w x known other same =
    let had : is_option_of command w ≡ true = (kept command (option_named (id_of w)) w known).1 in
    let is : Some w ≡ Some x = sym (id_named w) ∙ (ap option_named same ∙ id_named x) in
    let has : is_option_of command x ≡ true = subst (λ y. is_option_of command y ≡ true) (some_is is) had in
    let bad : true ≡ false = sym has ∙ other in
    cc

-- the word of an option
pub long_word : (w : Switch) → word_of (codes "--" ++ id_of w) ≡ word.option (id_of w) None
long_word (value rounds) = refl
long_word (value depth) = refl
long_word (value workers) = refl
long_word (value pace_us) = refl
long_word (value line_rate) = refl
long_word (value scheduler) = refl
long_word (flag slots) = refl
long_word (flag journal) = refl
long_word (flag reference) = refl
long_word (flag queues) = refl
long_word (flag packets) = refl
long_word (flag alone) = refl
long_word (flag long) = refl

-- and with its value
pub valued_word : (w : Switch) (text : Text) → word_of (codes "--" ++ (id_of w ++ (codes "=" ++ text))) ≡ word.option (id_of w) (Some text)
valued_word (value rounds) text = refl
valued_word (value depth) text = refl
valued_word (value workers) text = refl
valued_word (value pace_us) text = refl
valued_word (value line_rate) text = refl
valued_word (value scheduler) text = refl
valued_word (flag slots) text = refl
valued_word (flag journal) text = refl
valued_word (flag reference) text = refl
valued_word (flag queues) text = refl
valued_word (flag packets) text = refl
valued_word (flag alone) text = refl
valued_word (flag long) text = refl
