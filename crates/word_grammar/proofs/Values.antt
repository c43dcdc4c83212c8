-- The values of options, read and by the grammar.
use Rattle.std.proofs.Common.{◌≡◌, ◌∙◌, ap, sym, subst, true, Bool, List, [], ◌∷◌, Option, None, Some, refl, inl, inr, ℕ, length, codes}
use Rattle.std.proofs.Common.{arith, bytes_eq, nat_le, option_map, option_and_then, option_to_list, unwrap_or}
use Rattle.std.proofs.lemmas.Bool.{cases_Bool}
use Rattle.std.proofs.lemmas.Bool.Decides.{nat_tests}
use Rattle.std.proofs.lemmas.Slice.Eq.{bytes_eq-Decides}
use Rattle.rotating_pick.specs.declared.limits.TheConstants.{MAX_PORTS, MAX_ROUNDS}
use Rattle.line_pace.specs.declared.pace.TheConstants.{MAX_LINE_RATE, MAX_SLOT_MICROS}
use Rattle.scheduler_names.specs.declared.names.SchedulerName.{SchedulerName}
use Rattle.scheduler_names.specs.declared.names.SchedulerName.TheVariants as name
use Rattle.scheduler_names.specs.Words.{scheduler_named, scheduler_word}
use Rattle.switch_words.specs.declared.limits.TheConstants.{MAX_WORKERS}
use Rattle.switch_words.specs.declared.job.Speed.{Speed}
use Rattle.switch_words.specs.declared.job.Speed.TheVariants.{Untimed, SlotMicros, LineRate}
use Rattle.switch_words.specs.declared.job.Settings.{Settings}
use Rattle.switch_words.specs.Limits.{IsUpTo, most_depth}
use Rattle.switch_words.specs.Numbers.{number_within}
use Rattle.switch_words.specs.Options.{rounds, depth, workers, pace_us, line_rate, Switch, value}
use Rattle.switch_words.specs.Parts.{Parts}
use Rattle.switch_words.specs.Reading.{inputs_in, number_given, scheduler_given, settings_of, speed_from, speed_given}
use Rattle.word_grammar.specs.Grammar.{Argument, AreSettings, IsNumber, IsNumberOr, IsScheduler, IsSpeed, Text, given}
use Rattle.word_grammar.proofs.Adding.{texts_in}
use Rattle.word_grammar.proofs.Ids.{id_of}
use Rattle.word_grammar.proofs.Options.{map_some, none_is_some, some_is, then_some}

-- ---- numbers

abbrev pub NumberIs : ℕ → List Text → Option ℕ → Type 0
NumberIs most texts None = texts ≡ []
NumberIs most texts (Some n) = IsNumber most texts n

number_is : (most : ℕ) (o : Option Text) (r : Option ℕ) → number_given most o ≡ Some r → NumberIs most (option_to_list o) r
number_is most None None h = refl
number_is most None (Some n) h = absurd (none_is_some (some_is h))
number_is most (Some text) r h =
    let m = map_some (λ (n : ℕ). Some n) (number_within 1 most text) r h in
    subst (NumberIs most (text ∷ [])) m.2 (text, refl, m.1)

is_number : (most : ℕ) (o : Option Text) (r : Option ℕ) → NumberIs most (option_to_list o) r → number_given most o ≡ Some r
is_number most None None h = refl
is_number most None (Some n) (text, is, reads) = cc
is_number most (Some t) None h = cc
is_number most (Some t) (Some n) (text, is, reads) =
    let same : t ≡ text = cc in
    ap (option_map (λ (n : ℕ). Some n)) (ap (number_within 1 most) same ∙ reads)

number_or : (standard most : ℕ) (texts : List Text) (r : Option ℕ) → NumberIs most texts r → IsNumberOr standard most texts (unwrap_or r standard)
number_or standard most texts None h = inr (h, refl)
number_or standard most texts (Some n) h = inl h

or_number : (standard most : ℕ) (texts : List Text) (n : ℕ) → IsNumberOr standard most texts n
    → (r : Option ℕ) × NumberIs most texts r × (unwrap_or r standard ≡ n)
or_number standard most texts n (inl h) = (Some n, h, refl)
or_number standard most texts n (inr (none, is)) = (None, none, sym is)

-- ---- the speed

speed_is : (a b : Option ℕ) (paces rates : List Text) (speed : Speed) → NumberIs MAX_SLOT_MICROS paces a → NumberIs MAX_LINE_RATE rates b
    → speed_from a b ≡ Some speed → IsSpeed paces rates speed
speed_is None None paces rates speed p r h = subst (IsSpeed paces rates) (some_is h) (p, r)
speed_is (Some n) None paces rates speed p r h = subst (IsSpeed paces rates) (some_is h) (p, r)
speed_is None (Some n) paces rates speed p r h = subst (IsSpeed paces rates) (some_is h) (p, r)
speed_is (Some n) (Some m) paces rates speed p r h = absurd (none_is_some h)

is_speed : (paces rates : List Text) (speed : Speed) → IsSpeed paces rates speed
    → (a b : Option ℕ) × NumberIs MAX_SLOT_MICROS paces a × NumberIs MAX_LINE_RATE rates b × (speed_from a b ≡ Some speed)
is_speed paces rates Untimed (p, r) = (None, None, p, r, refl)
is_speed paces rates (SlotMicros n) (p, r) = (Some n, None, p, r, refl)
is_speed paces rates (LineRate n) (p, r) = (None, Some n, p, r, refl)

given_speed : (pace rate : Option Text) (speed : Speed) → speed_given pace rate ≡ Some speed → IsSpeed (option_to_list pace) (option_to_list rate) speed
given_speed pace rate speed h =
    let a = then_some (λ micros. option_and_then (speed_from micros) (number_given MAX_LINE_RATE rate)) (number_given MAX_SLOT_MICROS pace) speed h in
    let b = then_some (speed_from a.0) (number_given MAX_LINE_RATE rate) speed a.2 in
    speed_is a.0 b.0 _ _ speed (number_is MAX_SLOT_MICROS pace a.0 a.1) (number_is MAX_LINE_RATE rate b.0 b.1) b.2

speed_reads : (pace rate : Option Text) (speed : Speed) → IsSpeed (option_to_list pace) (option_to_list rate) speed → speed_given pace rate ≡ Some speed
speed_reads pace rate speed is =
    let s = is_speed _ _ speed is in
    let first : number_given MAX_SLOT_MICROS pace ≡ Some s.0 = is_number MAX_SLOT_MICROS pace s.0 s.2 in
    let second : number_given MAX_LINE_RATE rate ≡ Some s.1 = is_number MAX_LINE_RATE rate s.1 s.3 in
    ap (option_and_then (λ micros. option_and_then (speed_from micros) (number_given MAX_LINE_RATE rate))) first
    ∙ (ap (option_and_then (speed_from s.0)) second ∙ s.4)

-- ---- the scheduler

named_word : (word : Text) (scheduler : SchedulerName) → scheduler_named word ≡ Some scheduler → word ≡ scheduler_word scheduler
named_word word scheduler h = elim (cases_Bool (bytes_eq word (codes "islip"))) [
  | inl e ↦ (bytes_eq-Decides word (codes "islip")).0 e ∙ ap scheduler_word (some_is (rw e at h))
  | inr e ↦ elim (cases_Bool (bytes_eq word (codes "firm"))) [
    | inl f ↦ (bytes_eq-Decides word (codes "firm")).0 f ∙ ap scheduler_word (some_is (rw (e, f) at h))
    | inr f ↦ elim (cases_Bool (bytes_eq word (codes "rrm"))) [
      | inl g ↦ (bytes_eq-Decides word (codes "rrm")).0 g ∙ ap scheduler_word (some_is (rw (e, f, g) at h))
      | inr g ↦ absurd (none_is_some (rw (e, f, g) at h))
    ]
  ]
]

word_named : (scheduler : SchedulerName) → scheduler_named (scheduler_word scheduler) ≡ Some scheduler
word_named name.Islip = refl
word_named name.Firm = refl
word_named name.Rrm = refl

pub given_scheduler : (o : Option Text) (scheduler : SchedulerName) → scheduler_given o ≡ Some scheduler → IsScheduler (option_to_list o) scheduler
given_scheduler None scheduler h = inr (refl, sym (some_is h))
given_scheduler (Some text) scheduler h = inl (ap (λ (t : Text). t ∷ []) (named_word text scheduler h))

pub scheduler_reads : (o : Option Text) (scheduler : SchedulerName) → IsScheduler (option_to_list o) scheduler → scheduler_given o ≡ Some scheduler
scheduler_reads None scheduler (inl h) = cc
scheduler_reads None scheduler (inr (none, is)) = ap (λ (s : SchedulerName). Some s) (sym is)
scheduler_reads (Some text) scheduler (inl h) =
    let same : text ≡ scheduler_word scheduler = cc in
    ap scheduler_named same ∙ word_named scheduler
scheduler_reads (Some text) scheduler (inr (none, is)) = cc

-- ---- the settings

-- the texts of an option's argument and of what was read
abbrev pub SayTexts : Parts → List Argument → Type 0
SayTexts parts arguments = (w : Switch) → given (id_of w) arguments ≡ texts_in parts w

pub settings_are : (long : Bool) (parts : Parts) (arguments : List Argument) (settings : Settings) → SayTexts parts arguments
    → settings_of long parts ≡ Some settings → AreSettings arguments settings × (long ≡ settings.long)
unfolding settings_of
settings_are long parts arguments settings say h =
    let a = then_some _ (number_given MAX_ROUNDS parts.rounds) settings h in
    let b = then_some _ (number_given (most_depth long) parts.depth) settings a.2 in
    let c = then_some _ (number_given MAX_WORKERS parts.workers) settings b.2 in
    let d = map_some _ (speed_given parts.pace_us parts.line_rate) settings c.2 in (
      subst (AreSettings arguments) d.2 (record {
        rounds = rw (say (value rounds)) (number_or 4 MAX_ROUNDS _ a.0 (number_is MAX_ROUNDS parts.rounds a.0 a.1));
        depth = rw (say (value depth)) (number_or (most_depth long) (most_depth long) _ b.0 (number_is (most_depth long) parts.depth b.0 b.1));
        workers = rw (say (value workers)) (number_or 4 MAX_WORKERS _ c.0 (number_is MAX_WORKERS parts.workers c.0 c.1));
        speed = rw (say (value pace_us), say (value line_rate)) (given_speed parts.pace_us parts.line_rate d.0 d.1);
      }),
      ap (λ (s : Settings). s.long) d.2,
    )

pub settings_read : (parts : Parts) (arguments : List Argument) (settings : Settings) → SayTexts parts arguments → AreSettings arguments settings
    → settings_of settings.long parts ≡ Some settings
unfolding settings_of
settings_read parts arguments settings say are =
    let a = or_number 4 MAX_ROUNDS (option_to_list parts.rounds) settings.rounds (rw (say (value rounds)) at are.rounds) in
    let most = most_depth settings.long in
    let b = or_number most most (option_to_list parts.depth) settings.depth (rw (say (value depth)) at are.depth) in
    let c = or_number 4 MAX_WORKERS (option_to_list parts.workers) settings.workers (rw (say (value workers)) at are.workers) in
    let s : speed_given parts.pace_us parts.line_rate ≡ Some settings.speed =
    speed_reads parts.pace_us parts.line_rate settings.speed (rw (say (value pace_us), say (value line_rate)) at are.speed) in
    rw (is_number MAX_ROUNDS parts.rounds a.0 a.1, is_number most parts.depth b.0 b.1, is_number MAX_WORKERS parts.workers c.0 c.1, s)
    (λ i. Some (record { rounds = a.2 i; depth = b.2 i; workers = c.2 i; speed = settings.speed; long = settings.long }))

-- ---- the captures

pub inputs_some : (names inputs : List Text) → inputs_in names ≡ Some inputs → (names ≡ inputs) × IsUpTo MAX_PORTS (length inputs)
inputs_some names inputs h = elim (cases_Bool (nat_le 1 (length names))) [
  | inl e ↦ elim (cases_Bool (nat_le (length names) MAX_PORTS)) [
    | inl f ↦
        let same : names ≡ inputs = some_is (rw (e, f) at h) in
        (same, subst (λ (t : List Text). IsUpTo MAX_PORTS (length t)) same (record { some = grind (arith, nat_tests); most = grind (arith, nat_tests) }))
    | inr f ↦ absurd (none_is_some (rw (e, f) at h))
  ]
  | inr e ↦ absurd (none_is_some (rw e at h))
]

pub inputs_there : (names : List Text) → IsUpTo MAX_PORTS (length names) → inputs_in names ≡ Some names
inputs_there names up =
    let e : nat_le 1 (length names) ≡ true = grind (arith, nat_tests, up.some) in
    let f : nat_le (length names) MAX_PORTS ≡ true = grind (arith, nat_tests, up.most) in
    rw (e, f) refl
