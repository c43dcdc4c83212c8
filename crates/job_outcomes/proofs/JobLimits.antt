-- The words that mean a job keep its limits.
use Rattle.std.proofs.Common.{◌≡◌, ◌≤◌, ℕ, Bool, true, false, List, length, None, Some, refl, sym, subst, arith, inl, inr}
use Rattle.std.specs.Prelude.{◌&&◌, nat_le, if◌then◌else◌}
use Rattle.std.proofs.lemmas.Bool.{leb-true}
use Rattle.switch_words.specs.declared.job.GenJob.{GenJob}
use Rattle.switch_words.specs.declared.job.Settings.{Settings}
use Rattle.switch_words.specs.declared.job.Speed.{Speed}
use Rattle.switch_words.specs.declared.job.Speed.TheVariants.{Untimed, SlotMicros, LineRate}
use Rattle.switch_words.specs.Limits.{AreWithinLimits, IsSpeed, IsUpTo, most_depth}
use Rattle.switch_words.specs.Numbers.{is_number, number_within, value_of}
use Rattle.switch_words.specs.Reading.{RunWords, FirmWords, run, gen, firm, reading_of}
use Rattle.word_grammar.specs.Grammar.{Argument, AreSettings, IsNumber, IsNumberOr, IsSpeed as IsSpeedGiven, Text}
use Rattle.word_grammar.proofs.Meanings.{sound}

-- ---- numbers
told_within : (written above below : Bool) (low high value n : ℕ) → nat_le low value ≡ above → nat_le value high ≡ below
    → (if written && (above && below) then Some value else None) ≡ Some n → (low ≤ n) × (n ≤ high)
told_within true true true low high value n above_at below_at is =
    let same : value ≡ n = cc in
    let least = leb-true low value above_at in
    let most = leb-true value high below_at in
    (omega arith, omega arith)
told_within true true false low high value n above_at below_at is = absurd (cc)
told_within true false below low high value n above_at below_at is = absurd (cc)
told_within false above below low high value n above_at below_at is = absurd (cc)

-- a number that a text writes within limits is within them
within : (low high n : ℕ) (text : List ℕ) → number_within low high text ≡ Some n → (low ≤ n) × (n ≤ high)
unfolding number_within
within low high n text is =
    told_within (is_number text) (nat_le low (value_of text)) (nat_le (value_of text) high) low high (value_of text) n refl refl is

up_to : (most n : ℕ) (texts : List Text) → IsNumber most texts n → IsUpTo most n
up_to most n texts is = let limits = within 1 most n is.0 is.2 in record { some = omega arith; most = limits.1 }

up_to_or : (standard most n : ℕ) (texts : List Text) → IsUpTo most standard → IsNumberOr standard most texts n → IsUpTo most n
up_to_or standard most n texts standard_is (inl is) = up_to most n texts is
up_to_or standard most n texts standard_is (inr is) = subst (IsUpTo most) (sym is.1) standard_is

-- ---- settings
depth_up_to : (long : Bool) → IsUpTo (most_depth long) (most_depth long)
depth_up_to true = record { some = omega arith; most = omega arith }
depth_up_to false = record { some = omega arith; most = omega arith }

speed_within : (speed : Speed) (paces rates : List Text) → IsSpeedGiven paces rates speed → IsSpeed speed
speed_within Untimed paces rates is = tt
speed_within (SlotMicros micros) paces rates is = up_to 1000000 micros paces is.0
speed_within (LineRate mbps) paces rates is = up_to 1600000 mbps rates is.1

settings_within : (arguments : List Argument) (settings : Settings) → AreSettings arguments settings → AreWithinLimits settings
settings_within arguments settings are = record {
  rounds = up_to_or 4 64 settings.rounds _ (record { some = omega arith; most = omega arith }) are.rounds;
  depth = up_to_or (most_depth settings.long) (most_depth settings.long) settings.depth _ (depth_up_to settings.long) are.depth;
  workers = up_to_or 4 32 settings.workers _ (record { some = omega arith; most = omega arith }) are.workers;
  speed = speed_within settings.speed _ _ are.speed;
}

-- ---- jobs
pub run_within : (words : List Text) (r : RunWords) → reading_of words ≡ Some (run r) → AreWithinLimits r.settings × IsUpTo 64 (length r.inputs)
run_within words r is =
    let job = sound words (run r) is in
    let parts = job.is in
    (settings_within job.arguments r.settings parts.1, parts.5)

pub firm_within : (words : List Text) (f : FirmWords) → reading_of words ≡ Some (firm f) → AreWithinLimits f.settings × IsUpTo 64 (length f.inputs)
firm_within words f is =
    let job = sound words (firm f) is in
    let parts = job.is in
    (settings_within job.arguments f.settings parts.1, parts.4)

-- what a `gen` job keeps to
pub record IsGenWithin (g : GenJob) : Type 0 where
  pub settings : AreWithinLimits g.settings
  pub ports : IsUpTo 64 g.ports
  pub count : g.count ≤ 4000

pub gen_within : (words : List Text) (g : GenJob) → reading_of words ≡ Some (gen g) → IsGenWithin g
gen_within words g is =
    let job = sound words (gen g) is in
    let parts = job.is in
    let numbers = parts.4 in
    let ports = within 1 64 g.ports numbers.2 numbers.6 in
    record {
      settings = settings_within job.arguments g.settings parts.1;
      ports = record { some = omega arith; most = ports.1 };
      count = (within 0 4000 g.count numbers.1 numbers.5).1;
    }
