-- What one more word makes of the walk of a parse.
use Rattle.std.proofs.Common.{◌≡◌, ◌∙◌, ◌&&◌, ap₂, Bool, true, false, List, [], ◌∷◌, Option, None, Some, is_some, refl, ℕ, codes}
use Rattle.std.specs.Prelude.{fold, slice_get}
use Rattle.std.specs.Str.{bytes_eq, chars}
use Rattle.std.proofs.lemmas.Slice.Eq.{bytes_eq-Decides}
use Rattle.clap.specs.Walk.{Held, Row, Rule, Text, Waiting, Walk, idle, option as awaits, positional, value as to_positional_step, arg_by_id}
use Rattle.clap.specs.Walk.{arg_by_index, arg_by_long, arg_by_short, is_pending, plain_word, settled, settled_rows, subcommand_met, used, walked}
use Rattle.clap.specs.Kinds.{Kinds, or_else}
use Rattle.clap.specs.Faults.{settle_fault, turn_fault, use_fault, walk_fault, flags_fault}
use Rattle.clap.specs.declared.error.kind.ErrorKind.TheVariants.{UnknownArgument, TooManyValues}
use Rattle.switch_words.specs.LineSteps.{lookup_in, parts_in}
use Rattle.switch_words.specs.Parts.{Parts}
use Rattle.switch_words.proofs.Rules.{flag_rule, names_rule, option_rule, shape_of}
use Rattle.switch_words.proofs.Lexing.{IsLong, IsPlain, IsShort}
use Rattle.switch_words.proofs.Unless.{unless, unless-or_else}

abbrev pub Pending : Type 0
Pending = Option (Text × List Text)

-- where a walk stands: at these rows and this pending argument, waiting for this
pub record Place : Type 0 where
  pub rows : List Row
  pub pending : Pending
  pub waiting : Waiting

abbrev pub place : List Row → Pending → Waiting → Place
place rows pending waiting = record { rows = rows; pending = pending; waiting = waiting }

abbrev pub held_at : Place → Held
held_at at = record { rows = at.rows; pending = at.pending; skip = 0 }

abbrev pub walk_at : Place → Bool → Walk
walk_at at trailing = record { held = held_at at; waiting = at.waiting; position = 1; is_trailing = trailing; stopped = None }

-- the kinds of error, and the rows, where the pending argument is used
abbrev pub settles : List Rule → Place → Kinds
settles c at = settle_fault c false (held_at at)

abbrev pub after : List Rule → Place → List Row
after c at = settled_rows c at.pending at.rows

-- with a name pending
abbrev pub name_at : List Row → Text → Place
name_at rows word = place rows (Some (codes "names", word ∷ [])) positional

-- an option that waits for its value
abbrev pub wait_at : List Row → Text → Place
wait_at rows id = place rows (Some (id, [])) (awaits id)

-- with nothing pending
abbrev pub idle_at : List Row → Place
idle_at rows = place rows None idle

-- the parts where the words end
abbrev pub ended : List Rule → Held → Option Parts
ended c h = unless (settle_fault c false h) (Some (parts_in (lookup_in (settled c h).rows)))

abbrev pub outcome : List Rule → Walk → List Text → Option Parts
outcome c w words = unless (walk_fault (shape_of c) [] w words) (ended c (fold (walked c []) w words).held)

pub outcome-end : (c : List Rule) (w : Walk) → outcome c w [] ≡ ended c w.held
unfolding walk_fault
outcome-end c w = refl

outcome-step : (c : List Rule) (w : Walk) (word : Text) (rest : List Text)
    → outcome c w (word ∷ rest) ≡ unless (turn_fault (shape_of c) [] w word) (outcome c (walked c [] w word) rest)
unfolding walk_fault
outcome-step c w word rest = unless-or_else (turn_fault (shape_of c) [] w word) (walk_fault (shape_of c) [] (walked c [] w word) rest)
    (ended c (fold (walked c []) (walked c [] w word) rest).held)

step-by : (c : List Rule) (w next : Walk) (word : Text) (rest : List Text) (kinds : Kinds) → turn_fault (shape_of c) [] w word ≡ kinds
    → walked c [] w word ≡ next → outcome c w (word ∷ rest) ≡ unless kinds (outcome c next rest)
step-by c w next word rest kinds turn walk =
    outcome-step c w word rest ∙ ap₂ (λ (k : Kinds) (v : Walk). unless k (outcome c v rest)) turn walk

refuse-by : (c : List Rule) (w : Walk) (word : Text) (rest : List Text) → turn_fault (shape_of c) [] w word ≡ UnknownArgument ∷ []
    → outcome c w (word ∷ rest) ≡ None
refuse-by c w word rest turn = step-by c w (walked c [] w word) word rest (UnknownArgument ∷ []) turn refl

no_sub : (waiting : Waiting) (word : Text) → subcommand_met [] waiting word ≡ None
no_sub idle word = refl
no_sub (awaits id) word = refl
no_sub positional word = refl

and_false : (b : Bool) → (b && false) ≡ false
and_false true = refl
and_false false = refl

or_twice : {A : Type 0} (a b : Kinds) (o : Option A) → unless (or_else (or_else a b) []) o ≡ unless a (unless b o)
or_twice [] [] o = refl
or_twice [] (x ∷ xs) o = refl
or_twice (x ∷ xs) b o = refl

pub or_once : {A : Type 0} (a : Kinds) (o : Option A) → unless (or_else a []) o ≡ unless a o
or_once [] o = refl
or_once (x ∷ xs) o = refl

-- nothing but a positional takes a word that is no flag
abbrev pub IsOpen : Waiting → Type 0
IsOpen waiting = (c : List Rule) (word : Text) (h : Held) → plain_word c waiting word h ≡ (h, to_positional_step)

pub idle_open : IsOpen idle
idle_open c word h = refl

pub positional_open : IsOpen positional
positional_open c word h = refl

-- ---- `--`

pub out-closing : (c : List Rule) (at : Place) (word : Text) (rest : List Text) → bytes_eq word (45 ∷ 45 ∷ []) ≡ true
    → outcome c (walk_at at false) (word ∷ rest) ≡ outcome c (walk_at at true) rest
unfolding walked
out-closing c at word rest e =
    step-by c (walk_at at false) (walk_at at true) word rest [] (rw (no_sub at.waiting word, e) refl) (rw (no_sub at.waiting word, e) refl)

-- ---- a name

pub out-trailing : (c : List Rule) (at : Place) (word : Text) (rest : List Text) → arg_by_index c 1 ≡ Some names_rule
    → outcome c (walk_at at true) (word ∷ rest) ≡ unless (settles c at) (outcome c (walk_at (name_at (after c at) word) true) rest)
unfolding walked
out-trailing c at word rest found =
    step-by c (walk_at at true) (walk_at (name_at (after c at) word) true) word rest (settles c at)
    (rw (found, and_false (is_pending names_rule at.pending)) refl) (rw (found, and_false (is_pending names_rule at.pending)) refl)

pub out-plain : (c : List Rule) (at : Place) (word : Text) (rest : List Text) → arg_by_index c 1 ≡ Some names_rule → IsOpen at.waiting → IsPlain word
    → outcome c (walk_at at false) (word ∷ rest) ≡ unless (settles c at) (outcome c (walk_at (name_at (after c at) word) false) rest)
unfolding walked
out-plain c at word rest found is_open is =
    let opens = is_open c word (held_at at) in
    let never = and_false (is_pending names_rule at.pending) in
    step-by c (walk_at at false) (walk_at (name_at (after c at) word) false) word rest (settles c at)
    (rw (no_sub at.waiting word, is.goes_on, is.no_long, is.no_short, opens, found, never) refl)
    (rw (no_sub at.waiting word, is.goes_on, is.no_long, is.no_short, opens, found, never) refl)

-- ---- an option

pub out-unknown : (c : List Rule) (at : Place) (word : Text) (rest : List Text) (name : Text) (v : Option Text) → IsLong word name v
    → arg_by_long c name ≡ None → outcome c (walk_at at false) (word ∷ rest) ≡ None
out-unknown c at word rest name v is found =
    refuse-by c (walk_at at false) word rest (rw (no_sub at.waiting word, is.goes_on, is.long, found) refl)

pub out-value : (c : List Rule) (at : Place) (word : Text) (rest : List Text) (name v id : Text) → IsLong word name (Some v)
    → arg_by_long c name ≡ Some (option_rule id)
    → outcome c (walk_at at false) (word ∷ rest)
    ≡ unless (settles c at) (unless (use_fault false (option_rule id) (v ∷ []) (after c at))
    (outcome c (walk_at (idle_at (used (option_rule id) (v ∷ []) (after c at))) false) rest))
unfolding walked
out-value c at word rest name v id is found =
    step-by c (walk_at at false) (walk_at (idle_at (used (option_rule id) (v ∷ []) (after c at))) false) word rest
    (or_else (or_else (settles c at) (use_fault false (option_rule id) (v ∷ []) (after c at))) [])
    (rw (no_sub at.waiting word, is.goes_on, is.long, found) refl) (rw (no_sub at.waiting word, is.goes_on, is.long, found) refl)
    ∙ or_twice (settles c at) (use_fault false (option_rule id) (v ∷ []) (after c at)) _

pub out-wait : (c : List Rule) (at : Place) (word : Text) (rest : List Text) (name id : Text) → IsLong word name None
    → arg_by_long c name ≡ Some (option_rule id)
    → outcome c (walk_at at false) (word ∷ rest) ≡ unless (settles c at) (outcome c (walk_at (wait_at (after c at) id) false) rest)
unfolding walked
out-wait c at word rest name id is found =
    step-by c (walk_at at false) (walk_at (wait_at (after c at) id) false) word rest (or_else (settles c at) [])
    (rw (no_sub at.waiting word, is.goes_on, is.long, found) refl) (rw (no_sub at.waiting word, is.goes_on, is.long, found) refl)
    ∙ or_once (settles c at) _

pub out-flag : (c : List Rule) (at : Place) (word : Text) (rest : List Text) (name id : Text) → IsLong word name None
    → arg_by_long c name ≡ Some (flag_rule id)
    → outcome c (walk_at at false) (word ∷ rest)
    ≡ unless (settles c at) (unless (use_fault false (flag_rule id) [] (after c at))
    (outcome c (walk_at (idle_at (used (flag_rule id) [] (after c at))) false) rest))
unfolding walked
out-flag c at word rest name id is found =
    step-by c (walk_at at false) (walk_at (idle_at (used (flag_rule id) [] (after c at))) false) word rest
    (or_else (or_else (settles c at) (use_fault false (flag_rule id) [] (after c at))) [])
    (rw (no_sub at.waiting word, is.goes_on, is.long, found) refl) (rw (no_sub at.waiting word, is.goes_on, is.long, found) refl)
    ∙ or_twice (settles c at) (use_fault false (flag_rule id) [] (after c at)) _

pub out-flag_value : (c : List Rule) (at : Place) (word : Text) (rest : List Text) (name v id : Text) → IsLong word name (Some v)
    → arg_by_long c name ≡ Some (flag_rule id) → outcome c (walk_at at false) (word ∷ rest) ≡ None
out-flag_value c at word rest name v id is found =
    step-by c (walk_at at false) (walked c [] (walk_at at false) word) word rest (TooManyValues ∷ [])
    (rw (no_sub at.waiting word, is.goes_on, is.long, found) refl) refl

-- ---- one dash

some_is : {A : Type 0} (o : Option A) → is_some o ≡ true → (x : A) × (o ≡ Some x)
some_is None h = cc
some_is (Some x) h = (x, refl)

pub out-short : (c : List Rule) (at : Place) (word : Text) (rest : List Text) (b : ℕ) (flags : Text) → IsShort word b flags
    → is_some (slice_get (chars (b ∷ flags)) 0) ≡ true → ((x : ℕ) → arg_by_short c x ≡ None) → outcome c (walk_at at false) (word ∷ rest) ≡ None
unfolding flags_fault
out-short c at word rest b flags is char none =
    let x = some_is (slice_get (chars (b ∷ flags)) 0) char in
    refuse-by c (walk_at at false) word rest (rw (no_sub at.waiting word, is.goes_on, is.no_long, is.short, x.1, none x.0) refl)

-- ---- the value of an option in the next word

pub out-given : (c : List Rule) (rows : List Row) (word : Text) (rest : List Text) (id : Text) → arg_by_id c id ≡ Some (option_rule id) → IsPlain word
    → outcome c (walk_at (wait_at rows id) false) (word ∷ rest) ≡ outcome c (walk_at (place rows (Some (id, word ∷ [])) idle) false) rest
unfolding walked
out-given c rows word rest id found is =
    let same : bytes_eq id id ≡ true = (bytes_eq-Decides id id).1 refl in
    step-by c (walk_at (wait_at rows id) false) (walk_at (place rows (Some (id, word ∷ [])) idle) false) word rest []
    (rw (is.goes_on, is.no_long, is.no_short) refl) (rw (is.goes_on, is.no_long, is.no_short, found, same) refl)
