-- What the tests of sets and rows tell.
use Rattle.std.proofs.Common.{◌≡◌, ◌∙◌, ℕ, zero, suc, ◌+◌, ◌-◌, ◌^◌, ◌<◌, ◌==◌, ◌&&◌, not, nat_lt, Bool, true, List, [], ◌∷◌, drop, slice_index, refl}
use Rattle.std.proofs.Common.{sym, ap, subst, arith, inl, inr}
use Rattle.std.specs.Bool.{Decides}
use Rattle.std.specs.Int.{bit_at}
use Rattle.std.specs.List.{list_all}
use Rattle.std.proofs.lemmas.List.{get_or-drop}
use Rattle.std.proofs.lemmas.Bool.{cases_lt, and_parts, and_from}
use Rattle.std.proofs.lemmas.Bool.Decides.{Decides-eqb, Decides-ltb, Decides-like, Decides-and, Decides-not}
use Rattle.rotating_pick.specs.PortSets.{Has}
use Rattle.rotating_pick.specs.declared.kinds.Kind.{Kind}
use Rattle.rotating_pick.specs.declared.kinds.Kind.TheVariants.{Uni, Multi}
use Rattle.rotating_pick.specs.declared.limits.TheConstants.{LEVELS}
use Rattle.rotating_pick.proofs.Bits.{Has-lt, no_member-zero, zero-no_members, IsAmong-from_members}
use Rattle.slot_match.specs.declared.rows.Row.{Row}
use Rattle.slot_match.specs.Rows.{Names, sets_of, IsWithin, IsOfLevels, IsEmptyRow}
use Rattle.slot_match.specs.Parts.{set_of}
use Rattle.slot_match.proofs.Sets.{Has-set_of, Has-or, zero-has}
use Rattle.slot_histories.specs.Tests.{has, all_sets, is_within, is_empty, is_of_levels, is_subset}

pub Decides-has : (ports j : ℕ) → Decides (has ports j) (Has ports j)
Decides-has ports j = Decides-eqb (bit_at ports j) 1

-- a number is below 2 ^ n where, as a set, it has none but the n ports
pub Decides-below : (n ports : ℕ) → Decides (nat_lt ports (2 ^ n)) ((j : ℕ) → Has ports j → j < n)
Decides-below n ports = Decides-like (nat_lt ports (2 ^ n)) (λ among j member. Has-lt n ports j among member) (IsAmong-from_members n ports)
    (Decides-ltb ports (2 ^ n))

pub Decides-no_members : (ports : ℕ) → Decides (ports == 0) ((j : ℕ) → Has ports j → ⊥)
Decides-no_members ports = Decides-like (ports == 0) (λ e j member. zero-has ports j e member) (zero-no_members ports) (Decides-eqb ports 0)

-- a test of each set of a list is one of the sets of all levels, where the empty set passes
each_from : (test : ℕ → Bool) (P : ℕ → Type 0) → ((ports : ℕ) → Decides (test ports) (P ports)) → (ports : ℕ) (sets : List ℕ)
    → ((level : ℕ) → P (slice_index sets level)) → test ports ≡ true → (level : ℕ) → P (slice_index (ports ∷ sets) level)
each_from test P tells ports sets rest first zero = (tells ports).0 first
each_from test P tells ports sets rest first (suc level) = rest level

Decides-each_set : (test : ℕ → Bool) (P : ℕ → Type 0) → ((ports : ℕ) → Decides (test ports) (P ports)) → P 0 → (sets : List ℕ)
    → Decides (list_all test sets) ((level : ℕ) → P (slice_index sets level))
Decides-each_set test P tells none [] = (λ e level. none, λ all. refl)
Decides-each_set test P tells none (ports ∷ sets) =
    let rest = Decides-each_set test P tells none sets in (
      λ e. let parts = and_parts (test ports) (list_all test sets) e in each_from test P tells ports sets (rest.0 parts.1) parts.0,
      λ all. and_from (test ports) (list_all test sets) ((tells ports).1 (all 0)) (rest.1 (λ level. all (suc level))),
    )

by_kind : (row : Row) (P : ℕ → Type 0) → ((level : ℕ) → P (slice_index row.uni level)) → ((level : ℕ) → P (slice_index row.multi level))
    → (level : ℕ) (kind : Kind) → P (slice_index (sets_of row kind) level)
by_kind row P unis multis level Uni = unis level
by_kind row P unis multis level Multi = multis level

Decides-all_sets : (test : ℕ → Bool) (P : ℕ → Type 0) → ((ports : ℕ) → Decides (test ports) (P ports)) → P 0 → (row : Row)
    → Decides (all_sets test row) ((level : ℕ) (kind : Kind) → P (slice_index (sets_of row kind) level))
Decides-all_sets test P tells none row =
    Decides-like (all_sets test row) (λ both. by_kind row P both.0 both.1) (λ all. (λ level. all level Uni, λ level. all level Multi))
    (Decides-and (list_all test row.uni) (list_all test row.multi) (Decides-each_set test P tells none row.uni) (Decides-each_set test P tells none row.multi))

pub Decides-is_within : (n : ℕ) (row : Row) → Decides (is_within n row) (IsWithin n row)
unfolding is_within
Decides-is_within n row =
    let P : ℕ → Type 0 = λ ports. (j : ℕ) → Has ports j → j < n in
    Decides-like (all_sets (λ ports. nat_lt ports (2 ^ n)) row) (λ all level j kind. all level kind j) (λ within level kind j. within level j kind)
    (Decides-all_sets (λ ports. nat_lt ports (2 ^ n)) P (Decides-below n) (λ j member. absurd (no_member-zero j member)) row)

pub Decides-is_empty : (row : Row) → Decides (is_empty row) (IsEmptyRow row)
unfolding is_empty
Decides-is_empty row =
    let P : ℕ → Type 0 = λ ports. (j : ℕ) → Has ports j → ⊥ in
    Decides-like (all_sets (λ ports. ports == 0) row) (λ all level j kind. all level kind j) (λ none level kind j. none level j kind)
    (Decides-all_sets (λ ports. ports == 0) P Decides-no_members no_member-zero row)

-- a row without its first sets of each kind
abbrev without_first : ℕ → Row → Row
without_first k row = record { uni = drop k row.uni; multi = drop k row.multi }

sets_of-without : (k : ℕ) (row : Row) (level : ℕ) (kind : Kind)
    → slice_index (sets_of (without_first k row) kind) level ≡ slice_index (sets_of row kind) (k + level)
sets_of-without k row level Uni = get_or-drop k row.uni level 0
sets_of-without k row level Multi = get_or-drop k row.multi level 0

levels_from : (k : ℕ) (row : Row) → IsEmptyRow (without_first k row) → (level j : ℕ) (kind : Kind) → Names row level kind j → level < k
levels_from k row none level j kind named =
    elim (cases_lt level k) [
      | inl below ↦ below
      | inr above ↦
          let there : k + (level - k) ≡ level = omega arith in
          let same = sets_of-without k row (level - k) kind ∙ ap (slice_index (sets_of row kind)) there in
          absurd (none (level - k) j kind (subst (λ ports. Has ports j) (sym same) named))
    ]

none_from_levels : (k : ℕ) (row : Row) → ((level j : ℕ) (kind : Kind) → Names row level kind j → level < k) → IsEmptyRow (without_first k row)
none_from_levels k row levels level j kind named =
    let below = levels (k + level) j kind (subst (λ ports. Has ports j) (sets_of-without k row level kind) named) in
    omega arith

pub Decides-is_of_levels : (row : Row) → Decides (is_of_levels row) (IsOfLevels row)
unfolding is_of_levels
Decides-is_of_levels row =
    Decides-like (is_empty (without_first LEVELS row)) (levels_from LEVELS row) (none_from_levels LEVELS row) (Decides-is_empty (without_first LEVELS row))

-- ---- tests of each port below n
-- a set of those that pass is empty where none passes
pub set_of-none : (n : ℕ) (test : ℕ → Bool) → Decides (set_of n test == 0) ((j : ℕ) → j < n → test j ≡ true → ⊥)
set_of-none n test =
    Decides-like (set_of n test == 0) (λ none j inside passes. none j ((Has-set_of n test j).1 (inside, passes)))
    (λ none j member. let m = (Has-set_of n test j).0 member in none j m.0 m.1) (Decides-no_members (set_of n test))

pub Decides-is_subset : (n inner outer : ℕ) → ((j : ℕ) → Has inner j → j < n) → Decides (is_subset n inner outer) ((j : ℕ) → Has inner j → Has outer j)
unfolding is_subset
Decides-is_subset n inner outer within =
    let tells : (j : ℕ) → Decides (has inner j && not (has outer j)) (Has inner j × (Has outer j → ⊥)) =
    λ j. Decides-and (has inner j) (not (has outer j)) (Decides-has inner j) (Decides-not (has outer j) (Decides-has outer j)) in
    Decides-like (is_subset n inner outer)
    (λ none j member. elim (Has-or outer j) [ inl stands ↦ stands | inr not_there ↦ absurd (none j (within j member) ((tells j).1 (member, not_there))) ])
    (λ all j inside lost. let parts = (tells j).0 lost in parts.1 (all j parts.0))
    (set_of-none n (λ j. has inner j && not (has outer j)))
