-- Slots of files whose rows name none but the ports, and what they leave.
use Rattle.std.proofs.Common.{◌≡◌, ℕ, ◌^◌, ◌<◌, ◌≤◌, ◌∙◌, List, length, map, All, sym, subst, inl, inr, false, arith, get_or, slice_index}
use Rattle.std.proofs.lemmas.Bool.{cases_lt}
use Rattle.std.proofs.lemmas.List.{get_or-map, get_or-replicate, get_or_past, length-map}
use Rattle.rotating_pick.specs.PortSets.{Has}
use Rattle.rotating_pick.specs.declared.kinds.Kind.TheVariants.{Uni, Multi}
use Rattle.rotating_pick.proofs.Bits.{Has-lt, no_member-zero}
use Rattle.slot_match.specs.declared.rows.Row.{Row}
use Rattle.slot_match.specs.Rows.{row_of, no_row, empty_row, IsWithin, IsOfLevels, AreWithin}
use Rattle.slot_match.specs.Matches.{IsMatch}
use Rattle.slot_match.proofs.Kept.{IsMatch-unmatched}
use Rattle.pointer_state.specs.Places.{AreAtPorts}
use Rattle.pointer_state.proofs.Moves.{AreAtPorts-at_first}
use Rattle.eslip_rounds.specs.Schedulers.{Scheduler, IsScheduler}
use Rattle.slot_histories.proofs.EventTests.{IsEmptyRow-empty}
use Rattle.slot_histories.proofs.SoundDecisions.{IsSoundDecision, IsSoundDecision-slot, ports-at_first}
use Rattle.journal_check.specs.declared.posts.FilePost.{FilePost}
use Rattle.journal_check.specs.Files.{FileSlot, rows_of}
use Rattle.journal_check.specs.Texts.{IsFileRow, IsFileSlot}
use Rattle.journal_check.specs.Lawful.{Before, at_first, decided_in, after_slot}

-- rows of n inputs that name none but the ports, at the four levels
pub record AreRows (n : ℕ) (rows : List Row) : Type 0 where
  pub within : (i : ℕ) → i < n → IsWithin n (row_of rows i)
  pub levels : (i : ℕ) → i < n → IsOfLevels (row_of rows i)

-- what a slot is judged by, of n ports
pub record IsGood (n : ℕ) (before : Before) : Type 0 where
  pub rows : AreRows n before.rows
  pub whole : IsMatch n before.matched
  pub at_ports : AreAtPorts before.places
  pub ports : before.places.ports ≡ n

set_fits : (n : ℕ) (xs : List ℕ) (level : ℕ) → All (λ set. set < 2 ^ n) xs → (j : ℕ) → Has (slice_index xs level) j → (j < n) × (level < length xs)
set_fits n xs level fits j has =
    elim (cases_lt level (length xs)) [
      | inl below ↦ (Has-lt n (slice_index xs level) j (fits level 0 below) has, below)
      | inr past ↦ absurd (no_member-zero j (subst (λ (set : ℕ). Has set j) (get_or_past xs level 0 past) has))
    ]

pub row_within : (n : ℕ) (row : Row) → IsFileRow n row → IsWithin n row
row_within n row good level j Uni has = (set_fits n row.uni level good.uni_within j has).0
row_within n row good level j Multi has = (set_fits n row.multi level good.multi_within j has).0

pub row_levels : (n : ℕ) (row : Row) → IsFileRow n row → IsOfLevels row
row_levels n row good level j Uni has = let p = (set_fits n row.uni level good.uni_within j has).1 in let len = good.uni_levels in omega arith
row_levels n row good level j Multi has = let p = (set_fits n row.multi level good.multi_within j has).1 in let len = good.multi_levels in omega arith

-- a post of nothing known
abbrev pub unknown_post : FilePost
unknown_post = record { row = no_row; more = false }

pub row_at : (posts : List FilePost) (i : ℕ) → i < length posts → row_of (map (λ post. post.row) posts) i ≡ (get_or posts i unknown_post).row
row_at posts i below = get_or-map (λ (post : FilePost). post.row) posts i unknown_post no_row below

pub file_within : (n : ℕ) (slot : FileSlot) → IsFileSlot n slot → AreWithin n (rows_of slot)
file_within n slot good = record {
  count = length-map slot.posts (λ (post : FilePost). post.row) ∙ good.cards;
  ports = λ i below.
      let cards = good.cards in
      subst (IsWithin n) (sym (row_at slot.posts i (omega arith)))
      (row_within n (get_or slot.posts i unknown_post).row (good.rows i unknown_post (omega arith)));
  levels = λ i below.
      let cards = good.cards in
      subst IsOfLevels (sym (row_at slot.posts i (omega arith))) (row_levels n (get_or slot.posts i unknown_post).row (good.rows i unknown_post (omega arith)));
}

pub file_rows : (n : ℕ) (slot : FileSlot) → IsFileSlot n slot → AreRows n (rows_of slot)
file_rows n slot good = let rows = file_within n slot good in record { within = rows.ports; levels = rows.levels }

empty_within : (n : ℕ) → IsWithin n empty_row
empty_within n level j kind has = absurd (IsEmptyRow-empty level j kind has)

empty_levels : IsOfLevels empty_row
empty_levels level j kind has = absurd (IsEmptyRow-empty level j kind has)

pub good_at_first : (n : ℕ) → 0 < n → n ≤ 64 → IsGood n (at_first n)
unfolding at_first
good_at_first n some few = record {
  rows = record {
    within = λ i below. subst (IsWithin n) (sym (get_or-replicate n i empty_row no_row below)) (empty_within n);
    levels = λ i below. subst IsOfLevels (sym (get_or-replicate n i empty_row no_row below)) empty_levels;
  };
  whole = IsMatch-unmatched n;
  at_ports = AreAtPorts-at_first n some few;
  ports = ports-at_first n;
}

module _ (scheduler : Scheduler) (scheduling : IsScheduler scheduler) where
  pub sound_slot : (n rounds t : ℕ) (before : Before) (slot : FileSlot) → IsGood n before → IsFileSlot n slot
      → IsSoundDecision n (decided_in scheduler n rounds t before slot)
  sound_slot n rounds t before slot good file =
      IsSoundDecision-slot n rounds t (rows_of slot) before.places (scheduler n rounds t (rows_of slot) before.places) good.at_ports good.ports
      (scheduling n rounds t (rows_of slot) before.places (file_within n slot file) good.at_ports good.ports)

  pub good_after : (n rounds t : ℕ) (before : Before) (slot : FileSlot) → IsGood n before → IsFileSlot n slot
      → slot.matched ≡ (decided_in scheduler n rounds t before slot).matched → IsGood n (after_slot scheduler n rounds t before slot)
  unfolding after_slot
  good_after n rounds t before slot good file decided =
      let sound = sound_slot n rounds t before slot good file in
      record {
        rows = file_rows n slot file;
        whole = subst (IsMatch n) (sym decided) sound.matches;
        at_ports = sound.at_ports;
        ports = sound.ports;
      }
